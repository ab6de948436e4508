-- The records are the slice's, so the key found is theirs.
use Rattle.classes.specs.Chunks.{fields_cut, fields_key, found_in, methods_cut, methods_key, rise_in}
use Rattle.classes.specs.Keys.{count_of, size_of}
use Rattle.classes.specs.Tables.{keys_rise}
use Rattle.classes.specs.declared.Members.TheVariants.{Fields, Methods}
use mathlib.Core.Path.{sym}
use native.Mathlib.Omega.{arith}
use Rattle.classes.proofs.own.Goals as goal

pub find-requires : goal.find-requires
unfolding count_of size_of
find-requires c =
    let g = c.args.image.now.good in
    let n = fields_cut _ _ g in
    let a = c.as_chunks.ensures in
    (omega arith, (omega arith, rise_in 3 _ _ _ _ (omega arith) (rw n at a.front) (rw n at a.front_len) (fields_key _ _ g) (keys_rise _ _ g Fields _ (sym g.lay.field_count_lem))))

pub returns-in-Fields : goal.returns-in-Fields
unfolding count_of size_of
returns-in-Fields c =
    let g = c.args.image.now.good in
    let n = fields_cut _ _ g in
    let a = c.as_chunks.ensures in
    rw (c.in-Fields.is, ← c.key-wanted.ensures)
    (found_in 3 _ _ _ _ (omega arith) (rw n at a.front) (rw n at a.front_len) (fields_key _ _ g) _ _ c.find.ensures)

pub find-requires-in-Methods : goal.find-requires-in-Methods
unfolding count_of size_of
find-requires-in-Methods c =
    let g = c.args.image.now.good in
    let n = methods_cut _ _ g in
    let a = c.as_chunks-in-Methods.ensures in
    (omega arith, (omega arith, rise_in 6 _ _ _ _ (omega arith) (rw n at a.front) (rw n at a.front_len) (methods_key _ _ g) (keys_rise _ _ g Methods _ (sym g.lay.method_count_lem))))

pub returns-in-Methods : goal.returns-in-Methods
unfolding count_of size_of
returns-in-Methods c =
    let g = c.args.image.now.good in
    let n = methods_cut _ _ g in
    let a = c.as_chunks-in-Methods.ensures in
    rw (c.in-Methods.is, ← c.key-wanted.ensures)
    (found_in 6 _ _ _ _ (omega arith) (rw n at a.front) (rw n at a.front_len) (methods_key _ _ g) _ _ c.find-in-Methods.ensures)
