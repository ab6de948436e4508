-- On the way up, the class reached sees what c sees.
use Rattle.classes.specs.Tables.{carry, here, nowhere, same_trans, upwards}
use Rattle.classes.specs.Types.{super_below}
use Rattle.std.specs.declared.option.Option.TheVariants.{Some, None}
use native.Mathlib.Omega.{arith}
use Rattle.classes.proofs.look_up.Goals as goal

pub returns-in-Some : goal.returns-in-Some
returns-in-Some c =
    let i = c.up.invariant in
    let o = c.in-Some.ensures in
    carry c.args.image.now.words.now c.args.m c.up.at c.args.c c.args.name (Some _) i.1
    (here _ _ c.args.image.now.good c.args.m c.up.at c.args.name _ i.0 c.requires.1 o.0 o.1)

pub returns-then-at-eq0 : goal.returns-then-at-eq0
returns-then-at-eq0 c =
    let i = c.up.invariant in
    carry c.args.image.now.words.now c.args.m c.up.at c.args.c c.args.name None i.1
    (nowhere _ _ c.args.image.now.good c.args.m c.up.at c.args.name c.if-at-eq0.true c.in_default.ensures)

pub up-smaller : goal.up-smaller
up-smaller c =
    rw c.class_word-at.ensures (super_below _ _ c.args.image.now.good _ c.up.invariant.0 (omega arith))

pub up-preserved : goal.up-preserved
up-preserved c =
    let i = c.up.invariant in
    let b = super_below _ _ c.args.image.now.good _ i.0 (omega arith) in
    rw c.class_word-at.ensures (
      omega arith,
      same_trans c.args.image.now.words.now c.args.m _ c.up.at c.args.c c.args.name
          (upwards _ _ c.args.image.now.good c.args.m c.up.at c.args.name i.0 c.if-at-eq0.false c.in_default.ensures)
          i.1,
    )
