-- A body starts with `this` and the parameters.
use Prim.Native.Nat.{◌<◌}
use Rattle.image.specs.Records.{method_word}
use Rattle.image.specs.Trailer.{class_count}
use Rattle.node_rules.specs.EnvLaws.{ok_set}
use Rattle.node_types.specs.ListLaws.{same_at}
use Rattle.node_rules.specs.RuleLaws.{method_arguments, method_class}
use Rattle.rules.specs.Program.{program}
use Rattle.std.proofs.lemmas.Result.{err_from_is_err_and}
use Rattle.typing.specs.Untyped.{body_node_holds, body_within, method_env_lem, method_holds_lem, method_typing_lem, within_bad, within_no, within_yes, untyped_ok}
use Rattle.words.specs.Types.{type_of}
use borrow.Author.Tests.{lt-ltb}
use mathlib.Core.Path.{◌∙◌, sym}
use Rattle.typing.proofs.type_method.Goals as goal

pub declare-requires : goal.declare-requires
declare-requires c =
    let m = method_arguments _ _ (method_holds_lem _ _ c.args.image.now.good c.args.i c.requires) in (
      untyped_ok _,
      same_at _ 64,
      rw (c.method_word-first.ensures, c.method_word-count.ensures, c.args.image.now.good.lay.type_count_lem) m.1,
      rw c.method_word-count.ensures m.0,
    )

pub type_node-requires : goal.type_node-requires
type_node-requires c =
    let k : c.method_word.result < class_count c.args.image.now.words.now = rw c.method_word.ensures (method_class _ _ (method_holds_lem _ _ c.args.image.now.good c.args.i c.requires)) in
    (ok_set _ _ _ _ c.declare.ensures.0 (lt-ltb _ _ k), rw c.method_word-n.ensures (body_within _ _ c.args.image.now.good c.args.i c.requires))

pub returns-in_err-t : goal.returns-in_err-t
returns-in_err-t c =
    let p = err_from_is_err_and c.from_residual.result c.from_residual.ensures.1 in
    let e = method_env_lem _ _ _ c.declare.ensures.0.size (rw (c.method_word-first.ensures, c.method_word-count.ensures) at c.declare.ensures.1) in
    rw (p.1, p.2)
    (within_bad (program c.args.image.now.words.now) c.method_word-n.result (type_of (method_word c.args.image.now.words.now c.args.i 2)) c.in_err-t.field-0.0 ∙ rw (c.in_err-t.ensures.0.says, c.method_word.ensures, c.method_word-n.ensures) (method_typing_lem _ _ _ (body_node_holds _ _ c.args.image.now.good c.args.i c.requires) e))

pub is_subtype-requires : goal.is_subtype-requires
is_subtype-requires c = c.in_ok-t.ensures.0.known

pub returns-then-is_subtype : goal.returns-then-is_subtype
returns-then-is_subtype c =
    let e = method_env_lem _ _ _ c.declare.ensures.0.size (rw (c.method_word-first.ensures, c.method_word-count.ensures) at c.declare.ensures.1) in
    within_yes _ c.method_word-n.result _ _ (sym c.is_subtype.ensures ∙ c.if-is_subtype.true)
    ∙ rw (c.in_ok-t.ensures.0.says, c.method_word.ensures, c.method_word-n.ensures, c.type_of-u.ensures, c.method_word-2.ensures) (method_typing_lem _ _ _ (body_node_holds _ _ c.args.image.now.good c.args.i c.requires) e)

pub returns-else-is_subtype : goal.returns-else-is_subtype
returns-else-is_subtype c =
    let e = method_env_lem _ _ _ c.declare.ensures.0.size (rw (c.method_word-first.ensures, c.method_word-count.ensures) at c.declare.ensures.1) in
    within_no _ c.method_word-n.result _ _ (sym c.is_subtype.ensures ∙ c.if-is_subtype.false)
    ∙ rw (c.in_ok-t.ensures.0.says, c.method_word.ensures, c.method_word-n.ensures, c.type_of-u.ensures, c.method_word-2.ensures) (method_typing_lem _ _ _ (body_node_holds _ _ c.args.image.now.good c.args.i c.requires) e)
