-- A node's typing comes back to its operands, whose numbers are lower.
use Rattle.node_rules.specs.Env.{operand_env, operand_typing}
use Rattle.node_rules.specs.EnvLaws.{given_back, node_holds_lem, ok_set, operand_known}
use Rattle.node_types.specs.Bound.{free_env}
use Rattle.node_types.specs.ListLaws.{have_voids, list_bad, list_end, list_on, list_start, type_node as node-typing}
use Rattle.std.specs.Prelude.{Some}
use mathlib.Core.Path.{◌∙◌, refl}
use native.Mathlib.Omega.{arith}
use Rattle.typing.proofs.+type_list_type_node_type_operand.Goals as goal

pub type_list-loop-i-init : goal.type_list-loop-i-init
type_list-loop-i-init t c = (refl, list_start _ _ _ _ refl (have_voids _))

pub type_list-returns-in-Err : goal.type_list-returns-in-Err
type_list-returns-in-Err t c =
    let h = node_holds_lem _ _ c.args.image.now.good c.args.n c.requires.1 in
    let l = rw c.operand_total-count.ensures.0 at c.loop-i-test.true in
    let s = rw (c.operand_total-count.ensures.0, c.loop-i.invariant.0) at c.in-Err.ensures.0.says in (
      record { says = list_bad _ _ _ h c.requires.0 _ _ c.loop-i.invariant.1 l _ s; known = tt },
      c.type_operand.ensures.1 ∙ c.loop-i.invariant.0,
    )

pub type_list-loop-i-preserved : goal.type_list-loop-i-preserved
type_list-loop-i-preserved t c =
    let h = node_holds_lem _ _ c.args.image.now.good c.args.n c.requires.1 in
    let l = rw c.operand_total-count.ensures.0 at c.loop-i-test.true in
    let s = rw (c.operand_total-count.ensures.0, c.loop-i.invariant.0) at c.in-Ok.ensures.0.says in (
      c.type_operand.ensures.1 ∙ c.loop-i.invariant.0,
      list_on _ _ _ h c.requires.0 _ _ c.loop-i.invariant.1 l _ s (omega arith) c.in-Ok.ensures.0.known,
    )

pub type_list-returns : goal.type_list-returns
type_list-returns t c = (
  record { says = list_end _ _ _ _ c.loop-i.i c.loop-i.invariant.1 (omega arith); known = c.loop-i.invariant.1.known },
  c.loop-i.invariant.0,
)

pub type_node-returns : goal.type_node-returns
type_node-returns t c =
    let h = node_holds_lem _ _ c.args.image.now.good c.args.n c.requires.1 in
    let s = c.type_list-types.ensures in
    (rw (s.1, s.0.says, node-typing _ _ _ h c.requires.0) at c.finish.ensures, s.1)

pub type_operand-type_node-r-requires : goal.type_operand-type_node-r-requires
type_operand-type_node-r-requires t c =
    let b = c.in-Some.ensures in
    let h = node_holds_lem _ _ c.args.image.now.good c.args.n c.requires.1 in (
      omega (arith, c.operand_place-m.ensures.1),
      (
        rw c.replace-old.ensures.after (ok_set _ _ _ _ c.requires.0 (rw b.1 (operand_known _ _ h _ c.requires.0))),
        omega (arith, c.operand_place-m.ensures.1, c.requires.1),
      ),
    )

pub type_operand-returns-in-None : goal.type_operand-returns-in-None
unfolding operand_typing
type_operand-returns-in-None t c = (
  rw (free_env _ _ _ _ c.requires.0 c.in-None.ensures, ← c.operand_place-m.ensures.0) c.type_node.ensures.0,
  c.type_node.ensures.1,
)

pub type_operand-returns-in-Some : goal.type_operand-returns-in-Some
unfolding operand_typing operand_env
type_operand-returns-in-Some t c =
    let b = c.in-Some.ensures in (
      rw (c.operand_place-m.ensures.0, c.replace-old.ensures.after, b.0, b.1) at c.type_node-r.ensures.0,
      given_back c.args.env.now _ _ _ _ (Some c.in-Some.b.ty) _ refl c.type_node-r.ensures.1 (rw c.replace-old.ensures.after) c.replace-old.ensures.value,
    )
