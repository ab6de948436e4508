-- `enter_leaps::enters::with_quick` meets its contract.
use Rattle.pushes.specs.EnterLaws.{not_first, while_operand}
use Rattle.enter_leaps.specs.EnterLaps.{quickly_whole}
use Rattle.quick.specs.KnownLaws.{known_valued}
use mathlib.Core.Path.{◌∙◌}
use native.Mathlib.Omega.{arith}
use Rattle.enter_leaps.proofs.enters.with_quick.Goals as goal

pub assign-requires : goal.assign-requires
assign-requires c = let p = c.requires in (p.0, p.1, p.2, p.3 ∙ c.in-6.is, known_valued _ p.0.holds _ _ _ _ _ c.nested-q.ensures)

pub branch-ws-requires : goal.branch-ws-requires
branch-ws-requires c = let p = c.requires in (p.0, p.1, p.2, p.3 ∙ c.in-12.is, c.asked-m.ensures.branch c.in-12.is, known_valued _ p.0.holds _ _ _ _ _ c.nested-q.ensures)

pub repeat-requires : goal.repeat-requires
repeat-requires c = let p = c.requires in (not_first _ _ (p.0.holds _ p.1) (omega (arith, while_operand _ _ (p.3 ∙ c.in-13.is))), p.2, known_valued _ p.0.holds _ _ _ _ _ c.nested-q.ensures)

pub whole-requires : goal.whole-requires
whole-requires c = let p = c.requires in let r = c.in_default.in_default-own.rest in (p.0, p.1, p.2, p.3, quickly_whole _ p.4 r.0.0.1 r.0.1 r.1)

pub returns-in-6 : goal.returns-in-6
returns-in-6 c = let p = c.requires in c.assign.ensures _ (rw (c.asked-m.ensures.assign c.in-6.is) at c.nested-q.ensures)

pub returns-in-12 : goal.returns-in-12
returns-in-12 c = let p = c.requires in c.branch-ws.ensures _ c.nested-q.ensures

pub returns-in-13 : goal.returns-in-13
returns-in-13 c = let p = c.requires in c.repeat.ensures _ _ p.0.holds (p.3 ∙ c.in-13.is) (c.asked-m.ensures.repeat c.in-13.is) c.nested-q.ensures

pub returns-in_default : goal.returns-in_default
returns-in_default c = let p = c.requires in let r = c.in_default.in_default-own.rest in c.whole.ensures _ (rw (c.asked-m.ensures.whole r.0.0.1 r.0.1 r.1) at c.nested-q.ensures)
