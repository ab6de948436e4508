use native.Mathlib.Omega.{arith}
use mathlib.Core.Path.{◌∙◌, refl, sym}
use Rattle.machine.specs.LedLaws.{led, led_less}
use Rattle.machine.specs.NextLaws.{goes_on, at_end}
use borrow.Author.Rules.{rules}
use Rattle.machine.proofs.run_with.Goals as goal

pub returns-in_default : goal.returns-in_default
returns-in_default c = let n = sym c.next_of.ensures ∙ c.in_default.is in (rw n at (at_end _ c.args.table.now.image.good.nodes _ c.loop-next.invariant.0 c.turn-g.new.heap c.turn-g.new.room c.turn-g.result c.turn-g.ensures c.ended.result c.ended.ensures), search rules)

pub loop-next-smaller : goal.loop-next-smaller
loop-next-smaller c = let n = sym c.next_of.ensures ∙ c.in-Some.is in let o = rw n at (goes_on _ c.args.table.now.image.good.nodes _ c.loop-next.invariant.0 c.turn-g.new.heap c.turn-g.new.room c.turn-g.result c.turn-g.ensures (search rules)) in omega (arith, led_less _ c.args.table.now.image.good.nodes _ _ _ c.onward-r.ensures, o.1)

pub loop-next-preserved : goal.loop-next-preserved
loop-next-preserved c = let n = sym c.next_of.ensures ∙ c.in-Some.is in let o = rw n at (goes_on _ c.args.table.now.image.good.nodes _ c.loop-next.invariant.0 c.turn-g.new.heap c.turn-g.new.room c.turn-g.result c.turn-g.ensures (search rules)) in (led _ c.args.table.now.image.good.nodes _ o.0 _ refl c.onward-r.ensures (search rules), c.learn.ensures, search rules)
