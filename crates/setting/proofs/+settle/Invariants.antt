-- `setting::settle` and the functions that it calls and that call it meet their contracts. Each round goes to an operand, a node with a
-- lower number.
use Prim.Native.Nat.{◌*◌, ◌+◌}
use Rattle.rules.specs.Setting.{settings}
use Rattle.rules.specs.Trees.{arguments}
use Rattle.setting.specs.Settle.{below}
use Rattle.vars.specs.Vars.{vars_of}
use mathlib.Core.Path.{◌≡◌}
use Rattle.setting.proofs.+settle.Given as goal

abbrev pub decreases-settle : goal.decreases-settle
decreases-settle l = 4 * l.n + 3

abbrev pub decreases-settle_block : goal.decreases-settle_block
decreases-settle_block l = 4 * l.n + 2

abbrev pub decreases-settle_if : goal.decreases-settle_if
decreases-settle_if l = 4 * l.n + 2

abbrev pub decreases-settle_list : goal.decreases-settle_list
decreases-settle_list l = 4 * l.n + 2

abbrev pub decreases-settle_one : goal.decreases-settle_one
decreases-settle_one l = 4 * l.n + 1

abbrev pub decreases-settle_try : goal.decreases-settle_try
decreases-settle_try l = 4 * l.n + 2

abbrev pub decreases-settle_while : goal.decreases-settle_while
decreases-settle_while l = 4 * l.n + 2

abbrev pub invariant-settle_list-loop-i : goal.invariant-settle_list-loop-i
invariant-settle_list-loop-i l = settings (arguments (below l.image.words.now l.n) l.i) (vars_of l.set) ≡ settings (arguments (below l.image.words.now l.n) l.count) (vars_of l.initial.set)
