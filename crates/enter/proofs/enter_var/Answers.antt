-- `enter::enter_var` meets its contract.
use Rattle.pushes.specs.EnterLaws.{holds_at}
use Rattle.room.specs.Nodes.{var_halts, var_local, var_steps}
use mathlib.Core.Path.{refl}
use native.Mathlib.Omega.{arith}
use Rattle.enter.proofs.enter_var.Goals as goal

pub bounds-room-x : goal.bounds-room-x
bounds-room-x c = let b = var_local _ _ (holds_at c.args.image.now.good c.requires.0) c.requires.2 in rw c.node_word-x.ensures (omega arith)

pub returns-then-w-eq0 : goal.returns-then-w-eq0
returns-then-w-eq0 c = λ D hs may inv low h. (var_halts _ c.args.image.now.good.nodes D hs _ _ _ inv low c.requires.2 (rw (← c.node_word-x.ensures) c.if-w-eq0.true), refl)

pub returns-else-w-eq0 : goal.returns-else-w-eq0
returns-else-w-eq0 c = λ D hs may inv low h. (var_steps _ c.args.image.now.good.nodes D hs _ _ _ inv _ low c.requires.2 (rw (← c.node_word-x.ensures) (omega (arith, c.if-w-eq0.false))) h, λ e. refl)
