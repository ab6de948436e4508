-- `pushes::take_up` meets its contract.
use Rattle.laws.specs.Tags.{tag_small}
use native.Mathlib.Omega.{arith}
use Rattle.pushes.proofs.take_up.Goals as goal

pub overflow_add-room : goal.overflow_add-room
overflow_add-room c = let p = c.requires in let t = tag_small c.args.w p.2 in omega arith
