-- `quick::get_at` meets its contract.
use Rattle.laws.specs.Trees.{operand_below}
use Rattle.quick.specs.KnownLaws.{get_one, known_get, known_last, known_valued}
use mathlib.Core.Path.{refl}
use native.Mathlib.Omega.{arith}
use Rattle.quick.proofs.get_at.Goals as goal

pub overflow_sub-n : goal.overflow_sub-n
overflow_sub-n c = let p = c.requires in let n = p.1.0 in let e = p.1.1 in let h = p.0.holds _ n in let o = operand_below _ _ h 0 (get_one _ _ e) in omega (arith, o)

pub field-requires : goal.field-requires
field-requires c = let p = c.requires in let n = p.1.0 in let e = p.1.1 in let h = p.0.holds _ n in let o = operand_below _ _ h 0 (get_one _ _ e) in let a = c.leaf.ensures c.args.heap.now in ((n, e), p.0.small, p.3, p.4, known_valued _ p.0.holds c.args.heap.now _ _ _ _ a)

pub returns : goal.returns
returns c = let p = c.requires in let n = p.1.0 in let e = p.1.1 in let h = p.0.holds _ n in let o = operand_below _ _ h 0 (get_one _ _ e) in let a = c.leaf.ensures c.args.heap.now in known_get _ p.0.holds _ _ _ 0 _ _ e (known_last _ p.0.holds _ _ _ c.args.n 0 _ refl a) c.field.ensures (omega arith)
