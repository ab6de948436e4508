-- `quick::pair_at` meets its contract.
use Rattle.quick.specs.KnownLaws.{known_at, known_last, known_pair, known_valued, pair_two}
use mathlib.Core.List.{[]}
use mathlib.Core.Path.{refl}
use native.Mathlib.Omega.{arith}
use Rattle.quick.proofs.pair_at.Goals as goal

pub first_of_two-requires : goal.first_of_two-requires
first_of_two-requires c = let p = c.requires in let n = p.1.0 in let e = p.1.1 in let k = p.2 in let h = p.0.holds _ n in let o = pair_two _ _ k e in (p.0, n, o)

pub pair-requires : goal.pair-requires
pair-requires c = let p = c.requires in let n = p.1.0 in let e = p.1.1 in let k = p.2 in let h = p.0.holds _ n in let o = pair_two _ _ k e in let a = c.leaf-a.ensures [] in let b = c.leaf.ensures [] in (k, known_valued _ p.0.holds [] _ _ _ _ a, known_valued _ p.0.holds [] _ _ _ _ b)

pub returns : goal.returns
returns c = λ hs. let p = c.requires in let n = p.1.0 in let e = p.1.1 in let k = p.2 in let h = p.0.holds _ n in let o = pair_two _ _ k e in let a = c.leaf-a.ensures hs in let b = c.leaf.ensures hs in known_pair _ p.0.holds _ _ _ _ 0 0 _ _ _ k e (known_at _ p.0.holds _ _ _ _ 0 _ c.first_of_two.ensures.0 a) (known_last _ p.0.holds _ _ _ c.args.n 0 _ refl b) c.pair.ensures (omega arith)
