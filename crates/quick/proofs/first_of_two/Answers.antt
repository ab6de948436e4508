-- `quick::first_of_two` meets its contract.
use Rattle.quick.specs.KnownLaws.{first_place_lem}
use native.Mathlib.Omega.{arith}
use Rattle.quick.proofs.first_of_two.Goals as goal

pub overflow_sub-result : goal.overflow_sub-result
overflow_sub-result c = let p = c.requires in let f = first_place_lem _ _ (p.0.holds _ p.1) p.2 in omega (arith, f)

pub overflow_sub-n : goal.overflow_sub-n
overflow_sub-n c = let p = c.requires in let f = first_place_lem _ _ (p.0.holds _ p.1) p.2 in omega (arith, f)

pub overflow_sub-result-2 : goal.overflow_sub-result-2
overflow_sub-result-2 c = let p = c.requires in let f = first_place_lem _ _ (p.0.holds _ p.1) p.2 in omega (arith, f, c.word_at.ensures)

pub returns : goal.returns
returns c = let p = c.requires in let f = first_place_lem _ _ (p.0.holds _ p.1) p.2 in (omega (arith, f, c.word_at.ensures), omega (arith, f, c.word_at.ensures))
