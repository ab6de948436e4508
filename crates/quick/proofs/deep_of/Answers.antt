-- `quick::deep_of` meets its contract.
use Rattle.quick.specs.KnownLaws.{deep_first, deep_last, deep_self, first_place_lem, not_neither, pair_two}
use mathlib.Core.Path.{◌∙◌, sym}
use native.Mathlib.Omega.{arith}
use Rattle.quick.proofs.deep_of.Goals as goal

pub returns-then-kind : goal.returns-then-kind
returns-then-kind c = let p = c.requires in deep_self _ _ _ p.1.0

pub overflow_sub-n : goal.overflow_sub-n
overflow_sub-n c = let p = c.requires in let k = not_neither _ c.if-kind.false in let h = p.0.holds _ p.1.0 in let f = first_place_lem _ _ h (pair_two _ _ k p.1.1) in omega (arith, f)

pub overflow_sub-result : goal.overflow_sub-result
overflow_sub-result c = let p = c.requires in let k = not_neither _ c.if-kind.false in let h = p.0.holds _ p.1.0 in let f = first_place_lem _ _ h (pair_two _ _ k p.1.1) in omega (arith, f, c.word_at.ensures, c.if-word_at-eq1.true)

pub overflow_sub-result-else-word_at-eq1 : goal.overflow_sub-result-else-word_at-eq1
overflow_sub-result-else-word_at-eq1 c = let p = c.requires in let k = not_neither _ c.if-kind.false in let h = p.0.holds _ p.1.0 in let f = first_place_lem _ _ h (pair_two _ _ k p.1.1) in omega (arith, f)

pub returns-then-word_at-eq1 : goal.returns-then-word_at-eq1
returns-then-word_at-eq1 c = let p = c.requires in let k = not_neither _ c.if-kind.false in let h = p.0.holds _ p.1.0 in let f = first_place_lem _ _ h (pair_two _ _ k p.1.1) in deep_first _ _ _ p.1.0 h k p.1.1 (sym c.word_at.ensures ∙ c.if-word_at-eq1.true)

pub returns-else-word_at-eq1 : goal.returns-else-word_at-eq1
returns-else-word_at-eq1 c = let p = c.requires in let k = not_neither _ c.if-kind.false in let h = p.0.holds _ p.1.0 in let f = first_place_lem _ _ h (pair_two _ _ k p.1.1) in deep_last _ _ _ p.1.0 h k p.1.1
