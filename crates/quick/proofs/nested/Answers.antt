-- `quick::nested` meets its contract.
use Rattle.quick.specs.KnownLaws.{first_place_lem, known_at, known_deeper, known_last, known_pair, known_valued, pair_two}
use mathlib.Core.Path.{refl, sym}
use native.Mathlib.Omega.{arith}
use Rattle.quick.proofs.nested.Goals as goal

pub returns-then-deep-n : goal.returns-then-deep-n
returns-then-deep-n c = let p = c.requires in known_deeper _ p.0.holds _ _ _ 1 2 _ (omega arith) (known_at _ p.0.holds _ _ _ _ 1 _ c.if-deep-n.true c.shallow-q.ensures)

pub first_of_two-requires : goal.first_of_two-requires
first_of_two-requires c = let p = c.requires in let e = sym c.word_at-kind.ensures in let k = c.deep_of-deep.ensures.is c.if-deep-n.false in let o = pair_two _ _ k e in let q = c.shallow-q.ensures in (p.0, p.1, o)

pub pair-requires : goal.pair-requires
pair-requires c = let p = c.requires in let e = sym c.word_at-kind.ensures in let k = c.deep_of-deep.ensures.is c.if-deep-n.false in let o = pair_two _ _ k e in let q = c.shallow-q.ensures in let a = c.leaf.ensures c.args.heap.now in (k, known_valued _ p.0.holds c.args.heap.now _ _ _ _ a, known_valued _ p.0.holds c.args.heap.now _ _ _ _ q)

pub returns-then-deep-n-2 : goal.returns-then-deep-n-2
returns-then-deep-n-2 c = let p = c.requires in let e = sym c.word_at-kind.ensures in let k = c.deep_of-deep.ensures.is c.if-deep-n.false in let o = pair_two _ _ k e in let q = c.shallow-q.ensures in let a = c.leaf.ensures c.args.heap.now in known_pair _ p.0.holds _ _ _ _ 0 1 _ _ _ k e (known_at _ p.0.holds _ _ _ _ 0 _ c.first_of_two.ensures.0 a) (known_last _ p.0.holds _ _ _ c.args.n 1 _ (omega (arith, c.if-deep-n-2.true)) q) c.pair.ensures (omega arith)

pub overflow_sub-n : goal.overflow_sub-n
overflow_sub-n c = let p = c.requires in let e = sym c.word_at-kind.ensures in let k = c.deep_of-deep.ensures.is c.if-deep-n.false in let o = pair_two _ _ k e in let q = c.shallow-q.ensures in let f = first_place_lem _ _ (p.0.holds _ p.1) o in omega (arith, f)

pub pair-requires-2 : goal.pair-requires-2
pair-requires-2 c = let p = c.requires in let e = sym c.word_at-kind.ensures in let k = c.deep_of-deep.ensures.is c.if-deep-n.false in let o = pair_two _ _ k e in let q = c.shallow-q.ensures in let a = c.leaf-2.ensures c.args.heap.now in (k, known_valued _ p.0.holds c.args.heap.now _ _ _ _ q, known_valued _ p.0.holds c.args.heap.now _ _ _ _ a)

pub returns : goal.returns
returns c = let p = c.requires in let e = sym c.word_at-kind.ensures in let k = c.deep_of-deep.ensures.is c.if-deep-n.false in let o = pair_two _ _ k e in let q = c.shallow-q.ensures in let a = c.leaf-2.ensures c.args.heap.now in known_pair _ p.0.holds _ _ _ _ 1 0 _ _ _ k e (known_at _ p.0.holds _ _ _ _ 1 _ (c.deep_of-deep.ensures.first c.if-deep-n.false (λ z. c.if-deep-n-2.false (omega arith))) q) (known_last _ p.0.holds _ _ _ c.args.n 0 _ refl a) c.pair-2.ensures (omega arith)
