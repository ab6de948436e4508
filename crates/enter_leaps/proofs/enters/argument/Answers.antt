-- `enter_leaps::enters::argument` meets its contract.
use Rattle.quick.specs.KnownLaws.{either_kind, known_deeper}
use mathlib.Core.Path.{sym}
use native.Mathlib.Omega.{arith}
use Rattle.enter_leaps.proofs.enters.argument.Goals as goal

pub returns-then-is_some : goal.returns-then-is_some
returns-then-is_some c = known_deeper _ c.requires.0.holds _ _ _ _ _ _ (omega arith) (c.leaf-q.ensures _)

pub pair_at-requires : goal.pair_at-requires
pair_at-requires c = let p = c.requires in (p.0, (p.1, sym c.word_at-kind.ensures), either_kind _ c.if-kind.true, p.2)

pub returns-then-kind : goal.returns-then-kind
returns-then-kind c = c.pair_at.ensures _
