-- `quick::leaf` meets its contract.
use Rattle.quick.specs.KnownLaws.{known_literal, known_var}
use Rattle.room.specs.Nodes.{var_local}
use mathlib.Core.Path.{◌∙◌, sym}
use native.Mathlib.Omega.{arith}
use Rattle.quick.proofs.leaf.Goals as goal

pub bounds-room-word_at : goal.bounds-room-word_at
bounds-room-word_at c = let p = c.requires in let b = var_local _ _ (p.0.holds _ p.1) (sym c.word_at.ensures ∙ c.in-3.is) in rw c.word_at-in-3.ensures (omega (arith, p.2.long, b))

pub returns-in-2 : goal.returns-in-2
returns-in-2 c = let p = c.requires in λ hs. known_literal _ p.0.holds hs _ _ _ (sym c.word_at.ensures ∙ c.in-2.is) c.literal_at.ensures.0 c.literal_at.ensures.1

pub returns-else-w-eq0 : goal.returns-else-w-eq0
returns-else-w-eq0 c = let p = c.requires in λ hs. known_var _ p.0.holds hs _ _ _ _ p.1 (sym c.word_at.ensures ∙ c.in-3.is) c.word_at-in-3.ensures p.2 (omega (arith, c.if-w-eq0.false))
