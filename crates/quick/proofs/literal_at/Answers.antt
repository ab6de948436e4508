-- `quick::literal_at` meets its contract.
use Prim.Native.Nat.{◌<◌, ◌^◌}
use Rattle.quick.specs.KnownLaws.{literal_is, literal_value}
use native.Mathlib.Omega.{arith}
use Rattle.quick.proofs.literal_at.Goals as goal

pub returns : goal.returns
returns c = let p = c.requires in let h = p.0.holds _ p.1.0 in let b : c.word_at-payload.result < 2 ^ 32 = omega arith in (literal_is _ _ h p.1.1 _ _ c.word_at-tag.ensures c.word_at-payload.ensures b, literal_value _ _ h p.1.1 _ _ c.word_at-tag.ensures c.word_at-payload.ensures b)
