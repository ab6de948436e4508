-- `redexes::literal_word` meets its contract.
use Prim.Native.Nat.{◌<◌, ◌^◌}
use Rattle.redexes.specs.RedexLaws.{literal_is, literal_plain, literal_value}
use native.Mathlib.Omega.{arith}
use Rattle.redexes.proofs.literal_word.Goals as goal

pub returns : goal.returns
returns c = let b : c.node_word-payload.result < 2 ^ 32 = omega arith in (literal_is _ _ c.args.image.now.good _ c.requires.0 c.requires.1 _ _ c.node_word-tag.ensures c.node_word-payload.ensures b, literal_value _ _ c.args.image.now.good _ c.requires.0 c.requires.1 _ _ c.node_word-tag.ensures c.node_word-payload.ensures b, literal_plain _ _ c.args.image.now.good _ c.requires.0 c.requires.1 _ _ c.node_word-tag.ensures c.node_word-payload.ensures b)
