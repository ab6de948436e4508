-- `memo::keep` meets its contract.
use Prim.Native.Nat.{◌+◌}
use Rattle.memo.specs.MemoLaws.{memo_kept}
use native.Mathlib.Omega.{arith}
use Rattle.memo.proofs.keep.Goals as goal

pub returns : goal.returns
returns c = λ ws m l. memo_kept ws _ (c.args.c + 1) _ (omega (arith, c.requires.2)) c.requires.3 _ m l _ (omega arith)
