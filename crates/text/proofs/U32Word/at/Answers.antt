-- A word of four bytes is the one that `word_at` names. Assumes nothing.
use Rattle.std.proofs.Common.{◌≡◌, ℕ, ◌+◌, ◌*◌, ◌<◌, arith}
use Rattle.text.specs.Words.{word_at}
use Rattle.text.proofs.Laws.{chunk_at}
use Rattle.text.proofs.U32Word.at.Goals as goal

pub returns : goal.returns
unfolding word_at
returns c =
    let k = c.args.k in
    let byte = λ (j p : ℕ) (i : j < 4) (e : p ≡ 4 * k + j). chunk_at 4 k j p c.args.bytes.now _ c.as_chunks.ensures.front (omega arith) i e in
    omega (
      arith,
      c.from_le_bytes.ensures,
      byte 0 (4 * k) (omega arith) (omega arith),
      byte 1 (4 * k + 1) (omega arith) (omega arith),
      byte 2 (4 * k + 2) (omega arith) (omega arith),
      byte 3 (4 * k + 3) (omega arith) (omega arith),
    )
