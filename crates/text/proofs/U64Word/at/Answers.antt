-- A word of eight bytes is the one that `wide_at` names. Assumes nothing.
use Rattle.std.proofs.Common.{◌≡◌, ℕ, ◌+◌, ◌*◌, ◌<◌, arith}
use Rattle.text.specs.Words.{word_at, wide_at}
use Rattle.text.proofs.Laws.{chunk_at}
use Rattle.text.proofs.U64Word.at.Goals as goal

pub returns : goal.returns
unfolding word_at wide_at
returns c =
    let k = c.args.k in
    let byte = λ (j p : ℕ) (i : j < 8) (e : p ≡ 8 * k + j). chunk_at 8 k j p c.args.bytes.now _ c.as_chunks.ensures.front (omega arith) i e in
    omega (
      arith,
      c.from_le_bytes.ensures,
      byte 0 (4 * (2 * k)) (omega arith) (omega arith),
      byte 1 (4 * (2 * k) + 1) (omega arith) (omega arith),
      byte 2 (4 * (2 * k) + 2) (omega arith) (omega arith),
      byte 3 (4 * (2 * k) + 3) (omega arith) (omega arith),
      byte 4 (4 * (2 * k + 1)) (omega arith) (omega arith),
      byte 5 (4 * (2 * k + 1) + 1) (omega arith) (omega arith),
      byte 6 (4 * (2 * k + 1) + 2) (omega arith) (omega arith),
      byte 7 (4 * (2 * k + 1) + 3) (omega arith) (omega arith),
    )
