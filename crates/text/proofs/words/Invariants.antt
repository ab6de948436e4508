-- `text::words` meets its contract. The invariant: k words are stored, and they are the first k of the bytes. Assumes nothing.
use Rattle.std.proofs.Common.{◌*◌, ◌≤◌, length}
use Rattle.text.specs.Words.{First}
use Rattle.text.proofs.words.Given as goal

abbrev pub invariant-loop-k : goal.invariant-loop-k
invariant-loop-k g l =
    (l.n * g.W.Word.BYTES ≤ length l.bytes) × (l.n ≤ length l.out) × First l.k (g.W.Word.word_of l.bytes) l.out
