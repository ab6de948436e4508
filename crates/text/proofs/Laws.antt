-- The law on lists that the proofs of `Word::at` cite. Assumes nothing.
use Rattle.std.proofs.Common.{◌≡◌, ◌∙◌, ℕ, zero, suc, ◌+◌, ◌*◌, ◌/◌, ◌<◌, List, [], length, get_or, drop, arith, ap, get_or-drop}
use Rattle.std.proofs.lemmas.List.{get_or-take}
use Rattle.std.specs.List.{slice_index}
use Rattle.std.specs.Simd.{first_chunks}

of_first : (n m k j : ℕ) (xs : List ℕ) → k < m → j < n → get_or (get_or (first_chunks n m xs) k []) j 0 ≡ get_or xs (n * k + j) 0
of_first n zero k j xs h i = absurd (omega arith)
of_first n (suc m) zero j xs h i = get_or-take n xs j 0 i ∙ ap (λ p. get_or xs p 0) (omega arith)
of_first n (suc m) (suc k) j xs h i =
    of_first n m k j (drop n xs) (omega arith) i ∙ get_or-drop n xs (n * k + j) 0 ∙ ap (λ p. get_or xs p 0) (omega arith)

-- element j of chunk k stands at p, behind k chunks and j elements
pub chunk_at :
    (n k j p : ℕ) (xs : List ℕ) (chunks : List (List ℕ)) →
    chunks ≡ first_chunks n (length xs / n) xs →
    k < length xs / n →
    j < n →
    p ≡ n * k + j →
    slice_index (get_or chunks k []) j ≡ get_or xs p 0
chunk_at n k j p xs chunks e h i at = rw (e, at) (of_first n (length xs / n) k j xs h i)
