-- Words out of bytes, little end first. Assumes nothing.
use Rattle.std.specs.Prelude.{ℕ, ◌+◌, ◌*◌, ◌<◌, ◌≤◌, ◌≡◌, List, length, take, get_or, Some, slice_get}

-- n counts elements at the start of a list. The second part follows from the first; `&s[..n]` asks both.
abbrev pub Counts : {A : Type 0} → ℕ → List A → Type 0
Counts n xs = (n ≤ length xs) × (n ≡ length (take n xs))

-- the number that four bytes are
abbrev pub four_bytes : ℕ → ℕ → ℕ → ℕ → ℕ
four_bytes a b c d = a + 256 * b + 65536 * c + 16777216 * d

-- word k of a list of bytes
unfoldable pub word_at : List ℕ → ℕ → ℕ
word_at bytes k = four_bytes (get_or bytes (4 * k) 0) (get_or bytes (4 * k + 1) 0) (get_or bytes (4 * k + 2) 0) (get_or bytes (4 * k + 3) 0)

-- the number that two words of four bytes are
abbrev pub two_words : ℕ → ℕ → ℕ
two_words low high = low + 4294967296 * high

-- word k of eight bytes
unfoldable pub wide_at : List ℕ → ℕ → ℕ
wide_at bytes k = two_words (word_at bytes (2 * k)) (word_at bytes (2 * k + 1))

-- the first n words are those that a function names
abbrev pub First : {A : Type 0} → ℕ → (ℕ → A) → List A → Type 0
First n word words = (k : ℕ) → k < n → slice_get words k ≡ Some (word k)
