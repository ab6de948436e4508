-- Integers of 32 bits, in two's complement.
use Rattle.std.specs.Prelude.{◌≡◌, ℕ, suc, ◌+◌, ◌-◌, ◌%◌, ◌^◌, ◌<◌, cond, ◌⊎◌, ℤ, pos, negsuc, ◌+ℤ◌, ◌-ℤ◌, nat_lt}

-- the integers from -2^31 to 2^31 - 1, where negsuc n is -(n + 1)
abbrev pub InRange : ℤ → Type 0
InRange (pos n) = n < 2 ^ 31
InRange (negsuc n) = n < 2 ^ 31

-- the integer that 32 bits stand for
unfoldable pub integer_of : ℕ → ℤ
integer_of n = cond (nat_lt n (2 ^ 31)) (pos n) (pos n -ℤ pos (2 ^ 32))

-- the 32 bits of an integer in range
unfoldable pub bits_of : ℤ → ℕ
bits_of (pos n) = n
bits_of (negsuc n) = 2 ^ 32 - suc n

-- the bits of a sum: 2^32 is 0 again
unfoldable pub plus_of : ℕ → ℕ → ℕ
plus_of a b = (a + b) % 2 ^ 32

-- z is s with 2^32 added or taken away at most once
abbrev pub Wrapped : (z s : ℤ) → Type 0
Wrapped z s = (z ≡ s) ⊎ (z ≡ s +ℤ pos (2 ^ 32)) ⊎ (z ≡ s -ℤ pos (2 ^ 32))
