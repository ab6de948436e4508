-- A decimal number of 64 bits, read digit by digit. Assumes nothing.
use Rattle.std.specs.Prelude.{ℕ, ◌+◌, ◌*◌, ◌-◌, cond, ltb, Result, Ok, Err}
use Rattle.text.specs.declared.NotFed.{NotFed}
use Rattle.text.specs.declared.NotFed.TheVariants.{NoDigit, TooLarge}

-- the number n with one digit more
abbrev pub grown : ℕ → ℕ → ℕ
grown n b = 10 * n + (b - 48)

-- what becomes of n by the byte b: `0` to `9` are the bytes 48 to 57
abbrev pub fed_of : ℕ → ℕ → Result ℕ NotFed
fed_of n b =
    cond (ltb b 48) (Err NoDigit) (cond (ltb 57 b) (Err NoDigit) (cond (ltb 18446744073709551615 (grown n b)) (Err TooLarge) (Ok (grown n b))))
