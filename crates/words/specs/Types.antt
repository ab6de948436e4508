-- Type words: three types of plain values, the type of null, and the classes from 4 on.
use Rattle.std.specs.Prelude.{ℕ, zero, suc, ◌+◌, ◌-◌, ◌^◌, ◌<◌, Bool, true, false, nat_lt}
use Rattle.words.specs.declared.Ty.{Ty}
use Rattle.words.specs.declared.Ty.TheVariants.{Void, Boolean, Integer, NT, Class}

-- the type that a word names
unfoldable pub type_of : ℕ → Ty
type_of zero = Void
type_of (suc zero) = Boolean
type_of (suc (suc zero)) = Integer
type_of (suc (suc (suc zero))) = NT
type_of (suc (suc (suc (suc c)))) = Class c

-- the word that names a type
unfoldable pub type_word : Ty → ℕ
type_word Void = 0
type_word Boolean = 1
type_word Integer = 2
type_word NT = 3
type_word (Class c) = 4 + c

-- a type whose word fits into 32 bits
abbrev pub Named : Ty → Type 0
Named Void = Unit {0}
Named Boolean = Unit {0}
Named Integer = Unit {0}
Named NT = Unit {0}
Named (Class c) = c < 2 ^ 32 - 4

-- whether an image with that many classes has a type
abbrev pub known : Ty → (classes : ℕ) → Bool
known Void n = true
known Boolean n = true
known Integer n = true
known NT n = true
known (Class c) n = nat_lt c n

-- whether it may declare something to be of that type, as it never may of the null type
abbrev pub declarable : Ty → (classes : ℕ) → Bool
declarable Void n = true
declarable Boolean n = true
declarable Integer n = true
declarable NT n = false
declarable (Class c) n = nat_lt c n

-- whether w names a type of an image with that many classes
unfoldable pub is_type : (w classes : ℕ) → Bool
is_type w classes = known (type_of w) classes

-- whether w names a type that may be declared there
unfoldable pub is_declared : (w classes : ℕ) → Bool
is_declared w classes = declarable (type_of w) classes
