-- Value words: a tag above 32 bits of payload, and the values that they stand for.
use Rattle.std.specs.Prelude.{ℕ, zero, suc, ◌+◌, ◌*◌, ◌/◌, ◌%◌, ◌^◌, ◌<◌, Bool, true, false, ◌==◌, nat_lt, is_some}
use Rattle.words.specs.declared.Value.{Value}
use Rattle.words.specs.declared.Value.TheVariants.{Null, Intg, Addr}
use Rattle.std.specs.declared.option.Option.{Option}
use Rattle.std.specs.declared.option.Option.TheVariants.{Some, None}

-- how many addresses there are
abbrev pub addresses : ℕ
addresses = 4096

-- the payload of a Bool
abbrev pub bit : Bool → ℕ
bit false = 0
bit true = 1

-- the word of a tag and a payload
abbrev pub word_with : (tag payload : ℕ) → ℕ
word_with tag payload = tag * 2 ^ 32 + payload

-- which word is the word of which value: one case for each tag, with the bound on its payload
pub data WordOf : ℕ → Value → Type 0 where
  unit : WordOf (word_with 0 0) Value.Unit
  null : WordOf (word_with 1 0) Null
  bool : {b : Bool} → WordOf (word_with 2 (bit b)) (Value.Bool b)
  intg : {i : ℕ} → i < 2 ^ 32 → WordOf (word_with 3 i) (Intg i)
  addr : {a : ℕ} → a < addresses → WordOf (word_with 4 a) (Addr a)

-- the word of a value, computed
unfoldable pub word_of : Value → ℕ
word_of Value.Unit = word_with 0 0
word_of Null = word_with 1 0
word_of (Value.Bool b) = word_with 2 (bit b)
word_of (Intg i) = word_with 3 i
word_of (Addr a) = word_with 4 a

-- a value whose payload is in the range of its tag
abbrev pub Proper : Value → Type 0
Proper Value.Unit = Unit {0}
Proper Null = Unit {0}
Proper (Value.Bool b) = Unit {0}
Proper (Intg i) = i < 2 ^ 32
Proper (Addr a) = a < addresses

-- the tag and the payload of a word
unfoldable pub tag_of : ℕ → ℕ
tag_of w = w / 2 ^ 32

unfoldable pub payload_of : ℕ → ℕ
payload_of w = w % 2 ^ 32

-- the value v if a test on the payload is true, and else none
abbrev pub given : Bool → Value → Option Value
given true v = Some v
given false v = None

-- the value of a tag and a payload; from tag 5 on there is none
unfoldable pub value_with : (tag payload : ℕ) → Option Value
value_with zero p = given (p == 0) Value.Unit
value_with (suc zero) p = given (p == 0) Null
value_with (suc (suc zero)) p = given (nat_lt p 2) (Value.Bool (p == 1))
value_with (suc (suc (suc zero))) p = given (nat_lt p (2 ^ 32)) (Intg p)
value_with (suc (suc (suc (suc zero)))) p = given (nat_lt p addresses) (Addr p)
value_with (suc (suc (suc (suc (suc t))))) p = None

-- the value of a word, if it has one
unfoldable pub value_of : ℕ → Option Value
value_of w = value_with (tag_of w) (payload_of w)

-- whether a tag and a payload are a value
unfoldable pub is_value : (tag payload : ℕ) → Bool
is_value tag payload = is_some (value_with tag payload)
