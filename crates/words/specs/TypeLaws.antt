-- Laws of type words, and no definitions.
use Rattle.std.specs.Prelude.{◌≡◌, ℕ, zero, suc, ◌+◌, ◌-◌, ◌≤◌, ◌≢◌, nat_lt, refl}
use Rattle.std.proofs.Common.{sym, ◌∙◌, ap, arith, lt-ltb}
use Rattle.std.proofs.Math.Dec.{leb-suc-suc}
use Rattle.words.specs.declared.Ty.{Ty}
use Rattle.words.specs.declared.Ty.TheVariants.{Void, Boolean, Integer, NT, Class}
use Rattle.words.specs.Types.{type_of, type_word, is_type, is_declared}

-- a word from 4 on names a class
pub type_class : (w : ℕ) → 4 ≤ w → type_of w ≡ Class (w - 4)
unfolding type_of
type_class zero h = absurd (omega arith)
type_class (suc zero) h = absurd (omega arith)
type_class (suc (suc zero)) h = absurd (omega arith)
type_class (suc (suc (suc zero))) h = absurd (omega arith)
type_class (suc (suc (suc (suc c)))) h = let e : c ≡ suc (suc (suc (suc c))) - 4 = omega arith in ap Class e

-- a word and the type that it names give each other back
pub type_word_of : (w : ℕ) → type_word (type_of w) ≡ w
unfolding type_of type_word
type_word_of zero = refl
type_word_of (suc zero) = refl
type_word_of (suc (suc zero)) = refl
type_word_of (suc (suc (suc zero))) = refl
type_word_of (suc (suc (suc (suc c)))) = omega arith

pub type_of_word : (t : Ty) → type_of (type_word t) ≡ t
unfolding type_of type_word
type_of_word Void = refl
type_of_word Boolean = refl
type_of_word Integer = refl
type_of_word NT = refl
type_of_word (Class c) = let e : 4 + c ≡ suc (suc (suc (suc c))) = omega arith in rw e

-- two words that name one type are equal
pub same_type_lem : (w x : ℕ) → type_of w ≡ type_of x → w ≡ x
same_type_lem w x e = sym (type_word_of w) ∙ ap type_word e ∙ type_word_of x

-- with n classes, the words below 4 + n name types
pub is_type_lem : (w n : ℕ) → is_type w n ≡ nat_lt w (4 + n)
unfolding is_type type_of
is_type_lem zero n = sym (lt-ltb 0 (4 + n) (omega arith))
is_type_lem (suc zero) n = sym (lt-ltb 1 (4 + n) (omega arith))
is_type_lem (suc (suc zero)) n = sym (lt-ltb 2 (4 + n) (omega arith))
is_type_lem (suc (suc (suc zero))) n = sym (lt-ltb 3 (4 + n) (omega arith))
is_type_lem (suc (suc (suc (suc c)))) n =
    let e : 4 + n ≡ suc (suc (suc (suc n))) = omega arith in rw (e, leb-suc-suc, leb-suc-suc, leb-suc-suc, leb-suc-suc)

-- every type but the null type may be declared
pub is_declared_lem : (w n : ℕ) → (w ≢ 3) → is_declared w n ≡ is_type w n
unfolding is_declared is_type type_of
is_declared_lem zero n h = refl
is_declared_lem (suc zero) n h = refl
is_declared_lem (suc (suc zero)) n h = refl
is_declared_lem (suc (suc (suc zero))) n h = absurd (h refl)
is_declared_lem (suc (suc (suc (suc c)))) n h = refl
