-- Laws of the kinds' numbers: which kinds are gone into by their first operand, and how many operands stand behind that one.
use Rattle.std.specs.Prelude.{◌≡◌, refl, List, [], ◌∷◌, ℕ, zero, suc, ◌+◌, ◌≤◌, ◌<◌, get_or}
use Rattle.std.proofs.Common.{sym, ◌∙◌, ap, arith}
use Rattle.image.specs.declared.Kind.{Kind}
use Rattle.image.specs.declared.Kind.TheVariants.{New, Cast, Value as Literal, Var, Add, Eq, Assign, Get, Set, Call, Block, Seq, If, While, Throw, Try, Unknown}
use Rattle.image.specs.Nodes.{kinds, kind_of, operands}
use Rattle.room.specs.Room.{first, shape_of}
use Rattle.room.specs.Nodes.{Still}

-- a number that has a kind is that kind's
abbrev pub KindNumber : ℕ → Kind → Type 0
KindNumber k New = k ≡ 0
KindNumber k Cast = k ≡ 1
KindNumber k Literal = k ≡ 2
KindNumber k Var = k ≡ 3
KindNumber k Add = k ≡ 4
KindNumber k Eq = k ≡ 5
KindNumber k Assign = k ≡ 6
KindNumber k Get = k ≡ 7
KindNumber k Set = k ≡ 8
KindNumber k Call = k ≡ 9
KindNumber k Block = k ≡ 10
KindNumber k Seq = k ≡ 11
KindNumber k If = k ≡ 12
KindNumber k While = k ≡ 13
KindNumber k Throw = k ≡ 14
KindNumber k Try = k ≡ 15
KindNumber k Unknown = 16 ≤ k

abbrev AllNumbered : List Kind → ℕ → Type 0
AllNumbered [] b = 16 ≤ b
AllNumbered (g ∷ rest) b = KindNumber b g × AllNumbered rest (suc b)

numbered_in : (l : List Kind) (b k : ℕ) → AllNumbered l b → KindNumber (b + k) (get_or l k Unknown)
numbered_in [] b k a = omega (arith, a)
numbered_in (g ∷ rest) b zero a = let z : b + 0 ≡ b = omega arith in rw z a.0
numbered_in (g ∷ rest) b (suc k) a = let z : b + suc k ≡ suc b + k = omega arith in rw z (numbered_in rest (suc b) k a.1)

pub kind_number : (k : ℕ) (g : Kind) → g ≡ kind_of k → KindNumber k g
unfolding kind_of
kind_number k g e = let z : 0 + k ≡ k = omega arith in rw e (rw z at (numbered_in kinds 0 k (refl, (refl, (refl, (refl, (refl, (refl, (refl, (refl, (refl, (refl, (refl, (refl, (refl, (refl, (refl, (refl, omega arith))))))))))))))))))

-- a node that code reads as another kind has not the number n
pub other_kind : (k n : ℕ) (g r : Kind) → r ≡ kind_of k → kind_of n ≡ g → (r ≡ g → ⊥) → k ≡ n → ⊥
other_kind k n g r e q d z = d (e ∙ ap kind_of z ∙ q)

-- every kind that has no way of its own
pub first_shape : (k : ℕ) → k < 16 → (k ≡ 0 → ⊥) → (k ≡ 2 → ⊥) → (k ≡ 3 → ⊥) → (k ≡ 9 → ⊥) → (k ≡ 10 → ⊥) → (k ≡ 13 → ⊥) → shape_of k ≡ first
unfolding shape_of
first_shape k h a b c d e f = go (kind_of k) refl
  where
    go : (g : Kind) → g ≡ kind_of k → shape_of k ≡ first
    go New q = absurd (a (kind_number k New q))
    go Cast q = rw (kind_number k Cast q)
    go Literal q = absurd (b (kind_number k Literal q))
    go Var q = absurd (c (kind_number k Var q))
    go Add q = rw (kind_number k Add q)
    go Eq q = rw (kind_number k Eq q)
    go Assign q = rw (kind_number k Assign q)
    go Get q = rw (kind_number k Get q)
    go Set q = rw (kind_number k Set q)
    go Call q = absurd (d (kind_number k Call q))
    go Block q = absurd (e (kind_number k Block q))
    go Seq q = rw (kind_number k Seq q)
    go If q = rw (kind_number k If q)
    go While q = absurd (f (kind_number k While q))
    go Throw q = rw (kind_number k Throw q)
    go Try q = rw (kind_number k Try q)
    go Unknown q = absurd (omega (arith, h, kind_number k Unknown q))

-- a kind of that shape, other than those with two operands or three, has one
pub first_one : (k y : ℕ) → shape_of k ≡ first → (k ≡ 12 → ⊥) → (k ≡ 4 → ⊥) → (k ≡ 5 → ⊥) → (k ≡ 8 → ⊥) → (k ≡ 11 → ⊥) → (k ≡ 15 → ⊥)
    → 1 ≡ operands (kind_of k) y
unfolding shape_of kind_of operands
first_one zero y h a b c d e f = absurd (let z : ◌≡◌ {A = ℕ} 0 1 = cc in omega arith)
first_one (suc zero) y h a b c d e f = refl
first_one (suc (suc zero)) y h a b c d e f = absurd (let z : ◌≡◌ {A = ℕ} 0 1 = cc in omega arith)
first_one (suc (suc (suc zero))) y h a b c d e f = absurd (let z : ◌≡◌ {A = ℕ} 0 1 = cc in omega arith)
first_one (suc (suc (suc (suc zero)))) y h a b c d e f = absurd (b refl)
first_one (suc (suc (suc (suc (suc zero))))) y h a b c d e f = absurd (c refl)
first_one (suc (suc (suc (suc (suc (suc zero)))))) y h a b c d e f = refl
first_one (suc (suc (suc (suc (suc (suc (suc zero))))))) y h a b c d e f = refl
first_one (suc (suc (suc (suc (suc (suc (suc (suc zero)))))))) y h a b c d e f = absurd (d refl)
first_one (suc (suc (suc (suc (suc (suc (suc (suc (suc zero))))))))) y h a b c d e f = absurd (let z : ◌≡◌ {A = ℕ} 0 1 = cc in omega arith)
first_one (suc (suc (suc (suc (suc (suc (suc (suc (suc (suc zero)))))))))) y h a b c d e f = absurd (let z : ◌≡◌ {A = ℕ} 0 1 = cc in omega arith)
first_one (suc (suc (suc (suc (suc (suc (suc (suc (suc (suc (suc zero))))))))))) y h a b c d e f = absurd (e refl)
first_one (suc (suc (suc (suc (suc (suc (suc (suc (suc (suc (suc (suc zero)))))))))))) y h a b c d e f = absurd (a refl)
first_one (suc (suc (suc (suc (suc (suc (suc (suc (suc (suc (suc (suc (suc zero))))))))))))) y h a b c d e f = absurd (let z : ◌≡◌ {A = ℕ} 0 1 = cc in omega arith)
first_one (suc (suc (suc (suc (suc (suc (suc (suc (suc (suc (suc (suc (suc (suc zero)))))))))))))) y h a b c d e f = refl
first_one (suc (suc (suc (suc (suc (suc (suc (suc (suc (suc (suc (suc (suc (suc (suc zero))))))))))))))) y h a b c d e f = absurd (f refl)
first_one (suc (suc (suc (suc (suc (suc (suc (suc (suc (suc (suc (suc (suc (suc (suc (suc zero)))))))))))))))) y h a b c d e f = absurd (let z : ◌≡◌ {A = ℕ} 0 1 = cc in omega arith)
first_one (suc (suc (suc (suc (suc (suc (suc (suc (suc (suc (suc (suc (suc (suc (suc (suc (suc zero))))))))))))))))) y h a b c d e f = absurd (let z : ◌≡◌ {A = ℕ} 0 1 = cc in omega arith)
first_one (suc (suc (suc (suc (suc (suc (suc (suc (suc (suc (suc (suc (suc (suc (suc (suc (suc (suc zero)))))))))))))))))) y h a b c d e f = absurd (let z : ◌≡◌ {A = ℕ} 0 1 = cc in omega arith)
first_one (suc (suc (suc (suc (suc (suc (suc (suc (suc (suc (suc (suc (suc (suc (suc (suc (suc (suc (suc zero))))))))))))))))))) y h a b c d e f = absurd (let z : ◌≡◌ {A = ℕ} 0 1 = cc in omega arith)
first_one (suc (suc (suc (suc (suc (suc (suc (suc (suc (suc (suc (suc (suc (suc (suc (suc (suc (suc (suc (suc zero)))))))))))))))))))) y h a b c d e f = absurd (let z : ◌≡◌ {A = ℕ} 0 1 = cc in omega arith)
first_one (suc (suc (suc (suc (suc (suc (suc (suc (suc (suc (suc (suc (suc (suc (suc (suc (suc (suc (suc (suc (suc zero))))))))))))))))))))) y h a b c d e f = absurd (let z : ◌≡◌ {A = ℕ} 0 1 = cc in omega arith)
first_one (suc (suc (suc (suc (suc (suc (suc (suc (suc (suc (suc (suc (suc (suc (suc (suc (suc (suc (suc (suc (suc (suc zero)))))))))))))))))))))) y h a b c d e f = absurd (let z : ◌≡◌ {A = ℕ} 0 1 = cc in omega arith)
first_one (suc (suc (suc (suc (suc (suc (suc (suc (suc (suc (suc (suc (suc (suc (suc (suc (suc (suc (suc (suc (suc (suc (suc zero))))))))))))))))))))))) y h a b c d e f = absurd (let z : ◌≡◌ {A = ℕ} 0 1 = cc in omega arith)
first_one (suc (suc (suc (suc (suc (suc (suc (suc (suc (suc (suc (suc (suc (suc (suc (suc (suc (suc (suc (suc (suc (suc (suc (suc zero)))))))))))))))))))))))) y h a b c d e f = absurd (let z : ◌≡◌ {A = ℕ} 0 1 = cc in omega arith)
first_one (suc (suc (suc (suc (suc (suc (suc (suc (suc (suc (suc (suc (suc (suc (suc (suc (suc (suc (suc (suc (suc (suc (suc (suc (suc zero))))))))))))))))))))))))) y h a b c d e f = absurd (let z : ◌≡◌ {A = ℕ} 0 1 = cc in omega arith)
first_one (suc (suc (suc (suc (suc (suc (suc (suc (suc (suc (suc (suc (suc (suc (suc (suc (suc (suc (suc (suc (suc (suc (suc (suc (suc (suc zero)))))))))))))))))))))))))) y h a b c d e f = absurd (let z : ◌≡◌ {A = ℕ} 0 1 = cc in omega arith)
first_one (suc (suc (suc (suc (suc (suc (suc (suc (suc (suc (suc (suc (suc (suc (suc (suc (suc (suc (suc (suc (suc (suc (suc (suc (suc (suc (suc zero))))))))))))))))))))))))))) y h a b c d e f = absurd (let z : ◌≡◌ {A = ℕ} 0 1 = cc in omega arith)
first_one (suc (suc (suc (suc (suc (suc (suc (suc (suc (suc (suc (suc (suc (suc (suc (suc (suc (suc (suc (suc (suc (suc (suc (suc (suc (suc (suc (suc zero)))))))))))))))))))))))))))) y h a b c d e f = absurd (let z : ◌≡◌ {A = ℕ} 0 1 = cc in omega arith)
first_one (suc (suc (suc (suc (suc (suc (suc (suc (suc (suc (suc (suc (suc (suc (suc (suc (suc (suc (suc (suc (suc (suc (suc (suc (suc (suc (suc (suc (suc zero))))))))))))))))))))))))))))) y h a b c d e f = absurd (let z : ◌≡◌ {A = ℕ} 0 1 = cc in omega arith)
first_one (suc (suc (suc (suc (suc (suc (suc (suc (suc (suc (suc (suc (suc (suc (suc (suc (suc (suc (suc (suc (suc (suc (suc (suc (suc (suc (suc (suc (suc (suc k)))))))))))))))))))))))))))))) y h a b c d e f = absurd (let z : ◌≡◌ {A = ℕ} 0 1 = cc in omega arith)

-- the kinds that give no block a value to take up, by their numbers
pub still_kind : (k : ℕ) → k < 16 → (k ≡ 2 → ⊥) → (k ≡ 6 → ⊥) → (k ≡ 11 → ⊥) → Still (kind_of k)
still_kind k h a b c = go (kind_of k) refl
  where
    go : (g : Kind) → g ≡ kind_of k → Still g
    go New q = tt
    go Cast q = tt
    go Literal q = absurd (a (kind_number k Literal q))
    go Var q = tt
    go Add q = tt
    go Eq q = tt
    go Assign q = absurd (b (kind_number k Assign q))
    go Get q = tt
    go Set q = tt
    go Call q = tt
    go Block q = tt
    go Seq q = absurd (c (kind_number k Seq q))
    go If q = tt
    go While q = tt
    go Throw q = tt
    go Try q = tt
    go Unknown q = absurd (omega (arith, h, kind_number k Unknown q))

-- only 2 is the number of literals
pub not_literal_kind : (k : ℕ) → (k ≡ 2 → ⊥) → kind_of k ≡ Literal → ⊥
not_literal_kind k d e = d (kind_number k Literal (sym e))
