-- Laws of frames' tags: a number that has a tag is that tag's, and any other has none.
use Rattle.std.specs.Prelude.{◌≡◌, Bool, true, false, cond, List, [], ◌∷◌, ℕ, eqb, ⊤}
use Rattle.std.proofs.Common.{refl, ◌∙◌, ap, eqb-true, ne_eqb}
use Rattle.room.specs.declared.Tag.{Tag}
use Rattle.room.specs.declared.Tag.TheVariants.{Cast, AddFirst, EqFirst, Assign, Get, SetFirst, Call, Block, Seq, If, Test, Throw, Try, AddSecond, EqSecond, SetSecond, Loop, Unknown}
use Rattle.room.specs.Tags.{tags, tag_in, tag_of}

-- a number that has a tag is that tag's
abbrev pub Numbered : ℕ → Tag → Type 0
Numbered t Cast = t ≡ 1
Numbered t AddFirst = t ≡ 4
Numbered t EqFirst = t ≡ 5
Numbered t Assign = t ≡ 6
Numbered t Get = t ≡ 7
Numbered t SetFirst = t ≡ 8
Numbered t Call = t ≡ 9
Numbered t Block = t ≡ 10
Numbered t Seq = t ≡ 11
Numbered t If = t ≡ 12
Numbered t Test = t ≡ 13
Numbered t Throw = t ≡ 14
Numbered t Try = t ≡ 15
Numbered t AddSecond = t ≡ 20
Numbered t EqSecond = t ≡ 21
Numbered t SetSecond = t ≡ 24
Numbered t Loop = t ≡ 29
Numbered t Unknown = ⊤

abbrev AllNumbered : List (ℕ × Tag) → Type 0
AllNumbered [] = ⊤
AllNumbered (e ∷ rest) = Numbered e.0 e.1 × AllNumbered rest

numbered_in : (l : List (ℕ × Tag)) (t : ℕ) → AllNumbered l → Numbered t (tag_in l t)
unfolding tag_in
numbered_in [] t k = tt
numbered_in (e ∷ rest) t k = go (eqb t e.0) refl (numbered_in rest t k.1)
  where
    go : (b : Bool) → eqb t e.0 ≡ b → Numbered t (tag_in rest t) → Numbered t (cond b e.1 (tag_in rest t))
    go true q ih = rw (eqb-true t e.0 q) k.0
    go false q ih = ih

pub numbered : (t : ℕ) (g : Tag) → g ≡ tag_of t → Numbered t g
unfolding tag_of
numbered t g e =
    rw e
    (numbered_in tags t
    (refl, (refl, (refl, (refl, (refl, (refl, (refl, (refl, (refl, (refl, (refl, (refl, (refl, (refl, (refl, (refl, (refl, tt))))))))))))))))))

-- a number that has no tag
abbrev NoneOf : ℕ → List (ℕ × Tag) → Type 0
NoneOf t [] = ⊤
NoneOf t (e ∷ rest) = (t ≡ e.0 → ⊥) × NoneOf t rest

none_in : (l : List (ℕ × Tag)) (t : ℕ) → NoneOf t l → tag_in l t ≡ Unknown
unfolding tag_in
none_in [] t k = refl
none_in (e ∷ rest) t k = rw (ne_eqb t e.0 k.0) (none_in rest t k.1)

pub no_tag : (t : ℕ) → (t ≡ 1 → ⊥) → (t ≡ 4 → ⊥) → (t ≡ 5 → ⊥) → (t ≡ 6 → ⊥) → (t ≡ 7 → ⊥) → (t ≡ 8 → ⊥) → (t ≡ 9 → ⊥) → (t ≡ 10 → ⊥)
    → (t ≡ 11 → ⊥) → (t ≡ 12 → ⊥) → (t ≡ 13 → ⊥) → (t ≡ 14 → ⊥) → (t ≡ 15 → ⊥) → (t ≡ 20 → ⊥) → (t ≡ 21 → ⊥) → (t ≡ 24 → ⊥) → (t ≡ 29 → ⊥)
    → tag_of t ≡ Unknown
unfolding tag_of
no_tag t a1 a4 a5 a6 a7 a8 a9 a10 a11 a12 a13 a14 a15 a20 a21 a24 a29 =
    none_in tags t (a1, (a4, (a5, (a6, (a7, (a8, (a9, (a10, (a11, (a12, (a13, (a14, (a15, (a20, (a21, (a24, (a29, tt)))))))))))))))))

-- a frame that code reads as another tag has not the number n
pub other_tag : (t n : ℕ) (g r : Tag) → r ≡ tag_of t → tag_of n ≡ g → (r ≡ g → ⊥) → t ≡ n → ⊥
other_tag t n g r e q d z = d (e ∙ ap tag_of z ∙ q)
