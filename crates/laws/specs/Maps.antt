-- Laws of maps and their tables: `upd`, `tabulate`, `from`, and stretches of a table.
use Rattle.std.specs.Prelude.{◌≡◌, Bool, length, get_or, drop}
use Rattle.std.proofs.Math.Path.{refl, ap, fun_ext}
use Rattle.std.proofs.Common.{sym, ◌∙◌, drop_of_length-le, drop-cons}
use Rattle.std.proofs.Math.Bool.{true, false, cond}
use Rattle.std.proofs.Math.Option.{none, some}
use mathlib.Core.List.{List, [], ◌∷◌, ◌++◌, map}
use Prim.Native.Nat.{ℕ, zero, suc, ◌+◌, ◌-◌, ◌≤◌, ◌<◌}
use native.Mathlib.Omega.{arith}
use Rattle.std.proofs.Math.Dec.{eqb}
use borrow.Author.Tests.{eqb-true, eq-eqb, ne_eqb}
use Rattle.rules.specs.Maps.{upd, tabulate, from}
use Rattle.rules.specs.Numbers.{joined}

module _ {ℓ} {A : Type ℓ} where
  pub upd_same : (f : ℕ → A) (x : ℕ) (a : A) → upd f x a x ≡ a
  unfolding upd
  upd_same f x a = rw (eq-eqb x x refl)

  pub upd_other : (f : ℕ → A) (x : ℕ) (a : A) (y : ℕ) → (x ≡ y → ⊥) → upd f x a y ≡ f y
  unfolding upd
  upd_other f x a y h = rw (ne_eqb x y h)

  pub upd_twice : (f : ℕ → A) (x : ℕ) (a b : A) → upd (upd f x a) x b ≡ upd f x b
  unfolding upd
  upd_twice f x a b = fun_ext (λ y. go (eqb x y) (f y))
    where
      go : (t : Bool) (c : A) → cond t b (cond t a c) ≡ cond t b c
      go true c = refl
      go false c = refl

  -- a place changed and given back what it had
  pub upd_restore : (f : ℕ → A) (x : ℕ) (a : A) → upd (upd f x a) x (f x) ≡ f
  unfolding upd
  upd_restore f x a = fun_ext (λ y. go y (eqb x y) refl)
    where
      go : (y : ℕ) (t : Bool) → eqb x y ≡ t → cond t (f x) (cond t a (f y)) ≡ f y
      go y true e = rw (eqb-true x y e)
      go y false e = refl

  -- what the map has already
  pub upd_own : (f : ℕ → A) (x : ℕ) (a : A) → f x ≡ a → upd f x a ≡ f
  unfolding upd
  upd_own f x a h = fun_ext (λ y. go y (eqb x y) refl)
    where
      go : (y : ℕ) (t : Bool) → eqb x y ≡ t → cond t a (f y) ≡ f y
      go y true e = rw (← h, eqb-true x y e)
      go y false e = refl

-- Two maps under a relation: updated alike,
pub upd_rel : {A B : Type 0} (R : A → B → Type 0) (f : ℕ → A) (g : ℕ → B) (x : ℕ) {a : A} {b : B} (y : ℕ) → R a b
    → R (f y) (g y) → R (upd f x a y) (upd g x b y)
unfolding upd
upd_rel R f g x {a} {b} y p q = go (eqb x y)
  where
    go : (t : Bool) → R (cond t a (f y)) (cond t b (g y))
    go true = p
    go false = q

-- one of them updated in keeping with the other,
pub upd_keep : {A B : Type 0} (R : A → B → Type 0) (f : ℕ → A) (g : ℕ → B) (x : ℕ) {a : A} (y : ℕ) → R a (g x)
    → R (f y) (g y) → R (upd f x a y) (g y)
unfolding upd
upd_keep R f g x {a} y p q = go (eqb x y) refl
  where
    go : (t : Bool) → eqb x y ≡ t → R (cond t a (f y)) (g y)
    go true e = rw (← eqb-true x y e) p
    go false e = q

-- and a place given back what it had.
pub restore_rel : {A B : Type 0} (R : A → B → Type 0) (f h : ℕ → A) (g : ℕ → B) (x y : ℕ) (b : B) → R (h y) (upd g x b y)
    → R (f y) (g y) → R (upd h x (f x) y) (g y)
unfolding upd
restore_rel R f h g x y b p q = go (eqb x y) refl p
  where
    go : (t : Bool) → eqb x y ≡ t → R (h y) (cond t b (g y)) → R (cond t (f x) (h y)) (g y)
    go true e r = rw (eqb-true x y e) q
    go false e r = r

module _ {ℓ} {A : Type ℓ} where
  pub length_tabulate : (n : ℕ) (f : ℕ → A) → length (tabulate n f) ≡ n
  unfolding tabulate
  length_tabulate zero f = refl
  length_tabulate (suc n) f = ap suc (length_tabulate n (λ i. f (suc i)))

  pub get_d_tabulate : (n : ℕ) (f : ℕ → A) (i : ℕ) (d : A) → i < n → get_or (tabulate n f) i d ≡ f i
  unfolding tabulate
  get_d_tabulate zero f i d h = absurd (omega arith)
  get_d_tabulate (suc n) f zero d h = refl
  get_d_tabulate (suc n) f (suc i) d h = get_d_tabulate n (λ i. f (suc i)) i d (omega arith)

  pub drop_tabulate : (n : ℕ) (f : ℕ → A) (i : ℕ) → i < n → drop i (tabulate n f) ≡ f i ∷ drop (suc i) (tabulate n f)
  drop_tabulate n f i h =
      rw (drop-cons (tabulate n f) i (f i) (rw length_tabulate h), get_d_tabulate n f i (f i) h)

  pub drop_tabulate_all : (n : ℕ) (f : ℕ → A) (i : ℕ) → n ≤ i → drop i (tabulate n f) ≡ []
  drop_tabulate_all n f i h = drop_of_length-le (tabulate n f) {i = i} (rw length_tabulate h)

  -- maps that agree below n
  pub tabulate_same : (n : ℕ) (f g : ℕ → A) → ((i : ℕ) → i < n → f i ≡ g i) → tabulate n f ≡ tabulate n g
  unfolding tabulate
  tabulate_same zero f g h = refl
  tabulate_same (suc n) f g h =
      rw (h 0 (omega arith), tabulate_same n (λ i. f (suc i)) (λ i. g (suc i)) (λ i k. h (suc i) (omega arith)))

  pub tabulate_append : (n m : ℕ) (f : ℕ → A) → tabulate n f ++ tabulate m (λ i. f (n + i)) ≡ tabulate (n + m) f
  unfolding tabulate
  tabulate_append zero m f =
      let e : 0 + m ≡ m = omega arith in
      rw e (tabulate_same m (λ i. f (0 + i)) f (λ i h. let q : 0 + i ≡ i = omega arith in ap f q))
  tabulate_append (suc n) m f =
      let e : suc n + m ≡ suc (n + m) = omega arith in
      rw (e, ← tabulate_append n m (λ i. f (suc i)))
      (ap (λ (l : List A). f 0 ∷ (tabulate n (λ i. f (suc i)) ++ l))
      (tabulate_same m (λ i. f (suc n + i)) (λ i. f (suc (n + i))) (λ i h. let q : suc n + i ≡ suc (n + i) = omega arith in ap f q)))

  pub tabulate_last : (n : ℕ) (f : ℕ → A) → tabulate (suc n) f ≡ tabulate n f ++ (f n ∷ [])
  unfolding tabulate
  tabulate_last zero f = refl
  tabulate_last (suc n) f = ap (f 0 ∷◌) (tabulate_last n (λ i. f (suc i)))

  -- a list is the table of its elements
  pub tabulate_get_d : (l : List A) (d : A) → tabulate (length l) (λ i. get_or l i d) ≡ l
  unfolding tabulate
  tabulate_get_d [] d = refl
  tabulate_get_d (a ∷ l) d = ap (a ∷◌) (tabulate_get_d l d)

  pub from_at : (x : ℕ) (l : List A) (i : ℕ) (d : A) → i < length l → from x l (x + i) ≡ some (get_or l i d)
  unfolding from
  from_at x [] i d h = absurd (omega arith)
  from_at x (a ∷ l) zero d h = let e : x + 0 ≡ x = omega arith in rw e (upd_same (from (suc x) l) x (some a))
  from_at x (a ∷ l) (suc i) d h =
      let e : x + suc i ≡ suc x + i = omega arith in
      upd_other (from (suc x) l) x (some a) (x + suc i) (λ q. omega arith)
      ∙ ap (from (suc x) l) e
      ∙ from_at (suc x) l i d (omega arith)

  pub from_below : (x : ℕ) (l : List A) (y : ℕ) → y < x → from x l y ≡ none
  unfolding from
  from_below x [] y h = refl
  from_below x (a ∷ l) y h =
      upd_other (from (suc x) l) x (some a) y (λ q. omega arith) ∙ from_below (suc x) l y (omega arith)

  pub from_beyond : (x : ℕ) (l : List A) (y : ℕ) → x + length l ≤ y → from x l y ≡ none
  unfolding from
  from_beyond x [] y h = refl
  from_beyond x (a ∷ l) y h =
      upd_other (from (suc x) l) x (some a) y (λ q. omega arith) ∙ from_beyond (suc x) l y (omega arith)

-- what holds of every value of a map holds all over its table
pub tabulate_all {ℓ} : {A : Type ℓ} (Q : A → Type 0) (n : ℕ) (f : ℕ → A) (i : ℕ) (d : A) → ((j : ℕ) → Q (f j)) → Q d
    → Q (get_or (tabulate n f) i d)
unfolding tabulate
tabulate_all Q zero f i d h q = q
tabulate_all Q (suc n) f zero d h q = h 0
tabulate_all Q (suc n) f (suc i) d h q = tabulate_all Q n (λ j. f (suc j)) i d (λ j. h (suc j)) q

pub map_tabulate {ℓ κ} : {A : Type ℓ} {B : Type κ} (g : A → B) (n : ℕ) (f : ℕ → A)
    → map g (tabulate n f) ≡ tabulate n (λ i. g (f i))
unfolding tabulate
map_tabulate g zero f = refl
map_tabulate g (suc n) f = ap (g (f 0) ∷◌) (map_tabulate g n (λ i. f (suc i)))

pub get_d_map {ℓ κ} : {A : Type ℓ} {B : Type κ} (g : A → B) (l : List A) (i : ℕ) (b : B) (a : A) → i < length l
    → get_or (map g l) i b ≡ g (get_or l i a)
get_d_map g [] i b a h = absurd (omega arith)
get_d_map g (x ∷ l) zero b a h = refl
get_d_map g (x ∷ l) (suc i) b a h = get_d_map g l i b a (omega arith)

-- The values of a map from b on and below e.
unfoldable pub stretch {ℓ} : {A : Type ℓ} → (ℕ → A) → (b e : ℕ) → List A
stretch f b e = tabulate (e - b) (λ i. f (b + i))

module _ {ℓ} {A : Type ℓ} (f : ℕ → A) where
  pub length_stretch : (b e : ℕ) → length (stretch f b e) ≡ e - b
  unfolding stretch
  length_stretch b e = length_tabulate (e - b) (λ i. f (b + i))

  pub stretch_from : (b n : ℕ) → stretch f b (b + n) ≡ tabulate n (λ i. f (b + i))
  unfolding stretch
  stretch_from b n = let e : b + n - b ≡ n = omega arith in rw e

  pub stretch_zero : (n : ℕ) → stretch f 0 n ≡ tabulate n f
  unfolding stretch
  stretch_zero n =
      let e : n - 0 ≡ n = omega arith in
      rw e (tabulate_same n (λ i. f (0 + i)) f (λ i h. let q : 0 + i ≡ i = omega arith in ap f q))

  pub stretch_none : (b : ℕ) → stretch f b b ≡ []
  unfolding stretch tabulate
  stretch_none b = let e : b - b ≡ 0 = omega arith in rw e

  pub stretch_append : (b m e : ℕ) → b ≤ m → m ≤ e → stretch f b m ++ stretch f m e ≡ stretch f b e
  unfolding stretch
  stretch_append b m e h k =
      let p : m - b + (e - m) ≡ e - b = omega arith in
      let q =
      tabulate_same (e - m) (λ i. f (m + i)) (λ i. f (b + (m - b + i)))
      (λ i l. let z : m + i ≡ b + (m - b + i) = omega arith in ap f z) in
      rw (q, ← p) (tabulate_append (m - b) (e - m) (λ i. f (b + i)))

  pub stretch_last : (b n : ℕ) → b ≤ n → stretch f b (suc n) ≡ stretch f b n ++ (f n ∷ [])
  unfolding stretch
  stretch_last b n h =
      let p : suc n - b ≡ suc (n - b) = omega arith in
      let q : b + (n - b) ≡ n = omega arith in
      rw (p, tabulate_last (n - b) (λ i. f (b + i)), q)

  pub stretch_same : (g : ℕ → A) (b e : ℕ) → ((i : ℕ) → b ≤ i → i < e → f i ≡ g i) → stretch f b e ≡ stretch g b e
  unfolding stretch
  stretch_same g b e h = tabulate_same (e - b) _ _ (λ i l. h (b + i) (omega arith) (omega arith))

-- stretches that follow each other
pub rising_le : (s : ℕ → ℕ) (n : ℕ) → ((i : ℕ) → i < n → s i ≤ s (suc i)) → s 0 ≤ s n
rising_le s zero h = omega arith
rising_le s (suc n) h = omega (arith, h n (omega arith), rising_le s n (λ i l. h i (omega arith)))

pub joined_stretches {ℓ} : {A : Type ℓ} (f : ℕ → A) (s : ℕ → ℕ) (n : ℕ) → ((i : ℕ) → i < n → s i ≤ s (suc i))
    → joined (tabulate n (λ i. stretch f (s i) (s (suc i)))) ≡ stretch f (s 0) (s n)
unfolding joined tabulate
joined_stretches f s zero h = sym (stretch_none f (s 0))
joined_stretches f s (suc n) h =
    let u : ℕ → ℕ = λ i. s (suc i) in
    let k : (i : ℕ) → i < n → u i ≤ u (suc i) = λ i l. h (suc i) (omega arith) in
    rw (joined_stretches f u n k) (stretch_append f (s 0) (s 1) (s (suc n)) (h 0 (omega arith)) (rising_le u n k))
