-- Laws of a search by halves, over any strictly rising keys; and of the first record that passes a test.
use Rattle.std.specs.Prelude.{◌≡◌, refl, Bool, true, false, cond, List, [], ◌∷◌, ◌⊎◌, ℕ, zero, suc, ◌+◌, ◌≤◌, ◌<◌}
use Rattle.std.proofs.Math.Option.{Option, none, some}
use Rattle.std.proofs.Common.{inl, inr, ⊎_elim, arith}
use Rattle.std.proofs.Math.Decide.{dec_lt}
use Rattle.rules.specs.Maps.{tabulate}

-- either order, to go by cases
pub lt_or_ge : (a n : ℕ) → (a < n) ⊎ (n ≤ a)
lt_or_ge a n = elim (dec_lt a n) [ yes h ↦ inl h | no h ↦ inr (omega arith) ]

-- each of n keys is above the one before it
abbrev pub Rising : (ℕ → ℕ) → ℕ → Type 0
Rising key n = (i : ℕ) → suc i < n → key i < key (suc i)

-- and so above all before it
pub rising : (key : ℕ → ℕ) (n : ℕ) → Rising key n → (i j : ℕ) → i < j → j < n → key i < key j
rising key n r i zero h k = absurd (omega arith)
rising key n r i (suc j) h k =
    ⊎_elim
    (λ (p : i < j). let a = rising key n r i j p (omega arith) in let b = r j k in omega arith)
    (λ (p : j ≤ i). let e : i ≡ j = omega arith in rw e (r j k))
    (lt_or_ge i j)

-- A search that has lo and hi left, for a key t: below lo all is lower, and from hi on all is higher.
pub record Between (key : ℕ → ℕ) (n t lo hi : ℕ) : Type 0 where
  pub ordered : lo ≤ hi
  pub within : hi ≤ n
  pub low : (i : ℕ) → i < lo → key i < t
  pub high : (i : ℕ) → hi ≤ i → i < n → t < key i

pub whole : (key : ℕ → ℕ) (n t : ℕ) → Between key n t 0 n
whole key n t =
    record { ordered = omega arith; within = omega arith; low = λ i h. absurd (omega arith); high = λ i h k. absurd (omega arith) }

-- the middle key is too low
pub upper : {key : ℕ → ℕ} {n t lo hi : ℕ} → Rising key n → Between key n t lo hi → (mid : ℕ) → mid < hi → key mid < t → Between key n t (mid + 1) hi
upper {key} {n} {t} {lo} {hi} r b mid h k =
    record {
      ordered = omega arith;
      within = b.within;
      low =
          λ i p.
          ⊎_elim
          (λ (q : i < mid). let a = rising key n r i mid q (omega arith) in omega arith)
          (λ (q : mid ≤ i). let e : i ≡ mid = omega arith in rw e k)
          (lt_or_ge i mid);
      high = b.high;
    }

-- the middle key is too high
pub lower : {key : ℕ → ℕ} {n t lo hi : ℕ} → Rising key n → Between key n t lo hi → (mid : ℕ) → lo ≤ mid → mid < hi → t < key mid → Between key n t lo mid
lower {key} {n} {t} {lo} {hi} r b mid l h k =
    record {
      ordered = l;
      within = omega arith;
      low = b.low;
      high =
          λ i p q.
          ⊎_elim
          (λ (s : mid < i). let a = rising key n r mid i s q in omega arith)
          (λ (s : i ≤ mid). let e : i ≡ mid = omega arith in rw e k)
          (lt_or_ge mid i);
    }

-- nothing is left: no record has the key
pub missed : {key : ℕ → ℕ} {n t lo hi : ℕ} → Between key n t lo hi → hi ≤ lo → (i : ℕ) → i < n → key i ≡ t → ⊥
missed {key} {n} {t} {lo} {hi} b h i k e =
    ⊎_elim
    (λ (p : i < lo). let a = b.low i p in omega arith)
    (λ (p : lo ≤ i). let a = b.high i (omega arith) k in omega arith)
    (lt_or_ge i lo)

-- The first element that passes a test.
unfoldable pub first_of : {A : Type 0} → (A → Bool) → List A → Option A
first_of p [] = none
first_of p (a ∷ l) = cond (p a) (some a) (first_of p l)

pub first_at : {A : Type 0} (p : A → Bool) (n : ℕ) (f : ℕ → A) (i : ℕ) → i < n → p (f i) ≡ true
    → ((j : ℕ) → j < i → p (f j) ≡ false) → first_of p (tabulate n f) ≡ some (f i)
unfolding first_of tabulate
first_at p zero f i h e b = absurd (omega arith)
first_at p (suc n) f zero h e b = rw e
first_at p (suc n) f (suc i) h e b =
    rw (b 0 (omega arith)) (first_at p n (λ j. f (suc j)) i (omega arith) e (λ j k. b (suc j) (omega arith)))

pub first_none : {A : Type 0} (p : A → Bool) (n : ℕ) (f : ℕ → A) → ((j : ℕ) → j < n → p (f j) ≡ false) → first_of p (tabulate n f) ≡ none
unfolding first_of tabulate
first_none p zero f b = refl
first_none p (suc n) f b = rw (b 0 (omega arith)) (first_none p n (λ j. f (suc j)) (λ j k. b (suc j) (omega arith)))
