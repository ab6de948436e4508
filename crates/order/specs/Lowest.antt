-- Laws: `answer_of` tells the lowest breach of rules listed with rising numbers, and nothing else does.
use Rattle.std.specs.Prelude.{Bool, true, false, cond, ◌≡◌, refl, List, [], ◌∷◌, ◌++◌, ◌⊎◌, ◌↔◌, ℕ, zero, suc, ◌+◌, ◌≤◌, ◌<◌}
use Rattle.std.proofs.Common.{sym, ◌∙◌, ap, inl, inr, ⊎_elim, arith}
use Rattle.std.specs.declared.option.Option.{Option}
use Rattle.std.specs.declared.option.Option.TheVariants.{Some, None}
use Rattle.order.specs.declared.Answer.{Answer}
use Rattle.order.specs.Rules.{Rule, scan, first_place, accepted, or_else, answer_of, Broken, Breach, Lowest, Sound, Tells}

eq_or_less : (i j : ℕ) → i ≤ j → (i ≡ j) ⊎ (suc i ≤ j)
eq_or_less zero zero h = inl refl
eq_or_less zero (suc j) h = inr (omega arith)
eq_or_less (suc i) zero h = absurd (omega arith)
eq_or_less (suc i) (suc j) h = ⊎_elim (λ e. inl (ap suc e)) (λ e. inr (omega arith)) (eq_or_less i j (omega arith))

-- what a scan that found a place, or none, has seen
abbrev Seen : (ℕ → Bool) → ℕ → ℕ → Option ℕ → Type 0
Seen test k i (Some p) =
    record {
      low : i ≤ p;
      high : p < i + k;
      fails : test p ≡ false;
      lower : (q : ℕ) → i ≤ q → q < p → test q ≡ true;
    }
Seen test k i None = (q : ℕ) → i ≤ q → q < i + k → test q ≡ true

seen_on : (test : ℕ → Bool) (k i : ℕ) (f : Option ℕ) → test i ≡ true → Seen test k (suc i) f → Seen test (suc k) i f
seen_on test k i (Some p) e s =
    record {
      low = omega (arith, s.low);
      high = omega (arith, s.high);
      fails = s.fails;
      lower = λ q h l. ⊎_elim (λ (z : i ≡ q). rw (← z) e) (λ z. s.lower q z l) (eq_or_less i q h);
    }
seen_on test k i None e s = λ q h l. ⊎_elim (λ (z : i ≡ q). rw (← z) e) (λ z. s q z (omega arith)) (eq_or_less i q h)

seen : (test : ℕ → Bool) (k i : ℕ) → Seen test k i (scan test k i)
unfolding scan
seen test zero i = λ q h l. absurd (omega arith)
seen test (suc k) i = go (test i) refl (seen test k (suc i))
  where
    go : (b : Bool) → test i ≡ b → Seen test k (suc i) (scan test k (suc i)) → Seen test (suc k) i (cond b (scan test k (suc i)) (Some i))
    go true e s = seen_on test k i (scan test k (suc i)) e s
    go false e s = record { low = omega arith; high = omega arith; fails = e; lower = λ q h l. absurd (omega arith) }

-- a rule that is broken nowhere holds at all its places
pub held : (r : Rule) → first_place r ≡ None → (p : ℕ) → p < r.places → r.holds p ≡ true
unfolding first_place
held r e p h = (rw e at (seen r.holds r.places 0)) p (omega arith) (omega arith)

-- a rule's first place is broken, and it holds below
pub record First (r : Rule) (p : ℕ) : Type 0 where
  pub broken : Broken r p
  pub lower : (q : ℕ) → q < p → r.holds q ≡ true

pub found : (r : Rule) (p : ℕ) → first_place r ≡ Some p → First r p
unfolding first_place
found r p e =
    let s = rw e at (seen r.holds r.places 0) in
    record { broken = record { within = omega (arith, s.high); fails = s.fails }; lower = λ q h. s.lower q (omega arith) h }

-- numbers rise, each above the one before
abbrev pub Rising : ℕ → List Rule → Type 0
Rising n [] = Unit
Rising n (r ∷ rs) = (n < r.number) × Rising r.number rs

never : {A : Type 0} (b : Bool) → b ≡ true → b ≡ false → A
never b p q = absurd (let z : ◌≡◌ {A = ℕ} 0 1 = cc in omega arith)

above : (n : ℕ) (rs : List Rule) → Rising n rs → (m q : ℕ) → Breach rs m q → n < m
above n [] g m q b = absurd b
above n (r ∷ rs) g m q b =
    ⊎_elim (λ (z : (r.number ≡ m) × Broken r q). omega (arith, z.0, g.0)) (λ z. omega (arith, g.0, above r.number rs g.1 m q z)) b

le_or : (a n : ℕ) → (a ≤ n) ⊎ (n < a)
le_or zero n = inl (omega arith)
le_or (suc a) zero = inr (omega arith)
le_or (suc a) (suc n) = ⊎_elim (λ h. inl (omega arith)) (λ h. inr (omega arith)) (le_or a n)

module _ (n : ℕ) (r : Rule) (rs : List Rule) (g : Rising n (r ∷ rs)) where
  tells_here : (p : ℕ) → First r p → Lowest (r ∷ rs) r.number p
  tells_here p f =
      record {
        breach = inl (refl, f.broken);
        first =
            λ m q b.
            ⊎_elim
            (λ (z : (r.number ≡ m) × Broken r q).
            inr
            (z.0, ⊎_elim (λ h. h) (λ (h : q < p). never (r.holds q) (f.lower q h) z.1.fails) (le_or p q)))
            (λ z. inl (above r.number rs g.1 m q z))
            b;
      }

  none_here : ((p : ℕ) → p < r.places → r.holds p ≡ true) → (m q : ℕ) → ((r.number ≡ m) × Broken r q) → ⊥
  none_here h m q z = never (r.holds q) (h q z.1.within) z.1.fails

  tells_later : (a : Answer) → ((p : ℕ) → p < r.places → r.holds p ≡ true) → Tells rs a → Tells (r ∷ rs) a
  tells_later a h t =
      ⊎_elim
      (λ (s : Sound rs × (a ≡ accepted)).
      inl (record { none = λ m q b. ⊎_elim (none_here h m q) (s.0.none m q) b }, s.1))
      (λ (l : Lowest rs a.number a.place).
      inr
      (record {
        breach = inr l.breach;
        first = λ m q b. ⊎_elim (λ z. absurd (none_here h m q z)) (l.first m q) b;
      }))
      t

-- the answer that the walk gives is the one that the rules call for
pub tells : (n : ℕ) (rs : List Rule) → Rising n rs → Tells rs (answer_of rs)
unfolding answer_of
tells n [] g = inl (record { none = λ m q b. b }, refl)
tells n (r ∷ rs) g = go (first_place r) refl (tells r.number rs g.1)
  where
    go : (f : Option ℕ) → first_place r ≡ f → Tells rs (answer_of rs) → Tells (r ∷ rs) (or_else r.number f (answer_of rs))
    go (Some p) e t = inr (tells_here n r rs g p (found r p e))
    go None e t = tells_later n r rs g (answer_of rs) (held r e) t

-- and no other answer is: two answers that the rules call for are equal
pub unique : (rs : List Rule) (a b : Answer) → Tells rs a → Tells rs b → a ≡ b
unique rs a b s t =
    ⊎_elim
    (λ (u : Sound rs × (a ≡ accepted)).
    ⊎_elim
    (λ (v : Sound rs × (b ≡ accepted)). u.1 ∙ sym v.1)
    (λ (l : Lowest rs b.number b.place). absurd (u.0.none _ _ l.breach))
    t)
    (λ (k : Lowest rs a.number a.place).
    ⊎_elim
    (λ (v : Sound rs × (b ≡ accepted)). absurd (v.0.none _ _ k.breach))
    (λ (l : Lowest rs b.number b.place). same k l (k.first _ _ l.breach) (l.first _ _ k.breach))
    t)
    s
  where
    both : (k : (a.number < b.number) ⊎ ((a.number ≡ b.number) × (a.place ≤ b.place)))
        → (l : (b.number < a.number) ⊎ ((b.number ≡ a.number) × (b.place ≤ a.place)))
        → (a.number ≡ b.number) × (a.place ≡ b.place)
    both k l =
        ⊎_elim
        (λ x. ⊎_elim (λ y. absurd (omega arith)) (λ (y : (b.number ≡ a.number) × (b.place ≤ a.place)). absurd (omega arith)) l)
        (λ (x : (a.number ≡ b.number) × (a.place ≤ b.place)).
        ⊎_elim (λ y. absurd (omega arith)) (λ (y : (b.number ≡ a.number) × (b.place ≤ a.place)). (x.0, omega arith)) l)
        k

    same : Lowest rs a.number a.place → Lowest rs b.number b.place
        → ((a.number < b.number) ⊎ ((a.number ≡ b.number) × (a.place ≤ b.place)))
        → ((b.number < a.number) ⊎ ((b.number ≡ a.number) × (b.place ≤ a.place)))
        → a ≡ b
    same k l x y = let z = both x y in λ i. record { number = z.0 i; place = z.1 i }

-- an enum answer that is found again from its numbers is determined by them
pub determined : {A : Type 0} (numbers : A → Answer) (of : Answer → A) → ((a : A) → of (numbers a) ≡ a) → (a b : A) → numbers a ≡ numbers b → a ≡ b
determined numbers of back a b e = sym (back a) ∙ ap of e ∙ back b

-- For rules with rising numbers: an answer is the walk's exactly when the rules call for it,
pub only : (rs : List Rule) → Rising 0 rs → (a : Answer) → (a ≡ answer_of rs) ↔ Tells rs a
only rs g a = ((λ e. rw e (tells 0 rs g)), λ t. unique rs a (answer_of rs) t (tells 0 rs g))

-- and it is 0 exactly when no rule is broken anywhere.
pub accepts : (rs : List Rule) → Rising 0 rs → (answer_of rs ≡ accepted) ↔ Sound rs
accepts rs g = (
  λ e.
      ⊎_elim
      (λ (s : Sound rs × (accepted ≡ accepted)). s.0)
      (λ (l : Lowest rs 0 0). absurd (omega (arith, above 0 rs g 0 0 l.breach)))
      ((only rs g accepted).0 (sym e)),
  λ s. sym ((only rs g accepted).1 (inl (s, refl))),
)

-- Rules that are asked after others: what they say counts where the others are broken nowhere.
pub after_broken : (rs ss : List Rule) (a : Answer) → a ≡ answer_of rs → 0 < a.number → a ≡ answer_of (rs ++ ss)
unfolding answer_of
after_broken [] ss a e h = absurd (let z : a.number ≡ 0 = ap (λ (a : Answer). a.number) e in omega arith)
after_broken (r ∷ rs) ss a e h = go (first_place r) e (λ q. after_broken rs ss a q h)
  where
    go : (f : Option ℕ) → a ≡ or_else r.number f (answer_of rs) → (a ≡ answer_of rs → a ≡ answer_of (rs ++ ss))
        → a ≡ or_else r.number f (answer_of (rs ++ ss))
    go (Some q) e ih = e
    go None e ih = ih e

pub after_sound : (b : ℕ) (rs ss : List Rule) → Rising b rs → accepted ≡ answer_of rs → answer_of ss ≡ answer_of (rs ++ ss)
unfolding answer_of
after_sound b [] ss g e = refl
after_sound b (r ∷ rs) ss g e = go (first_place r) e (λ q. after_sound r.number rs ss g.1 q)
  where
    go : (f : Option ℕ) → accepted ≡ or_else r.number f (answer_of rs) → (accepted ≡ answer_of rs → answer_of ss ≡ answer_of (rs ++ ss))
        → answer_of ss ≡ or_else r.number f (answer_of (rs ++ ss))
    go (Some q) e ih = absurd (let z : 0 ≡ r.number = ap (λ (a : Answer). a.number) e in omega (arith, g.0))
    go None e ih = ih e
