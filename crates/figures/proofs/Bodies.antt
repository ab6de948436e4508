-- Laws: the first test that fails, where the tests of the bodies stand one after the other and main's after them.
-- They speak of lists of tests alone, so 12 and 13 share them.
use Rattle.std.specs.Prelude.{◌≡◌, refl, Bool, true, false, List, [], ◌∷◌, ◌++◌, ℕ, zero, suc, ◌+◌, ◌-◌, ◌≤◌, ◌<◌, length, get_or}
use Rattle.std.proofs.Common.{sym, ◌∙◌, ap, arith, length-append}
use Rattle.std.proofs.Math.Decide.{ℕ_discrete}
use Rattle.std.specs.declared.option.Option.TheVariants.{Some, None}
use Rattle.order.specs.Rules.{scan, first_place}
use Rattle.image.specs.Layout.{tested}
use Rattle.rules.specs.Maps.{tabulate}
use Rattle.rules.specs.Numbers.{joined}
use Rattle.laws.specs.Maps.{stretch, get_d_tabulate, length_stretch}
use Rattle.figures.specs.FirstBreach.{AllHold, FirstAt, FirstBreach}
use Rattle.figures.specs.Bodies.{Bodies, Told}

-- ONE LIST
never : {A : Type 0} (b : Bool) → b ≡ true → b ≡ false → A
never b p q = absurd (let z : ◌≡◌ {A = ℕ} 0 1 = cc in omega arith)

fails_within : (bs : List Bool) (k : ℕ) → get_or bs k true ≡ false → k < length bs
fails_within [] k e = never true refl e
fails_within (b ∷ bs) zero e = omega arith
fails_within (b ∷ bs) (suc k) e = let z = fails_within bs k e in omega arith

scan_none : (f : ℕ → Bool) (k i : ℕ) → ((j : ℕ) → f j ≡ true) → scan f k i ≡ None
unfolding scan
scan_none f zero i h = refl
scan_none f (suc k) i h = rw (h i) (scan_none f k (suc i) h)

-- of k places from i on, the first that fails is d further
scan_first : (f : ℕ → Bool) (k i d : ℕ) → d < k → f (i + d) ≡ false → ((j : ℕ) → j < i + d → f j ≡ true) → scan f k i ≡ Some (i + d)
unfolding scan
scan_first f zero i d l e h = absurd (omega arith)
scan_first f (suc k) i zero l e h =
    let z : i + 0 ≡ i = omega arith in
    let q : f i ≡ false = rw z at e in
    rw (z, q)
scan_first f (suc k) i (suc d) l e h =
    let z : i + suc d ≡ suc i + d = omega arith in
    rw (h i (omega arith), z) (scan_first f k (suc i) d (omega arith) (rw z at e) (λ j m. h j (omega arith)))

pub first_place_lem : (n : ℕ) (bs : List Bool) (p : ℕ) → FirstAt bs p → Some p ≡ first_place (tested n bs)
unfolding first_place tested
first_place_lem n bs p f =
    let z : 0 + p ≡ p = omega arith in
    sym
    (scan_first (λ i. get_or bs i true) (length bs) 0 p (fails_within bs p f.fails) (rw z f.fails) (λ j m. f.lower j (omega arith))
    ∙ ap Some z)

pub no_place : (n : ℕ) (bs : List Bool) → AllHold bs → None ≡ first_place (tested n bs)
unfolding first_place tested
no_place n bs h = sym (scan_none (λ i. get_or bs i true) (length bs) 0 h)

-- TWO LISTS
pub all_append : (bs cs : List Bool) → AllHold bs → AllHold cs → AllHold (bs ++ cs)
all_append [] cs h k i = k i
all_append (b ∷ bs) cs h k zero = h 0
all_append (b ∷ bs) cs h k (suc i) = all_append bs cs (λ j. h (suc j)) k i

pub first_before : (bs cs : List Bool) (k : ℕ) → FirstAt bs k → FirstAt (bs ++ cs) k
first_before [] cs k f = never true refl f.fails
first_before (b ∷ bs) cs zero f = record { fails = f.fails; lower = λ j l. absurd (omega arith) }
first_before (b ∷ bs) cs (suc k) f =
    let r = first_before bs cs k (record { fails = f.fails; lower = λ j l. f.lower (suc j) (omega arith) }) in
    record { fails = r.fails; lower = elim [ zero ↦ λ l. f.lower 0 l | suc j ↦ λ l. r.lower j (omega arith) ] }

pub first_behind : (bs cs : List Bool) (k : ℕ) → AllHold bs → FirstAt cs k → FirstAt (bs ++ cs) (length bs + k)
first_behind [] cs k h f = let z : 0 + k ≡ k = omega arith in rw z f
first_behind (b ∷ bs) cs k h f =
    let z : suc (length bs) + k ≡ suc (length bs + k) = omega arith in
    let r = first_behind bs cs k (λ j. h (suc j)) f in
    rw z (record { fails = r.fails; lower = elim [ zero ↦ λ l. h 0 | suc j ↦ λ l. r.lower j (omega arith) ] })

-- MANY
pub all_joined : (f : ℕ → List Bool) (m : ℕ) → ((j : ℕ) → j < m → AllHold (f j)) → AllHold (joined (tabulate m f))
unfolding joined tabulate
all_joined f zero h i = refl
all_joined f (suc m) h i =
    all_append (f 0) (joined (tabulate m (λ j. f (suc j)))) (h 0 (omega arith)) (all_joined (λ j. f (suc j)) m (λ j l. h (suc j) (omega arith))) i

pub first_joined : (f : ℕ → List Bool) (m i k : ℕ) → i < m → ((j : ℕ) → j < i → AllHold (f j)) → FirstAt (f i) k
    → FirstAt (joined (tabulate m f)) (length (joined (tabulate i f)) + k)
unfolding joined tabulate
first_joined f zero i k l h q = absurd (omega arith)
first_joined f (suc m) zero k l h q =
    let z : 0 + k ≡ k = omega arith in
    rw z (first_before (f 0) (joined (tabulate m (λ j. f (suc j)))) k q)
first_joined f (suc m) (suc i) k l h q =
    let g : ℕ → List Bool = λ j. f (suc j) in
    let r = first_joined g m i k (omega arith) (λ j w. h (suc j) (omega arith)) q in
    let z : length (f 0 ++ joined (tabulate i g)) + k ≡ length (f 0) + (length (joined (tabulate i g)) + k) = rw (length-append (f 0) (joined (tabulate i g))) (omega arith) in
    rw z (first_behind (f 0) (joined (tabulate m g)) (length (joined (tabulate i g)) + k) (h 0 (omega arith)) r)

-- from the place of the first breach in a list of places
pub told : (b e : ℕ) (bs : List Bool) (ps : List ℕ) (p : ℕ) → ps ≡ stretch (λ i. i) b e → FirstBreach bs ps p → Told b bs p
unfolding stretch
told b e bs ps p r f =
    let l : f.index < e - b = omega (arith, f.within, length_stretch (λ i. i) b e, ap length r) in
    record {
      index = f.index;
      at = sym f.at ∙ ap (λ (qs : List ℕ). get_or qs f.index 0) r ∙ get_d_tabulate (e - b) (λ i. b + i) f.index 0 l;
      first = f.first;
    }

summed : (f : ℕ → List Bool) (s : ℕ → ℕ) (i : ℕ) → ((j : ℕ) → j < i → s j + length (f j) ≡ s (suc j)) → s 0 + length (joined (tabulate i f)) ≡ s i
unfolding joined tabulate
summed f s zero h = omega arith
summed f s (suc i) h =
    let g : ℕ → List Bool = λ j. f (suc j) in
    let u : ℕ → ℕ = λ j. s (suc j) in
    let r = summed g u i (λ j l. h (suc j) (omega arith)) in
    rw (length-append (f 0) (joined (tabulate i g))) (omega (arith, r, h 0 (omega arith)))

module _ {f : ℕ → List Bool} {m : ℕ} {s : ℕ → ℕ} (d : Bodies f m s) (n : ℕ) (last : List Bool) (p : ℕ) where
  begun : (i : ℕ) → i ≤ m → length (joined (tabulate i f)) ≡ s i
  begun i l = omega (arith, d.zeroth, summed f s i (λ j w. d.next j (omega arith)))

  pub body_told : (i : ℕ) → i < m → ((j : ℕ) → j < i → AllHold (f j)) → Told (s i) (f i) p
      → Some p ≡ first_place (tested n (joined (tabulate m f) ++ last))
  body_told i l h t =
      let z : p ≡ length (joined (tabulate i f)) + t.index = omega (arith, t.at, begun i (omega arith)) in
      rw z (first_place_lem n _ _ (first_before (joined (tabulate m f)) last _ (first_joined f m i t.index l h t.first)))

  pub main_told : ((j : ℕ) → j < m → AllHold (f j)) → Told (s m) last p → Some p ≡ first_place (tested n (joined (tabulate m f) ++ last))
  main_told h t =
      let z : p ≡ length (joined (tabulate m f)) + t.index = omega (arith, t.at, begun m (omega arith)) in
      rw z (first_place_lem n _ _ (first_behind (joined (tabulate m f)) last t.index (all_joined f m h) t.first))

pub none_told : (f : ℕ → List Bool) (m n : ℕ) (last : List Bool) → ((j : ℕ) → j < m → AllHold (f j)) → AllHold last
    → None ≡ first_place (tested n (joined (tabulate m f) ++ last))
none_told f m n last h k = no_place n _ (all_append (joined (tabulate m f)) last (all_joined f m h) k)

-- one more body holds
pub held_on : (f : ℕ → List Bool) (i : ℕ) → ((j : ℕ) → j < i → AllHold (f j)) → AllHold (f i) → (j : ℕ) → j < i + 1 → AllHold (f j)
held_on f i h k j l = go (ℕ_discrete j i)
  where
    go : Dec (j ≡ i) → AllHold (f j)
    go (yes e) = rw e k
    go (no d) = h j (omega arith)
