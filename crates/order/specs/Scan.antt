-- Laws of `scan`: a loop that looks for the lowest broken place cites these and nothing else.
use Rattle.std.specs.Prelude.{Bool, true, false, ◌≡◌, ℕ, suc, ◌+◌, ◌-◌, ◌≤◌, ◌<◌}
use Rattle.std.proofs.Common.{sym, ◌∙◌, ap, arith, add-one}
use Rattle.std.specs.declared.option.Option.TheVariants.{Some, None}
use Rattle.order.specs.Rules.{scan}

scan_on : (p : ℕ → Bool) (k i : ℕ) → p i ≡ true → scan p (suc k) i ≡ scan p k (suc i)
unfolding scan
scan_on p k i e = rw e

scan_hit : (p : ℕ → Bool) (k i : ℕ) → p i ≡ false → scan p (suc k) i ≡ Some i
unfolding scan
scan_hit p k i e = rw e

-- A loop that stands at place i of n: scanning on from here gives what scanning from 0 gives.
pub record Still (p : ℕ → Bool) (n i : ℕ) : Type 0 where
  pub within : i ≤ n
  pub same : scan p (n - i) i ≡ scan p n 0

pub start : (p : ℕ → Bool) (n : ℕ) → Still p n 0
start p n = record { within = omega arith; same = ap (λ (k : ℕ). scan p k 0) (omega arith) }

-- the test held at i
pub on : {p : ℕ → Bool} {n i : ℕ} → Still p n i → i < n → p i ≡ true → Still p n (i + 1)
on {p} {n} {i} s h e =
    record {
      within = omega arith;
      same =
          ap (λ (j : ℕ). scan p (n - j) j) (add-one i)
          ∙ sym (scan_on p (n - suc i) i e)
          ∙ ap (λ (k : ℕ). scan p k i) (omega arith)
          ∙ s.same;
    }

-- the test failed at i
pub hit : {p : ℕ → Bool} {n i : ℕ} → Still p n i → i < n → p i ≡ false → Some i ≡ scan p n 0
hit {p} {n} {i} s h e =
    sym (scan_hit p (n - suc i) i e) ∙ ap (λ (k : ℕ). scan p k i) (omega arith) ∙ s.same

-- every place was passed
pub none : {p : ℕ → Bool} {n i : ℕ} → Still p n i → n ≤ i → None ≡ scan p n 0
unfolding scan
none {p} {n} {i} s h =
    let z : n - i ≡ 0 = omega arith in
    sym (ap (λ (k : ℕ). scan p k i) z) ∙ s.same
