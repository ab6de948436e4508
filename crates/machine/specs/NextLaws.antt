-- Laws of what comes after a turn: the run goes on, or it is at its end.
use Rattle.std.specs.Prelude.{◌≡◌, refl, Bool, true, false, cond, List, ℕ, ◌+◌, ◌≤◌, ◌<◌, ltb, leb, length}
use Rattle.std.proofs.Common.{ap, arith, leb-true, leb-false, le-ltb, ltb-false}
use Rattle.image.specs.Trailer.{node_count}
use Rattle.image.specs.Nodes.{node_holds}
use Rattle.rules.specs.Run.{Ended}
use Rattle.room.specs.declared.Focus.{Focus}
use Rattle.room.specs.declared.Go.{Go}
use Rattle.room.specs.declared.Go.TheVariants.{Moved, Stepped, Limit, Sunk, Stuck, Deep, Over}
use Rattle.room.specs.Turn.{Turned}
use Rattle.ends.specs.declared.Finished.{Finished}
use Rattle.ends.specs.declared.Going.{Going}
use Rattle.std.specs.declared.option.Option.{Option}
use Rattle.std.specs.declared.option.Option.TheVariants.{Some, None}
use Rattle.ends.specs.Finished.{Finishes, next_of, ended_at}
use Rattle.machine.specs.Runs.{Running, left, went, went_left, took, took_left, could, full, halted, sunk, sunk_answer, over_answer}

module _ (ws : List ℕ) (good : (n : ℕ) → n < node_count ws → node_holds ws n ≡ true) (D : ℕ) {limit : ℕ} {ended : Ended} {hs₀ room₀ hs room : List ℕ}
    {l : ℕ} {f : Focus} {count : ℕ} (r : Running ws D limit ended hs₀ room₀ hs room l f count) (hs' room' : List ℕ) where
  -- the run goes on there, and less is left
  abbrev pub Ongoing : Option Going → Type 0
  Ongoing (Some n) =
      Running ws D limit ended hs₀ room₀ hs' room' n.level n.focus n.count
      × (left ws D limit n.count room' n.level n.focus < left ws D limit count room l f)
  Ongoing None = Unit {0}

  pub goes_on : (g : Go) → Turned ws D (ltb count limit) hs room l f hs' room' g → length hs' ≡ length hs → Ongoing (next_of g limit count)
  goes_on (Moved g k) t b = (
    went ws good D r hs' room' k g t.0 t.1,
    went_left ws good D limit count room l f room' k g t.0,
  )
  goes_on (Stepped g k) t b = go (leb limit count) refl
    where
      go : (y : Bool) → leb limit count ≡ y → Ongoing (cond y None (Some (record { focus = g; level = k; count = count + 1 })))
      go true e = tt
      go false e =
          let h : count < limit = omega (arith, leb-false limit count e) in
          (took ws good D r hs' room' k g t.0 h b, took_left ws good D limit count room l f room' k g h t.0.inv)
  goes_on Limit t b = tt
  goes_on Sunk t b = tt
  goes_on (Stuck q) t b = tt
  goes_on Deep t b = tt
  goes_on Over t b = tt

  -- the run is at its end, and a is the answer
  abbrev pub AtEnd : Finished → Option Going → Type 0
  AtEnd a (Some n) = Unit {0}
  AtEnd a None = Finishes ended a hs'

  pub at_end : (g : Go) → Turned ws D (ltb count limit) hs room l f hs' room' g → (a : Finished) → a ≡ ended_at g f limit count
      → AtEnd a (next_of g limit count)
  at_end (Moved g k) t a e = tt
  at_end (Stepped g k) t a e = go (leb limit count) refl
    where
      go : (y : Bool) → leb limit count ≡ y → AtEnd a (cond y None (Some (record { focus = g; level = k; count = count + 1 })))
      go true u =
          let h : limit ≤ count = leb-true limit count u in
          full ws good D r (could ws good D t.0) h a hs' (ap (λ (x : Finished). x.end) e) (ap (λ (x : Finished). x.count) e)
          (t.1 (le-ltb count limit h))
      go false u = tt
  at_end Limit t a e =
      full ws good D r t.0 (ltb-false count limit t.1) a hs' (ap (λ (x : Finished). x.end) e) (ap (λ (x : Finished). x.count) e) t.2
  at_end Sunk t a e = sunk_answer ws good D r t.0 a hs' e t.1
  at_end (Stuck q) t a e = halted ws good D r q t.0 a hs' (ap (λ (x : Finished). x.end) e) (ap (λ (x : Finished). x.count) e) t.1
  at_end Deep t a e = sunk ws good D r t.0 a hs' (ap (λ (x : Finished). x.end) e) (ap (λ (x : Finished). x.count) e) t.1
  at_end Over t a e = over_answer ws good D f r t.0 a hs' (ap (λ (x : Finished). x.end) e) (ap (λ (x : Finished). x.count) e) t.1
