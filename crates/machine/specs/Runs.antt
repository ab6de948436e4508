-- Laws of the loop: whatever turns have been taken, finishing from here gives the answer.
use Rattle.std.specs.Prelude.{◌≡◌, Bool, List, ℕ, suc, ◌+◌, ◌*◌, ◌-◌, ◌%◌, ◌^◌, ◌≤◌, ◌<◌, length, get_or}
use Rattle.std.proofs.Math.Path.{refl, sym}
use Rattle.std.proofs.Common.{◌∙◌, ap, suc-mul, arith, ltb-true, ltb-false}
use Rattle.std.proofs.Math.Bool.{true, false}
use Rattle.std.proofs.Math.Dec.{ltb}
use Rattle.image.specs.Trailer.{class_count, node_count}
use Rattle.image.specs.Nodes.{node_holds}
use Rattle.rules.specs.declared.End.{End}
use Rattle.rules.specs.declared.End.TheVariants.{Returned, Threw, OutOfSteps, TooDeep, Stuck}
use Rattle.rules.specs.Program.{program}
use Rattle.rules.specs.Heap.{heap_of}
use Rattle.rules.specs.Run.{Ended, run, heap_after}
use Rattle.laws.specs.Values.{value_at}
use Rattle.laws.specs.Frames.{plugs}
use Rattle.laws.specs.Heap.{words_heap}
use Rattle.room.specs.declared.Focus.{Focus}
use Rattle.room.specs.declared.Focus.TheVariants.{Node, Value, Thrown}
use Rattle.room.specs.Room.{search_word, frames}
use Rattle.room.specs.Stack.{Halts, Beyond, run_goes, run_full, run_halts, run_beyond, run_value, run_thrown}
use Rattle.room.specs.Turn.{HeapOk, focus_of, Final, phi, whole, outside, finds, Inv, Moves, Steps, Could, Sinks}
use Rattle.strides.specs.Bound.{bound, phi_low}
use Rattle.ends.specs.declared.Finished.{Finished}
use Rattle.ends.specs.Finished.{Finishes, end_of, sunk_at}

module _ (ws : List ℕ) (D : ℕ) where
  pub record Running (limit : ℕ) (ended : Ended) (hs₀ room₀ hs room : List ℕ) (l : ℕ) (f : Focus) (count : ℕ) : Type 0 where
    pub inv : Inv ws D room l f
    pub heap : HeapOk ws hs (get_or room search_word 0)
    pub low : count ≤ limit
    pub size : length room ≡ length room₀
    pub heap_size : length hs ≡ length hs₀
    pub rest : run D (program ws) (limit - count) count (heap_of (program ws) hs) (outside ws room l) (whole ws room l f) ≡ ended

  -- what falls from turn to turn
  abbrev pub left : (limit count : ℕ) (room : List ℕ) (l : ℕ) (f : Focus) → ℕ
  left limit count room l f = (limit - count) * bound ws D + phi ws room l f

module _ (ws : List ℕ) (good : (n : ℕ) → n < node_count ws → node_holds ws n ≡ true) (D : ℕ) where
  pub went_left : (limit count : ℕ) (room : List ℕ) (l : ℕ) (f : Focus) (room' : List ℕ) (l' : ℕ) (f' : Focus)
      → Moves ws D room l f room' l' f' → left ws D limit count room' l' f' < left ws D limit count room l f
  went_left limit count room l f room' l' f' m = omega (arith, m.falls)

  pub took_left : (limit count : ℕ) (room : List ℕ) (l : ℕ) (f : Focus) (room' : List ℕ) (l' : ℕ) (f' : Focus)
      → count < limit → Inv ws D room' l' f'
      → left ws D limit (count + 1) room' l' f' < left ws D limit count room l f
  took_left limit count room l f room' l' f' h v =
      let e : limit - count ≡ suc (limit - (count + 1)) = omega arith in
      rw (e, suc-mul (limit - (count + 1)) (bound ws D)) (omega (arith, phi_low ws good D room' l' f' v))

  module _ {limit : ℕ} {ended : Ended} {hs₀ room₀ hs room : List ℕ} {l : ℕ} {f : Focus} {count : ℕ}
      (r : Running ws D limit ended hs₀ room₀ hs room l f count) where
    pub went : (hs' room' : List ℕ) (l' : ℕ) (f' : Focus) → Moves ws D room l f room' l' f' → hs' ≡ hs
        → Running ws D limit ended hs₀ room₀ hs' room' l' f' count
    went hs' room' l' f' m e =
        record {
          inv = m.inv;
          heap = rw (e, m.search) r.heap;
          low = r.low;
          size = m.size ∙ r.size;
          heap_size = rw e r.heap_size;
          rest = rw (e, m.same, m.around) r.rest;
        }

    pub took : (hs' room' : List ℕ) (l' : ℕ) (f' : Focus) → Steps ws D hs room l f hs' room' l' f' → count < limit
        → length hs' ≡ length hs
        → Running ws D limit ended hs₀ room₀ hs' room' l' f' (count + 1)
    took hs' room' l' f' s h b =
        let e : limit - count ≡ suc (limit - (count + 1)) = omega arith in
        let z : suc count ≡ count + 1 = omega arith in
        record {
          inv = s.inv;
          heap = s.heap;
          low = omega arith;
          size = s.size ∙ r.size;
          heap_size = b ∙ r.heap_size;
          rest =
              rw (
                ← z,
                ← run_goes (program ws) D (heap_of (program ws) hs) (outside ws room l) (whole ws room l f) (limit - suc count) count
                    (heap_of (program ws) hs') (outside ws room' l') (whole ws room' l' f') s.goes,
              ) (rw (z, ← e) r.rest);
        }

    -- the ends; the heap's words are those of the heap that the run ends with
    ends : (e : End) (k : ℕ) (a : Finished) (hs' : List ℕ) → ended ≡ record { end = e; count = k; heap = heap_of (program ws) hs }
        → a.end ≡ e → a.count ≡ k → hs' ≡ hs → Finishes ended a hs'
    unfolding heap_after
    ends e k a hs' q u v z =
        rw q (record { end_is = u; count_is = v; heap_is = z ∙ sym (words_heap (program ws) (class_count ws) hs r.heap.words) })

    at_limit : limit ≤ count → limit - count ≡ 0
    at_limit h = omega arith

    pub full : Could ws D hs room l f → limit ≤ count → (a : Finished) (hs' : List ℕ) → a.end ≡ OutOfSteps → a.count ≡ count → hs' ≡ hs
        → Finishes ended a hs'
    full c h a hs' u v z =
        ends OutOfSteps count a hs'
        (sym (rw (at_limit h) at r.rest)
        ∙ run_full (program ws) D (heap_of (program ws) hs) (outside ws room l) (whole ws room l f) count c.heap c.store c.expr c.goes)
        u v z

    pub halted : (q : ℕ) → Halts D (finds ws hs room l f) q → (a : Finished) (hs' : List ℕ) → a.end ≡ Stuck q → a.count ≡ count → hs' ≡ hs
        → Finishes ended a hs'
    halted q h a hs' u v z =
        ends (Stuck q) count a hs'
        (sym r.rest
        ∙ run_halts (program ws) D (heap_of (program ws) hs) (outside ws room l) (whole ws room l f) (limit - count) count q h)
        u v z

    pub sunk : Beyond D (finds ws hs room l f) → (a : Finished) (hs' : List ℕ) → a.end ≡ TooDeep → a.count ≡ count → hs' ≡ hs
        → Finishes ended a hs'
    sunk b a hs' u v z =
        ends TooDeep count a hs'
        (sym r.rest
        ∙ run_beyond (program ws) D (heap_of (program ws) hs) (outside ws room l) (whole ws room l f) (limit - count) count b)
        u v z

    pub sunk_after : Sinks ws D hs room l f → count < limit → (a : Finished) (hs' : List ℕ) → a.end ≡ TooDeep → a.count ≡ count + 1
        → hs' ≡ hs
        → Finishes ended a hs'
    sunk_after s h a hs' u v z =
        let e : limit - count ≡ suc (limit - suc count) = omega arith in
        let y : suc count ≡ count + 1 = omega arith in
        ends TooDeep (suc count) a hs'
        (sym (rw e at r.rest)
        ∙ run_goes (program ws) D (heap_of (program ws) hs) (outside ws room l) (whole ws room l f) (limit - suc count) count
        (heap_of (program ws) hs) s.store s.expr s.goes
        ∙ run_beyond (program ws) D (heap_of (program ws) hs) s.store s.expr (limit - suc count) (suc count) s.beyond)
        u (v ∙ sym y) z

  -- a step is one that could be taken
  pub could : {hs room : List ℕ} {l : ℕ} {f : Focus} {hs' room' : List ℕ} {l' : ℕ} {f' : Focus} → Steps ws D hs room l f hs' room' l' f'
      → Could ws D hs room l f
  could {hs' = hs'} {room' = room'} {l' = l'} {f' = f'} s =
      record { heap = heap_of (program ws) hs'; store = outside ws room' l'; expr = whole ws room' l' f'; goes = s.goes }

  pub could_sink : {hs room : List ℕ} {l : ℕ} {f : Focus} → Sinks ws D hs room l f → Could ws D hs room l f
  could_sink {hs = hs} s = record { heap = heap_of (program ws) hs; store = s.store; expr = s.expr; goes = s.goes }

  -- no frame is above: a value, or Throw of an address
  module _ {limit : ℕ} {ended : Ended} {hs₀ room₀ hs room : List ℕ} {l count : ℕ} where
    pub returned : (w : ℕ) → Running ws D limit ended hs₀ room₀ hs room l (Value w) count → l ≡ 0 → (a : Finished) (hs' : List ℕ)
        → a.end ≡ Returned (value_at w) → a.count ≡ count → hs' ≡ hs → Finishes ended a hs'
    unfolding frames plugs focus_of
    returned w r e a hs' u v z =
        ends r (Returned (value_at w)) count a hs'
        (sym (rw e at r.rest) ∙ run_value (program ws) D (heap_of (program ws) hs) _ (limit - count) count (value_at w)) u v z

    pub raised : (b p : ℕ) → Running ws D limit ended hs₀ room₀ hs room l (Thrown b p) count → l ≡ 0 → (a : Finished) (hs' : List ℕ)
        → a.end ≡ Threw b → a.count ≡ count → hs' ≡ hs → Finishes ended a hs'
    unfolding frames plugs focus_of
    raised b p r e a hs' u v z =
        ends r (Threw b) count a hs'
        (sym (rw e at r.rest) ∙ run_thrown (program ws) D (heap_of (program ws) hs) _ (limit - count) count p b) u v z

  pub started : (limit : ℕ) (hs room : List ℕ) (n : ℕ) → Inv ws D room 0 (Node n) → HeapOk ws hs (get_or room search_word 0)
      → Running ws D limit
      (run D (program ws) limit 0 (heap_of (program ws) hs) (outside ws room 0) (whole ws room 0 (Node n))) hs room hs room 0 (Node n) 0
  started limit hs room n v h =
      let z : limit - 0 ≡ limit = omega arith in
      record { inv = v; heap = h; low = omega arith; size = refl; heap_size = refl; rest = rw z }

  -- the answer to a call that sinks, and the answer at the end
  pub sunk_answer : {limit : ℕ} {ended : Ended} {hs₀ room₀ hs room : List ℕ} {l : ℕ} {f : Focus} {count : ℕ}
      → Running ws D limit ended hs₀ room₀ hs room l f count → Sinks ws D hs room l f → (a : Finished) (hs' : List ℕ)
      → a ≡ sunk_at limit count → hs' ≡ hs → Finishes ended a hs'
  unfolding sunk_at
  sunk_answer {limit} {ended} {count = count} r s a hs' e z = go (ltb count limit) refl
    where
      go : (t : Bool) → ltb count limit ≡ t → Finishes ended a hs'
      go true h =
          let q : a ≡ record { end = TooDeep; count = count + 1 } = e ∙ rw h in
          sunk_after r s (ltb-true count limit h) a hs' (ap (λ (b : Finished). b.end) q) (ap (λ (b : Finished). b.count) q) z
      go false h =
          let q : a ≡ record { end = OutOfSteps; count = count } = e ∙ rw h in
          full r (could_sink s) (ltb-false count limit h) a hs' (ap (λ (b : Finished). b.end) q) (ap (λ (b : Finished). b.count) q) z

  pub over_answer : {limit : ℕ} {ended : Ended} {hs₀ room₀ hs room : List ℕ} {l count : ℕ} (f : Focus)
      → Running ws D limit ended hs₀ room₀ hs room l f count → Final ws l f → (a : Finished) (hs' : List ℕ)
      → a.end ≡ end_of f → a.count ≡ count → hs' ≡ hs → Finishes ended a hs'
  over_answer (Node n) r h a hs' u v z = absurd h
  over_answer (Value w) r h a hs' u v z = returned w r h a hs' u v z
  over_answer (Thrown b p) r h a hs' u v z =
      let e : b % 2 ^ 32 ≡ b = omega (arith, r.inv.here) in
      raised b p r h a hs' (u ∙ ap Threw e) v z
