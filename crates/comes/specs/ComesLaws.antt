-- Laws of a value that comes back, one for each answer.
use Rattle.std.proofs.Math.Path.{◌≡◌, refl}
use Rattle.std.proofs.Common.{sym, ◌∙◌, ap, inl, inr, length-set}
use Rattle.std.specs.Prelude.{Bool, true, false, List, get_or, set}
use Prim.Native.Nat.{ℕ, zero, suc, ◌+◌, ◌-◌, ◌≤◌, ◌<◌}
use native.Mathlib.Omega.{arith}
use Rattle.words.specs.declared.Value.{Value}
use Rattle.image.specs.Numbers.{variables}
use Rattle.image.specs.Trailer.{node_count}
use Rattle.image.specs.Nodes.{node_word, kind_of, node_holds}
use Rattle.rules.specs.Trees.{operand}
use Rattle.rules.specs.Program.{program}
use Rattle.rules.specs.Heap.{heap_of}
use Rattle.rules.specs.Step.{Redex, redex, eq_redex, add_redex, cast_redex, same_value}
use Rattle.laws.specs.Values.{value_at, IsValue}
use Rattle.laws.specs.Frames.{Frame, assign_f, outer}
use Rattle.redexes.specs.declared.Outcome.{Outcome}
use Rattle.redexes.specs.declared.Outcome.TheVariants.{Gives, Raises, Fails}
use Rattle.std.specs.declared.option.Option.TheVariants.{Some, None}
use Rattle.redexes.specs.Outcomes.{redex_of, Sound, Chooses, ThrowsAt, Throws}
use Rattle.objects.specs.Spots.{FieldSpot, FieldRaises, FieldFails}
use Rattle.room.specs.declared.Focus.TheVariants.{Node, Value as Word, Thrown as At}
use Rattle.room.specs.declared.Go.TheVariants.{Moved, Stepped, Limit, Stuck}
use Rattle.room.specs.Room.{search_word, frame_at, store_of, shape_of, begun, frame_of, word, frame, frames, Fit}
use Rattle.room.specs.RoomLaws.{fit_less}
use Rattle.room.specs.Enter.{outers_in}
use Rattle.room.specs.Armed.{armed_seq}
use Rattle.room.specs.Turn.{HeapOk, focus_of, weight, pending, Turned, Steps}
use Rattle.room.specs.Back as back
use Rattle.room.specs.Back.{Back}
use Rattle.pushes.specs.Turns.{Writes, rest_of}
use Rattle.pushes.specs.TakeUp.{takes_rest, rest_place}
use Rattle.comes.specs.Comes.{Coming, finish_of, First}

module _ (ws : List ℕ) (D : ℕ) (hs room : List ℕ) (p i w : ℕ) (may : Bool) where
  -- a redex by its outcome
  module _ (t : ℕ) (k : Coming ws D hs room t p i w) (F : Frame) (r' : Redex)
      (b : Back ws k.nodes D hs room i w k.inv F (redex (word ws room i 1) (heap_of (program ws) hs) (store_of room) r')) where
    pub finished : (r : Outcome ℕ) → redex_of (heap_of (program ws) hs) r ≡ r' → Sound r
        → Turned ws D may hs room (suc i) (Word w) hs room (finish_of r p i)
    unfolding redex_of finish_of
    finished (Gives u) e s = (back.redex_gives ws k.nodes D hs room i w k.inv F _ r' b hs u (sym e) s k.heap, λ f. refl)
    finished (Raises a) e s =
        rw (← k.placed) (back.redex_raises ws k.nodes D hs room i w k.inv F _ r' b a (sym e) s k.heap, λ f. refl)
    finished Fails e s = rw (← k.placed) (back.redex_fails ws k.nodes D hs room i w k.inv F _ r' b (sym e), refl)

  pub cast_turned : Coming ws D hs room 1 p i w → (r : Outcome ℕ)
      → redex_of (heap_of (program ws) hs) r ≡ cast_redex (program ws) (heap_of (program ws) hs) (node_word ws p 2) (value_at w) → Sound r
      → Turned ws D may hs room (suc i) (Word w) hs room (finish_of r p i)
  cast_turned k r e s =
      finished 1 k _ _ (back.back_cast ws k.nodes D hs room i w k.inv k.tagged) r (rw k.placed e) s

  pub add_turned : Coming ws D hs room 20 p i w → (v : ℕ) → word ws room i 2 ≡ v → (r : Outcome ℕ)
      → redex_of (heap_of (program ws) hs) r ≡ add_redex (heap_of (program ws) hs) (value_at v) (value_at w) → Sound r
      → Turned ws D may hs room (suc i) (Word w) hs room (finish_of r p i)
  add_turned k v q r e s =
      finished 20 k _ _ (back.back_add ws k.nodes D hs room i w k.inv k.tagged) r (rw q e) s

  pub eq_turned : Coming ws D hs room 21 p i w → (v : ℕ) → word ws room i 2 ≡ v → (u : ℕ)
      → value_at u ≡ Value.Bool (same_value (value_at v) (value_at w)) → IsValue u
      → Turned ws D may hs room (suc i) (Word w) hs room (Stepped (Word u) i)
  unfolding eq_redex
  eq_turned k v q u e s = (
    back.redex_gives ws k.nodes D hs room i w k.inv _ _ _ (back.back_eq ws k.nodes D hs room i w k.inv k.tagged) hs u
        (rw (q, e)) s k.heap,
    λ f. refl,
  )

  -- a field is read
  module _ (k : Coming ws D hs room 7 p i w) where
    pub get_at : (j : ℕ) → FieldSpot ws hs (node_word ws p 2) (node_word ws p 3) w j
        → Turned ws D may hs room (suc i) (Word w) hs room (Stepped (Word (get_or hs j 0)) i)
    get_at j s = (
      back.redex_gives ws k.nodes D hs room i w k.inv _ _ _ (back.back_get ws k.nodes D hs room i w k.inv k.tagged) hs
          (get_or hs j 0) (rw k.placed s.reads) s.holds k.heap,
      λ f. refl,
    )

    pub get_raises : (a : ℕ) → FieldRaises ws hs (node_word ws p 2) (node_word ws p 3) w a
        → Turned ws D may hs room (suc i) (Word w) hs room (Stepped (At a p) i)
    get_raises a s =
        let q : word ws room i 1 ≡ p = k.placed in
        let e = rw (← q) at s.reads in
        rw (← q) (
          back.redex_raises ws k.nodes D hs room i w k.inv _ _ _ (back.back_get ws k.nodes D hs room i w k.inv k.tagged) a e
              s.known k.heap,
          λ f. refl,
        )

    pub get_fails : FieldFails ws hs (node_word ws p 2) (node_word ws p 3) w
        → Turned ws D may hs room (suc i) (Word w) hs room (Stuck p)
    get_fails s =
        let q : word ws room i 1 ≡ p = k.placed in
        let e = rw (← q) at s.reads in
        rw (← q)
        (back.redex_fails ws k.nodes D hs room i w k.inv _ _ _ (back.back_get ws k.nodes D hs room i w k.inv k.tagged) e, refl)

  -- a field is written
  module _ (k : Coming ws D hs room 24 p i w) (v : ℕ) (third : word ws room i 2 ≡ v) where
    written_heap : (j : ℕ) → FieldSpot ws hs (node_word ws p 2) (node_word ws p 3) v j → HeapOk ws (set hs j w) (get_or room search_word 0)
    written_heap j s =
        record {
          words = s.keeps w k.inv.here;
          size = rw length-set k.heap.size;
          low = rw length-set k.heap.low;
          taken = λ a l. s.slots w a ∙ k.heap.taken a l;
        }

    wrote : (j : ℕ) → FieldSpot ws hs (node_word ws p 2) (node_word ws p 3) v j
        → Steps ws D hs room (suc i) (Word w) (set hs j w) room i (Word w)
    wrote j s =
        back.redex_gives ws k.nodes D hs room i w k.inv _ _ _ (back.back_put ws k.nodes D hs room i w k.inv k.tagged)
        (set hs j w) w (rw (k.placed, third) (s.writes w k.inv.here)) k.inv.here (written_heap j s)

    pub set_at : (j : ℕ) → FieldSpot ws hs (node_word ws p 2) (node_word ws p 3) v j → may ≡ true
        → Turned ws D may hs room (suc i) (Word w) (set hs j w) room (Stepped (Word w) i)
    set_at j s m = (wrote j s, λ f. absurd (let z : ◌≡◌ {A = Bool} true false = sym m ∙ f in let y : ◌≡◌ {A = ℕ} 0 1 = cc in omega arith))

    pub set_limit : (j : ℕ) → FieldSpot ws hs (node_word ws p 2) (node_word ws p 3) v j → may ≡ false
        → Turned ws D may hs room (suc i) (Word w) hs room Limit
    set_limit j s m = (record { heap = _; store = _; expr = _; goes = (wrote j s).goes }, m, refl)

    pub set_raises : (a : ℕ) → FieldRaises ws hs (node_word ws p 2) (node_word ws p 3) v a
        → Turned ws D may hs room (suc i) (Word w) hs room (Stepped (At a p) i)
    set_raises a s =
        let q : word ws room i 1 ≡ p = k.placed in
        let e = rw (← q, ← third) at (s.writes (value_at w)) in
        rw (← q) (
          back.redex_raises ws k.nodes D hs room i w k.inv _ _ _ (back.back_put ws k.nodes D hs room i w k.inv k.tagged) a e
              s.known k.heap,
          λ f. refl,
        )

    pub set_fails : FieldFails ws hs (node_word ws p 2) (node_word ws p 3) v
        → Turned ws D may hs room (suc i) (Word w) hs room (Stuck p)
    set_fails s =
        let q : word ws room i 1 ≡ p = k.placed in
        let e = rw (← q, ← third) at (s.writes (value_at w)) in
        rw (← q)
        (back.redex_fails ws k.nodes D hs room i w k.inv _ _ _ (back.back_put ws k.nodes D hs room i w k.inv k.tagged) e, refl)

  -- the first of two operands is a value
  pub first_moves : (t : ℕ) → First t → Coming ws D hs room t p i w
      → Turned ws D may hs room (suc i) (Word w) hs (set (set room (frame_at i) (t + 16)) (frame_at i + 2) w) (Moved (Node (p - 1)) (suc i))
  unfolding operand
  first_moves t (inl (inl e)) k =
      rw (← k.placed, e) (back.add_moves ws k.nodes D hs room i w k.inv (k.tagged ∙ e), refl)
  first_moves t (inl (inr e)) k =
      rw (← k.placed, e) (back.eq_moves ws k.nodes D hs room i w k.inv (k.tagged ∙ e), refl)
  first_moves t (inr e) k =
      rw (← k.placed, e) (back.set_moves ws k.nodes D hs room i w k.inv (k.tagged ∙ e), refl)

  pub seq_turned : Coming ws D hs room 11 p i w → Turned ws D may hs room (suc i) (Word w) hs room (Stepped (Node (p - 1)) i)
  unfolding operand
  seq_turned k = rw (← k.placed) (back.seq_steps ws k.nodes D hs room i w k.inv k.heap k.tagged, λ f. refl)

  pub loop_turned : Coming ws D hs room 29 p i w → Turned ws D may hs room (suc i) (Word w) hs room (Stepped (Node p) i)
  loop_turned k = rw (← k.placed) (back.loop_steps ws k.nodes D hs room i w k.inv k.heap k.tagged, λ f. refl)

  pub try_turned : Coming ws D hs room 15 p i w → Turned ws D may hs room (suc i) (Word w) hs room (Stepped (Word w) i)
  try_turned k = (back.try_steps ws k.nodes D hs room i w k.inv k.heap k.tagged, λ f. refl)

  pub block_turned : Coming ws D hs room 10 p i w
      → Turned ws D may hs room (suc i) (Word w) hs (set room (word ws room i 2) (word ws room i 4)) (Stepped (Word w) i)
  block_turned k = (back.block_steps ws k.nodes D hs room i w k.inv k.heap k.tagged, λ f. refl)

  -- the arms of an If
  module _ (k : Coming ws D hs room 12 p i w) where
    pub if_then : Chooses w (Some true) → Turned ws D may hs room (suc i) (Word w) hs room (Stepped (Node (operand ws p 1)) i)
    if_then e = rw (← k.placed) (back.then_steps ws k.nodes D hs room i w k.inv k.heap k.tagged (e _ _ _ _ _), λ f. refl)

    pub if_else : Chooses w (Some false) → Turned ws D may hs room (suc i) (Word w) hs room (Stepped (Node (p - 1)) i)
    unfolding operand
    if_else e = rw (← k.placed) (back.else_steps ws k.nodes D hs room i w k.inv k.heap k.tagged (e _ _ _ _ _), λ f. refl)

    pub if_stuck : Chooses w None → Turned ws D may hs room (suc i) (Word w) hs room (Stuck p)
    if_stuck e =
        rw (← k.placed) (
          back.back_halts ws k.nodes D hs room i w k.inv (back.back_if ws k.nodes D hs room i w k.inv k.tagged)
              (word ws room i 1) (e _ _ _ _ _),
          refl,
        )

  -- the arms of a loop's If
  module _ (k : Coming ws D hs room 13 p i w) where
    pub test_again : Chooses w (Some true)
        → Turned ws D may hs room (suc i) (Word w) hs (set room (frame_at i) 29) (Stepped (Node (p - 1)) (suc i))
    unfolding operand
    test_again e = rw (← k.placed) (back.again_steps ws k.nodes D hs room i w k.inv k.heap k.tagged (e _ _ _ _ _), λ f. refl)

    pub test_over : Chooses w (Some false) → Turned ws D may hs room (suc i) (Word w) hs room (Stepped (Word 0) i)
    test_over e = (back.over_steps ws k.nodes D hs room i w k.inv k.heap k.tagged (e _ _ _ _ _), λ f. refl)

    pub test_stuck : Chooses w None → Turned ws D may hs room (suc i) (Word w) hs room (Stuck p)
    test_stuck e =
        rw (← k.placed) (
          back.back_halts ws k.nodes D hs room i w k.inv (back.back_test ws k.nodes D hs room i w k.inv k.tagged)
              (word ws room i 1) (e _ _ _ _ _),
          refl,
        )

  -- a Throw
  module _ (k : Coming ws D hs room 14 p i w) where
    pub throw_turned : (a : ℕ) → ThrowsAt w a → Turned ws D may hs room (suc i) (Word w) hs room (Moved (At a p) i)
    throw_turned a s =
        rw (← k.placed) (back.throw_moves ws k.nodes D hs room i w k.inv a k.tagged s.is s.small, refl)

    pub throw_null : (a : ℕ) → Throws w (Raises a) → Turned ws D may hs room (suc i) (Word w) hs room (Stepped (At a p) i)
    unfolding redex focus_of
    throw_null a e =
        rw (← k.placed) (
          back.steps_less ws k.nodes D hs room i w k.inv (back.back_throw ws k.nodes D hs room i w k.inv k.tagged)
              (word ws room i 1) hs (At a (word ws room i 1)) (e.1 _ _ _) (rw e.0 (omega arith)) k.heap,
          λ f. refl,
        )

    pub throw_stuck : Throws w Fails → Turned ws D may hs room (suc i) (Word w) hs room (Stuck p)
    throw_stuck e =
        rw (← k.placed) (
          back.back_halts ws k.nodes D hs room i w k.inv (back.back_throw ws k.nodes D hs room i w k.inv k.tagged)
              (word ws room i 1) (e _ _ _),
          refl,
        )

  -- an Assign that no block takes up
  pub assign_turned : Coming ws D hs room 6 p i w → (x : ℕ) → x ≡ node_word ws p 2 → armed_seq ws room i x ≡ false
      → Turned ws D may hs room (suc i) (Word w) hs (set room x (suc w)) (Stepped (Word w) i)
  assign_turned k x e a =
      let q : x ≡ node_word ws (word ws room i 1) 2 = e ∙ ap (λ n. node_word ws n 2) (sym k.placed) in
      rw q (back.assign_steps ws k.nodes D hs room i w k.inv k.heap k.tagged (rw (← q) a), λ f. refl)

-- an Assign whose value a block takes up
module _ (ws : List ℕ) (D : ℕ) (hs room : List ℕ) (p w x : ℕ) (may : Bool) where
  taken_writes : (i : ℕ) → Coming ws D hs room 6 p (suc i) w → x ≡ node_word ws p 2 → Writes ws D room (suc (suc i)) (Word w) i x w
  unfolding focus_of frames frame frame_of shape_of begun kind_of pending weight outer
  taken_writes i k e =
      record {
        inv = k.inv;
        under = omega arith;
        place = p;
        value_place = 0;
        same = rw (k.tagged, k.placed, e);
        around = rw k.tagged (outers_in (assign_f (word ws room (suc i) 1) (node_word ws (word ws room (suc i) 1) 2)) (frames ws room (suc i)) (store_of room) refl);
        more = omega arith;
      }

  pub assign_taken : (i : ℕ) → Coming ws D hs room 6 p i w → x ≡ node_word ws p 2 → x < variables → armed_seq ws room i x ≡ true
      → Turned ws D may hs room (suc i) (Word w) hs (set room x (suc w)) (Moved (Node (rest_of room (i - 1))) (i - 1))
  unfolding armed_seq
  assign_taken zero k e m a = absurd (let z : ◌≡◌ {A = ℕ} 0 1 = cc in omega arith)
  assign_taken (suc i) k e m a =
      let z : suc i - 1 ≡ i = omega arith in
      rw z (
        takes_rest ws k.nodes D room (suc (suc i)) (Word w) i x w (taken_writes i k e) a m k.inv.here
            (fit_less ws (omega arith) k.inv.fit),
        refl,
      )

-- the frame of the sequence, below the Assign's
pub taken_below : (ws room : List ℕ) (i x : ℕ) → armed_seq ws room i x ≡ true → 1 ≤ i
unfolding armed_seq
taken_below ws room zero x a = absurd (let z : ◌≡◌ {A = ℕ} 0 1 = cc in omega arith)
taken_below ws room (suc i) x a = omega arith

pub taken_place : (ws : List ℕ) (nodes : (n : ℕ) → n < node_count ws → node_holds ws n ≡ true) (room : List ℕ) (i x : ℕ)
    → Fit ws room (suc i) → armed_seq ws room i x ≡ true → 0 < word ws room (i - 1) 1
unfolding armed_seq
taken_place ws nodes room zero x fit a = absurd (let z : ◌≡◌ {A = ℕ} 0 1 = cc in omega arith)
taken_place ws nodes room (suc i) x fit a =
    let z : suc i - 1 ≡ i = omega arith in
    rw z (rest_place ws nodes (fit_less ws (omega arith) fit) x a)
