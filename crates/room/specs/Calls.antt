-- Laws of calls: a Call's operands one after the other, and the blocks around a method's body.
use Rattle.std.specs.Prelude.{◌≡◌, true, length, get_or, set}
use Rattle.std.proofs.Math.Path.{refl, sym}
use Rattle.std.proofs.Common.{◌∙◌, ap, length-set, get_or-set_other, lt-ltb}
use Rattle.std.proofs.Math.Option.{some}
use mathlib.Core.List.{List, [], ◌∷◌, map}
use Prim.Native.Nat.{ℕ, zero, suc, ◌+◌, ◌-◌, ◌≤◌, ◌<◌}
use native.Mathlib.Omega.{arith}
use Rattle.std.proofs.Math.Decide.{ℕ_discrete}
use Rattle.std.proofs.Math.ListN.{drop}
use Rattle.std.proofs.Math.Seq.{get_or-set_same}
use Rattle.words.specs.declared.Value.{Value}
use Rattle.words.specs.declared.Ty.{Ty}
use Rattle.words.specs.Types.{type_of}
use Rattle.image.specs.Numbers.{most_arguments, variables}
use Rattle.image.specs.Trailer.{node_count}
use Rattle.image.specs.Nodes.{node_word, kind_of, operands, node_holds}
use Rattle.rules.specs.Maps.{upd, tabulate}
use Rattle.rules.specs.Trees.{Expr, cons, block, operand, arguments}
use Rattle.rules.specs.Program.{Program, program}
use Rattle.rules.specs.Heap.{Heap, heap_of}
use Rattle.rules.specs.Step.{Store, Out, bare, view, assigned, blocked, blocks, call_out, step}
use Rattle.laws.specs.Maps.{tabulate_same, drop_tabulate, drop_tabulate_all, tabulate_last, map_tabulate, length_tabulate}
use Rattle.laws.specs.Values.{value_at, IsValue}
use Rattle.laws.specs.Trees.{operand_count, operand_below, operand_after}
use Rattle.laws.specs.Frames.{Frame, call_l, call_r, block_f, plug, outer, plugs, outers, operands_of, operands_move, Plain, quiet_plain, value_plain, blocked_some, step_call, step_call_none}
use Rattle.room.specs.declared.Focus.TheVariants.{Node, Value as Word}
use Rattle.room.specs.Room.{search_word, most_operands, frame_at, held, store_of, shape_of, calling, loaded, operand_of, frame_of, word, tag, kept, frame, frames, Fit}
use Rattle.room.specs.RoomLaws.{Kept, kept_refl, kept_set, kept_store, kept_frames, kept_fit, frames_more, fit_more, fit_less, block_in, block_around, push_block, block_size, block_below, block_above, block_fit, block_plugs, block_outers}
use Rattle.room.specs.Stack.{found, Goes, goes_back, Beyond, beyond_at, busy}
use Rattle.room.specs.Turn.{HeapOk, focus_of, weight, behind, pending, finds, Inv, Moves, Steps, Sinks}
use Rattle.room.specs.Enter.{plugs_in, outers_in, pending_kept}
use Rattle.room.specs.Nodes.{length_frames, quiet_other, call_count}
use Rattle.room.specs.Back.{Back, is_call}

none_tabulated : (f : ℕ → ℕ × Value) → tabulate 0 f ≡ []
unfolding tabulate
none_tabulated f = refl

no_values : (f : ℕ → Value) → tabulate 0 f ≡ []
unfolding tabulate
no_values f = refl

tabulate_cons {ℓ} : {A : Type ℓ} (n : ℕ) (f : ℕ → A) → tabulate (suc n) f ≡ f 0 ∷ tabulate n (λ i. f (suc i))
unfolding tabulate
tabulate_cons n f = refl

-- One more operand is a value: the k-th word is its, and those before it are as they were.
module _ (p m y k w : ℕ) (old new : ℕ → ℕ) (o : ℕ → Expr) (s : Store) (before : (c : ℕ) → c < k → new c ≡ old c) (here : new k ≡ w) where
  call_more : k < y → plug blocked (calling p m y (suc k) new o) s (o (y - suc k)) ≡ plug blocked (calling p m y k old o) s (bare (value_at w))
  unfolding plug calling operands_of arguments
  call_more l = go k refl
    where
      rest : (k : ℕ) → k < y → arguments o (y - k) ≡ cons (o (y - suc k)) (arguments o (y - suc k))
      rest k l = let e : y - k ≡ suc (y - suc k) = omega arith in rw e

      go : (j : ℕ) → k ≡ j
          → plug blocked (calling p m y (suc j) new o) s (o (y - suc j)) ≡ plug blocked (calling p m y j old o) s (bare (value_at w))
      go zero e =
          let h : new 0 ≡ w = rw e at here in
          let z : y - 0 ≡ y = omega arith in
          let r : arguments o y ≡ cons (o (y - 1)) (arguments o (y - 1)) = rw z at (rest 0 (omega arith)) in
          let b : ℕ → ℕ × Value = λ i. (0, value_at (new (suc i))) in
          let n : tabulate 0 b ≡ [] = none_tabulated b in
          rw (h, r, n)
      go (suc j) e =
          let h : new (suc j) ≡ w = rw e at here in
          let f : new 0 ≡ old 0 = before 0 (omega arith) in
          let a : ℕ → ℕ × Value = λ i. (0, value_at (old (suc i))) in
          let b : ℕ → ℕ × Value = λ i. (0, value_at (new (suc i))) in
          let q : tabulate j b ≡ tabulate j a = tabulate_same j b a (λ i l. rw (before (suc i) (omega arith))) in
          rw (f, rest (suc j) (omega arith), operands_move (tabulate j a) 0 (value_at w) (o (y - suc (suc j))) (arguments o (y - suc (suc j))), tabulate_last j b, h, q)

outer_call : (p m y k : ℕ) (words : ℕ → ℕ) (o : ℕ → Expr) (s : Store) → outer (calling p m y k words o) s ≡ s
unfolding outer calling
outer_call p m y zero words o s = refl
outer_call p m y (suc k) words o s = refl

call_plain : (p m y k : ℕ) (words : ℕ → ℕ) (o : ℕ → Expr) (Fs : List Frame) (s : Store) (w : ℕ)
    → Plain (calling p m y k words o ∷ Fs) s (bare (value_at w))
unfolding calling plug view assigned
call_plain p m y zero words o Fs s w = value_plain (call_l p m (arguments o y)) Fs s 0 (value_at w) (λ x. refl)
call_plain p m y (suc k) words o Fs s w =
    value_plain
    (call_r p m 0 (value_at (words 0)) (tabulate k (λ i. (0, value_at (words (suc i))))) (arguments o (y - suc k)))
    Fs s 0 (value_at w) (λ x. refl)

-- where all operands are values, the call is asked what it does with them
module _ (P : Program) (p m y w : ℕ) (old new : ℕ → ℕ) (o : ℕ → Expr) (h : Heap) (s : Store)
    (before : (c : ℕ) → c < y → new c ≡ old c) (here : new y ≡ w) where
  call_found : step P (plug block (calling p m y y old o) s (bare (value_at w))) h (outer (calling p m y y old o) s)
      ≡ call_out P p h s m (value_at (new 0)) (tabulate y (λ c. value_at (new (suc c))))
  unfolding calling plug outer arguments
  call_found = go y refl
    where
      go : (j : ℕ) → y ≡ j
          → step P (plug block (calling p m j j old o) s (bare (value_at w))) h (outer (calling p m j j old o) s)
          ≡ call_out P p h s m (value_at (new 0)) (tabulate j (λ c. value_at (new (suc c))))
      go zero e =
          let q : new 0 ≡ w = rw e at here in
          let b : ℕ → Value = λ c. value_at (new (suc c)) in
          let n : tabulate 0 b ≡ [] = no_values b in
          rw (q, n) (step_call_none P p h s m 0 (value_at w))
      go (suc j) e =
          let q : new (suc j) ≡ w = rw e at here in
          let f : new 0 ≡ old 0 = before 0 (omega arith) in
          let z : suc j - suc j ≡ 0 = omega arith in
          let a : ℕ → ℕ × Value = λ i. (0, value_at (old (suc i))) in
          let b : ℕ → Value = λ c. value_at (new (suc c)) in
          let c : ℕ → Value = λ i. value_at (old (suc i)) in
          let g : ℕ × Value → Value = λ u. u.1 in
          let r : tabulate j b ≡ tabulate j c = tabulate_same j b c (λ i l. rw (before (suc i) (omega arith))) in
          let k : map g (tabulate j a) ≡ tabulate j c = map_tabulate g j a in
          rw (z, f, tabulate_last j b, q, r, ← k) (step_call P p h s m 0 (value_at (old 0)) (tabulate j a) 0 (value_at w))

module _ (ws : List ℕ) (good : (n : ℕ) → n < node_count ws → node_holds ws n ≡ true) (D : ℕ) (hs room : List ℕ) (i w : ℕ)
    (inv : Inv ws D room (suc i) (Word w)) (t : tag ws room i ≡ 9) where
  -- the call's node, how many operands it has, and how many of them are values
  abbrev count : ℕ
  count = node_word ws (word ws room i 1) 3

  abbrev done : ℕ
  done = word ws room i 2

  few : count ≤ most_arguments
  few = let n = is_call ws good D hs room i w inv t in call_count ws (word ws room i 1) (good (word ws room i 1) n.0.0) n.0.1

  long : frame_at i + 16 ≤ length room
  long = omega (arith, inv.long, inv.level)

  -- the value is kept in its place
  abbrev pub keeping : List ℕ
  keeping = set room (frame_at i + (5 + word ws room i 2)) w

  keeping_word : (k : ℕ) → (k ≡ 5 + done → ⊥) → word ws keeping i k ≡ word ws room i k
  keeping_word k d = get_or-set_other room (frame_at i + (5 + done)) (frame_at i + k) w 0 (λ z. d (let y : frame_at i + k ≡ frame_at i + (5 + done) = z in omega arith))

  keeping_tag : tag ws keeping i ≡ 9
  keeping_tag = get_or-set_other room (frame_at i + (5 + done)) (frame_at i) w 0 (λ z. let y : frame_at i ≡ frame_at i + (5 + done) = z in omega arith) ∙ t

  within : done ≤ count
  within = (is_call ws good D hs room i w inv t).1

  -- the operands' words then
  pub keeping_before : (c : ℕ) → c < done → kept ws keeping i c ≡ kept ws room i c
  unfolding kept
  keeping_before c l = rw (keeping_word (5 + c) (λ z. let y : 5 + c ≡ 5 + done = z in omega arith))

  pub keeping_here : kept ws keeping i done ≡ w
  unfolding kept
  keeping_here =
      rw (lt-ltb done most_operands (omega (arith, few, within)), get_or-set_same room (frame_at i + (5 + done)) w 0 (omega (arith, few, within, long)))

  pub keeping_value : (c : ℕ) → c < suc done → IsValue (kept ws keeping i c)
  keeping_value c l = go (ℕ_discrete c done)
    where
      go : Dec (c ≡ done) → IsValue (kept ws keeping i c)
      go (yes e) = rw (e, keeping_here) inv.here
      go (no d) = rw (keeping_before c (omega arith)) ((is_call ws good D hs room i w inv t).2 c (omega arith))

  -- and one more is counted
  abbrev pub more : List ℕ
  more = set keeping (frame_at i + 2) (suc (word ws room i 2))

  more_kept : Kept room more i
  more_kept = kept_set (frame_at i + 2) (suc done) (omega arith) (kept_set (frame_at i + (5 + done)) w (omega arith) (kept_refl room i))

  more_word : (k : ℕ) → (k ≡ 2 → ⊥) → word ws more i k ≡ word ws keeping i k
  more_word k d = get_or-set_other keeping (frame_at i + 2) (frame_at i + k) (suc done) 0 (λ z. d (let y : frame_at i + k ≡ frame_at i + 2 = z in omega arith))

  more_tag : tag ws more i ≡ 9
  more_tag = get_or-set_other keeping (frame_at i + 2) (frame_at i) (suc done) 0 (λ z. let y : frame_at i ≡ frame_at i + 2 = z in omega arith) ∙ keeping_tag

  more_place : word ws more i 1 ≡ word ws room i 1
  more_place = more_word 1 (λ z. omega arith) ∙ keeping_word 1 (λ z. let y : 1 ≡ 5 + done = z in omega arith)

  more_done : word ws more i 2 ≡ suc done
  more_done = get_or-set_same keeping (frame_at i + 2) (suc done) 0 (rw length-set (omega (arith, long)))

  more_same : kept ws more i ≡ kept ws keeping i
  unfolding kept
  more_same n c = go n
    where
      go : kept ws more i c ≡ kept ws keeping i c
      go = rw (more_word (5 + c) (λ z. let y : 5 + c ≡ 2 = z in omega arith))

  counted : node_word ws (word ws room i 1) 0 ≡ 9 → operand_count ws (word ws room i 1) ≡ suc count
  unfolding kind_of operands
  counted e = rw e

  -- The next operand is gone into.
  pub more_moves : word ws room i 2 < node_word ws (word ws room i 1) 3
      → Moves ws D room (suc i) (Word w) more (suc i)
      (Node (operand ws (word ws room i 1) (node_word ws (word ws room i 1) 3 - suc (word ws room i 2))))
  unfolding frames focus_of frame frame_of shape_of pending weight behind
  more_moves l =
      let p = word ws room i 1 in
      let m = node_word ws p 2 in
      let j = count - suc done in
      let n = is_call ws good D hs room i w inv t in
      let k = more_kept in
      let c : operand_count ws p ≡ suc count = counted n.0.1 in
      let e : count - done ≡ suc j = omega arith in
      let s = store_of room in
      let new = calling p m count (suc done) (kept ws more i) (operand_of ws p) in
      let old = calling p m count done (kept ws room i) (operand_of ws p) in
      let h : plug blocked new s (operand_of ws p j) ≡ plug blocked old s (bare (value_at w)) =
      call_more p m count done w (kept ws room i) (kept ws more i) (operand_of ws p) s
      (λ c l. rw more_same (keeping_before c l)) (rw more_same keeping_here) l in
      record {
        inv =
            record {
              fit =
                  fit_more ws (kept_fit ws k (fit_less ws (omega arith) inv.fit)) (rw k.size (omega (arith, long)))
                  (rw (more_tag, more_place, more_done, more_same) (n.0, l, keeping_value));
              level = inv.level;
              long = rw k.size inv.long;
              here = omega (arith, n.0.0, operand_below ws p (good p n.0.0) j (omega arith));
            };
        size = k.size;
        search = k.same search_word (omega arith);
        same =
            rw (frames_more ws k, kept_store k, more_tag, more_place, more_done, t)
            (plugs_in new (frames ws room i) s (operand_of ws p j) (plug blocked old s (bare (value_at w))) h (outer_call p m count (suc done) _ _ s)
            ∙ sym (plugs_in old (frames ws room i) s (bare (value_at w)) (plug blocked old s (bare (value_at w))) refl (outer_call p m count done _ _ s)));
        around =
            rw (frames_more ws k, kept_store k, more_tag, more_place, more_done, t)
            (outers_in new (frames ws room i) s (outer_call p m count (suc done) _ _ s)
            ∙ sym (outers_in old (frames ws room i) s (outer_call p m count done _ _ s)));
        falls =
            rw (more_tag, more_place, more_done, pending_kept ws k, t, e)
            (omega (arith, operand_after ws p (good p n.0.0) j (omega arith), operand_below ws p (good p n.0.0) j (omega arith)));
      }

  -- The last operand is a value: all of them are.
  pub last_back : word ws room i 2 ≡ node_word ws (word ws room i 1) 3
      → Back ws good D hs room i w inv
      (calling (word ws room i 1) (node_word ws (word ws room i 1) 2) (node_word ws (word ws room i 1) 3) (node_word ws (word ws room i 1) 3)
      (kept ws room i) (operand_of ws (word ws room i 1)))
      (call_out (program ws) (word ws room i 1) (heap_of (program ws) hs) (store_of room) (node_word ws (word ws room i 1) 2)
      (value_at (kept ws keeping i 0)) (tabulate (node_word ws (word ws room i 1) 3) (λ c. value_at (kept ws keeping i (suc c)))))
  unfolding frame frame_of shape_of
  last_back e =
      let p = word ws room i 1 in
      let m = node_word ws p 2 in
      record {
        is = rw (t, e);
        plain = call_plain p m count count (kept ws room i) (operand_of ws p) (frames ws room i) (store_of room) w;
        found =
            call_found (program ws) p m count w (kept ws room i) (kept ws keeping i) (operand_of ws p) (heap_of (program ws) hs) (store_of room)
            (λ c l. keeping_before c (rw e l)) (ap (kept ws keeping i) (sym e) ∙ keeping_here);
      }

-- A call's blocks: under a frame for each of them stands the body, and where they do not fit the active place is too deep.
module _ (P : Program) (D : ℕ) (h : Heap) (p : ℕ) (e : Expr) where
  block_found : (x : ℕ) (t : Ty) (v : Value) (Fs : List Frame) (s : Store) (d : Expr)
      → found P h Fs s (block p x t (some v) d) ≡ found P h (block_f p x t (s x) ∷ Fs) (upd s x (some v)) d
  block_found x t v Fs s d =
      rw (block_in p x t s (some v) Fs d, block_around p x t s (some v) Fs, blocked_some p x t v d)

  pub sinks : (x : ℕ) (t : Ty) (ts : List Ty) (v : Value) (vs : List Value) (Fs : List Frame) (s : Store) → length ts ≡ length vs
      → D < length Fs + length ts
      → Beyond D (found P h Fs s (blocks p x (t ∷ ts) (v ∷ vs) e))
  unfolding blocks view
  sinks x t [] v vs Fs s l d =
      beyond_at P D h Fs s (block p x t (some v) e) (quiet_plain Fs s (block p x t (some v) e) (quiet_other _ refl)) (omega arith)
      (busy P h s (block p x t (some v) e) tt)
  sinks x t (t' ∷ ts) v [] Fs s l d = absurd (omega arith)
  sinks x t (t' ∷ ts) v (v' ∷ vs) Fs s l d =
      rw (block_found x t v Fs s (blocks p (suc x) (t' ∷ ts) (v' ∷ vs) e))
      (sinks (suc x) t' ts v' vs (block_f p x t (s x) ∷ Fs) (upd s x (some v)) (omega arith) (omega arith))

-- The blocks are pushed one after the other, from the words that the Call's frame keeps.
module _ (ws base : List ℕ) (i p n : ℕ) (types : ℕ → ℕ) (e : Expr) where
  abbrev pub block_types : List Ty
  block_types = tabulate n (λ k. type_of (types k))

  abbrev pub block_values : List Value
  block_values = tabulate n (λ k. value_at (word ws base i (5 + k)))

  pub record Pushing (room : List ℕ) (c : ℕ) : Type 0 where
    pub low : c ≤ n
    pub size : length room ≡ length base
    pub fit : Fit ws room (i + c)
    pub search : get_or room search_word 0 ≡ get_or base search_word 0
    pub values : (k : ℕ) → c ≤ k → k < most_operands → word ws room i (5 + k) ≡ word ws base i (5 + k)
    pub same
        : plugs blocked (frames ws room (i + c)) (store_of room) (blocks p c (drop c block_types) (drop c block_values) e)
        ≡ plugs blocked (frames ws base i) (store_of base) (blocks p 0 block_types block_values e)
    pub around : outers (frames ws room (i + c)) (store_of room) ≡ outers (frames ws base i) (store_of base)

  pub pushing_start : Fit ws base i → Pushing base 0
  pushing_start f =
      let z : i + 0 ≡ i = omega arith in
      record {
        low = omega arith;
        size = refl;
        fit = rw z f;
        search = refl;
        values = λ k l b. refl;
        same = rw z;
        around = rw z;
      }

  pub pushing_on : (room : List ℕ) (c : ℕ) → Pushing room c → c < n → n ≤ most_operands → IsValue (word ws base i (5 + c))
      → frame_at (suc (i + c)) ≤ length room
      → Pushing (push_block room (i + c) p c (types c) (suc (word ws base i (5 + c)))) (suc c)
  unfolding blocks held
  pushing_on room c k l m v f =
      let x : c < variables = omega arith in
      let w = word ws base i (5 + c) in
      let z : i + suc c ≡ suc (i + c) = omega arith in
      let t : ℕ → Ty = λ k. type_of (types k) in
      let u : ℕ → Value = λ k. value_at (word ws base i (5 + k)) in
      let d = blocks p (suc c) (drop (suc c) block_types) (drop (suc c) block_values) e in
      let a : drop c block_types ≡ t c ∷ drop (suc c) block_types = drop_tabulate n t c l in
      let b : drop c block_values ≡ u c ∷ drop (suc c) block_values = drop_tabulate n u c l in
      let q : plugs blocked (frames ws room (i + c)) (store_of room) (block p c (t c) (some (u c)) d)
      ≡ plugs blocked (frames ws base i) (store_of base) (blocks p 0 block_types block_values e) = rw (a, b) at k.same in
      record {
        low = omega arith;
        size = block_size ws room (i + c) p c (types c) (suc w) x f ∙ k.size;
        fit = rw z (block_fit ws room (i + c) p c (types c) (suc w) x f v k.fit);
        search =
            block_below ws room (i + c) p c (types c) (suc w) x f search_word (omega arith) (λ y. let s : search_word ≡ c = y in omega arith)
            ∙ k.search;
        values = λ j h b. beside j h b (ℕ_discrete c 0) ∙ k.values j (omega arith) b;
        same =
            rw (z, block_plugs ws room (i + c) p c (types c) (suc w) x f d, blocked_some p c (type_of (types c)) (value_at w) d) q;
        around = rw (z, block_outers ws room (i + c) p c (types c) (suc w) x f) k.around;
      }
    where
      beside : (j : ℕ) → suc c ≤ j → j < most_operands → Dec (c ≡ 0)
          → word ws (push_block room (i + c) p c (types c) (suc (word ws base i (5 + c)))) i (5 + j) ≡ word ws room i (5 + j)
      beside j h b (yes y) =
          block_above ws room (i + c) p c (types c) (suc (word ws base i (5 + c))) (omega arith) f (frame_at i + (5 + j)) (omega arith)
      beside j h b (no y) =
          block_below ws room (i + c) p c (types c) (suc (word ws base i (5 + c))) (omega arith) f (frame_at i + (5 + j)) (omega arith)
          (λ q. let s : frame_at i + (5 + j) ≡ c = q in omega arith)

  -- all of them
  pub pushing_end : (room : List ℕ) (c : ℕ) → Pushing room c → n ≤ c
      → plugs blocked (frames ws room (i + c)) (store_of room) e
      ≡ plugs blocked (frames ws base i) (store_of base) (blocks p 0 block_types block_values e)
  unfolding blocks
  pushing_end room c k l =
      let t : ℕ → Ty = λ k. type_of (types k) in
      let a : drop c block_types ≡ [] = drop_tabulate_all n t c l in
      rw a at k.same

-- What a call with all its operands does that enters a method with the body at node m: types says the types of the blocks.
module _ (ws : List ℕ) (good : (n : ℕ) → n < node_count ws → node_holds ws n ≡ true) (D : ℕ) (hs room : List ℕ) (i w : ℕ)
    (inv : Inv ws D room (suc i) (Word w)) (t : tag ws room i ≡ 9) (all : word ws room i 2 ≡ node_word ws (word ws room i 1) 3)
    (types : ℕ → ℕ) (m : ℕ) where
  abbrev pub base : List ℕ
  base = keeping ws good D hs room i w inv t

  abbrev pub called : Expr
  called =
      blocks (word ws room i 1) 0 (block_types ws base i (word ws room i 1) (suc (node_word ws (word ws room i 1) 3)) types (loaded ws m))
      (block_values ws base i (word ws room i 1) (suc (node_word ws (word ws room i 1) 3)) types (loaded ws m)) (loaded ws m)

  unfoldable pub Enters : Type 0
  Enters =
      call_out (program ws) (word ws room i 1) (heap_of (program ws) hs) (store_of room) (node_word ws (word ws room i 1) 2)
      (value_at (kept ws base i 0)) (tabulate (node_word ws (word ws room i 1) 3) (λ c. value_at (kept ws base i (suc c))))
      ≡ Out.next 0 (word ws room i 1) (heap_of (program ws) hs) (store_of room) called

  goes_called : Enters → Goes D (finds ws hs room (suc i) (Word w)) (heap_of (program ws) hs) (outers (frames ws room i) (store_of room))
      (plugs blocked (frames ws room i) (store_of room) called)
  unfolding Enters frames focus_of
  goes_called e =
      let b = last_back ws good D hs room i w inv t all in
      rw b.is
      (goes_back (program ws) D (heap_of (program ws) hs)
      (calling (word ws room i 1) (node_word ws (word ws room i 1) 2) (node_word ws (word ws room i 1) 3)
      (node_word ws (word ws room i 1) 3) (kept ws room i) (operand_of ws (word ws room i 1)))
      (frames ws room i) (store_of room) (bare (value_at w)) called (heap_of (program ws) hs) (store_of room) (word ws room i 1) b.plain
      (rw length_frames (omega (arith, inv.level))) (b.found ∙ e))

  -- its blocks are pushed
  pub call_steps : Enters → (new : List ℕ) (c : ℕ)
      → Pushing ws base i (word ws room i 1) (suc (node_word ws (word ws room i 1) 3)) types (loaded ws m) new c
      → suc (node_word ws (word ws room i 1) 3) ≤ c → i + c ≤ suc D → m < node_count ws → HeapOk ws hs (get_or room search_word 0)
      → Steps ws D hs room (suc i) (Word w) hs new (i + c) (Node m)
  unfolding focus_of
  call_steps e new c k l d n h =
      let b = base_kept in
      record {
        inv = record { fit = k.fit; level = d; long = rw (k.size, b.size) inv.long; here = n };
        size = k.size ∙ b.size;
        heap = rw (k.search, b.same search_word (omega arith)) h;
        goes =
            rw (
              pushing_end ws base i (word ws room i 1) (suc (node_word ws (word ws room i 1) 3)) types (loaded ws m) new c k l,
              k.around,
              kept_frames ws b,
              kept_store b,
            )
            (goes_called e);
      }
    where
      base_kept : Kept room base i
      base_kept = kept_set (frame_at i + (5 + word ws room i 2)) w (omega arith) (kept_refl room i)

  -- or there are too many of them
  pub call_sinks : Enters → D < i + node_word ws (word ws room i 1) 3 → Sinks ws D hs room (suc i) (Word w)
  call_sinks e d =
      let p = word ws room i 1 in
      let y = node_word ws p 3 in
      let a : ℕ → Ty = λ k. type_of (types k) in
      let b : ℕ → Value = λ k. value_at (word ws base i (5 + k)) in
      let ay : ℕ → Ty = λ k. type_of (types (suc k)) in
      let bs : ℕ → Value = λ k. value_at (word ws base i (5 + suc k)) in
      record {
        store = outers (frames ws room i) (store_of room);
        expr = plugs blocked (frames ws room i) (store_of room) called;
        goes = goes_called e;
        beyond =
            rw (tabulate_cons y a, tabulate_cons y b)
            (sinks (program ws) D (heap_of (program ws) hs) p (loaded ws m) 0 (a 0) (tabulate y ay) (b 0) (tabulate y bs)
            (frames ws room i) (store_of room)
            (length_tabulate y ay ∙ sym (length_tabulate y bs)) (rw (length_tabulate y ay, length_frames) d));
      }
