-- Laws of a Call that has all its operands: what it enters, throws or is stuck at.
use Rattle.std.specs.Prelude.{◌≡◌, refl, true, List, ◌∷◌, length, get_or}
use Rattle.std.proofs.Math.Path.{sym}
use Rattle.std.proofs.Common.{◌∙◌, lt-ltb}
use Prim.Native.Nat.{ℕ, suc, ◌+◌, ◌*◌, ◌^◌, ◌≤◌, ◌<◌}
use native.Mathlib.Omega.{arith}
use Rattle.std.proofs.Math.Numerals.{add-one}
use Rattle.words.specs.declared.Value.{Value}
use Rattle.words.specs.declared.Value.TheVariants.{Addr}
use Rattle.words.specs.declared.Ty.{Ty}
use Rattle.words.specs.declared.Ty.TheVariants.{Class}
use Rattle.words.specs.Types.{type_of, type_word}
use Rattle.words.specs.TypeLaws.{type_of_word}
use Rattle.image.specs.declared.Layout.{Layout}
use Rattle.image.specs.Numbers.{most_arguments}
use Rattle.image.specs.Trailer.{node_count, method_count, type_count}
use Rattle.image.specs.Records.{method_word, type_at}
use Rattle.image.specs.Nodes.{node_word, node_holds}
use Rattle.image.specs.Layout.{Good}
use Rattle.rules.specs.Maps.{tabulate}
use Rattle.rules.specs.Trees.{tree}
use Rattle.rules.specs.Program.{types_from, method_at}
use Rattle.rules.specs.Step.{redex}
use Rattle.laws.specs.Maps.{tabulate_same, length_tabulate}
use Rattle.laws.specs.Values.{value_at, IsValue}
use Rattle.classes.specs.Records.{Arguments, method_arguments}
use Rattle.laws.specs.Postorder.{body_holds_lem, method_filled}
use Rattle.redexes.specs.declared.Outcome.TheVariants.{Fails}
use Rattle.laws.specs.Tags.{word_low}
use Rattle.redexes.specs.Outcomes.{EntersAt, RaisesAt, Calls}
use Rattle.room.specs.declared.Focus.TheVariants.{Node, Value as Word, Thrown}
use Rattle.room.specs.Room.{search_word, most_operands, frame_at, store_of, loaded, word, tag, kept, Fit}
use Rattle.room.specs.RoomLaws.{Kept, kept_refl, kept_set, kept_store, kept_frames, kept_fit, fit_less, push_block}
use Rattle.room.specs.Stack.{Halts}
use Rattle.room.specs.Turn.{HeapOk, focus_of, finds, Inv, Steps, Sinks}
use Rattle.room.specs.Nodes.{call_count}
use Rattle.room.specs.Back.{back_steps, back_halts, is_call}
use Rattle.room.specs.Calls.{keeping, keeping_value, last_back, Pushing, pushing_start, pushing_on, Enters, call_steps, call_sinks}
use Rattle.calls.specs.Blocks.{block_word, Callable, Pushed}

-- a method's body stands in the table
pub body_node : {ws : List ℕ} {lay : Layout} → Good ws lay → (j : ℕ) → j < method_count ws → method_word ws j 5 < node_count ws
body_node {ws} g j h = (body_holds_lem ws _ _ (method_filled ws j h (g.bodies j (omega arith)))).0

-- the type word of a class
class_word : (c : ℕ) → type_of (4 + c) ≡ Class c
unfolding type_word
class_word c = type_of_word (Class c)

-- the blocks' types are those of the receiver and of the parameters
block_types_lem : (ws : List ℕ) (j : ℕ)
    → tabulate (suc (method_word ws j 4)) (λ k. type_of (block_word ws j k)) ≡ Class (method_at ws j).owner ∷ (method_at ws j).params
unfolding method_at types_from tabulate block_word
block_types_lem ws j = rw (class_word (method_word ws j 0))

-- the rules' body of a method is the tree of its node
method_body : (ws : List ℕ) (j : ℕ) → (method_at ws j).body ≡ tree ws (method_word ws j 5)
unfolding method_at
method_body ws j = refl

-- a table by its first element
tabulate_cons {ℓ} : {A : Type ℓ} (n : ℕ) (f : ℕ → A) → tabulate (suc n) f ≡ f 0 ∷ tabulate n (λ i. f (suc i))
unfolding tabulate
tabulate_cons n f = refl

-- The blocks are pushed: the receiver's, and then one for each argument.
module _ {ws : List ℕ} {lay : Layout} {old : List ℕ} {i j y : ℕ} (g : Good ws lay) (k : Callable ws old i j y) where
  -- there are few parameters, and their types stand in the image
  pub arguments_in : Arguments (type_count ws) (method_word ws j 3) y
  arguments_in = rw k.arguments at (method_arguments ws j (g.methods j k.method))

  -- one more block
  pushed_on : (p : ℕ) (room : List ℕ) (c : ℕ) → Pushed ws old i p j y room c → c ≤ y
      → Pushed ws old i p j y (push_block room (i + c) p c (block_word ws j c) (suc (word ws room i (5 + c)))) (suc c)
  pushed_on p room c s l e =
      let a = arguments_in.few in
      let b = s e in
      rw (b.values c (omega arith) (omega arith))
      (pushing_on ws old i p (suc y) (block_word ws j) e room c b (omega arith) (omega arith) (k.values c l) (omega (arith, k.long, b.size)))

  -- the same as the code says it: the receiver's, and that of the argument behind c others
  pub pushed_first : (p : ℕ)
      → Pushed ws old i p j y (push_block old i p 0 (4 + method_word ws j 0) (word ws old i 5 + 1)) 1
  unfolding block_word
  pushed_first p e =
      let z : i + 0 ≡ i = omega arith in
      let s = rw z at (pushed_on p old 0 (λ e. pushing_start ws old i p (suc y) (block_word ws j) e k.fit) (omega arith) e) in
      rw (add-one (word ws old i 5)) s

  pub pushed_next : (p : ℕ) (room : List ℕ) (c : ℕ) → Pushed ws old i p j y room (suc c) → c < y
      → Pushed ws old i p j y
      (push_block room (i + (c + 1)) p (c + 1) (type_at ws (method_word ws j 3 + c)) (word ws room i (5 + (c + 1)) + 1)) (suc (c + 1))
  unfolding block_word
  pushed_next p room c s l =
      rw (add-one (word ws room i (5 + (c + 1))), add-one c) (pushed_on p room (suc c) s l)

  -- the room keeps its length, and the words of the operands to come are values' still
  pub pushed_size : {p : ℕ} {room : List ℕ} {c : ℕ} → Pushed ws old i p j y room c → length room ≡ length old
  pushed_size s = (s (tree ws 0)).size

  pub pushed_low : {p : ℕ} {room : List ℕ} (c : ℕ) → Pushed ws old i p j y room (suc c) → c < y → word ws room i (5 + (c + 1)) < 5 * 2 ^ 32
  pushed_low {p} {room} c s l =
      let a = arguments_in.few in
      rw ((s (tree ws 0)).values (c + 1) (omega arith) (omega arith)) (word_low (word ws old i (5 + (c + 1))) (k.values (c + 1) (omega arith)))

  -- a count said another way
  pub pushed_as : {p : ℕ} {room : List ℕ} (c d : ℕ) → c ≡ d → Pushed ws old i p j y room (suc c) → Pushed ws old i p j y room (suc d)
  pushed_as c d e s = rw (← e) s

module _ (ws : List ℕ) (good : (n : ℕ) → n < node_count ws → node_holds ws n ≡ true) (D : ℕ) (hs room : List ℕ) (i w : ℕ)
    (inv : Inv ws D room (suc i) (Word w)) (t : tag ws room i ≡ 9) where
  -- a Call has few arguments
  pub few : node_word ws (word ws room i 1) 3 ≤ most_arguments
  few = let n = (is_call ws good D hs room i w inv t).0 in call_count ws (word ws room i 1) (good (word ws room i 1) n.0) n.1

  -- The room in which the value is kept has the frames below as they were.
  abbrev stored : List ℕ
  stored = keeping ws good D hs room i w inv t

  pub stored_kept : Kept room stored i
  stored_kept = kept_set (frame_at i + (5 + word ws room i 2)) w (omega arith) (kept_refl room i)

  pub stored_fit : Fit ws stored i
  stored_fit = kept_fit ws stored_kept (fit_less ws (omega arith) inv.fit)

  -- the operands' words, which are values'
  kept_word_lem : (c : ℕ) → c ≤ node_word ws (word ws room i 1) 3 → kept ws stored i c ≡ word ws stored i (5 + c)
  unfolding kept
  kept_word_lem c l = rw (lt-ltb c most_operands (omega (arith, few)))

  pub operand_value : (c : ℕ) → c ≤ word ws room i 2 → IsValue (word ws stored i (5 + c))
  operand_value c l =
      rw (← kept_word_lem c (omega (arith, (is_call ws good D hs room i w inv t).1)))
      (keeping_value ws good D hs room i w inv t c (omega arith))

  module _ (all : word ws room i 2 ≡ node_word ws (word ws room i 1) 3) where
    -- Method j is entered: the definition puts these blocks around its body.
    pub call_enters : (a j : ℕ)
        → EntersAt ws hs (node_word ws (word ws room i 1) 2) (word ws room i 2) (value_at (word ws stored i 5)) a j
        → Enters ws good D hs room i w inv t all (block_word ws j) (method_word ws j 5)
    unfolding Enters
    call_enters a j e =
        let p = word ws room i 1 in
        let y = node_word ws p 3 in
        let k : ℕ → Value = λ c. value_at (kept ws stored i (suc c)) in
        let u : ℕ → Value = λ c. value_at (word ws stored i (5 + c)) in
        let us : ℕ → Value = λ c. value_at (word ws stored i (5 + suc c)) in
        let b : ℕ → Ty = λ c. type_of (block_word ws j c) in
        let ts : tabulate (suc y) b ≡ Class (method_at ws j).owner ∷ (method_at ws j).params = rw (e.arguments ∙ all) at (block_types_lem ws j) in
        let vs : tabulate (suc y) u ≡ Addr a ∷ tabulate y k =
        tabulate_cons y u ∙ rw (e.is, tabulate_same y us k (λ c l. rw (kept_word_lem (suc c) (omega arith)))) in
        rw (kept_word_lem 0 (omega arith), ts, vs, ← method_body ws j) (e.out p (store_of room) (tabulate y k) (length_tabulate y k ∙ sym all))

    module _ (a j : ℕ)
        (e : EntersAt ws hs (node_word ws (word ws room i 1) 2) (word ws room i 2) (value_at (word ws stored i 5)) a j) where
      -- The blocks have their place,
      pub callable : i + word ws room i 2 ≤ D → Callable ws stored i j (word ws room i 2)
      callable d =
          record {
            method = e.within;
            arguments = e.arguments;
            fit = stored_fit;
            long = rw stored_kept.size (omega (arith, inv.long));
            values = operand_value;
          }

      -- and pushing them is the step;
      pub call_goes : (new : List ℕ) → Pushed ws stored i (word ws room i 1) j (word ws room i 2) new (suc (word ws room i 2))
          → i + word ws room i 2 ≤ D → method_word ws j 5 < node_count ws → HeapOk ws hs (get_or room search_word 0)
          → Steps ws D hs room (suc i) (Word w) hs new (i + word ws room i 2 + 1) (Node (method_word ws j 5))
      call_goes new s d m h =
          let c = word ws room i 2 in
          let y = node_word ws (word ws room i 1) 3 in
          let z : i + c + 1 ≡ i + suc c = omega arith in
          rw z
          (call_steps ws good D hs room i w inv t all (block_word ws j) (method_word ws j 5) (call_enters a j e) new (suc c)
          (as_many c y all (s (loaded ws (method_word ws j 5)))) (omega (arith, all)) (omega arith) m h)
        where
          as_many : (n m : ℕ) → n ≡ m
              → Pushing ws stored i (word ws room i 1) (suc n) (block_word ws j) (loaded ws (method_word ws j 5)) new (suc (word ws room i 2))
              → Pushing ws stored i (word ws room i 1) (suc m) (block_word ws j) (loaded ws (method_word ws j 5)) new (suc (word ws room i 2))
          as_many n m q b = rw (← q) b

      -- or the step leads too deep.
      pub call_sunk : D < i + word ws room i 2 → Sinks ws D hs room (suc i) (Word w)
      call_sunk d =
          call_sinks ws good D hs room i w inv t all (block_word ws j) (method_word ws j 5) (call_enters a j e) (omega (arith, all))

    -- A system exception is thrown,
    pub call_raises : (a : ℕ)
        → RaisesAt ws hs (node_word ws (word ws room i 1) 2) (word ws room i 2) (value_at (word ws stored i 5)) a
        → HeapOk ws hs (get_or room search_word 0)
        → Steps ws D hs room (suc i) (Word w) hs stored i (Thrown a (word ws room i 1))
    unfolding redex focus_of
    call_raises a e h =
        let p = word ws room i 1 in
        let y = node_word ws p 3 in
        let k : ℕ → Value = λ c. value_at (kept ws stored i (suc c)) in
        back_steps ws good D hs room i w inv (last_back ws good D hs room i w inv t all) p hs stored (Thrown a p)
        (rw (kept_word_lem 0 (omega arith), kept_store stored_kept) (e.out p (store_of room) (tabulate y k) (length_tabulate y k ∙ sym all)))
        (kept_frames ws stored_kept)
        (record {
          fit = stored_fit;
          level = omega (arith, inv.level);
          long = rw stored_kept.size inv.long;
          here = e.small;
        })
        stored_kept.size
        (rw (stored_kept.same search_word (omega arith)) h)

    -- or no rule fits.
    pub call_fails : Calls ws hs (node_word ws (word ws room i 1) 2) (word ws room i 2) (value_at (word ws stored i 5)) Fails
        → Halts D (finds ws hs room (suc i) (Word w)) (word ws room i 1)
    call_fails e =
        let p = word ws room i 1 in
        let y = node_word ws p 3 in
        let k : ℕ → Value = λ c. value_at (kept ws stored i (suc c)) in
        back_halts ws good D hs room i w inv (last_back ws good D hs room i w inv t all) p
        (rw (kept_word_lem 0 (omega arith)) (e p (store_of room) (tabulate y k) (length_tabulate y k ∙ sym all)))
