-- Laws of nodes whose value is known where they stand.
use Rattle.std.specs.Prelude.{◌≡◌, Bool, true, false, not, ◌&&◌, ◌||◌, ◌⊎◌, eqb, ltb, get_or, set}
use Rattle.std.proofs.Math.Path.{refl}
use Rattle.std.proofs.Common.{sym, ◌∙◌, length-set, get_or-set_same, get_or-set_other, eqb-true}
use mathlib.Core.List.{List}
use Rattle.std.proofs.Math.Logic.{inl, inr}
use Prim.Native.Nat.{ℕ, suc, ◌+◌, ◌*◌, ◌-◌, ◌/◌, ◌%◌, ◌^◌, ◌≤◌, ◌<◌}
use native.Mathlib.Omega.{arith}
use Rattle.words.specs.declared.Value.{Value}
use Rattle.words.specs.Value.{value_with, value_of, is_value}
use Rattle.words.proofs.ValueLaws.{tag_of_lem, payload_of_lem}
use Rattle.image.specs.declared.Layout.{Layout}
use Rattle.image.specs.Laws.{and_left, and_right}
use Rattle.image.specs.Numbers.{written_tags}
use Rattle.image.specs.Trailer.{class_count, node_count}
use Rattle.image.specs.Nodes.{node_word, kind_of, operands, names_hold, node_holds}
use Rattle.image.specs.Layout.{Good}
use Rattle.rules.specs.Trees.{written, operand}
use Rattle.rules.specs.Program.{program}
use Rattle.rules.specs.Heap.{Heap, heap_of}
use Rattle.rules.specs.Step.{gives, same_value, add_redex, eq_redex, get_redex}
use Rattle.laws.specs.Values.{value_at, IsValue}
use Rattle.laws.specs.Trees.{operand_count, operand_below, operand_after}
use Rattle.redexes.specs.Outcomes.{redex_of}
use Rattle.redexes.specs.RedexLaws.{add_sum, add_word}
use Rattle.objects.specs.Spots.{FieldSpot}
use Rattle.room.specs.declared.Focus.TheVariants.{Node, Value as Word}
use Rattle.room.specs.Room.{search_word, frame_at, first, shape_of, word, tag, Fit}
use Rattle.room.specs.RoomLaws.{Kept, kept_refl, kept_set, push, push_kept, push_tag, push_place}
use Rattle.room.specs.Turn.{HeapOk, Inv, Moves, Steps}
use Rattle.room.specs.Enter.{enter_value, enter_first}
use Rattle.room.specs.Nodes.{var_local, var_steps}
use Rattle.room.specs.Back as back
use Rattle.room.specs.Leads.{Leaps}
use Rattle.room.specs.LeadsLaws.{leaps_move, leaps_step, leaps_on, leaps_kept}
use Rattle.std.specs.declared.option.Option.{Option}
use Rattle.std.specs.declared.option.Option.TheVariants.{Some}
use Rattle.std.specs.Option.{IfSome}
use Rattle.std.proofs.lemmas.Option.{IfSome_then}
use Rattle.quick.specs.declared.Quick.{Quick}
use Rattle.quick.specs.Known.{Tabled, Stored, Locals, Eval, Known, Valued, IsPair, Gives, Paired, Field, Deep}

-- an accepted image's table
pub tabled : {ws : List ℕ} {lay : Layout} → Good ws lay → Tabled ws lay.nodes
tabled {ws} {lay} g =
    record {
      nodes_at = g.lay.nodes_at;
      within = rw (← g.lay.node_count_lem) (omega (arith, g.lay.whole));
      small = rw (← g.lay.node_count_lem) g.small.nodes;
      holds = g.nodes;
    }

-- the variables of a room that fits
pub stored : {ws room : List ℕ} {l : ℕ} → Fit ws room l → Stored ws room
stored {ws} {room} {l} f = record { long = omega (arith, f.long); held_ok = f.held_ok }

kept_locals : {old new : List ℕ} {l : ℕ} → Kept old new l → Locals old new
kept_locals k x h = k.same x (omega arith)

locals_on : (a b c : List ℕ) → Locals a b → Locals b c → Locals a c
locals_on a b c s t x h = t x h ∙ s x h

pub kept_back : {old new : List ℕ} {l : ℕ} → Kept old new l → Kept new old l
kept_back k = record { size = sym k.size; same = λ j h. sym (k.same j h) }

-- the word of a literal's value
module _ (ws : List ℕ) (n : ℕ) (h : node_holds ws n ≡ true) (k : node_word ws n 0 ≡ 2) where
  literal_names : (ltb (node_word ws n 2) written_tags && is_value (node_word ws n 2) (node_word ws n 3)) ≡ true
  unfolding node_holds names_hold kind_of
  literal_names =
      rw k at (and_left (names_hold (class_count ws) (kind_of (node_word ws n 0)) (node_word ws n 2) (node_word ws n 3)) _ h)

  module _ (x y : ℕ) (ex : x ≡ node_word ws n 2) (ey : y ≡ node_word ws n 3) (b : y < 2 ^ 32) where
    pub literal_is : value_at (x * 2 ^ 32 + y) ≡ written (value_with (node_word ws n 2) (node_word ws n 3))
    unfolding value_of
    literal_is = rw (tag_of_lem x y b, payload_of_lem x y b, ex, ey)

    pub literal_value : IsValue (x * 2 ^ 32 + y)
    unfolding value_of is_value
    literal_value =
        rw (tag_of_lem x y b, payload_of_lem x y b, ex, ey)
        (and_right (ltb (node_word ws n 2) written_tags) (is_value (node_word ws n 2) (node_word ws n 3)) literal_names)

-- operands of an Add or an Eq
module _ (ws : List ℕ) (n : ℕ) where
  pair_count : {t : ℕ} → IsPair t → node_word ws n 0 ≡ t → operand_count ws n ≡ 2
  unfolding kind_of operands
  pair_count (inl e) q = rw (q, e)
  pair_count (inr e) q = rw (q, e)

  pub pair_two : {t : ℕ} → IsPair t → node_word ws n 0 ≡ t → 1 < operand_count ws n
  pair_two p q = rw (pair_count p q) (omega arith)

  pub get_one : node_word ws n 0 ≡ 7 → 0 < operand_count ws n
  unfolding kind_of operands
  get_one q = rw q (omega arith)

  pub last_operand : operand ws n 0 ≡ n - 1
  unfolding operand
  last_operand = refl

  -- the first of two stands before the tree of the second
  pub first_place_lem : node_holds ws n ≡ true → 1 < operand_count ws n → suc (operand ws n 1) + node_word ws (n - 1) 1 ≡ n
  first_place_lem h o =
      omega (arith, rw last_operand at (operand_after ws n h 0 (omega arith)), operand_below ws n h 0 (omega arith))

  -- the node to look deeper into
  pub deep_self : (kind : ℕ) → n < node_count ws → Deep ws kind n n
  deep_self kind h = record { within = h; is = λ d. absurd (d refl); first = λ d. absurd (d refl) }

  module _ (kind : ℕ) (within : n < node_count ws) (h : node_holds ws n ≡ true) (p : IsPair kind) (e : node_word ws n 0 ≡ kind) where
    pub deep_last : Deep ws kind n (n - 1)
    deep_last =
        record {
          within = omega arith;
          is = λ d. p;
          first = λ d s. absurd (s (omega (arith, first_place_lem h (pair_two p e))));
        }

    pub deep_first : node_word ws (n - 1) 1 ≡ 1 → Deep ws kind n (n - 2)
    deep_first o =
        record { within = omega arith; is = λ d. p; first = λ d s. omega (arith, first_place_lem h (pair_two p e)) }

module _ (ws : List ℕ) (nodes : (n : ℕ) → n < node_count ws → node_holds ws n ≡ true) (hs room : List ℕ) where
  pub eval_deeper : {n w k d e : ℕ} → d ≤ e → Eval ws hs room n w k d → Eval ws hs room n w k e
  eval_deeper {n} {w} {k} {d} {e} h v =
      record { is_value_lem = v.is_value_lem; leaps = λ D r l s i o m. v.leaps D r l s i o (omega arith) }

  pub eval_literal : (n w : ℕ) → node_word ws n 0 ≡ 2 → value_at w ≡ written (value_with (node_word ws n 2) (node_word ws n 3)) → IsValue w
      → Eval ws hs room n w 0 0
  eval_literal n w e q v =
      record { is_value_lem = v; leaps = λ D r l s i o m. leaps_move ws D o (enter_value ws nodes D r l n i w e q v) }

  pub eval_var : (n w : ℕ) → n < node_count ws → node_word ws n 0 ≡ 3 → get_or room (node_word ws n 2) 0 ≡ suc w → IsValue w
      → Eval ws hs room n w 1 0
  eval_var n w h e q v =
      record {
        is_value_lem = v;
        leaps =
            λ D r l s i o m.
            leaps_step ws D
            (var_steps ws nodes D hs r l n i w (omega arith) e (s (node_word ws n 2) (var_local ws n (nodes n h) e) ∙ q) o);
      }

  -- The room of a node that has been gone into, and what was there stays below.
  module _ (D : ℕ) (r : List ℕ) (l n t : ℕ) (inv : Inv ws D r l (Node n)) (low : l ≤ D) (is : node_word ws n 0 ≡ t) where
    abbrev pushed : List ℕ
    pushed = push r l t n

    pushed_tag : tag ws pushed l ≡ t
    pushed_tag = push_tag ws r l t n (omega (arith, inv.long))

    pushed_place : word ws pushed l 1 ≡ n
    pushed_place = push_place ws r l t n (omega (arith, inv.long))

    pushed_locals : Locals room r → Locals room pushed
    pushed_locals s = locals_on room r pushed s (kept_locals (push_kept ws r l t n))

    goes_in : (j : ℕ) → shape_of t ≡ first → suc j ≡ operand_count ws n → Moves ws D r l (Node n) pushed (suc l) (Node (operand ws n j))
    goes_in j h e = rw is at (enter_first ws nodes D r l n inv low j (rw is h) e)

  pub eval_get : (n w u k d : ℕ) → node_word ws n 0 ≡ 7 → Eval ws hs room (operand ws n 0) w k d
      → get_redex (program ws) (heap_of (program ws) hs) (node_word ws n 2) (node_word ws n 3) (value_at w)
      ≡ gives (heap_of (program ws) hs) (value_at u)
      → IsValue u → Eval ws hs room n u (k + 1) (suc d)
  unfolding shape_of kind_of operands
  eval_get n w u k d e v g z = record { is_value_lem = z; leaps = get_leaps }
    where
      get_leaps : (D : ℕ) (r : List ℕ) (l : ℕ) → Locals room r → Inv ws D r l (Node n) → HeapOk ws hs (get_or r search_word 0)
          → l + suc d ≤ D → Leaps ws D (k + 1) hs r l (Node n) hs r l (Word u)
      get_leaps D r l s i o m =
          let low : l ≤ D = omega arith in
          let new = push r l 7 n in
          let a = leaps_move ws D o (goes_in D r l n 7 i low e 0 refl (rw e)) in
          let b = v.leaps D new (suc l) (pushed_locals D r l n 7 i low e s) a.leads.inv a.leads.heap (omega arith) in
          let q = pushed_place D r l n 7 i low e in
          let c =
          leaps_step ws D
          (back.redex_gives ws nodes D hs new l w b.leads.inv _ _ _
          (back.back_get ws nodes D hs new l w b.leads.inv (pushed_tag D r l n 7 i low e)) hs u (rw q g) z b.leads.heap) in
          let k0 : 0 + k + 1 ≡ k + 1 = omega arith in
          rw k0 at
          (leaps_kept ws D (leaps_on ws D (leaps_on ws D a b.leads) c.leads) (kept_back (push_kept ws r l 7 n)))

  -- an Add or an Eq goes on to its second operand, and comes to its value
  pair_first : (t : ℕ) → IsPair t → shape_of t ≡ first
  unfolding shape_of
  pair_first t (inl e) = rw e
  pair_first t (inr e) = rw e

  abbrev halved : (r : List ℕ) (l t v : ℕ) → List ℕ
  halved r l t v = set (set r (frame_at l) (t + 16)) (frame_at l + 2) v

  module _ (D : ℕ) (r : List ℕ) (l t v : ℕ) (inv : Inv ws D r (suc l) (Word v)) where
    halved_kept : Kept r (halved r l t v) l
    halved_kept = kept_set (frame_at l + 2) v (omega arith) (kept_set (frame_at l) (t + 16) (omega arith) (kept_refl r l))

    halved_tag : tag ws (halved r l t v) l ≡ t + 16
    halved_tag =
        get_or-set_other (set r (frame_at l) (t + 16)) (frame_at l + 2) (frame_at l) v 0 (λ e. let q : frame_at l ≡ frame_at l + 2 = e in omega arith)
        ∙ get_or-set_same r (frame_at l) (t + 16) 0 (omega (arith, inv.fit.long))

    halved_value : word ws (halved r l t v) l 2 ≡ v
    halved_value = get_or-set_same (set r (frame_at l) (t + 16)) (frame_at l + 2) v 0 (rw length-set (omega (arith, inv.fit.long)))

    pair_moves : IsPair t → tag ws r l ≡ t
        → Moves ws D r (suc l) (Word v) (halved r l t v) (suc l) (Node (operand ws (word ws r l 1) 0))
    pair_moves (inl e) q = rw e (back.add_moves ws nodes D hs r l v inv (q ∙ e))
    pair_moves (inr e) q = rw e (back.eq_moves ws nodes D hs r l v inv (q ∙ e))

  pub pair_steps : (D : ℕ) (r : List ℕ) (l t v w u : ℕ) → Inv ws D r (suc l) (Word w) → HeapOk ws hs (get_or r search_word 0)
      → tag ws r l ≡ t + 16 → word ws r l 2 ≡ v → Gives t v w u → Steps ws D hs r (suc l) (Word w) hs r l (Word u)
  pair_steps D r l t v w u i o q a s = go s.redex
    where
      go : ((t ≡ 4) × ((h : Heap) → add_redex h (value_at v) (value_at w) ≡ gives h (value_at u)))
          ⊎ ((t ≡ 5) × ((h : Heap) → eq_redex h (value_at v) (value_at w) ≡ gives h (value_at u)))
          → Steps ws D hs r (suc l) (Word w) hs r l (Word u)
      go (inl (e, g)) =
          back.redex_gives ws nodes D hs r l w i _ _ _ (back.back_add ws nodes D hs r l w i (q ∙ rw e)) hs u (rw a (g _)) s.is_value_lem o
      go (inr (e, g)) =
          back.redex_gives ws nodes D hs r l w i _ _ _ (back.back_eq ws nodes D hs r l w i (q ∙ rw e)) hs u (rw a (g _)) s.is_value_lem o

  -- the first operand's value comes to the frame of an Add or an Eq, and the second one's is known
  pub second_leaps : (D : ℕ) (r : List ℕ) (l n t v w u k d : ℕ) → Locals room r → Inv ws D r (suc l) (Word v)
      → HeapOk ws hs (get_or r search_word 0) → suc l + d ≤ D → IsPair t → tag ws r l ≡ t → word ws r l 1 ≡ n
      → Eval ws hs room (operand ws n 0) w k d → Gives t v w u → Leaps ws D (k + 1) hs r (suc l) (Word v) hs r l (Word u)
  second_leaps D r l n t v w u k d s i o m p q e y g =
      let new = halved r l t v in
      let c = halved_kept D r l t v i in
      let a = rw e at (leaps_move ws D o (pair_moves D r l t v i p q)) in
      let b = y.leaps D new (suc l) (locals_on room r new s (kept_locals c)) a.leads.inv a.leads.heap m in
      let f =
      leaps_step ws D
      (pair_steps D new l t v w u b.leads.inv b.leads.heap (halved_tag D r l t v i) (halved_value D r l t v i) g) in
      let k0 : 0 + k + 1 ≡ k + 1 = omega arith in
      rw k0 at (leaps_kept ws D (leaps_on ws D (leaps_on ws D a b.leads) f.leads) (kept_back c))

  pub eval_pair : (n t v w u j k d : ℕ) → IsPair t → node_word ws n 0 ≡ t → Eval ws hs room (operand ws n 1) v j d
      → Eval ws hs room (operand ws n 0) w k d → Gives t v w u → Eval ws hs room n u (j + k + 1) (suc d)
  eval_pair n t v w u j k d p e x y g = record { is_value_lem = g.is_value_lem; leaps = pair_leaps }
    where
      pair_leaps : (D : ℕ) (r : List ℕ) (l : ℕ) → Locals room r → Inv ws D r l (Node n) → HeapOk ws hs (get_or r search_word 0)
          → l + suc d ≤ D → Leaps ws D (j + k + 1) hs r l (Node n) hs r l (Word u)
      pair_leaps D r l s i o m =
          let low : l ≤ D = omega arith in
          let new = push r l t n in
          let s1 = pushed_locals D r l n t i low e s in
          let a = leaps_move ws D o (goes_in D r l n t i low e 1 (pair_first t p) (rw (pair_count ws n p e))) in
          let b = x.leaps D new (suc l) s1 a.leads.inv a.leads.heap (omega arith) in
          let c =
          second_leaps D new l n t v w u k d s1 b.leads.inv b.leads.heap (omega arith) p (pushed_tag D r l n t i low e)
          (pushed_place D r l n t i low e) y g in
          let k0 : 0 + j + (k + 1) ≡ j + k + 1 = omega arith in
          rw k0 at
          (leaps_kept ws D (leaps_on ws D (leaps_on ws D a b.leads) c.leads) (kept_back (push_kept ws r l t n)))

  -- what answers say
  known_more : {n d e : ℕ} {q : Quick} → d ≤ e → Known ws hs room n d q → Known ws hs room n e q
  known_more h a = record { few = a.few; fewer = omega (arith, a.fewer); eval = eval_deeper h a.eval }

  pub known_deeper : (n d e : ℕ) (r : Option Quick) → d ≤ e → IfSome r (Known ws hs room n d) → IfSome r (Known ws hs room n e)
  known_deeper n d e r h a = IfSome_then r a (λ q k. known_more h k)

  pub known_at : (m n d : ℕ) (r : Option Quick) → m ≡ n → IfSome r (Known ws hs room m d) → IfSome r (Known ws hs room n d)
  known_at m n d r e a = rw (← e) a

  -- a node's last operand stands right before it
  pub known_last : (m n d : ℕ) (r : Option Quick) → m ≡ n - 1 → IfSome r (Known ws hs room m d)
      → IfSome r (Known ws hs room (operand ws n 0) d)
  unfolding operand
  known_last m n d r e a = known_at m (n - 1) d r e a

  pub known_valued : (n d : ℕ) (r : Option Quick) → IfSome r (Known ws hs room n d) → IfSome r Valued
  known_valued n d r a = IfSome_then r a (λ q k. (k.eval.is_value_lem, k.few))

  get_more : (n d : ℕ) (q : Option Quick) (r : Quick) → node_word ws n 0 ≡ 7 → IfSome q (Known ws hs room (operand ws n 0) d)
      → Field ws hs n q r → d ≤ 1
      → Known ws hs room n (suc d) r
  get_more n d q r e a f m =
      let k = rw f.object_is at a in
      let v = f.object in
      record {
        few = omega (arith, k.fewer, f.steps);
        fewer = omega (arith, k.fewer, f.steps);
        eval = rw f.steps (eval_get n v.word r.word v.steps d e k.eval f.reads f.is_value_lem);
      }

  pub known_get : (n d : ℕ) (q r : Option Quick) → node_word ws n 0 ≡ 7
      → IfSome q (Known ws hs room (operand ws n 0) d) → IfSome r (Field ws hs n q) → d ≤ 1
      → IfSome r (Known ws hs room n (suc d))
  known_get n d q r e a f m = IfSome_then r f (λ u g. get_more n d q u e a g m)

  pair_more : (n t c d : ℕ) (a b : Option Quick) (r : Quick) → IsPair t → node_word ws n 0 ≡ t
      → IfSome a (Known ws hs room (operand ws n 1) c) → IfSome b (Known ws hs room (operand ws n 0) d) → Paired t a b r → c + d ≤ 1
      → Known ws hs room n (suc (c + d)) r
  pair_more n t c d a b r p e x y f m =
      let j = rw f.left_is at x in
      let k = rw f.right_is at y in
      let v = f.left in
      let w = f.right in
      record {
        few = omega (arith, j.fewer, k.fewer, f.steps);
        fewer = omega (arith, j.fewer, k.fewer, f.steps);
        eval =
            rw f.steps
            (eval_pair n t v.word w.word r.word v.steps w.steps (c + d) p e (eval_deeper (omega arith) j.eval)
            (eval_deeper (omega arith) k.eval) f.gives);
      }

  pub known_pair : (n t c d : ℕ) (a b r : Option Quick) → IsPair t → node_word ws n 0 ≡ t
      → IfSome a (Known ws hs room (operand ws n 1) c) → IfSome b (Known ws hs room (operand ws n 0) d) → IfSome r (Paired t a b)
      → c + d ≤ 1 → IfSome r (Known ws hs room n (suc (c + d)))
  known_pair n t c d a b r p e x y f m = IfSome_then r f (λ u g. pair_more n t c d a b u p e x y g m)

  pub known_literal : (n w : ℕ) → node_word ws n 0 ≡ 2 → value_at w ≡ written (value_with (node_word ws n 2) (node_word ws n 3)) → IsValue w
      → Known ws hs room n 0 (record { word = w; steps = 0 })
  known_literal n w e q v = record { few = omega arith; fewer = omega arith; eval = eval_literal n w e q v }

  pub known_var : (n x w : ℕ) → n < node_count ws → node_word ws n 0 ≡ 3 → x ≡ node_word ws n 2 → Stored ws room → get_or room x 0 ≡ suc w
      → Known ws hs room n 0 (record { word = w; steps = 1 })
  known_var n x w h e q s f =
      let m = var_local ws n (nodes n h) e in
      let g : get_or room (node_word ws n 2) 0 ≡ suc w = rw (← q) f in
      record { few = omega arith; fewer = omega arith; eval = eval_var n w h e g (rw g at (s.held_ok (node_word ws n 2) m)) }

-- tests of kinds
pub either_kind : (k : ℕ) → (eqb k 4 || eqb k 5) ≡ true → IsPair k
either_kind k = go (eqb k 4) refl
  where
    go : (t : Bool) → eqb k 4 ≡ t → (t || eqb k 5) ≡ true → IsPair k
    go true e h = inl (eqb-true k 4 e)
    go false e h = inr (eqb-true k 5 h)

pub not_neither : (k : ℕ) → (not (eqb k 4) && not (eqb k 5)) ≡ false → IsPair k
not_neither k = go (eqb k 4) refl (eqb k 5) refl
  where
    go : (s : Bool) → eqb k 4 ≡ s → (t : Bool) → eqb k 5 ≡ t → (not s && not t) ≡ false → IsPair k
    go true e t f h = inl (eqb-true k 4 e)
    go false e true f h = inr (eqb-true k 5 f)
    go false e false f h = absurd (let z : ◌≡◌ {A = ℕ} 0 1 = cc in omega arith)

pub not_eq : {k : ℕ} → IsPair k → (k ≡ 5 → ⊥) → k ≡ 4
not_eq (inl e) d = e
not_eq (inr e) d = absurd (d e)

-- the word of a pair
module _ (kind v w : ℕ) where
  pub gives_eq : (r : ℕ) → kind ≡ 5 → value_at r ≡ Value.Bool (same_value (value_at v) (value_at w)) → IsValue r → Gives kind v w r
  unfolding eq_redex
  gives_eq r k e z = record { is_value_lem = z; redex = inr (k, λ s. rw e) }

  pub gives_add : kind ≡ 4 → IsValue v → IsValue w → (eqb (v / 2 ^ 32) 3 && eqb (w / 2 ^ 32) 3) ≡ true
      → Gives kind v w (3 * 2 ^ 32 + (v + w) % 2 ^ 32)
  unfolding redex_of
  gives_add k kv kw e = record { is_value_lem = add_word v w kv kw; redex = inl (k, λ s. sym (add_sum v w kv kw e s)) }

-- the answer for a Get
pub field_at : (ws hs : List ℕ) (p : ℕ) (q : Option Quick) (v : Quick) (j : ℕ) → q ≡ Some v
    → FieldSpot ws hs (node_word ws p 2) (node_word ws p 3) v.word j
    → Field ws hs p q (record { word = get_or hs j 0; steps = v.steps + 1 })
field_at ws hs p q v j e s = record { object = v; object_is = e; is_value_lem = s.holds; steps = refl; reads = s.reads }

-- the answer for a pair
pub paired : (kind : ℕ) (a b : Option Quick) (v w : Quick) (u : ℕ) → a ≡ Some v → b ≡ Some w → Gives kind v.word w.word u
    → Paired kind a b (record { word = u; steps = v.steps + w.steps + 1 })
paired kind a b v w u e f g = record { left = v; right = w; left_is = e; right_is = f; steps = refl; gives = g }
