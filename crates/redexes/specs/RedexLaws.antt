-- Laws of the decisions, one for each answer.
use Rattle.std.proofs.Math.Path.{◌≡◌, refl, sym}
use Rattle.std.proofs.Common.{ap}
use Rattle.std.specs.Prelude.{Bool, ◌&&◌, List, ℕ, ◌+◌, ◌*◌, ◌/◌, ◌%◌, ◌^◌, ◌<◌, ltb, length}
use Rattle.std.proofs.Math.Bool.{true, false}
use Rattle.std.proofs.Math.Option.{none}
use native.Mathlib.Omega.{arith}
use Rattle.std.proofs.Math.Dec.{eqb}
use borrow.Author.Tests.{ltb-true, eqb-true, eqb-false, eq-eqb, ne_eqb}
use Rattle.words.specs.declared.Value.{Value}
use Rattle.words.specs.declared.Value.TheVariants.{Null, Intg, Addr}
use Rattle.words.specs.Value.{addresses, word_of, tag_of, payload_of, value_with, value_of, is_value}
use Rattle.words.proofs.ValueLaws.{decode_encode, tag_of_lem, payload_of_lem}
use Rattle.words.specs.Integer.{plus_of}
use Rattle.image.specs.Trailer.{class_count}
use Rattle.image.specs.Records.{method_word}
use Rattle.image.specs.Numbers.{written_tags}
use Rattle.image.specs.Nodes.{node_word, kind_of, names_hold, node_holds}
use Rattle.image.specs.Laws.{and_left, and_right}
use Rattle.image.specs.Layout.{Good}
use Rattle.image.specs.declared.Layout.{Layout}
use Rattle.rules.specs.Trees.{written}
use Rattle.rules.specs.Program.{Program, types_from, method_at, program}
use Rattle.rules.specs.Classes.{subclass, sees_method}
use Rattle.rules.specs.Heap.{Heap, free, obj, look, heap_of}
use Rattle.rules.specs.Step.{tag, same_value, fails, add_redex, cast_slot, cast_redex, Out, if_out, throw_out, enter, call_slot, call_out, catch_slot}
use Rattle.laws.specs.Maps.{length_tabulate}
use Rattle.laws.specs.Values.{value_at, IsValue}
use Rattle.laws.specs.Heap.{Words, fields_at, written_word, written_same, look_free, look_obj, class_known}
use Rattle.classes.specs.Sees.{MethodAt}
use Rattle.heap.specs.Slots.{class_at}
use Rattle.heap.specs.SlotLaws.{class_none, class_some}
use Rattle.std.specs.declared.option.Option.{Option as Maybe}
use Rattle.std.specs.declared.option.Option.TheVariants.{Some, None}
use Rattle.redexes.specs.declared.Outcome.TheVariants.{Gives, Raises, Fails}
use Rattle.redexes.specs.Outcomes.{redex_of, Chooses, ThrowsAt, Throws, EntersAt, Calls, Tries}
use Rattle.laws.specs.Tags.{word_value, tag_is, payload_is, null_at, integer_at, address_at, address_small, no_address}

-- an integer's word
integer_value : (i : ℕ) → i < 2 ^ 32 → value_at (3 * 2 ^ 32 + i) ≡ Intg i
unfolding word_of
integer_value i h = written_same (Intg i) h

integer_word : (i : ℕ) → i < 2 ^ 32 → IsValue (3 * 2 ^ 32 + i)
unfolding word_of
integer_word i h = word_value (Intg i) h

-- Add and Eq
module _ (v w : ℕ) (kv : IsValue v) (kw : IsValue w) where
  pub add_sum : (eqb (v / 2 ^ 32) 3 && eqb (w / 2 ^ 32) 3) ≡ true → (h : Heap)
      → redex_of h (Gives (3 * 2 ^ 32 + (v + w) % 2 ^ 32)) ≡ add_redex h (value_at v) (value_at w)
  unfolding redex_of add_redex plus_of
  add_sum e h =
      let p = eqb-true (v / 2 ^ 32) 3 (and_left (eqb (v / 2 ^ 32) 3) (eqb (w / 2 ^ 32) 3) e) in
      let q = eqb-true (w / 2 ^ 32) 3 (and_right (eqb (v / 2 ^ 32) 3) (eqb (w / 2 ^ 32) 3) e) in
      let s : (v + w) % 2 ^ 32 ≡ (v % 2 ^ 32 + w % 2 ^ 32) % 2 ^ 32 = omega arith in
      rw (integer_at v kv p, integer_at w kw q, integer_value ((v + w) % 2 ^ 32) (omega arith), s)

  pub add_word : IsValue (3 * 2 ^ 32 + (v + w) % 2 ^ 32)
  add_word = integer_word ((v + w) % 2 ^ 32) (omega arith)

  pub add_fails : (eqb (v / 2 ^ 32) 3 && eqb (w / 2 ^ 32) 3) ≡ false → (h : Heap)
      → redex_of h Fails ≡ add_redex h (value_at v) (value_at w)
  unfolding redex_of add_redex tag
  add_fails e h = go (value_at v) (value_at w) (rw (tag_is v kv, tag_is w kw) e)
    where
      go : (a b : Value) → (eqb (tag a) 3 && eqb (tag b) 3) ≡ false → fails ≡ add_redex h a b
      go Value.Unit b q = refl
      go Null b q = refl
      go (Value.Bool x) b q = refl
      go (Addr x) b q = refl
      go (Intg i) Value.Unit q = refl
      go (Intg i) Null q = refl
      go (Intg i) (Value.Bool x) q = refl
      go (Intg i) (Addr x) q = refl
      go (Intg i) (Intg j) q = absurd (let z : ◌≡◌ {A = ℕ} 0 1 = cc in omega arith)

  same_words : same_value (value_at v) (value_at w) ≡ eqb v w
  unfolding same_value
  same_words =
      rw (tag_is v kv, tag_is w kw, payload_is v kv, payload_is w kw)
      (go (eqb (v / 2 ^ 32) (w / 2 ^ 32)) refl (eqb (v % 2 ^ 32) (w % 2 ^ 32)) refl)
    where
      go : (t : Bool) → eqb (v / 2 ^ 32) (w / 2 ^ 32) ≡ t → (u : Bool) → eqb (v % 2 ^ 32) (w % 2 ^ 32) ≡ u → (t && u) ≡ eqb v w
      go true e true f =
          let p = eqb-true (v / 2 ^ 32) (w / 2 ^ 32) e in
          let q = eqb-true (v % 2 ^ 32) (w % 2 ^ 32) f in
          let z : v ≡ w = omega arith in
          sym (eq-eqb v w z)
      go true e false f = sym (ne_eqb v w (λ z. eqb-false _ _ f (ap (λ (n : ℕ). n % 2 ^ 32) z)))
      go false e u f = sym (ne_eqb v w (λ z. eqb-false _ _ e (ap (λ (n : ℕ). n / 2 ^ 32) z)))

  pub eq_same : v ≡ w → value_at (2 * 2 ^ 32 + 1) ≡ Value.Bool (same_value (value_at v) (value_at w))
  unfolding value_of value_with tag_of payload_of
  eq_same e = rw (same_words, eq-eqb v w e)

  pub eq_other : (v ≡ w → ⊥) → value_at (2 * 2 ^ 32) ≡ Value.Bool (same_value (value_at v) (value_at w))
  unfolding value_of value_with tag_of payload_of
  eq_other n = rw (same_words, ne_eqb v w n)

pub true_word : IsValue (2 * 2 ^ 32 + 1)
unfolding value_of value_with tag_of payload_of
true_word = refl

pub false_word : IsValue (2 * 2 ^ 32)
unfolding value_of value_with tag_of payload_of
false_word = refl

-- If
pub if_then : (w : ℕ) → w ≡ 2 * 2 ^ 32 + 1 → Chooses w (Some true)
unfolding if_out value_of value_with tag_of payload_of
if_then w e p h s a b = rw e

pub if_otherwise : (w : ℕ) → w ≡ 2 * 2 ^ 32 → Chooses w (Some false)
unfolding if_out value_of value_with tag_of payload_of
if_otherwise w e p h s a b = rw e

pub if_fails : (w : ℕ) → (w ≡ 2 * 2 ^ 32 + 1 → ⊥) → (w ≡ 2 * 2 ^ 32 → ⊥) → Chooses w None
unfolding if_out word_of
if_fails w m n p h s a b = read (value_of w) refl
  where
    go : (v : Value) → word_of v ≡ w → if_out p h s v a b ≡ Out.stuck 0 p
    go Value.Unit e = refl
    go Null e = refl
    go (Value.Bool true) e = absurd (m (sym e))
    go (Value.Bool false) e = absurd (n (sym e))
    go (Intg i) e = refl
    go (Addr x) e = refl

    read : (o : Maybe Value) → value_of w ≡ o → if_out p h s (written o) a b ≡ Out.stuck 0 p
    read None e = refl
    read (Some v) e = go v (decode_encode w v e)

-- a value that is neither null nor an address
module _ (w : ℕ) (k : IsValue w) (m : w / 2 ^ 32 ≡ 1 → ⊥) (n : w / 2 ^ 32 ≡ 4 → ⊥) where
  plain : (Q : Value → Type 0) → Q Value.Unit → ((b : Bool) → Q (Value.Bool b)) → ((i : ℕ) → Q (Intg i)) → Q (value_at w)
  unfolding tag
  plain Q u b i = go (value_at w) (tag_is w k)
    where
      go : (v : Value) → tag v ≡ w / 2 ^ 32 → Q v
      go Value.Unit e = u
      go Null e = absurd (m (sym e))
      go (Value.Bool x) e = b x
      go (Intg x) e = i x
      go (Addr x) e = absurd (n (sym e))

  pub throw_fails : Throws w Fails
  unfolding throw_out
  throw_fails p h s = plain (λ v. throw_out p h s v ≡ Out.stuck 0 p) refl (λ b. refl) (λ i. refl)

  pub cast_fails : (P : Program) (h : Heap) (c : ℕ) → redex_of h Fails ≡ cast_redex P h c (value_at w)
  unfolding redex_of cast_redex
  cast_fails P h c = plain (λ v. fails ≡ cast_redex P h c v) refl (λ b. refl) (λ i. refl)

  pub call_fails : (ws hs : List ℕ) (name count : ℕ) → Calls ws hs name count (value_at w) Fails
  unfolding call_out
  call_fails ws hs name count p s vs e =
      plain (λ v. call_out (program ws) p (heap_of (program ws) hs) s name v vs ≡ Out.stuck 0 p) refl (λ b. refl) (λ i. refl)

-- null
module _ (w : ℕ) (k : IsValue w) (e : w / 2 ^ 32 ≡ 1) where
  pub throw_null : Throws w (Raises 0)
  unfolding throw_out
  throw_null = (refl, λ p h s. rw (null_at w k e))

  pub cast_null : (P : Program) (h : Heap) (c : ℕ) → redex_of h (Gives w) ≡ cast_redex P h c (value_at w)
  unfolding redex_of cast_redex
  cast_null P h c = rw (null_at w k e)

  pub call_null : (ws hs : List ℕ) (name count : ℕ) → Calls ws hs name count (value_at w) (Raises 0)
  unfolding call_out
  call_null ws hs name count = record { small = omega arith; out = λ p s vs q. rw (null_at w k e) }

-- an address
pub throw_address : (w : ℕ) → IsValue w → w / 2 ^ 32 ≡ 4 → ThrowsAt w (w % 2 ^ 32)
unfolding throw_out
throw_address w k e =
    record { is = address_at w k e; small = address_small w k e; out = λ p h s. rw (address_at w k e) }

-- a method has as many parameters as its record says
pub params_count : (ws : List ℕ) (j : ℕ) → length (method_at ws j).params ≡ method_word ws j 4
unfolding method_at types_from
params_count ws j = length_tabulate _ _

-- A slot's class, where it has one, is the program's.
pub object_class : (ws hs : List ℕ) (l : Layout) → Good ws l → Words (program ws) (class_count ws) hs → (a c : ℕ)
    → class_at hs a ≡ Some c → c < l.class_count
object_class ws hs l g k a c e =
    rw g.lay.class_count_lem (class_known (program ws) (class_count ws) hs k a c (class_some hs a c e))

-- A slot by its class.
module _ (ws hs : List ℕ) (k : Words (program ws) (class_count ws) hs) (a : ℕ) where
  slot_object : (d : ℕ) → class_at hs a ≡ Some d → look (heap_of (program ws) hs) a ≡ obj d (fields_at (program ws) hs a d)
  slot_object d e = look_obj (program ws) hs k.whole a d (class_some hs a d e)

  slot_free : class_at hs a ≡ None → look (heap_of (program ws) hs) a ≡ free
  slot_free e = look_free (program ws) hs k.whole a (class_none hs a e)

  -- Cast of the address
  pub cast_free : (c : ℕ) → class_at hs a ≡ None
      → redex_of (heap_of (program ws) hs) Fails ≡ cast_redex (program ws) (heap_of (program ws) hs) c (Addr a)
  unfolding redex_of cast_redex cast_slot
  cast_free c e = rw (slot_free e)

  pub cast_below : (d c w : ℕ) → class_at hs a ≡ Some d → subclass (program ws) d c ≡ true → value_at w ≡ Addr a
      → redex_of (heap_of (program ws) hs) (Gives w) ≡ cast_redex (program ws) (heap_of (program ws) hs) c (Addr a)
  unfolding redex_of cast_redex cast_slot
  cast_below d c w e b v = rw (v, slot_object d e, b)

  pub cast_other : (d c : ℕ) → class_at hs a ≡ Some d → subclass (program ws) d c ≡ false
      → redex_of (heap_of (program ws) hs) (Raises 1) ≡ cast_redex (program ws) (heap_of (program ws) hs) c (Addr a)
  unfolding redex_of cast_redex cast_slot
  cast_other d c e b = rw (slot_object d e, b)

  -- a Try that the address is thrown to
  pub catch_free : (c : ℕ) → class_at hs a ≡ None → Tries ws hs c a None
  unfolding catch_slot
  catch_free c e p s x b = rw (slot_free e)

  pub catch_below : (d c : ℕ) → class_at hs a ≡ Some d → subclass (program ws) d c ≡ true → Tries ws hs c a (Some true)
  unfolding catch_slot
  catch_below d c e q p s x b = rw (slot_object d e, q)

  pub catch_other : (d c : ℕ) → class_at hs a ≡ Some d → subclass (program ws) d c ≡ false → Tries ws hs c a (Some false)
  unfolding catch_slot
  catch_other d c e q p s x b = rw (slot_object d e, q)

  pub catch_seen : (d c : ℕ) → class_at hs a ≡ Some d → (b : Bool) → b ≡ subclass (program ws) d c → Tries ws hs c a (Some b)
  catch_seen d c e true q = catch_below d c e (sym q)
  catch_seen d c e false q = catch_other d c e (sym q)

  -- Call on the address
  module _ (name count : ℕ) where
    pub call_free : class_at hs a ≡ None → Calls ws hs name count (Addr a) Fails
    unfolding call_out call_slot
    call_free e p s vs q = rw (slot_free e)

    module _ (c : ℕ) (e : class_at hs a ≡ Some c) where
      pub call_unseen : sees_method (program ws) c name ≡ none → Calls ws hs name count (Addr a) Fails
      unfolding call_out call_slot enter
      call_unseen m p s vs q = rw (slot_object c e, m)

      module _ (d j : ℕ) (m : MethodAt ws c name d j) where
        pub call_unfit : (method_word ws j 4 ≡ count → ⊥) → Calls ws hs name count (Addr a) Fails
        unfolding call_out call_slot enter
        call_unfit u p s vs q = rw (slot_object c e, m.sees, params_count ws j, q, ne_eqb count (method_word ws j 4) (λ z. u (sym z)))

        pub call_enters : a < addresses → method_word ws j 4 ≡ count → EntersAt ws hs name count (Addr a) a j
        unfolding call_out call_slot enter
        call_enters h u =
            record {
              is = refl;
              small = h;
              within = m.within;
              arguments = u;
              out = λ p s vs q. rw (slot_object c e, m.sees, params_count ws j, q, u, eq-eqb count count refl);
            }

-- The word of a Value node. Its tag is below an address's.
module _ (ws : List ℕ) (l : Layout) (g : Good ws l) (n : ℕ) (h : n < l.node_count) (k : node_word ws n 0 ≡ 2) where
  literal_names : (ltb (node_word ws n 2) written_tags && is_value (node_word ws n 2) (node_word ws n 3)) ≡ true
  unfolding node_holds names_hold kind_of
  literal_names =
      rw k at
      (and_left (names_hold (class_count ws) (kind_of (node_word ws n 0)) (node_word ws n 2) (node_word ws n 3)) _
      (g.nodes n (rw (← g.lay.node_count_lem) h)))

  pub literal_tag : node_word ws n 2 < written_tags
  literal_tag =
      ltb-true _ _ (and_left (ltb (node_word ws n 2) written_tags) (is_value (node_word ws n 2) (node_word ws n 3)) literal_names)

  module _ (x y : ℕ) (ex : x ≡ node_word ws n 2) (ey : y ≡ node_word ws n 3) (b : y < 2 ^ 32) where
    pub literal_is : value_at (x * 2 ^ 32 + y) ≡ written (value_with (node_word ws n 2) (node_word ws n 3))
    unfolding value_of
    literal_is = rw (tag_of_lem x y b, payload_of_lem x y b, ex, ey)

    pub literal_value : IsValue (x * 2 ^ 32 + y)
    unfolding value_of is_value
    literal_value =
        rw (tag_of_lem x y b, payload_of_lem x y b, ex, ey)
        (and_right (ltb (node_word ws n 2) written_tags) (is_value (node_word ws n 2) (node_word ws n 3)) literal_names)

    pub literal_plain : (a : ℕ) → value_at (x * 2 ^ 32 + y) ≡ Addr a → ⊥
    literal_plain = no_address (x * 2 ^ 32 + y) literal_value (omega (arith, literal_tag))
