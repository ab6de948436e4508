-- One lemma for each redex: with operands that conform, it gives a value that conforms, in a heap that does, or throws an object.
use Rattle.std.specs.Prelude.{ℕ, ◌+◌, ◌<◌, ◌≡◌, refl, Bool, cond}
use Rattle.std.proofs.Common.{ap, arith}
use Rattle.std.proofs.Math.Bool.{true, false}
use Rattle.std.proofs.Math.Option.{Option, none, some}
use mathlib.Core.List.{List}
use Rattle.std.proofs.Math.ListN.{length, set}
use borrow.Author.Tests.{eqb-true, le-leb}
use Rattle.words.specs.declared.Value.{Value}
use Rattle.words.specs.declared.Value.TheVariants.{Null, Intg, Addr}
use Rattle.words.specs.declared.Ty.{Ty}
use Rattle.words.specs.declared.Ty.TheVariants.{Boolean, Integer, Class}
use Rattle.words.specs.Types.{type_word}
use Rattle.words.specs.IntegerLaws.{plus_range}
use Rattle.rules.specs.Program.{Program}
use Rattle.rules.specs.Classes.{subclass, subtype, has_fields}
use Rattle.rules.specs.Heap.{obj, Heap, look, defaults, lowest_free}
use Rattle.rules.specs.Step.{null_pointer, class_cast, out_of_memory, Redex, gives, raises, fails, read_redex, add_redex, eq_redex, new_redex, cast_slot, cast_redex, get_field, get_slot, get_redex, put_field, put_slot, put_redex}
use Rattle.laws.specs.Classes.{Lower, subclass_refl}
use Rattle.laws.specs.Heap.{Room, room}
use Rattle.figures.proofs.Agreement.{never}
use Rattle.safety.specs.Sets.{is_some}
use Rattle.safety.specs.Conform.{class_in, ◌≼◌, ≼_refl, in_range, Le, Conf, Holds, HeapOk, class_le, conf_mono, conf_le, object_mono, addr_conf, conf_object, system_conf, write_keeps, write_class, write_ok, defaults_ok, put_ok}
use Rattle.safety.specs.Safe.{Has, Puts}
use Rattle.safety.specs.Tables.{has_below}

module _ (P : Program) where
  -- a value of type t in heap h', which came from h
  pub record Given (h h' : Heap) (v : Value) (t : Ty) : Type 0 where
    pub fits : Conf P h' v t
    pub heap_ok : HeapOk P h'
    pub keeps : h ≼ h'

  abbrev pub RedexOk : Heap → Ty → Redex → Type 0
  RedexOk h t (gives h' v) = Given h h' v t
  RedexOk h t (raises a) = Conf P h (Addr a) (Class 0)
  RedexOk h t fails = ⊥

  module _ (low : Lower P) {h : Heap} (hk : HeapOk P h) where
    -- WHAT A VALUE OF A TYPE IS
    not_address : {a : ℕ} {t : Ty} → ((c : ℕ) → Le P (Class c) t → ⊥) → Conf P h (Addr a) t → ⊥
    not_address n k = let o = conf_object P low k in n o.0 o.3

    pub int_value : (Q : Value → Type 0) (v : Value) → Conf P h v Integer → ((n : ℕ) → Q (Intg n)) → Q v
    unfolding subtype type_word
    int_value Q Value.Unit k i = absurd (never k.below.ok)
    int_value Q Null k i = absurd (never k.below.ok)
    int_value Q (Value.Bool b) k i = absurd (never k.below.ok)
    int_value Q (Intg n) k i = i n
    int_value Q (Addr a) k i = absurd (not_address (λ c s. never s.ok) k)

    pub bool_value : (Q : Value → Type 0) (v : Value) → Conf P h v Boolean → ((b : Bool) → Q (Value.Bool b)) → Q v
    unfolding subtype type_word
    bool_value Q Value.Unit k i = absurd (never k.below.ok)
    bool_value Q Null k i = absurd (never k.below.ok)
    bool_value Q (Value.Bool b) k i = i b
    bool_value Q (Intg n) k i = absurd (never k.below.ok)
    bool_value Q (Addr a) k i = absurd (not_address (λ c s. never s.ok) k)

    -- null, or the address of an object of a subclass
    pub class_value : (Q : Value → Type 0) (v : Value) (c : ℕ) → Conf P h v (Class c) → Q Null
        → ((a d : ℕ) (vs : List Value) → look h a ≡ obj d vs → subclass P d c ≡ true → Q (Addr a)) → Q v
    unfolding subtype type_word
    class_value Q Value.Unit c k n o = absurd (omega (arith, eqb-true 0 (4 + c) k.below.ok))
    class_value Q Null c k n o = n
    class_value Q (Value.Bool b) c k n o = absurd (omega (arith, eqb-true 1 (4 + c) k.below.ok))
    class_value Q (Intg i) c k n o = absurd (omega (arith, eqb-true 2 (4 + c) k.below.ok))
    class_value Q (Addr a) c k n o = let s = conf_object P low k in o a s.0 s.1 s.2 (class_le P low s.3)

    -- THE REDEXES
    same : {v : Value} {t : Ty} → Conf P h v t → Given h h v t
    same k = record { fits = k; heap_ok = hk; keeps = ≼_refl }

    null_conf : {c : ℕ} → Conf P h Null (Class c)
    unfolding subtype type_word
    null_conf {c} = record { proper = tt; below = record { ok = le-leb 3 (4 + c) (omega arith) } }

    module _ {t : Ty} where
      pub read_ok : (o : Option Value) {u : Ty} → Holds P h o (some u) → Le P u t → is_some o ≡ true → RedexOk h t (read_redex h o)
      unfolding read_redex
      read_ok none b s i = never i
      read_ok (some v) b s i = same (conf_le P low s b)

      pub add_ok : (v w : Value) → Conf P h v Integer → Conf P h w Integer → Le P Integer t → RedexOk h t (add_redex h v w)
      unfolding add_redex
      add_ok v w k j s =
          int_value (λ v. RedexOk h t (add_redex h v w)) v k
          (λ m. int_value (λ w. RedexOk h t (add_redex h (Intg m) w)) w j (λ n. same (record { proper = plus_range m n; below = s })))

      pub eq_ok : (v w : Value) → Le P Boolean t → RedexOk h t (eq_redex h v w)
      unfolding eq_redex
      eq_ok v w s = same (record { proper = tt; below = s })

      pub new_ok : (c : ℕ) (o : Option ℕ) → lowest_free h ≡ o → c < length P.supers → Le P (Class c) t
          → RedexOk h t (new_redex P h c o)
      unfolding new_redex
      new_ok c none e k s = system_conf P low out_of_memory (omega arith) hk
      new_ok c (some a) e k s =
          let vs = defaults (has_fields P c) in
          let h' = set h a (obj c vs) in
          let r : Room h a = room h a e in
          let i : (d : ℕ) → class_in (look h a) ≡ some d → c ≡ d = λ d q. cc r.empty in
          let ok : HeapOk P h' = write_ok P low h a c vs r.within i hk (defaults_ok P low h' c k) in
          record {
            fits = conf_le P low s (addr_conf P low a c c ok (write_class P low h a c vs r.within i) (subclass_refl P c));
            heap_ok = ok;
            keeps = write_keeps P low h a c vs r.within i;
          }

      pub cast_ok : (c : ℕ) (v : Value) → Conf P h v (Class 0) → Le P (Class c) t → RedexOk h t (cast_redex P h c v)
      unfolding cast_redex cast_slot
      cast_ok c v k s =
          class_value (λ v. RedexOk h t (cast_redex P h c v)) v 0 k (same (conf_le P low s null_conf))
          (λ a d vs e u. rw e (go a d vs e (subclass P d c) refl))
        where
          go : (a d : ℕ) (vs : List Value) → look h a ≡ obj d vs → (b : Bool) → subclass P d c ≡ b
              → RedexOk h t (cond b (gives h (Addr a)) (raises class_cast))
          go a d vs e true u = same (conf_le P low s (addr_conf P low a d c hk (ap class_in e) u))
          go a d vs e false u = system_conf P low class_cast (omega arith) hk

      pub get_ok : (f d : ℕ) (v : Value) {c : ℕ} {u : Ty} → Conf P h v (Class c) → Has P c d f u → Le P u t
          → RedexOk h t (get_redex P h f d v)
      unfolding get_redex get_slot get_field
      get_ok f d v {c} {u} k m s =
          class_value (λ v. RedexOk h t (get_redex P h f d v)) v c k (system_conf P low null_pointer (omega arith) hk)
          (λ a b vs e z.
          let n = has_below P low b z m in
          let o = hk.object a b vs e in
          rw (e, n.found)
          (same (conf_le P low s (rw n.typed at (o.field n.index (rw o.count n.within))))))

      pub put_safe : (f d : ℕ) (v w : Value) {u u' : Ty} → Conf P h v u → Conf P h w u' → Puts P f d t u u'
          → RedexOk h t (put_redex P h f d v w)
      unfolding put_redex put_slot put_field
      put_safe f d v w {u} {u'} k j r =
          class_value (λ v. RedexOk h t (put_redex P h f d v w)) v r.class (conf_le P low r.object k)
          (system_conf P low null_pointer (omega arith) hk)
          (λ a b vs e z.
          let n = has_below P low b z r.has in
          let ws = set vs n.index w in
          let i : (d : ℕ) → class_in (look h a) ≡ some d → b ≡ d = λ d q. cc in
          let l : a < length h = in_range h a b (ap class_in e) in
          let x : h ≼ set h a (obj b ws) = write_keeps P low h a b ws l i in
          rw (e, n.found)
          (record {
            fits = conf_mono P low x r.le j;
            heap_ok =
                write_ok P low h a b ws l i hk
                (put_ok P low n.index w (object_mono P low x (hk.object a b vs e)) (rw n.typed (conf_mono P low x r.fits j)));
            keeps = x;
          }))
