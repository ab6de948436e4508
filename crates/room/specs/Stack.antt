-- What a step at the active place is for the whole, with the test of the depth; and which frames leave the expression in them as it is.
use Rattle.std.proofs.Math.Path.{◌≡◌, refl}
use Rattle.std.specs.Prelude.{Bool, true, false, cond, List, [], ◌∷◌, eqb}
use Rattle.std.proofs.Math.Option.{Option, none, some}
use Prim.Native.Nat.{ℕ, zero, suc, ◌+◌, ◌≤◌, ◌<◌}
use native.Mathlib.Omega.{arith}
use Rattle.std.proofs.Math.ListN.{length}
use borrow.Author.Tests.{le-leb, lt-leb, ne_eqb}
use Rattle.words.specs.declared.Value.{Value}
use Rattle.words.specs.declared.Value.TheVariants.{Null, Intg, Addr}
use Rattle.words.specs.declared.Ty.{Ty}
use Rattle.words.specs.declared.Ty.TheVariants.{Class}
use Rattle.rules.specs.declared.End.TheVariants.{Returned, Threw, OutOfSteps, TooDeep, Stuck}
use Rattle.rules.specs.Maps.{upd}
use Rattle.rules.specs.Trees.{Expr, Exprs, new, cast, val, var, add, eq, assign, get, put, call, block, seq, ite, while, throw, try}
use Rattle.rules.specs.Program.{Method, Program}
use Rattle.rules.specs.Classes.{subclass, sees_method}
use Rattle.rules.specs.Heap.{Slot, free, obj, Heap, look, lowest_free}
use Rattle.rules.specs.Step.{Store, Out, Outs, Redex, gives, raises, fails, thrown_at, view, value_in, assigned, blocked, redex, under, unders, both, if_out, throw_out, block_out, blocks, load, add_redex, eq_redex, new_redex, cast_redex, get_redex, put_redex, read_redex, call_out, call_slot, enter, catch_slot, try_out, step, steps, bare}
use Rattle.rules.specs.Run.{judge, run}
use Rattle.laws.specs.Frames.{Frame, cast_f, add_l, add_r, eqL, eqR, assign_f, get_f, put_l, put_r, call_l, call_r, block_f, seq_f, ite_f, throw_f, try_f, plug, outer, plugs, outers, nexts_in, stucks_in, begun, blocked_some, blocked_none, Plain, plain_plugs, plug_value, plug_assign, plug_begin, plug_plain, quiet_plain}

-- what the whole's step finds, the active place being e under a stack of frames
abbrev pub found : Program → Heap → List Frame → Store → Expr → Out
found P h Fs s e = step P (plugs blocked Fs s e) h (outers Fs s)

-- A step is taken, to e in h with the variables s,
pub record Goes (D : ℕ) (o : Out) (h : Heap) (s : Store) (e : Expr) : Type 0 where
  pub depth : ℕ
  pub place : ℕ
  pub low : depth ≤ D
  pub next : o ≡ Out.next depth place h s e

-- or no rule fits, at q,
pub record Halts (D : ℕ) (o : Out) (q : ℕ) : Type 0 where
  pub depth : ℕ
  pub low : depth ≤ D
  pub stuck : o ≡ Out.stuck depth q

-- or the active place is too deep.
abbrev pub Beyond : ℕ → Out → Type 0
Beyond D (Out.value q v) = ⊥
Beyond D (Out.thrown a) = ⊥
Beyond D (Out.next d q h s e) = D < d
Beyond D (Out.stuck d q) = D < d

-- neither a value nor Throw of an address
abbrev pub Busy : Out → Type 0
Busy (Out.value q v) = ⊥
Busy (Out.thrown a) = ⊥
Busy (Out.next d q h s e) = Unit {0}
Busy (Out.stuck d q) = Unit {0}

module _ (P : Program) (D : ℕ) (h : Heap) where
  pub goes_at : (Fs : List Frame) (s : Store) (e e' : Expr) (h' : Heap) (s' : Store) (q : ℕ) → Plain Fs s e → length Fs ≤ D
      → step P e h s ≡ Out.next 0 q h' s' e'
      → Goes D (found P h Fs s e) h' (outers Fs s') (plugs blocked Fs s' e')
  goes_at Fs s e e' h' s' q pl l i =
      record {
        depth = length Fs + 0;
        place = q;
        low = omega arith;
        next = rw (plain_plugs Fs s e pl) (nexts_in P Fs e e' h h' s s' 0 q i);
      }

  pub halts_at : (Fs : List Frame) (s : Store) (e : Expr) (q : ℕ) → Plain Fs s e → length Fs ≤ D → step P e h s ≡ Out.stuck 0 q
      → Halts D (found P h Fs s e) q
  halts_at Fs s e q pl l i =
      record { depth = length Fs + 0; low = omega arith; stuck = rw (plain_plugs Fs s e pl) (stucks_in P Fs e h s 0 q i) }

  -- the same for the innermost frame with its operand in it
  pub goes_back : (F : Frame) (Fs : List Frame) (s : Store) (e e' : Expr) (h' : Heap) (s' : Store) (q : ℕ) → Plain (F ∷ Fs) s e
      → length Fs ≤ D
      → step P (plug block F s e) h (outer F s) ≡ Out.next 0 q h' s' e'
      → Goes D (found P h (F ∷ Fs) s e) h' (outers Fs s') (plugs blocked Fs s' e')
  unfolding plugs outers
  goes_back F Fs s e e' h' s' q pl l i =
      record {
        depth = length Fs + 0;
        place = q;
        low = omega arith;
        next = rw (plain_plugs (F ∷ Fs) s e pl) (nexts_in P Fs (plug block F s e) e' h h' (outer F s) s' 0 q i);
      }

  pub halts_back : (F : Frame) (Fs : List Frame) (s : Store) (e : Expr) (q : ℕ) → Plain (F ∷ Fs) s e → length Fs ≤ D
      → step P (plug block F s e) h (outer F s) ≡ Out.stuck 0 q
      → Halts D (found P h (F ∷ Fs) s e) q
  unfolding plugs outers
  halts_back F Fs s e q pl l i =
      record {
        depth = length Fs + 0;
        low = omega arith;
        stuck = rw (plain_plugs (F ∷ Fs) s e pl) (stucks_in P Fs (plug block F s e) h (outer F s) 0 q i);
      }

  -- under too many frames
  pub beyond_at : (Fs : List Frame) (s : Store) (e : Expr) → Plain Fs s e → D < length Fs → Busy (step P e h s)
      → Beyond D (found P h Fs s e)
  beyond_at Fs s e pl l b = go (step P e h s) refl b
    where
      go : (o : Out) → step P e h s ≡ o → Busy o → Beyond D (found P h Fs s e)
      go (Out.value q v) i b = absurd b
      go (Out.thrown a) i b = absurd b
      go (Out.next d q h' s' e') i b = rw (plain_plugs Fs s e pl, nexts_in P Fs e e' h h' s s' d q i) (omega arith)
      go (Out.stuck d q) i b = rw (plain_plugs Fs s e pl, stucks_in P Fs e h s d q i) (omega arith)

-- The run, by what the step finds.
module _ (P : Program) (D : ℕ) (h : Heap) (s : Store) (e : Expr) where
  pub run_goes : (n k : ℕ) (h' : Heap) (s' : Store) (e' : Expr) → Goes D (step P e h s) h' s' e'
      → run D P (suc n) k h s e ≡ run D P n (suc k) h' s' e'
  unfolding run judge
  run_goes n k h' s' e' g = rw (g.next, le-leb _ _ g.low)

  pub run_full : (k : ℕ) (h' : Heap) (s' : Store) (e' : Expr) → Goes D (step P e h s) h' s' e'
      → run D P zero k h s e ≡ record { end = OutOfSteps; count = k; heap = h }
  unfolding run judge
  run_full k h' s' e' g = rw (g.next, le-leb _ _ g.low)

  pub run_halts : (n k q : ℕ) → Halts D (step P e h s) q → run D P n k h s e ≡ record { end = Stuck q; count = k; heap = h }
  unfolding run judge
  run_halts zero k q g = rw (g.stuck, le-leb _ _ g.low)
  run_halts (suc n) k q g = rw (g.stuck, le-leb _ _ g.low)

  pub run_beyond : (n k : ℕ) → Beyond D (step P e h s) → run D P n k h s e ≡ record { end = TooDeep; count = k; heap = h }
  unfolding run judge
  run_beyond n k b = go n (step P e h s) refl b
    where
      go : (n : ℕ) (o : Out) → step P e h s ≡ o → Beyond D o → run D P n k h s e ≡ record { end = TooDeep; count = k; heap = h }
      go n (Out.value q v) i b = absurd b
      go n (Out.thrown a) i b = absurd b
      go zero (Out.next d q h' s' e') i b = rw (i, lt-leb _ _ b)
      go (suc n) (Out.next d q h' s' e') i b = rw (i, lt-leb _ _ b)
      go zero (Out.stuck d q) i b = rw (i, lt-leb _ _ b)
      go (suc n) (Out.stuck d q) i b = rw (i, lt-leb _ _ b)

pub run_value : (P : Program) (D : ℕ) (h : Heap) (s : Store) (n k : ℕ) (v : Value)
    → run D P n k h s (bare v) ≡ record { end = Returned v; count = k; heap = h }
unfolding run judge step
run_value P D h s zero k v = refl
run_value P D h s (suc n) k v = refl

pub run_thrown : (P : Program) (D : ℕ) (h : Heap) (s : Store) (n k p a : ℕ)
    → run D P n k h s (thrown_at p a) ≡ record { end = Threw a; count = k; heap = h }
unfolding run judge step under throw_out
run_thrown P D h s zero k p a = refl
run_thrown P D h s (suc n) k p a = refl

-- A frame that is a sequence, and the variable of one that is a block.
unfoldable pub is_seq_f : Frame → Bool
is_seq_f (cast_f p c) = false
is_seq_f (add_l p b) = false
is_seq_f (eqL p b) = false
is_seq_f (add_r p q v) = false
is_seq_f (eqR p q v) = false
is_seq_f (assign_f p y) = false
is_seq_f (get_f p f c) = false
is_seq_f (put_l p f c b) = false
is_seq_f (put_r p f c q v) = false
is_seq_f (call_l p m es) = false
is_seq_f (call_r p m q v vs es) = false
is_seq_f (block_f p y t old) = false
is_seq_f (seq_f p b) = true
is_seq_f (ite_f p b c) = false
is_seq_f (throw_f p t) = false
is_seq_f (try_f p c y b) = false

unfoldable pub block_var : Frame → Option ℕ
block_var (cast_f p c) = none
block_var (add_l p b) = none
block_var (eqL p b) = none
block_var (add_r p q v) = none
block_var (eqR p q v) = none
block_var (assign_f p y) = none
block_var (get_f p f c) = none
block_var (put_l p f c b) = none
block_var (put_r p f c q v) = none
block_var (call_l p m es) = none
block_var (call_r p m q v vs es) = none
block_var (block_f p y t old) = some y
block_var (seq_f p b) = none
block_var (ite_f p b c) = none
block_var (throw_f p t) = none
block_var (try_f p c y b) = none

other_quiet : (F : Frame) (s : Store) (e : Expr) (x : ℕ) → is_seq_f F ≡ false → begun x (view (plug block F s e)) ≡ none
unfolding plug view begun is_seq_f
other_quiet (cast_f p c) s e x i = refl
other_quiet (add_l p b) s e x i = refl
other_quiet (eqL p b) s e x i = refl
other_quiet (add_r p q v) s e x i = refl
other_quiet (eqR p q v) s e x i = refl
other_quiet (assign_f p y) s e x i = refl
other_quiet (get_f p f c) s e x i = refl
other_quiet (put_l p f c b) s e x i = refl
other_quiet (put_r p f c q v) s e x i = refl
other_quiet (call_l p m es) s e x i = refl
other_quiet (call_r p m q v vs es) s e x i = refl
other_quiet (block_f p y t old) s e x i = refl
other_quiet (seq_f p b) s e x i = absurd (let z : ◌≡◌ {A = ℕ} 0 1 = cc in omega arith)
other_quiet (ite_f p b c) s e x i = refl
other_quiet (throw_f p t) s e x i = refl
other_quiet (try_f p c y b) s e x i = refl

other_plain : (F : Frame) (s : Store) (e : Expr) → block_var F ≡ none → plug blocked F s e ≡ plug block F s e
unfolding plug block_var
other_plain (cast_f p c) s e i = refl
other_plain (add_l p b) s e i = refl
other_plain (eqL p b) s e i = refl
other_plain (add_r p q v) s e i = refl
other_plain (eqR p q v) s e i = refl
other_plain (assign_f p y) s e i = refl
other_plain (get_f p f c) s e i = refl
other_plain (put_l p f c b) s e i = refl
other_plain (put_r p f c q v) s e i = refl
other_plain (call_l p m es) s e i = refl
other_plain (call_r p m q v vs es) s e i = refl
other_plain (block_f p y t old) s e i = absurd (let z : ◌≡◌ {A = ℕ} 0 1 = cc in omega arith)
other_plain (seq_f p b) s e i = refl
other_plain (ite_f p b c) s e i = refl
other_plain (throw_f p t) s e i = refl
other_plain (try_f p c y b) s e i = refl

-- An assignment of a value: only a sequence in a block of its own variable, which is unset, takes it up.
abbrev pub Unarmed : List Frame → Store → Expr → Type 0
Unarmed [] s e = Unit {0}
Unarmed (F ∷ []) s e = Unit {0}
Unarmed (F ∷ G ∷ Fs) s e = plug blocked G (outer F s) (plug block F s e) ≡ plug block G (outer F s) (plug block F s e)

pub assign_plain : (Fs : List Frame) (s : Store) (r x k : ℕ) (v : Value) → Unarmed Fs s (assign r x (val k v))
    → Plain Fs s (assign r x (val k v))
unfolding view begun value_in
assign_plain [] s r x k v u = tt
assign_plain (F ∷ []) s r x k v u = (plug_plain F s (assign r x (val k v)) (λ y. refl), tt)
assign_plain (F ∷ G ∷ Fs) s r x k v u =
    let e = assign r x (val k v) in
    let d = plug block F s e in (
      plug_plain F s e (λ y. refl),
      (
        u,
        quiet_plain Fs (outer G (outer F s)) (plug block G (outer F s) d)
            (record {
              value = plug_value G (outer F s) d;
              assign = λ y. plug_assign G (outer F s) d y (plug_value F s e);
              begin = λ y. plug_begin G (outer F s) d y (plug_assign F s e y refl);
            }),
      ),
    )

pub unarmed_other : (F G : Frame) (Fs : List Frame) (s : Store) (e : Expr) → is_seq_f F ≡ false → Unarmed (F ∷ G ∷ Fs) s e
unarmed_other F G Fs s e i = plug_plain G (outer F s) (plug block F s e) (λ y. other_quiet F s e y i)

pub unarmed_plain : (F G : Frame) (Fs : List Frame) (s : Store) (e : Expr) → block_var G ≡ none → Unarmed (F ∷ G ∷ Fs) s e
unarmed_plain F G Fs s e i = other_plain G (outer F s) (plug block F s e) i

pub unarmed_set : (q : ℕ) (b : Expr) (p y : ℕ) (t : Ty) (old : Option Value) (Fs : List Frame) (s : Store) (e : Expr) (w : Value)
    → s y ≡ some w
    → Unarmed (seq_f q b ∷ block_f p y t old ∷ Fs) s e
unfolding plug outer
unarmed_set q b p y t old Fs s e w i = rw i (blocked_some p y t w (seq q e b))

unset_plain : (p y : ℕ) (t : Ty) (mv : Option Value) (e : Expr) → begun y (view e) ≡ none → blocked p y t mv e ≡ block p y t mv e
unset_plain p y t none e i = blocked_none p y t e i
unset_plain p y t (some w) e i = blocked_some p y t w e

pub unarmed_var : (q : ℕ) (b : Expr) (p y : ℕ) (t : Ty) (old : Option Value) (Fs : List Frame) (s : Store) (r x k : ℕ) (v : Value)
    → (y ≡ x → ⊥)
    → Unarmed (seq_f q b ∷ block_f p y t old ∷ Fs) s (assign r x (val k v))
unfolding plug outer view begun assigned
unarmed_var q b p y t old Fs s r x k v d =
    unset_plain p y t (s y) (seq q (assign r x (val k v)) b) (rw (ne_eqb y x d))

-- Every expression but a value and a Throw is busy.
module _ (p : ℕ) (h : Heap) (l : Store) where
  busy_redex : (r : Redex) → Busy (redex p h l r)
  unfolding redex
  busy_redex (gives h' v) = tt
  busy_redex (raises a) = tt
  busy_redex fails = tt

  busy_under : (o : Out) (around : Expr → Expr) (then : ℕ → Value → Out) → ((q : ℕ) (v : Value) → Busy (then q v))
      → Busy (under p h l o around then)
  unfolding under
  busy_under (Out.value q v) around then b = b q v
  busy_under (Out.thrown a) around then b = tt
  busy_under (Out.next d q h' l' e) around then b = tt
  busy_under (Out.stuck d q) around then b = tt

  busy_unders : (o : Outs) (around : Exprs → Expr) (then : List Value → Out) → ((vs : List Value) → Busy (then vs))
      → Busy (unders p h l o around then)
  unfolding unders
  busy_unders (Outs.values vs) around then b = b vs
  busy_unders (Outs.thrown a) around then b = tt
  busy_unders (Outs.next d q h' l' e) around then b = tt
  busy_unders (Outs.stuck d q) around then b = tt

  busy_if : (v : Value) (a b : Expr) → Busy (if_out p h l v a b)
  unfolding if_out
  busy_if Value.Unit a b = tt
  busy_if Null a b = tt
  busy_if (Value.Bool c) a b = tt
  busy_if (Intg n) a b = tt
  busy_if (Addr n) a b = tt

  busy_block : (x : ℕ) (t : Ty) (o : Out) → Busy (block_out p x t h l o)
  unfolding block_out
  busy_block x t (Out.value q v) = tt
  busy_block x t (Out.thrown a) = tt
  busy_block x t (Out.next d q h' l' e) = tt
  busy_block x t (Out.stuck d q) = tt

  -- where the value that it throws is no address
  busy_throw : (o : Out) (around : Expr → Expr) → ((q a : ℕ) → o ≡ Out.value q (Addr a) → ⊥)
      → Busy (under p h l o around (λ q v. throw_out p h l v))
  unfolding under throw_out redex
  busy_throw (Out.value q Value.Unit) around n = tt
  busy_throw (Out.value q Null) around n = tt
  busy_throw (Out.value q (Value.Bool b)) around n = tt
  busy_throw (Out.value q (Intg i)) around n = tt
  busy_throw (Out.value q (Addr a)) around n = absurd (n q a refl)
  busy_throw (Out.thrown a) around n = tt
  busy_throw (Out.next d q h' l' e) around n = tt
  busy_throw (Out.stuck d q) around n = tt

module _ (P : Program) (p : ℕ) (h : Heap) (l : Store) where
  busy_cond : (t : Bool) (a b : Expr) → Busy (cond t (Out.next 0 p h l a) (Out.next 0 p h l b))
  busy_cond true a b = tt
  busy_cond false a b = tt

  busy_fit : (t : Bool) (e : Expr) → Busy (cond t (Out.next 0 p h l e) (Out.stuck 0 p))
  busy_fit true e = tt
  busy_fit false e = tt

  busy_enter : (a : ℕ) (vs : List Value) (m : Option Method) → Busy (enter P p h l a vs m)
  unfolding enter
  busy_enter a vs none = tt
  busy_enter a vs (some r) =
      busy_fit (eqb (length vs) (length r.params))
      (blocks p 0 (Class r.owner ∷ r.params) (Addr a ∷ vs) (load r.body))

  busy_slot : (m a : ℕ) (vs : List Value) (o : Slot) → Busy (call_slot P p h l m a vs o)
  unfolding call_slot
  busy_slot m a vs free = tt
  busy_slot m a vs (obj c fs) = busy_enter a vs (sees_method P c m)

  busy_call : (m : ℕ) (v : Value) (vs : List Value) → Busy (call_out P p h l m v vs)
  unfolding call_out redex
  busy_call m Value.Unit vs = tt
  busy_call m Null vs = tt
  busy_call m (Value.Bool b) vs = tt
  busy_call m (Intg n) vs = tt
  busy_call m (Addr a) vs = busy_slot m a vs (look h a)

  busy_catch : (c x : ℕ) (b : Expr) (a : ℕ) (o : Slot) → Busy (catch_slot P p h l c x b a o)
  unfolding catch_slot
  busy_catch c x b a free = tt
  busy_catch c x b a (obj d vs) = busy_cond (subclass P d c) (block p x (Class c) (some (Addr a)) b) (thrown_at p a)

  busy_try : (c x : ℕ) (b : Expr) (o : Out) → Busy (try_out P p h l c x b o)
  unfolding try_out
  busy_try c x b (Out.value q v) = tt
  busy_try c x b (Out.thrown a) = busy_catch c x b a (look h a)
  busy_try c x b (Out.next d q h' l' e) = tt
  busy_try c x b (Out.stuck d q) = tt

-- an expression that is no value, and no Throw of one that is an address
abbrev pub Works : Expr → Type 0
Works (new p c) = Unit {0}
Works (cast p c e) = Unit {0}
Works (val p v) = ⊥
Works (var p x) = Unit {0}
Works (add p a b) = Unit {0}
Works (eq p a b) = Unit {0}
Works (assign p x e) = Unit {0}
Works (get p f d e) = Unit {0}
Works (put p f d a b) = Unit {0}
Works (call p m e es) = Unit {0}
Works (block p x t mv e) = Unit {0}
Works (seq p a b) = Unit {0}
Works (ite p c a b) = Unit {0}
Works (while p c e) = Unit {0}
Works (throw p t e) = (a : ℕ) → value_in (view e) ≡ some (Addr a) → ⊥
Works (try p c x a b) = Unit {0}

module _ (P : Program) (h : Heap) (l : Store) where
  busy_both : (p : ℕ) (a b : Expr) (oa ob : Out) (around : Expr → Expr → Expr) (then : Value → Value → Redex)
      → Busy (both p h l a b oa ob around then)
  unfolding both
  busy_both p a b oa ob around then =
      busy_under p h l oa (λ a'. around a' b) (λ q v. under p h l ob (around (val q v)) (λ r w. redex p h l (then v w)))
      (λ q v. busy_under p h l ob (around (val q v)) (λ r w. redex p h l (then v w)) (λ r w. busy_redex p h l (then v w)))

  -- whether it is neither a value nor a Throw
  abbrev Plainly : Expr → Type 0
  Plainly (new p c) = Unit {0}
  Plainly (cast p c e) = Unit {0}
  Plainly (val p v) = ⊥
  Plainly (var p x) = Unit {0}
  Plainly (add p a b) = Unit {0}
  Plainly (eq p a b) = Unit {0}
  Plainly (assign p x e) = Unit {0}
  Plainly (get p f d e) = Unit {0}
  Plainly (put p f d a b) = Unit {0}
  Plainly (call p m e es) = Unit {0}
  Plainly (block p x t mv e) = Unit {0}
  Plainly (seq p a b) = Unit {0}
  Plainly (ite p c a b) = Unit {0}
  Plainly (while p c e) = Unit {0}
  Plainly (throw p t e) = ⊥
  Plainly (try p c x a b) = Unit {0}

  busy_plainly : (e : Expr) → Plainly e → Busy (step P e h l)
  unfolding step
  busy_plainly (new p c) w = busy_redex p h l (new_redex P h c (lowest_free h))
  busy_plainly (cast p c e) w =
      busy_under p h l (step P e h l) (cast p c) (λ q v. redex p h l (cast_redex P h c v)) (λ q v. busy_redex p h l (cast_redex P h c v))
  busy_plainly (val p v) w = w
  busy_plainly (var p x) w = busy_redex p h l (read_redex h (l x))
  busy_plainly (add p a b) w = busy_both p a b (step P a h l) (step P b h l) (add p) (add_redex h)
  busy_plainly (eq p a b) w = busy_both p a b (step P a h l) (step P b h l) (eq p) (eq_redex h)
  busy_plainly (assign p x e) w =
      busy_under p h l (step P e h l) (assign p x) (λ q v. Out.next 0 p h (upd l x (some v)) (bare v)) (λ q v. tt)
  busy_plainly (get p f d e) w =
      busy_under p h l (step P e h l) (get p f d) (λ q v. redex p h l (get_redex P h f d v))
      (λ q v. busy_redex p h l (get_redex P h f d v))
  busy_plainly (put p f d a b) w = busy_both p a b (step P a h l) (step P b h l) (put p f d) (put_redex P h f d)
  busy_plainly (call p m e es) w =
      busy_under p h l (step P e h l) (λ e'. call p m e' es)
      (λ q v. unders p h l (steps P es h l) (call p m (val q v)) (λ vs. call_out P p h l m v vs))
      (λ q v.
      busy_unders p h l (steps P es h l) (call p m (val q v)) (λ vs. call_out P p h l m v vs) (λ vs. busy_call P p h l m v vs))
  busy_plainly (block p x t mv e) w = busy_block p h l x t (step P e h (upd l x mv))
  busy_plainly (seq p a b) w =
      busy_under p h l (step P a h l) (λ a'. seq p a' b) (λ q v. Out.next 0 p h l b) (λ q v. tt)
  busy_plainly (ite p c a b) w =
      busy_under p h l (step P c h l) (λ c'. ite p c' a b) (λ q v. if_out p h l v a b) (λ q v. busy_if p h l v a b)
  busy_plainly (while p c e) w = tt
  busy_plainly (throw p t e) w = absurd w
  busy_plainly (try p c x a b) w = busy_try P p h l c x b (step P a h l)

  throw_finds : (p : ℕ) (o : Out) (around : Expr → Expr) (q : ℕ) (v : Value)
      → under p h l o around (λ r w. throw_out p h l w) ≡ Out.value q v
      → ⊥
  unfolding under throw_out redex
  throw_finds p (Out.value r Value.Unit) around q v e = let z : ◌≡◌ {A = ℕ} 0 1 = cc in omega arith
  throw_finds p (Out.value r Null) around q v e = let z : ◌≡◌ {A = ℕ} 0 1 = cc in omega arith
  throw_finds p (Out.value r (Value.Bool b)) around q v e = let z : ◌≡◌ {A = ℕ} 0 1 = cc in omega arith
  throw_finds p (Out.value r (Intg i)) around q v e = let z : ◌≡◌ {A = ℕ} 0 1 = cc in omega arith
  throw_finds p (Out.value r (Addr a)) around q v e = let z : ◌≡◌ {A = ℕ} 0 1 = cc in omega arith
  throw_finds p (Out.thrown a) around q v e = let z : ◌≡◌ {A = ℕ} 0 1 = cc in omega arith
  throw_finds p (Out.next d r h' l' f) around q v e = let z : ◌≡◌ {A = ℕ} 0 1 = cc in omega arith
  throw_finds p (Out.stuck d r) around q v e = let z : ◌≡◌ {A = ℕ} 0 1 = cc in omega arith

  busy_not : (o : Out) (q : ℕ) (v : Value) → Busy o → o ≡ Out.value q v → ⊥
  busy_not o q v b i = rw i at b

  -- only a value is found to be one
  found_value : (e : Expr) (q : ℕ) (v : Value) → step P e h l ≡ Out.value q v → value_in (view e) ≡ some v
  unfolding step view value_in
  found_value (new p c) q v i = absurd (busy_not (step P (new p c) h l) q v (busy_plainly (new p c) tt) i)
  found_value (cast p c e) q v i = absurd (busy_not (step P (cast p c e) h l) q v (busy_plainly (cast p c e) tt) i)
  found_value (var p x) q v i = absurd (busy_not (step P (var p x) h l) q v (busy_plainly (var p x) tt) i)
  found_value (add p a b) q v i = absurd (busy_not (step P (add p a b) h l) q v (busy_plainly (add p a b) tt) i)
  found_value (eq p a b) q v i = absurd (busy_not (step P (eq p a b) h l) q v (busy_plainly (eq p a b) tt) i)
  found_value (assign p x e) q v i = absurd (busy_not (step P (assign p x e) h l) q v (busy_plainly (assign p x e) tt) i)
  found_value (get p f d e) q v i = absurd (busy_not (step P (get p f d e) h l) q v (busy_plainly (get p f d e) tt) i)
  found_value (put p f d a b) q v i = absurd (busy_not (step P (put p f d a b) h l) q v (busy_plainly (put p f d a b) tt) i)
  found_value (call p m e es) q v i = absurd (busy_not (step P (call p m e es) h l) q v (busy_plainly (call p m e es) tt) i)
  found_value (block p x t mv e) q v i = absurd (busy_not (step P (block p x t mv e) h l) q v (busy_plainly (block p x t mv e) tt) i)
  found_value (seq p a b) q v i = absurd (busy_not (step P (seq p a b) h l) q v (busy_plainly (seq p a b) tt) i)
  found_value (ite p c a b) q v i = absurd (busy_not (step P (ite p c a b) h l) q v (busy_plainly (ite p c a b) tt) i)
  found_value (while p c e) q v i = absurd (busy_not (step P (while p c e) h l) q v (busy_plainly (while p c e) tt) i)
  found_value (try p c x a b) q v i = absurd (busy_not (step P (try p c x a b) h l) q v (busy_plainly (try p c x a b) tt) i)
  found_value (val p w) q v i = cc
  found_value (throw p t e) q v i = absurd (throw_finds p (step P e h l) (throw p t) q v i)

  pub busy : (e : Expr) → Works e → Busy (step P e h l)
  unfolding step
  busy (throw p t e) w =
      busy_throw p h l (step P e h l) (throw p t) (λ q a i. w a (found_value e q (Addr a) i))
  busy (new p c) w = busy_plainly (new p c) tt
  busy (cast p c e) w = busy_plainly (cast p c e) tt
  busy (var p x) w = busy_plainly (var p x) tt
  busy (add p a b) w = busy_plainly (add p a b) tt
  busy (eq p a b) w = busy_plainly (eq p a b) tt
  busy (assign p x e) w = busy_plainly (assign p x e) tt
  busy (get p f d e) w = busy_plainly (get p f d e) tt
  busy (put p f d a b) w = busy_plainly (put p f d a b) tt
  busy (call p m e es) w = busy_plainly (call p m e es) tt
  busy (block p x t mv e) w = busy_plainly (block p x t mv e) tt
  busy (seq p a b) w = busy_plainly (seq p a b) tt
  busy (ite p c a b) w = busy_plainly (ite p c a b) tt
  busy (while p c e) w = busy_plainly (while p c e) tt
  busy (try p c x a b) w = busy_plainly (try p c x a b) tt
  busy (val p v) w = absurd w
