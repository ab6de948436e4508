-- Frames: the path from the root to the active place, and what a step there is for the whole.
use Rattle.std.specs.Prelude.{◌≡◌, Bool, true, false, cond, eqb}
use Rattle.std.proofs.Math.Path.{refl}
use Rattle.std.proofs.Math.Option.{Option, none, some}
use mathlib.Core.List.{List, [], ◌∷◌, ◌++◌, map}
use Prim.Native.Nat.{ℕ, suc, ◌+◌}
use native.Mathlib.Omega.{arith}
use Rattle.std.proofs.Math.ListN.{length}
use Rattle.std.proofs.Common.{eq-eqb}
use Rattle.words.specs.declared.Value.{Value}
use Rattle.words.specs.declared.Ty.{Ty}
use Rattle.rules.specs.Maps.{upd}
use Rattle.rules.specs.Trees.{Expr, Exprs, new, cast, val, var, add, eq, assign, get, put, call, block, seq, ite, while, throw, try, nil, cons}
use Rattle.rules.specs.Program.{Program}
use Rattle.rules.specs.Heap.{Heap, look, lowest_free}
use Rattle.rules.specs.Step.{Store, Out, Outs, thrown_at, read_redex, add_redex, eq_redex, new_redex, cast_redex, get_redex, put_redex, View, is_seq, is_assign, is_val, other, view, value_in, assigned, remember, settle, blocked, redex, under, unders, both, if_out, throw_out, block_out, cons_out, tail_out, call_out, catch_slot, try_out, step, steps, bare}
use Rattle.laws.specs.Maps.{upd_same, upd_twice, upd_restore}

-- One constructor for each place that an active operand can stand in.
pub data Frame : Type 0 where
  cast_f : (p c : ℕ) → Frame
  add_l eqL : (p : ℕ) → Expr → Frame
  add_r eqR : (p q : ℕ) → Value → Frame
  assign_f : (p x : ℕ) → Frame
  get_f : (p f d : ℕ) → Frame
  put_l : (p f d : ℕ) → Expr → Frame
  put_r : (p f d q : ℕ) → Value → Frame
  call_l : (p m : ℕ) → Exprs → Frame
  -- the receiver, the arguments that are values, each with its place, and those still to come
  call_r : (p m q : ℕ) → Value → List (ℕ × Value) → Exprs → Frame
  -- what the variable holds outside
  block_f : (p x : ℕ) → Ty → Option Value → Frame
  seq_f : (p : ℕ) → Expr → Frame
  ite_f : (p : ℕ) → Expr → Expr → Frame
  throw_f : (p : ℕ) → Ty → Frame
  try_f : (p c x : ℕ) → Expr → Frame

unfoldable pub operands_of : List (ℕ × Value) → Expr → Exprs → Exprs
operands_of [] e es = cons e es
operands_of (v ∷ vs) e es = cons (val v.0 v.1) (operands_of vs e es)

-- how a block is made: `block`, or `blocked` after a step
abbrev pub Blocks : Type 0
Blocks = ℕ → ℕ → Ty → Option Value → Expr → Expr

-- The frame with e in it. A block remembers what its variable holds inside.
unfoldable pub plug : Blocks → Frame → Store → Expr → Expr
plug bl (cast_f p c) s e = cast p c e
plug bl (add_l p b) s e = add p e b
plug bl (eqL p b) s e = eq p e b
plug bl (add_r p q v) s e = add p (val q v) e
plug bl (eqR p q v) s e = eq p (val q v) e
plug bl (assign_f p x) s e = assign p x e
plug bl (get_f p f d) s e = get p f d e
plug bl (put_l p f d b) s e = put p f d e b
plug bl (put_r p f d q v) s e = put p f d (val q v) e
plug bl (call_l p m es) s e = call p m e es
plug bl (call_r p m q v vs es) s e = call p m (val q v) (operands_of vs e es)
plug bl (block_f p x t old) s e = bl p x t (s x) e
plug bl (seq_f p b) s e = seq p e b
plug bl (ite_f p a b) s e = ite p e a b
plug bl (throw_f p t) s e = throw p t e
plug bl (try_f p c x b) s e = try p c x e b

-- the variables as they are outside a frame
unfoldable pub outer : Frame → Store → Store
outer (cast_f p c) s = s
outer (add_l p b) s = s
outer (eqL p b) s = s
outer (add_r p q v) s = s
outer (eqR p q v) s = s
outer (assign_f p x) s = s
outer (get_f p f d) s = s
outer (put_l p f d b) s = s
outer (put_r p f d q v) s = s
outer (call_l p m es) s = s
outer (call_r p m q v vs es) s = s
outer (block_f p x t old) s = upd s x old
outer (seq_f p b) s = s
outer (ite_f p a b) s = s
outer (throw_f p t) s = s
outer (try_f p c x b) s = s

module _ (P : Program) where
  operands_next : (vs : List (ℕ × Value)) (e e' : Expr) (es : Exprs) (h h' : Heap) (s s' : Store) (d q : ℕ)
      → step P e h s ≡ Out.next d q h' s' e'
      → steps P (operands_of vs e es) h s ≡ Outs.next d q h' s' (operands_of vs e' es)
  unfolding step cons_out tail_out operands_of
  operands_next [] e e' es h h' s s' d q i = rw i
  operands_next (v ∷ vs) e e' es h h' s s' d q i = rw (operands_next vs e e' es h h' s s' d q i)

  operands_stuck : (vs : List (ℕ × Value)) (e : Expr) (es : Exprs) (h : Heap) (s : Store) (d q : ℕ) → step P e h s ≡ Out.stuck d q
      → steps P (operands_of vs e es) h s ≡ Outs.stuck d q
  unfolding step cons_out tail_out operands_of
  operands_stuck [] e es h s d q i = rw i
  operands_stuck (v ∷ vs) e es h s d q i = rw (operands_stuck vs e es h s d q i)

  operands_thrown : (vs : List (ℕ × Value)) (e : Expr) (es : Exprs) (h : Heap) (s : Store) (a : ℕ) → step P e h s ≡ Out.thrown a
      → steps P (operands_of vs e es) h s ≡ Outs.thrown a
  unfolding step cons_out tail_out operands_of
  operands_thrown [] e es h s a i = rw i
  operands_thrown (v ∷ vs) e es h s a i = rw (operands_thrown vs e es h s a i)

  -- A step of the operand is a step of the whole, one deeper.
  pub next_in : (F : Frame) (e e' : Expr) (h h' : Heap) (s s' : Store) (d q : ℕ) → step P e h s ≡ Out.next d q h' s' e'
      → step P (plug block F s e) h (outer F s) ≡ Out.next (suc d) q h' (outer F s') (plug blocked F s' e')
  unfolding plug outer step under unders both block_out try_out
  next_in (cast_f p c) e e' h h' s s' d q i = rw i
  next_in (add_l p b) e e' h h' s s' d q i = rw i
  next_in (eqL p b) e e' h h' s s' d q i = rw i
  next_in (add_r p r v) e e' h h' s s' d q i = rw i
  next_in (eqR p r v) e e' h h' s s' d q i = rw i
  next_in (assign_f p x) e e' h h' s s' d q i = rw i
  next_in (get_f p f c) e e' h h' s s' d q i = rw i
  next_in (put_l p f c b) e e' h h' s s' d q i = rw i
  next_in (put_r p f c r v) e e' h h' s s' d q i = rw i
  next_in (call_l p m es) e e' h h' s s' d q i = rw i
  next_in (call_r p m r v vs es) e e' h h' s s' d q i = rw (operands_next vs e e' es h h' s s' d q i)
  next_in (block_f p x t old) e e' h h' s s' d q i = rw (upd_restore s x old, i, upd_same s x old)
  next_in (seq_f p b) e e' h h' s s' d q i = rw i
  next_in (ite_f p a b) e e' h h' s s' d q i = rw i
  next_in (throw_f p t) e e' h h' s s' d q i = rw i
  next_in (try_f p c x b) e e' h h' s s' d q i = rw i

  -- where no rule fits the operand, none fits the whole
  pub stuck_in : (F : Frame) (e : Expr) (h : Heap) (s : Store) (d q : ℕ) → step P e h s ≡ Out.stuck d q
      → step P (plug block F s e) h (outer F s) ≡ Out.stuck (suc d) q
  unfolding plug outer step under unders both block_out try_out
  stuck_in (cast_f p c) e h s d q i = rw i
  stuck_in (add_l p b) e h s d q i = rw i
  stuck_in (eqL p b) e h s d q i = rw i
  stuck_in (add_r p r v) e h s d q i = rw i
  stuck_in (eqR p r v) e h s d q i = rw i
  stuck_in (assign_f p x) e h s d q i = rw i
  stuck_in (get_f p f c) e h s d q i = rw i
  stuck_in (put_l p f c b) e h s d q i = rw i
  stuck_in (put_r p f c r v) e h s d q i = rw i
  stuck_in (call_l p m es) e h s d q i = rw i
  stuck_in (call_r p m r v vs es) e h s d q i = rw (operands_stuck vs e es h s d q i)
  stuck_in (block_f p x t old) e h s d q i = rw (upd_restore s x old, i)
  stuck_in (seq_f p b) e h s d q i = rw i
  stuck_in (ite_f p a b) e h s d q i = rw i
  stuck_in (throw_f p t) e h s d q i = rw i
  stuck_in (try_f p c x b) e h s d q i = rw i

  -- What a frame does with an address that its operand throws: a Try asks what stands there, and any other passes it outward.
  unfoldable pub thrown_out : Frame → Heap → Store → (a : ℕ) → Out
  thrown_out (cast_f p c) h s a = Out.next 0 p h s (thrown_at p a)
  thrown_out (add_l p b) h s a = Out.next 0 p h s (thrown_at p a)
  thrown_out (eqL p b) h s a = Out.next 0 p h s (thrown_at p a)
  thrown_out (add_r p r v) h s a = Out.next 0 p h s (thrown_at p a)
  thrown_out (eqR p r v) h s a = Out.next 0 p h s (thrown_at p a)
  thrown_out (assign_f p x) h s a = Out.next 0 p h s (thrown_at p a)
  thrown_out (get_f p f c) h s a = Out.next 0 p h s (thrown_at p a)
  thrown_out (put_l p f c b) h s a = Out.next 0 p h s (thrown_at p a)
  thrown_out (put_r p f c r v) h s a = Out.next 0 p h s (thrown_at p a)
  thrown_out (call_l p m es) h s a = Out.next 0 p h s (thrown_at p a)
  thrown_out (call_r p m r v vs es) h s a = Out.next 0 p h s (thrown_at p a)
  thrown_out (block_f p x t old) h s a = Out.next 0 p h s (thrown_at p a)
  thrown_out (seq_f p b) h s a = Out.next 0 p h s (thrown_at p a)
  thrown_out (ite_f p b c) h s a = Out.next 0 p h s (thrown_at p a)
  thrown_out (throw_f p t) h s a = Out.next 0 p h s (thrown_at p a)
  thrown_out (try_f p c x b) h s a = catch_slot P p h s c x b a (look h a)

  pub thrown_in_lem : (F : Frame) (e : Expr) (h : Heap) (s : Store) (a : ℕ) → step P e h s ≡ Out.thrown a
      → step P (plug block F s e) h (outer F s) ≡ thrown_out F h (outer F s) a
  unfolding plug outer step under unders both block_out try_out thrown_out
  thrown_in_lem (cast_f p c) e h s a i = rw i
  thrown_in_lem (add_l p b) e h s a i = rw i
  thrown_in_lem (eqL p b) e h s a i = rw i
  thrown_in_lem (add_r p r v) e h s a i = rw i
  thrown_in_lem (eqR p r v) e h s a i = rw i
  thrown_in_lem (assign_f p x) e h s a i = rw i
  thrown_in_lem (get_f p f c) e h s a i = rw i
  thrown_in_lem (put_l p f c b) e h s a i = rw i
  thrown_in_lem (put_r p f c r v) e h s a i = rw i
  thrown_in_lem (call_l p m es) e h s a i = rw i
  thrown_in_lem (call_r p m r v vs es) e h s a i = rw (operands_thrown vs e es h s a i)
  thrown_in_lem (block_f p x t old) e h s a i = rw (upd_restore s x old, i)
  thrown_in_lem (seq_f p b) e h s a i = rw i
  thrown_in_lem (ite_f p b c) e h s a i = rw i
  thrown_in_lem (throw_f p t) e h s a i = rw i
  thrown_in_lem (try_f p c x b) e h s a i = rw i

-- A stack of frames, the innermost first.
unfoldable pub plugs : Blocks → List Frame → Store → Expr → Expr
plugs bl [] s e = e
plugs bl (F ∷ Fs) s e = plugs bl Fs (outer F s) (plug bl F s e)

unfoldable pub outers : List Frame → Store → Store
outers [] s = s
outers (F ∷ Fs) s = outers Fs (outer F s)

module _ (P : Program) where
  -- depth and place of the whole's step are those of the stack and of the active place
  pub nexts_in : (Fs : List Frame) (e e' : Expr) (h h' : Heap) (s s' : Store) (d q : ℕ) → step P e h s ≡ Out.next d q h' s' e'
      → step P (plugs block Fs s e) h (outers Fs s) ≡ Out.next (length Fs + d) q h' (outers Fs s') (plugs blocked Fs s' e')
  unfolding plugs outers
  nexts_in [] e e' h h' s s' d q i = let z : 0 + d ≡ d = omega arith in rw z i
  nexts_in (F ∷ Fs) e e' h h' s s' d q i =
      let z : suc (length Fs) + d ≡ length Fs + suc d = omega arith in
      rw z
      (nexts_in Fs (plug block F s e) (plug blocked F s' e') h h' (outer F s) (outer F s') (suc d) q
      (next_in P F e e' h h' s s' d q i))

  pub stucks_in : (Fs : List Frame) (e : Expr) (h : Heap) (s : Store) (d q : ℕ) → step P e h s ≡ Out.stuck d q
      → step P (plugs block Fs s e) h (outers Fs s) ≡ Out.stuck (length Fs + d) q
  unfolding plugs outers
  stucks_in [] e h s d q i = let z : 0 + d ≡ d = omega arith in rw z i
  stucks_in (F ∷ Fs) e h s d q i =
      let z : suc (length Fs) + d ≡ length Fs + suc d = omega arith in
      rw z (stucks_in Fs (plug block F s e) h (outer F s) (suc d) q (stuck_in P F e h s d q i))

-- A block whose body begins with `x := v` for its own x remembers v; any other stays as it is.
unfoldable pub begun : (x : ℕ) → View → Option Value
begun x (is_seq a b) = assigned x (view a)
begun x (is_assign y a) = none
begun x (is_val v) = none
begun x other = none

pub blocked_some : (p x : ℕ) (t : Ty) (v : Value) (e : Expr) → blocked p x t (some v) e ≡ block p x t (some v) e
unfolding blocked
blocked_some p x t v e = refl

pub blocked_none : (p x : ℕ) (t : Ty) (e : Expr) → begun x (view e) ≡ none → blocked p x t none e ≡ block p x t none e
unfolding blocked begun settle remember
blocked_none p x t e h = go (view e) h
  where
    go : (w : View) → begun x w ≡ none → settle p x t e w ≡ block p x t none e
    go (is_seq a b) q = rw q
    go (is_assign y a) q = refl
    go (is_val v) q = refl
    go other q = refl

pub blocked_begun : (p x : ℕ) (t : Ty) (q r k : ℕ) (v : Value) (b : Expr)
    → blocked p x t none (seq q (assign r x (val k v)) b) ≡ block p x t (some v) b
unfolding blocked settle remember assigned value_in view
blocked_begun p x t q r k v b = rw (eq-eqb x x refl)

-- every block of a stack stays as it is
abbrev pub Plain : List Frame → Store → Expr → Type 0
Plain [] s e = Unit {0}
Plain (F ∷ Fs) s e = (plug blocked F s e ≡ plug block F s e) × Plain Fs (outer F s) (plug block F s e)

pub plain_plugs : (Fs : List Frame) (s : Store) (e : Expr) → Plain Fs s e → plugs blocked Fs s e ≡ plugs block Fs s e
unfolding plugs
plain_plugs [] s e h = refl
plain_plugs (F ∷ Fs) s e h = rw h.0 (plain_plugs Fs (outer F s) (plug block F s e) h.1)

-- An expression that gives no block around it a value to remember: no value, no `x := v`, and nothing that begins so.
pub record Quiet (e : Expr) : Type 0 where
  pub value : value_in (view e) ≡ none
  pub assign : (x : ℕ) → assigned x (view e) ≡ none
  pub begin : (x : ℕ) → begun x (view e) ≡ none

either : (t : Bool) → cond {A = Option Value} t none none ≡ none
either true = refl
either false = refl

pub plug_value : (F : Frame) (s : Store) (e : Expr) → value_in (view (plug block F s e)) ≡ none
unfolding plug view value_in
plug_value (cast_f p c) s e = refl
plug_value (add_l p b) s e = refl
plug_value (eqL p b) s e = refl
plug_value (add_r p r v) s e = refl
plug_value (eqR p r v) s e = refl
plug_value (assign_f p y) s e = refl
plug_value (get_f p f c) s e = refl
plug_value (put_l p f c b) s e = refl
plug_value (put_r p f c r v) s e = refl
plug_value (call_l p m es) s e = refl
plug_value (call_r p m r v vs es) s e = refl
plug_value (block_f p y t old) s e = refl
plug_value (seq_f p b) s e = refl
plug_value (ite_f p b c) s e = refl
plug_value (throw_f p t) s e = refl
plug_value (try_f p c y b) s e = refl

pub plug_assign : (F : Frame) (s : Store) (e : Expr) (x : ℕ) → value_in (view e) ≡ none → assigned x (view (plug block F s e)) ≡ none
unfolding plug view assigned
plug_assign (cast_f p c) s e x h = refl
plug_assign (add_l p b) s e x h = refl
plug_assign (eqL p b) s e x h = refl
plug_assign (add_r p r v) s e x h = refl
plug_assign (eqR p r v) s e x h = refl
plug_assign (assign_f p y) s e x h = rw h (either (eqb x y))
plug_assign (get_f p f c) s e x h = refl
plug_assign (put_l p f c b) s e x h = refl
plug_assign (put_r p f c r v) s e x h = refl
plug_assign (call_l p m es) s e x h = refl
plug_assign (call_r p m r v vs es) s e x h = refl
plug_assign (block_f p y t old) s e x h = refl
plug_assign (seq_f p b) s e x h = refl
plug_assign (ite_f p b c) s e x h = refl
plug_assign (throw_f p t) s e x h = refl
plug_assign (try_f p c y b) s e x h = refl

pub plug_begin : (F : Frame) (s : Store) (e : Expr) (x : ℕ) → assigned x (view e) ≡ none → begun x (view (plug block F s e)) ≡ none
unfolding plug view begun
plug_begin (cast_f p c) s e x h = refl
plug_begin (add_l p b) s e x h = refl
plug_begin (eqL p b) s e x h = refl
plug_begin (add_r p r v) s e x h = refl
plug_begin (eqR p r v) s e x h = refl
plug_begin (assign_f p y) s e x h = refl
plug_begin (get_f p f c) s e x h = refl
plug_begin (put_l p f c b) s e x h = refl
plug_begin (put_r p f c r v) s e x h = refl
plug_begin (call_l p m es) s e x h = refl
plug_begin (call_r p m r v vs es) s e x h = refl
plug_begin (block_f p y t old) s e x h = refl
plug_begin (seq_f p b) s e x h = h
plug_begin (ite_f p b c) s e x h = refl
plug_begin (throw_f p t) s e x h = refl
plug_begin (try_f p c y b) s e x h = refl

blocked_plain : (p x : ℕ) (t : Ty) (mv : Option Value) (e : Expr) → begun x (view e) ≡ none → blocked p x t mv e ≡ block p x t mv e
blocked_plain p x t none e h = blocked_none p x t e h
blocked_plain p x t (some v) e h = blocked_some p x t v e

pub plug_plain : (F : Frame) (s : Store) (e : Expr) → ((x : ℕ) → begun x (view e) ≡ none) → plug blocked F s e ≡ plug block F s e
unfolding plug
plug_plain (cast_f p c) s e h = refl
plug_plain (add_l p b) s e h = refl
plug_plain (eqL p b) s e h = refl
plug_plain (add_r p r v) s e h = refl
plug_plain (eqR p r v) s e h = refl
plug_plain (assign_f p y) s e h = refl
plug_plain (get_f p f c) s e h = refl
plug_plain (put_l p f c b) s e h = refl
plug_plain (put_r p f c r v) s e h = refl
plug_plain (call_l p m es) s e h = refl
plug_plain (call_r p m r v vs es) s e h = refl
plug_plain (block_f p y t old) s e h = blocked_plain p y t (s y) e (h y)
plug_plain (seq_f p b) s e h = refl
plug_plain (ite_f p b c) s e h = refl
plug_plain (throw_f p t) s e h = refl
plug_plain (try_f p c y b) s e h = refl

-- around such an expression every block stays as it is
pub quiet_plain : (Fs : List Frame) (s : Store) (e : Expr) → Quiet e → Plain Fs s e
quiet_plain [] s e q = tt
quiet_plain (F ∷ Fs) s e q = (
  plug_plain F s e q.begin,
  quiet_plain Fs (outer F s) (plug block F s e)
      (record {
        value = plug_value F s e;
        assign = λ x. plug_assign F s e x q.value;
        begin = λ x. plug_begin F s e x (q.assign x);
      }),
)

-- and around a value too, in a frame that is no assignment
pub value_plain : (F : Frame) (Fs : List Frame) (s : Store) (k : ℕ) (v : Value)
    → ((x : ℕ) → assigned x (view (plug block F s (val k v))) ≡ none) → Plain (F ∷ Fs) s (val k v)
unfolding view begun assigned
value_plain F Fs s k v h = (
  plug_plain F s (val k v) (λ x. refl),
  quiet_plain Fs (outer F s) (plug block F s (val k v))
      (record { value = plug_value F s (val k v); assign = h; begin = λ x. plug_begin F s (val k v) x refl }),
)

-- the three frames around a value that its block remembers are one, and x is set inside
pub plugs_begun : (Fs : List Frame) (p x : ℕ) (t : Ty) (old : Option Value) (q r k : ℕ) (v : Value) (b : Expr) (s : Store)
    → s x ≡ none
    → plugs blocked (assign_f r x ∷ seq_f q b ∷ block_f p x t old ∷ Fs) s (val k v)
    ≡ plugs blocked (block_f p x t old ∷ Fs) (upd s x (some v)) b
unfolding plugs plug outer
plugs_begun Fs p x t old q r k v b s h =
    rw (h, blocked_begun p x t q r k v b, upd_same s x (some v), upd_twice s x (some v) old, blocked_some p x t v b)

-- Operands of a call: an operand that is a value gives its place to the next, and all of them are values at the end.
pub operands_move : (vs : List (ℕ × Value)) (q : ℕ) (w : Value) (e : Expr) (es : Exprs)
    → operands_of vs (val q w) (cons e es) ≡ operands_of (vs ++ ((q, w) ∷ [])) e es
unfolding operands_of
operands_move [] q w e es = refl
operands_move (v ∷ vs) q w e es = rw (operands_move vs q w e es)

pub operands_values : (P : Program) (vs : List (ℕ × Value)) (q : ℕ) (w : Value) (h : Heap) (s : Store)
    → steps P (operands_of vs (val q w) nil) h s ≡ Outs.values (map (λ v. v.1) vs ++ (w ∷ []))
unfolding operands_of step cons_out tail_out
operands_values P [] q w h s = refl
operands_values P (v ∷ vs) q w h s = rw (operands_values P vs q w h s)

-- A node whose operands are values.
module _ (P : Program) (p : ℕ) (h : Heap) (s : Store) where
  pub step_new : (c : ℕ) → step P (new p c) h s ≡ redex p h s (new_redex P h c (lowest_free h))
  unfolding step
  step_new c = refl

  pub step_var : (x : ℕ) → step P (var p x) h s ≡ redex p h s (read_redex h (s x))
  unfolding step
  step_var x = refl

  pub step_val : (v : Value) → step P (val p v) h s ≡ Out.value p v
  unfolding step
  step_val v = refl

  pub step_while : (c e : Expr) → step P (while p c e) h s ≡ Out.next 0 p h s (ite p c (seq p e (while p c e)) (bare Value.Unit))
  unfolding step
  step_while c e = refl

  pub step_cast : (c q : ℕ) (v : Value) → step P (cast p c (val q v)) h s ≡ redex p h s (cast_redex P h c v)
  unfolding step under
  step_cast c q v = refl

  pub step_add : (q r : ℕ) (v w : Value) → step P (add p (val q v) (val r w)) h s ≡ redex p h s (add_redex h v w)
  unfolding step under both
  step_add q r v w = refl

  pub step_eq : (q r : ℕ) (v w : Value) → step P (eq p (val q v) (val r w)) h s ≡ redex p h s (eq_redex h v w)
  unfolding step under both
  step_eq q r v w = refl

  pub step_assign : (x q : ℕ) (v : Value) → step P (assign p x (val q v)) h s ≡ Out.next 0 p h (upd s x (some v)) (bare v)
  unfolding step under
  step_assign x q v = refl

  pub step_get : (f d q : ℕ) (v : Value) → step P (get p f d (val q v)) h s ≡ redex p h s (get_redex P h f d v)
  unfolding step under
  step_get f d q v = refl

  pub step_put : (f d q r : ℕ) (v w : Value) → step P (put p f d (val q v) (val r w)) h s ≡ redex p h s (put_redex P h f d v w)
  unfolding step under both
  step_put f d q r v w = refl

  pub step_call_none : (m q : ℕ) (v : Value) → step P (call p m (val q v) nil) h s ≡ call_out P p h s m v []
  unfolding step under unders
  step_call_none m q v = refl

  pub step_call : (m q : ℕ) (v : Value) (vs : List (ℕ × Value)) (r : ℕ) (w : Value)
      → step P (call p m (val q v) (operands_of vs (val r w) nil)) h s ≡ call_out P p h s m v (map (λ u. u.1) vs ++ (w ∷ []))
  unfolding step under unders
  step_call m q v vs r w = rw (operands_values P vs r w h s)

  pub step_block : (x : ℕ) (t : Ty) (mv : Option Value) (q : ℕ) (v : Value)
      → step P (block p x t mv (val q v)) h s ≡ Out.next 0 p h s (val q v)
  unfolding step block_out
  step_block x t mv q v = refl

  pub step_seq : (q : ℕ) (v : Value) (b : Expr) → step P (seq p (val q v) b) h s ≡ Out.next 0 p h s b
  unfolding step under
  step_seq q v b = refl

  pub step_if : (q : ℕ) (v : Value) (a b : Expr) → step P (ite p (val q v) a b) h s ≡ if_out p h s v a b
  unfolding step under
  step_if q v a b = refl

  pub step_throw : (t : Ty) (q : ℕ) (v : Value) → step P (throw p t (val q v)) h s ≡ throw_out p h s v
  unfolding step under
  step_throw t q v = refl

  pub step_try : (c x q : ℕ) (v : Value) (b : Expr) → step P (try p c x (val q v) b) h s ≡ Out.next 0 p h s (val q v)
  unfolding step try_out
  step_try c x q v b = refl
