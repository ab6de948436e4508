-- One step of an expression: appendix B with the paper's choices, as a function. It finds the active place and what happens there.
use Rattle.std.specs.Prelude.{ℕ, suc, Bool, cond, ◌&&◌, List, [], ◌∷◌, eqb, length, get_or, set}
use Rattle.std.proofs.Math.Option.{Option, none, some}
use Rattle.words.specs.declared.Value.{Value}
use Rattle.words.specs.declared.Value.TheVariants.{Null, Intg, Addr}
use Rattle.words.specs.declared.Ty.{Ty}
use Rattle.words.specs.declared.Ty.TheVariants.{Void, Class}
use Rattle.words.specs.Value.{bit}
use Rattle.words.specs.Integer.{plus_of}
use Rattle.rules.specs.Maps.{upd}
use Rattle.rules.specs.Trees.{Expr, Exprs, new, cast, val, var, add, eq, assign, get, put, call, block, seq, ite, while, throw, try, nil, cons}
use Rattle.rules.specs.Program.{Method, Program}
use Rattle.rules.specs.Classes.{subclass, sees_method, has_fields, field_index}
use Rattle.rules.specs.Heap.{Slot, free, obj, Heap, look, defaults, lowest_free}

-- the values of the variables that are set
abbrev pub Store : Type 0
Store = ℕ → Option Value

-- the addresses of the system exceptions
abbrev pub null_pointer : ℕ
null_pointer = 0

abbrev pub class_cast : ℕ
class_cast = 1

abbrev pub out_of_memory : ℕ
out_of_memory = 2

-- A value is never the active place, so a running expression's values need no place of their own.
abbrev pub bare : Value → Expr
bare v = val 0 v

-- Throw of an address, at place p
abbrev pub thrown_at : (p a : ℕ) → Expr
thrown_at p a = throw p Void (bare (Addr a))

-- Values are the same when tag and payload are.
unfoldable pub tag : Value → ℕ
tag Value.Unit = 0
tag Null = 1
tag (Value.Bool b) = 2
tag (Intg n) = 3
tag (Addr a) = 4

unfoldable pub payload : Value → ℕ
payload Value.Unit = 0
payload Null = 0
payload (Value.Bool b) = bit b
payload (Intg n) = n
payload (Addr a) = a

unfoldable pub same_value : Value → Value → Bool
same_value v w = eqb (tag v) (tag w) && eqb (payload v) (payload w)

-- Redexes: what a node does with its operands' values, once they are values. It gives a value in a heap, throws, or no rule fits.
pub data Redex : Type 0 where
  gives : Heap → Value → Redex
  raises : (a : ℕ) → Redex
  fails : Redex

unfoldable pub read_redex : Heap → Option Value → Redex
read_redex h none = fails
read_redex h (some v) = gives h v

unfoldable pub add_redex : Heap → Value → Value → Redex
add_redex h Value.Unit w = fails
add_redex h Null w = fails
add_redex h (Value.Bool b) w = fails
add_redex h (Addr a) w = fails
add_redex h (Intg m) Value.Unit = fails
add_redex h (Intg m) Null = fails
add_redex h (Intg m) (Value.Bool b) = fails
add_redex h (Intg m) (Addr a) = fails
add_redex h (Intg m) (Intg n) = gives h (Intg (plus_of m n))

unfoldable pub eq_redex : Heap → Value → Value → Redex
eq_redex h v w = gives h (Value.Bool (same_value v w))

module _ (P : Program) where
  unfoldable pub new_redex : Heap → (c : ℕ) → Option ℕ → Redex
  new_redex h c none = raises out_of_memory
  new_redex h c (some a) = gives (set h a (obj c (defaults (has_fields P c)))) (Addr a)

  unfoldable pub cast_slot : Heap → (c a : ℕ) → Slot → Redex
  cast_slot h c a free = fails
  cast_slot h c a (obj d vs) = cond (subclass P d c) (gives h (Addr a)) (raises class_cast)

  unfoldable pub cast_redex : Heap → (c : ℕ) → Value → Redex
  cast_redex h c Value.Unit = fails
  cast_redex h c Null = gives h Null
  cast_redex h c (Value.Bool b) = fails
  cast_redex h c (Intg n) = fails
  cast_redex h c (Addr a) = cast_slot h c a (look h a)

  -- the field at an index, if the object has it
  unfoldable pub get_field : Heap → List Value → Option ℕ → Redex
  get_field h vs none = fails
  get_field h vs (some i) = gives h (get_or vs i Value.Unit)

  unfoldable pub get_slot : Heap → (f d : ℕ) → Slot → Redex
  get_slot h f d free = fails
  get_slot h f d (obj c vs) = get_field h vs (field_index (has_fields P c) d f)

  unfoldable pub get_redex : Heap → (f d : ℕ) → Value → Redex
  get_redex h f d Value.Unit = fails
  get_redex h f d Null = raises null_pointer
  get_redex h f d (Value.Bool b) = fails
  get_redex h f d (Intg n) = fails
  get_redex h f d (Addr a) = get_slot h f d (look h a)

  unfoldable pub put_field : Heap → (a c : ℕ) → List Value → Value → Option ℕ → Redex
  put_field h a c vs w none = fails
  put_field h a c vs w (some i) = gives (set h a (obj c (set vs i w))) w

  unfoldable pub put_slot : Heap → (f d a : ℕ) → Value → Slot → Redex
  put_slot h f d a w free = fails
  put_slot h f d a w (obj c vs) = put_field h a c vs w (field_index (has_fields P c) d f)

  unfoldable pub put_redex : Heap → (f d : ℕ) → Value → Value → Redex
  put_redex h f d Value.Unit w = fails
  put_redex h f d Null w = raises null_pointer
  put_redex h f d (Value.Bool b) w = fails
  put_redex h f d (Intg n) w = fails
  put_redex h f d (Addr a) w = put_slot h f d a w (look h a)

-- A block whose body is `x := v; e` for its own x remembers v, and e is what reduces. Nothing else in the steps knows of it.
pub data View : Type 0 where
  is_seq : Expr → Expr → View
  is_assign : (x : ℕ) → Expr → View
  is_val : Value → View
  other : View

unfoldable pub view : Expr → View
view (new p c) = other
view (cast p c e) = other
view (val p v) = is_val v
view (var p x) = other
view (add p a b) = other
view (eq p a b) = other
view (assign p x e) = is_assign x e
view (get p f d e) = other
view (put p f d a b) = other
view (call p m e es) = other
view (block p x t mv e) = other
view (seq p a b) = is_seq a b
view (ite p c a b) = other
view (while p c e) = other
view (throw p t e) = other
view (try p c x a b) = other

-- the value that `x := v` sets, for that x
unfoldable pub value_in : View → Option Value
value_in (is_seq a b) = none
value_in (is_assign y a) = none
value_in (is_val v) = some v
value_in other = none

unfoldable pub assigned : (x : ℕ) → View → Option Value
assigned x (is_seq a b) = none
assigned x (is_assign y a) = cond (eqb x y) (value_in (view a)) none
assigned x (is_val v) = none
assigned x other = none

module _ (p x : ℕ) (t : Ty) (e : Expr) where
  -- the block of e, whose first part sets that value and whose second part is b
  unfoldable pub remember : (b : Expr) → Option Value → Expr
  remember b none = block p x t none e
  remember b (some v) = block p x t (some v) b

  unfoldable pub settle : View → Expr
  settle (is_seq a b) = remember b (assigned x (view a))
  settle (is_assign y a) = block p x t none e
  settle (is_val v) = block p x t none e
  settle other = block p x t none e

-- a block of x around e, which remembers a value already or may begin to
unfoldable pub blocked : (p x : ℕ) → Ty → Option Value → Expr → Expr
blocked p x t none e = settle p x t e (view e)
blocked p x t (some v) e = block p x t (some v) e

-- A written tree made ready to run: each block that is written so remembers, values lose their places, and a Throw its type,
-- which is for typing alone.
unfoldable mutual
  pub load : Expr → Expr
  load (new p c) = new p c
  load (cast p c e) = cast p c (load e)
  load (val p v) = bare v
  load (var p x) = var p x
  load (add p a b) = add p (load a) (load b)
  load (eq p a b) = eq p (load a) (load b)
  load (assign p x e) = assign p x (load e)
  load (get p f d e) = get p f d (load e)
  load (put p f d a b) = put p f d (load a) (load b)
  load (call p m e es) = call p m (load e) (loads es)
  load (block p x t mv e) = blocked p x t mv (load e)
  load (seq p a b) = seq p (load a) (load b)
  load (ite p c a b) = ite p (load c) (load a) (load b)
  load (while p c e) = while p (load c) (load e)
  load (throw p t e) = throw p Void (load e)
  load (try p c x a b) = try p c x (load a) (load b)

  pub loads : Exprs → Exprs
  loads nil = nil
  loads (cons e es) = cons (load e) (loads es)

-- What a step of an expression finds: it is a value, it is Throw of an address, it becomes another expression, or no rule fits.
-- Depth and place are those of the active place.
pub data Out : Type 0 where
  value : (place : ℕ) → Value → Out
  thrown : (a : ℕ) → Out
  next : (depth place : ℕ) → Heap → Store → Expr → Out
  stuck : (depth place : ℕ) → Out

pub data Outs : Type 0 where
  values : List Value → Outs
  thrown : (a : ℕ) → Outs
  next : (depth place : ℕ) → Heap → Store → Exprs → Outs
  stuck : (depth place : ℕ) → Outs

module _ (p : ℕ) (h : Heap) (l : Store) where
  -- the node at p becomes e, and nothing else changes
  abbrev pub to : Expr → Out
  to e = next 0 p h l e

  unfoldable pub redex : Redex → Out
  redex (gives h' v) = next 0 p h' l (bare v)
  redex (raises a) = to (thrown_at p a)
  redex fails = stuck 0 p

  -- an operand, in front of what the node does with its value; an exception moves outward
  unfoldable pub under : Out → (Expr → Expr) → (ℕ → Value → Out) → Out
  under (value q v) around then = then q v
  under (thrown a) around then = to (thrown_at p a)
  under (next d q h' l' e) around then = next (suc d) q h' l' (around e)
  under (stuck d q) around then = stuck (suc d) q

  unfoldable pub unders : Outs → (Exprs → Expr) → (List Value → Out) → Out
  unders (values vs) around then = then vs
  unders (thrown a) around then = to (thrown_at p a)
  unders (next d q h' l' es) around then = next (suc d) q h' l' (around es)
  unders (stuck d q) around then = stuck (suc d) q

  -- two operands, the first in front of the second
  unfoldable pub both : (a b : Expr) → Out → Out → (Expr → Expr → Expr) → (Value → Value → Redex) → Out
  both a b oa ob around then =
      under oa (λ a'. around a' b) (λ q v. under ob (around (val q v)) (λ r w. redex (then v w)))

  unfoldable pub if_out : Value → (a b : Expr) → Out
  if_out Value.Unit a b = stuck 0 p
  if_out Null a b = stuck 0 p
  if_out (Intg n) a b = stuck 0 p
  if_out (Addr n) a b = stuck 0 p
  if_out (Value.Bool c) a b = to (cond c a b)

  unfoldable pub throw_out : Value → Out
  throw_out Value.Unit = stuck 0 p
  throw_out Null = redex (raises null_pointer)
  throw_out (Value.Bool b) = stuck 0 p
  throw_out (Intg n) = stuck 0 p
  throw_out (Addr a) = thrown a

-- what the body of a block finds; inside, x is as the block remembers it, and outside as it was
unfoldable pub block_out : (p x : ℕ) → Ty → Heap → Store → Out → Out
block_out p x t h l (value q v) = next 0 p h l (val q v)
block_out p x t h l (thrown a) = next 0 p h l (thrown_at p a)
block_out p x t h l (next d q h' l' e) = next (suc d) q h' (upd l' x (l x)) (blocked p x t (l' x) e)
block_out p x t h l (stuck d q) = stuck (suc d) q

-- an operand list, left to right
unfoldable pub cons_out : Out → Exprs → (ℕ → Value → Outs) → Outs
cons_out (value q v) es then = then q v
cons_out (thrown a) es then = thrown a
cons_out (next d q h' l' e') es then = next d q h' l' (cons e' es)
cons_out (stuck d q) es then = stuck d q

unfoldable pub tail_out : ℕ → Value → Outs → Outs
tail_out q v (values vs) = values (v ∷ vs)
tail_out q v (thrown a) = thrown a
tail_out q v (next d r h' l' es') = next d r h' l' (cons (val q v) es')
tail_out q v (stuck d r) = stuck d r

-- A call's parameters are remembering blocks around the method's body.
unfoldable pub blocks : (p x : ℕ) → List Ty → List Value → Expr → Expr
blocks p x [] vs e = e
blocks p x (t ∷ ts) [] e = e
blocks p x (t ∷ ts) (v ∷ vs) e = block p x t (some v) (blocks p (suc x) ts vs e)

module _ (P : Program) (p : ℕ) (h : Heap) (l : Store) where
  unfoldable pub enter : (a : ℕ) → List Value → Option Method → Out
  enter a vs none = stuck 0 p
  enter a vs (some r) =
      cond (eqb (length vs) (length r.params))
      (to p h l (blocks p 0 (Class r.owner ∷ r.params) (Addr a ∷ vs) (load r.body)))
      (stuck 0 p)

  unfoldable pub call_slot : (m a : ℕ) → List Value → Slot → Out
  call_slot m a vs free = stuck 0 p
  call_slot m a vs (obj c fs) = enter a vs (sees_method P c m)

  unfoldable pub call_out : (m : ℕ) → Value → List Value → Out
  call_out m Value.Unit vs = stuck 0 p
  call_out m Null vs = redex p h l (raises null_pointer)
  call_out m (Value.Bool b) vs = stuck 0 p
  call_out m (Intg n) vs = stuck 0 p
  call_out m (Addr a) vs = call_slot m a vs (look h a)

  -- only a Try asks what stands at a thrown address
  unfoldable pub catch_slot : (c x : ℕ) → Expr → (a : ℕ) → Slot → Out
  catch_slot c x b a free = stuck 0 p
  catch_slot c x b a (obj d vs) =
      cond (subclass P d c) (to p h l (block p x (Class c) (some (Addr a)) b)) (to p h l (thrown_at p a))

  unfoldable pub try_out : (c x : ℕ) → Expr → Out → Out
  try_out c x b (value q v) = to p h l (val q v)
  try_out c x b (thrown a) = catch_slot c x b a (look h a)
  try_out c x b (next d q h' l' e) = next (suc d) q h' l' (try p c x e b)
  try_out c x b (stuck d q) = stuck (suc d) q

module _ (P : Program) where
  unfoldable mutual
    pub step : Expr → Heap → Store → Out
    step (new p c) h l = redex p h l (new_redex P h c (lowest_free h))
    step (cast p c e) h l = under p h l (step e h l) (cast p c) (λ q v. redex p h l (cast_redex P h c v))
    step (val p v) h l = value p v
    step (var p x) h l = redex p h l (read_redex h (l x))
    step (add p a b) h l = both p h l a b (step a h l) (step b h l) (add p) (add_redex h)
    step (eq p a b) h l = both p h l a b (step a h l) (step b h l) (eq p) (eq_redex h)
    step (assign p x e) h l =
        under p h l (step e h l) (assign p x) (λ q v. next 0 p h (upd l x (some v)) (bare v))
    step (get p f d e) h l = under p h l (step e h l) (get p f d) (λ q v. redex p h l (get_redex P h f d v))
    step (put p f d a b) h l = both p h l a b (step a h l) (step b h l) (put p f d) (put_redex P h f d)
    step (call p m e es) h l =
        under p h l (step e h l) (λ e'. call p m e' es)
        (λ q v. unders p h l (steps es h l) (call p m (val q v)) (λ vs. call_out P p h l m v vs))
    step (block p x t mv e) h l = block_out p x t h l (step e h (upd l x mv))
    step (seq p a b) h l = under p h l (step a h l) (λ a'. seq p a' b) (λ q v. to p h l b)
    step (ite p c a b) h l = under p h l (step c h l) (λ c'. ite p c' a b) (λ q v. if_out p h l v a b)
    step (while p c e) h l = to p h l (ite p c (seq p e (while p c e)) (bare Value.Unit))
    step (throw p t e) h l = under p h l (step e h l) (throw p t) (λ q v. throw_out p h l v)
    step (try p c x a b) h l = try_out P p h l c x b (step a h l)

    pub steps : Exprs → Heap → Store → Outs
    steps nil h l = values []
    steps (cons e es) h l = cons_out (step e h l) es (λ q v. tail_out q v (steps es h l))
