-- Laws: the function `step` agrees with the relation `Reduces`, both ways, and its place and depth are the active place's.
use Rattle.std.specs.Prelude.{ℕ, zero, suc, Bool, cond, ◌&&◌, T, length}
use Rattle.std.proofs.Common.{arith, ap, eqb→eq}
use Rattle.std.proofs.Math.Path.{◌≡◌, refl}
use Rattle.std.proofs.Math.Bool.{true, false}
use Rattle.std.proofs.Math.Option.{Option, none, some}
use mathlib.Core.List.{List, ◌∷◌}
use Rattle.std.proofs.Math.Dec.{eqb, eqb_refl}
use Rattle.words.specs.declared.Value.{Value}
use Rattle.words.specs.declared.Value.TheVariants.{Null, Intg, Addr}
use Rattle.words.specs.declared.Ty.{Ty}
use Rattle.words.specs.declared.Ty.TheVariants.{Class}
use Rattle.words.specs.Integer.{plus_of}
use Rattle.rules.specs.Maps.{upd}
use Rattle.rules.specs.Trees.{Expr, Exprs, new, cast, val, var, add, eq, assign, get, put, call, block, seq, ite, while, throw, try, nil, cons, place}
use Rattle.rules.specs.Program.{Method, Program}
use Rattle.rules.specs.Classes.{subclass, sees_method, has_fields, field_index}
use Rattle.rules.specs.Heap.{Slot, free, obj, Heap, look, lowest_free}
use Rattle.rules.specs.Step.{Store, class_cast, thrown_at, tag, payload, same_value, Redex, gives, raises, fails, read_redex, add_redex, eq_redex, new_redex, cast_slot, cast_redex, get_field, get_slot, get_redex, put_field, put_slot, put_redex, blocked, load, Out, Outs, value, values, to, redex, under, unders, both, if_out, throw_out, block_out, cons_out, tail_out, blocks, enter, call_slot, call_out, catch_slot, try_out, step, steps, bare}
use Rattle.reduction.specs.AppendixB.{Final, AValue, AnException, Values, NoValue, OneValue, Throws, Now, Later, Reduces, New, NewNoMemory, CastStep, CastNull, Cast, CastFails, CastThrow, AddFirst, AddSecond, Add, AddFirstThrow, AddSecondThrow, EqFirst, EqSecond, EqTrue, EqFalse, EqFirstThrow, EqSecondThrow, Var, AssignStep, Assign, AssignThrow, GetStep, Get, GetNull, GetThrow, SetFirst, SetSecond, Set, SetNull, SetFirstThrow, SetSecondThrow, CallStep, CallArguments, Call, CallNull, CallThrow, CallArgumentThrow, BlockStep, BlockBegins, BlockRemembers, Block, BlockRemembering, BlockThrow, BlockRememberingThrow, SeqStep, Seq, SeqThrow, IfStep, IfTrue, IfFalse, IfThrow, While, ThrowStep, ThrowNull, ThrowThrow, TryStep, Try, TryCatch, TryFails, ReducesAll, ListFirst, ListRest}
use Rattle.reduction.specs.ActivePlace.{FirstOf, First, After, Turn, OfCast, OfAdd, OfAddSecond, OfEq, OfEqSecond, OfAssign, OfGet, OfSet, OfSetSecond, OfCall, OfCallArguments, OfBlock, OfSeq, OfIf, OfThrow, OfTry, Active, Here, Below}
use Rattle.reduction.specs.Agreement.{Exception, Thrown}

pub test_true : (b : Bool) → T b → b ≡ true
test_true true t = refl
test_true false t = elim t [ ]

pub eqb_true : (m n : ℕ) → m ≡ n → eqb m n ≡ true
eqb_true m n e = rw e (test_true (eqb n n) (eqb_refl n))

eqb_sound : (m n : ℕ) → eqb m n ≡ true → m ≡ n
eqb_sound m n e = eqb→eq m n (rw e tt)

-- tag and payload tell a value
from_parts : (tag payload : ℕ) → Value
from_parts zero n = Value.Unit
from_parts (suc zero) n = Null
from_parts (suc (suc zero)) zero = Value.Bool false
from_parts (suc (suc zero)) (suc n) = Value.Bool true
from_parts (suc (suc (suc zero))) n = Intg n
from_parts (suc (suc (suc (suc k)))) n = Addr n

parts : (v : Value) → from_parts (tag v) (payload v) ≡ v
unfolding tag payload from_parts
parts Value.Unit = refl
parts Null = refl
parts (Value.Bool true) = refl
parts (Value.Bool false) = refl
parts (Intg n) = refl
parts (Addr a) = refl

and_both : (a b : Bool) → (a && b) ≡ true → (a ≡ true) × (b ≡ true)
and_both true b e = (refl, e)
and_both false b e = let z : ◌≡◌ {A = ℕ} 0 1 = cc in absurd (omega arith)

same_sound : (v w : Value) → same_value v w ≡ true → v ≡ w
unfolding same_value
same_sound v w e =
    let q = and_both (eqb (tag v) (tag w)) (eqb (payload v) (payload w)) e in
    let t : tag v ≡ tag w = eqb_sound (tag v) (tag w) q.0 in
    let u : payload v ≡ payload w = eqb_sound (payload v) (payload w) q.1 in
    cc (parts v, parts w)

same_true : (v w : Value) → v ≡ w → same_value v w ≡ true
unfolding same_value
same_true v w e = rw e (rw (eqb_true (tag w) (tag w) refl, eqb_true (payload w) (payload w) refl))

same_false : (v w : Value) → ¬ (v ≡ w) → same_value v w ≡ false
same_false v w n = go (same_value v w) refl
  where
    go : (b : Bool) → same_value v w ≡ b → b ≡ false
    go true e = absurd (n (same_sound v w e))
    go false e = refl

blocked_set : (p x : ℕ) (t : Ty) (v : Value) (e : Expr) → blocked p x t (some v) e ≡ block p x t (some v) e
unfolding blocked
blocked_set p x t v e = refl

exception_final : {e : Expr} {a : ℕ} → Exception e a → Final e
exception_final Thrown = AnException

-- The active place is here: the operands in turn are final. With two operands, the second has its turn after a value.
data Then (B : Type 0) : Expr → Type 0 where
  Stopped : {p q a : ℕ} {t : Ty} → Then B (throw p t (val q (Addr a)))
  Went : {q : ℕ} {v : Value} → B → Then B (val q v)

first_final : {B : Type 0} {a : Expr} → Then B a → Final a
first_final Stopped = AnException
first_final (Went b) = AValue

second : {B : Type 0} {q : ℕ} {v : Value} → Then B (val q v) → B
second (Went b) = b

abbrev Ready : Expr → Type 0
Ready (new p c) = Unit {0}
Ready (cast p c e) = Final e
Ready (val p v) = Unit {0}
Ready (var p x) = Unit {0}
Ready (add p a b) = Then (Final b) a
Ready (eq p a b) = Then (Final b) a
Ready (assign p x e) = Final e
Ready (get p f d e) = Final e
Ready (put p f d a b) = Then (Final b) a
Ready (call p m e es) = Then ((s : Expr) → FirstOf es s → Final s) e
Ready (block p x t mv e) = Final e
Ready (seq p a b) = Final a
Ready (ite p c a b) = Final c
Ready (while p c e) = Unit {0}
Ready (throw p t e) = Final e
Ready (try p c x a b) = Final a

ready : {e s : Expr} → Turn e s → Ready e → Final s
ready OfCast r = r
ready OfAdd r = first_final r
ready OfAddSecond r = second r
ready OfEq r = first_final r
ready OfEqSecond r = second r
ready OfAssign r = r
ready OfGet r = r
ready OfSet r = first_final r
ready OfSetSecond r = second r
ready OfCall r = first_final r
ready {s = s} (OfCallArguments f) r = second r s f
ready OfBlock r = r
ready OfSeq r = r
ready OfIf r = r
ready OfThrow r = r
ready OfTry r = r

here : (e : Expr) → ¬ Final e → Ready e → Active e 0 (place e)
here e n r = Here n (λ s t. ready t r) refl

values_final : {es : Exprs} {vs : List Value} {s : Expr} → Values es vs → FirstOf es s → Final s
values_final (OneValue r) First = AValue
values_final (OneValue r) (After f) = values_final r f
values_final {s = s} NoValue x4 = elim x4 [ ]

throws_final : {es : Exprs} {a : ℕ} {s : Expr} → Throws es a → FirstOf es s → Final s
throws_final Now First = AnException
throws_final (Later r) First = AValue
throws_final (Later r) (After f) = throws_final r f

-- An expression that has an active place is not final, and has no other.
exception_turn : {p q a : ℕ} {t : Ty} {s : Expr} → Turn (throw p t (val q (Addr a))) s → Final s
exception_turn OfThrow = AValue

pub unfinished : {e : Expr} {d q : ℕ} → Active e d q → ¬ Final e
unfinished (Here n f p) g = n g
unfinished (Below t a) AValue = elim t [ ]
unfinished (Below t a) AnException = unfinished a (exception_turn t)

same_first : {es : Exprs} {s s' : Expr} → FirstOf es s → FirstOf es s' → ¬ Final s → ¬ Final s' → s ≡ s'
same_first First First n n' = refl
same_first First (After g) n n' = absurd (n AValue)
same_first (After f) First n n' = absurd (n' AValue)
same_first (After f) (After g) n n' = same_first f g n n'

same_turn : {e s s' : Expr} → Turn e s → Turn e s' → ¬ Final s → ¬ Final s' → s ≡ s'
same_turn OfCast OfCast n n' = refl
same_turn OfAdd OfAdd n n' = refl
same_turn OfAdd OfAddSecond n n' = absurd (n AValue)
same_turn OfAddSecond OfAdd n n' = absurd (n' AValue)
same_turn OfAddSecond OfAddSecond n n' = refl
same_turn OfEq OfEq n n' = refl
same_turn OfEq OfEqSecond n n' = absurd (n AValue)
same_turn OfEqSecond OfEq n n' = absurd (n' AValue)
same_turn OfEqSecond OfEqSecond n n' = refl
same_turn OfAssign OfAssign n n' = refl
same_turn OfGet OfGet n n' = refl
same_turn OfSet OfSet n n' = refl
same_turn OfSet OfSetSecond n n' = absurd (n AValue)
same_turn OfSetSecond OfSet n n' = absurd (n' AValue)
same_turn OfSetSecond OfSetSecond n n' = refl
same_turn OfCall OfCall n n' = refl
same_turn OfCall (OfCallArguments g) n n' = absurd (n AValue)
same_turn (OfCallArguments f) OfCall n n' = absurd (n' AValue)
same_turn (OfCallArguments f) (OfCallArguments g) n n' = same_first f g n n'
same_turn OfBlock OfBlock n n' = refl
same_turn OfSeq OfSeq n n' = refl
same_turn OfIf OfIf n n' = refl
same_turn OfThrow OfThrow n n' = refl
same_turn OfTry OfTry n n' = refl

pub one_place : {e : Expr} {d d' q q' : ℕ} → Active e d q → Active e d' q' → (d ≡ d') × (q ≡ q')
one_place (Here n f p) (Here n' f' p') = (refl, cc)
one_place (Here n f p) (Below {s = s} t a) = absurd (unfinished a (f s t))
one_place (Below {s = s} t a) (Here n f p) = absurd (unfinished a (f s t))
one_place (Below {s = s} t a) (Below {s = s'} {d = d'} {p = q'} t' a') =
    let e : s ≡ s' = same_turn t t' (unfinished a) (unfinished a') in
    let b : Active s d' q' = rw (← e) at a' in
    let i = one_place a b in
    (ap suc i.0, i.1)

module _ (P : Program) where
  -- From the relation to the function.
  unfoldable pub Does : Out → Expr → Heap → Store → Type 0
  Does o e h l = (d : ℕ) × (q : ℕ) × (o ≡ Out.next d q h l e)

  unfoldable pub DoesAll : Outs → Exprs → Heap → Store → Type 0
  DoesAll o es h l = (d : ℕ) × (q : ℕ) × (o ≡ Outs.next d q h l es)

  steps_values : {es : Exprs} {vs : List Value} (h : Heap) (l : Store) → Values es vs → steps P es h l ≡ values vs
  unfolding step cons_out tail_out
  steps_values h l NoValue = refl
  steps_values h l (OneValue r) = rw (steps_values h l r)

  steps_throws : {es : Exprs} {a : ℕ} (h : Heap) (l : Store) → Throws es a → steps P es h l ≡ Outs.thrown a
  unfolding step cons_out tail_out under throw_out
  steps_throws h l Now = refl
  steps_throws h l (Later r) = rw (steps_throws h l r)

  mutual
    unfolding Does DoesAll step redex under unders both read_redex add_redex eq_redex new_redex cast_slot cast_redex get_field get_slot get_redex put_field put_slot put_redex plus_of if_out throw_out block_out cons_out tail_out enter call_slot call_out catch_slot try_out

    pub does : {e e' : Expr} {h h' : Heap} {l l' : Store} → Reduces P e h l e' h' l' → Does (step P e h l) e' h' l'
    does (New {p = p} f w) = (0, p, rw (f, w))
    does (NewNoMemory {p = p} f) = (0, p, rw f)
    does (CastStep r) = let i = does r in (suc i.0, i.1, rw i.2)
    does (CastNull {p = p}) = (0, p, refl)
    does (Cast {p = p} o s) = (0, p, rw (o, s))
    does (CastFails {p = p} o s) = (0, p, rw (o, s))
    does (CastThrow {p = p}) = (0, p, refl)
    does (AddFirst r) = let i = does r in (suc i.0, i.1, rw i.2)
    does (AddSecond r) = let i = does r in (suc i.0, i.1, rw i.2)
    does (Add {p = p} s) = (0, p, rw s)
    does (AddFirstThrow {p = p}) = (0, p, refl)
    does (AddSecondThrow {p = p}) = (0, p, refl)
    does (EqFirst r) = let i = does r in (suc i.0, i.1, rw i.2)
    does (EqSecond r) = let i = does r in (suc i.0, i.1, rw i.2)
    does (EqTrue {p = p} {v = v} {w = w} s) = (0, p, rw (same_true v w s))
    does (EqFalse {p = p} {v = v} {w = w} s) = (0, p, rw (same_false v w s))
    does (EqFirstThrow {p = p}) = (0, p, refl)
    does (EqSecondThrow {p = p}) = (0, p, refl)
    does (Var {p = p} s) = (0, p, rw s)
    does (AssignStep r) = let i = does r in (suc i.0, i.1, rw i.2)
    does (Assign {p = p} s) = (0, p, rw s)
    does (AssignThrow {p = p}) = (0, p, refl)
    does (GetStep r) = let i = does r in (suc i.0, i.1, rw i.2)
    does (Get {p = p} o f v) = (0, p, rw (o, f, v))
    does (GetNull {p = p}) = (0, p, refl)
    does (GetThrow {p = p}) = (0, p, refl)
    does (SetFirst r) = let i = does r in (suc i.0, i.1, rw i.2)
    does (SetSecond r) = let i = does r in (suc i.0, i.1, rw i.2)
    does (Set {p = p} o f w) = (0, p, rw (o, f, w))
    does (SetNull {p = p}) = (0, p, refl)
    does (SetFirstThrow {p = p}) = (0, p, refl)
    does (SetSecondThrow {p = p}) = (0, p, refl)
    does (CallStep r) = let i = does r in (suc i.0, i.1, rw i.2)
    does (CallArguments r) = let i = does_all r in (suc i.0, i.1, rw i.2)
    does (Call {p = p} {vs = vs} {r = r} {h = h} {l = l} s o m n b) =
        (0, p, rw (steps_values h l s, o, m, eqb_true (length vs) (length r.params) n, b))
    does (CallNull {p = p} {h = h} {l = l} s) = (0, p, rw (steps_values h l s))
    does (CallThrow {p = p}) = (0, p, refl)
    does (CallArgumentThrow {p = p} {h = h} {l = l} s) = (0, p, rw (steps_throws h l s))
    does (BlockStep i r n b o) = let k = does r in (suc k.0, k.1, rw (i, k.2, n, b, o))
    does (BlockBegins {p = p} {x = x} {t = t} {v = v} {e' = e'} i r n o) =
        let k = does r in (suc k.0, k.1, rw (i, k.2, n, o, blocked_set p x t v e'))
    does (BlockRemembers {p = p} {x = x} {t = t} {v' = v'} {e' = e'} i r n o) =
        let k = does r in (suc k.0, k.1, rw (i, k.2, n, o, blocked_set p x t v' e'))
    does (Block {p = p}) = (0, p, refl)
    does (BlockRemembering {p = p}) = (0, p, refl)
    does (BlockThrow {p = p}) = (0, p, refl)
    does (BlockRememberingThrow {p = p}) = (0, p, refl)
    does (SeqStep r) = let i = does r in (suc i.0, i.1, rw i.2)
    does (Seq {p = p}) = (0, p, refl)
    does (SeqThrow {p = p}) = (0, p, refl)
    does (IfStep r) = let i = does r in (suc i.0, i.1, rw i.2)
    does (IfTrue {p = p}) = (0, p, refl)
    does (IfFalse {p = p}) = (0, p, refl)
    does (IfThrow {p = p}) = (0, p, refl)
    does (While {p = p}) = (0, p, refl)
    does (ThrowStep r) = let i = does r in (suc i.0, i.1, rw i.2)
    does (ThrowNull {p = p}) = (0, p, refl)
    does (ThrowThrow {p = p}) = (0, p, refl)
    does (TryStep r) = let i = does r in (suc i.0, i.1, rw i.2)
    does (Try {p = p}) = (0, p, refl)
    does (TryCatch {p = p} o s) = (0, p, rw (o, s))
    does (TryFails {p = p} o s) = (0, p, rw (o, s))

    does_all : {es es' : Exprs} {h h' : Heap} {l l' : Store} → ReducesAll P es h l es' h' l' → DoesAll (steps P es h l) es' h' l'
    does_all (ListFirst r) = let i = does r in (i.0, i.1, rw i.2)
    does_all (ListRest r) = let i = does_all r in (i.0, i.1, rw i.2)

  -- From the function to the relation. A variable that is set stays set.
  abbrev Held : Option Value → Type 0
  Held none = ⊥
  Held (some v) = Unit {0}

  pub record Next (e : Expr) (h : Heap) (l : Store) (d q : ℕ) (h' : Heap) (l' : Store) (e' : Expr) : Type 0 where
    pub rule : Reduces P e h l e' h' l'
    pub active : Active e d q
    pub keeps : (x : ℕ) → Held (l x) → Held (l' x)

  -- a step that leaves the store
  at : {e e' : Expr} {h h' : Heap} {l : Store} {d q : ℕ} → Reduces P e h l e' h' l → Active e d q → Next e h l d q h' l e'
  at r a = record { rule = r; active = a; keeps = λ x s. s }

  abbrev pub Tells : Out → Expr → Heap → Store → Type 0
  Tells (value r v) e h l = e ≡ val r v
  Tells (Out.thrown a) e h l = Exception e a
  Tells (Out.next d q h' l' e') e h l = Next e h l d q h' l' e'
  Tells (Out.stuck d q) e h l = Active e d q

  -- the active place is in the operand whose turn it is
  abbrev pub InTurn : Exprs → (depth place : ℕ) → Type 0
  InTurn es d q = (s : Expr) × FirstOf es s × Active s d q

  pub record NextAll (es : Exprs) (h : Heap) (l : Store) (d q : ℕ) (h' : Heap) (l' : Store) (es' : Exprs) : Type 0 where
    pub rule : ReducesAll P es h l es' h' l'
    pub active : InTurn es d q
    pub keeps : (x : ℕ) → Held (l x) → Held (l' x)

  abbrev pub TellsAll : Outs → Exprs → Heap → Store → Type 0
  TellsAll (values vs) es h l = Values es vs
  TellsAll (Outs.thrown a) es h l = Throws es a
  TellsAll (Outs.next d q h' l' es') es h l = NextAll es h l d q h' l' es'
  TellsAll (Outs.stuck d q) es h l = InTurn es d q

  -- what a redex says
  abbrev Sound : (p : ℕ) → Redex → Expr → Heap → Store → Type 0
  Sound p (gives h' v) e h l = Reduces P e h l (bare v) h' l
  Sound p (raises a) e h l = Reduces P e h l (thrown_at p a) h l
  Sound p fails e h l = Unit {0}

  module _ (h : Heap) (l : Store) where
    redex_tells : (p : ℕ) (R : Redex) {e : Expr} → Active e 0 p → Sound p R e h l → Tells (redex p h l R) e h l
    unfolding redex
    redex_tells p (gives h' v) a s = at s a
    redex_tells p (raises x) a s = at s a
    redex_tells p fails a s = a

    -- a node with an operand in a place of it
    record Around (p : ℕ) (k : Expr → Expr) : Type 0 where
      turn : (a : Expr) → Turn (k a) a
      steps_in : {a a' : Expr} {h' : Heap} {l' : Store} → Reduces P a h l a' h' l' → Reduces P (k a) h l (k a') h' l'
      throws_out : (q : ℕ) (t : Ty) (r x : ℕ) → Reduces P (k (throw q t (val r (Addr x)))) h l (thrown_at p x) h l
      throws_here : (q : ℕ) (t : Ty) (r x : ℕ) → Active (k (throw q t (val r (Addr x)))) 0 p

    under_tells : (p : ℕ) (o : Out) (k : Expr → Expr) (f : ℕ → Value → Out) (a : Expr) → Around p k → Tells o a h l
        → ((r : ℕ) (v : Value) → Tells (f r v) (k (val r v)) h l)
        → Tells (under p h l o k f) (k a) h l
    unfolding under
    under_tells p (value r v) k f a c s d = rw s (d r v)
    under_tells p (Out.thrown x) k f a c (Thrown {p = q} {q = r} {t = t}) d = at (c.throws_out q t r x) (c.throws_here q t r x)
    under_tells p (Out.next n q h' l' e) k f a c s d =
        record { rule = c.steps_in s.rule; active = Below (c.turn a) s.active; keeps = s.keeps }
    under_tells p (Out.stuck n q) k f a c s d = Below (c.turn a) s

    both_tells : (p : ℕ) (a b : Expr) (oa ob : Out) (k : Expr → Expr → Expr) (f : Value → Value → Redex)
        → Around p (λ a'. k a' b) → ((q : ℕ) (v : Value) → Around p (k (val q v)))
        → Tells oa a h l → Tells ob b h l
        → ((q r : ℕ) (v w : Value) → Active (k (val q v) (val r w)) 0 p)
        → ((q r : ℕ) (v w : Value) → Sound p (f v w) (k (val q v) (val r w)) h l)
        → Tells (both p h l a b oa ob k f) (k a b) h l
    unfolding both
    both_tells p a b oa ob k f c c' s s' n r =
        under_tells p oa (λ a'. k a' b) _ a c s
        (λ q v. under_tells p ob (k (val q v)) _ b (c' q v) s' (λ q' w. redex_tells p (f v w) (n q q' v w) (r q q' v w)))

    around_cast : (p c : ℕ) → Around p (cast p c)
    unfolding place
    around_cast p c =
        record {
          turn = λ a. OfCast;
          steps_in = λ r. CastStep r;
          throws_out = λ q t r y. CastThrow;
          throws_here = λ q t r y. here (cast p c (throw q t (val r (Addr y)))) (λ g. elim g [ ]) AnException;
        }

    around_add : (p : ℕ) (b : Expr) → Around p (λ a. add p a b)
    unfolding place
    around_add p b =
        record {
          turn = λ a. OfAdd;
          steps_in = λ r. AddFirst r;
          throws_out = λ q t r y. AddFirstThrow;
          throws_here = λ q t r y. here (add p (throw q t (val r (Addr y))) b) (λ g. elim g [ ]) Stopped;
        }

    around_add_second : (p s : ℕ) (v : Value) → Around p (add p (val s v))
    unfolding place
    around_add_second p s v =
        record {
          turn = λ a. OfAddSecond;
          steps_in = λ r. AddSecond r;
          throws_out = λ q t r y. AddSecondThrow;
          throws_here = λ q t r y. here (add p (val s v) (throw q t (val r (Addr y)))) (λ g. elim g [ ]) (Went AnException);
        }

    around_eq : (p : ℕ) (b : Expr) → Around p (λ a. eq p a b)
    unfolding place
    around_eq p b =
        record {
          turn = λ a. OfEq;
          steps_in = λ r. EqFirst r;
          throws_out = λ q t r y. EqFirstThrow;
          throws_here = λ q t r y. here (eq p (throw q t (val r (Addr y))) b) (λ g. elim g [ ]) Stopped;
        }

    around_eq_second : (p s : ℕ) (v : Value) → Around p (eq p (val s v))
    unfolding place
    around_eq_second p s v =
        record {
          turn = λ a. OfEqSecond;
          steps_in = λ r. EqSecond r;
          throws_out = λ q t r y. EqSecondThrow;
          throws_here = λ q t r y. here (eq p (val s v) (throw q t (val r (Addr y)))) (λ g. elim g [ ]) (Went AnException);
        }

    around_assign : (p x : ℕ) → Around p (assign p x)
    unfolding place
    around_assign p x =
        record {
          turn = λ a. OfAssign;
          steps_in = λ r. AssignStep r;
          throws_out = λ q t r y. AssignThrow;
          throws_here = λ q t r y. here (assign p x (throw q t (val r (Addr y)))) (λ g. elim g [ ]) AnException;
        }

    around_get : (p f d : ℕ) → Around p (get p f d)
    unfolding place
    around_get p f d =
        record {
          turn = λ a. OfGet;
          steps_in = λ r. GetStep r;
          throws_out = λ q t r y. GetThrow;
          throws_here = λ q t r y. here (get p f d (throw q t (val r (Addr y)))) (λ g. elim g [ ]) AnException;
        }

    around_set : (p f d : ℕ) (b : Expr) → Around p (λ a. put p f d a b)
    unfolding place
    around_set p f d b =
        record {
          turn = λ a. OfSet;
          steps_in = λ r. SetFirst r;
          throws_out = λ q t r y. SetFirstThrow;
          throws_here = λ q t r y. here (put p f d (throw q t (val r (Addr y))) b) (λ g. elim g [ ]) Stopped;
        }

    around_set_second : (p f d s : ℕ) (v : Value) → Around p (put p f d (val s v))
    unfolding place
    around_set_second p f d s v =
        record {
          turn = λ a. OfSetSecond;
          steps_in = λ r. SetSecond r;
          throws_out = λ q t r y. SetSecondThrow;
          throws_here = λ q t r y. here (put p f d (val s v) (throw q t (val r (Addr y)))) (λ g. elim g [ ]) (Went AnException);
        }

    around_call : (p m : ℕ) (es : Exprs) → Around p (λ e. call p m e es)
    unfolding place
    around_call p m es =
        record {
          turn = λ a. OfCall;
          steps_in = λ r. CallStep r;
          throws_out = λ q t r y. CallThrow;
          throws_here = λ q t r y. here (call p m (throw q t (val r (Addr y))) es) (λ g. elim g [ ]) Stopped;
        }

    around_seq : (p : ℕ) (b : Expr) → Around p (λ a. seq p a b)
    unfolding place
    around_seq p b =
        record {
          turn = λ a. OfSeq;
          steps_in = λ r. SeqStep r;
          throws_out = λ q t r y. SeqThrow;
          throws_here = λ q t r y. here (seq p (throw q t (val r (Addr y))) b) (λ g. elim g [ ]) AnException;
        }

    around_if : (p : ℕ) (a b : Expr) → Around p (λ c. ite p c a b)
    unfolding place
    around_if p a b =
        record {
          turn = λ c. OfIf;
          steps_in = λ r. IfStep r;
          throws_out = λ q t r y. IfThrow;
          throws_here = λ q t r y. here (ite p (throw q t (val r (Addr y))) a b) (λ g. elim g [ ]) AnException;
        }

    around_throw : (p : ℕ) (u : Ty) → Around p (throw p u)
    unfolding place
    around_throw p u =
        record {
          turn = λ a. OfThrow;
          steps_in = λ r. ThrowStep r;
          throws_out = λ q t r y. ThrowThrow;
          throws_here = λ q t r y. here (throw p u (throw q t (val r (Addr y)))) (λ g. elim g [ ]) AnException;
        }

    read_sound : (p x : ℕ) (o : Option Value) → l x ≡ o → Sound p (read_redex h o) (var p x) h l
    unfolding read_redex
    read_sound p x none e = tt
    read_sound p x (some v) e = Var e

    new_sound : (p c : ℕ) (o : Option ℕ) → lowest_free h ≡ o → Sound p (new_redex P h c o) (new p c) h l
    unfolding new_redex
    new_sound p c none e = NewNoMemory e
    new_sound p c (some a) e = New e refl

    add_sound : (p q r : ℕ) (v w : Value) → Sound p (add_redex h v w) (add p (val q v) (val r w)) h l
    unfolding add_redex plus_of
    add_sound p q r Value.Unit w = tt
    add_sound p q r Null w = tt
    add_sound p q r (Value.Bool b) w = tt
    add_sound p q r (Addr a) w = tt
    add_sound p q r (Intg m) Value.Unit = tt
    add_sound p q r (Intg m) Null = tt
    add_sound p q r (Intg m) (Value.Bool b) = tt
    add_sound p q r (Intg m) (Addr a) = tt
    add_sound p q r (Intg m) (Intg n) = Add refl

    eq_sound : (p q r : ℕ) (v w : Value) → Sound p (eq_redex h v w) (eq p (val q v) (val r w)) h l
    unfolding eq_redex
    eq_sound p q r v w = go (same_value v w) refl
      where
        go : (b : Bool) → same_value v w ≡ b → Reduces P (eq p (val q v) (val r w)) h l (bare (Value.Bool b)) h l
        go true e = EqTrue (same_sound v w e)
        go false e = EqFalse (λ s. let t = same_true v w s in let z : ◌≡◌ {A = ℕ} 0 1 = cc in absurd (omega arith))

    cast_sound : (p c q : ℕ) (v : Value) → Sound p (cast_redex P h c v) (cast p c (val q v)) h l
    unfolding cast_redex cast_slot
    cast_sound p c q Value.Unit = tt
    cast_sound p c q Null = CastNull
    cast_sound p c q (Value.Bool b) = tt
    cast_sound p c q (Intg n) = tt
    cast_sound p c q (Addr a) = slot (look h a) refl
      where
        test : (d : ℕ) (vs : List Value) (b : Bool) → look h a ≡ obj d vs → subclass P d c ≡ b
            → Sound p (cond b (gives h (Addr a)) (raises class_cast)) (cast p c (val q (Addr a))) h l
        test d vs true o s = Cast o s
        test d vs false o s = CastFails o s

        slot : (s : Slot) → look h a ≡ s → Sound p (cast_slot P h c a s) (cast p c (val q (Addr a))) h l
        slot free o = tt
        slot (obj d vs) o = test d vs (subclass P d c) o refl

    get_sound : (p f d q : ℕ) (v : Value) → Sound p (get_redex P h f d v) (get p f d (val q v)) h l
    unfolding get_redex get_slot get_field
    get_sound p f d q Value.Unit = tt
    get_sound p f d q Null = GetNull
    get_sound p f d q (Value.Bool b) = tt
    get_sound p f d q (Intg n) = tt
    get_sound p f d q (Addr a) = slot (look h a) refl
      where
        field : (c : ℕ) (vs : List Value) (o : Option ℕ) → look h a ≡ obj c vs → field_index (has_fields P c) d f ≡ o
            → Sound p (get_field P h vs o) (get p f d (val q (Addr a))) h l
        field c vs none o i = tt
        field c vs (some k) o i = Get o i refl

        slot : (s : Slot) → look h a ≡ s → Sound p (get_slot P h f d s) (get p f d (val q (Addr a))) h l
        slot free o = tt
        slot (obj c vs) o = field c vs (field_index (has_fields P c) d f) o refl

    set_sound : (p f d q r : ℕ) (v w : Value) → Sound p (put_redex P h f d v w) (put p f d (val q v) (val r w)) h l
    unfolding put_redex put_slot put_field
    set_sound p f d q r Value.Unit w = tt
    set_sound p f d q r Null w = SetNull
    set_sound p f d q r (Value.Bool b) w = tt
    set_sound p f d q r (Intg n) w = tt
    set_sound p f d q r (Addr a) w = slot (look h a) refl
      where
        field : (c : ℕ) (vs : List Value) (o : Option ℕ) → look h a ≡ obj c vs → field_index (has_fields P c) d f ≡ o
            → Sound p (put_field P h a c vs w o) (put p f d (val q (Addr a)) (val r w)) h l
        field c vs none o i = tt
        field c vs (some k) o i = Set o i refl

        slot : (s : Slot) → look h a ≡ s → Sound p (put_slot P h f d a w s) (put p f d (val q (Addr a)) (val r w)) h l
        slot free o = tt
        slot (obj c vs) o = field c vs (field_index (has_fields P c) d f) o refl

    if_tells : (p q : ℕ) (v : Value) (a b : Expr) → Active (ite p (val q v) a b) 0 p → Tells (if_out p h l v a b) (ite p (val q v) a b) h l
    unfolding if_out
    if_tells p q Value.Unit a b n = n
    if_tells p q Null a b n = n
    if_tells p q (Intg i) a b n = n
    if_tells p q (Addr i) a b n = n
    if_tells p q (Value.Bool true) a b n = at IfTrue n
    if_tells p q (Value.Bool false) a b n = at IfFalse n

    throw_tells : (p q : ℕ) (t : Ty) (v : Value) → Tells (throw_out p h l v) (throw p t (val q v)) h l
    unfolding throw_out redex place
    throw_tells p q t Value.Unit = here (throw p t (val q Value.Unit)) (λ g. elim g [ ]) AValue
    throw_tells p q t Null = at ThrowNull (here (throw p t (val q Null)) (λ g. elim g [ ]) AValue)
    throw_tells p q t (Value.Bool b) = here (throw p t (val q (Value.Bool b))) (λ g. elim g [ ]) AValue
    throw_tells p q t (Intg n) = here (throw p t (val q (Intg n))) (λ g. elim g [ ]) AValue
    throw_tells p q t (Addr a) = Thrown

    call_tells : (p m q : ℕ) (v : Value) (es : Exprs) (vs : List Value) → Values es vs → Active (call p m (val q v) es) 0 p
        → Tells (call_out P p h l m v vs) (call p m (val q v) es) h l
    unfolding call_out call_slot enter redex
    call_tells p m q Value.Unit es vs r n = n
    call_tells p m q Null es vs r n = at (CallNull r) n
    call_tells p m q (Value.Bool b) es vs r n = n
    call_tells p m q (Intg i) es vs r n = n
    call_tells p m q (Addr a) es vs r n = slot (look h a) refl
      where
        count : (c : ℕ) (fs : List Value) (k : Method) (b : Bool) → look h a ≡ obj c fs → sees_method P c m ≡ some k
            → eqb (length vs) (length k.params) ≡ b
            → Tells
            (cond b (to p h l (blocks p 0 (Class k.owner ∷ k.params) (Addr a ∷ vs) (load k.body))) (Out.stuck 0 p))
            (call p m (val q (Addr a)) es) h l
        count c fs k true o s e = at (Call r o s (eqb_sound (length vs) (length k.params) e) refl) n
        count c fs k false o s e = n

        method : (c : ℕ) (fs : List Value) (o : Option Method) → look h a ≡ obj c fs → sees_method P c m ≡ o
            → Tells (enter P p h l a vs o) (call p m (val q (Addr a)) es) h l
        method c fs none o s = n
        method c fs (some k) o s = count c fs k (eqb (length vs) (length k.params)) o s refl

        slot : (s : Slot) → look h a ≡ s → Tells (call_slot P p h l m a vs s) (call p m (val q (Addr a)) es) h l
        slot free o = n
        slot (obj c fs) o = method c fs (sees_method P c m) o refl

    unders_tells : (p m q : ℕ) (v : Value) (o : Outs) (es : Exprs) → TellsAll o es h l
        → Tells (unders p h l o (call p m (val q v)) (λ vs. call_out P p h l m v vs)) (call p m (val q v) es) h l
    unfolding unders place
    unders_tells p m q v (values vs) es s =
        call_tells p m q v es vs s (here (call p m (val q v) es) (λ g. elim g [ ]) (Went (λ e f. values_final s f)))
    unders_tells p m q v (Outs.thrown a) es s =
        at (CallArgumentThrow s) (here (call p m (val q v) es) (λ g. elim g [ ]) (Went (λ e f. throws_final s f)))
    unders_tells p m q v (Outs.next n r h' l' es') es s =
        let a = s.active in
        record { rule = CallArguments s.rule; active = Below (OfCallArguments a.1) a.2; keeps = s.keeps }
    unders_tells p m q v (Outs.stuck n r) es s = Below (OfCallArguments s.1) s.2

    try_tells : (p c x : ℕ) (b : Expr) (o : Out) (a : Expr) → Tells o a h l → Tells (try_out P p h l c x b o) (try p c x a b) h l
    unfolding try_out catch_slot place
    try_tells p c x b (value q v) a s = rw s (at Try (here (try p c x (val q v) b) (λ g. elim g [ ]) AValue))
    try_tells p c x b (Out.thrown y) a (Thrown {p = q} {q = r} {t = t}) = slot (look h y) refl
      where
        e : Expr
        e = try p c x (throw q t (val r (Addr y))) b

        n : Active e 0 p
        n = here (try p c x (throw q t (val r (Addr y))) b) (λ g. elim g [ ]) AnException

        test : (d : ℕ) (vs : List Value) (z : Bool) → look h y ≡ obj d vs → subclass P d c ≡ z
            → Tells (cond z (to p h l (block p x (Class c) (some (Addr y)) b)) (to p h l (thrown_at p y))) e h l
        test d vs true o i = at (TryCatch o i) n
        test d vs false o i = at (TryFails o i) n

        slot : (z : Slot) → look h y ≡ z → Tells (catch_slot P p h l c x b y z) e h l
        slot free o = n
        slot (obj d vs) o = test d vs (subclass P d c) o refl
    try_tells p c x b (Out.next d q h' l' e) a s =
        record { rule = TryStep s.rule; active = Below OfTry s.active; keeps = s.keeps }
    try_tells p c x b (Out.stuck d q) a s = Below OfTry s

    cons_tells : (o : Out) (e : Expr) (es : Exprs) (f : ℕ → Value → Outs) → Tells o e h l
        → ((q : ℕ) (v : Value) → TellsAll (f q v) (cons (val q v) es) h l)
        → TellsAll (cons_out o es f) (cons e es) h l
    unfolding cons_out
    cons_tells (value q v) e es f s d = rw s (d q v)
    cons_tells (Out.thrown a) e es f Thrown d = Now
    cons_tells (Out.next n q h' l' e') e es f s d =
        record { rule = ListFirst s.rule; active = (e, First, s.active); keeps = s.keeps }
    cons_tells (Out.stuck n q) e es f s d = (e, First, s)

    tail_tells : (q : ℕ) (v : Value) (o : Outs) (es : Exprs) → TellsAll o es h l → TellsAll (tail_out q v o) (cons (val q v) es) h l
    unfolding tail_out
    tail_tells q v (values vs) es s = OneValue s
    tail_tells q v (Outs.thrown a) es s = Later s
    tail_tells q v (Outs.next n r h' l' es') es s =
        let a = s.active in
        record { rule = ListRest s.rule; active = (a.0, After a.1, a.2); keeps = s.keeps }
    tail_tells q v (Outs.stuck n r) es s = (s.0, After s.1, s.2)

    assign_keeps : (x : ℕ) (v : Value) (y : ℕ) → Held (l y) → Held (upd l x (some v) y)
    unfolding upd
    assign_keeps x v y s = go (eqb x y)
      where
        go : (b : Bool) → Held (cond b (some v) (l y))
        go true = tt
        go false = s

    block_keeps : (x : ℕ) (mv : Option Value) (l' : Store) → ((y : ℕ) → Held (upd l x mv y) → Held (l' y))
        → (y : ℕ) → Held (l y) → Held (upd l' x (l x) y)
    unfolding upd
    block_keeps x mv l' k y s = go (eqb x y) refl
      where
        go : (b : Bool) → eqb x y ≡ b → Held (cond b (l x) (l' y))
        go true e = rw (eqb_sound x y e) s
        go false e = k y (rw e s)

    -- a remembering block's variable is set inside
    set_inside : (x : ℕ) (v : Value) → Held (upd l x (some v) x)
    unfolding upd
    set_inside x v = rw (eqb_true x x refl) tt

    block_tells : (p x : ℕ) (t : Ty) (mv : Option Value) (o : Out) (e : Expr) → Tells o e h (upd l x mv)
        → Tells (block_out p x t h l o) (block p x t mv e) h l
    unfolding block_out place
    block_tells p x t none (value q v) e s =
        rw s (at Block (here (block p x t none (val q v)) (λ g. elim g [ ]) AValue))
    block_tells p x t (some w) (value q v) e s =
        rw s (at BlockRemembering (here (block p x t (some w) (val q v)) (λ g. elim g [ ]) AValue))
    block_tells p x t none (Out.thrown a) e (Thrown {p = q} {q = r} {t = u}) =
        at BlockThrow (here (block p x t none (throw q u (val r (Addr a)))) (λ g. elim g [ ]) AnException)
    block_tells p x t (some w) (Out.thrown a) e (Thrown {p = q} {q = r} {t = u}) =
        at BlockRememberingThrow (here (block p x t (some w) (throw q u (val r (Addr a)))) (λ g. elim g [ ]) AnException)
    block_tells p x t mv (Out.next d q h' l' e') e s =
        record { rule = go mv (l' x) refl s.keeps s.rule; active = Below OfBlock s.active; keeps = block_keeps x mv l' s.keeps }
      where
        go : (mv o : Option Value) → l' x ≡ o → ((y : ℕ) → Held (upd l x mv y) → Held (l' y)) → Reduces P e h (upd l x mv) e' h' l'
            → Reduces P (block p x t mv e) h l (blocked p x t (l' x) e') h' (upd l' x (l x))
        go none none n k r = rw n (BlockStep refl r n refl refl)
        go none (some v) n k r = rw (n, blocked_set p x t v e') (BlockBegins refl r n refl)
        go (some w) none n k r = absurd (rw n at (k x (set_inside x w)))
        go (some w) (some v) n k r = rw (n, blocked_set p x t v e') (BlockRemembers refl r n refl)
    block_tells p x t mv (Out.stuck d q) e s = Below OfBlock s

  mutual
    unfolding step place

    pub tells : (e : Expr) (h : Heap) (l : Store) → Tells (step P e h l) e h l
    tells (new p c) h l =
        redex_tells h l p (new_redex P h c (lowest_free h)) (here (new p c) (λ g. elim g [ ]) tt) (new_sound h l p c (lowest_free h) refl)
    tells (cast p c e) h l =
        under_tells h l p (step P e h l) (cast p c) _ e (around_cast h l p c) (tells e h l)
        (λ q v. redex_tells h l p (cast_redex P h c v) (here (cast p c (val q v)) (λ g. elim g [ ]) AValue) (cast_sound h l p c q v))
    tells (val p v) h l = refl
    tells (var p x) h l =
        redex_tells h l p (read_redex h (l x)) (here (var p x) (λ g. elim g [ ]) tt) (read_sound h l p x (l x) refl)
    tells (add p a b) h l =
        both_tells h l p a b (step P a h l) (step P b h l) (add p) (add_redex h)
        (around_add h l p b) (λ q v. around_add_second h l p q v) (tells a h l) (tells b h l)
        (λ q r v w. here (add p (val q v) (val r w)) (λ g. elim g [ ]) (Went AValue)) (λ q r v w. add_sound h l p q r v w)
    tells (eq p a b) h l =
        both_tells h l p a b (step P a h l) (step P b h l) (eq p) (eq_redex h)
        (around_eq h l p b) (λ q v. around_eq_second h l p q v) (tells a h l) (tells b h l)
        (λ q r v w. here (eq p (val q v) (val r w)) (λ g. elim g [ ]) (Went AValue)) (λ q r v w. eq_sound h l p q r v w)
    tells (assign p x e) h l =
        under_tells h l p (step P e h l) (assign p x) _ e (around_assign h l p x) (tells e h l)
        (λ q v.
        record {
          rule = Assign refl;
          active = here (assign p x (val q v)) (λ g. elim g [ ]) AValue;
          keeps = assign_keeps h l x v;
        })
    tells (get p f d e) h l =
        under_tells h l p (step P e h l) (get p f d) _ e (around_get h l p f d) (tells e h l)
        (λ q v. redex_tells h l p (get_redex P h f d v) (here (get p f d (val q v)) (λ g. elim g [ ]) AValue) (get_sound h l p f d q v))
    tells (put p f d a b) h l =
        both_tells h l p a b (step P a h l) (step P b h l) (put p f d) (put_redex P h f d)
        (around_set h l p f d b) (λ q v. around_set_second h l p f d q v) (tells a h l) (tells b h l)
        (λ q r v w. here (put p f d (val q v) (val r w)) (λ g. elim g [ ]) (Went AValue)) (λ q r v w. set_sound h l p f d q r v w)
    tells (call p m e es) h l =
        under_tells h l p (step P e h l) (λ e'. call p m e' es) _ e (around_call h l p m es) (tells e h l)
        (λ q v. unders_tells h l p m q v (steps P es h l) es (tells_all es h l))
    tells (block p x t mv e) h l = block_tells h l p x t mv (step P e h (upd l x mv)) e (tells e h (upd l x mv))
    tells (seq p a b) h l =
        under_tells h l p (step P a h l) (λ a'. seq p a' b) _ a (around_seq h l p b) (tells a h l)
        (λ q v. at Seq (here (seq p (val q v) b) (λ g. elim g [ ]) AValue))
    tells (ite p c a b) h l =
        under_tells h l p (step P c h l) (λ c'. ite p c' a b) _ c (around_if h l p a b) (tells c h l)
        (λ q v. if_tells h l p q v a b (here (ite p (val q v) a b) (λ g. elim g [ ]) AValue))
    tells (while p c e) h l = at While (here (while p c e) (λ g. elim g [ ]) tt)
    tells (throw p t e) h l =
        under_tells h l p (step P e h l) (throw p t) _ e (around_throw h l p t) (tells e h l) (λ q v. throw_tells h l p q t v)
    tells (try p c x a b) h l = try_tells h l p c x b (step P a h l) a (tells a h l)

    pub tells_all : (es : Exprs) (h : Heap) (l : Store) → TellsAll (steps P es h l) es h l
    tells_all nil h l = NoValue
    tells_all (cons e es) h l =
        cons_tells h l (step P e h l) e es _ (tells e h l) (λ q v. tail_tells h l q v (steps P es h l) es (tells_all es h l))

  -- In words. What `step` finds is right.
  pub told_value : (e : Expr) (h : Heap) (l : Store) {q : ℕ} {v : Value} → step P e h l ≡ value q v → e ≡ val q v
  told_value e h l s = rw s at (tells e h l)

  pub told_thrown : (e : Expr) (h : Heap) (l : Store) {a : ℕ} → step P e h l ≡ Out.thrown a → Exception e a
  told_thrown e h l s = rw s at (tells e h l)

  pub told_next : (e : Expr) (h : Heap) (l : Store) {d q : ℕ} {h' : Heap} {l' : Store} {e' : Expr} → step P e h l ≡ Out.next d q h' l' e'
      → Reduces P e h l e' h' l' × Active e d q
  told_next e h l s = let n : Next e h l _ _ _ _ _ = rw s at (tells e h l) in (n.rule, n.active)

  pub told_stuck : (e : Expr) (h : Heap) (l : Store) {d q : ℕ} → step P e h l ≡ Out.stuck d q
      → ((e' : Expr) (h' : Heap) (l' : Store) → ¬ Reduces P e h l e' h' l') × (¬ Final e) × Active e d q
  unfolding Does
  told_stuck e h l {d} {q} s =
      let a : Active e d q = rw s at (tells e h l) in
      (λ e' h' l' r. unlike (does r), λ f. unfinished a f, a)
    where
      unlike : {e' : Expr} {h' : Heap} {l' : Store} → Does (step P e h l) e' h' l' → ⊥
      unlike i = let t = i.2 in let z : ◌≡◌ {A = ℕ} 0 1 = cc in absurd (omega arith)

  -- At most one rule fits.
  pub one_step : {e e₁ e₂ : Expr} {h h₁ h₂ : Heap} {l l₁ l₂ : Store} → Reduces P e h l e₁ h₁ l₁ → Reduces P e h l e₂ h₂ l₂
      → (e₁ ≡ e₂) × (h₁ ≡ h₂) × (l₁ ≡ l₂)
  unfolding Does
  one_step r s = let i = (does r).2 in let j = (does s).2 in (cc, cc, cc)

  -- A final expression does not reduce.
  pub final_rests : {e e' : Expr} {h h' : Heap} {l l' : Store} → Final e → ¬ Reduces P e h l e' h' l'
  unfolding Does step under throw_out
  final_rests AValue r = let i = (does r).2 in let z : ◌≡◌ {A = ℕ} 0 1 = cc in absurd (omega arith)
  final_rests AnException r = let i = (does r).2 in let z : ◌≡◌ {A = ℕ} 0 1 = cc in absurd (omega arith)

  -- The other way round: an active place is the one that `step` tells.
  abbrev pub At : Out → (depth place : ℕ) → Type 0
  At (value r v) d q = ⊥
  At (Out.thrown a) d q = ⊥
  At (Out.next d' q' h' l' e') d q = (d' ≡ d) × (q' ≡ q)
  At (Out.stuck d' q') d q = (d' ≡ d) × (q' ≡ q)

  pub active_told : {e : Expr} {d q : ℕ} → Active e d q → (h : Heap) (l : Store) → At (step P e h l) d q
  active_told {e} {d} {q} a h l = go (step P e h l) (tells e h l)
    where
      go : (o : Out) → Tells o e h l → At o d q
      go (value r v) s = unfinished (rw s at a) AValue
      go (Out.thrown x) s = unfinished a (exception_final s)
      go (Out.next d' q' h' l' e') s = one_place s.active a
      go (Out.stuck d' q') s = one_place s a
