-- Laws: in a run no block that does not remember has a body `x := v; e` for its own x. The report asks this in its block rules
-- ("not assigned"); here it holds of every tree made ready to run, and each step keeps it.
use Rattle.std.specs.Prelude.{ℕ, suc, ◌≡◌, refl, cond, List, [], ◌∷◌, eqb}
use Rattle.std.proofs.Common.{arith}
use Rattle.std.proofs.Math.Option.{Option, none, some}
use Rattle.words.specs.declared.Value.{Value}
use Rattle.words.specs.declared.Value.TheVariants.{Addr}
use Rattle.words.specs.declared.Ty.{Ty}
use Rattle.words.specs.declared.Ty.TheVariants.{Class}
use Rattle.rules.specs.Trees.{Expr, Exprs, new, cast, val, var, add, eq, assign, get, put, call, block, seq, ite, while, throw, try, nil, cons}
use Rattle.rules.specs.Program.{Program}
use Rattle.rules.specs.Heap.{Heap}
use Rattle.rules.specs.Step.{Store, View, is_seq, is_assign, is_val, other, view, value_in, assigned, remember, settle, blocked, load, loads, blocks}
use Rattle.reduction.proofs.Agreement.{eqb_true}
use Rattle.reduction.specs.AppendixB.{Reduces, New, NewNoMemory, CastStep, CastNull, Cast, CastFails, CastThrow, AddFirst, AddSecond, Add, AddFirstThrow, AddSecondThrow, EqFirst, EqSecond, EqTrue, EqFalse, EqFirstThrow, EqSecondThrow, Var, AssignStep, Assign, AssignThrow, GetStep, Get, GetNull, GetThrow, SetFirst, SetSecond, Set, SetNull, SetFirstThrow, SetSecondThrow, CallStep, CallArguments, Call, CallNull, CallThrow, CallArgumentThrow, BlockStep, BlockBegins, BlockRemembers, Block, BlockRemembering, BlockThrow, BlockRememberingThrow, SeqStep, Seq, SeqThrow, IfStep, IfTrue, IfFalse, IfThrow, While, ThrowStep, ThrowNull, ThrowThrow, TryStep, Try, TryCatch, TryFails, ReducesAll, ListFirst, ListRest}
use Rattle.reduction.specs.Remembering.{AllSettled, Assigned, Sets, Settled}

-- a block that has looked at its body
waits : (x : ℕ) (e : Expr) → ((a b : Expr) → view e ≡ is_seq a b → assigned x (view a) ≡ none) → ¬ Assigned x e
unfolding view assigned value_in
waits x e f (Sets {p = p} {q = q} {r = r} {v = v} {e = b}) =
    let s : cond (eqb x x) (some v) none ≡ none = f (assign q x (val r v)) b refl in
    let t = eqb_true x x refl in
    let u : some v ≡ none = rw t at s in
    let z : ◌≡◌ {A = ℕ} 0 1 = cc in
    absurd (omega arith)

-- the second part of what is seen as a sequence
abbrev SecondSettled : View → Type 0
SecondSettled (is_seq a b) = Settled b
SecondSettled (is_assign x a) = Unit {0}
SecondSettled (is_val v) = Unit {0}
SecondSettled other = Unit {0}

second_settled : (e : Expr) → Settled e → SecondSettled (view e)
unfolding view Settled
second_settled (new p c) s = tt
second_settled (cast p c e) s = tt
second_settled (val p v) s = tt
second_settled (var p x) s = tt
second_settled (add p a b) s = tt
second_settled (eq p a b) s = tt
second_settled (assign p x e) s = tt
second_settled (get p f d e) s = tt
second_settled (put p f d a b) s = tt
second_settled (call p m e es) s = tt
second_settled (block p x t mv e) s = tt
second_settled (seq p a b) s = s.1
second_settled (ite p c a b) s = tt
second_settled (while p c e) s = tt
second_settled (throw p t e) s = tt
second_settled (try p c x a b) s = tt

blocked_settled : (p x : ℕ) (t : Ty) (mv : Option Value) (e : Expr) → Settled e → Settled (blocked p x t mv e)
unfolding blocked settle remember Settled
blocked_settled p x t none e s = go (view e) refl
  where
    unlike : {w : View} → view e ≡ w → ((a b : Expr) → w ≡ is_seq a b → ⊥) → ¬ Assigned x e
    unlike q n = waits x e (λ a b r. absurd (n a b (rw q at r)))

    part : (a b : Expr) (o : Option Value) → view e ≡ is_seq a b → assigned x (view a) ≡ o → Settled (remember p x t e b o)
    part a b none q z = (waits x e (λ a' b' r. let u : a ≡ a' = cc in rw (← u) z), s)
    part a b (some v) q z = (tt, rw q at (second_settled e s))

    go : (w : View) → view e ≡ w → Settled (settle p x t e w)
    go (is_seq a b) q = part a b (assigned x (view a)) q refl
    go (is_assign y a) q = (unlike q (λ a b r. let z : ◌≡◌ {A = ℕ} 0 1 = cc in absurd (omega arith)), s)
    go (is_val v) q = (unlike q (λ a b r. let z : ◌≡◌ {A = ℕ} 0 1 = cc in absurd (omega arith)), s)
    go other q = (unlike q (λ a b r. let z : ◌≡◌ {A = ℕ} 0 1 = cc in absurd (omega arith)), s)
blocked_settled p x t (some v) e s = (tt, s)

-- A tree made ready to run is settled.
mutual
  unfolding load Settled AllSettled

  pub load_settled : (e : Expr) → Settled (load e)
  load_settled (new p c) = tt
  load_settled (cast p c e) = load_settled e
  load_settled (val p v) = tt
  load_settled (var p x) = tt
  load_settled (add p a b) = (load_settled a, load_settled b)
  load_settled (eq p a b) = (load_settled a, load_settled b)
  load_settled (assign p x e) = load_settled e
  load_settled (get p f d e) = load_settled e
  load_settled (put p f d a b) = (load_settled a, load_settled b)
  load_settled (call p m e es) = (load_settled e, loads_settled es)
  load_settled (block p x t mv e) = blocked_settled p x t mv (load e) (load_settled e)
  load_settled (seq p a b) = (load_settled a, load_settled b)
  load_settled (ite p c a b) = (load_settled c, load_settled a, load_settled b)
  load_settled (while p c e) = (load_settled c, load_settled e)
  load_settled (throw p t e) = load_settled e
  load_settled (try p c x a b) = (load_settled a, load_settled b)

  loads_settled : (es : Exprs) → AllSettled (loads es)
  loads_settled nil = tt
  loads_settled (cons e es) = (load_settled e, loads_settled es)

blocks_settled : (p x : ℕ) (ts : List Ty) (vs : List Value) (e : Expr) → Settled e → Settled (blocks p x ts vs e)
unfolding blocks Settled
blocks_settled p x [] vs e s = s
blocks_settled p x (t ∷ ts) [] e s = s
blocks_settled p x (t ∷ ts) (v ∷ vs) e s = (tt, blocks_settled p (suc x) ts vs e s)

-- Each step keeps it.
module _ (P : Program) where
  mutual
    unfolding Settled AllSettled

    pub stays_settled : {e e' : Expr} {h h' : Heap} {l l' : Store} → Reduces P e h l e' h' l' → Settled e → Settled e'
    stays_settled (New f w) s = tt
    stays_settled (NewNoMemory f) s = tt
    stays_settled (CastStep r) s = stays_settled r s
    stays_settled CastNull s = tt
    stays_settled (Cast o b) s = tt
    stays_settled (CastFails o b) s = tt
    stays_settled CastThrow s = tt
    stays_settled (AddFirst r) s = (stays_settled r s.0, s.1)
    stays_settled (AddSecond r) s = (tt, stays_settled r s.1)
    stays_settled (Add q) s = tt
    stays_settled AddFirstThrow s = tt
    stays_settled AddSecondThrow s = tt
    stays_settled (EqFirst r) s = (stays_settled r s.0, s.1)
    stays_settled (EqSecond r) s = (tt, stays_settled r s.1)
    stays_settled (EqTrue q) s = tt
    stays_settled (EqFalse q) s = tt
    stays_settled EqFirstThrow s = tt
    stays_settled EqSecondThrow s = tt
    stays_settled (Var q) s = tt
    stays_settled (AssignStep r) s = stays_settled r s
    stays_settled (Assign q) s = tt
    stays_settled AssignThrow s = tt
    stays_settled (GetStep r) s = stays_settled r s
    stays_settled (Get o f q) s = tt
    stays_settled GetNull s = tt
    stays_settled GetThrow s = tt
    stays_settled (SetFirst r) s = (stays_settled r s.0, s.1)
    stays_settled (SetSecond r) s = (tt, stays_settled r s.1)
    stays_settled (Set o f q) s = tt
    stays_settled SetNull s = tt
    stays_settled SetFirstThrow s = tt
    stays_settled SetSecondThrow s = tt
    stays_settled (CallStep r) s = (stays_settled r s.0, s.1)
    stays_settled (CallArguments r) s = (tt, stay_settled r s.1)
    stays_settled (Call {p = p} {a = a} {vs = vs} {r = r} v o m n b) s = rw (← b) (blocks_settled p 0 (Class r.owner ∷ r.params) (Addr a ∷ vs) (load r.body) (load_settled r.body))
    stays_settled (CallNull q) s = tt
    stays_settled CallThrow s = tt
    stays_settled (CallArgumentThrow q) s = tt
    stays_settled (BlockStep {p = p} {x = x} {t = t} {e₁ = e₁} i r n b o) s = rw (← b) (blocked_settled p x t none e₁ (stays_settled r s.1))
    stays_settled (BlockBegins i r n o) s = (tt, stays_settled r s.1)
    stays_settled (BlockRemembers i r n o) s = (tt, stays_settled r s.1)
    stays_settled Block s = tt
    stays_settled BlockRemembering s = tt
    stays_settled BlockThrow s = tt
    stays_settled BlockRememberingThrow s = tt
    stays_settled (SeqStep r) s = (stays_settled r s.0, s.1)
    stays_settled Seq s = s.1
    stays_settled SeqThrow s = tt
    stays_settled (IfStep r) s = (stays_settled r s.0, s.1, s.2)
    stays_settled IfTrue s = s.1
    stays_settled IfFalse s = s.2
    stays_settled IfThrow s = tt
    stays_settled While s = (s.0, (s.1, s), tt)
    stays_settled (ThrowStep r) s = stays_settled r s
    stays_settled ThrowNull s = tt
    stays_settled ThrowThrow s = tt
    stays_settled (TryStep r) s = (stays_settled r s.0, s.1)
    stays_settled Try s = tt
    stays_settled (TryCatch o b) s = (tt, s.1)
    stays_settled (TryFails o b) s = tt

    stay_settled : {es es' : Exprs} {h h' : Heap} {l l' : Store} → ReducesAll P es h l es' h' l' → AllSettled es → AllSettled es'
    stay_settled (ListFirst r) s = (stays_settled r s.0, s.1)
    stay_settled (ListRest r) s = (tt, stay_settled r s.1)
