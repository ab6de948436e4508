-- Laws: the checks of `rules` find a type, or a set, exactly where figure 1, or figure 2, gives it.
use Rattle.std.specs.Prelude.{ℕ, zero, suc, ◌<◌, ◌≡◌, refl, ◌⊎◌, Bool, true, false, not, cond, ◌&&◌, ◌||◌, List, T, eqb, ltb}
use Rattle.std.proofs.Common.{sym, ◌∙◌, ap, ap₂, subst, inl, inr, ⊎_elim, arith, eqb→eq, lt→ltb}
use Rattle.std.proofs.Math.Path.{fun_ext}
use Rattle.std.proofs.Math.Option.{Option, none, some}
use Rattle.std.proofs.Math.Dec.{eqb_refl, eqb-suc-zero}
use Rattle.words.specs.declared.Value.{Value}
use Rattle.words.specs.declared.Value.TheVariants.{Null, Intg, Addr}
use Rattle.words.specs.declared.Ty.{Ty}
use Rattle.words.specs.declared.Ty.TheVariants.{Void, Boolean, Integer, NT, Class}
use Rattle.words.specs.Types.{type_of, type_word}
use Rattle.words.specs.TypeLaws.{type_of_word}
use Rattle.image.specs.Numbers.{variables}
use Rattle.rules.specs.Maps.{upd}
use Rattle.rules.specs.Trees.{Expr, Exprs, new, cast, val, var, add, eq, assign, get, put, call, block, seq, ite, while, throw, try, nil, cons}
use Rattle.rules.specs.Program.{Program, Env}
use Rattle.rules.specs.Classes.{subclass, subtype, subtypes, sees_field, sees_method, same_type}
use Rattle.rules.specs.Typing.{Res, ok, bad, ◌>>=◌, need, found, literal, class, unremembered, typing, typings}
use Rattle.rules.specs.Setting.{Vars, every_var, meet, setting, settings}
use Rattle.figures.specs.Figure1.{typeof_lit, Typed, TypedAll, New, Cast, Val, Var, Eq, Add, LAss, FAcc, FAss, Block, Call, Seq, Cond, While, Throw, Try, Nil, Cons}
use Rattle.figures.specs.Figure2.{with, without, Sets, SetsAll}
use Rattle.figures.specs.Agreement.{InRange, InRangeAll, Within}

-- What an answer tells of its parts.
pub clash : {A : Type 0} (p : ℕ) (a : A) → bad p ≡ ok a → ⊥
clash p a e = let z : ◌≡◌ {A = ℕ} 0 1 = cc in omega arith

pub ok_inj : {A : Type 0} {a b : A} → ok a ≡ ok b → a ≡ b
ok_inj e = cc

pub bind_inv : {A B : Type 0} (r : Res A) (f : A → Res B) (b : B) → (r >>= f) ≡ ok b → (a : A) × (r ≡ ok a) × (f a ≡ ok b)
unfolding ◌>>=◌
bind_inv (ok a) f b e = (a, refl, e)
bind_inv (bad p) f b e = absurd (clash p b e)

pub need_inv : {A : Type 0} (c : Bool) (p : ℕ) (a b : A) → need c p a ≡ ok b → (c ≡ true) × (a ≡ b)
unfolding need
need_inv true p a b e = (refl, ok_inj e)
need_inv false p a b e = absurd (clash p b e)

pub need_true : {A : Type 0} (c : Bool) (p : ℕ) (a : A) → c ≡ true → need c p a ≡ ok a
unfolding need
need_true c p a e = rw e

pub class_inv : (p : ℕ) (t : Ty) (c : ℕ) → class p t ≡ ok c → t ≡ Class c
unfolding class
class_inv p Void c e = absurd (clash p c e)
class_inv p Boolean c e = absurd (clash p c e)
class_inv p Integer c e = absurd (clash p c e)
class_inv p NT c e = absurd (clash p c e)
class_inv p (Class d) c e = ap Class (ok_inj e)

pub found_inv : {A : Type 0} (p : ℕ) (o : Option A) (a : A) → found p o ≡ ok a → o ≡ some a
unfolding found
found_inv p none a e = absurd (clash p a e)
found_inv p (some b) a e = ap some (ok_inj e)

literal_inv : (p : ℕ) (v : Value) (t : Ty) → literal p v ≡ ok t → typeof_lit v ≡ some t
unfolding literal typeof_lit
literal_inv p Value.Unit t e = ap some (ok_inj e)
literal_inv p Null t e = ap some (ok_inj e)
literal_inv p (Value.Bool b) t e = ap some (ok_inj e)
literal_inv p (Intg n) t e = ap some (ok_inj e)
literal_inv p (Addr a) t e = absurd (clash p t e)

literal_some : (p : ℕ) (v : Value) (t : Ty) → typeof_lit v ≡ some t → literal p v ≡ ok t
unfolding literal typeof_lit
literal_some p Value.Unit t e = ap ok (cc)
literal_some p Null t e = ap ok (cc)
literal_some p (Value.Bool b) t e = ap ok (cc)
literal_some p (Intg n) t e = ap ok (cc)
literal_some p (Addr a) t e = absurd (let z : ◌≡◌ {A = ℕ} 0 1 = cc in omega arith)

-- Tests.
pub never : false ≡ true → ⊥
never e = let z : ◌≡◌ {A = ℕ} 0 1 = cc in omega arith

T→ : (b : Bool) → T b → b ≡ true
T→ true t = refl
T→ false t = absurd t

pub →T : (b : Bool) → b ≡ true → T b
→T true e = tt
→T false e = absurd (never e)

pub and_l : (a b : Bool) → (a && b) ≡ true → a ≡ true
and_l true b e = refl
and_l false b e = e

pub and_r : (a b : Bool) → (a && b) ≡ true → b ≡ true
and_r true b e = e
and_r false b e = absurd (never e)

or_inv : (a b : Bool) → (a || b) ≡ true → (a ≡ true) ⊎ (b ≡ true)
or_inv true b e = inl refl
or_inv false b e = inr e

and_of : (a b : Bool) → a ≡ true → b ≡ true → (a && b) ≡ true
and_of a b e f = rw (e, f)

swap : {A B : Type 0} → A ⊎ B → B ⊎ A
swap (inl a) = inr a
swap (inr b) = inl b

or_of : (a b : Bool) → (a ≡ true) ⊎ (b ≡ true) → (a || b) ≡ true
or_of true b e = refl
or_of false b e = ⊎_elim (λ z. absurd (never z)) (λ z. z) e

pub eqb_eq : (m n : ℕ) → eqb m n ≡ true → m ≡ n
eqb_eq m n e = eqb→eq m n (→T (eqb m n) e)

eqb_same : (n : ℕ) → eqb n n ≡ true
eqb_same n = T→ (eqb n n) (eqb_refl n)

not_eq : (x : ℕ) → not (eqb x 0) ≡ true → x ≡ 0 → ⊥
not_eq zero e z = let z : ◌≡◌ {A = ℕ} 0 1 = cc in omega arith
not_eq (suc x) e z = omega arith

eq_not : (x : ℕ) → (x ≡ 0 → ⊥) → not (eqb x 0) ≡ true
eq_not zero h = absurd (h refl)
eq_not (suc x) h = rw eqb-suc-zero

same_eq : (t u : Ty) → same_type t u ≡ true → t ≡ u
same_eq t u e = sym (type_of_word t) ∙ ap type_of (eqb_eq (type_word t) (type_word u) e) ∙ type_of_word u

same_refl : (t : Ty) → same_type t t ≡ true
same_refl t = eqb_same (type_word t)

-- FIGURE 1
module _ (P : Program) where
  -- what the figure gives, the check finds
  mutual
    unfolding typing ◌>>=◌ found class unremembered

    pub typed : {e : Expr} {Γ : Env} {t : Ty} → Typed P e Γ t → typing P e Γ ≡ ok t
    typed New = refl
    typed (Cast {p = p} {c = c} {d = d} k s) =
        rw (typed k, need_true (subclass P d c || subclass P c d) p (Class c) (or_of _ _ (swap s)))
    typed (Val {p = p} {v = v} {t = t} q) = literal_some p v t q
    typed (Var q) = rw q
    typed (Eq {p = p} {t = t} {u = u} k l s) =
        rw (typed k, typed l, need_true (subtype P t u || subtype P u t) p Boolean (or_of _ _ s))
    typed (Add {p = p} k l) = rw (typed k, typed l, need_true _ p Integer (and_of _ _ (same_refl Integer) (same_refl Integer)))
    typed (LAss {p = p} {x = x} {t = t} {u = u} q k s n) =
        rw (typed k, q, need_true (not (eqb x 0) && subtype P u t) p u (and_of _ _ (eq_not x n) s))
    typed (FAcc {p = p} {d = d} k s) =
        rw (typed k, s.seen, need_true (eqb s.field.owner d) p s.field.type (rw s.owner (eqb_same d))) (ap ok s.type)
    typed (FAss {p = p} {d = d} {v = u} k s l i) =
        rw (typed k, typed l, s.seen)
        (need_true
        (eqb s.field.owner d && subtype P u s.field.type)
        p
        u
        (and_of (eqb s.field.owner d) (subtype P u s.field.type) (rw s.owner (eqb_same d)) (rw s.type i)))
    typed (Block k) = typed k
    typed (Call {p = p} {ts = ts} k s l i) =
        rw (typed k, typeds l, s.seen, need_true (subtypes P ts s.method.params) p s.method.result (rw s.params i))
        (ap ok s.result)
    typed (Seq k l) = rw (typed k) (typed l)
    typed (Cond {p = p} {t = t} c k l) =
        rw (typed c, typed k, typed l, need_true _ p t (and_of _ _ (same_refl Boolean) (same_refl t)))
    typed (While {p = p} c k) = rw (typed c, typed k, need_true _ p Void (same_refl Boolean))
    typed (Throw k) = rw (typed k)
    typed (Try {p = p} {t = t} k l) = rw (typed k, typed l, need_true (same_type t t) p t (same_refl t))

    pub typeds : {es : Exprs} {Γ : Env} {ts : List Ty} → TypedAll P es Γ ts → typings P es Γ ≡ ok ts
    typeds Nil = refl
    typeds (Cons k l) = rw (typed k, typeds l)

  -- what the check finds, the figure gives
  mutual
    unfolding typing unremembered

    pub typing_typed : (e : Expr) (Γ : Env) (t : Ty) → typing P e Γ ≡ ok t → Typed P e Γ t
    typing_typed (new p c) Γ t q = rw (← (ok_inj q)) New
    typing_typed (cast p c e) Γ t q =
        let i = bind_inv (typing P e Γ) _ t q in
        let d = bind_inv (class p i.0) _ t i.2 in
        let n = need_inv _ p (Class c) t d.2 in
        rw (← n.1)
        (Cast (rw (class_inv p i.0 d.0 d.1) at (typing_typed e Γ i.0 i.1)) (swap (or_inv _ _ n.0)))
    typing_typed (val p v) Γ t q = Val (literal_inv p v t q)
    typing_typed (var p x) Γ t q = Var (found_inv p (Γ x) t q)
    typing_typed (add p a b) Γ t q =
        let i = bind_inv (typing P a Γ) _ t q in
        let j = bind_inv (typing P b Γ) _ t i.2 in
        let n = need_inv _ p Integer t j.2 in
        rw (← n.1)
        (Add
        (rw (same_eq i.0 Integer (and_l (same_type i.0 Integer) (same_type j.0 Integer) n.0)) at (typing_typed a Γ i.0 i.1))
        (rw (same_eq j.0 Integer (and_r (same_type i.0 Integer) (same_type j.0 Integer) n.0)) at (typing_typed b Γ j.0 j.1)))
    typing_typed (eq p a b) Γ t q =
        let i = bind_inv (typing P a Γ) _ t q in
        let j = bind_inv (typing P b Γ) _ t i.2 in
        let n = need_inv _ p Boolean t j.2 in
        rw (← n.1) (Eq (typing_typed a Γ i.0 i.1) (typing_typed b Γ j.0 j.1) (or_inv _ _ n.0))
    typing_typed (assign p x e) Γ t q =
        let i = bind_inv (typing P e Γ) _ t q in
        let u = bind_inv (found p (Γ x)) _ t i.2 in
        let n = need_inv _ p i.0 t u.2 in
        rw (← n.1)
        (LAss
        (found_inv p (Γ x) u.0 u.1)
        (typing_typed e Γ i.0 i.1)
        (and_r (not (eqb x 0)) (subtype P i.0 u.0) n.0)
        (not_eq x (and_l (not (eqb x 0)) (subtype P i.0 u.0) n.0)))
    typing_typed (get p f d e) Γ t q =
        let i = bind_inv (typing P e Γ) _ t q in
        let k = bind_inv (class p i.0) _ t i.2 in
        let r = bind_inv (found p (sees_field P k.0 f)) _ t k.2 in
        let n = need_inv _ p r.0.type t r.2 in
        FAcc
        (rw (class_inv p i.0 k.0 k.1) at (typing_typed e Γ i.0 i.1))
        (record {
          field = r.0;
          seen = found_inv p (sees_field P k.0 f) r.0 r.1;
          type = n.1;
          owner = eqb_eq r.0.owner d n.0;
        })
    typing_typed (put p f d a b) Γ t q =
        let i = bind_inv (typing P a Γ) _ t q in
        let j = bind_inv (typing P b Γ) _ t i.2 in
        let k = bind_inv (class p i.0) _ t j.2 in
        let r = bind_inv (found p (sees_field P k.0 f)) _ t k.2 in
        let n = need_inv _ p j.0 t r.2 in
        rw (← n.1)
        (FAss
        (rw (class_inv p i.0 k.0 k.1) at (typing_typed a Γ i.0 i.1))
        (record {
          field = r.0;
          seen = found_inv p (sees_field P k.0 f) r.0 r.1;
          type = refl;
          owner = eqb_eq r.0.owner d (and_l (eqb r.0.owner d) (subtype P j.0 r.0.type) n.0);
        })
        (typing_typed b Γ j.0 j.1)
        (and_r (eqb r.0.owner d) (subtype P j.0 r.0.type) n.0))
    typing_typed (call p m e es) Γ t q =
        let i = bind_inv (typing P e Γ) _ t q in
        let j = bind_inv (typings P es Γ) _ t i.2 in
        let k = bind_inv (class p i.0) _ t j.2 in
        let r = bind_inv (found p (sees_method P k.0 m)) _ t k.2 in
        let n = need_inv _ p r.0.result t r.2 in
        Call
        (rw (class_inv p i.0 k.0 k.1) at (typing_typed e Γ i.0 i.1))
        (record {
          method = r.0;
          seen = found_inv p (sees_method P k.0 m) r.0 r.1;
          params = refl;
          result = n.1;
        })
        (typings_typed es Γ j.0 j.1)
        n.0
    typing_typed (block p x u none e) Γ t q = Block (typing_typed e (upd Γ x (some u)) t q)
    typing_typed (block p x u (some v) e) Γ t q = absurd (clash p t q)
    typing_typed (seq p a b) Γ t q =
        let i = bind_inv (typing P a Γ) _ t q in
        Seq (typing_typed a Γ i.0 i.1) (typing_typed b Γ t i.2)
    typing_typed (ite p c a b) Γ t q =
        let w = bind_inv (typing P c Γ) _ t q in
        let i = bind_inv (typing P a Γ) _ t w.2 in
        let j = bind_inv (typing P b Γ) _ t i.2 in
        let n = need_inv _ p i.0 t j.2 in
        rw (← n.1)
        (Cond
        (rw (same_eq w.0 Boolean (and_l (same_type w.0 Boolean) (same_type i.0 j.0) n.0)) at (typing_typed c Γ w.0 w.1))
        (typing_typed a Γ i.0 i.1)
        (rw (← (same_eq i.0 j.0 (and_r (same_type w.0 Boolean) (same_type i.0 j.0) n.0))) at (typing_typed b Γ j.0 j.1)))
    typing_typed (while p c e) Γ t q =
        let w = bind_inv (typing P c Γ) _ t q in
        let i = bind_inv (typing P e Γ) _ t w.2 in
        let n = need_inv _ p Void t i.2 in
        rw (← n.1)
        (While (rw (same_eq w.0 Boolean n.0) at (typing_typed c Γ w.0 w.1)) (typing_typed e Γ i.0 i.1))
    typing_typed (throw p u e) Γ t q =
        let i = bind_inv (typing P e Γ) _ t q in
        let k = bind_inv (class p i.0) _ t i.2 in
        rw (← (ok_inj k.2)) (Throw (rw (class_inv p i.0 k.0 k.1) at (typing_typed e Γ i.0 i.1)))
    typing_typed (try p c x a b) Γ t q =
        let i = bind_inv (typing P a Γ) _ t q in
        let j = bind_inv (typing P b (upd Γ x (some (Class c)))) _ t i.2 in
        let n = need_inv _ p i.0 t j.2 in
        rw (← n.1)
        (Try
        (typing_typed a Γ i.0 i.1)
        (rw (← (same_eq i.0 j.0 n.0)) at (typing_typed b (upd Γ x (some (Class c))) j.0 j.1)))

    pub typings_typed : (es : Exprs) (Γ : Env) (ts : List Ty) → typings P es Γ ≡ ok ts → TypedAll P es Γ ts
    typings_typed nil Γ ts q = rw (← (ok_inj q)) Nil
    typings_typed (cons e es) Γ ts q =
        let i = bind_inv (typing P e Γ) _ ts q in
        let j = bind_inv (typings P es Γ) _ ts i.2 in
        rw (← (ok_inj j.2)) (Cons (typing_typed e Γ i.0 i.1) (typings_typed es Γ j.0 j.1))

  -- a node has at most one type
  pub one_type : {e : Expr} {Γ : Env} {t u : Ty} → Typed P e Γ t → Typed P e Γ u → t ≡ u
  one_type k l = ok_inj (sym (typed k) ∙ typed l)

-- FIGURE 2
-- the figure's way to give a block's variable its standing back
leave : (K : Vars) (x : ℕ) (b : Bool) → cond b (with K x) (without K x) ≡ upd K x b
leave K x true = refl
leave K x false = refl

upd_at : (K : Vars) (x : ℕ) (b : Bool) → upd K x b x ≡ b
unfolding upd
upd_at K x b = rw (eqb_same x)

-- what holds at x and what holds elsewhere
upd_holds : (I K : Vars) (x : ℕ) (b : Bool) (y : ℕ) → (x ≡ y → b ≡ true) → (I y ≡ true → K y ≡ true) → I y ≡ true → upd K x b y ≡ true
unfolding upd
upd_holds I K x b y h k e = go (eqb x y) (eqb_eq x y)
  where
    go : (c : Bool) → (c ≡ true → x ≡ y) → cond c b (K y) ≡ true
    go true q = h (q refl)
    go false q = k e

every_holds : (y : ℕ) → y < variables → every_var y ≡ true
unfolding every_var
every_holds y h = T→ (ltb y variables) (lt→ltb y variables h)

within_refl : {I : Vars} → Within I I
within_refl = record { at = λ y h e. e }

within_trans : {I K M : Vars} → Within I K → Within K M → Within I M
within_trans k m = record { at = λ y h e. m.at y h (k.at y h e) }

within_with : {I K : Vars} → (x : ℕ) → Within I K → Within I (with K x)
within_with {I} {K} x k = record { at = λ y h e. upd_holds I K x true y (λ z. refl) (k.at y h) e }

within_every : {I : Vars} → Within I every_var
within_every = record { at = λ y h e. every_holds y h }

within_meet : {I A B : Vars} → Within I A → Within I B → Within I (meet A B)
unfolding meet
within_meet {I} {A} {B} a b = record { at = λ y h e. and_of (A y) (B y) (a.at y h e) (b.at y h e) }

-- a block's variable stands as before, the others grow
leave_at : (I K : Vars) (x : ℕ) (b : Bool) (y : ℕ) → (upd I x b y ≡ true → K y ≡ true) → I y ≡ true → upd K x (I x) y ≡ true
unfolding upd
leave_at I K x b y k e = go (eqb x y) refl
  where
    go : (c : Bool) → eqb x y ≡ c → cond c (I x) (K y) ≡ true
    go true q = rw (eqb_eq x y q) e
    go false q = k (rw q e)

within_leave : {I K : Vars} (x : ℕ) (b : Bool) → Within (upd I x b) K → Within I (upd K x (I x))
within_leave {I} {K} x b k = record { at = λ y h e. leave_at I K x b y (k.at y h) e }

-- of the 64 variables, no tree takes one out that was set
mutual
  unfolding setting

  pub grows : (e : Expr) (I K : Vars) → setting e I ≡ ok K → Within I K
  grows (new p c) I K q = rw (← (ok_inj q)) within_refl
  grows (cast p c e) I K q = grows e I K q
  grows (val p v) I K q = rw (← (ok_inj q)) within_refl
  grows (var p x) I K q = rw (← (need_inv (I x) p I K q).1) within_refl
  grows (add p a b) I K q = let k = bind_inv (setting a I) _ K q in within_trans (grows a I k.0 k.1) (grows b k.0 K k.2)
  grows (eq p a b) I K q = let k = bind_inv (setting a I) _ K q in within_trans (grows a I k.0 k.1) (grows b k.0 K k.2)
  grows (assign p x e) I K q = let k = bind_inv (setting e I) _ K q in rw (← (ok_inj k.2)) (within_with x (grows e I k.0 k.1))
  grows (get p f d e) I K q = grows e I K q
  grows (put p f d a b) I K q = let k = bind_inv (setting a I) _ K q in within_trans (grows a I k.0 k.1) (grows b k.0 K k.2)
  grows (call p m e es) I K q = let k = bind_inv (setting e I) _ K q in within_trans (grows e I k.0 k.1) (grows_all es k.0 K k.2)
  grows (block p x t mv e) I K q =
      let k = bind_inv (setting e (upd I x false)) _ K q in
      rw (← (ok_inj k.2)) (within_leave x false (grows e (upd I x false) k.0 k.1))
  grows (seq p a b) I K q = let k = bind_inv (setting a I) _ K q in within_trans (grows a I k.0 k.1) (grows b k.0 K k.2)
  grows (ite p c a b) I K q =
      let k = bind_inv (setting c I) _ K q in
      let A = bind_inv (setting a k.0) _ K k.2 in
      let B = bind_inv (setting b k.0) _ K A.2 in
      rw (← (ok_inj B.2))
      (within_trans (grows c I k.0 k.1) (within_meet (grows a k.0 A.0 A.1) (grows b k.0 B.0 B.1)))
  grows (while p c e) I K q =
      let k = bind_inv (setting c I) _ K q in
      let m = bind_inv (setting e k.0) _ K k.2 in
      rw (← (ok_inj m.2)) (grows c I k.0 k.1)
  grows (throw p t e) I K q = let k = bind_inv (setting e I) _ K q in rw (← (ok_inj k.2)) within_every
  grows (try p c x a b) I K q =
      let A = bind_inv (setting a I) _ K q in
      let B = bind_inv (setting b (upd I x true)) _ K A.2 in
      rw (← (ok_inj B.2)) (within_meet (grows a I A.0 A.1) (within_leave x true (grows b (upd I x true) B.0 B.1)))

  grows_all : (es : Exprs) (I K : Vars) → settings es I ≡ ok K → Within I K
  grows_all nil I K q = rw (← (ok_inj q)) within_refl
  grows_all (cons e es) I K q =
      let k = bind_inv (setting e I) _ K q in
      within_trans (grows e I k.0 k.1) (grows_all es k.0 K k.2)

-- the figure's way to give a Try's variable its standing back
caught : (K : Vars) (x : ℕ) (b : Bool) → (b ≡ true → K x ≡ true) → cond b K (without K x) ≡ upd K x b
unfolding upd
caught K x true h = fun_ext λ y. go y (eqb x y) (eqb_eq x y)
  where
    go : (y : ℕ) (c : Bool) → (c ≡ true → x ≡ y) → K y ≡ cond c true (K y)
    go y true q = rw (← (q refl)) (h refl)
    go y false q = refl
caught K x false h = refl

-- what is set before a Try's second part is set after it
caught_set : (I K : Vars) (x : ℕ) (b : Expr) → x < variables → setting b (with I x) ≡ ok K → K x ≡ true
caught_set I K x b h q = (grows b (with I x) K q).at x h (upd_at I x true)

-- what the figure gives, the check finds
mutual
  unfolding setting ◌>>=◌ Sets InRange

  pub sets : (e : Expr) → InRange e → (I K : Vars) → Sets I e K → setting e I ≡ ok K
  sets (new p c) r I K s = ap ok (sym s)
  sets (cast p c e) r I K s = sets e r I K s
  sets (val p v) r I K s = ap ok (sym s)
  sets (var p x) r I K s = need_true (I x) p I s.0 ∙ ap ok (sym s.1)
  sets (add p a b) r I K s = rw (sets a r.0 I s.0 s.1) (sets b r.1 s.0 K s.2)
  sets (eq p a b) r I K s = rw (sets a r.0 I s.0 s.1) (sets b r.1 s.0 K s.2)
  sets (assign p x e) r I K s = rw (sets e r I s.0 s.1) (ap ok (sym s.2))
  sets (get p f d e) r I K s = sets e r I K s
  sets (put p f d a b) r I K s = rw (sets a r.0 I s.0 s.1) (sets b r.1 s.0 K s.2)
  sets (call p m e es) r I K s = rw (sets e r.0 I s.0 s.1) (sets_all es r.1 s.0 K s.2)
  sets (block p x t mv e) r I K s =
      rw (sets e r (without I x) s.0 s.1) (ap ok (sym (s.2 ∙ leave s.0 x (I x))))
  sets (seq p a b) r I K s = rw (sets a r.0 I s.0 s.1) (sets b r.1 s.0 K s.2)
  sets (ite p c a b) r I K s =
      rw (sets c r.0 I s.0 s.3, sets a r.1 s.0 s.1 s.4, sets b r.2 s.0 s.2 s.5)
      (ap ok (sym s.6))
  sets (while p c e) r I K s = rw (sets c r.0 I K s.0, sets e r.1 K s.1.0 s.1.1)
  sets (throw p t e) r I K s = rw (sets e r I s.1.0 s.1.1) (ap ok (sym s.0))
  sets (try p c x a b) r I K s =
      let q = sets b r.2 (with I x) s.1 s.3 in
      rw (sets a r.1 I s.0 s.2, q)
      (ap ok (sym (s.4 ∙ ap (meet s.0) (caught s.1 x (I x) (λ z. caught_set I s.1 x b r.0 q)))))

  pub sets_all : (es : Exprs) → InRangeAll es → (I K : Vars) → SetsAll I es K → settings es I ≡ ok K
  sets_all nil r I K s = ap ok (sym s)
  sets_all (cons e es) r I K s = rw (sets e r.0 I s.0 s.1) (sets_all es r.1 s.0 K s.2)

-- what the check finds, the figure gives
mutual
  unfolding setting Sets InRange

  pub setting_sets : (e : Expr) → InRange e → (I K : Vars) → setting e I ≡ ok K → Sets I e K
  setting_sets (new p c) r I K q = sym (ok_inj q)
  setting_sets (cast p c e) r I K q = setting_sets e r I K q
  setting_sets (val p v) r I K q = sym (ok_inj q)
  setting_sets (var p x) r I K q = let n = need_inv (I x) p I K q in (n.0, sym n.1)
  setting_sets (add p a b) r I K q =
      let k = bind_inv (setting a I) _ K q in
      (k.0, setting_sets a r.0 I k.0 k.1, setting_sets b r.1 k.0 K k.2)
  setting_sets (eq p a b) r I K q =
      let k = bind_inv (setting a I) _ K q in
      (k.0, setting_sets a r.0 I k.0 k.1, setting_sets b r.1 k.0 K k.2)
  setting_sets (assign p x e) r I K q =
      let k = bind_inv (setting e I) _ K q in
      (k.0, setting_sets e r I k.0 k.1, sym (ok_inj k.2))
  setting_sets (get p f d e) r I K q = setting_sets e r I K q
  setting_sets (put p f d a b) r I K q =
      let k = bind_inv (setting a I) _ K q in
      (k.0, setting_sets a r.0 I k.0 k.1, setting_sets b r.1 k.0 K k.2)
  setting_sets (call p m e es) r I K q =
      let k = bind_inv (setting e I) _ K q in
      (k.0, setting_sets e r.0 I k.0 k.1, settings_sets es r.1 k.0 K k.2)
  setting_sets (block p x t mv e) r I K q =
      let k = bind_inv (setting e (without I x)) _ K q in
      (k.0, setting_sets e r (without I x) k.0 k.1, sym (leave k.0 x (I x) ∙ ok_inj k.2))
  setting_sets (seq p a b) r I K q =
      let k = bind_inv (setting a I) _ K q in
      (k.0, setting_sets a r.0 I k.0 k.1, setting_sets b r.1 k.0 K k.2)
  setting_sets (ite p c a b) r I K q =
      let k = bind_inv (setting c I) _ K q in
      let A = bind_inv (setting a k.0) _ K k.2 in
      let B = bind_inv (setting b k.0) _ K A.2 in (
        k.0,
        A.0,
        B.0,
        setting_sets c r.0 I k.0 k.1,
        setting_sets a r.1 k.0 A.0 A.1,
        setting_sets b r.2 k.0 B.0 B.1,
        sym (ok_inj B.2),
      )
  setting_sets (while p c e) r I K q =
      let k = bind_inv (setting c I) _ K q in
      let m = bind_inv (setting e k.0) _ K k.2 in
      let z = ok_inj m.2 in
      (setting_sets c r.0 I K (k.1 ∙ ap ok z), (m.0, setting_sets e r.1 K m.0 (ap (setting e) (sym z) ∙ m.1)))
  setting_sets (throw p t e) r I K q =
      let k = bind_inv (setting e I) _ K q in
      (sym (ok_inj k.2), (k.0, setting_sets e r I k.0 k.1))
  setting_sets (try p c x a b) r I K q =
      let A = bind_inv (setting a I) _ K q in
      let B = bind_inv (setting b (with I x)) _ K A.2 in (
        A.0,
        B.0,
        setting_sets a r.1 I A.0 A.1,
        setting_sets b r.2 (with I x) B.0 B.1,
        sym (ok_inj B.2)
            ∙ ap (meet A.0) (sym (caught B.0 x (I x) (λ z. caught_set I B.0 x b r.0 B.1))),
      )

  pub settings_sets : (es : Exprs) → InRangeAll es → (I K : Vars) → settings es I ≡ ok K → SetsAll I es K
  settings_sets nil r I K q = sym (ok_inj q)
  settings_sets (cons e es) r I K q =
      let k = bind_inv (setting e I) _ K q in
      (k.0, setting_sets e r.0 I k.0 k.1, settings_sets es r.1 k.0 K k.2)

-- there is at most one set after a tree
mutual
  unfolding Sets

  pub one_set : (e : Expr) (I J K : Vars) → Sets I e J → Sets I e K → J ≡ K
  one_set (new p c) I J K s t = s ∙ sym t
  one_set (cast p c e) I J K s t = one_set e I J K s t
  one_set (val p v) I J K s t = s ∙ sym t
  one_set (var p x) I J K s t = s.1 ∙ sym t.1
  one_set (add p a b) I J K s t =
      one_set b t.0 J K (subst (λ M. Sets M b J) (one_set a I s.0 t.0 s.1 t.1) s.2) t.2
  one_set (eq p a b) I J K s t =
      one_set b t.0 J K (subst (λ M. Sets M b J) (one_set a I s.0 t.0 s.1 t.1) s.2) t.2
  one_set (assign p x e) I J K s t = s.2 ∙ ap (λ M. with M x) (one_set e I s.0 t.0 s.1 t.1) ∙ sym t.2
  one_set (get p f d e) I J K s t = one_set e I J K s t
  one_set (put p f d a b) I J K s t =
      one_set b t.0 J K (subst (λ M. Sets M b J) (one_set a I s.0 t.0 s.1 t.1) s.2) t.2
  one_set (call p m e es) I J K s t =
      one_set_all es t.0 J K (subst (λ M. SetsAll M es J) (one_set e I s.0 t.0 s.1 t.1) s.2) t.2
  one_set (block p x u mv e) I J K s t =
      s.2
      ∙ ap (λ M. cond (I x) (with M x) (without M x)) (one_set e (without I x) s.0 t.0 s.1 t.1)
      ∙ sym t.2
  one_set (seq p a b) I J K s t =
      one_set b t.0 J K (subst (λ M. Sets M b J) (one_set a I s.0 t.0 s.1 t.1) s.2) t.2
  one_set (ite p c a b) I J K s t =
      let q = one_set c I s.0 t.0 s.3 t.3 in
      s.6
      ∙ ap₂ meet
      (one_set a t.0 s.1 t.1 (subst (λ M. Sets M a s.1) q s.4) t.4)
      (one_set b t.0 s.2 t.2 (subst (λ M. Sets M b s.2) q s.5) t.5)
      ∙ sym t.6
  one_set (while p c e) I J K s t = one_set c I J K s.0 t.0
  one_set (throw p u e) I J K s t = s.0 ∙ sym t.0
  one_set (try p c x a b) I J K s t =
      s.4
      ∙ ap₂ (λ A B. meet A (cond (I x) B (without B x)))
      (one_set a I s.0 t.0 s.2 t.2)
      (one_set b (with I x) s.1 t.1 s.3 t.3)
      ∙ sym t.4

  one_set_all : (es : Exprs) (I J K : Vars) → SetsAll I es J → SetsAll I es K → J ≡ K
  one_set_all nil I J K s t = s ∙ sym t
  one_set_all (cons e es) I J K s t =
      one_set_all es t.0 J K (subst (λ M. SetsAll M es J) (one_set e I s.0 t.0 s.1 t.1) s.2) t.2
