-- Type safety of one step, over all forms, and of a run of any length.
use Prim.Native.Nat.{ℕ, zero, suc}
use Rattle.std.specs.Prelude.{refl, Bool, cond, List, leb}
use Rattle.std.proofs.Common.{sym}
use Rattle.std.proofs.Math.Bool.{true, false}
use Rattle.std.proofs.Math.Option.{some}
use Rattle.words.specs.declared.Value.TheVariants.{Addr}
use Rattle.words.specs.declared.Ty.{Ty}
use Rattle.words.specs.declared.Ty.TheVariants.{Boolean, Class}
use Rattle.rules.specs.declared.End.{End}
use Rattle.rules.specs.declared.End.TheVariants.{Returned, Threw, OutOfSteps, TooDeep, Stuck}
use Rattle.rules.specs.Maps.{upd}
use Rattle.rules.specs.Trees.{Expr, Exprs, new, cast, val, var, add, eq, assign, get, put, call, block, seq, ite, while, throw, try, nil, cons}
use Rattle.rules.specs.Program.{Program, Env}
use Rattle.rules.specs.Setting.{Vars}
use Rattle.rules.specs.Heap.{Heap, lowest_free}
use Rattle.rules.specs.Step.{Store, Out, value, add_redex, eq_redex, new_redex, cast_redex, get_redex, put_redex, read_redex, tail_out, step, steps}
use Rattle.rules.specs.Run.{Ended, judge, run}
use Rattle.safety.specs.Sets.{⊆_refl, ⊆_same, dom, dom_upd}
use Rattle.safety.specs.Conform.{≼_refl, ⊑_refl, Conf, StoreOk, HeapOk, le_refl, conf_mono, conf_le, store_upd}
use Rattle.safety.specs.Safe.{both_of, Adds, Compares, Puts, Safe, Safes, mono, monos}
use Rattle.safety.specs.Redexes.{read_ok, add_ok, eq_ok, new_ok, cast_ok, get_ok, put_safe}
use Rattle.safety.specs.Steps.{Wf, Good, Goods, keep, redex_good, under_good, unders_good, both_good, if_good, throw_good, assign_good, call_good, try_good, block_good, cons_good, tail_good}

module _ (P : Program) where
  -- how a run may end, and the heap that it leaves
  abbrev pub EndOk : Ty → Heap → End → Type 0
  EndOk t h (Returned v) = Conf P h v t
  EndOk t h (Threw a) = Conf P h (Addr a) (Class 0)
  EndOk t h OutOfSteps = Unit {0}
  EndOk t h TooDeep = Unit {0}
  EndOk t h (Stuck q) = ⊥

  pub record RunOk (t : Ty) (e : Ended) : Type 0 where
    pub ends : EndOk t e.heap e.end
    pub heap_ok : HeapOk P e.heap

module _ (P : Program) (W : Wf P) where
  -- ONE STEP: progress and preservation in one theorem.
  mutual
    unfolding step Safe

    pub good : (e : Expr) {Γ : Env} {h : Heap} {l : Store} (t : Ty) (J : Vars) → HeapOk P h → StoreOk P h l Γ → Safe P e Γ (dom l) h t J
        → Good P Γ t J h l (step P e h l)
    good (new p c) {h = h} t J hk sk s =
        redex_good P W hk sk p (new_redex P h c (lowest_free h)) t J (new_ok P W.low hk c (lowest_free h) refl s.known s.le)
        s.after
    good (cast p c e) {h = h} {l = l} t J hk sk s =
        under_good P W hk sk p t J (step P e h l) (cast p c) _ (Class 0) J (good e (Class 0) J hk sk s.operand)
        (λ h' l' e' x k. record { operand = k; le = s.le })
        (λ q v k j. redex_good P W hk sk p (cast_redex P h c v) t J (cast_ok P W.low hk c v k s.le) j)
    good (val p v) t J hk sk s = s
    good (var p x) {h = h} {l = l} t J hk sk s =
        redex_good P W hk sk p (read_redex h (l x)) t J
        (read_ok P W.low hk (l x) (rw s.bound at (sk.at x)) s.le s.known)
        s.after
    good (add p a b) {h = h} {l = l} t J hk sk s =
        both_good P W hk sk p t J a b (step P a h l) (step P b h l) (add p) (add_redex h) (Adds P t) (λ a b h' l' k. k)
        (λ u K k. good a u K hk sk k) (λ w k. good b w J hk sk k)
        (λ v w u u' k j r. add_ok P W.low hk v w (conf_le P W.low r.first k) (conf_le P W.low r.second j) r.le)
        s
    good (eq p a b) {h = h} {l = l} t J hk sk s =
        both_good P W hk sk p t J a b (step P a h l) (step P b h l) (eq p) (eq_redex h) (Compares P t) (λ a b h' l' k. k)
        (λ u K k. good a u K hk sk k) (λ w k. good b w J hk sk k)
        (λ v w u u' k j r. eq_ok P W.low hk v w r.le)
        s
    good (assign p x e) {h = h} {l = l} t J hk sk s =
        under_good P W hk sk p t J (step P e h l) (assign p x) _ s.type s.mid (good e s.type s.mid hk sk s.operand)
        (λ h' l' e' y k.
        record {
          mid = s.mid;
          slot = s.slot;
          type = s.type;
          bound = s.bound;
          operand = k;
          fits = s.fits;
          le = s.le;
          after = s.after;
        })
        (λ q v k i. assign_good P W hk sk p t J x v s.slot s.type s.mid s.bound k s.fits s.le i s.after)
    good (get p f d e) {h = h} {l = l} t J hk sk s =
        under_good P W hk sk p t J (step P e h l) (get p f d) _ (Class s.class) J (good e (Class s.class) J hk sk s.operand)
        (λ h' l' e' x k. record { class = s.class; type = s.type; operand = k; has = s.has; le = s.le })
        (λ q v k j. redex_good P W hk sk p (get_redex P h f d v) t J (get_ok P W.low hk f d v k s.has s.le) j)
    good (put p f d a b) {h = h} {l = l} t J hk sk s =
        both_good P W hk sk p t J a b (step P a h l) (step P b h l) (put p f d) (put_redex P h f d) (Puts P f d t) (λ a b h' l' k. k)
        (λ u K k. good a u K hk sk k) (λ w k. good b w J hk sk k)
        (λ v w u u' k j r. put_safe P W.low hk f d v w k j r)
        s
    good (call p m e es) {h = h} {l = l} t J hk sk s =
        under_good P W hk sk p t J (step P e h l) (λ e'. call p m e' es) _ (Class s.class) s.mid
        (good e (Class s.class) s.mid hk sk s.receiver)
        (λ h' l' e' x k.
        record {
          mid = s.mid;
          class = s.class;
          method = s.method;
          receiver = k;
          sees = s.sees;
          args = monos P W.low es s.method.params ⊑_refl ⊆_refl x ⊆_refl s.args;
          le = s.le;
        })
        (λ q v k i.
        unders_good P W hk sk p t J (steps P es h l) (call p m (val q v)) _ s.method.params J
        (goods es s.method.params J hk sk (monos P W.low es s.method.params ⊑_refl i ≼_refl ⊆_refl s.args))
        (λ h' l' e' x n.
        record {
          mid = dom l';
          class = s.class;
          method = s.method;
          receiver = record { fits = conf_mono P W.low x (le_refl P W.low) k; after = ⊆_refl };
          sees = s.sees;
          args = n;
          le = s.le;
        })
        (λ vs n j. call_good P W hk sk p t J m s.class v vs s.method k s.sees n s.le j))
    good (block p x u mv e) {h = h} {l = l} t J hk sk s =
        block_good P W hk sk p t J x u mv (step P e h (upd l x mv)) s.mid
        (good e t s.mid hk (store_upd P W.low x mv (some u) sk s.held)
        (mono P W.low e ⊑_refl (⊆_same (sym (dom_upd l x mv))) ≼_refl (le_refl P W.low) ⊆_refl s.body))
        s.after
    good (seq p a b) {h = h} {l = l} t J hk sk s =
        under_good P W hk sk p t J (step P a h l) (λ a'. seq p a' b) _ s.type_l s.mid (good a s.type_l s.mid hk sk s.left)
        (λ h' l' e' x k.
        both_of s.mid s.type_l s.type_r k
        (mono P W.low b ⊑_refl ⊆_refl x (le_refl P W.low) ⊆_refl s.right)
        s.rule)
        (λ q v k i. keep P W hk sk (mono P W.low b ⊑_refl i ≼_refl s.rule.le ⊆_refl s.right))
    good (ite p c a b) {h = h} {l = l} t J hk sk s =
        under_good P W hk sk p t J (step P c h l) (λ c'. ite p c' a b) _ Boolean s.mid (good c Boolean s.mid hk sk s.cond)
        (λ h' l' e' x k.
        record {
          mid = s.mid;
          cond = k;
          yes_arm = mono P W.low a ⊑_refl ⊆_refl x (le_refl P W.low) ⊆_refl s.yes_arm;
          no_arm = mono P W.low b ⊑_refl ⊆_refl x (le_refl P W.low) ⊆_refl s.no_arm;
        })
        (λ q v k i.
        if_good P W hk sk p t J v a b k
        (mono P W.low a ⊑_refl i ≼_refl (le_refl P W.low) ⊆_refl s.yes_arm)
        (mono P W.low b ⊑_refl i ≼_refl (le_refl P W.low) ⊆_refl s.no_arm))
    good (while p c e) {h = h} {l = l} t J hk sk s =
        keep P W hk sk
        (record {
          mid = s.mid;
          cond = mono P W.low c ⊑_refl s.before ≼_refl (le_refl P W.low) ⊆_refl s.cond;
          yes_arm =
              both_of s.start s.type t s.body
              (record {
                start = s.start;
                mid = s.mid;
                type = s.type;
                before = ⊆_refl;
                cond = s.cond;
                body = s.body;
                after = s.after;
                le = s.le;
              })
              (record { le = le_refl P W.low });
          no_arm = record { fits = record { proper = tt; below = s.le }; after = s.after };
        })
    good (throw p u e) {h = h} {l = l} t J hk sk s =
        under_good P W hk sk p t J (step P e h l) (throw p u) _ (Class 0) s.mid (good e (Class 0) s.mid hk sk s.operand)
        (λ h' l' e' x k. record { mid = s.mid; operand = k })
        (λ q v k i. throw_good P W hk sk p t J v k)
    good (try p c x a b) {h = h} {l = l} t J hk sk s =
        try_good P W hk sk p t J c x b (step P a h l) s.mid (good a t J hk sk s.body) s.handler s.after

    pub goods : (es : Exprs) {Γ : Env} {h : Heap} {l : Store} (ts : List Ty) (J : Vars) → HeapOk P h → StoreOk P h l Γ
        → Safes P es Γ (dom l) h ts J
        → Goods P Γ ts J h l (steps P es h l)
    goods nil ts J hk sk s = record { fits = rw s.none_left tt; after = s.after }
    goods (cons e es) {h = h} {l = l} ts J hk sk s =
        cons_good P W hk sk s.type s.types ts J s.split (step P e h l) es (λ q v. tail_out q v (steps P es h l)) s.mid
        (good e s.type s.mid hk sk s.head) s.rest
        (λ q v k i.
        tail_good P W hk sk s.type s.types ts J s.split q v (steps P es h l) k
        (goods es s.types J hk sk (monos P W.low es s.types ⊑_refl i ≼_refl ⊆_refl s.rest)))

  -- A RUN
  judge_ok : (depth k : ℕ) (t : Ty) (J : Vars) {Γ : Env} {h : Heap} (l : Store) (o : Out) (on : Heap → Store → Expr → Ended)
      → HeapOk P h
      → Good P Γ t J h l o
      → ((h' : Heap) (l' : Store) (e : Expr) → HeapOk P h' → StoreOk P h' l' Γ → Safe P e Γ (dom l') h' t J → RunOk P t (on h' l' e))
      → RunOk P t (judge depth k h o on)
  unfolding judge
  judge_ok depth k t J l (value q v) on hk g r = record { ends = g.fits; heap_ok = hk }
  judge_ok depth k t J l (Out.thrown a) on hk g r = record { ends = g; heap_ok = hk }
  judge_ok depth k t J {h = h} l (Out.next d q h' l' e) on hk g r = go (leb d depth)
    where
      go : (b : Bool) → RunOk P t (cond b (on h' l' e) (record { end = TooDeep; count = k; heap = h }))
      go false = record { ends = tt; heap_ok = hk }
      go true = r h' l' e g.heap_ok g.store_ok g.safe
  judge_ok depth k t J l (Out.stuck d q) on hk g r = absurd g

  pub run_ok : (n depth k : ℕ) (t : Ty) (J : Vars) (e : Expr) {Γ : Env} {h : Heap} {l : Store} → HeapOk P h → StoreOk P h l Γ
      → Safe P e Γ (dom l) h t J
      → RunOk P t (run depth P n k h l e)
  unfolding run
  run_ok zero depth k t J e {h = h} {l = l} hk sk s =
      judge_ok depth k t J l (step P e h l) _ hk (good e t J hk sk s) (λ h' l' e' hk' sk' s'. record { ends = tt; heap_ok = hk })
  run_ok (suc n) depth k t J e {h = h} {l = l} hk sk s =
      judge_ok depth k t J l (step P e h l) _ hk (good e t J hk sk s)
      (λ h' l' e' hk' sk' s'. run_ok n depth (suc k) t J e' hk' sk' s')
