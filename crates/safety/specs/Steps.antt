-- What a good step is, and one lemma for each way in which a node uses its operands' steps: under, both, block, call, try, lists.
use Rattle.std.specs.Prelude.{ℕ, suc, ◌+◌, ◌≤◌, ◌<◌, ◌≡◌, refl, Bool, cond, leb, length}
use Rattle.std.proofs.Common.{sym, ap, ◌∙◌, arith, eq-eqb, leb-true}
use Rattle.std.proofs.Math.Bool.{true, false}
use Rattle.std.proofs.Math.Option.{Option, some}
use mathlib.Core.List.{List, [], ◌∷◌}
use Rattle.std.proofs.Math.Decide.{ℕ_discrete}
use Rattle.words.specs.declared.Value.{Value}
use Rattle.words.specs.declared.Value.TheVariants.{Addr}
use Rattle.words.specs.declared.Ty.{Ty}
use Rattle.words.specs.declared.Ty.TheVariants.{Boolean, Class}
use Rattle.image.specs.Laws.{and_left, and_right}
use Rattle.rules.specs.Maps.{upd, from}
use Rattle.rules.specs.Trees.{Expr, Exprs, val, block}
use Rattle.rules.specs.Program.{Method, Program, Env, method_env}
use Rattle.rules.specs.Classes.{subclass, subtype, subtypes, sees_method}
use Rattle.rules.specs.Setting.{Vars, between}
use Rattle.rules.specs.Heap.{obj, Heap, look}
use Rattle.rules.specs.Step.{Store, null_pointer, thrown_at, Redex, gives, raises, fails, Out, Outs, value, values, load, to, redex, under, unders, both, if_out, throw_out, block_out, cons_out, tail_out, blocks, enter, call_slot, call_out, catch_slot, try_out}
use Rattle.laws.specs.Maps.{upd_same, upd_other, upd_restore}
use Rattle.laws.specs.Classes.{Lower}
use Rattle.figures.proofs.Agreement.{never}
use Rattle.safety.specs.Sets.{no_one, ◌⊆◌, ⊆_refl, ⊆_trans, ⊆_upd, ⊆_same, ∪_join, ∪_right, dom, dom_upd, dom_leave, dom_stay, stay_upd, dom_grow, set_more}
use Rattle.safety.specs.Conform.{class_in, ◌≼◌, ≼_refl, ◌⊑◌, ⊑_refl, Le, Conf, Holds, StoreOk, HeapOk, AllConf, le_refl, le_trans, conf_mono, conf_le, store_mono, store_set, store_leave, addr_conf, conf_object, system_conf}
use Rattle.safety.specs.Safe.{both_of, Both, Safe, Safes, move, mono, monos}
use Rattle.safety.specs.Remember.{blocked_safe}
use Rattle.safety.specs.Tables.{Fits, owner_above}
use Rattle.safety.specs.Redexes.{RedexOk, bool_value, class_value}

-- types and variables inside a call's blocks
unfoldable pub env_from : Env → (x : ℕ) → List Ty → Env
env_from Γ x [] = Γ
env_from Γ x (t ∷ ts) = env_from (upd Γ x (some t)) (suc x) ts

unfoldable pub set_from : Vars → (x : ℕ) → List Ty → Vars
set_from I x [] = I
set_from I x (t ∷ ts) = set_from (upd I x true) (suc x) ts

env_below : (ts : List Ty) (Γ : Env) (x y : ℕ) → y < x → env_from Γ x ts y ≡ Γ y
unfolding env_from
env_below [] Γ x y l = refl
env_below (t ∷ ts) Γ x y l = env_below ts (upd Γ x (some t)) (suc x) y (omega arith) ∙ upd_other Γ x (some t) y (λ e. omega arith)

env_from_lem : (ts : List Ty) (Γ : Env) (x : ℕ) → from x ts ⊑ env_from Γ x ts
unfolding env_from from
env_from_lem [] Γ x = record { at = λ y t e. no_one e }
env_from_lem (u ∷ ts) Γ x = record { at = λ y t. go (env_from_lem ts (upd Γ x (some u)) (suc x)) y t (ℕ_discrete x y) }
  where
    go : from (suc x) ts ⊑ env_from (upd Γ x (some u)) (suc x) ts → (y : ℕ) (t : Ty) → Dec (x ≡ y)
        → upd (from (suc x) ts) x (some u) y ≡ some t → env_from (upd Γ x (some u)) (suc x) ts y ≡ some t
    go ih y t (yes q) e =
        env_below ts (upd Γ x (some u)) (suc x) y (omega arith)
        ∙ rw (← q) (upd_same Γ x (some u) ∙ sym (upd_same (from (suc x) ts) x (some u)))
        ∙ e
    go ih y t (no n) e = ih.at y t (sym (upd_other (from (suc x) ts) x (some u) y n) ∙ e)

set_kept : (ts : List Ty) (I : Vars) (x : ℕ) → I ⊆ set_from I x ts
unfolding set_from
set_kept [] I x = ⊆_refl
set_kept (t ∷ ts) I x = ⊆_trans (set_more I x) (set_kept ts (upd I x true) (suc x))

set_from_lem : (ts : List Ty) (I : Vars) (x y : ℕ) → x ≤ y → y < x + length ts → set_from I x ts y ≡ true
unfolding set_from
set_from_lem [] I x y l m = absurd (omega arith)
set_from_lem (t ∷ ts) I x y l m = go (ℕ_discrete x y) (λ k. set_from_lem ts (upd I x true) (suc x) y k (omega arith))
  where
    go : Dec (x ≡ y) → (suc x ≤ y → set_from (upd I x true) (suc x) ts y ≡ true) → set_from (upd I x true) (suc x) ts y ≡ true
    go (yes q) ih = (set_kept ts (upd I x true) (suc x)).at y (rw (← q) (upd_same I x true))
    go (no n) ih = ih (omega arith)

between_set : (t : Ty) (ts : List Ty) (I : Vars) → between 0 (length ts) ⊆ set_from I 0 (t ∷ ts)
unfolding between
between_set t ts I =
    record {
      at = λ x e. set_from_lem (t ∷ ts) I 0 x (omega arith)
          (omega (arith, leb-true x (length ts) (and_right (leb 0 x) (leb x (length ts)) e)));
    }

module _ (P : Program) where
  -- what an accepted program gives: 4, 11, 12 and 13
  pub record Wf : Type 0 where
    pub low : Lower P
    pub inherits : (d m : ℕ) (r : Method) → sees_method P d m ≡ some r → (c : ℕ) → subclass P c d ≡ true
        → (q : Method) × (sees_method P c m ≡ some q) × Fits P q r
    pub body : (c m : ℕ) (r : Method) → sees_method P c m ≡ some r → (h : Heap)
        → Safe P (load r.body) (method_env r) (between 0 (length r.params)) h r.result (λ x. false)

  -- the state after a step; S is what holds of the expression
  pub record Kept (Γ : Env) (h : Heap) (l : Store) (h' : Heap) (l' : Store) (S : Type 0) : Type 0 where
    pub safe : S
    pub heap_ok : HeapOk P h'
    pub store_ok : StoreOk P h' l' Γ
    pub keeps : h ≼ h'
    pub grow : dom l ⊆ dom l'

  -- never stuck; a value conforms, a thrown address is an object's, and what it becomes is safe
  abbrev pub Good : Env → Ty → Vars → Heap → Store → Out → Type 0
  Good Γ t J h l (value q v) = record { fits : Conf P h v t; after : J ⊆ dom l }
  Good Γ t J h l (Out.thrown a) = Conf P h (Addr a) (Class 0)
  Good Γ t J h l (Out.next d q h' l' e) = Kept Γ h l h' l' (Safe P e Γ (dom l') h' t J)
  Good Γ t J h l (Out.stuck d q) = ⊥

  abbrev pub Goods : Env → List Ty → Vars → Heap → Store → Outs → Type 0
  Goods Γ ts J h l (values vs) = record { fits : AllConf P h vs ts; after : J ⊆ dom l }
  Goods Γ ts J h l (Outs.thrown a) = Conf P h (Addr a) (Class 0)
  Goods Γ ts J h l (Outs.next d q h' l' es) = Kept Γ h l h' l' (Safes P es Γ (dom l') h' ts J)
  Goods Γ ts J h l (Outs.stuck d q) = ⊥

  kept_map : {Γ : Env} {h h' : Heap} {l l' : Store} {S S' : Type 0} → (S → S') → Kept Γ h l h' l' S → Kept Γ h l h' l' S'
  kept_map f k = record { safe = f k.safe; heap_ok = k.heap_ok; store_ok = k.store_ok; keeps = k.keeps; grow = k.grow }

  module _ (W : Wf) where
    low : Lower P
    low = W.low

    all_le : (h : Heap) (vs : List Value) (ts us : List Ty) → subtypes P ts us ≡ true → AllConf P h vs ts → AllConf P h vs us
    unfolding subtypes
    all_le h [] [] [] s c = tt
    all_le h [] [] (u ∷ us) s c = absurd (never s)
    all_le h [] (t ∷ ts) us s c = absurd c
    all_le h (v ∷ vs) [] us s c = absurd c
    all_le h (v ∷ vs) (t ∷ ts) [] s c = absurd (never s)
    all_le h (v ∷ vs) (t ∷ ts) (u ∷ us) s c =
        let k : Le P t u = record { ok = and_left (subtype P t u) (subtypes P ts us) s } in
        (conf_le P low k c.0, all_le h vs ts us (and_right (subtype P t u) (subtypes P ts us) s) c.1)

    all_length : (h : Heap) (vs : List Value) (ts : List Ty) → AllConf P h vs ts → length vs ≡ length ts
    all_length h [] [] c = refl
    all_length h [] (t ∷ ts) c = absurd c
    all_length h (v ∷ vs) [] c = absurd c
    all_length h (v ∷ vs) (t ∷ ts) c = ap suc (all_length h vs ts c.1)

    -- the blocks of a call
    blocks_safe : (ts : List Ty) (vs : List Value) (p x : ℕ) (e : Expr) (Γ : Env) (I : Vars) (h : Heap) (t : Ty) → AllConf P h vs ts
        → Safe P e (env_from Γ x ts) (set_from I x ts) h t (set_from I x ts)
        → Safe P (blocks p x ts vs e) Γ I h t I
    unfolding blocks env_from set_from Safe
    blocks_safe [] vs p x e Γ I h t c s = s
    blocks_safe (u ∷ us) [] p x e Γ I h t c s = absurd c
    blocks_safe (u ∷ us) (v ∷ vs) p x e Γ I h t c s =
        record {
          mid = upd I x true;
          held = c.0;
          body = blocks_safe us vs p (suc x) e (upd Γ x (some u)) (upd I x true) h t c.1 s;
          after = ⊆_same (sym (upd_restore I x true));
        }

    module _ {Γ : Env} {h : Heap} {l : Store} (hk : HeapOk P h) (sk : StoreOk P h l Γ) where
      -- the expression changes, and nothing else
      pub keep : {S : Type 0} → S → Kept Γ h l h l S
      keep s = record { safe = s; heap_ok = hk; store_ok = sk; keeps = ≼_refl; grow = ⊆_refl }

      pub raised : (p a : ℕ) (t : Ty) (J : Vars) → Conf P h (Addr a) (Class 0) → Good Γ t J h l (to p h l (thrown_at p a))
      unfolding Safe
      raised p a t J o = keep (record { mid = dom l; operand = record { fits = o; after = ⊆_refl } })

      pub redex_good : (p : ℕ) (r : Redex) (t : Ty) (J : Vars) → RedexOk P h t r → J ⊆ dom l → Good Γ t J h l (redex p h l r)
      unfolding redex Safe
      redex_good p (gives h' v) t J g j =
          record {
            safe = record { fits = g.fits; after = j };
            heap_ok = g.heap_ok;
            store_ok = store_mono P low g.keeps sk;
            keeps = g.keeps;
            grow = ⊆_refl;
          }
      redex_good p (raises a) t J g j = raised p a t J g
      redex_good p fails t J g j = g

      module _ (p : ℕ) (t : Ty) (J : Vars) where
        -- an operand of type u, after which K is set
        pub under_good : (o : Out) (k : Expr → Expr) (f : ℕ → Value → Out) (u : Ty) (K : Vars) → Good Γ u K h l o
            → ((h' : Heap) (l' : Store) (e : Expr) → h ≼ h' → Safe P e Γ (dom l') h' u K → Safe P (k e) Γ (dom l') h' t J)
            → ((q : ℕ) (v : Value) → Conf P h v u → K ⊆ dom l → Good Γ t J h l (f q v))
            → Good Γ t J h l (under p h l o k f)
        unfolding under
        under_good (value q v) k f u K g r d = d q v g.fits g.after
        under_good (Out.thrown a) k f u K g r d = raised p a t J g
        under_good (Out.next n q h' l' e) k f u K g r d = kept_map (r h' l' e g.keeps) g
        under_good (Out.stuck n q) k f u K g r d = g

        pub unders_good : (o : Outs) (k : Exprs → Expr) (f : List Value → Out) (us : List Ty) (K : Vars) → Goods Γ us K h l o
            → ((h' : Heap) (l' : Store) (es : Exprs) → h ≼ h' → Safes P es Γ (dom l') h' us K → Safe P (k es) Γ (dom l') h' t J)
            → ((vs : List Value) → AllConf P h vs us → K ⊆ dom l → Good Γ t J h l (f vs))
            → Good Γ t J h l (unders p h l o k f)
        unfolding unders
        unders_good (values vs) k f us K g r d = d vs g.fits g.after
        unders_good (Outs.thrown a) k f us K g r d = raised p a t J g
        unders_good (Outs.next n q h' l' es) k f us K g r d = kept_map (r h' l' es g.keeps) g
        unders_good (Outs.stuck n q) k f us K g r d = g

        -- two operands, and what the node asks of their types
        pub both_good : (a b : Expr) (oa ob : Out) (around : Expr → Expr → Expr) (then : Value → Value → Redex) (S : Ty → Ty → Type 0)
            → ((a b : Expr) (h' : Heap) (l' : Store)
            → Both (λ u K. Safe P a Γ (dom l') h' u K) (λ K w. Safe P b Γ K h' w J) S → Safe P (around a b) Γ (dom l') h' t J)
            → ((u : Ty) (K : Vars) → Safe P a Γ (dom l) h u K → Good Γ u K h l oa)
            → ((w : Ty) → Safe P b Γ (dom l) h w J → Good Γ w J h l ob)
            → ((v w : Value) (u u' : Ty) → Conf P h v u → Conf P h w u' → S u u' → RedexOk P h t (then v w))
            → Both (λ u K. Safe P a Γ (dom l) h u K) (λ K w. Safe P b Γ K h w J) S
            → Good Γ t J h l (both p h l a b oa ob around then)
        unfolding both Safe
        both_good a b oa ob around then S node ga gb ok s =
            under_good oa (λ a'. around a' b) _ s.type_l s.mid (ga s.type_l s.mid s.left)
            (λ h' l' e x k.
            node e b h' l'
            (both_of s.mid s.type_l s.type_r k
            (mono P low b ⊑_refl ⊆_refl x (le_refl P low) ⊆_refl s.right)
            s.rule))
            (λ q v k i.
            under_good ob (around (val q v)) _ s.type_r J
            (gb s.type_r (mono P low b ⊑_refl i ≼_refl (le_refl P low) ⊆_refl s.right))
            (λ h' l' e x n.
            node (val q v) e h' l'
            (both_of (dom l') s.type_l s.type_r (record { fits = conf_mono P low x (le_refl P low) k; after = ⊆_refl })
            n
            s.rule))
            (λ r w n j. redex_good p (then v w) t J (ok v w s.type_l s.type_r k n s.rule) j))

        pub if_good : (v : Value) (a b : Expr) → Conf P h v Boolean → Safe P a Γ (dom l) h t J → Safe P b Γ (dom l) h t J
            → Good Γ t J h l (if_out p h l v a b)
        unfolding if_out
        if_good v a b k sa sb = bool_value P low hk (λ v. Good Γ t J h l (if_out p h l v a b)) v k go
          where
            go : (c : Bool) → Good Γ t J h l (if_out p h l (Value.Bool c) a b)
            go true = keep sa
            go false = keep sb

        pub throw_good : (v : Value) → Conf P h v (Class 0) → Good Γ t J h l (throw_out p h l v)
        unfolding throw_out redex
        throw_good v k =
            class_value P low hk (λ v. Good Γ t J h l (throw_out p h l v)) v 0 k
            (raised p null_pointer t J (system_conf P low null_pointer (omega arith) hk))
            (λ a d vs e u. addr_conf P low a d 0 hk (ap class_in e) u)

        pub assign_good : (x : ℕ) (v : Value) (u w : Ty) (K : Vars) → Γ x ≡ some u → Conf P h v w → Le P w u → Le P w t
            → K ⊆ dom l → J ⊆ upd K x true → Good Γ t J h l (Out.next 0 p h (upd l x (some v)) (val p v))
        unfolding Safe
        assign_good x v u w K e c s s' k j =
            record {
              safe =
                  record {
                    fits = conf_le P low s' c;
                    after = ⊆_trans j (⊆_trans (⊆_upd x true true (λ y. y) k) (⊆_same (sym (dom_upd l x (some v)))));
                  };
              heap_ok = hk;
              store_ok = store_set P low x v sk (rw e (conf_le P low s c));
              keeps = ≼_refl;
              grow = rw (dom_upd l x (some v)) (set_more (dom l) x);
            }

        -- a call: the blocks around the body of the method that the object's class sees
        enter_good : (a c m : ℕ) (fs vs : List Value) (r : Method) → look h a ≡ obj c fs → sees_method P c m ≡ some r
            → AllConf P h vs r.params
            → Le P r.result t → J ⊆ dom l → Good Γ t J h l (enter P p h l a vs (some r))
        unfolding enter method_env
        enter_good a c m fs vs r e q cs s j = rw (eq-eqb (length vs) (length r.params) (all_length h vs r.params cs)) (keep whole)
          where
            ts : List Ty
            ts = Class r.owner ∷ r.params

            I : Vars
            I = set_from (dom l) 0 ts

            inside : Safe P (load r.body) (env_from Γ 0 ts) I h r.result I
            inside =
                move P low (load r.body) I (between 0 (length r.params)) (λ x. false) (env_from_lem ts Γ 0)
                (∪_join (between_set (Class r.owner) r.params (dom l)) ⊆_refl)
                ≼_refl (le_refl P low) (∪_right (λ x. false) I) (W.body c m r q h)

            whole : Safe P (blocks p 0 ts (Addr a ∷ vs) (load r.body)) Γ (dom l) h t J
            whole =
                mono P low (blocks p 0 ts (Addr a ∷ vs) (load r.body)) ⊑_refl ⊆_refl ≼_refl s j
                (blocks_safe ts (Addr a ∷ vs) p 0 (load r.body) Γ (dom l) h r.result
                (addr_conf P low a c r.owner hk (ap class_in e) (owner_above P low c m r q), cs) inside)

        pub call_good : (m c : ℕ) (v : Value) (vs : List Value) (r : Method) → Conf P h v (Class c) → sees_method P c m ≡ some r
            → AllConf P h vs r.params → Le P r.result t → J ⊆ dom l → Good Γ t J h l (call_out P p h l m v vs)
        unfolding call_out call_slot redex
        call_good m c v vs r k q cs s j =
            class_value P low hk (λ v. Good Γ t J h l (call_out P p h l m v vs)) v c k
            (raised p null_pointer t J (system_conf P low null_pointer (omega arith) hk))
            (λ a d fs e u.
            let i = W.inherits c m r q d u in
            rw (e, i.1)
            (enter_good a d m fs vs i.0 e i.1 (all_le h vs r.params i.0.params i.2.params cs)
            (le_trans P low i.2.result s) j))

        catch_good : (c x a : ℕ) (b : Expr) (K : Vars) → Conf P h (Addr a) (Class 0)
            → Safe P b (upd Γ x (some (Class c))) (upd (dom l) x true) h t K
            → J ⊆ upd K x (dom l x) → Good Γ t J h l (catch_slot P p h l c x b a (look h a))
        unfolding catch_slot Safe
        catch_good c x a b K k sb j = let o = conf_object P low k in rw o.2 (go o.0 o.1 o.2 (subclass P o.0 c) refl)
          where
            go : (d : ℕ) (vs : List Value) → look h a ≡ obj d vs → (z : Bool) → subclass P d c ≡ z
                → Good Γ t J h l (cond z (to p h l (block p x (Class c) (some (Addr a)) b)) (to p h l (thrown_at p a)))
            go d vs e true u = keep (record { mid = K; held = addr_conf P low a d c hk (ap class_in e) u; body = sb; after = j })
            go d vs e false u = raised p a t J k

        pub try_good : (c x : ℕ) (b : Expr) (o : Out) (K : Vars) → Good Γ t J h l o
            → Safe P b (upd Γ x (some (Class c))) (upd (dom l) x true) h t K
            → J ⊆ upd K x (dom l x) → Good Γ t J h l (try_out P p h l c x b o)
        unfolding try_out Safe
        try_good c x b (value q v) K g sb j = keep g
        try_good c x b (Out.thrown a) K g sb j = catch_good c x a b K g sb j
        try_good c x b (Out.next d q h' l' e) K g sb j =
            kept_map
            (λ s.
            record {
              mid = K;
              body = s;
              handler = mono P low b ⊑_refl (⊆_upd x true true (λ u. u) g.grow) g.keeps (le_refl P low) ⊆_refl sb;
              after = ⊆_trans j (⊆_upd x (dom l x) (dom l' x) (g.grow.at x) ⊆_refl);
            })
            g
        try_good c x b (Out.stuck d q) K g sb j = g

        pub block_good : (x : ℕ) (u : Ty) (mv : Option Value) (o : Out) (K : Vars) → Good (upd Γ x (some u)) t K h (upd l x mv) o
            → J ⊆ upd K x (dom l x) → Good Γ t J h l (block_out p x u h l o)
        unfolding block_out Safe
        block_good x u mv (value q v) K g j = keep (record { fits = g.fits; after = dom_leave l x mv j g.after })
        block_good x u mv (Out.thrown a) K g j = raised p a t J g
        block_good x u mv (Out.next d q h' l' e) K g j =
            let now : Holds P h' (l' x) (some u) = rw upd_same at (g.store_ok.at x) in
            record {
              safe =
                  blocked_safe P low p x u Γ (dom (upd l' x (l x))) h' t J (l' x) e
                  (record {
                    mid = K;
                    held = now;
                    body = mono P low e ⊑_refl (dom_stay l l' x) ≼_refl (le_refl P low) ⊆_refl g.safe;
                    after = stay_upd K l l' x j;
                  });
              heap_ok = g.heap_ok;
              store_ok = store_leave P low x (some u) (store_mono P low g.keeps sk) g.store_ok;
              keeps = g.keeps;
              grow = dom_grow l l' x mv g.grow;
            }
        block_good x u mv (Out.stuck d q) K g j = g

      -- operand lists
      module _ (u : Ty) (us ts : List Ty) (J : Vars) (split : ts ≡ u ∷ us) where
        pub cons_good : (o : Out) (es : Exprs) (f : ℕ → Value → Outs) (K : Vars) → Good Γ u K h l o → Safes P es Γ K h us J
            → ((q : ℕ) (v : Value) → Conf P h v u → K ⊆ dom l → Goods Γ ts J h l (f q v))
            → Goods Γ ts J h l (cons_out o es f)
        unfolding cons_out Safe
        cons_good (value q v) es f K g s d = d q v g.fits g.after
        cons_good (Out.thrown a) es f K g s d = g
        cons_good (Out.next n q h' l' e') es f K g s d =
            kept_map
            (λ k.
            record {
              mid = K;
              type = u;
              types = us;
              split = split;
              head = k;
              rest = monos P low es us ⊑_refl ⊆_refl
                  g.keeps ⊆_refl s;
            })
            g
        cons_good (Out.stuck n q) es f K g s d = g

        pub tail_good : (q : ℕ) (v : Value) (o : Outs) → Conf P h v u → Goods Γ us J h l o → Goods Γ ts J h l (tail_out q v o)
        unfolding tail_out Safe
        tail_good q v (values vs) c g = record { fits = rw split (c, g.fits); after = g.after }
        tail_good q v (Outs.thrown a) c g = g
        tail_good q v (Outs.next n r h' l' es) c g =
            kept_map
            (λ k.
            record {
              mid = dom l';
              type = u;
              types = us;
              split = split;
              head = record { fits = conf_mono P low g.keeps (le_refl P low) c; after = ⊆_refl };
              rest = k;
            })
            g
        tail_good q v (Outs.stuck n r) c g = g
