-- Laws of the typing of an operand list, one operand after the other, and of the node after it.
use Prim.Native.Nat.{ℕ, zero, suc, ◌+◌, ◌-◌, ◌≤◌, ◌<◌}
use Rattle.std.specs.Prelude.{◌≡◌, Bool, true, false, List, [], ◌∷◌, ◌++◌, eqb, get_or, set, replicate}
use Rattle.std.proofs.Math.Path.{refl, ap}
use Rattle.std.proofs.Common.{sym, ◌∙◌, append_assoc, append-nil, add-one, get_or-set_same, get_or-set_other, eqb-true}
use native.Mathlib.Omega.{arith}
use Rattle.std.proofs.Math.ListN.{length, length-set}
use Rattle.std.proofs.lemmas.Bool.{eqb-false}
use Rattle.words.specs.declared.Ty.{Ty}
use Rattle.words.specs.declared.Ty.TheVariants.{Void}
use Rattle.std.specs.declared.option.Option.{Option as Maybe}
use Rattle.image.specs.Nodes.{node_word, kind_of, node_holds}
use Rattle.rules.specs.Maps.{tabulate}
use Rattle.rules.specs.Trees.{Expr, tree, operand, node_tree}
use Rattle.rules.specs.Program.{Program, Env, program}
use Rattle.rules.specs.Typing.{Res, ok, bad, ◌>>=◌, typing}
use Rattle.laws.specs.Maps.{tabulate_last, tabulate_same}
use Rattle.laws.specs.Trees.{operand_count, tree_node, known}
use Rattle.node_rules.specs.Env.{env_of, Has, EnvOk, AllHave, types_of, res_tys, operand_env, operand_typing, operands_typing, rule_of}
use Rattle.node_rules.specs.EnvLaws.{operand_last, operand_other}
use Rattle.node_rules.specs.Node.{node_rule, operand_types, typing_node}
use Rattle.std.specs.declared.result.Result.{Result}
use Rattle.std.specs.declared.result.Result.TheVariants.{Ok, Err}

-- ONE MORE TYPE
pub types_set : (types : List Ty) (i : ℕ) (t : Ty) → i < length types → types_of (suc i) (set types i t) ≡ types_of i types ++ (t ∷ [])
unfolding types_of
types_set types i t h =
    tabulate_last i (λ j. get_or (set types i t) j Void)
    ∙ rw (
      get_or-set_same types i t Void h,
      tabulate_same i (λ j. get_or (set types i t) j Void) (λ j. get_or types j Void) (λ j l. get_or-set_other types i j t Void (λ e. omega arith)),
    )

pub have_set : (ws : List ℕ) (types : List Ty) (i : ℕ) (t : Ty) → i < length types → Has ws t → AllHave ws types → AllHave ws (set types i t)
have_set ws types i t l h a j = go (eqb j i) refl
  where
    go : (b : Bool) → eqb j i ≡ b → Has ws (get_or (set types i t) j Void)
    go true e = rw (eqb-true j i e, get_or-set_same types i t Void l) h
    go false e = rw (get_or-set_other types i j t Void (eqb-false j i e)) (a j)

-- a list of nothing but a has a at every place, and behind its end
pub same_at : {A : Type 0} (a : A) (k i : ℕ) → get_or (replicate k a) i a ≡ a
same_at a zero i = refl
same_at a (suc k) zero = refl
same_at a (suc k) (suc i) = same_at a k i

pub have_voids : (ws : List ℕ) → AllHave ws (replicate 9 Void)
have_voids ws i = rw (same_at Void 9 i)

-- types that stand before those that are still to come
unfoldable pub before : List Ty → Res (List Ty) → Res (List Ty)
before ts r = r >>= (λ us. ok (ts ++ us))

before_none : (r : Res (List Ty)) → before [] r ≡ r
unfolding before ◌>>=◌
before_none (ok us) = refl
before_none (bad p) = refl

before_cons : (ts : List Ty) (t : Ty) (r : Res (List Ty)) → before ts (r >>= (λ us. ok (t ∷ us))) ≡ before (ts ++ (t ∷ [])) r
unfolding before ◌>>=◌
before_cons ts t (ok us) = ap ok (sym (append_assoc ts (t ∷ []) us))
before_cons ts t (bad p) = refl

-- the last operand's environment, and that of the others
unfoldable pub pick : (Γ Δ : Env) → ℕ → Env
pick Γ Δ zero = Δ
pick Γ Δ (suc j) = Γ

types_suc : (P : Program) (Γ Δ : Env) (o : ℕ → Expr) (k : ℕ)
    → operand_types P Γ Δ o (suc k) ≡ (typing P (o k) (pick Γ Δ k) >>= (λ t. operand_types P Γ Δ o k >>= (λ ts. ok (t ∷ ts))))
unfolding operand_types pick ◌>>=◌
types_suc P Γ Δ o zero = refl
types_suc P Γ Δ o (suc k) = refl

types_nil : (P : Program) (Γ Δ : Env) (o : ℕ → Expr) (k : ℕ) → k ≡ 0 → operand_types P Γ Δ o k ≡ ok []
unfolding operand_types
types_nil P Γ Δ o k h = rw h

-- A loop that has the types of the first i operands of node n: those that are left give the rest.
pub record Listing (ws : List ℕ) (n : ℕ) (env : List (Maybe Ty)) (types : List Ty) (i : ℕ) : Type 0 where
  pub within : i ≤ operand_count ws n
  pub size : length types ≡ 9
  pub known : AllHave ws types
  pub same : before (types_of i types)
      (operand_types (program ws) (env_of env) (env_of (operand_env ws n 0 env)) (λ j. tree ws (operand ws n j)) (operand_count ws n - i))
      ≡ operands_typing ws n env

module _ (ws : List ℕ) (n : ℕ) (env : List (Maybe Ty)) where
  abbrev left : ℕ → Res (List Ty)
  left k = operand_types (program ws) (env_of env) (env_of (operand_env ws n 0 env)) (λ j. tree ws (operand ws n j)) k

  pub list_start : (types : List Ty) → length types ≡ 9 → AllHave ws types → Listing ws n env types 0
  unfolding types_of tabulate operands_typing
  list_start types l a =
      let e : operand_count ws n - 0 ≡ operand_count ws n = omega arith in
      record { within = omega arith; size = l; known = a; same = rw e (before_none (left (operand_count ws n))) }

  pub list_end : (types : List Ty) (i : ℕ) → Listing ws n env types i → operand_count ws n ≤ i → ok (types_of (operand_count ws n) types) ≡ operands_typing ws n env
  unfolding before ◌>>=◌
  list_end types i s h =
      let e : operand_count ws n - i ≡ 0 = omega (arith, s.within) in
      let q : i ≡ operand_count ws n = omega (arith, s.within) in
      let z = types_nil (program ws) (env_of env) (env_of (operand_env ws n 0 env)) (λ j. tree ws (operand ws n j)) (operand_count ws n - i) e in
      ap (λ (k : ℕ). ok (types_of k types)) (sym q)
      ∙ ap ok (sym (append-nil (types_of i types)))
      ∙ rw z at s.same

  module _ (h : node_holds ws n ≡ true) (e : EnvOk ws env) (types : List Ty) (i : ℕ) (s : Listing ws n env types i) (l : i < operand_count ws n) where
    pick_env : (j : ℕ) → env_of (operand_env ws n j env) ≡ pick (env_of env) (env_of (operand_env ws n 0 env)) j
    unfolding pick
    pick_env zero = refl
    pick_env (suc j) = ap env_of (operand_other ws n h env e j)

    next : before (types_of i types)
        (operand_typing ws n (operand_count ws n - 1 - i) env >>= (λ t. left (operand_count ws n - suc i) >>= (λ ts. ok (t ∷ ts))))
        ≡ operands_typing ws n env
    unfolding operand_typing
    next =
        let m = operand_count ws n - suc i in
        let q : operand_count ws n - i ≡ suc m = omega arith in
        let r : operand_count ws n - 1 - i ≡ m = omega arith in
        rw (r, pick_env m) (rw (q, types_suc (program ws) (env_of env) (env_of (operand_env ws n 0 env)) (λ j. tree ws (operand ws n j)) m) at s.same)

    pub list_bad : (p : ℕ) → bad p ≡ operand_typing ws n (operand_count ws n - 1 - i) env → bad p ≡ operands_typing ws n env
    unfolding before ◌>>=◌
    list_bad p q = rw (← q) at next

    pub list_on : (t : Ty) → ok t ≡ operand_typing ws n (operand_count ws n - 1 - i) env → i < 9 → Has ws t → Listing ws n env (set types i t) (i + 1)
    unfolding ◌>>=◌
    list_on t q g k =
        let z : i < length types = omega (arith, s.size) in
        let w = rw (← q, before_cons (types_of i types) t (left (operand_count ws n - suc i))) at next in
        record {
          within = omega arith;
          size = length-set types i t ∙ s.size;
          known = have_set ws types i t z k s.known;
          same = rw (add-one i, types_set types i t z) w;
        }

  -- a node's type is what it makes of its operands' types
  pub type_node : node_holds ws n ≡ true → EnvOk ws env → rule_of ws n env (operands_typing ws n env) ≡ typing (program ws) (tree ws n) (env_of env)
  unfolding rule_of operands_typing node_tree
  type_node h e =
      rw (operand_last ws n h env e, tree_node ws n h)
      (sym (typing_node (program ws) (env_of env) n (node_word ws n 2) (node_word ws n 3) (λ j. tree ws (operand ws n j)) (kind_of (node_word ws n 0)) (known ws n h)))

  -- when the operands have been typed
  pub finish_bad : (r : Result (List Ty) ℕ) (p : ℕ) → r ≡ Err p → bad p ≡ rule_of ws n env (res_tys (operand_count ws n) r)
  unfolding rule_of ◌>>=◌
  finish_bad r p h = rw h

  pub finish_ok : (r : Result (List Ty) ℕ) (types : List Ty) → r ≡ Ok types
      → node_rule (program ws) (env_of env) (kind_of (node_word ws n 0)) n (node_word ws n 2) (node_word ws n 3) (types_of (operand_count ws n) types)
      ≡ rule_of ws n env (res_tys (operand_count ws n) r)
  unfolding rule_of ◌>>=◌
  finish_ok r types h = rw h
