-- A node's own premises, over the types of its operands, and the law that typing is that of the operand list and then these.
use Rattle.std.specs.Prelude.{ℕ, zero, suc, ◌≡◌, not, ◌&&◌, ◌||◌, List, [], ◌∷◌, eqb, get_or, drop}
use Rattle.std.proofs.Math.Path.{refl}
use Rattle.std.proofs.Common.{sym}
use Rattle.std.proofs.Math.Option.{some}
use Rattle.words.specs.declared.Ty.{Ty}
use Rattle.words.specs.declared.Ty.TheVariants.{Void, Boolean, Integer, Class}
use Rattle.words.specs.Value.{value_with}
use Rattle.words.specs.Types.{type_of}
use Rattle.image.specs.declared.Kind.{Kind}
use Rattle.image.specs.declared.Kind.TheVariants.{New, Cast, Value as Literal, Var, Add, Eq, Assign, Get, Set, Call, Block, Seq, If, While, Throw, Try, Unknown}
use Rattle.image.specs.Nodes.{operands}
use Rattle.rules.specs.Maps.{upd}
use Rattle.rules.specs.Trees.{Expr, node_of, arguments, written}
use Rattle.rules.specs.Program.{Program, Env}
use Rattle.rules.specs.Classes.{subclass, subtype, subtypes, sees_field, sees_method, same_type}
use Rattle.rules.specs.Typing.{Res, ok, bad, ◌>>=◌, need, found, literal, class, unremembered, typing, typings}

-- operand i's type
abbrev pub at : List Ty → ℕ → Ty
at ts i = get_or ts i Void

module _ (P : Program) (Γ : Env) where
  unfoldable pub node_rule : Kind → (p x y : ℕ) → List Ty → Res Ty
  node_rule New p x y ts = ok (Class x)
  node_rule Cast p x y ts = class p (at ts 0) >>= (λ d. need (subclass P d x || subclass P x d) p (Class x))
  node_rule Literal p x y ts = literal p (written (value_with x y))
  node_rule Var p x y ts = found p (Γ x)
  node_rule Add p x y ts = need (same_type (at ts 0) Integer && same_type (at ts 1) Integer) p Integer
  node_rule Eq p x y ts = need (subtype P (at ts 0) (at ts 1) || subtype P (at ts 1) (at ts 0)) p Boolean
  node_rule Assign p x y ts = found p (Γ x) >>= (λ u. need (not (eqb x 0) && subtype P (at ts 0) u) p (at ts 0))
  node_rule Get p x y ts =
      class p (at ts 0) >>= (λ c. found p (sees_field P c x) >>= (λ r. need (eqb r.owner y) p r.type))
  node_rule Set p x y ts =
      class p (at ts 0)
      >>= (λ c. found p (sees_field P c x) >>= (λ r. need (eqb r.owner y && subtype P (at ts 1) r.type) p (at ts 1)))
  node_rule Call p x y ts =
      class p (at ts 0)
      >>= (λ c. found p (sees_method P c x) >>= (λ r. need (subtypes P (drop 1 ts) r.params) p r.result))
  node_rule Block p x y ts = ok (at ts 0)
  node_rule Seq p x y ts = ok (at ts 1)
  node_rule If p x y ts = need (same_type (at ts 0) Boolean && same_type (at ts 1) (at ts 2)) p (at ts 1)
  node_rule While p x y ts = need (same_type (at ts 0) Boolean) p Void
  node_rule Throw p x y ts = class p (at ts 0) >>= (λ c. ok (type_of x))
  node_rule Try p x y ts = need (same_type (at ts 0) (at ts 1)) p (at ts 0)
  node_rule Unknown p x y ts = bad p

-- the environment of a node's last operand: a Block's body, and a Try's second part, have one variable more
unfoldable pub inner : Kind → (x y : ℕ) → Env → Env
inner New x y Γ = Γ
inner Cast x y Γ = Γ
inner Literal x y Γ = Γ
inner Var x y Γ = Γ
inner Add x y Γ = Γ
inner Eq x y Γ = Γ
inner Assign x y Γ = Γ
inner Get x y Γ = Γ
inner Set x y Γ = Γ
inner Call x y Γ = Γ
inner Block x y Γ = upd Γ x (some (type_of y))
inner Seq x y Γ = Γ
inner If x y Γ = Γ
inner While x y Γ = Γ
inner Throw x y Γ = Γ
inner Try x y Γ = upd Γ y (some (Class x))
inner Unknown x y Γ = Γ

-- the types of the last k operands, first to last, the last one in the environment Δ
unfoldable pub operand_types : Program → (Γ Δ : Env) → (ℕ → Expr) → (k : ℕ) → Res (List Ty)
operand_types P Γ Δ o zero = ok []
operand_types P Γ Δ o (suc zero) = typing P (o 0) Δ >>= (λ t. ok (t ∷ []))
operand_types P Γ Δ o (suc (suc k)) =
    typing P (o (suc k)) Γ >>= (λ t. operand_types P Γ Δ o (suc k) >>= (λ ts. ok (t ∷ ts)))

-- with one environment for all it is the typing of the list
pub types_list : (P : Program) (Γ : Env) (o : ℕ → Expr) (k : ℕ) → operand_types P Γ Γ o k ≡ typings P (arguments o k) Γ
unfolding operand_types typing arguments ◌>>=◌
types_list P Γ o zero = refl
types_list P Γ o (suc zero) = refl
types_list P Γ o (suc (suc k)) = rw (types_list P Γ o (suc k))

-- operands one after the other, and then what is done with their types
one : (r : Res Ty) (f : List Ty → Res Ty) → (r >>= (λ t. f (t ∷ []))) ≡ (r >>= (λ t. ok (t ∷ [])) >>= f)
unfolding ◌>>=◌
one (ok t) f = refl
one (bad q) f = refl

two : (r s : Res Ty) (f : List Ty → Res Ty)
    → (r >>= (λ t. s >>= (λ u. f (t ∷ u ∷ [])))) ≡ (r >>= (λ t. s >>= (λ u. ok (u ∷ [])) >>= (λ ts. ok (t ∷ ts))) >>= f)
unfolding ◌>>=◌
two (ok t) (ok u) f = refl
two (ok t) (bad q) f = refl
two (bad q) s f = refl

three : (r s w : Res Ty) (f : List Ty → Res Ty)
    → (r >>= (λ t. s >>= (λ u. w >>= (λ v. f (t ∷ u ∷ v ∷ [])))))
    ≡ (r >>= (λ t. s >>= (λ u. w >>= (λ v. ok (v ∷ [])) >>= (λ ts. ok (u ∷ ts))) >>= (λ ts. ok (t ∷ ts))) >>= f)
unfolding ◌>>=◌
three (ok t) (ok u) (ok v) f = refl
three (ok t) (ok u) (bad q) f = refl
three (ok t) (bad q) w f = refl
three (bad q) s w f = refl

last : (r s : Res Ty) (f : List Ty → Res Ty) → ((t u : Ty) → f (t ∷ u ∷ []) ≡ ok u)
    → (r >>= (λ t. s)) ≡ (r >>= (λ t. s >>= (λ u. ok (u ∷ [])) >>= (λ ts. ok (t ∷ ts))) >>= f)
unfolding ◌>>=◌
last (ok t) (ok u) f h = sym (h t u)
last (ok t) (bad q) f h = refl
last (bad q) s f h = refl

alone : (r : Res Ty) (f : List Ty → Res Ty) → ((t : Ty) → f (t ∷ []) ≡ ok t) → r ≡ (r >>= (λ t. ok (t ∷ [])) >>= f)
unfolding ◌>>=◌
alone (ok t) f h = sym (h t)
alone (bad q) f h = refl

many : (r : Res Ty) (rs : Res (List Ty)) (f : List Ty → Res Ty)
    → (r >>= (λ t. rs >>= (λ ts. f (t ∷ ts)))) ≡ (r >>= (λ t. rs >>= (λ ts. ok (t ∷ ts))) >>= f)
unfolding ◌>>=◌
many (ok t) (ok ts) f = refl
many (ok t) (bad q) f = refl
many (bad q) rs f = refl

module _ (P : Program) (Γ : Env) (p x y : ℕ) (o : ℕ → Expr) where
  -- a Call's receiver stands before its arguments
  calls : (k : ℕ) → operand_types P Γ Γ o (suc k) ≡ (typing P (o k) Γ >>= (λ t. typings P (arguments o k) Γ >>= (λ ts. ok (t ∷ ts))))
  unfolding typing arguments
  calls k = types_list P Γ o (suc k)

  -- a node's type is that of its operand list, and then its own premises
  pub typing_node : (k : Kind) → (k ≡ Unknown → ⊥)
      → typing P (node_of k p x y o) Γ ≡ (operand_types P Γ (inner k x y Γ) o (operands k y) >>= node_rule P Γ k p x y)
  unfolding typing node_of operands operand_types inner ◌>>=◌ node_rule unremembered
  typing_node New h = refl
  typing_node Cast h = one (typing P (o 0) Γ) (node_rule P Γ Cast p x y)
  typing_node Literal h = refl
  typing_node Var h = refl
  typing_node Add h = two (typing P (o 1) Γ) (typing P (o 0) Γ) (node_rule P Γ Add p x y)
  typing_node Eq h = two (typing P (o 1) Γ) (typing P (o 0) Γ) (node_rule P Γ Eq p x y)
  typing_node Assign h = one (typing P (o 0) Γ) (node_rule P Γ Assign p x y)
  typing_node Get h = one (typing P (o 0) Γ) (node_rule P Γ Get p x y)
  typing_node Set h = two (typing P (o 1) Γ) (typing P (o 0) Γ) (node_rule P Γ Set p x y)
  typing_node Call h = rw (calls y) (many (typing P (o y) Γ) (typings P (arguments o y) Γ) (node_rule P Γ Call p x y))
  typing_node Block h = alone (typing P (o 0) (upd Γ x (some (type_of y)))) (node_rule P Γ Block p x y) (λ t. refl)
  typing_node Seq h = last (typing P (o 1) Γ) (typing P (o 0) Γ) (node_rule P Γ Seq p x y) (λ t u. refl)
  typing_node If h = three (typing P (o 2) Γ) (typing P (o 1) Γ) (typing P (o 0) Γ) (node_rule P Γ If p x y)
  typing_node While h = two (typing P (o 1) Γ) (typing P (o 0) Γ) (node_rule P Γ While p x y)
  typing_node Throw h = one (typing P (o 0) Γ) (node_rule P Γ Throw p x y)
  typing_node Try h = two (typing P (o 1) Γ) (typing P (o 0) (upd Γ y (some (Class x)))) (node_rule P Γ Try p x y)
  typing_node Unknown h = absurd (h refl)
