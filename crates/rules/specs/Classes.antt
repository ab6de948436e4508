-- Classes: superclass chain, subclass and subtype; the fields and methods that a class sees and has; the override rule.
use Rattle.std.specs.Prelude.{ℕ, zero, suc, Bool, true, false, cond, ◌&&◌, ◌||◌, List, [], ◌∷◌, ◌++◌, eqb, leb, get_or}
use Rattle.std.proofs.Math.Option.{Option, none, some}
use Rattle.words.specs.declared.Ty.{Ty}
use Rattle.words.specs.declared.Ty.TheVariants.{Void, Boolean, Integer, NT, Class}
use Rattle.words.specs.Types.{type_word}
use Rattle.rules.specs.Program.{Field, Method, Program}

unfoldable pub among : ℕ → List ℕ → Bool
among d [] = false
among d (c ∷ cs) = eqb c d || among d cs

abbrev pub or_else {ℓ} : {A : Type ℓ} → Option A → Option A → Option A
or_else none b = b
or_else (some a) b = some a

module _ (P : Program) where
  abbrev pub super : ℕ → ℕ
  super c = get_or P.supers c 0

  -- the classes from c upwards; a superclass has a lower number, so c steps reach class 0
  unfoldable pub chain : (steps c : ℕ) → List ℕ
  chain zero c = c ∷ []
  chain (suc n) zero = zero ∷ []
  chain (suc n) (suc c) = suc c ∷ chain n (super (suc c))

  unfoldable pub above : ℕ → List ℕ
  above c = chain c c

  -- c is a subclass of d
  unfoldable pub subclass : (c d : ℕ) → Bool
  subclass c d = among d (above c)

  -- Subtype: equal types, the null type below every class, subclass.
  unfoldable pub subtype : Ty → Ty → Bool
  subtype Void t = eqb 0 (type_word t)
  subtype Boolean t = eqb 1 (type_word t)
  subtype Integer t = eqb 2 (type_word t)
  subtype NT t = leb 3 (type_word t)
  subtype (Class c) Void = false
  subtype (Class c) Boolean = false
  subtype (Class c) Integer = false
  subtype (Class c) NT = false
  subtype (Class c) (Class d) = subclass c d

  unfoldable pub subtypes : List Ty → List Ty → Bool
  subtypes [] [] = true
  subtypes [] (u ∷ us) = false
  subtypes (t ∷ ts) [] = false
  subtypes (t ∷ ts) (u ∷ us) = subtype t u && subtypes ts us

  -- the field of a name that a class declares
  unfoldable pub declared_in : List Field → (c f : ℕ) → Option Field
  declared_in [] c f = none
  declared_in (r ∷ rs) c f = cond (eqb r.owner c && eqb r.name f) (some r) (declared_in rs c f)

  -- The seen field: in the first class that declares the name, going up. Its record tells the declaring class and the type.
  unfoldable pub sees_field_in : List ℕ → (f : ℕ) → Option Field
  sees_field_in [] f = none
  sees_field_in (c ∷ cs) f = or_else (declared_in P.fields c f) (sees_field_in cs f)

  unfoldable pub sees_field : (c f : ℕ) → Option Field
  sees_field c f = sees_field_in (above c) f

  -- the seen method, likewise
  unfoldable pub method_in : List Method → (c m : ℕ) → Option Method
  method_in [] c m = none
  method_in (r ∷ rs) c m = cond (eqb r.owner c && eqb r.name m) (some r) (method_in rs c m)

  unfoldable pub sees_method_in : List ℕ → (m : ℕ) → Option Method
  sees_method_in [] m = none
  sees_method_in (c ∷ cs) m = or_else (method_in P.methods c m) (sees_method_in cs m)

  unfoldable pub sees_method : (c m : ℕ) → Option Method
  sees_method c m = sees_method_in (above c) m

  -- the fields that one class declares, in table order
  unfoldable pub own : List Field → (c : ℕ) → List Field
  own [] c = []
  own (f ∷ fs) c = cond (eqb f.owner c) (f ∷ own fs c) (own fs c)

  -- the fields that a class has, in heap order: those of the highest superclass first
  unfoldable pub fields_of : List ℕ → List Field
  fields_of [] = []
  fields_of (c ∷ cs) = fields_of cs ++ own P.fields c

  unfoldable pub has_fields : ℕ → List Field
  has_fields c = fields_of (above c)

  -- An overriding method has as many arguments; each overridden argument type is a subtype of its own, and its result is a
  -- subtype of the overridden result. Nothing is overridden where the class above sees no method of the name.
  unfoldable pub overrides : Method → Option Method → Bool
  overrides r none = true
  overrides r (some o) = subtypes o.params r.params && subtype r.result o.result

  unfoldable pub override_holds : Method → Bool
  override_holds r = overrides r (sees_method (super r.owner) r.name)

-- The had field: the index of the field of that name that class d declares, among an object's fields in heap order.
unfoldable pub index_from : List Field → (d f i : ℕ) → Option ℕ
index_from [] d f i = none
index_from (r ∷ rs) d f i = cond (eqb r.owner d && eqb r.name f) (some i) (index_from rs d f (suc i))

unfoldable pub field_index : List Field → (d f : ℕ) → Option ℕ
field_index fs d f = index_from fs d f 0

-- equal types
abbrev pub same_type : Ty → Ty → Bool
same_type t u = eqb (type_word t) (type_word u)
