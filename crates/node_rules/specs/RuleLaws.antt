-- Laws of a node's own premises.
use Prim.Native.Nat.{ℕ, zero, suc, ◌+◌, ◌≤◌, ◌<◌}
use Rattle.std.proofs.Math.Path.{◌≡◌, refl}
use Rattle.std.proofs.Common.{sym}
use Rattle.std.specs.Prelude.{Bool, not, ◌&&◌, ◌||◌, List, [], ◌∷◌, ltb, get_or, is_some}
use Rattle.std.proofs.Math.Bool.{true, false}
use Rattle.std.proofs.Math.Option.{Option, none, some}
use native.Mathlib.Omega.{arith}
use Rattle.std.proofs.Math.Dec.{leb, eqb}
use borrow.Author.Tests.{ltb-true, lt-ltb, leb-true}
use Rattle.words.specs.declared.Ty.{Ty}
use Rattle.words.specs.declared.Ty.TheVariants.{Void, Boolean, Integer, NT, Class}
use Rattle.words.specs.Types.{type_of, is_type, is_declared, known}
use Rattle.words.specs.Value.{value_with, is_value, given}
use Rattle.words.specs.declared.Value.{Value}
use Rattle.words.specs.declared.Value.TheVariants.{Null, Intg}
use Rattle.image.specs.declared.Kind.TheVariants.{New, Cast, Value as Literal, Var, Add, Eq, Assign, Get, Set, Call, Block, If, While, Throw, Try, Unknown}
use Rattle.image.specs.Numbers.{variables, most_arguments, highest_name, written_tags}
use Rattle.image.specs.Trailer.{class_count, type_count}
use Rattle.image.specs.Laws.{and_left, and_right}
use Rattle.image.specs.Records.{field_word, method_word, member_holds, field_holds, method_holds, is_user_class, is_name, arguments_hold}
use Rattle.image.specs.Nodes.{is_class, is_variable, is_local, is_unused, names_hold}
use Rattle.rules.specs.Maps.{tabulate}
use Rattle.rules.specs.Trees.{written}
use Rattle.rules.specs.Program.{Program, Env, program, field_at, method_at, types_from}
use Rattle.rules.specs.Classes.{subclass, subtype, subtypes, sees_field, sees_method, same_type}
use Rattle.rules.specs.Typing.{Res, bad, ◌>>=◌, need, found, literal, class}
use Rattle.classes.specs.Sees.{FieldAt, MethodAt}
use Rattle.std.specs.declared.result.Result.TheVariants.{Ok, Err}
use Rattle.std.specs.declared.option.Option.{Option as Maybe}
use Rattle.std.specs.declared.option.Option.TheVariants.{Some, None}
use Rattle.std.specs.Prelude.{ok_or}
use Rattle.std.specs.Bool.{then_some}
use Rattle.node_rules.specs.Env.{entry, env_of, Has, MayHave, Answers, is_object, literal_type, types_of}
use Rattle.node_rules.specs.EnvLaws.{type_had, declared_had}
use Rattle.node_rules.specs.Node.{node_rule}

-- WHAT x AND y ARE
module _ (classes x y : ℕ) where
  pub names_new : names_hold classes New x y ≡ true → x < classes
  unfolding names_hold is_class
  names_new h = ltb-true x classes (and_left (is_class classes x) (is_unused y) h)

  pub names_cast : names_hold classes Cast x y ≡ true → x < classes
  unfolding names_hold is_class
  names_cast h = ltb-true x classes (and_left (is_class classes x) (is_unused y) h)

  pub names_value : names_hold classes Literal x y ≡ true → (x < written_tags) × (is_value x y ≡ true)
  unfolding names_hold
  names_value h = (ltb-true x written_tags (and_left (ltb x written_tags) (is_value x y) h), and_right (ltb x written_tags) (is_value x y) h)

  pub names_var : names_hold classes Var x y ≡ true → x < variables
  unfolding names_hold is_variable
  names_var h = ltb-true x variables (and_left (is_variable x) (is_unused y) h)

  pub names_assign : names_hold classes Assign x y ≡ true → x < variables
  unfolding names_hold is_variable
  names_assign h = ltb-true x variables (and_left (is_variable x) (is_unused y) h)

  pub names_get : names_hold classes Get x y ≡ true → x ≤ highest_name
  unfolding names_hold is_name
  names_get h = leb-true x highest_name (and_left (is_name x) (is_class classes y) h)

  pub names_set : names_hold classes Set x y ≡ true → x ≤ highest_name
  unfolding names_hold is_name
  names_set h = leb-true x highest_name (and_left (is_name x) (is_class classes y) h)

  pub names_call : names_hold classes Call x y ≡ true → (x ≤ highest_name) × (y ≤ most_arguments)
  unfolding names_hold is_name
  names_call h = (leb-true x highest_name (and_left (is_name x) (leb y most_arguments) h), leb-true y most_arguments (and_right (is_name x) (leb y most_arguments) h))

  pub names_block : names_hold classes Block x y ≡ true → x < variables
  unfolding names_hold is_local
  names_block h =
      ltb-true x variables (and_right (leb 1 x) (ltb x variables) (and_left (is_local x) (is_declared y classes) h))

  pub names_try : names_hold classes Try x y ≡ true → y < variables
  unfolding names_hold is_local
  names_try h = ltb-true y variables (and_right (leb 1 y) (ltb y variables) (and_right (is_class classes x) (is_local y) h))

  pub names_throw : names_hold classes Throw x y ≡ true → known (type_of x) classes ≡ true
  unfolding names_hold
  names_throw h = type_had x classes (and_left (is_type x classes) (is_unused y) h)

  pub names_unknown : names_hold classes Unknown x y ≡ true → ⊥
  unfolding names_hold
  names_unknown h = let z : ◌≡◌ {A = ℕ} 0 1 = cc in omega arith

-- what a rule may ask of x and y
pub ruleset named = (names_new, names_cast, names_var, names_assign, names_get, names_set, names_call)

-- RECORDS
member_type : (classes c n t : ℕ) → member_holds classes c n t ≡ true → known (type_of t) classes ≡ true
unfolding member_holds
member_type classes c n t h = declared_had t classes (and_right (is_user_class classes c && is_name n) (is_declared t classes) h)

member_class : (classes c n t : ℕ) → member_holds classes c n t ≡ true → c < classes
unfolding member_holds is_user_class
member_class classes c n t h =
    ltb-true c classes
    (and_right (leb 4 c) (ltb c classes)
    (and_left (leb 4 c && ltb c classes) (is_name n) (and_left (is_user_class classes c && is_name n) (is_declared t classes) h)))

module _ (ws : List ℕ) where
  pub field_type_lem : (i : ℕ) → field_holds ws i ≡ true → Has ws (type_of (field_word ws i 2))
  unfolding field_holds
  field_type_lem i h = member_type (class_count ws) (field_word ws i 0) (field_word ws i 1) (field_word ws i 2) (and_left _ _ h)

  pub method_result : (i : ℕ) → method_holds ws i ≡ true → Has ws (type_of (method_word ws i 2))
  unfolding method_holds
  method_result i h =
      member_type (class_count ws) (method_word ws i 0) (method_word ws i 1) (method_word ws i 2) (and_left _ _ (and_left _ _ h))

  pub method_arguments : (i : ℕ) → method_holds ws i ≡ true
      → (method_word ws i 4 ≤ most_arguments) × (method_word ws i 3 + method_word ws i 4 ≤ type_count ws)
  unfolding method_holds arguments_hold
  method_arguments i h =
      let a = and_right (member_holds (class_count ws) (method_word ws i 0) (method_word ws i 1) (method_word ws i 2)) (arguments_hold (type_count ws) (method_word ws i 3) (method_word ws i 4)) (and_left _ _ h) in
      let p = leb (method_word ws i 4) most_arguments in
      let q = leb (method_word ws i 3 + method_word ws i 4) (type_count ws) in
      (leb-true _ _ (and_left p q a), leb-true _ _ (and_right p q a))

  pub method_class : (i : ℕ) → method_holds ws i ≡ true → method_word ws i 0 < class_count ws
  unfolding method_holds
  method_class i h =
      member_class (class_count ws) (method_word ws i 0) (method_word ws i 1) (method_word ws i 2) (and_left _ _ (and_left _ _ h))

-- PREMISES
-- a type that is no class, where a class is asked for
pub class_bad : {A : Type 0} (p : ℕ) (t : Ty) (f : ℕ → Res A) → ((c : ℕ) → t ≡ Class c → ⊥) → (class p t >>= f) ≡ bad p
unfolding class ◌>>=◌
class_bad p Void f h = refl
class_bad p Boolean f h = refl
class_bad p Integer f h = refl
class_bad p NT f h = refl
class_bad p (Class c) f h = absurd (h c refl)

-- something that was looked up
module _ {A B : Type 0} (p : ℕ) where
  pub found_bad : (o : Option B) (f : B → Res A) → o ≡ none → (found p o >>= f) ≡ bad p
  unfolding ◌>>=◌ found
  found_bad o f h = rw h

  pub found_ok : (o : Option B) (b : B) (f : B → Res A) → o ≡ some b → (found p o >>= f) ≡ f b
  unfolding ◌>>=◌ found
  found_ok o b f h = rw h

module _ (ws : List ℕ) (n : ℕ) where
  pub answer_need : (b : Bool) (t : Ty) → Has ws t → Answers ws (ok_or (then_some b t) n) (need b n t)
  unfolding need
  answer_need true t h = record { says = refl; known = h }
  answer_need false t h = record { says = refl; known = tt }

  pub answer_bad : {s : Res Ty} → s ≡ bad n → Answers ws (Err n) s
  answer_bad e = record { says = sym e; known = tt }

-- what is given is what is written
given_written : (b : Bool) (v : Value) → is_some (given b v) ≡ true → written (given b v) ≡ v
given_written true v h = refl
given_written false v h = absurd (let z : ◌≡◌ {A = ℕ} 0 1 = cc in omega arith)

-- EACH KIND
module _ (P : Program) (Γ : Env) (ws : List ℕ) (n x y : ℕ) where
  pub rule_new : x < class_count ws → Answers ws (Ok (Class x)) (node_rule P Γ New n x y [])
  unfolding node_rule
  rule_new h = record { says = refl; known = lt-ltb x (class_count ws) h }

  pub rule_value : x < written_tags → is_value x y ≡ true → Answers ws (Ok (literal_type x)) (node_rule P Γ Literal n x y [])
  unfolding node_rule literal_type is_value value_with literal
  rule_value h v = go x h v
    where
      go : (x : ℕ) → x < written_tags → is_value x y ≡ true → Answers ws (Ok (literal_type x)) (node_rule P Γ Literal n x y [])
      go zero h v = rw (given_written _ Value.Unit v) (record { says = refl; known = refl })
      go (suc zero) h v = rw (given_written _ Null v) (record { says = refl; known = refl })
      go (suc (suc zero)) h v = rw (given_written _ (Value.Bool (eqb y 1)) v) (record { says = refl; known = refl })
      go (suc (suc (suc zero))) h v = rw (given_written _ (Intg y) v) (record { says = refl; known = refl })
      go (suc (suc (suc (suc t)))) h v = absurd (omega arith)

  pub rule_add : (a b : Ty) → Answers ws (ok_or (then_some (same_type a Integer && same_type b Integer) Integer) n) (node_rule P Γ Add n x y (a ∷ b ∷ []))
  unfolding node_rule
  rule_add a b = answer_need ws n _ Integer refl

  pub rule_if : (a b c : Ty) → Has ws b
      → Answers ws (ok_or (then_some (same_type a Boolean && same_type b c) b) n) (node_rule P Γ If n x y (a ∷ b ∷ c ∷ []))
  unfolding node_rule
  rule_if a b c h = answer_need ws n _ b h

  pub rule_while : (a b : Ty) → Answers ws (ok_or (then_some (same_type a Boolean) Void) n) (node_rule P Γ While n x y (a ∷ b ∷ []))
  unfolding node_rule
  rule_while a b = answer_need ws n _ Void refl

  pub rule_throw : (t : Ty) → Has ws (type_of x) → Answers ws (ok_or (then_some (is_object t) (type_of x)) n) (node_rule P Γ Throw n x y (t ∷ []))
  unfolding node_rule class ◌>>=◌
  rule_throw Void h = record { says = refl; known = tt }
  rule_throw Boolean h = record { says = refl; known = tt }
  rule_throw Integer h = record { says = refl; known = tt }
  rule_throw NT h = record { says = refl; known = tt }
  rule_throw (Class c) h = record { says = refl; known = h }

  pub rule_try : (a b : Ty) → Has ws a → Answers ws (ok_or (then_some (same_type a b) a) n) (node_rule P Γ Try n x y (a ∷ b ∷ []))
  unfolding node_rule
  rule_try a b h = answer_need ws n _ a h

module _ (ws : List ℕ) (n x : ℕ) where
  -- a class is asked for, and there is none
  pub cast_none : (Γ : Env) (y : ℕ) (t : Ty) → ((c : ℕ) → t ≡ Class c → ⊥) → Answers ws (Err n) (node_rule (program ws) Γ Cast n x y (t ∷ []))
  unfolding node_rule
  cast_none Γ y t h = answer_bad ws n (class_bad n t _ h)

  pub cast_class : (Γ : Env) (y c : ℕ) → x < class_count ws
      → Answers ws (ok_or (then_some (subclass (program ws) c x || subclass (program ws) x c) (Class x)) n) (node_rule (program ws) Γ Cast n x y (Class c ∷ []))
  unfolding node_rule class ◌>>=◌
  cast_class Γ y c l = answer_need ws n _ (Class x) (lt-ltb x (class_count ws) l)

  pub get_none : (Γ : Env) (y : ℕ) (t : Ty) → ((c : ℕ) → t ≡ Class c → ⊥) → Answers ws (Err n) (node_rule (program ws) Γ Get n x y (t ∷ []))
  unfolding node_rule
  get_none Γ y t h = answer_bad ws n (class_bad n t _ h)

  pub get_nothing : (Γ : Env) (y c : ℕ) → sees_field (program ws) c x ≡ none
      → Answers ws (Err n) (node_rule (program ws) Γ Get n x y (Class c ∷ []))
  unfolding node_rule class ◌>>=◌
  get_nothing Γ y c e = answer_bad ws n (found_bad n (sees_field (program ws) c x) _ e)

  pub get_field_lem : (Γ : Env) (y c d i : ℕ) → field_holds ws i ≡ true → FieldAt ws c x d i
      → Answers ws (ok_or (then_some (eqb d y) (type_of (field_word ws i 2))) n) (node_rule (program ws) Γ Get n x y (Class c ∷ []))
  unfolding node_rule field_at class ◌>>=◌
  get_field_lem Γ y c d i g f =
      rw (found_ok n (sees_field (program ws) c x) (field_at ws i) (λ r. need (eqb r.owner y) n r.type) f.sees, ← f.owner)
      (answer_need ws n (eqb (field_word ws i 0) y) (type_of (field_word ws i 2)) (field_type_lem ws i g))

  pub set_none : (Γ : Env) (y : ℕ) (t u : Ty) → ((c : ℕ) → t ≡ Class c → ⊥) → Answers ws (Err n) (node_rule (program ws) Γ Set n x y (t ∷ u ∷ []))
  unfolding node_rule
  set_none Γ y t u h = answer_bad ws n (class_bad n t _ h)

  pub set_nothing : (Γ : Env) (y c : ℕ) (u : Ty) → sees_field (program ws) c x ≡ none
      → Answers ws (Err n) (node_rule (program ws) Γ Set n x y (Class c ∷ u ∷ []))
  unfolding node_rule class ◌>>=◌
  set_nothing Γ y c u e = answer_bad ws n (found_bad n (sees_field (program ws) c x) _ e)

  pub set_field : (Γ : Env) (y c : ℕ) (u : Ty) (d i : ℕ) → Has ws u → FieldAt ws c x d i
      → Answers ws (ok_or (then_some (eqb d y && subtype (program ws) u (type_of (field_word ws i 2))) u) n) (node_rule (program ws) Γ Set n x y (Class c ∷ u ∷ []))
  unfolding node_rule field_at class ◌>>=◌
  set_field Γ y c u d i h f =
      rw (found_ok n (sees_field (program ws) c x) (field_at ws i) (λ r. need (eqb r.owner y && subtype (program ws) u r.type) n u) f.sees, ← f.owner)
      (answer_need ws n (eqb (field_word ws i 0) y && subtype (program ws) u (type_of (field_word ws i 2))) u h)

  pub eq_types : (Γ : Env) (y : ℕ) (a b : Ty)
      → Answers ws (ok_or (then_some (subtype (program ws) a b || subtype (program ws) b a) Boolean) n) (node_rule (program ws) Γ Eq n x y (a ∷ b ∷ []))
  unfolding node_rule
  eq_types Γ y a b = answer_need ws n _ Boolean refl

  module _ (env : List (Maybe Ty)) (y : ℕ) where
    pub var_answer : MayHave ws (get_or env x None) → Answers ws (ok_or (get_or env x None) n) (node_rule (program ws) (env_of env) Var n x y [])
    unfolding node_rule env_of found entry
    var_answer h = go (get_or env x None) h
      where
        go : (o : Maybe Ty) → MayHave ws o → Answers ws (ok_or o n) (found n (entry o))
        go (Some t) h = record { says = refl; known = h }
        go None h = record { says = refl; known = tt }

    pub assign_none : (t : Ty) → get_or env x None ≡ None → Answers ws (Err n) (node_rule (program ws) (env_of env) Assign n x y (t ∷ []))
    unfolding node_rule env_of entry
    assign_none t e = answer_bad ws n (found_bad n (entry (get_or env x None)) _ (rw e))

    pub assign_type : (t u : Ty) → get_or env x None ≡ Some u → Has ws t
        → Answers ws (ok_or (then_some (not (eqb x 0) && subtype (program ws) t u) t) n) (node_rule (program ws) (env_of env) Assign n x y (t ∷ []))
    unfolding node_rule env_of entry found ◌>>=◌
    assign_type t u e h = rw e (answer_need ws n (not (eqb x 0) && subtype (program ws) t u) t h)

  module _ (Γ : Env) (y : ℕ) (types : List Ty) where
    pub call_none : ((c : ℕ) → get_or types 0 Void ≡ Class c → ⊥) → Answers ws (Err n) (node_rule (program ws) Γ Call n x y (types_of (suc y) types))
    unfolding node_rule types_of tabulate
    call_none h = answer_bad ws n (class_bad n (get_or types 0 Void) _ h)

    pub call_nothing : (c : ℕ) → get_or types 0 Void ≡ Class c → sees_method (program ws) c x ≡ none
        → Answers ws (Err n) (node_rule (program ws) Γ Call n x y (types_of (suc y) types))
    unfolding node_rule types_of tabulate class ◌>>=◌
    call_nothing c h e = answer_bad ws n (rw h (found_bad n (sees_method (program ws) c x) _ e))

    pub call_method : (c d i : ℕ) → get_or types 0 Void ≡ Class c → method_holds ws i ≡ true → MethodAt ws c x d i
        → Answers ws (ok_or (then_some (subtypes (program ws) (tabulate y (λ j. get_or types (suc j) Void)) (types_from ws (method_word ws i 3) (method_word ws i 4))) (type_of (method_word ws i 2))) n) (node_rule (program ws) Γ Call n x y (types_of (suc y) types))
    unfolding node_rule types_of tabulate method_at class ◌>>=◌
    call_method c d i h g f =
        let us = tabulate y (λ j. get_or types (suc j) Void) in
        rw (h, found_ok n (sees_method (program ws) c x) (method_at ws i) (λ r. need (subtypes (program ws) us r.params) n r.result) f.sees)
        (answer_need ws n _ (type_of (method_word ws i 2)) (method_result ws i g))
