-- The layout check's promise, for the reader: its answer is the lowest breach of 1 to 9, or 0 where there is none; and no other answer is.
use Rattle.std.specs.Prelude.{◌≡◌, refl, true, false, List, [], ◌∷◌, ◌↔◌, ℕ, zero, suc, ◌<◌, eqb, ltb, get_or}
use Rattle.std.proofs.Common.{sym, ◌∙◌, ap, arith}
use Rattle.std.proofs.lemmas.Bool.{eqb-false}
use Rattle.order.specs.declared.Answer.{Answer}
use Rattle.order.specs.Rules.{answer_of, accepted, Tells}
use Rattle.order.specs.Rules.{Sound as Unbroken}
use Rattle.order.specs.Lowest.{Rising, only, accepts, determined}
use Rattle.image.specs.Layout.{format_rule, trailer_rule, ceiling_rule, class_rule, field_rule, method_rule, type_rule, node_rule, body_rule, record_rules, layout_rules, tested, breach_numbers, laid_numbers, Lay, Brings}
use Rattle.image.specs.declared.Layout.{Layout}
use Rattle.image.specs.declared.Breach.{Breach}
use Rattle.image.specs.declared.Breach.TheVariants.{Format, Trailer, Ceiling, ClassRecord, FieldRecord, MethodRecord, TypeWord, NodeRecord, Bodies}
use Rattle.std.specs.declared.result.Result.{Result}
use Rattle.std.specs.declared.result.Result.TheVariants.{Ok, Err}

pub layout_rising : (ws : List ℕ) → Rising 0 (layout_rules ws)
unfolding layout_rules record_rules format_rule trailer_rule ceiling_rule class_rule field_rule method_rule type_rule node_rule body_rule tested
layout_rising ws = omega arith

-- an answer meets the promise exactly when it tells the first breach
pub first_breach : (ws : List ℕ) (a : Answer) → (a ≡ answer_of (layout_rules ws)) ↔ Tells (layout_rules ws) a
first_breach ws = only (layout_rules ws) (layout_rising ws)

-- the answer is 0 exactly when no rule from 1 to 9 is broken anywhere
pub layout_accepted : (ws : List ℕ) → (answer_of (layout_rules ws) ≡ accepted) ↔ Unbroken (layout_rules ws)
layout_accepted ws = accepts (layout_rules ws) (layout_rising ws)

-- two answers that meet the promise are equal
pub same_answer : (ws : List ℕ) (a b : Answer) → a ≡ answer_of (layout_rules ws) → b ≡ answer_of (layout_rules ws) → a ≡ b
same_answer ws a b e f = e ∙ sym f

-- The enum is determined too. Each breach has a number of its own,
pub breach_of : Answer → Breach
breach_of a =
    get_or
    ((λ p. Format)
    ∷ (λ p. Format)
    ∷ Trailer
    ∷ Ceiling
    ∷ ClassRecord
    ∷ FieldRecord
    ∷ MethodRecord
    ∷ TypeWord
    ∷ NodeRecord
    ∷ Bodies
    ∷ [])
    a.number
    (λ p. Format)
    a.place

pub breach_back : (b : Breach) → breach_of (breach_numbers b) ≡ b
unfolding breach_of
breach_back Format = refl
breach_back (Trailer p) = refl
breach_back (Ceiling p) = refl
breach_back (ClassRecord p) = refl
breach_back (FieldRecord p) = refl
breach_back (MethodRecord p) = refl
breach_back (TypeWord p) = refl
breach_back (NodeRecord p) = refl
breach_back (Bodies p) = refl

pub same_breach : (b c : Breach) → breach_numbers b ≡ breach_numbers c → b ≡ c
same_breach = determined breach_numbers breach_of breach_back

-- none of them is 0 or above 9,
pub breach_range : (b : Breach) → (eqb (breach_numbers b).number 0 ≡ false) × (ltb (breach_numbers b).number 10 ≡ true)
breach_range Format = (refl, refl)
breach_range (Trailer p) = (refl, refl)
breach_range (Ceiling p) = (refl, refl)
breach_range (ClassRecord p) = (refl, refl)
breach_range (FieldRecord p) = (refl, refl)
breach_range (MethodRecord p) = (refl, refl)
breach_range (TypeWord p) = (refl, refl)
breach_range (NodeRecord p) = (refl, refl)
breach_range (Bodies p) = (refl, refl)

breach_number : (b : Breach) → (breach_numbers b).number ≡ 0 → ⊥
breach_number b e = eqb-false (breach_numbers b).number 0 (breach_range b).0 e

pub breach_told : (b : Breach) → 0 < (breach_numbers b).number
breach_told b = positive (breach_numbers b).number (breach_number b)
  where
    positive : (n : ℕ) → (n ≡ 0 → ⊥) → 0 < n
    positive zero d = absurd (d refl)
    positive (suc n) d = omega arith

-- and an image has one layout.
pub same_layout : (ws : List ℕ) (l m : Layout) → Lay ws l → Lay ws m → l ≡ m
same_layout ws l m y z =
    let fields : l.fields ≡ m.fields = omega (arith, y.fields_at, z.fields_at) in
    let methods : l.methods ≡ m.methods = omega (arith, y.methods_at, z.methods_at) in
    let types : l.types ≡ m.types = omega (arith, y.types_at, z.types_at) in
    let nodes : l.nodes ≡ m.nodes = omega (arith, y.nodes_at, z.nodes_at) in
    λ i.
    record {
      class_count = (y.class_count_lem ∙ sym z.class_count_lem) i;
      fields = fields i;
      field_count = (y.field_count_lem ∙ sym z.field_count_lem) i;
      methods = methods i;
      method_count = (y.method_count_lem ∙ sym z.method_count_lem) i;
      types = types i;
      type_count = (y.type_count_lem ∙ sym z.type_count_lem) i;
      nodes = nodes i;
      node_count = (y.node_count_lem ∙ sym z.node_count_lem) i;
      main = (y.main ∙ sym z.main) i;
      inputs = (y.inputs ∙ sym z.inputs) i;
    }

pub same_laid : (ws : List ℕ) (a b : Result Layout Breach) → laid_numbers a ≡ laid_numbers b → Brings ws a → Brings ws b → a ≡ b
same_laid ws (Ok l) (Ok m) e y z = ap Ok (same_layout ws l m y.lay z.lay)
same_laid ws (Ok l) (Err c) e y z = absurd (breach_number c (sym (ap (λ (a : Answer). a.number) e)))
same_laid ws (Err b) (Ok m) e y z = absurd (breach_number b (ap (λ (a : Answer). a.number) e))
same_laid ws (Err b) (Err c) e y z = ap Err (same_breach b c e)
