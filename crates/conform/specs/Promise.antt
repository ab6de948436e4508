-- The conformity check's promise, for the reader: its answer is the lowest breach of 1 to 10 and 14 to 18, or 0 where there is
-- none; and no other answer is.
use Rattle.std.specs.Prelude.{◌≡◌, refl, cond, List, [], ◌∷◌, ◌↔◌, ℕ, ◌-◌, eqb, ltb, get_or}
use Rattle.std.proofs.Common.{sym, ◌∙◌, arith}
use Rattle.order.specs.declared.Answer.{Answer}
use Rattle.order.specs.Rules.{answer_of, accepted, Tells, Sound}
use Rattle.order.specs.Lowest.{Rising, only, accepts, determined}
use Rattle.image.specs.Layout.{format_rule, trailer_rule, ceiling_rule, class_rule, field_rule, method_rule, type_rule, node_rule, body_rule, record_rules, layout_rules, tested}
use Rattle.layout.specs.Promise.{breach_of, breach_back, breach_range}
use Rattle.rules.specs.Numbers.{fields_rule, heap_length_rule, heap_word_rule, input_rule, heap_rule, input_type_rule, conform_rules}
use Rattle.conform.specs.Answers.{conformed_numbers}
use Rattle.std.specs.declared.result.Result.{Result}
use Rattle.std.specs.declared.result.Result.TheVariants.{Ok, Err}
use Rattle.conform.specs.declared.Unfit.{Unfit}
use Rattle.conform.specs.declared.Unfit.TheVariants.{Layout, Fields, HeapLength, HeapWord, Input, HeapValue, InputValue}

rising : (ws hs is : List ℕ) → Rising 0 (conform_rules ws hs is)
unfolding conform_rules layout_rules record_rules format_rule trailer_rule ceiling_rule class_rule field_rule method_rule type_rule node_rule body_rule tested fields_rule heap_length_rule heap_word_rule input_rule heap_rule input_type_rule
rising ws hs is = omega arith

module _ (ws hs is : List ℕ) where
  -- an answer meets the promise exactly when it tells the first breach
  pub first_breach : (a : Answer) → (a ≡ answer_of (conform_rules ws hs is)) ↔ Tells (conform_rules ws hs is) a
  first_breach = only (conform_rules ws hs is) (rising ws hs is)

  -- the answer is 0 exactly when no rule of the question is broken anywhere
  pub conformity_accepted : (answer_of (conform_rules ws hs is) ≡ accepted) ↔ Sound (conform_rules ws hs is)
  conformity_accepted = accepts (conform_rules ws hs is) (rising ws hs is)

  -- two answers that meet the promise are equal
  pub same_answer : (a b : Answer) → a ≡ answer_of (conform_rules ws hs is) → b ≡ answer_of (conform_rules ws hs is) → a ≡ b
  same_answer a b e f = e ∙ sym f

-- The result is determined too. The one of a number and place:
conformed_of : Answer → Result Unit Unfit
conformed_of a =
    cond
    (eqb a.number 0)
    (Ok tt)
    (cond
    (ltb a.number 10)
    (Err (Layout (breach_of a)))
    (cond
    (eqb a.number 10)
    (Err (Fields a.place))
    (Err (get_or ((λ p. HeapLength) ∷ HeapWord ∷ Input ∷ HeapValue ∷ InputValue ∷ []) (a.number - 14) HeapWord a.place))))

-- each is that of its own number and place,
back : (c : Result Unit Unfit) → conformed_of (conformed_numbers c) ≡ c
unfolding conformed_of
back (Ok tt) = refl
back (Err (Layout b)) = rw ((breach_range b).0, (breach_range b).1, breach_back b)
back (Err (Fields p)) = refl
back (Err HeapLength) = refl
back (Err (HeapWord p)) = refl
back (Err (Input p)) = refl
back (Err (HeapValue p)) = refl
back (Err (InputValue p)) = refl

-- so two of the same number and place are equal.
pub same_conformed : (c d : Result Unit Unfit) → conformed_numbers c ≡ conformed_numbers d → c ≡ d
same_conformed = determined conformed_numbers conformed_of back
