-- The image check's promise, for the reader: its answer is the lowest breach of 1 to 13, or 0 where there is none; and no other answer is.
use Rattle.std.specs.Prelude.{◌≡◌, refl, cond, ◌↔◌, List, [], ◌∷◌, ℕ, ◌-◌, eqb, ltb, get_or, Result, Ok, Err}
use Rattle.std.proofs.Common.{sym, ◌∙◌, arith}
use Rattle.order.specs.declared.Answer.{Answer}
use Rattle.order.specs.Rules.{answer_of, accepted, Tells, Sound}
use Rattle.order.specs.Lowest.{Rising, only, accepts, determined}
use Rattle.image.specs.Layout.{format_rule, trailer_rule, ceiling_rule, class_rule, field_rule, method_rule, type_rule, node_rule, body_rule, record_rules, layout_rules, tested}
use Rattle.layout.specs.Promise.{breach_of, breach_back, breach_range}
use Rattle.rules.specs.Numbers.{fields_rule, override_rule, typing_rule, setting_rule, check_rules}
use Rattle.image_check.specs.Answers.{checked_numbers}
use Rattle.image_check.specs.declared.Rejected.{Rejected}
use Rattle.image_check.specs.declared.Rejected.TheVariants.{Layout, Fields, Override, Untyped, Unset}

pub rising : (ws : List ℕ) → Rising 0 (check_rules ws)
unfolding check_rules layout_rules record_rules format_rule trailer_rule ceiling_rule class_rule field_rule method_rule type_rule node_rule body_rule tested fields_rule override_rule typing_rule setting_rule
rising ws = omega arith

-- an answer meets the promise exactly when it tells the first breach
pub first_breach : (ws : List ℕ) (a : Answer) → (a ≡ answer_of (check_rules ws)) ↔ Tells (check_rules ws) a
first_breach ws = only (check_rules ws) (rising ws)

-- the image is accepted exactly when no rule from 1 to 13 is broken anywhere
pub image_accepted : (ws : List ℕ) → (answer_of (check_rules ws) ≡ accepted) ↔ Sound (check_rules ws)
image_accepted ws = accepts (check_rules ws) (rising ws)

-- two answers that meet the promise are equal
pub same_answer : (ws : List ℕ) (a b : Answer) → a ≡ answer_of (check_rules ws) → b ≡ answer_of (check_rules ws) → a ≡ b
same_answer ws a b e f = e ∙ sym f

-- The result is determined too. The answer of a number and place:
checked_of : Answer → Result Unit Rejected
checked_of a =
    cond
    (eqb a.number 0)
    (Ok tt)
    (Err
    (cond
    (ltb a.number 10)
    (Layout (breach_of a))
    (get_or (Fields ∷ Override ∷ Untyped ∷ Unset ∷ []) (a.number - 10) Fields a.place)))

-- each answer is that of its own number and place,
back : (c : Result Unit Rejected) → checked_of (checked_numbers c) ≡ c
unfolding checked_of
back (Ok u) = refl
back (Err (Layout b)) = rw ((breach_range b).0, (breach_range b).1, breach_back b)
back (Err (Fields p)) = refl
back (Err (Override p)) = refl
back (Err (Untyped p)) = refl
back (Err (Unset p)) = refl

-- so two of the same number and place are equal.
pub same_checked : (c d : Result Unit Rejected) → checked_numbers c ≡ checked_numbers d → c ≡ d
same_checked = determined checked_numbers checked_of back
