-- The paper's number and place for each answer of the image check.
use Rattle.std.specs.Prelude.{List, [], ◌∷◌, ℕ, Result, Ok, Err}
use Rattle.order.specs.declared.Answer.{Answer}
use Rattle.order.specs.Rules.{Rule, accepted}
use Rattle.image.specs.Layout.{breach_numbers}
use Rattle.rules.specs.Numbers.{fields_rule, override_rule, typing_rule, setting_rule}
use Rattle.image_check.specs.declared.Rejected.{Rejected}
use Rattle.image_check.specs.declared.Rejected.TheVariants.{Layout, Fields, Override, Untyped, Unset}

abbrev pub rejected_numbers : Rejected → Answer
rejected_numbers (Layout b) = breach_numbers b
rejected_numbers (Fields p) = record { number = 10; place = p }
rejected_numbers (Override p) = record { number = 11; place = p }
rejected_numbers (Untyped p) = record { number = 12; place = p }
rejected_numbers (Unset p) = record { number = 13; place = p }

abbrev pub checked_numbers : Result Unit Rejected → Answer
checked_numbers (Ok u) = accepted
checked_numbers (Err r) = rejected_numbers r

-- the rules after the layout's
abbrev pub RulesFrom10 : List ℕ → List Rule
RulesFrom10 ws = fields_rule ws ∷ override_rule ws ∷ typing_rule ws ∷ setting_rule ws ∷ []
