-- Laws: rules asked after others.
use Rattle.std.specs.Prelude.{◌≡◌, refl, false, cond, List, [], ◌∷◌, ◌++◌, ℕ, eqb}
use Rattle.std.proofs.Common.{ne_eqb}
use native.Mathlib.Omega.{arith}
use Rattle.std.specs.declared.option.Option.{Option}
use Rattle.std.specs.declared.option.Option.TheVariants.{Some, None}
use Rattle.order.specs.declared.Answer.{Answer}
use Rattle.order.specs.Rules.{Rule, first_place, accepted, or_else, answer_of}
use Rattle.order.specs.Lowest.{Rising}
use Rattle.image.specs.declared.Breach.{Breach}
use Rattle.image.specs.declared.Breach.TheVariants.{Format, Trailer, Ceiling, ClassRecord, FieldRecord, MethodRecord, TypeWord, NodeRecord, Bodies}
use Rattle.image.specs.Layout.{format_rule, trailer_rule, ceiling_rule, class_rule, field_rule, method_rule, type_rule, node_rule, body_rule, record_rules, layout_rules, tested, breach_numbers}
use Rattle.rules.specs.Numbers.{check_rules}
use Rattle.image_check.specs.Answers.{RulesFrom10}

-- the second answer where the first is 0
abbrev pub or_next : Answer → Answer → Answer
or_next a b = cond (eqb a.number 0) b a

-- the rules of two lists: those of the second count where no rule of the first is broken
pub answer_append : (n : ℕ) (rs ss : List Rule) → Rising n rs → answer_of (rs ++ ss) ≡ or_next (answer_of rs) (answer_of ss)
unfolding answer_of
answer_append n [] ss g = refl
answer_append n (r ∷ rs) ss g = go (first_place r) (answer_append r.number rs ss g.1)
  where
    go : (f : Option ℕ) → answer_of (rs ++ ss) ≡ or_next (answer_of rs) (answer_of ss)
        → or_else r.number f (answer_of (rs ++ ss)) ≡ or_next (or_else r.number f (answer_of rs)) (answer_of ss)
    go (Some p) e = let h : eqb r.number 0 ≡ false = ne_eqb r.number 0 (λ q. omega (arith, g.0, q)) in rw h
    go None e = e

-- no breach of the layout has number 0
breach_first : (b : Breach) (a : Answer) → or_next (breach_numbers b) a ≡ breach_numbers b
breach_first Format a = refl
breach_first (Trailer p) a = refl
breach_first (Ceiling p) a = refl
breach_first (ClassRecord p) a = refl
breach_first (FieldRecord p) a = refl
breach_first (MethodRecord p) a = refl
breach_first (TypeWord p) a = refl
breach_first (NodeRecord p) a = refl
breach_first (Bodies p) a = refl

module _ (ws : List ℕ) where
  rising : Rising 0 (layout_rules ws)
  unfolding layout_rules record_rules format_rule trailer_rule ceiling_rule class_rule field_rule method_rule type_rule node_rule body_rule tested
  rising = omega arith

  parts : answer_of (check_rules ws) ≡ or_next (answer_of (layout_rules ws)) (answer_of (RulesFrom10 ws))
  unfolding check_rules
  parts = answer_append 0 (layout_rules ws) (RulesFrom10 ws) rising

  -- a breach of the layout is the answer; a layout that holds leaves it to the later rules
  pub broken : (b : Breach) → breach_numbers b ≡ answer_of (layout_rules ws) → breach_numbers b ≡ answer_of (check_rules ws)
  broken b e = rw (parts, ← e, breach_first b (answer_of (RulesFrom10 ws)))

  pub passed : accepted ≡ answer_of (layout_rules ws) → answer_of (RulesFrom10 ws) ≡ answer_of (check_rules ws)
  passed e = rw (parts, ← e)
