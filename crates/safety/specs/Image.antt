-- From the words of an accepted image to a checked program: the answer 0 means that each rule holds at each of its places.
use Prim.Native.Nat.{ℕ, ◌<◌}
use Rattle.std.specs.Prelude.{◌≡◌, Bool, ◌&&◌, ltb}
use Rattle.std.proofs.Math.Bool.{true}
use mathlib.Core.List.{List, [], ◌∷◌}
use Rattle.order.specs.Rules.{Rule}
use Rattle.image.specs.Layout.{class_rule, node_rule, body_rule, layout_rules}
use Rattle.rules.specs.Numbers.{fields_rule, override_rule, typing_rule, setting_rule}

-- RULES
-- a rule holds at all its places
abbrev pub Held : Rule → Type 0
Held r = (p : ℕ) → p < r.places → r.holds p ≡ true

abbrev pub AllHeld : List Rule → Type 0
AllHeld [] = Unit {0}
AllHeld (r ∷ rs) = Held r × AllHeld rs

-- the answer 0 is no rule's own
unfoldable pub positive : List Rule → Bool
positive [] = true
positive (r ∷ rs) = ltb 0 r.number && positive rs

-- the rules of an accepted image that the proofs use
pub record Rules (ws : List ℕ) : Type 0 where
  pub layout : AllHeld (layout_rules ws)
  pub classes : Held (class_rule ws)
  pub nodes : Held (node_rule ws)
  pub bodies : Held (body_rule ws)
  pub fields : Held (fields_rule ws)
  pub override : Held (override_rule ws)
  pub typed : Held (typing_rule ws)
  pub sets : Held (setting_rule ws)
