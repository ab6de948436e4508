-- What a leap comes to.
use Rattle.std.specs.Prelude.{◌≡◌, List, ℕ, ◌≤◌}
use Rattle.std.specs.declared.option.Option.{Option}
use Rattle.std.specs.declared.option.Option.TheVariants.{Some, None}
use Rattle.room.specs.declared.Focus.{Focus}
use Rattle.room.specs.declared.Focus.TheVariants.{Node, Value, Thrown}
use Rattle.room.specs.RoomLaws.{Kept}
use Rattle.room.specs.Leads.{Leaps}
use Rattle.landings.specs.declared.Leap.{Leap}

-- the most steps of a leap
abbrev pub most_steps : ℕ
most_steps = 63

-- a leap to a node, to a value, and to an address that is thrown at a place
abbrev pub at_node : (n level steps : ℕ) → Option Leap
at_node n level steps = Some (record { focus = Node n; level = level; steps = steps })

abbrev pub at_value : (w level steps : ℕ) → Option Leap
at_value w level steps = Some (record { focus = Value w; level = level; steps = steps })

abbrev pub at_thrown : (a place level steps : ℕ) → Option Leap
at_thrown a place level steps = Some (record { focus = Thrown a place; level = level; steps = steps })

-- a value is no deeper than `top`
abbrev pub Low : (top : ℕ) → Focus → (level : ℕ) → Type 0
Low top (Node n) level = Unit {0}
Low top (Value w) level = level ≤ top
Low top (Thrown a p) level = Unit {0}

module _ (ws : List ℕ) (D : ℕ) (top : ℕ) (hs room : List ℕ) (l : ℕ) (f : Focus) (hs' room' : List ℕ) where
  -- what a leap tells
  pub record Landing (r : Leap) : Type 0 where
    pub few : r.steps ≤ most_steps
    pub leaps : Leaps ws D r.steps hs room l f hs' room' r.level r.focus
    pub low : Low top r.focus r.level

  -- where there is none, nothing is done, and the room is as it was below the level
  abbrev pub Lands : Option Leap → Type 0
  Lands None = Kept room room' l × (hs' ≡ hs)
  Lands (Some r) = Landing r
