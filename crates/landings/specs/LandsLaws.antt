-- Laws of what a leap tells.
use Rattle.std.specs.Prelude.{List, ℕ, ◌≤◌}
use Rattle.room.specs.declared.Focus.{Focus}
use Rattle.room.specs.declared.Focus.TheVariants.{Node, Value, Thrown}
use Rattle.room.specs.Leads.{Leaps}
use Rattle.landings.specs.Lands.{Lands, most_steps, at_node, at_value, at_thrown}

module _ {ws : List ℕ} {D top : ℕ} {hs room : List ℕ} {l : ℕ} {f : Focus} {hs' room' : List ℕ} {level k : ℕ} where
  pub lands_node : {m : ℕ} → Leaps ws D k hs room l f hs' room' level (Node m) → k ≤ most_steps
      → Lands ws D top hs room l f hs' room' (at_node m level k)
  lands_node a h = record { few = h; leaps = a; low = tt }

  pub lands_value : {w : ℕ} → Leaps ws D k hs room l f hs' room' level (Value w) → k ≤ most_steps → level ≤ top
      → Lands ws D top hs room l f hs' room' (at_value w level k)
  lands_value a h t = record { few = h; leaps = a; low = t }

  pub lands_thrown : {a p : ℕ} → Leaps ws D k hs room l f hs' room' level (Thrown a p) → k ≤ most_steps
      → Lands ws D top hs room l f hs' room' (at_thrown a p level k)
  lands_thrown b h = record { few = h; leaps = b; low = tt }
