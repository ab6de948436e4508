-- What leaps in a row come to.
use Rattle.std.specs.Prelude.{List, ℕ, ◌-◌, ◌≤◌}
use Rattle.room.specs.declared.Focus.{Focus}
use Rattle.room.specs.Leads.{Leads}
use Rattle.strides.specs.declared.Reached.{Reached}

-- From so many steps that are left, the run comes to what is told, with those that are left then.
pub record Reaches (ws : List ℕ) (D steps : ℕ) (hs room : List ℕ) (l : ℕ) (f : Focus) (hs' room' : List ℕ) (r : Reached) : Type 0 where
  pub low : r.left ≤ steps
  pub leads : Leads ws D (steps - r.left) hs room l f hs' room' r.level r.focus
