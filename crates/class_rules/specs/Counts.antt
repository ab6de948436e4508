-- How many fields each class declares.
use Rattle.std.specs.Prelude.{◌≡◌, List, ℕ, ◌<◌, length, get_or}
use Rattle.image.specs.Numbers.{most_classes}
use Rattle.rules.specs.Maps.{tabulate}
use Rattle.rules.specs.Program.{field_at, program}
use Rattle.rules.specs.Classes.{own}

-- of the first n fields, those that class c declares
unfoldable pub own_count : List ℕ → (n c : ℕ) → ℕ
own_count ws n c = length (own (program ws) (tabulate n (field_at ws)) c)

-- a table with the count of each class
pub record Counted (ws : List ℕ) (n : ℕ) (counts : List ℕ) : Type 0 where
  pub size : length counts ≡ most_classes
  pub each : (c : ℕ) → c < most_classes → get_or counts c 0 ≡ own_count ws n c
