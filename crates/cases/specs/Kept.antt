-- The memory that a line holds. Assumes nothing.
use Rattle.std.specs.Prelude.{◌≡◌, length}
use Rattle.cases.specs.declared.LentLine.{LentLine}

-- a line holds as much memory as before
abbrev pub Keeps : LentLine → LentLine → Type 0
Keeps old new = (length new.head.now ≡ length old.head.now) × (length new.numbers.now ≡ length old.numbers.now)
