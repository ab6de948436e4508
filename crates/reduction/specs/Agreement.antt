-- Laws: the function `step` agrees with the relation `Reduces`, both ways, and its place and depth are the active place's.
use Rattle.std.specs.Prelude.{ℕ}
use Rattle.words.specs.declared.Value.TheVariants.{Addr}
use Rattle.words.specs.declared.Ty.{Ty}
use Rattle.rules.specs.Trees.{Expr, val, throw}

-- Throw of an address, and this address
pub data Exception : Expr → ℕ → Type 0 where
  Thrown : {p q a : ℕ} {t : Ty} → Exception (throw p t (val q (Addr a))) a
