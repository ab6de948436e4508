-- Laws: what the other laws ask of a tree holds of every tree of a laid out image.
use Prim.Native.Nat.{ℕ, ◌<◌}
use Rattle.std.specs.Prelude.{◌≡◌, true, List}
use Rattle.image.specs.Nodes.{node_holds}

module _ (ws : List ℕ) where
  -- the nodes below n are as record 8 asks
  abbrev pub Nodes : ℕ → Type 0
  Nodes n = (m : ℕ) → m < n → node_holds ws m ≡ true
