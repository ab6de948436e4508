-- The blocks around a method's body.
use Rattle.std.specs.Prelude.{◌≡◌, List, ℕ, zero, suc, ◌+◌, ◌≤◌, ◌<◌, length}
use Rattle.image.specs.Trailer.{method_count}
use Rattle.image.specs.Records.{method_word, type_at}
use Rattle.rules.specs.Trees.{Expr}
use Rattle.laws.specs.Values.{IsValue}
use Rattle.room.specs.Room.{frame_at, word, Fit}
use Rattle.room.specs.Calls.{Pushing}

-- The type word of the block of variable c, in a call of method j: the method's class for the receiver, and then its parameters' types.
unfoldable pub block_word : List ℕ → (j c : ℕ) → ℕ
block_word ws j zero = 4 + method_word ws j 0
block_word ws j (suc k) = type_at ws (method_word ws j 3 + k)

module _ (ws : List ℕ) where
  -- A room whose frame i keeps the receiver and the y arguments of a call of method j, and in which the blocks have their place.
  pub record Callable (room : List ℕ) (i j y : ℕ) : Type 0 where
    pub method : j < method_count ws
    pub arguments : method_word ws j 4 ≡ y
    pub fit : Fit ws room i
    pub long : frame_at (suc (i + y)) ≤ length room
    pub values : (c : ℕ) → c ≤ y → IsValue (word ws room i (5 + c))

  -- the room after c of the blocks are pushed, from a room old on, around any body
  abbrev pub Pushed : (old : List ℕ) (i p j y : ℕ) (room : List ℕ) (c : ℕ) → Type 0
  Pushed old i p j y room c = (e : Expr) → Pushing ws old i p (suc y) (block_word ws j) e room c
