-- WHAT A PAUSE LEAVES of a room at rest: the variables, the words that its frames use, and what stands at the active place. Every
-- other word becomes 0.
use Rattle.std.specs.Prelude.{cond, List, [], ◌∷◌, ℕ, suc, ◌-◌, ◌/◌, ◌%◌, ltb, length, get_or}
use Rattle.image.specs.Numbers.{variables}
use Rattle.rules.specs.Maps.{tabulate}
use Rattle.room.specs.declared.Focus.{Focus}
use Rattle.room.specs.declared.Focus.TheVariants.{Node, Value as Word, Thrown}
use Rattle.room.specs.Room.{search_word, frame_at, shape_of, word}
use Rattle.pause.specs.declared.Record.{Record}
use Rattle.pause.specs.Paused.{used, node_in}

-- words 65 to 67
unfoldable pub focus_words : Focus → List ℕ
focus_words (Node n) = 1 ∷ n ∷ []
focus_words (Word w) = 2 ∷ w ∷ []
focus_words (Thrown a p) = 3 ∷ a ∷ p ∷ []

-- the words of a frame
unfoldable pub clean : (w : ℕ → ℕ) → ℕ → ℕ
clean w k = cond (used (shape_of (w 0)) (w 2) k) (w k) 0

module _ (ws room : List ℕ) (l : ℕ) (g : Focus) where
  unfoldable pub kept_word : ℕ → ℕ
  kept_word j =
      cond (ltb j variables) (get_or room j 0)
      (cond (ltb j (frame_at 0)) (get_or (0 ∷ focus_words g) (j - search_word) 0)
      (cond (ltb ((j - frame_at 0) / 16) l) (clean (word ws room ((j - frame_at 0) / 16)) ((j - frame_at 0) % 16)) 0))

  unfoldable pub kept_room : List ℕ
  kept_room = tabulate (length room) kept_word

-- constructors from the root to the active place, itself counted
unfoldable pub levels_of : (l : ℕ) → Focus → ℕ
levels_of l (Node n) = suc l
levels_of l (Word w) = l
levels_of l (Thrown a p) = l

unfoldable pub kept_record : (ws room : List ℕ) (l : ℕ) → Focus → (steps : ℕ) → Record
kept_record ws room l g steps = record { steps = steps; node = node_in ws room l g; levels = levels_of l g }
