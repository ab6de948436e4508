-- The room as a run begins: the inputs are variables, from 1 on, and New begins to look at slot 0.
use Rattle.std.specs.Prelude.{◌≡◌, List, ℕ, suc, ◌<◌, get_or}
use Rattle.room.specs.Room.{search_word}

-- the words that are looked at before they are written: the variables and the search's start
abbrev pub start_words : ℕ
start_words = suc search_word

-- the first n words are 0
pub record Zeros (room : List ℕ) (n : ℕ) : Type 0 where
  pub zero : (j : ℕ) → j < n → get_or room j 0 ≡ 0

-- the first i inputs are there
pub record Filled (is room : List ℕ) (i : ℕ) : Type 0 where
  pub this : get_or room 0 0 ≡ 0
  pub input : (k : ℕ) → k < i → get_or room (suc k) 0 ≡ suc (get_or is k 0)
  pub rest : (j : ℕ) → i < j → j < start_words → get_or room j 0 ≡ 0
