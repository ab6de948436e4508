-- Several turns at once: what they come to, whatever frames they would have pushed in between.
use Rattle.std.specs.Prelude.{◌≡◌, List, ℕ, ◌+◌, ◌≤◌, ◌<◌, length, get_or}
use Rattle.rules.specs.Program.{program}
use Rattle.rules.specs.Heap.{heap_of}
use Rattle.rules.specs.Run.{run}
use Rattle.room.specs.declared.Focus.{Focus}
use Rattle.room.specs.Room.{search_word}
use Rattle.room.specs.Turn.{HeapOk, phi, whole, outside, Inv}

module _ (ws : List ℕ) (D : ℕ) where
  -- In k steps the run comes from one room, level and focus to another, with the heap hs' for hs. Where there is no step, no more is
  -- left to be gone into than there was.
  pub record Leads (k : ℕ) (hs room : List ℕ) (l : ℕ) (f : Focus) (hs' room' : List ℕ) (l' : ℕ) (f' : Focus) : Type 0 where
    pub inv : Inv ws D room' l' f'
    pub size : length room' ≡ length room
    pub heap : HeapOk ws hs' (get_or room' search_word 0)
    pub runs : (m c : ℕ)
        → run D (program ws) (k + m) c (heap_of (program ws) hs) (outside ws room l) (whole ws room l f)
        ≡ run D (program ws) m (k + c) (heap_of (program ws) hs') (outside ws room' l') (whole ws room' l' f')
    pub rests : k ≡ 0 → phi ws room' l' f' ≤ phi ws room l f

  -- the same, and something has been done
  pub record Leaps (k : ℕ) (hs room : List ℕ) (l : ℕ) (f : Focus) (hs' room' : List ℕ) (l' : ℕ) (f' : Focus) : Type 0 where
    pub leads : Leads k hs room l f hs' room' l' f'
    pub falls : k ≡ 0 → phi ws room' l' f' < phi ws room l f
