-- THE THEOREMS of paused runs, over an image whose nodes are in order (rule 8).
use Rattle.std.specs.Prelude.{◌≡◌, true, false, List, [], ◌↔◌, ℕ, suc, ◌+◌, ◌*◌, ◌≤◌, ◌<◌, length}
use Rattle.image.specs.Trailer.{node_count}
use Rattle.image.specs.Nodes.{node_holds}
use Rattle.rules.specs.Trees.{Expr}
use Rattle.rules.specs.Program.{program}
use Rattle.rules.specs.Heap.{heap_of}
use Rattle.rules.specs.Step.{Store}
use Rattle.room.specs.declared.Focus.{Focus}
use Rattle.room.specs.Room.{frame_at}
use Rattle.room.specs.Turn.{whole, outside, Inv}
use Rattle.pause.specs.Route.{route}
use Rattle.pause.specs.declared.Record.{Record}
use Rattle.pause.specs.Layout.{room_of, record_of, level_in, focus_at, state_in}
use Rattle.pause.specs.Paused.{resting, paused, fresh}
use Rattle.pause.specs.Over.{Over}
use Rattle.pause.specs.Keep.{kept_room, kept_record}
use Rattle.pause.specs.PausedLaws as P
use Rattle.pause.specs.RestLaws.{FocusFits}
use Rattle.pause.specs.LaidLaws as L
use Rattle.pause.specs.LaidBack as B
use Rattle.pause.specs.Going as G

-- A room and a record are the layout of e with the variables s.
pub record LayoutOf (ws room : List ℕ) (r : Record) (e : Expr) (s : Store) : Type 0 where
  pub over : Over ws (route e s [])
  pub fits : frame_at (length (route e s []).frames) ≤ length room
  pub words : room ≡ room_of ws (length room) (route e s [])
  pub told : r ≡ record_of ws r.steps (route e s [])

-- ALL 0 IS NO PAUSED RUN.
pub never_fresh : (ws room : List ℕ) (r : Record) → fresh room r ≡ true → paused ws room r ≡ false
never_fresh ws room r h = P.never_fresh ws room r h

module _ (ws : List ℕ) (good : (n : ℕ) → n < node_count ws → node_holds ws n ≡ true) where
  -- WHAT PASSES IS THE LAYOUT OF WHAT IT IS READ TO,
  pub laid : (hs room : List ℕ) (r : Record) → paused ws room r ≡ true
      → LayoutOf ws room r (state_in ws hs room r).expr (state_in ws hs room r).store
  laid hs room r h =
      let l = L.laid ws good hs room r h in record { over = l.over; fits = l.fits; words = l.words; told = l.told }

  -- AND EVERY LAYOUT PASSES, AND IS READ TO WHAT IT IS OF.
  pub laid_back : (room : List ℕ) (r : Record) (e : Expr) (s : Store) → LayoutOf ws room r e s
      → (paused ws room r ≡ true) × ((hs : List ℕ) → state_in ws hs room r ≡ record { heap = heap_of (program ws) hs; store = s; expr = e })
  laid_back room r e s l =
      let b = B.laid_back ws good (length room) r.steps e s l.over l.fits in
      let c = rw (← l.words, ← l.told) at b in
      (c.passes, c.state)

  -- SO 21 IS EXACTLY: no layout of any expression over the image.
  pub exactly : (room : List ℕ) (r : Record) → (paused ws room r ≡ true) ↔ ((e : Expr) × (s : Store) × LayoutOf ws room r e s)
  exactly room r = (
    λ h. ((state_in ws [] room r).expr, (state_in ws [] room r).store, laid [] room r h),
    λ l. (laid_back room r l.0 l.1 l.2).0,
  )

  -- ONE EXPRESSION, LENGTH AND COUNT HAVE ONE LAYOUT.
  pub one_layout : (hs hs' room room' : List ℕ) (r r' : Record) → paused ws room r ≡ true → paused ws room' r' ≡ true
      → length room ≡ length room' → r.steps ≡ r'.steps
      → (state_in ws hs room r).expr ≡ (state_in ws hs' room' r').expr → (state_in ws hs room r).store ≡ (state_in ws hs' room' r').store
      → (room ≡ room') × (r ≡ r')
  one_layout hs hs' room room' r r' h h' n k e s = L.one_layout ws good hs hs' room room' r r' h h' n k e s

  -- The machine may go on with what passes,
  pub goes_on : (room : List ℕ) (D : ℕ) (r : Record) → paused ws room r ≡ true → level_in room r ≤ suc D → 16 * D + 160 ≤ length room
      → Inv ws D room (level_in room r) (focus_at room r)
  goes_on room D r h low long = G.goes_on ws good room D r h low long

  -- and its room at rest becomes the layout of what it holds when the words that are not used are made 0.
  pub pauses : (room : List ℕ) (D steps l : ℕ) (g : Focus) → Inv ws D room l g → ((i : ℕ) → i < l → G.BlockOk ws room i) → FocusFits ws g
      → resting ws room l g ≡ true
      → LayoutOf ws (kept_room ws room l g) (kept_record ws room l g steps) (whole ws room l g) (outside ws room l)
  pauses room D steps l g inv blocks h r =
      let k = (G.pauses ws good room D steps l g inv blocks h r).reads in
      rw (k.state []) at (laid [] (kept_room ws room l g) (kept_record ws room l g steps) k.passes)

  -- Where no step was taken, that is the room and the record as they were.
  pub kept_again : (room : List ℕ) (r : Record) → paused ws room r ≡ true
      → (kept_room ws room (level_in room r) (focus_at room r) ≡ room) × (kept_record ws room (level_in room r) (focus_at room r) r.steps ≡ r)
  kept_again room r h = G.kept_again ws good room r h
