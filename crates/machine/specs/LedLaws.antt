-- Laws of a run over leaps in a row: it goes on where they have come to.
use Rattle.std.specs.Prelude.{◌≡◌, true, List, ℕ, ◌+◌, ◌-◌, ◌≤◌, ◌<◌, length, replicate}
use Rattle.std.proofs.lemmas.List.{length-replicate, get_or-replicate}
use Rattle.std.proofs.Common.{sym, ◌∙◌, arith}
use Rattle.image.specs.Trailer.{node_count}
use Rattle.image.specs.Nodes.{node_holds}
use Rattle.rules.specs.Program.{program}
use Rattle.rules.specs.Heap.{heap_of}
use Rattle.rules.specs.Run.{Ended, run}
use Rattle.memo.specs.Memo.{memo_words, Memo}
use Rattle.memo.specs.MemoLaws.{memo_empty}
use Rattle.room.specs.declared.Focus.{Focus}
use Rattle.room.specs.Turn.{whole, outside}
use Rattle.strides.specs.declared.Reached.{Reached}
use Rattle.strides.specs.Reaches.{Reaches}
use Rattle.strides.specs.ReachLaws.{reaches_less}
use Rattle.machine.specs.Runs.{Running, left}

-- a table in which nothing is kept
pub blank_memo : (ws : List ℕ) → Memo ws (replicate memo_words 0)
blank_memo ws = memo_empty ws (replicate memo_words 0) (length-replicate {A = ℕ} memo_words 0) (λ k h. get_or-replicate {A = ℕ} memo_words k 0 0 h)

module _ (ws : List ℕ) (D : ℕ) where
  -- the run from there on is the run
  pub reaches_run : {limit : ℕ} {hs room : List ℕ} {l : ℕ} {f : Focus} {hs' room' : List ℕ} {r : Reached}
      → Reaches ws D limit hs room l f hs' room' r
      → run D (program ws) limit 0 (heap_of (program ws) hs) (outside ws room l) (whole ws room l f)
      ≡ run D (program ws) (limit - (limit - r.left)) (limit - r.left) (heap_of (program ws) hs') (outside ws room' r.level)
      (whole ws room' r.level r.focus)
  reaches_run {limit} {r = r} a =
      let e : limit - (limit - r.left) ≡ r.left = omega (arith, a.low) in
      let u : limit - r.left + r.left ≡ limit = omega (arith, a.low) in
      let v : limit - r.left + 0 ≡ limit - r.left = omega arith in
      rw e (rw (u, v) at (a.leads.runs r.left 0))

module _ (ws : List ℕ) (good : (n : ℕ) → n < node_count ws → node_holds ws n ≡ true) (D : ℕ) where
  -- no more is left of a run after leaps in a row
  pub led_less : (limit count : ℕ) {hs room : List ℕ} {l : ℕ} {f : Focus} {hs' room' : List ℕ} {r : Reached}
      → Reaches ws D (limit - count) hs room l f hs' room' r
      → left ws D limit (limit - r.left) room' r.level r.focus ≤ left ws D limit count room l f
  led_less limit count {r = r} a = let e : limit - (limit - r.left) ≡ r.left = omega (arith, a.low) in rw e (reaches_less ws good D a)

  -- a run goes on where leaps have come to
  module _ {limit : ℕ} {ended : Ended} {hs₀ room₀ hs room : List ℕ} {l : ℕ} {f : Focus} {count : ℕ}
      (g : Running ws D limit ended hs₀ room₀ hs room l f count) where
    pub led : {hs' room' : List ℕ} {r : Reached} (m : ℕ) → m ≡ limit - count → Reaches ws D m hs room l f hs' room' r → length hs' ≡ length hs
        → Running ws D limit ended hs₀ room₀ hs' room' r.level r.focus (limit - r.left)
    led {hs'} {room'} {r} m z a b =
        let e : limit - (limit - r.left) ≡ r.left = omega (arith, a.low, g.low) in
        let u : m - r.left + r.left ≡ limit - count = omega (arith, a.low) in
        let v : m - r.left + count ≡ limit - r.left = omega (arith, a.low, g.low) in
        record {
          inv = a.leads.inv;
          heap = a.leads.heap;
          low = omega arith;
          size = a.leads.size ∙ g.size;
          heap_size = b ∙ g.heap_size;
          rest = rw e (sym (rw (u, v) at (a.leads.runs r.left count)) ∙ g.rest);
        }
