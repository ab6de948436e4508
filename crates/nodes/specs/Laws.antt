-- Laws that the proofs of nodes cite.
use Rattle.std.specs.Prelude.{◌≡◌, refl, Bool, true, false, cond, List, ℕ, zero, suc, ◌+◌, ◌-◌, ◌≤◌, ◌<◌, ltb, leb}
use Rattle.std.proofs.Common.{arith, add-one, le-leb, ltb-true}
use Rattle.std.proofs.lemmas.Bool.{lt-leb}
use Rattle.std.specs.declared.option.Option.{Option}
use Rattle.std.specs.declared.option.Option.TheVariants.{Some, None}
use Rattle.image.specs.Records.{method_word}
use Rattle.image.specs.Laws.{and_left}
use Rattle.image.specs.Trailer.{node_count}
use Rattle.image.specs.Nodes.{node_word, reach, spans, body_start, body_holds}

-- the walk back over operands, a tree at a time
pub reach_none : (ws : List ℕ) (k e : ℕ) → k ≡ 0 → reach ws k e ≡ Some e
unfolding reach
reach_none ws k e h = rw h

pub reach_out : (ws : List ℕ) (k e : ℕ) → 0 < k → e ≡ 0 → reach ws k e ≡ None
unfolding reach
reach_out ws zero e h z = absurd (omega arith)
reach_out ws (suc k) e h z = rw z

pub reach_past : (ws : List ℕ) (k e : ℕ) → 0 < k → e < node_word ws (e - 1) 1 → reach ws k e ≡ None
unfolding reach
reach_past ws zero e h z = absurd (omega arith)
reach_past ws (suc k) zero h z = refl
reach_past ws (suc k) (suc e) h z =
    let p : suc e - 1 ≡ e = omega arith in
    rw (lt-leb (node_word ws e 1) (suc e) (rw p at z))

pub reach_on : (ws : List ℕ) (k e : ℕ) → 0 < k → 0 < e → node_word ws (e - 1) 1 ≤ e → reach ws (k - 1) (e - node_word ws (e - 1) 1) ≡ reach ws k e
unfolding reach
reach_on ws zero e h z s = absurd (omega arith)
reach_on ws (suc k) zero h z s = absurd (omega arith)
reach_on ws (suc k) (suc e) h z s =
    let p : suc e - 1 ≡ e = omega arith in
    let q : suc k - 1 ≡ k = omega arith in
    let t : node_word ws e 1 ≤ suc e = rw p at s in
    rw (p, q, le-leb (node_word ws e 1) (suc e) t)

-- a body after the first begins after the body before it
pub start_after : (ws : List ℕ) (i : ℕ) → 0 < i → body_start ws i ≡ method_word ws (i - 1) 5 + 1
unfolding body_start
start_after ws zero h = absurd (omega arith)
start_after ws (suc i) h = let p : suc i - 1 ≡ i = omega arith in rw (p, add-one (method_word ws i 5))

-- a place found lies at or before n
abbrev pub Inside : ℕ → Option ℕ → Type 0
Inside n (Some b) = b ≤ n
Inside n None = Unit

inside_less : (n m : ℕ) (f : Option ℕ) → n ≤ m → Inside n f → Inside m f
inside_less n m (Some b) h i = omega arith
inside_less n m None h i = tt

inside_pick : (n : ℕ) (t : Bool) (f : Option ℕ) → Inside n f → Inside n (cond t f None)
inside_pick n true f i = i
inside_pick n false f i = tt

pub reach_inside : (ws : List ℕ) (k e : ℕ) → Inside e (reach ws k e)
unfolding reach
reach_inside ws zero e = omega arith
reach_inside ws (suc k) zero = tt
reach_inside ws (suc k) (suc e) =
    inside_pick (suc e) (leb (node_word ws e 1) (suc e)) (reach ws k (suc e - node_word ws e 1))
    (inside_less (suc e - node_word ws e 1) (suc e) (reach ws k (suc e - node_word ws e 1)) (omega arith) (reach_inside ws k (suc e - node_word ws e 1)))

-- a body that holds ends in the table
pub body_inside : (ws : List ℕ) (b n : ℕ) → body_holds ws b n ≡ true → n < node_count ws
unfolding body_holds
body_inside ws b n h = ltb-true n (node_count ws) (and_left (ltb n (node_count ws)) (spans b n (node_word ws n 1)) h)
