-- Laws of the tests for a block that takes a value up, with the number of frames as the code has it.
use Rattle.std.proofs.Math.Path.{◌≡◌}
use Rattle.std.specs.Prelude.{refl, true, false, ◌&&◌, ◌||◌, List, eqb, get_or, set}
use Prim.Native.Nat.{ℕ, zero, suc, ◌-◌, ◌<◌}
use native.Mathlib.Omega.{arith}
use Rattle.words.specs.Value.{value_with}
use Rattle.image.specs.Trailer.{node_count}
use Rattle.image.specs.Nodes.{node_word, node_holds}
use Rattle.rules.specs.Trees.{written}
use Rattle.laws.specs.Values.{value_at, IsValue}
use Rattle.room.specs.declared.Focus.TheVariants.{Node}
use Rattle.room.specs.Room.{tag, word, Fit}
use Rattle.room.specs.Turn.{Inv, Moves}
use Rattle.room.specs.Nodes.{assign_local}
use Rattle.room.specs.Armed.{armed, armed_seq}
use Rattle.pushes.specs.Turns.{rest_of}
use Rattle.pushes.specs.TakeUp.{rest_place, takes_rest, assign_writes}

module _ (ws room : List ℕ) where
  pub armed_none : (l x : ℕ) → l ≡ 0 → false ≡ armed ws room l x
  unfolding armed
  armed_none l x e = rw e

  pub armed_top : (l x : ℕ) → (l ≡ 0 → ⊥)
      → (eqb (tag ws room (l - 1)) 10 && eqb (word ws room (l - 1) 2) x && eqb (get_or room x 0) 0) ≡ armed ws room l x
  unfolding armed
  armed_top zero x d = absurd (d refl)
  armed_top (suc j) x d = let z : suc j - 1 ≡ j = omega arith in rw z

  pub armed_seq_none : (l x : ℕ) → l ≡ 0 → false ≡ armed_seq ws room l x
  unfolding armed_seq
  armed_seq_none l x e = rw e

  pub armed_seq_top : (l x : ℕ) → (l ≡ 0 → ⊥) → (eqb (tag ws room (l - 1)) 11 || eqb (tag ws room (l - 1)) 29) ≡ true
      → armed ws room (l - 1) x ≡ armed_seq ws room l x
  unfolding armed_seq
  armed_seq_top zero x d h = absurd (d refl)
  armed_seq_top (suc i) x d h = let z : suc i - 1 ≡ i = omega arith in rw (z, rw z at h)

  pub armed_seq_other : (l x : ℕ) → (l ≡ 0 → ⊥) → (eqb (tag ws room (l - 1)) 11 || eqb (tag ws room (l - 1)) 29) ≡ false
      → false ≡ armed_seq ws room l x
  unfolding armed_seq
  armed_seq_other zero x d h = absurd (d refl)
  armed_seq_other (suc i) x d h = let z : suc i - 1 ≡ i = omega arith in rw (rw z at h)

module _ (ws : List ℕ) (good : (n : ℕ) → n < node_count ws → node_holds ws n ≡ true) where
  -- the innermost frame, and its place
  pub rest_there : (room : List ℕ) (l x : ℕ) → Fit ws room l → armed_seq ws room l x ≡ true → (0 < l) × (0 < word ws room (l - 1) 1)
  unfolding armed_seq
  rest_there room zero x f h = absurd (let z : ◌≡◌ {A = ℕ} 0 1 = cc in omega arith)
  rest_there room (suc i) x f h = let z : suc i - 1 ≡ i = omega arith in (omega arith, rw z (rest_place ws good f x h))

  -- an Assign of a literal is taken up
  pub assign_up : (D : ℕ) (room : List ℕ) (l n w : ℕ) → Inv ws D room l (Node n) → node_word ws n 0 ≡ 6 → node_word ws (n - 1) 0 ≡ 2
      → value_at w ≡ written (value_with (node_word ws (n - 1) 2) (node_word ws (n - 1) 3)) → IsValue w
      → armed_seq ws room l (node_word ws n 2) ≡ true
      → Moves ws D room l (Node n) (set room (node_word ws n 2) (suc w)) (l - 1) (Node (rest_of room (l - 1)))
  unfolding armed_seq
  assign_up D room zero n w inv k z e v h = absurd (let y : ◌≡◌ {A = ℕ} 0 1 = cc in omega arith)
  assign_up D room (suc i) n w inv k z e v h =
      let y : suc i - 1 ≡ i = omega arith in
      rw y
      (takes_rest ws good D room (suc i) (Node n) i (node_word ws n 2) w (assign_writes ws good D room n w i inv k z e) h
      (assign_local ws n (good n inv.here) k) v inv.fit)
