-- Laws of moves: what they have still to go through is below a bound, so that they end.
use Rattle.std.specs.Prelude.{◌≡◌, true, List}
use Prim.Native.Nat.{ℕ, zero, suc, ◌+◌, ◌*◌, ◌≤◌, ◌<◌}
use Rattle.std.proofs.Common.{mul-le-mul_right}
use native.Mathlib.Omega.{arith}
use Rattle.image.specs.Trailer.{node_count}
use Rattle.image.specs.Nodes.{node_holds}
use Rattle.laws.specs.Trees.{node_size}
use Rattle.room.specs.declared.Focus.{Focus}
use Rattle.room.specs.declared.Focus.TheVariants.{Node, Value, Thrown}
use Rattle.room.specs.Room.{Shape, first, second, operands as calls, block, test, loop, nothing, shape_of, word, tag, kept, FrameOk, Fit}
use Rattle.room.specs.Turn.{FocusOk, weight, behind, pending, phi, Inv}

abbrev pub bound : (ws : List ℕ) (D : ℕ) → ℕ
bound ws D = 2 * (suc D * node_count ws) + 2 * node_count ws + 4

module _ (ws : List ℕ) (good : (n : ℕ) → n < node_count ws → node_holds ws n ≡ true) (D : ℕ) where
  behind_low : (s : Shape) (t p a c : ℕ) (words : ℕ → ℕ) → FrameOk ws s t p a c words → behind ws s t p a ≤ node_count ws
  unfolding behind
  behind_low first t p a c words o = omega (arith, o.0)
  behind_low second t p a c words o = omega arith
  behind_low calls t p a c words o = omega (arith, o.0.0)
  behind_low block t p a c words o = omega arith
  behind_low test t p a c words o = omega arith
  behind_low loop t p a c words o = omega (arith, o.0, node_size ws p (good p o.0))
  behind_low nothing t p a c words o = omega arith

  pending_low : (room : List ℕ) (l : ℕ) → Fit ws room l → pending ws room l ≤ l * node_count ws
  unfolding pending
  pending_low room zero f = omega arith
  pending_low room (suc i) f =
      let g : Fit ws room i = record { long = omega (arith, f.long); frame_ok = λ j h. f.frame_ok j (omega arith); held_ok = f.held_ok } in
      let e : suc i * node_count ws ≡ node_count ws + i * node_count ws = omega arith in
      rw e
      (omega (arith, pending_low room i g, behind_low (shape_of (tag ws room i)) (tag ws room i) (word ws room i 1) (word ws room i 2) (word ws room i 4) (kept ws room i) (f.frame_ok i (omega arith))))

  weight_low : (f : Focus) → FocusOk ws f → weight ws f ≤ 2 * node_count ws + 3
  unfolding weight
  weight_low (Node n) h = omega (arith, node_size ws n (good n h))
  weight_low (Value w) h = omega arith
  weight_low (Thrown a p) h = omega arith

  times_low : (l n : ℕ) → l ≤ suc D → l * n ≤ suc D * n
  times_low l n h = mul-le-mul_right n h

  pub phi_low : (room : List ℕ) (l : ℕ) (f : Focus) → Inv ws D room l f → phi ws room l f < bound ws D
  phi_low room l f v =
      omega (arith, pending_low room l v.fit, weight_low f v.here, times_low l (node_count ws) v.level)
