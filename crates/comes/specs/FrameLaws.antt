-- Laws of a frame's words by its tag, in a room that fits.
use Rattle.std.specs.Prelude.{◌≡◌, true, List}
use Rattle.std.proofs.Math.Path.{refl}
use Rattle.std.proofs.Math.Logic.{inl, inr}
use Prim.Native.Nat.{ℕ, zero, suc, ◌-◌, ◌≤◌, ◌<◌}
use Rattle.std.proofs.Common.{arith}
use Rattle.image.specs.Nodes.{node_word, kind_of, operands, node_holds}
use Rattle.laws.specs.Values.{IsValue}
use Rattle.laws.specs.Trees.{operand_below}
use Rattle.room.specs.Room.{first, second, shape_of, word, tag, kept, IsNode, FrameOk, Fit}
use Rattle.room.specs.RoomLaws.{fit_first, fit_second}
use Rattle.comes.specs.Comes.{First, Unheaped}

module _ (ws room : List ℕ) (i : ℕ) (fit : Fit ws room (suc i)) where
  ok : FrameOk ws (shape_of (tag ws room i)) (tag ws room i) (word ws room i 1) (word ws room i 2) (word ws room i 4) (kept ws room i)
  ok = fit.frame_ok i (omega arith)

  pub node_first : (k p : ℕ) → shape_of k ≡ first → tag ws room i ≡ k → word ws room i 1 ≡ p → IsNode ws p k
  node_first k p e t q = rw q at (fit_first ws fit k e t)

  pub node_second : (k p : ℕ) → shape_of k ≡ second → tag ws room i ≡ k → word ws room i 1 ≡ p
      → IsNode ws p (k - 16) × IsValue (word ws room i 2)
  node_second k p e t q = let o = fit_second ws fit k e t in (rw q at o.0, o.1)

  pub node_test : (p : ℕ) → tag ws room i ≡ 13 → word ws room i 1 ≡ p → IsNode ws p 13
  unfolding shape_of
  node_test p t q = let o = rw (t, q) at ok in o

  -- the tags that are left, when no other function has taken the frame
  pub tag_left : (t : ℕ) → tag ws room i ≡ t → Unheaped t → (t ≡ 6 → ⊥) → (t ≡ 10 → ⊥) → (t ≡ 11 → ⊥) → (t ≡ 12 → ⊥) → (t ≡ 13 → ⊥) → (t ≡ 14 → ⊥)
      → (t ≡ 15 → ⊥) → (t ≡ 20 → ⊥) → (t ≡ 21 → ⊥) → (t ≡ 29 → ⊥) → First t
  unfolding shape_of
  tag_left zero e u a6 a10 a11 a12 a13 a14 a15 a20 a21 a29 = absurd (rw e at ok)
  tag_left (suc zero) e u a6 a10 a11 a12 a13 a14 a15 a20 a21 a29 = absurd (u.0 refl)
  tag_left (suc (suc zero)) e u a6 a10 a11 a12 a13 a14 a15 a20 a21 a29 = absurd (rw e at ok)
  tag_left (suc (suc (suc zero))) e u a6 a10 a11 a12 a13 a14 a15 a20 a21 a29 = absurd (rw e at ok)
  tag_left (suc (suc (suc (suc zero)))) e u a6 a10 a11 a12 a13 a14 a15 a20 a21 a29 = inl (inl refl)
  tag_left (suc (suc (suc (suc (suc zero))))) e u a6 a10 a11 a12 a13 a14 a15 a20 a21 a29 = inl (inr refl)
  tag_left (suc (suc (suc (suc (suc (suc zero)))))) e u a6 a10 a11 a12 a13 a14 a15 a20 a21 a29 = absurd (a6 refl)
  tag_left (suc (suc (suc (suc (suc (suc (suc zero))))))) e u a6 a10 a11 a12 a13 a14 a15 a20 a21 a29 = absurd (u.1 refl)
  tag_left (suc (suc (suc (suc (suc (suc (suc (suc zero)))))))) e u a6 a10 a11 a12 a13 a14 a15 a20 a21 a29 = inr refl
  tag_left (suc (suc (suc (suc (suc (suc (suc (suc (suc zero))))))))) e u a6 a10 a11 a12 a13 a14 a15 a20 a21 a29 = absurd (u.3 refl)
  tag_left (suc (suc (suc (suc (suc (suc (suc (suc (suc (suc zero)))))))))) e u a6 a10 a11 a12 a13 a14 a15 a20 a21 a29 = absurd (a10 refl)
  tag_left (suc (suc (suc (suc (suc (suc (suc (suc (suc (suc (suc zero))))))))))) e u a6 a10 a11 a12 a13 a14 a15 a20 a21 a29 = absurd (a11 refl)
  tag_left (suc (suc (suc (suc (suc (suc (suc (suc (suc (suc (suc (suc zero)))))))))))) e u a6 a10 a11 a12 a13 a14 a15 a20 a21 a29 = absurd (a12 refl)
  tag_left (suc (suc (suc (suc (suc (suc (suc (suc (suc (suc (suc (suc (suc zero))))))))))))) e u a6 a10 a11 a12 a13 a14 a15 a20 a21 a29 = absurd (a13 refl)
  tag_left (suc (suc (suc (suc (suc (suc (suc (suc (suc (suc (suc (suc (suc (suc zero)))))))))))))) e u a6 a10 a11 a12 a13 a14 a15 a20 a21 a29 = absurd (a14 refl)
  tag_left (suc (suc (suc (suc (suc (suc (suc (suc (suc (suc (suc (suc (suc (suc (suc zero))))))))))))))) e u a6 a10 a11 a12 a13 a14 a15 a20 a21 a29 = absurd (a15 refl)
  tag_left (suc (suc (suc (suc (suc (suc (suc (suc (suc (suc (suc (suc (suc (suc (suc (suc zero)))))))))))))))) e u a6 a10 a11 a12 a13 a14 a15 a20 a21 a29 = absurd (rw e at ok)
  tag_left (suc (suc (suc (suc (suc (suc (suc (suc (suc (suc (suc (suc (suc (suc (suc (suc (suc zero))))))))))))))))) e u a6 a10 a11 a12 a13 a14 a15 a20 a21 a29 = absurd (rw e at ok)
  tag_left (suc (suc (suc (suc (suc (suc (suc (suc (suc (suc (suc (suc (suc (suc (suc (suc (suc (suc zero)))))))))))))))))) e u a6 a10 a11 a12 a13 a14 a15 a20 a21 a29 = absurd (rw e at ok)
  tag_left (suc (suc (suc (suc (suc (suc (suc (suc (suc (suc (suc (suc (suc (suc (suc (suc (suc (suc (suc zero))))))))))))))))))) e u a6 a10 a11 a12 a13 a14 a15 a20 a21 a29 = absurd (rw e at ok)
  tag_left (suc (suc (suc (suc (suc (suc (suc (suc (suc (suc (suc (suc (suc (suc (suc (suc (suc (suc (suc (suc zero)))))))))))))))))))) e u a6 a10 a11 a12 a13 a14 a15 a20 a21 a29 = absurd (a20 refl)
  tag_left (suc (suc (suc (suc (suc (suc (suc (suc (suc (suc (suc (suc (suc (suc (suc (suc (suc (suc (suc (suc (suc zero))))))))))))))))))))) e u a6 a10 a11 a12 a13 a14 a15 a20 a21 a29 = absurd (a21 refl)
  tag_left (suc (suc (suc (suc (suc (suc (suc (suc (suc (suc (suc (suc (suc (suc (suc (suc (suc (suc (suc (suc (suc (suc zero)))))))))))))))))))))) e u a6 a10 a11 a12 a13 a14 a15 a20 a21 a29 = absurd (rw e at ok)
  tag_left (suc (suc (suc (suc (suc (suc (suc (suc (suc (suc (suc (suc (suc (suc (suc (suc (suc (suc (suc (suc (suc (suc (suc zero))))))))))))))))))))))) e u a6 a10 a11 a12 a13 a14 a15 a20 a21 a29 = absurd (rw e at ok)
  tag_left (suc (suc (suc (suc (suc (suc (suc (suc (suc (suc (suc (suc (suc (suc (suc (suc (suc (suc (suc (suc (suc (suc (suc (suc zero)))))))))))))))))))))))) e u a6 a10 a11 a12 a13 a14 a15 a20 a21 a29 = absurd (u.2 refl)
  tag_left (suc (suc (suc (suc (suc (suc (suc (suc (suc (suc (suc (suc (suc (suc (suc (suc (suc (suc (suc (suc (suc (suc (suc (suc (suc zero))))))))))))))))))))))))) e u a6 a10 a11 a12 a13 a14 a15 a20 a21 a29 = absurd (rw e at ok)
  tag_left (suc (suc (suc (suc (suc (suc (suc (suc (suc (suc (suc (suc (suc (suc (suc (suc (suc (suc (suc (suc (suc (suc (suc (suc (suc (suc zero)))))))))))))))))))))))))) e u a6 a10 a11 a12 a13 a14 a15 a20 a21 a29 = absurd (rw e at ok)
  tag_left (suc (suc (suc (suc (suc (suc (suc (suc (suc (suc (suc (suc (suc (suc (suc (suc (suc (suc (suc (suc (suc (suc (suc (suc (suc (suc (suc zero))))))))))))))))))))))))))) e u a6 a10 a11 a12 a13 a14 a15 a20 a21 a29 = absurd (rw e at ok)
  tag_left (suc (suc (suc (suc (suc (suc (suc (suc (suc (suc (suc (suc (suc (suc (suc (suc (suc (suc (suc (suc (suc (suc (suc (suc (suc (suc (suc (suc zero)))))))))))))))))))))))))))) e u a6 a10 a11 a12 a13 a14 a15 a20 a21 a29 = absurd (rw e at ok)
  tag_left (suc (suc (suc (suc (suc (suc (suc (suc (suc (suc (suc (suc (suc (suc (suc (suc (suc (suc (suc (suc (suc (suc (suc (suc (suc (suc (suc (suc (suc zero))))))))))))))))))))))))))))) e u a6 a10 a11 a12 a13 a14 a15 a20 a21 a29 = absurd (a29 refl)
  tag_left (suc (suc (suc (suc (suc (suc (suc (suc (suc (suc (suc (suc (suc (suc (suc (suc (suc (suc (suc (suc (suc (suc (suc (suc (suc (suc (suc (suc (suc (suc t)))))))))))))))))))))))))))))) e u a6 a10 a11 a12 a13 a14 a15 a20 a21 a29 = absurd (rw e at ok)

-- a node of a kind that has operands is not the first one
pub inner : (ws : List ℕ) (p k : ℕ) → node_holds ws p ≡ true → node_word ws p 0 ≡ k → 0 < operands (kind_of k) (node_word ws p 3) → 1 ≤ p
inner ws p k h e l = omega (arith, operand_below ws p h 0 (rw e l))

pub inner_first : (ws : List ℕ) (p t : ℕ) → node_holds ws p ≡ true → node_word ws p 0 ≡ t → First t → 1 ≤ p
unfolding kind_of operands
inner_first ws p t h e (inl (inl k)) = inner ws p t h e (rw k (omega arith))
inner_first ws p t h e (inl (inr k)) = inner ws p t h e (rw k (omega arith))
inner_first ws p t h e (inr k) = inner ws p t h e (rw k (omega arith))

pub first_shape : (t : ℕ) → First t → shape_of t ≡ first
unfolding shape_of
first_shape t (inl (inl k)) = rw k
first_shape t (inl (inr k)) = rw k
first_shape t (inr k) = rw k

pub first_small : (t : ℕ) → First t → t ≤ 8
first_small t (inl (inl k)) = omega arith
first_small t (inl (inr k)) = omega arith
first_small t (inr k) = omega arith
