-- When a value that is assigned is taken up: a sequence's first part sets the variable of the block around it, which is unset.
use Rattle.std.proofs.Math.Path.{◌≡◌, refl, sym, ap}
use Rattle.std.proofs.Common.{◌∙◌, arith}
use Rattle.std.specs.Prelude.{Bool, ◌&&◌, ◌||◌, List, ◌∷◌, ◌⊎◌, get_or, set}
use Rattle.std.proofs.Math.Bool.{true, false}
use Rattle.std.proofs.Math.Option.{none, some}
use Rattle.std.proofs.Math.Logic.{inl, inr}
use Prim.Native.Nat.{ℕ, zero, suc, ◌+◌, ◌*◌, ◌≤◌, ◌<◌}
use Rattle.std.proofs.Math.Decide.{ℕ_discrete}
use Rattle.std.proofs.Math.Dec.{eqb}
use Rattle.std.proofs.Math.ListN.{length, length-set}
use Rattle.std.proofs.Math.Seq.{get_or-set_other}
use borrow.Author.Tests.{eqb-true, eq-eqb, ne_eqb}
use Rattle.words.specs.declared.Value.{Value}
use Rattle.words.specs.Types.{type_of}
use Rattle.image.specs.Laws.{and_left, and_right}
use Rattle.image.specs.Numbers.{variables}
use Rattle.image.specs.Trailer.{node_count}
use Rattle.image.specs.Nodes.{kind_of}
use Rattle.rules.specs.Trees.{Expr, val, assign}
use Rattle.rules.specs.Step.{Store, blocked}
use Rattle.rules.specs.Maps.{upd}
use Rattle.laws.specs.Maps.{upd_twice}
use Rattle.laws.specs.Values.{value_at, IsValue}
use Rattle.laws.specs.Frames.{Frame, block_f, seq_f, assign_f, outer, plugs, outers, plugs_begun}
use Rattle.room.specs.Room.{search_word, held, store_of, shape_of, begun, halfway, calling, loaded, operand_of, frame_of, word, tag, kept, frame, frames}
use Rattle.room.specs.RoomLaws.{store_at, set_store, set_frames, set_fit, fit_less}
use Rattle.room.specs.declared.Focus.{Focus}
use Rattle.room.specs.declared.Focus.TheVariants.{Node}
use Rattle.room.specs.Turn.{focus_of, weight, pending, phi, whole, outside, Inv, Moves}
use Rattle.room.specs.Enter.{pending_same}
use Rattle.room.specs.Stack.{is_seq_f, block_var, Unarmed, unarmed_other, unarmed_plain, unarmed_set, unarmed_var}

module _ (ws room : List ℕ) where
  -- under l frames, the innermost being a block of x that is unset
  unfoldable pub armed : (l x : ℕ) → Bool
  armed zero x = false
  armed (suc j) x = eqb (tag ws room j) 10 && eqb (word ws room j 2) x && eqb (get_or room x 0) 0

  -- under l frames, the innermost being a sequence's or a loop's, and the one around it such a block
  unfoldable pub armed_seq : (l x : ℕ) → Bool
  armed_seq zero x = false
  armed_seq (suc i) x = (eqb (tag ws room i) 11 || eqb (tag ws room i) 29) && armed i x

-- a frame of any other tag is no sequence, and of any other tag no block
tag_other : (ws : List ℕ) (t p a b c : ℕ) (k : ℕ → ℕ) → (t ≡ 11 → ⊥) → (t ≡ 29 → ⊥) → is_seq_f (frame_of ws (shape_of t) t p a b c k) ≡ false
unfolding frame_of shape_of is_seq_f begun halfway calling kind_of
tag_other ws zero p a b c k d e = refl
tag_other ws (suc zero) p a b c k d e = refl
tag_other ws (suc (suc zero)) p a b c k d e = refl
tag_other ws (suc (suc (suc zero))) p a b c k d e = refl
tag_other ws (suc (suc (suc (suc zero)))) p a b c k d e = refl
tag_other ws (suc (suc (suc (suc (suc zero))))) p a b c k d e = refl
tag_other ws (suc (suc (suc (suc (suc (suc zero)))))) p a b c k d e = refl
tag_other ws (suc (suc (suc (suc (suc (suc (suc zero))))))) p a b c k d e = refl
tag_other ws (suc (suc (suc (suc (suc (suc (suc (suc zero)))))))) p a b c k d e = refl
tag_other ws (suc (suc (suc (suc (suc (suc (suc (suc (suc zero))))))))) p zero b c k d e = refl
tag_other ws (suc (suc (suc (suc (suc (suc (suc (suc (suc zero))))))))) p (suc a) b c k d e = refl
tag_other ws (suc (suc (suc (suc (suc (suc (suc (suc (suc (suc zero)))))))))) p a b c k d e = refl
tag_other ws (suc (suc (suc (suc (suc (suc (suc (suc (suc (suc (suc zero))))))))))) p a b c k d e = absurd (d refl)
tag_other ws (suc (suc (suc (suc (suc (suc (suc (suc (suc (suc (suc (suc zero)))))))))))) p a b c k d e = refl
tag_other ws (suc (suc (suc (suc (suc (suc (suc (suc (suc (suc (suc (suc (suc zero))))))))))))) p a b c k d e = refl
tag_other ws (suc (suc (suc (suc (suc (suc (suc (suc (suc (suc (suc (suc (suc (suc zero)))))))))))))) p a b c k d e = refl
tag_other ws (suc (suc (suc (suc (suc (suc (suc (suc (suc (suc (suc (suc (suc (suc (suc zero))))))))))))))) p a b c k d e = refl
tag_other ws (suc (suc (suc (suc (suc (suc (suc (suc (suc (suc (suc (suc (suc (suc (suc (suc zero)))))))))))))))) p a b c k d e = refl
tag_other ws (suc (suc (suc (suc (suc (suc (suc (suc (suc (suc (suc (suc (suc (suc (suc (suc (suc zero))))))))))))))))) p a b c k d e = refl
tag_other ws (suc (suc (suc (suc (suc (suc (suc (suc (suc (suc (suc (suc (suc (suc (suc (suc (suc (suc zero)))))))))))))))))) p a b c k d e = refl
tag_other ws (suc (suc (suc (suc (suc (suc (suc (suc (suc (suc (suc (suc (suc (suc (suc (suc (suc (suc (suc zero))))))))))))))))))) p a b c k d e = refl
tag_other ws (suc (suc (suc (suc (suc (suc (suc (suc (suc (suc (suc (suc (suc (suc (suc (suc (suc (suc (suc (suc zero)))))))))))))))))))) p a b c k d e = refl
tag_other ws (suc (suc (suc (suc (suc (suc (suc (suc (suc (suc (suc (suc (suc (suc (suc (suc (suc (suc (suc (suc (suc zero))))))))))))))))))))) p a b c k d e = refl
tag_other ws (suc (suc (suc (suc (suc (suc (suc (suc (suc (suc (suc (suc (suc (suc (suc (suc (suc (suc (suc (suc (suc (suc zero)))))))))))))))))))))) p a b c k d e = refl
tag_other ws (suc (suc (suc (suc (suc (suc (suc (suc (suc (suc (suc (suc (suc (suc (suc (suc (suc (suc (suc (suc (suc (suc (suc zero))))))))))))))))))))))) p a b c k d e = refl
tag_other ws (suc (suc (suc (suc (suc (suc (suc (suc (suc (suc (suc (suc (suc (suc (suc (suc (suc (suc (suc (suc (suc (suc (suc (suc zero)))))))))))))))))))))))) p a b c k d e = refl
tag_other ws (suc (suc (suc (suc (suc (suc (suc (suc (suc (suc (suc (suc (suc (suc (suc (suc (suc (suc (suc (suc (suc (suc (suc (suc (suc zero))))))))))))))))))))))))) p a b c k d e = refl
tag_other ws (suc (suc (suc (suc (suc (suc (suc (suc (suc (suc (suc (suc (suc (suc (suc (suc (suc (suc (suc (suc (suc (suc (suc (suc (suc (suc zero)))))))))))))))))))))))))) p a b c k d e = refl
tag_other ws (suc (suc (suc (suc (suc (suc (suc (suc (suc (suc (suc (suc (suc (suc (suc (suc (suc (suc (suc (suc (suc (suc (suc (suc (suc (suc (suc zero))))))))))))))))))))))))))) p a b c k d e = refl
tag_other ws (suc (suc (suc (suc (suc (suc (suc (suc (suc (suc (suc (suc (suc (suc (suc (suc (suc (suc (suc (suc (suc (suc (suc (suc (suc (suc (suc (suc zero)))))))))))))))))))))))))))) p a b c k d e = refl
tag_other ws (suc (suc (suc (suc (suc (suc (suc (suc (suc (suc (suc (suc (suc (suc (suc (suc (suc (suc (suc (suc (suc (suc (suc (suc (suc (suc (suc (suc (suc zero))))))))))))))))))))))))))))) p a b c k d e = absurd (e refl)
tag_other ws (suc (suc (suc (suc (suc (suc (suc (suc (suc (suc (suc (suc (suc (suc (suc (suc (suc (suc (suc (suc (suc (suc (suc (suc (suc (suc (suc (suc (suc (suc t)))))))))))))))))))))))))))))) p a b c k d e = refl

tag_plain : (ws : List ℕ) (t p a b c : ℕ) (k : ℕ → ℕ) → (t ≡ 10 → ⊥) → block_var (frame_of ws (shape_of t) t p a b c k) ≡ none
unfolding frame_of shape_of block_var begun halfway calling kind_of
tag_plain ws zero p a b c k d = refl
tag_plain ws (suc zero) p a b c k d = refl
tag_plain ws (suc (suc zero)) p a b c k d = refl
tag_plain ws (suc (suc (suc zero))) p a b c k d = refl
tag_plain ws (suc (suc (suc (suc zero)))) p a b c k d = refl
tag_plain ws (suc (suc (suc (suc (suc zero))))) p a b c k d = refl
tag_plain ws (suc (suc (suc (suc (suc (suc zero)))))) p a b c k d = refl
tag_plain ws (suc (suc (suc (suc (suc (suc (suc zero))))))) p a b c k d = refl
tag_plain ws (suc (suc (suc (suc (suc (suc (suc (suc zero)))))))) p a b c k d = refl
tag_plain ws (suc (suc (suc (suc (suc (suc (suc (suc (suc zero))))))))) p zero b c k d = refl
tag_plain ws (suc (suc (suc (suc (suc (suc (suc (suc (suc zero))))))))) p (suc a) b c k d = refl
tag_plain ws (suc (suc (suc (suc (suc (suc (suc (suc (suc (suc zero)))))))))) p a b c k d = absurd (d refl)
tag_plain ws (suc (suc (suc (suc (suc (suc (suc (suc (suc (suc (suc zero))))))))))) p a b c k d = refl
tag_plain ws (suc (suc (suc (suc (suc (suc (suc (suc (suc (suc (suc (suc zero)))))))))))) p a b c k d = refl
tag_plain ws (suc (suc (suc (suc (suc (suc (suc (suc (suc (suc (suc (suc (suc zero))))))))))))) p a b c k d = refl
tag_plain ws (suc (suc (suc (suc (suc (suc (suc (suc (suc (suc (suc (suc (suc (suc zero)))))))))))))) p a b c k d = refl
tag_plain ws (suc (suc (suc (suc (suc (suc (suc (suc (suc (suc (suc (suc (suc (suc (suc zero))))))))))))))) p a b c k d = refl
tag_plain ws (suc (suc (suc (suc (suc (suc (suc (suc (suc (suc (suc (suc (suc (suc (suc (suc zero)))))))))))))))) p a b c k d = refl
tag_plain ws (suc (suc (suc (suc (suc (suc (suc (suc (suc (suc (suc (suc (suc (suc (suc (suc (suc zero))))))))))))))))) p a b c k d = refl
tag_plain ws (suc (suc (suc (suc (suc (suc (suc (suc (suc (suc (suc (suc (suc (suc (suc (suc (suc (suc zero)))))))))))))))))) p a b c k d = refl
tag_plain ws (suc (suc (suc (suc (suc (suc (suc (suc (suc (suc (suc (suc (suc (suc (suc (suc (suc (suc (suc zero))))))))))))))))))) p a b c k d = refl
tag_plain ws (suc (suc (suc (suc (suc (suc (suc (suc (suc (suc (suc (suc (suc (suc (suc (suc (suc (suc (suc (suc zero)))))))))))))))))))) p a b c k d = refl
tag_plain ws (suc (suc (suc (suc (suc (suc (suc (suc (suc (suc (suc (suc (suc (suc (suc (suc (suc (suc (suc (suc (suc zero))))))))))))))))))))) p a b c k d = refl
tag_plain ws (suc (suc (suc (suc (suc (suc (suc (suc (suc (suc (suc (suc (suc (suc (suc (suc (suc (suc (suc (suc (suc (suc zero)))))))))))))))))))))) p a b c k d = refl
tag_plain ws (suc (suc (suc (suc (suc (suc (suc (suc (suc (suc (suc (suc (suc (suc (suc (suc (suc (suc (suc (suc (suc (suc (suc zero))))))))))))))))))))))) p a b c k d = refl
tag_plain ws (suc (suc (suc (suc (suc (suc (suc (suc (suc (suc (suc (suc (suc (suc (suc (suc (suc (suc (suc (suc (suc (suc (suc (suc zero)))))))))))))))))))))))) p a b c k d = refl
tag_plain ws (suc (suc (suc (suc (suc (suc (suc (suc (suc (suc (suc (suc (suc (suc (suc (suc (suc (suc (suc (suc (suc (suc (suc (suc (suc zero))))))))))))))))))))))))) p a b c k d = refl
tag_plain ws (suc (suc (suc (suc (suc (suc (suc (suc (suc (suc (suc (suc (suc (suc (suc (suc (suc (suc (suc (suc (suc (suc (suc (suc (suc (suc zero)))))))))))))))))))))))))) p a b c k d = refl
tag_plain ws (suc (suc (suc (suc (suc (suc (suc (suc (suc (suc (suc (suc (suc (suc (suc (suc (suc (suc (suc (suc (suc (suc (suc (suc (suc (suc (suc zero))))))))))))))))))))))))))) p a b c k d = refl
tag_plain ws (suc (suc (suc (suc (suc (suc (suc (suc (suc (suc (suc (suc (suc (suc (suc (suc (suc (suc (suc (suc (suc (suc (suc (suc (suc (suc (suc (suc zero)))))))))))))))))))))))))))) p a b c k d = refl
tag_plain ws (suc (suc (suc (suc (suc (suc (suc (suc (suc (suc (suc (suc (suc (suc (suc (suc (suc (suc (suc (suc (suc (suc (suc (suc (suc (suc (suc (suc (suc zero))))))))))))))))))))))))))))) p a b c k d = refl
tag_plain ws (suc (suc (suc (suc (suc (suc (suc (suc (suc (suc (suc (suc (suc (suc (suc (suc (suc (suc (suc (suc (suc (suc (suc (suc (suc (suc (suc (suc (suc (suc t)))))))))))))))))))))))))))))) p a b c k d = refl

module _ (ws room : List ℕ) where
  -- the frame of a block, of a sequence and of a loop
  pub frame_block : (j : ℕ) → tag ws room j ≡ 10
      → frame ws room j ≡ block_f (word ws room j 1) (word ws room j 2) (type_of (word ws room j 3)) (held (word ws room j 4))
  unfolding frame frame_of shape_of
  frame_block j h = rw h

  pub frame_seq : (j : ℕ) → tag ws room j ≡ 11 → frame ws room j ≡ seq_f (word ws room j 1) (operand_of ws (word ws room j 1) 0)
  unfolding frame frame_of shape_of begun kind_of
  frame_seq j h = rw h

  pub frame_loop : (j : ℕ) → tag ws room j ≡ 29 → frame ws room j ≡ seq_f (word ws room j 1) (loaded ws (word ws room j 1))
  unfolding frame frame_of shape_of
  frame_loop j h = rw h

  frame_other : (j : ℕ) → (tag ws room j ≡ 11 → ⊥) → (tag ws room j ≡ 29 → ⊥) → is_seq_f (frame ws room j) ≡ false
  unfolding frame
  frame_other j d e = tag_other ws (tag ws room j) _ _ _ _ (kept ws room j) d e

  frame_plain : (j : ℕ) → (tag ws room j ≡ 10 → ⊥) → block_var (frame ws room j) ≡ none
  unfolding frame
  frame_plain j d = tag_plain ws (tag ws room j) _ _ _ _ (kept ws room j) d

  -- the block that takes the value up
  pub record Takes (j x : ℕ) : Type 0 where
    pub tagged : tag ws room j ≡ 10
    pub variable : word ws room j 2 ≡ x
    pub unset : get_or room x 0 ≡ 0

  pub armed_block : (l x : ℕ) → armed ws room l x ≡ true → (j : ℕ) × (l ≡ suc j) × Takes j x
  unfolding armed
  armed_block zero x h = absurd (let z : ◌≡◌ {A = ℕ} 0 1 = cc in omega arith)
  armed_block (suc j) x h =
      let a = eqb (tag ws room j) 10 in
      let b = eqb (word ws room j 2) x in
      let c = eqb (get_or room x 0) 0 in
      let q = and_left (a && b) c h in (
        j,
        refl,
        record { tagged = eqb-true _ _ (and_left a b q); variable = eqb-true _ _ (and_right a b q); unset = eqb-true _ _ (and_right (a && b) c h) },
      )

  held_some : (x w : ℕ) → x < variables → get_or room x 0 ≡ suc w → store_of room x ≡ some (value_at w)
  unfolding held
  held_some x w h e = store_at room x h ∙ rw e

  -- A sequence under l frames that takes nothing up.
  pub armed_not : (l q : ℕ) (b : Expr) (r x k : ℕ) (v : Value) → x < variables → armed ws room l x ≡ false
      → Unarmed (seq_f q b ∷ frames ws room l) (store_of room) (assign r x (val k v))
  unfolding armed frames
  armed_not zero q b r x k v m h = tt
  armed_not (suc j) q b r x k v m h = go (ℕ_discrete (tag ws room j) 10)
    where
      F : Frame
      F = seq_f q b

      G : Frame
      G = frame ws room j

      Fs : List Frame
      Fs = frames ws room j

      s : Store
      s = store_of room

      e : Expr
      e = assign r x (val k v)

      unset : (y : ℕ) → y < variables → tag ws room j ≡ 10 → word ws room j 2 ≡ y → x ≡ y → (n : ℕ) → get_or room x 0 ≡ n
          → Unarmed (F ∷ G ∷ Fs) s e
      unset y my t a c zero n =
          absurd (let z : ◌≡◌ {A = Bool} true false = sym (rw (eq-eqb _ _ t, eq-eqb (word ws room j 2) x (a ∙ sym c), n)) ∙ h in
          let z1 : ◌≡◌ {A = ℕ} 0 1 = cc in omega arith)
      unset y my t a c (suc w) n =
          rw (frame_block j t) (unarmed_set q b _ (word ws room j 2) _ _ Fs s e (value_at w) (rw (a, ← c) (held_some x w m n)))

      go : Dec (tag ws room j ≡ 10) → Unarmed (F ∷ G ∷ Fs) s e
      go (no d) = unarmed_plain F G Fs s e (frame_plain j d)
      go (yes t) = there (ℕ_discrete (word ws room j 2) x)
        where
          there : Dec (word ws room j 2 ≡ x) → Unarmed (F ∷ G ∷ Fs) s e
          there (no d) = rw (frame_block j t) (unarmed_var q b _ (word ws room j 2) _ _ Fs s r x k v d)
          there (yes a) = unset x m t a refl (get_or room x 0) refl

  -- an assignment under l frames that none takes up
  pub armed_seq_not : (l r x k : ℕ) (v : Value) → x < variables → armed_seq ws room l x ≡ false
      → Unarmed (frames ws room l) (store_of room) (assign r x (val k v))
  unfolding armed_seq frames
  armed_seq_not zero r x k v m h = tt
  armed_seq_not (suc i) r x k v m h = go (ℕ_discrete (tag ws room i) 11) (ℕ_discrete (tag ws room i) 29)
    where
      other : (i : ℕ) → (tag ws room i ≡ 11 → ⊥) → (tag ws room i ≡ 29 → ⊥)
          → Unarmed (frame ws room i ∷ frames ws room i) (store_of room) (assign r x (val k v))
      other zero d e = tt
      other (suc j) d e =
          unarmed_other (frame ws room (suc j)) (frame ws room j) (frames ws room j) (store_of room) (assign r x (val k v))
          (frame_other (suc j) d e)

      go : Dec (tag ws room i ≡ 11) → Dec (tag ws room i ≡ 29)
          → Unarmed (frame ws room i ∷ frames ws room i) (store_of room) (assign r x (val k v))
      go (yes t) d = rw (frame_seq i t) (armed_not i _ _ r x k v m (rw (eq-eqb _ _ t) at h))
      go (no c) (yes t) = rw (frame_loop i t) (armed_not i _ _ r x k v m (rw (ne_eqb _ _ c, eq-eqb _ _ t) at h))
      go (no c) (no d) = other i c d

  pub armed_seq_frames : (l x : ℕ) → armed_seq ws room l x ≡ true
      → (j : ℕ) × (l ≡ suc (suc j)) × ((tag ws room (suc j) ≡ 11) ⊎ (tag ws room (suc j) ≡ 29)) × Takes j x
  unfolding armed_seq
  armed_seq_frames zero x h = absurd (let z : ◌≡◌ {A = ℕ} 0 1 = cc in omega arith)
  armed_seq_frames (suc i) x h =
      let a = eqb (tag ws room i) 11 in
      let b = eqb (tag ws room i) 29 in
      let o = and_left (a || b) (armed ws room i x) h in
      let t = armed_block i x (and_right (a || b) (armed ws room i x) h) in
      let e = t.1 in
      let s : (tag ws room i ≡ 11) ⊎ (tag ws room i ≡ 29) = either a b o (eqb-true (tag ws room i) 11) (eqb-true (tag ws room i) 29) in
      (t.0, ap suc e, rw e at s, t.2)
    where
      either : {A B : Type 0} (a b : Bool) → (a || b) ≡ true → (a ≡ true → A) → (b ≡ true → B) → A ⊎ B
      either true b o f g = inl (f refl)
      either false b o f g = inr (g o)

-- The block takes the value up: the assignment and the sequence are gone, and the variable is set inside.
module _ (ws room : List ℕ) (j x w : ℕ) (t : Takes ws room j x) (local : x < variables) (long : x < length room) where
  unset_store : store_of room x ≡ none
  unfolding held
  unset_store = store_at room x local ∙ rw t.unset

  stored : store_of (set room x (suc w)) ≡ upd (store_of room) x (some (value_at w))
  unfolding held
  stored = set_store room x (suc w) local long

  pub taken_plugs : (q r k : ℕ) (b : Expr)
      → plugs blocked (frames ws (set room x (suc w)) (suc j)) (store_of (set room x (suc w))) b
      ≡ plugs blocked (assign_f r x ∷ seq_f q b ∷ frames ws room (suc j)) (store_of room) (val k (value_at w))
  unfolding frames
  taken_plugs q r k b =
      rw (stored, set_frames ws room x (suc w) (suc j) (omega arith), frame_block ws room j t.tagged, t.variable)
      (sym
      (plugs_begun (frames ws room j) (word ws room j 1) x (type_of (word ws room j 3)) (held (word ws room j 4)) q r k (value_at w) b
      (store_of room) unset_store))

  pub taken_outers
      : outers (frames ws (set room x (suc w)) (suc j)) (store_of (set room x (suc w))) ≡ outers (frames ws room (suc j)) (store_of room)
  unfolding frames outers outer
  taken_outers =
      rw (
        stored,
        set_frames ws room x (suc w) (suc j) (omega arith),
        frame_block ws room j t.tagged,
        t.variable,
        upd_twice (store_of room) x (some (value_at w)) (held (word ws room j 4)),
      )

module _ (ws : List ℕ) (D : ℕ) (room : List ℕ) (l j : ℕ) (f : Focus) (inv : Inv ws D room l f) where
  pub takes_up : (x w q r k m : ℕ) → Takes ws room j x → suc j ≤ l → x < variables → IsValue w → m < node_count ws
      → whole ws room l f ≡ plugs blocked (assign_f r x ∷ seq_f q (loaded ws m) ∷ frames ws room (suc j)) (store_of room) (val k (value_at w))
      → outside ws room l ≡ outers (frames ws room (suc j)) (store_of room)
      → 2 * pending ws room (suc j) + weight ws (Node m) < phi ws room l f
      → Moves ws D room l f (set room x (suc w)) (suc j) (Node m)
  unfolding focus_of
  takes_up x w q r k m t h local v n e o p =
      let long : x < length room = omega (arith, inv.long) in
      record {
        inv =
            record {
              fit = set_fit ws x (suc w) local v (fit_less ws h inv.fit);
              level = omega (arith, inv.level);
              long = rw length-set inv.long;
              here = n;
            };
        size = length-set room x (suc w);
        search = get_or-set_other room x search_word (suc w) 0 (λ i. let z : search_word ≡ x = i in omega arith);
        same = taken_plugs ws room j x w t local long q r k (loaded ws m) ∙ sym e;
        around = taken_outers ws room j x w t local long ∙ sym o;
        falls =
            rw (pending_same ws room (set room x (suc w)) (suc j)
            (λ i a b. get_or-set_other room x i (suc w) 0 (λ z. let y : i ≡ x = z in omega arith))) p;
      }
