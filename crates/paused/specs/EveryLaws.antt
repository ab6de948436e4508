-- Laws of the tests whether a room and a record are all 0.
use Rattle.std.specs.Prelude.{◌≡◌, ◌↔◌, Bool, ◌&&◌, List, ℕ, zero, suc, ◌+◌, ◌≤◌, ◌<◌, length, get_or, take, All, IsTrue}
use Rattle.std.specs.List.{list_all}
use Rattle.std.specs.Int.Bits.{bit_or, or_add_and}
use Rattle.std.proofs.lemmas.Nat.{and_le_l, and_le_r}
use Rattle.std.proofs.lemmas.Bool.{eqb-false}
use native.Mathlib.Omega.{arith}
use Rattle.std.proofs.Math.Path.{refl, sym}
use Rattle.std.proofs.Math.Seq.{take-length}
use Rattle.std.proofs.Common.{◌∙◌, add-one, eq-eqb, ne_eqb, eqb-true}
use Rattle.std.proofs.Math.Bool.{true, false}
use Rattle.std.proofs.Math.Dec.{eqb}
use Rattle.pause.specs.declared.Record.{Record}
use Rattle.pause.specs.Paused.{every, blank, fresh}
use Rattle.std.proofs.lemmas.List.Folds.{list_all_more}
use Rattle.std.proofs.lemmas.List.Elements.{All-get_or, All-from_get_or}
use Rattle.pause.specs.PausedLaws.{not_both, every_true, every_all}

-- what is true of nothing is false
pub is_false : (t : Bool) → (t ≡ true → ⊥) → false ≡ t
is_false true h = absurd (h refl)
is_false false h = refl

-- One place more,
pub every_on : (f : ℕ → Bool) (k : ℕ) → every f k ≡ true → f k ≡ true → every f (k + 1) ≡ true
unfolding every
every_on f k h e = rw (add-one k, h, e)

-- a place that does not hold,
pub every_not : (f : ℕ → Bool) (n k : ℕ) → k < n → f k ≡ false → false ≡ every f n
every_not f n k l e = is_false (every f n) (λ h. not_both (sym (every_true f n h k l) ∙ e))

-- and the end.
pub every_end : (f : ℕ → Bool) (n k : ℕ) → k ≤ n → n ≤ k → every f k ≡ true → true ≡ every f n
every_end f n k a b h = let e : n ≡ k = omega arith in rw (e, h)

pub every_same : (f g : ℕ → Bool) (n : ℕ) → ((k : ℕ) → k < n → f k ≡ g k) → every f n ≡ every g n
unfolding every
every_same f g zero h = refl
every_same f g (suc n) h = rw (every_same f g n (λ k l. h k (omega arith)), h n (omega arith))

-- Words that were joined are all 0 where what they came to is.
or_zero : (a b : ℕ) → eqb (bit_or a b) 0 ≡ (eqb a 0 && eqb b 0)
or_zero a b = go (eqb a 0) (eqb b 0) refl refl
  where
    go : (t u : Bool) → eqb a 0 ≡ t → eqb b 0 ≡ u → eqb (bit_or a b) 0 ≡ (t && u)
    go true true d e = eq-eqb (bit_or a b) 0 (omega (arith, or_add_and a b, eqb-true a 0 d, eqb-true b 0 e))
    go true false d e = ne_eqb (bit_or a b) 0 (λ z. eqb-false b 0 e (omega (arith, or_add_and a b, and_le_l a b, z)))
    go false u d e = ne_eqb (bit_or a b) 0 (λ z. eqb-false a 0 d (omega (arith, or_add_and a b, and_le_r a b, z)))

pub blank_start : (w : ℕ → ℕ) (a : ℕ) → eqb 0 0 ≡ blank w a 0
unfolding blank every
blank_start w a = refl

pub blank_on : (w : ℕ → ℕ) (a k d : ℕ) → eqb d 0 ≡ blank w a k → eqb (bit_or d (w (a + k))) 0 ≡ blank w a (k + 1)
unfolding blank every
blank_on w a k d h = rw (add-one k, or_zero, h)

pub blank_end : (w : ℕ → ℕ) (a n k d : ℕ) → k ≤ n → n ≤ k → eqb d 0 ≡ blank w a k → eqb d 0 ≡ blank w a n
blank_end w a n k d x y h = let e : n ≡ k = omega arith in rw e h

-- All words of a list are 0 where it is blank from its first word to its last.
module _ (room : List ℕ) where
  list_every : (n : ℕ) → n ≤ length room → list_all (λ w. eqb w 0) (take n room) ≡ every (λ j. eqb (get_or room j 0) 0) n
  unfolding every
  list_every zero h = refl
  list_every (suc n) h =
      let m : suc n ≡ n + 1 = omega arith in
      rw (m, list_all_more (λ w. eqb w 0) room n 0 (omega arith), list_every n (omega arith)) refl

  blank_all : blank (λ j. get_or room j 0) 0 (length room) ≡ every (λ j. eqb (get_or room j 0) 0) (length room)
  unfolding blank
  blank_all = every_same (λ k. eqb (get_or room (0 + k) 0) 0) (λ j. eqb (get_or room j 0) 0) (length room) (λ k l. let e : 0 + k ≡ k = omega arith in rw e)

  pub list_blank : list_all (λ w. eqb w 0) room ≡ blank (λ j. get_or room j 0) 0 (length room)
  list_blank = rw take-length at (list_every (length room) (omega arith)) ∙ sym blank_all

-- A room and a record that are all 0.
module _ (room : List ℕ) (r : Record) where
  pub fresh_all : (eqb r.steps 0 && eqb r.node 0 && eqb r.levels 0) ≡ true → blank (λ j. get_or room j 0) 0 (length room) ≡ fresh room r
  unfolding fresh
  fresh_all h = blank_all room ∙ go (every (λ j. eqb (get_or room j 0) 0) (length room)) (eqb r.steps 0) (eqb r.node 0) (eqb r.levels 0) h
    where
      go : (t a b c : Bool) → (a && b && c) ≡ true → t ≡ (t && a && b && c)
      go true a b c h = sym h
      go false a b c h = refl

  -- a test that says whether the room is
  every_blank : {t : Bool} → (IsTrue t ↔ All (λ w. w ≡ 0) room) → t ≡ every (λ j. eqb (get_or room j 0) 0) (length room)
  every_blank {t} h = go t (every (λ j. eqb (get_or room j 0) 0) (length room)) refl refl
    where
      go : (u v : Bool) → t ≡ u → every (λ j. eqb (get_or room j 0) 0) (length room) ≡ v → u ≡ v
      go true v d e = sym (every_all (λ j. eqb (get_or room j 0) 0) (length room) (λ k l. rw (All-get_or (λ w. w ≡ 0) room k 0 l (h.0 d)))) ∙ e
      go false true d e = not_both (sym (h.1 (All-from_get_or (λ w. w ≡ 0) room 0 (λ k l. eqb-true (get_or room k 0) 0 (every_true _ _ e k l)))) ∙ d)
      go false false d e = refl

  pub fresh_test : {t : Bool} → (eqb r.steps 0 && eqb r.node 0 && eqb r.levels 0) ≡ true → (IsTrue t ↔ All (λ w. w ≡ 0) room) → t ≡ fresh room r
  unfolding fresh
  fresh_test h b = every_blank b ∙ go (every (λ j. eqb (get_or room j 0) 0) (length room)) (eqb r.steps 0) (eqb r.node 0) (eqb r.levels 0) h
    where
      go : (t a b c : Bool) → (a && b && c) ≡ true → t ≡ (t && a && b && c)
      go true a b c h = sym h
      go false a b c h = refl

  pub fresh_not : (eqb r.steps 0 && eqb r.node 0 && eqb r.levels 0) ≡ false → false ≡ fresh room r
  unfolding fresh
  fresh_not h = go (every (λ j. eqb (get_or room j 0) 0) (length room)) (eqb r.steps 0) (eqb r.node 0) (eqb r.levels 0) h
    where
      go : (t a b c : Bool) → (a && b && c) ≡ false → false ≡ (t && a && b && c)
      go true a b c h = sym h
      go false a b c h = refl
