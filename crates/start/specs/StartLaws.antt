-- Laws: how the room begins.
use Rattle.std.specs.Prelude.{◌≡◌, Bool, List, map, ◌++◌, get_or, set, take, drop, replicate}
use Rattle.std.proofs.Math.Path.{refl}
use Rattle.std.proofs.Common.{sym, ◌∙◌, ap, arith, get_or-set_same, get_or-set_other}
use Rattle.std.proofs.Math.Bool.{true, false}
use Rattle.std.proofs.Math.Option.{some}
use Prim.Native.Nat.{ℕ, zero, suc, ◌+◌, ◌≤◌, ◌<◌}
use Rattle.std.proofs.Math.Decide.{ℕ_discrete}
use Rattle.std.proofs.Math.Dec.{ltb}
use Rattle.std.proofs.Math.ListN.{length, length-map}
use Rattle.std.proofs.lemmas.List.{length-replicate, get_or-replicate, get_or_append_left, length-append, length-take-le, length-drop}
use borrow.Author.Tests.{ltb-true, ltb-false}
use Rattle.image.specs.Numbers.{variables}
use Rattle.rules.specs.Maps.{from}
use Rattle.rules.specs.Heap.{values_of}
use Rattle.laws.specs.Maps.{from_at, from_below, from_beyond, get_d_map}
use Rattle.laws.specs.Values.{value_at, IsValue}
use Rattle.room.specs.Room.{search_word, frame_at, held as holding, store_of, Held, Fit}
use Rattle.room.specs.RoomLaws.{store_at}
use Rattle.start.specs.Start.{start_words, Zeros, Filled}

-- the first words become 0, and no word goes
pub zeros_front : {xs : List ℕ} (room : List ℕ) (n : ℕ) → n ≤ length room → xs ≡ replicate (length (take n room)) 0
    → Zeros (xs ++ drop n room) n × (length (xs ++ drop n room) ≡ length room)
zeros_front {xs} room n h e =
    let t = length-take-le n room h in
    let m : length xs ≡ n = ap length e ∙ length-replicate _ 0 ∙ t in (
      record { zero = λ j l. get_or_append_left xs (drop n room) 0 j (omega arith) ∙ rw e (get_or-replicate (length (take n room)) j 0 0 (omega (arith, t))) },
      length-append xs (drop n room) ∙ rw (m, length-drop n room) (omega arith),
    )

-- and then the inputs are written
pub filled_start : {is room : List ℕ} {n : ℕ} → Zeros room n → start_words ≤ n → Filled is room 0
filled_start z h =
    record {
      this = z.zero 0 (omega arith);
      input = λ k l. absurd (omega arith);
      rest = λ j l m. z.zero j (omega arith);
    }

pub filled_on : {is room : List ℕ} {i : ℕ} → Filled is room i → i + 1 < length room
    → Filled is (set room (i + 1) (get_or is i 0 + 1)) (i + 1)
filled_on {is} {room} {i} f h =
    record {
      this = get_or-set_other room (i + 1) 0 (get_or is i 0 + 1) 0 (λ e. let q : 0 ≡ i + 1 = e in omega arith) ∙ f.this;
      input = λ k l. go k l (ℕ_discrete k i);
      rest = λ j l m. get_or-set_other room (i + 1) j (get_or is i 0 + 1) 0 (λ e. let q : j ≡ i + 1 = e in omega arith) ∙ f.rest j (omega arith) m;
    }
  where
    go : (k : ℕ) → k < i + 1 → Dec (k ≡ i) → get_or (set room (i + 1) (get_or is i 0 + 1)) (suc k) 0 ≡ suc (get_or is k 0)
    go k l (yes e) =
        let q : suc k ≡ i + 1 = omega arith in
        let z : get_or is i 0 + 1 ≡ suc (get_or is k 0) = rw e (omega arith) in
        rw (q, get_or-set_same room (i + 1) (get_or is i 0 + 1) 0 h) z
    go k l (no d) =
        get_or-set_other room (i + 1) (suc k) (get_or is i 0 + 1) 0 (λ e. let q : suc k ≡ i + 1 = e in omega arith)
        ∙ f.input k (omega arith)

pub filled_whole : {is room : List ℕ} {i : ℕ} → Filled is room i → i ≤ length is → length is ≤ i → Filled is room (length is)
filled_whole {is} {room} {i} f h k = let e : i ≡ length is = omega arith in rw e at f

-- The store, the words of variables and the search's start of such a room.
module _ {is room : List ℕ} (f : Filled is room (length is)) (few : length is ≤ 8) where
  filled_at : (x : ℕ) → x < variables → holding (get_or room x 0) ≡ from 1 (values_of is) x
  unfolding holding values_of
  filled_at zero h = rw f.this (sym (from_below 1 (map value_at is) 0 (omega arith)))
  filled_at (suc k) h = go (ltb k (length is)) refl
    where
      n : length (map value_at is) ≡ length is
      n = length-map is value_at

      one : 1 + k ≡ suc k
      one = omega arith

      go : (t : Bool) → ltb k (length is) ≡ t → holding (get_or room (suc k) 0) ≡ from 1 (map value_at is) (suc k)
      go true e =
          let l = ltb-true k (length is) e in
          rw (f.input k l)
          (sym (rw one at (from_at 1 (map value_at is) k (value_at 0) (rw n l)) ∙ ap some (get_d_map value_at is k (value_at 0) 0 l)))
      go false e =
          let l = ltb-false k (length is) e in
          rw (f.rest (suc k) (omega arith) (omega arith)) (sym (from_beyond 1 (map value_at is) (suc k) (rw n (omega arith))))

  pub filled_store : store_of room ≡ from 1 (values_of is)
  unfolding store_of values_of
  filled_store i x = go (ltb x variables) refl i
    where
      go : (t : Bool) → ltb x variables ≡ t → store_of room x ≡ from 1 (values_of is) x
      go true e = let h = ltb-true x variables e in store_at room x h ∙ filled_at x h
      go false e =
          let h = ltb-false x variables e in
          rw e (sym (from_beyond 1 (map value_at is) x (rw (length-map is value_at) (omega arith))))

  pub filled_search : get_or room search_word 0 ≡ 0
  filled_search = f.rest search_word (omega arith) (omega arith)

  pub filled_held : (ws : List ℕ) → ((k : ℕ) → k < length is → IsValue (get_or is k 0)) → (x : ℕ) → x < variables → Held ws (get_or room x 0)
  filled_held ws v zero h = rw f.this tt
  filled_held ws v (suc k) h = go (ltb k (length is)) refl
    where
      go : (t : Bool) → ltb k (length is) ≡ t → Held ws (get_or room (suc k) 0)
      go true e = let l = ltb-true k (length is) e in rw (f.input k l) (v k l)
      go false e = let l = ltb-false k (length is) e in rw (f.rest (suc k) (omega arith) (omega arith)) tt

  pub filled_fit : (ws : List ℕ) → ((k : ℕ) → k < length is → IsValue (get_or is k 0)) → frame_at 0 ≤ length room → Fit ws room 0
  filled_fit ws v h = record { long = h; frame_ok = λ i l. absurd (omega arith); held_ok = filled_held ws v }
