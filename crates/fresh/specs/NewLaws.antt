-- Laws of New: an object is made in the lowest free slot, and New's search goes on behind it.
use Rattle.std.specs.Prelude.{◌≡◌, refl, List, length, set}
use Rattle.std.proofs.Common.{◌∙◌, get_or-set_other}
use Rattle.std.proofs.Math.Path.{ap}
use Rattle.std.proofs.Math.Bool.{true}
use Prim.Native.Nat.{ℕ, suc, ◌+◌, ◌*◌, ◌-◌, ◌/◌, ◌^◌, ◌≤◌, ◌<◌}
use native.Mathlib.Omega.{arith}
use Rattle.std.proofs.Math.Decide.{ℕ_discrete}
use Rattle.std.proofs.Math.ListN.{get_or, length-set}
use Rattle.std.proofs.Math.Seq.{get_or-set_same}
use Rattle.std.specs.declared.option.Option.TheVariants.{Some, None}
use Rattle.order.specs.Rules.{scan}
use Rattle.words.specs.declared.Value.TheVariants.{Addr}
use Rattle.image.specs.Trailer.{node_count}
use Rattle.image.specs.Nodes.{node_word, kind_of, node_holds}
use Rattle.rules.specs.Trees.{new}
use Rattle.rules.specs.Program.{program}
use Rattle.rules.specs.Classes.{has_fields}
use Rattle.rules.specs.Heap.{obj, defaults, lowest_free, slot_words, heap_of}
use Rattle.rules.specs.Step.{next, raises, new_redex, redex, out_of_memory, thrown_at, bare, load, step}
use Rattle.laws.specs.Trees.{tree_new}
use Rattle.laws.specs.Frames.{step_new}
use Rattle.heap.specs.Slots.{taken_at}
use Rattle.laws.specs.Tags.{address_word}
use Rattle.objects.specs.Made.{Made, Opens}
use Rattle.objects.specs.MadeLaws.{opened}
use Rattle.room.specs.declared.Focus.TheVariants.{Node, Value, Thrown}
use Rattle.room.specs.Room.{search_word, store_of, loaded, Fit}
use Rattle.room.specs.RoomLaws.{store_same, ok_same, set_frames}
use Rattle.room.specs.Turn.{HeapOk, focus_of, Inv, Steps, Could}
use Rattle.room.specs.Nodes.{node_goes}

-- what the search from there finds
module _ (ws hs : List ℕ) (from : ℕ) (ok : HeapOk ws hs from) (c : ℕ) where
  pub new_opens : (a : ℕ) → Some a ≡ scan (taken_at hs) (length hs / slot_words - from) from → Opens ws hs c from a
  new_opens a e = opened ws hs ok.words c from ok.low ok.taken ok.size (Some a) e

  pub new_full : None ≡ scan (taken_at hs) (length hs / slot_words - from) from
      → new_redex (program ws) (heap_of (program ws) hs) c (lowest_free (heap_of (program ws) hs)) ≡ raises out_of_memory
  new_full e = opened ws hs ok.words c from ok.low ok.taken ok.size None e

-- A write to the word of New's search leaves variables and frames as they were.
module _ (ws room : List ℕ) (w : ℕ) where
  search_store : store_of (set room search_word w) ≡ store_of room
  search_store =
      store_same room (set room search_word w)
      (λ x h. get_or-set_other room search_word x w 0 (λ e. let q : x ≡ search_word = e in omega arith))

  search_fit : {l : ℕ} → Fit ws room l → Fit ws (set room search_word w) l
  search_fit {l} f =
      record {
        long = rw length-set f.long;
        frame_ok =
            λ i h.
            ok_same ws room (set room search_word w) i
            (λ j a b. get_or-set_other room search_word j w 0 (λ e. let q : j ≡ search_word = e in omega arith))
            (f.frame_ok i h);
        held_ok =
            λ x h.
            rw (get_or-set_other room search_word x w 0 (λ e. let q : x ≡ search_word = e in omega arith)) (f.held_ok x h);
      }

module _ (ws : List ℕ) (good : (n : ℕ) → n < node_count ws → node_holds ws n ≡ true) (D : ℕ) (hs room : List ℕ) (l n : ℕ)
    (inv : Inv ws D room l (Node n)) (low : l ≤ D) (k : node_word ws n 0 ≡ 0) (ok : HeapOk ws hs (get_or room search_word 0)) where
  loaded_new : loaded ws n ≡ new n (node_word ws n 2)
  unfolding load kind_of
  loaded_new = ap load (tree_new ws n (good n inv.here) (rw k))

  -- there is no free slot
  pub new_throws : new_redex (program ws) (heap_of (program ws) hs) (node_word ws n 2) (lowest_free (heap_of (program ws) hs)) ≡ raises out_of_memory
      → Steps ws D hs room l (Node n) hs room l (Thrown out_of_memory n)
  unfolding focus_of kind_of redex
  new_throws e =
      record {
        inv = record { fit = inv.fit; level = inv.level; long = inv.long; here = omega arith };
        size = refl;
        heap = ok;
        goes =
            node_goes ws good D hs room l n inv low (rw k tt) (heap_of (program ws) hs) (store_of room) (thrown_at n out_of_memory)
            (rw loaded_new (step_new (program ws) n (heap_of (program ws) hs) (store_of room) (node_word ws n 2) ∙ rw e));
      }

  -- an object is made at a
  module _ (from a : ℕ) (o : Opens ws hs (node_word ws n 2) from a) where
    new_goes : step (program ws) (loaded ws n) (heap_of (program ws) hs) (store_of room)
        ≡ next 0 n (set (heap_of (program ws) hs) a (obj (node_word ws n 2) (defaults (has_fields (program ws) (node_word ws n 2))))) (store_of room)
        (bare (Addr a))
    unfolding redex
    new_goes =
        rw loaded_new (step_new (program ws) n (heap_of (program ws) hs) (store_of room) (node_word ws n 2) ∙ rw o.makes)

    pub new_could : Could ws D hs room l (Node n)
    unfolding kind_of
    new_could =
        record {
          heap = _;
          store = _;
          expr = _;
          goes = node_goes ws good D hs room l n inv low (rw k tt) _ (store_of room) (bare (Addr a)) new_goes;
        }

    pub new_steps : (after : List ℕ) → Made ws hs after a (node_word ws n 2)
        → Steps ws D hs room l (Node n) after (set room search_word (suc a)) l (Value (4 * 2 ^ 32 + a))
    unfolding focus_of kind_of
    new_steps after m =
        let v = address_word a o.known in
        let s : get_or (set room search_word (suc a)) search_word 0 ≡ suc a = get_or-set_same room search_word (suc a) 0 (omega (arith, inv.long)) in
        record {
          inv =
              record {
                fit = search_fit ws room (suc a) inv.fit;
                level = inv.level;
                long = rw length-set inv.long;
                here = v.0;
              };
          size = length-set room search_word (suc a);
          heap =
              rw s
              (record {
                words = m.words;
                size = rw m.size ok.size;
                low = rw m.size (omega (arith, o.inside, ok.words.whole));
                taken = λ b h. taken_at_lem b h (ℕ_discrete b a);
              });
          goes =
              rw (v.1, m.same, set_frames ws room search_word (suc a) l (omega arith), search_store ws room (suc a))
              (node_goes ws good D hs room l n inv low (rw k tt) _ (store_of room) (bare (Addr a)) new_goes);
        }
      where
        taken_at_lem : (b : ℕ) → b < suc a → Dec (b ≡ a) → taken_at after b ≡ true
        taken_at_lem b h (yes e) = rw e m.here
        taken_at_lem b h (no d) = m.others b d ∙ o.below b (omega arith)
