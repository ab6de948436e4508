-- Laws: what the tests of a run bring, one after the other.
use Rattle.std.specs.Prelude.{◌≡◌, true, false, ◌&&◌, List, ℕ, ◌≤◌, leb, length}
use borrow.Author.Tests.{leb-true, le-leb}
use Rattle.order.specs.Rules.{scan, first_place, answer_of}
use Rattle.std.specs.declared.option.Option.TheVariants.{Some, None}
use Rattle.image.specs.Laws.{and_right}
use Rattle.image.specs.Layout.{tested}
use Rattle.rules.specs.Numbers.{most_depth, room_words, heap_length_holds, heap_length_rule, heap_word_rule, input_rule, depth_rule, room_rule}
use Rattle.refusals.specs.Judged.{lent_rules, Free}

pub depth_fine : (depth : ℕ) → 1 ≤ depth → depth ≤ most_depth → (leb 1 depth && leb depth most_depth) ≡ true
depth_fine depth h k = rw (le-leb 1 depth h, le-leb depth most_depth k)

-- The tests one after the other: what those before passed and this one failed, or all passed.
module _ (ws hs is : List ℕ) (room depth : ℕ) where
  pub length_broken : heap_length_holds (length hs) ≡ false → record { number = 14; place = 0 } ≡ answer_of (lent_rules ws hs is room depth)
  unfolding first_place scan heap_length_rule tested answer_of lent_rules
  length_broken a = rw a

  module _ (a : heap_length_holds (length hs) ≡ true) where
    length_passed : first_place (heap_length_rule hs) ≡ None
    unfolding first_place scan heap_length_rule tested
    length_passed = rw a

    pub words_broken : (p : ℕ) → first_place (heap_word_rule ws hs) ≡ Some p
        → record { number = 15; place = p } ≡ answer_of (lent_rules ws hs is room depth)
    unfolding answer_of lent_rules heap_word_rule
    words_broken p b = rw (length_passed, b)

    module _ (b : first_place (heap_word_rule ws hs) ≡ None) where
      pub inputs_broken : (p : ℕ) → first_place (input_rule ws is) ≡ Some p
          → record { number = 16; place = p } ≡ answer_of (lent_rules ws hs is room depth)
      unfolding answer_of lent_rules input_rule
      inputs_broken p c = rw (length_passed, b, c)

      module _ (c : first_place (input_rule ws is) ≡ None) where
        pub depth_broken : (leb 1 depth && leb depth most_depth) ≡ false
            → record { number = 19; place = 0 } ≡ answer_of (lent_rules ws hs is room depth)
        unfolding first_place scan answer_of lent_rules depth_rule tested
        depth_broken d = rw (length_passed, b, c, d)

        module _ (d : (leb 1 depth && leb depth most_depth) ≡ true) where
          pub room_broken : leb (room_words depth) room ≡ false → record { number = 20; place = 0 } ≡ answer_of (lent_rules ws hs is room depth)
          unfolding first_place scan answer_of lent_rules depth_rule room_rule tested
          room_broken e = rw (length_passed, b, c, d, e)

          pub all_passed : leb (room_words depth) room ≡ true → Free ws hs is room depth
          unfolding first_place scan answer_of lent_rules depth_rule room_rule tested
          all_passed e =
              record {
                answer = rw (length_passed, b, c, d, e);
                heap_length = a;
                heap_words = b;
                inputs = c;
                depth_low = leb-true depth most_depth (and_right (leb 1 depth) (leb depth most_depth) d);
                enough = leb-true (room_words depth) room e;
              }
