-- Laws: what the rules' being broken nowhere brings.
use Rattle.std.specs.Prelude.{◌≡◌, true, false, List, ℕ, ◌≤◌, length, leb, eqb}
use Rattle.std.proofs.Common.{leb-true}
use Rattle.order.specs.Rules.{scan, first_place}
use Rattle.order.specs.Lowest.{held}
use Rattle.std.specs.declared.option.Option.TheVariants.{Some, None}
use Rattle.image.specs.declared.Layout.{Layout}
use Rattle.image.specs.Numbers.{trailer_words, format_number}
use Rattle.image.specs.Laws.{and_left}
use Rattle.image.specs.Trailer.{trailer, format_holds, ceiling_tests}
use Rattle.image.specs.Layout.{tested, format_rule, ceiling_rule, class_rule, field_rule, method_rule, type_rule, node_rule, body_rule, Lay, Small, Good}

pub good : (ws : List ℕ) (l : Layout) → Lay ws l → Small l
    → first_place (class_rule ws) ≡ None
    → first_place (field_rule ws) ≡ None
    → first_place (method_rule ws) ≡ None
    → first_place (type_rule ws) ≡ None
    → first_place (node_rule ws) ≡ None
    → first_place (body_rule ws) ≡ None
    → Good ws l
unfolding class_rule field_rule method_rule type_rule node_rule body_rule
good ws l y s c f m t n b =
    record {
      lay = y;
      small = s;
      classes = held (class_rule ws) c;
      fields = held (field_rule ws) f;
      methods = held (method_rule ws) m;
      types = held (type_rule ws) t;
      nodes = held (node_rule ws) n;
      bodies = held (body_rule ws) b;
    }

-- the one test of number 1
pub format_broken : (ws : List ℕ) → format_holds ws ≡ false → first_place (format_rule ws) ≡ Some 0
unfolding first_place scan format_rule tested
format_broken ws e = rw e

pub format_passed : (ws : List ℕ) → format_holds ws ≡ true → first_place (format_rule ws) ≡ None
unfolding first_place scan format_rule tested
format_passed ws e = rw e

-- an image with a format has a trailer
pub long_enough : (ws : List ℕ) → format_holds ws ≡ true → trailer_words ≤ length ws
unfolding format_holds
long_enough ws e = leb-true _ _ (and_left (leb trailer_words (length ws)) (eqb (trailer ws 7) format_number) e)

-- the ceilings of a layout are the ceilings of the image that it is of
pub ceilings : (ws : List ℕ) (l : Layout) → Lay ws l
    → first_place
    (tested 3
    (ceiling_tests l.class_count l.field_count l.method_count l.type_count l.node_count l.inputs))
    ≡ first_place (ceiling_rule ws)
unfolding ceiling_rule
ceilings ws l y = rw (y.class_count_lem, y.field_count_lem, y.method_count_lem, y.type_count_lem, y.node_count_lem, y.inputs)
