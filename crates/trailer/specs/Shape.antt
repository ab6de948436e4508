-- What numbers 1 and 2 show of an image without a breach of them, as sums, and the laws that bring it from the rules.
use Rattle.std.specs.Prelude.{◌≡◌, refl, Bool, true, ◌&&◌, List, ℕ, ◌+◌, ◌*◌, ◌-◌, ◌/◌, ◌%◌, ◌≤◌, ◌<◌, length, get_or, leb, eqb}
use Rattle.std.proofs.Common.{◌∙◌, arith, leb-true, eqb-true}
use Rattle.order.specs.Rules.{first_place}
use Rattle.order.specs.Lowest.{held}
use Rattle.std.specs.declared.option.Option.TheVariants.{None}
use Rattle.image.specs.declared.Layout.{Layout}
use Rattle.image.specs.Laws.{and_left, and_right}
use Rattle.image.specs.Numbers.{trailer_words}
use Rattle.image.specs.Trailer.{trailer, class_count, field_count, method_count, type_count, node_count, main_node, input_count, format_holds, section_holds, last_holds, trailer_tests, ceiling_tests}
use Rattle.image.specs.Layout.{tested, trailer_rule, ceiling_rule, Lay, Small}

pub record Shape (ws : List ℕ) : Type 0 where
  pub long : trailer_words ≤ length ws
  pub all : trailer ws 0 ≡ length ws
  pub fields : trailer ws 1 ≤ trailer ws 0
  pub methods : trailer ws 2 ≤ trailer ws 1
  pub field_records : (trailer ws 1 - trailer ws 2) % 3 ≡ 0
  pub types : trailer ws 3 ≤ trailer ws 2
  pub method_records : (trailer ws 2 - trailer ws 3) % 6 ≡ 0
  pub nodes : trailer ws 4 ≤ trailer ws 3
  pub trailer_after : trailer_words ≤ trailer ws 4
  pub node_records : (trailer ws 4 - trailer_words) % 4 ≡ 0
  pub inputs : trailer ws 6 ≤ trailer ws 3 - trailer ws 4

pub record Section (from to size : ℕ) : Type 0 where
  pub order : to ≤ from
  pub low : trailer_words ≤ to
  pub records : (from - to) % size ≡ 0

pub section : (from to size : ℕ) → section_holds from to size ≡ true → Section from to size
unfolding section_holds
section from to size h =
    let a = and_left (leb to from && leb trailer_words to) (eqb ((from - to) % size) 0) h in
    record {
      order = leb-true _ _ (and_left (leb to from) (leb trailer_words to) a);
      low = leb-true _ _ (and_right (leb to from) (leb trailer_words to) a);
      records = eqb-true _ _ (and_right (leb to from && leb trailer_words to) (eqb ((from - to) % size) 0) h);
    }

pub last : (types nodes : ℕ) → last_holds types nodes ≡ true → Section types nodes 1 × ((nodes - trailer_words) % 4 ≡ 0)
unfolding last_holds
last types nodes h = (
  section types nodes 1 (and_left (section_holds types nodes 1) (eqb ((nodes - trailer_words) % 4) 0) h),
  eqb-true _ _ (and_right (section_holds types nodes 1) (eqb ((nodes - trailer_words) % 4) 0) h),
)

-- a rule of few tests that is broken nowhere: each test
pub passed : (n : ℕ) (tests : List Bool) → first_place (tested n tests) ≡ None → (p : ℕ) → p < length tests → get_or tests p true ≡ true
unfolding tested
passed n tests e p h = held (tested n tests) e p h

pub shape : (ws : List ℕ) → format_holds ws ≡ true → first_place (trailer_rule ws) ≡ None → Shape ws
unfolding format_holds trailer_rule trailer_tests input_count type_count
shape ws f t =
    let at = passed 2 (trailer_tests ws) t in
    let s1 = section (trailer ws 0) (trailer ws 1) 1 (at 1 (omega arith)) in
    let s2 = section (trailer ws 1) (trailer ws 2) 3 (at 2 (omega arith)) in
    let s3 = section (trailer ws 2) (trailer ws 3) 6 (at 3 (omega arith)) in
    let s4 = last (trailer ws 3) (trailer ws 4) (at 4 (omega arith)) in
    record {
      long = leb-true _ _ (and_left (leb trailer_words (length ws)) (eqb (trailer ws 7) 1) f);
      all = eqb-true _ _ (at 0 (omega arith));
      fields = s1.order;
      methods = s2.order;
      field_records = s2.records;
      types = s3.order;
      method_records = s3.records;
      nodes = s4.0.order;
      trailer_after = s4.0.low;
      node_records = s4.1;
      inputs = leb-true _ _ (at 6 (omega arith));
    }

pub small : (ws : List ℕ) (l : Layout) → Lay ws l → first_place (ceiling_rule ws) ≡ None → Small l
unfolding ceiling_rule ceiling_tests
small ws l y t =
    let at = passed 3 _ t in
    record {
      classes = rw y.class_count_lem (leb-true _ _ (at 0 (omega arith)));
      fields = rw y.field_count_lem (leb-true _ _ (at 1 (omega arith)));
      methods = rw y.method_count_lem (leb-true _ _ (at 2 (omega arith)));
      types = rw y.type_count_lem (leb-true _ _ (at 3 (omega arith)));
      nodes = rw y.node_count_lem (leb-true _ _ (at 4 (omega arith)));
      inputs = rw y.inputs (leb-true _ _ (at 6 (omega arith)));
    }

-- the layout that seven trailer words describe
abbrev pub layout_at : (classes fields methods types nodes main inputs : ℕ) → Layout
layout_at classes fields methods types nodes main inputs =
    record {
      class_count = classes - fields;
      fields = classes - fields;
      field_count = (fields - methods) / 3;
      methods = classes - methods;
      method_count = (methods - types) / 6;
      types = classes - types;
      type_count = types - nodes;
      nodes = classes - nodes;
      node_count = (nodes - trailer_words) / 4;
      main = main;
      inputs = inputs;
    }

-- two distances that follow each other, and the records between them
next : (a b c n : ℕ) → c ≤ b → b ≤ a → n ≡ b - c → a - c ≡ a - b + n
next a b c n h k e = omega arith

threes : (n : ℕ) → n % 3 ≡ 0 → 3 * (n / 3) ≡ n
threes n h = omega arith

sixes : (n : ℕ) → n % 6 ≡ 0 → 6 * (n / 6) ≡ n
sixes n h = omega arith

fours : (n : ℕ) → n % 4 ≡ 0 → 4 * (n / 4) ≡ n
fours n h = omega arith

end : (a b n : ℕ) → trailer_words ≤ b → b ≤ a → n ≡ b - trailer_words → a - b + n + trailer_words ≡ a
end a b n h k e = omega arith

pub opened : (ws : List ℕ) → Shape ws → Lay ws (layout_at (trailer ws 0) (trailer ws 1) (trailer ws 2) (trailer ws 3) (trailer ws 4) (trailer ws 5) (trailer ws 6))
unfolding class_count field_count method_count type_count node_count main_node input_count
opened ws s =
    let t0 = trailer ws 0 in
    let a : trailer ws 1 ≤ t0 = s.fields in
    let b : trailer ws 2 ≤ t0 = omega (arith, s.fields, s.methods) in
    let c : trailer ws 3 ≤ t0 = omega (arith, s.types, b) in
    let d : trailer ws 4 ≤ t0 = omega (arith, s.nodes, c) in
    record {
      class_count_lem = refl;
      field_count_lem = refl;
      method_count_lem = refl;
      type_count_lem = refl;
      node_count_lem = refl;
      main = refl;
      inputs = refl;
      classes_at = s.all;
      fields_at = omega (arith, a, s.all);
      methods_at = omega (arith, b, s.all);
      types_at = omega (arith, c, s.all);
      nodes_at = omega (arith, d, s.all);
      fields = refl;
      methods = next t0 (trailer ws 1) (trailer ws 2) _ s.methods a (threes _ s.field_records);
      types = next t0 (trailer ws 2) (trailer ws 3) _ s.types b (sixes _ s.method_records);
      nodes = next t0 (trailer ws 3) (trailer ws 4) _ s.nodes c refl;
      whole = end t0 (trailer ws 4) _ s.trailer_after d (fours _ s.node_records) ∙ s.all;
      inputs_within = s.inputs;
    }
