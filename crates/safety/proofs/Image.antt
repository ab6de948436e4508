-- From the words of an accepted image to a checked program: the answer 0 means that each rule holds at each of its places.
use Prim.Native.Nat.{ℕ, zero, suc, ◌-◌, ◌^◌, ◌<◌}
use Rattle.std.specs.Prelude.{◌≡◌, refl, Bool, ◌&&◌, ltb, length, get_or}
use Rattle.std.proofs.Common.{ap}
use Rattle.std.proofs.Math.Bool.{true, false, cond}
use Rattle.std.proofs.Math.Option.{none, some}
use mathlib.Core.List.{List, [], ◌∷◌, ◌++◌, map, map-append}
use native.Mathlib.Omega.{arith}
use Rattle.std.proofs.Math.Dec.{eqb}
use Rattle.std.proofs.Math.ListN.{get_or-eq_default}
use borrow.Author.Tests.{ltb-true, ltb-false}
use Rattle.std.specs.declared.option.Option.{Option}
use Rattle.std.specs.declared.option.Option.TheVariants.{Some, None}
use Rattle.order.specs.declared.Answer.{Answer}
use Rattle.order.specs.Rules.{Rule, answer_of, accepted, first_place, or_else}
use Rattle.order.specs.Lowest.{held, found}
use Rattle.words.specs.declared.Ty.{Ty}
use Rattle.words.specs.declared.Value.{Value}
use Rattle.words.specs.declared.Value.TheVariants.{Null, Intg, Addr}
use Rattle.words.specs.Value.{Proper, addresses, given, value_with}
use Rattle.image.specs.declared.Kind.{Kind}
use Rattle.image.specs.declared.Kind.TheVariants.{New, Cast, Value as Literal, Var, Add, Eq, Assign, Get, Set, Call, Block, Seq, If, While, Throw, Try, Unknown}
use Rattle.image.specs.Laws.{and_left, and_right}
use Rattle.image.specs.Trailer.{class_count, method_count, node_count, main_node, input_count}
use Rattle.image.specs.Records.{method_word}
use Rattle.image.specs.Nodes.{node_word, kind_of, is_class, is_unused, names_hold, operands, reach, size_is, node_holds, body_start}
use Rattle.image.specs.Layout.{tested, format_rule, trailer_rule, ceiling_rule, class_rule, field_rule, method_rule, type_rule, node_rule, body_rule, record_rules, layout_rules}
use Rattle.rules.specs.Maps.{tabulate}
use Rattle.rules.specs.Trees.{Expr, written, operand, nothing, arguments, node_of, node_tree, forest, tree, place}
use Rattle.rules.specs.Program.{Method, Program, method_at, program, main, method_env, main_env}
use Rattle.rules.specs.Classes.{method_in}
use Rattle.rules.specs.Typing.{typing}
use Rattle.rules.specs.Setting.{between}
use Rattle.rules.specs.Sites.{sites, site_typed, after, reads}
use Rattle.rules.specs.Numbers.{joined, fields_rule, override_rule, method_sites, all_sites, typing_rule, method_reads, all_reads, setting_rule, check_rules}
use Rattle.laws.specs.Maps.{length_tabulate, map_tabulate}
use Rattle.laws.specs.Postorder.{NodesHold, BodiesHold, body_holds_lem, method_filled, main_filled}
use Rattle.laws.specs.Classes.{lower}
use Rattle.figures.proofs.Agreement.{bind_inv, need_inv}
use Rattle.figures.specs.FirstBreach.{AllHold, bounded}
use Rattle.figures.proofs.FirstBreach.{body_exactly, typing_exactly, setting_exactly}
use Rattle.figures.proofs.Laid.{written_tree}
use Rattle.safety.specs.Sets.{no_one}
use Rattle.safety.specs.Typed.{Known, KnownAll}
use Rattle.safety.specs.Theorem.{Checked, BodyOk, Accepted}
use Rattle.safety.specs.Image.{AllHeld, Held, Rules, positive}

pub all_held : (rs : List Rule) → positive rs ≡ true → answer_of rs ≡ accepted → AllHeld rs
unfolding positive answer_of
all_held [] p e = tt
all_held (r ∷ rs) p e =
    let k = go (first_place r) refl e in (k.0, all_held rs (and_right (ltb 0 r.number) (positive rs) p) k.1)
  where
    go : (f : Option ℕ) → first_place r ≡ f → or_else r.number f (answer_of rs) ≡ accepted → Held r × (answer_of rs ≡ accepted)
    go (Some q) f z =
        let n : r.number ≡ 0 = ap (λ (a : Answer). a.number) z in
        absurd (omega (arith, ltb-true 0 r.number (and_left (ltb 0 r.number) (positive rs) p)))
    go None f z = (held r f, z)

-- and then it is broken nowhere
pub nowhere : (r : Rule) → Held r → first_place r ≡ None
nowhere r h = go (first_place r) refl
  where
    go : (f : Option ℕ) → first_place r ≡ f → f ≡ None
    go (Some p) e =
        let b = (found r p e).broken in
        absurd (let z : ◌≡◌ {A = ℕ} 0 1 = cc (h p b.within, b.fails) in omega arith)
    go None e = refl

pub held_answer : (rs : List Rule) → AllHeld rs → answer_of rs ≡ accepted
unfolding answer_of
held_answer [] h = refl
held_answer (r ∷ rs) h = rw (nowhere r h.0) (held_answer rs h.1)

held_split : (rs ss : List Rule) → AllHeld (rs ++ ss) → AllHeld rs × AllHeld ss
held_split [] ss h = (tt, h)
held_split (r ∷ rs) ss h = let k = held_split rs ss h.1 in ((h.0, k.0), k.1)

pub held_join : (rs ss : List Rule) → AllHeld rs → AllHeld ss → AllHeld (rs ++ ss)
held_join [] ss h k = k
held_join (r ∷ rs) ss h k = (h.0, held_join rs ss h.1 k)

pub rules_held : (ws : List ℕ) → answer_of (check_rules ws) ≡ accepted → Rules ws
unfolding check_rules layout_rules record_rules format_rule trailer_rule ceiling_rule class_rule field_rule method_rule type_rule node_rule body_rule fields_rule override_rule typing_rule setting_rule tested positive
rules_held ws e =
    let a = all_held (check_rules ws) refl e in
    let b = held_split (layout_rules ws) (fields_rule ws ∷ override_rule ws ∷ typing_rule ws ∷ setting_rule ws ∷ []) a in
    let r = b.0.1.1.1 in
    let n = r.1.1.1.1 in
    let g = b.1 in
    record {
      layout = b.0;
      classes = r.0;
      nodes = n.0;
      bodies = n.1.0;
      fields = g.0;
      override = g.1.0;
      typed = g.1.1.0;
      sets = g.1.1.1.0;
    }

-- TESTS IN A LIST
all_left : (xs ys : List Bool) → AllHold (xs ++ ys) → AllHold xs
all_left [] ys h i = refl
all_left (x ∷ xs) ys h zero = h 0
all_left (x ∷ xs) ys h (suc i) = all_left xs ys (λ j. h (suc j)) i

all_right : (xs ys : List Bool) → AllHold (xs ++ ys) → AllHold ys
all_right [] ys h i = h i
all_right (x ∷ xs) ys h i = all_right xs ys (λ j. h (suc j)) i

all_joined : (n : ℕ) (f : ℕ → List Bool) → AllHold (joined (tabulate n f)) → (i : ℕ) → i < n → AllHold (f i)
unfolding joined tabulate
all_joined zero f h i l = absurd (omega arith)
all_joined (suc n) f h zero l = all_left (f 0) _ h
all_joined (suc n) f h (suc i) l = all_joined n (λ j. f (suc j)) (all_right (f 0) _ h) i (omega arith)

all_bodies : (n : ℕ) (f : ℕ → List Bool) (last : List Bool) → AllHold (joined (tabulate n f) ++ last)
    → ((i : ℕ) → i < n → AllHold (f i)) × AllHold last
all_bodies n f last h =
    (all_joined n f (all_left (joined (tabulate n f)) last h), all_right (joined (tabulate n f)) last h)

tested_all : (n : ℕ) (bs : List Bool) → Held (tested n bs) → AllHold bs
unfolding tested
tested_all n bs h i = go (ltb i (length bs)) refl
  where
    go : (t : Bool) → ltb i (length bs) ≡ t → get_or bs i true ≡ true
    go true e = h i (ltb-true _ _ e)
    go false e = get_or-eq_default bs true (ltb-false i (length bs) e)

map_joined : {A B : Type 0} (f : A → B) (ls : List (List A)) → map f (joined ls) ≡ joined (map (map f) ls)
unfolding joined
map_joined f [] = refl
map_joined f (l ∷ ls) = rw (map-append, map_joined f ls)

-- WHAT NODES NAME
given_proper : (t : Bool) (v : Value) → (t ≡ true → Proper v) → Proper (written (given t v))
given_proper true v h = h refl
given_proper false v h = tt

literal_proper : (x y : ℕ) → Proper (written (value_with x y))
unfolding value_with
literal_proper zero y = given_proper (eqb y 0) Value.Unit (λ e. tt)
literal_proper (suc zero) y = given_proper (eqb y 0) Null (λ e. tt)
literal_proper (suc (suc zero)) y = given_proper (ltb y 2) (Value.Bool (eqb y 1)) (λ e. tt)
literal_proper (suc (suc (suc zero))) y = given_proper (ltb y (2 ^ 32)) (Intg y) (λ e. ltb-true _ _ e)
literal_proper (suc (suc (suc (suc zero)))) y = given_proper (ltb y addresses) (Addr y) (λ e. ltb-true _ _ e)
literal_proper (suc (suc (suc (suc (suc x))))) y = tt

module _ (n : ℕ) where
  known_arguments : (o : ℕ → Expr) (k : ℕ) → ((j : ℕ) → Known n (o j)) → KnownAll n (arguments o k)
  unfolding Known arguments
  known_arguments o zero h = tt
  known_arguments o (suc k) h = (h k, known_arguments o k h)

  known_node : (k : Kind) (p x y : ℕ) (o : ℕ → Expr) → names_hold n k x y ≡ true → ((j : ℕ) → Known n (o j)) → Known n (node_of k p x y o)
  unfolding Known node_of names_hold is_class
  known_node New p x y o e h = ltb-true x n (and_left (ltb x n) (is_unused y) e)
  known_node Cast p x y o e h = h 0
  known_node Literal p x y o e h = literal_proper x y
  known_node Var p x y o e h = tt
  known_node Add p x y o e h = (h 1, h 0)
  known_node Eq p x y o e h = (h 1, h 0)
  known_node Assign p x y o e h = h 0
  known_node Get p x y o e h = h 0
  known_node Set p x y o e h = (h 1, h 0)
  known_node Call p x y o e h = (h y, known_arguments o y h)
  known_node Block p x y o e h = h 0
  known_node Seq p x y o e h = (h 1, h 0)
  known_node If p x y o e h = (h 2, h 1, h 0)
  known_node While p x y o e h = (h 1, h 0)
  known_node Throw p x y o e h = h 0
  known_node Try p x y o e h = (h 1, h 0)
  known_node Unknown p x y o e h = tt

module _ (ws : List ℕ) where
  known_forest : (n i : ℕ) → ((m : ℕ) → m < n → node_holds ws m ≡ true) → Known (class_count ws) (get_or (forest ws n) i nothing)
  unfolding Known forest node_tree node_holds
  known_forest zero i h = tt
  known_forest (suc n) zero h =
      known_node (class_count ws) (kind_of (node_word ws n 0)) n (node_word ws n 2) (node_word ws n 3) _
      (and_left _ (size_is n (node_word ws n 1) (reach ws (operands (kind_of (node_word ws n 0)) (node_word ws n 3)) n)) (h n (omega arith)))
      (λ j. known_forest n (n - suc (operand ws n j)) (λ m q. h m (omega arith)))
  known_forest (suc n) (suc i) h = known_forest n i (λ m q. h m (omega arith))

  known_tree : NodesHold ws → (n : ℕ) → n < node_count ws → Known (length (program ws).supers) (tree ws n)
  unfolding tree program
  known_tree h n l = rw length_tabulate (known_forest (suc n) 0 (λ m k. h m (omega arith)))

  -- a method that the table has is one of the image's
  method_of : (c m : ℕ) (r : Method) (P : Program) (n : ℕ) (f : ℕ → Method) → method_in P (tabulate n f) c m ≡ some r
      → (i : ℕ) × (i < n) × (f i ≡ r)
  unfolding method_in tabulate
  method_of c m r P zero f e = no_one e
  method_of c m r P (suc n) f e =
      go (eqb (f 0).owner c && eqb (f 0).name m) e (λ q. method_of c m r P n (λ i. f (suc i)) q)
    where
      go : (t : Bool) → cond t (some (f 0)) (method_in P (tabulate n (λ i. f (suc i))) c m) ≡ some r
          → (method_in P (tabulate n (λ i. f (suc i))) c m ≡ some r → (i : ℕ) × (i < n) × (f (suc i) ≡ r))
          → (i : ℕ) × (i < suc n) × (f i ≡ r)
      go true q ih = (0, omega arith, cc)
      go false q ih = let k = ih q in (suc k.0, omega (arith, k.1), k.2)

  module _ (R : Rules ws) where
    nodes_hold : NodesHold ws
    unfolding node_rule
    nodes_hold = R.nodes

    bodies_hold : BodiesHold ws
    unfolding body_rule
    bodies_hold i l = R.bodies i (omega arith)

    -- 12 and 13, body by body
    typed_tests : ((i : ℕ) → i < method_count ws → AllHold (map (site_typed (program ws)) (method_sites ws i)))
        × AllHold (map (site_typed (program ws)) (sites (main ws) (main_env ws) none))
    unfolding typing_rule all_sites
    typed_tests =
        all_bodies (method_count ws) (λ i. map (site_typed (program ws)) (method_sites ws i))
        (map (site_typed (program ws)) (sites (main ws) (main_env ws) none))
        (simp (map-append, map_joined, map_tabulate) at (tested_all 12 (map (site_typed (program ws)) (all_sites ws)) R.typed))

    read_tests : ((i : ℕ) → i < method_count ws → AllHold (method_reads ws i)) × AllHold (reads (main ws) (between 1 (input_count ws)))
    unfolding setting_rule all_reads
    read_tests =
        all_bodies (method_count ws) (method_reads ws) (reads (main ws) (between 1 (input_count ws)))
        (tested_all 13 (all_reads ws) R.sets)

    body_ok : (i : ℕ) → i < method_count ws → BodyOk (program ws) (method_at ws i)
    unfolding method_sites method_reads bounded method_at
    body_ok i l =
        let P = program ws in
        let r = method_at ws i in
        let n = method_word ws i 5 in
        let b = (body_exactly P r.body (written_tree ws n) (method_env r) (some r.result)).1 (typed_tests.0 i l) in
        let t = bind_inv (typing P r.body (method_env r)) _ b.0 b.1 in
        record {
          type = t.0;
          checked =
              record {
                known =
                    known_tree nodes_hold n (body_holds_lem ws (body_start ws i) n (method_filled ws i l (bodies_hold i (omega arith)))).0;
                typed = t.1;
                after = after r.body (between 0 (length r.params));
                sets = (setting_exactly r.body (between 0 (length r.params))).1 (read_tests.0 i l);
              };
          result = (need_inv _ (place r.body) t.0 b.0 t.2).0;
        }

    pub main_ok : (t : Ty) × Checked (program ws) (main ws) (main_env ws) (between 1 (input_count ws)) t
    unfolding main
    main_ok =
        let n = main_node ws in
        let t = (typing_exactly (program ws) (main ws) (written_tree ws n) (main_env ws)).1 typed_tests.1 in (
          t.0,
          record {
            known = known_tree nodes_hold n (omega (arith, (main_filled ws (bodies_hold (method_count ws) (omega arith))).1));
            typed = t.1;
            after = after (main ws) (between 1 (input_count ws));
            sets = (setting_exactly (main ws) (between 1 (input_count ws))).1 read_tests.1;
          },
        )

    pub accepted_program : Accepted (program ws)
    unfolding override_rule class_rule program
    accepted_program =
        record {
          low = lower ws (λ c l. R.classes c (omega arith));
          overrides =
              λ c m r e.
              let k = method_of c m r (program ws) (method_count ws) (method_at ws) e in rw (← k.2) (R.override k.0 k.1);
          bodies =
              λ c m r e.
              let k = method_of c m r (program ws) (method_count ws) (method_at ws) e in rw (← k.2) (body_ok k.0 k.1);
        }
