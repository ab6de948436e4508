-- Laws: what the checks of the bodies, one after the other, say of rule 13.
use Rattle.std.specs.Prelude.{◌≡◌, refl, true, List, ℕ, Result, Ok, Err, suc, ◌+◌, ◌≤◌, ◌<◌, leb}
use Rattle.std.proofs.Common.{sym, ◌∙◌, arith, leb-true}
use Rattle.std.proofs.Math.Path.{ap}
use Rattle.std.proofs.Math.ListN.{length}
use Rattle.std.specs.declared.option.Option.TheVariants.{Some, None}
use Rattle.std.specs.Result.{result_err}
use Rattle.order.specs.Rules.{first_place}
use Rattle.words.specs.Types.{type_of}
use Rattle.image.specs.declared.Layout.{Layout}
use Rattle.image.specs.declared.views.Image.{Image}
use Rattle.image.specs.Numbers.{variables, most_arguments}
use Rattle.image.specs.Trailer.{class_count, method_count, type_count, node_count, input_count}
use Rattle.image.specs.Records.{method_word, type_at, member_holds, arguments_hold, method_rises, method_holds}
use Rattle.image.specs.Nodes.{body_start, node_holds, filled_holds}
use Rattle.image.specs.Layout.{Good}
use Rattle.image.specs.Laws.{and_left, and_right}
use Rattle.rules.specs.Trees.{Expr, tree, places}
use Rattle.rules.specs.Program.{types_from, method_at, main}
use Rattle.rules.specs.Typing.{ok, bad}
use Rattle.rules.specs.Setting.{Vars, between, setting}
use Rattle.rules.specs.Sites.{reads}
use Rattle.rules.specs.Numbers.{method_reads, all_reads, setting_rule}
use Rattle.laws.specs.Maps.{stretch, length_tabulate, length_stretch}
use Rattle.laws.specs.Postorder.{body_holds_lem, method_filled, main_filled, body_places, main_places}
use Rattle.figures.specs.FirstBreach.{AllHold}
use Rattle.figures.proofs.FirstBreach.{reads_length, setting_after, setting_exactly, setting_first}
use Rattle.figures.specs.Bodies.{Bodies, Told}
use Rattle.vars.specs.Vars.{vars_of}
use Rattle.vars.specs.declared.Vars.{Vars as Marked}
use Rattle.setting.specs.Settle.{res_of}
use Rattle.figures.proofs.Bodies.{told, body_told, main_told, none_told, held_on}

-- ONE TREE
-- what a tree's check says of its tests, and of their first failure where its nodes stand from b on
pub all_set : (e : Expr) (I K : Vars) → ok K ≡ setting e I → AllHold (reads e I)
all_set e I K q = (setting_exactly e I).0 (sym q ∙ ap ok (sym (setting_after e I K (sym q))))

first_unset : (e : Expr) (I : Vars) (p b n : ℕ) → places e ≡ stretch (λ j. j) b n → bad p ≡ setting e I → Told b (reads e I) p
first_unset e I p b n r q = told b n (reads e I) (places e) p r (setting_first e I p (sym q))

few : (types first count : ℕ) → arguments_hold types first count ≡ true → count < variables
unfolding arguments_hold
few types first count h = omega (arith, leb-true count most_arguments (and_left _ (leb (first + count) types) h))

module _ (image : Image) where
  abbrev ws : List ℕ
  ws = image.words.now

  abbrev l : Layout
  l = image.layout

  g : Good ws l
  g = image.good

  -- WHERE BODIES STAND
  hold : (n : ℕ) → n < node_count ws → node_holds ws n ≡ true
  hold = g.nodes

  filled : (i : ℕ) → i ≤ method_count ws → filled_holds ws i ≡ true
  filled i w = g.bodies i (omega arith)

  pub main_within : l.main < l.node_count
  main_within = omega (arith, g.lay.main, g.lay.node_count_lem, (main_filled ws (filled (method_count ws) (omega arith))).1)

  module _ (i : ℕ) (w : i < l.method_count) where
    below_count : i < method_count ws
    below_count = rw (← g.lay.method_count_lem) w

    pub body_within : method_word ws i 5 < l.node_count
    body_within =
        omega
        (arith, g.lay.node_count_lem, (body_holds_lem ws (body_start ws i) (method_word ws i 5) (method_filled ws i below_count (filled i (omega (arith, below_count))))).0)

    pub few_arguments : method_word ws i 4 < variables
    unfolding method_holds
    few_arguments =
        few (type_count ws) (method_word ws i 3) (method_word ws i 4)
        (and_right (member_holds (class_count ws) (method_word ws i 0) (method_word ws i 1) (method_word ws i 2)) _
        (and_left _ (method_rises ws i) (g.methods i below_count)))

  -- a method's body and its first set, by the words
  pub method_body : (i : ℕ) → setting (tree ws (method_word ws i 5)) (between 0 (method_word ws i 4)) ≡ setting (method_at ws i).body (between 0 (length (method_at ws i).params))
  unfolding method_at types_from
  method_body i = rw (length_tabulate (method_word ws i 4) (λ k. type_of (type_at ws (method_word ws i 3 + k))))

  starts : Bodies (method_reads ws) (method_count ws) (body_start ws)
  unfolding body_start method_reads
  starts =
      record {
        zeroth = refl;
        next = λ j w.
            let e = (method_at ws j).body in
            let s = body_holds_lem ws (body_start ws j) (method_word ws j 5) (method_filled ws j w (filled j (omega arith))) in
            let r = reads_length e (between 0 (length (method_at ws j).params)) ∙ ap length (body_places ws hold filled j w) ∙ length_stretch (λ i. i) (body_start ws j) (body_start ws (suc j)) in
            omega (arith, r, s.1);
      }

  -- RULE 13
  -- the bodies before i hold
  abbrev pub Held : ℕ → Type 0
  Held i = (j : ℕ) → j < i → AllHold (method_reads ws j)

  pub method_unset : (i p : ℕ) → i < l.method_count → Held i → bad p ≡ setting (method_at ws i).body (between 0 (length (method_at ws i).params))
      → Some p ≡ first_place (setting_rule ws)
  unfolding setting_rule all_reads method_reads
  method_unset i p w h q =
      let m = below_count i w in
      body_told starts 13 (reads (main ws) (between 1 (input_count ws))) p i m h
      (first_unset (method_at ws i).body (between 0 (length (method_at ws i).params)) p (body_start ws i) (body_start ws (suc i)) (body_places ws hold filled i m) q)

  pub method_set : (i : ℕ) (K : Vars) → ok K ≡ setting (method_at ws i).body (between 0 (length (method_at ws i).params)) → AllHold (method_reads ws i)
  unfolding method_reads
  method_set i K q = all_set (method_at ws i).body (between 0 (length (method_at ws i).params)) K q

  pub method_held : (i : ℕ) (K : Vars) → Held i → ok K ≡ setting (method_at ws i).body (between 0 (length (method_at ws i).params)) → Held (i + 1)
  method_held i K h q = held_on (method_reads ws) i h (method_set i K q)

  pub none_unset : (K : Vars) → Held l.method_count → ok K ≡ setting (main ws) (between 1 (input_count ws)) → None ≡ first_place (setting_rule ws)
  unfolding setting_rule all_reads
  none_unset K h q =
      none_told (method_reads ws) (method_count ws) 13 (reads (main ws) (between 1 (input_count ws))) (λ j k. h j (omega (arith, g.lay.method_count_lem)))
      (all_set (main ws) (between 1 (input_count ws)) K q)

  -- main's answer is the rule's, once each method's body passed
  pub main_place : Held l.method_count → (r : Result Marked ℕ) → res_of r ≡ setting (main ws) (between 1 (input_count ws)) → result_err r ≡ first_place (setting_rule ws)
  unfolding setting_rule all_reads
  main_place h (Err p) q =
      main_told starts 13 (reads (main ws) (between 1 (input_count ws))) p (λ j k. h j (omega (arith, g.lay.method_count_lem)))
      (first_unset (main ws) (between 1 (input_count ws)) p (body_start ws (method_count ws)) (node_count ws) (main_places ws hold filled) q)
  main_place h (Ok v) q = none_unset (vars_of v) h q
