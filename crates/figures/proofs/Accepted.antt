-- What 12 and 13 say of a laid out image, in terms of the figures: each is unbroken exactly when every body passes its figure.
use Rattle.std.specs.Prelude.{ℕ, zero, suc, ◌<◌, ◌≡◌, ◌↔◌, Bool, true, false, ltb, length, get_or}
use Rattle.std.proofs.Math.Path.{refl, sym, ap}
use Rattle.std.proofs.Common.{◌∙◌, arith, ltb-true, ltb-false}
use Rattle.std.proofs.Math.Option.{none, some}
use mathlib.Core.List.{List, [], ◌∷◌, ◌++◌, map}
use Rattle.std.proofs.Math.ListN.{get_or-eq_default}
use Rattle.std.specs.declared.option.Option.TheVariants.{None}
use Rattle.order.specs.Rules.{first_place}
use Rattle.order.specs.Lowest.{held}
use Rattle.words.specs.declared.Ty.{Ty}
use Rattle.image.specs.Trailer.{method_count, main_node, input_count, node_count}
use Rattle.image.specs.Records.{method_word}
use Rattle.image.specs.Nodes.{body_start}
use Rattle.image.specs.Layout.{tested}
use Rattle.rules.specs.Maps.{tabulate}
use Rattle.rules.specs.Trees.{Expr, tree, place}
use Rattle.rules.specs.Program.{Program, Env, method_at, program, main, method_env, main_env}
use Rattle.rules.specs.Classes.{subtype}
use Rattle.rules.specs.Typing.{Res, ok, bad, ◌>>=◌, need, typing}
use Rattle.rules.specs.Setting.{Vars, between}
use Rattle.rules.specs.Sites.{sites, site_typed, after, reads}
use Rattle.rules.specs.Numbers.{joined, method_sites, all_sites, typing_rule, method_reads, all_reads, setting_rule}
use Rattle.laws.specs.Postorder.{NodesHold, BodiesHold, body_holds_lem, method_filled, main_filled}
use Rattle.figures.specs.Figure2.{Sets}
use Rattle.figures.proofs.Agreement.{clash, need_inv, need_true, typed, typing_typed}
use Rattle.figures.specs.FirstBreach.{AllHold, Written, bounded}
use Rattle.figures.proofs.FirstBreach.{body_exactly, setting_exactly, setting_after}
use Rattle.figures.proofs.Bodies.{no_place, all_append, all_joined}
use Rattle.figures.proofs.Laid.{written_tree, laid_sets}
use Rattle.figures.specs.Accepted.{BodyTyped, Figure1Holds, Figure2Holds}

-- LISTS OF TESTS
nowhere_all : (n : ℕ) (bs : List Bool) → first_place (tested n bs) ≡ None → AllHold bs
unfolding tested
nowhere_all n bs e i = go (ltb i (length bs)) refl
  where
    inside : i < length bs → get_or bs i true ≡ true
    inside l = held (tested n bs) e i l

    go : (t : Bool) → ltb i (length bs) ≡ t → get_or bs i true ≡ true
    go true q = inside (ltb-true i (length bs) q)
    go false q = get_or-eq_default bs true (ltb-false i (length bs) q)

append_left : (bs cs : List Bool) → AllHold (bs ++ cs) → AllHold bs
append_left [] cs h i = refl
append_left (b ∷ bs) cs h zero = h 0
append_left (b ∷ bs) cs h (suc i) = append_left bs cs (λ j. h (suc j)) i

append_right : (bs cs : List Bool) → AllHold (bs ++ cs) → AllHold cs
append_right [] cs h i = h i
append_right (b ∷ bs) cs h i = append_right bs cs (λ j. h (suc j)) i

joined_each : (f : ℕ → List Bool) (m : ℕ) → AllHold (joined (tabulate m f)) → (i : ℕ) → i < m → AllHold (f i)
unfolding joined tabulate
joined_each f zero h i l = absurd (omega arith)
joined_each f (suc m) h zero l = append_left (f 0) (joined (tabulate m (λ j. f (suc j)))) h
joined_each f (suc m) h (suc i) l =
    joined_each (λ j. f (suc j)) m (append_right (f 0) (joined (tabulate m (λ j. f (suc j)))) h) i (omega arith)

map_append : {A B : Type 0} (f : A → B) (xs ys : List A) → map f (xs ++ ys) ≡ map f xs ++ map f ys
map_append f [] ys = refl
map_append f (x ∷ xs) ys = ap (f x ∷◌) (map_append f xs ys)

map_joined : {A B : Type 0} (f : A → B) (g : ℕ → List A) (m : ℕ) → map f (joined (tabulate m g)) ≡ joined (tabulate m (λ i. map f (g i)))
unfolding joined tabulate
map_joined f g zero = refl
map_joined f g (suc m) =
    map_append f (g 0) (joined (tabulate m (λ i. g (suc i)))) ∙ ap (map f (g 0) ++◌) (map_joined f (λ i. g (suc i)) m)

-- ONE BODY
module _ (P : Program) (e : Expr) (Γ : Env) where
  bound_typed : (u t : Ty) → bounded P (some u) (place e) (typing P e Γ) ≡ ok t → (typing P e Γ ≡ ok t) × (subtype P t u ≡ true)
  unfolding bounded ◌>>=◌
  bound_typed u t q = go (typing P e Γ) refl q
    where
      go : (r : Res Ty) → typing P e Γ ≡ r → (r >>= (λ s. need (subtype P s u) (place e) s)) ≡ ok t → (r ≡ ok t) × (subtype P t u ≡ true)
      go (ok s) w z = let n = need_inv (subtype P s u) (place e) s t z in (ap ok n.1, rw n.1 at n.0)
      go (bad p) w z = absurd (clash p t z)

  typed_bound : (u t : Ty) → typing P e Γ ≡ ok t → subtype P t u ≡ true → bounded P (some u) (place e) (typing P e Γ) ≡ ok t
  unfolding bounded ◌>>=◌
  typed_bound u t q s = rw q (need_true (subtype P t u) (place e) t s)

module _ (ws : List ℕ) (hold : NodesHold ws) (filled : BodiesHold ws) where
  method_tests : ℕ → List Bool
  method_tests i = map (site_typed (program ws)) (method_sites ws i)

  main_tests : List Bool
  main_tests = map (site_typed (program ws)) (sites (main ws) (main_env ws) none)

  tests : map (site_typed (program ws)) (all_sites ws) ≡ joined (tabulate (method_count ws) method_tests) ++ main_tests
  unfolding all_sites method_tests main_tests
  tests =
      map_append (site_typed (program ws)) (joined (tabulate (method_count ws) (method_sites ws))) (sites (main ws) (main_env ws) none)
      ∙ ap (◌++ map (site_typed (program ws)) (sites (main ws) (main_env ws) none))
      (map_joined (site_typed (program ws)) (method_sites ws) (method_count ws))

  written_body : (i : ℕ) → Written (method_at ws i).body
  unfolding method_at
  written_body i = written_tree ws (method_word ws i 5)

  written_main : Written (main ws)
  unfolding main
  written_main = written_tree ws (main_node ws)

  body_typed : (i : ℕ) → AllHold (method_tests i) → BodyTyped ws i
  unfolding method_tests method_sites
  body_typed i h =
      let P = program ws in
      let m = method_at ws i in
      let f = (body_exactly P m.body (written_body i) (method_env m) (some m.result)).1 h in
      let b = bound_typed P m.body (method_env m) m.result f.0 f.1 in
      record { type = f.0; typed = typing_typed P m.body (method_env m) f.0 b.0; within = b.1 }

  typed_body : (i : ℕ) → BodyTyped ws i → AllHold (method_tests i)
  unfolding method_tests method_sites
  typed_body i t =
      let P = program ws in
      let m = method_at ws i in
      (body_exactly P m.body (written_body i) (method_env m) (some m.result)).0
      (t.type, typed_bound P m.body (method_env m) m.result t.type (typed P t.typed) t.within)

  -- 12 is unbroken exactly when figure 1 holds
  pub figure_1 : (first_place (typing_rule ws) ≡ None) ↔ Figure1Holds ws
  unfolding typing_rule main_tests bounded
  figure_1 = (
    λ e.
        let h : AllHold (joined (tabulate (method_count ws) method_tests) ++ main_tests) = rw tests at (nowhere_all 12 (map (site_typed (program ws)) (all_sites ws)) e) in
        let f = (body_exactly (program ws) (main ws) written_main (main_env ws) none).1 (append_right (joined (tabulate (method_count ws) method_tests)) main_tests h) in
        record {
          methods = λ i l. body_typed i (joined_each method_tests (method_count ws) (append_left (joined (tabulate (method_count ws) method_tests)) main_tests h) i l);
          main_typed = (f.0, typing_typed (program ws) (main ws) (main_env ws) f.0 f.1);
        },
    λ t.
        let k : AllHold main_tests = (body_exactly (program ws) (main ws) written_main (main_env ws) none).0 (t.main_typed.0, typed (program ws) t.main_typed.1) in
        let h : AllHold (joined (tabulate (method_count ws) method_tests) ++ main_tests) =
        all_append (joined (tabulate (method_count ws) method_tests)) main_tests (all_joined method_tests (method_count ws) (λ i l. typed_body i (t.methods i l))) k in
        sym (no_place 12 (map (site_typed (program ws)) (all_sites ws)) (rw tests h)),
  )

  sets_reads : (n : ℕ) → n < node_count ws → (I : Vars) → ((K : Vars) × Sets I (tree ws n) K) ↔ AllHold (reads (tree ws n) I)
  sets_reads n l I = (
    λ s.
        let q = (laid_sets ws hold n l I s.0).0 s.1 in
        (setting_exactly (tree ws n) I).0 (q ∙ ap ok (sym (setting_after (tree ws n) I s.0 q))),
    λ h. (after (tree ws n) I, (laid_sets ws hold n l I (after (tree ws n) I)).1 ((setting_exactly (tree ws n) I).1 h)),
  )

  body_set : (i : ℕ) → i < method_count ws
      → ((K : Vars) × Sets (between 0 (length (method_at ws i).params)) (method_at ws i).body K) ↔ AllHold (method_reads ws i)
  unfolding method_reads method_at
  body_set i l =
      sets_reads (method_word ws i 5) (body_holds_lem ws (body_start ws i) (method_word ws i 5) (method_filled ws i l (filled i (omega arith)))).0 _

  main_set : ((K : Vars) × Sets (between 1 (input_count ws)) (main ws) K) ↔ AllHold (reads (main ws) (between 1 (input_count ws)))
  unfolding main
  main_set = sets_reads (main_node ws) (omega (arith, (main_filled ws (filled (method_count ws) (omega arith))).1)) _

  -- 13 is unbroken exactly when figure 2 holds
  pub figure_2 : (first_place (setting_rule ws) ≡ None) ↔ Figure2Holds ws
  unfolding setting_rule all_reads
  figure_2 = (
    λ e.
        let h = nowhere_all 13 (all_reads ws) e in
        let first = joined (tabulate (method_count ws) (method_reads ws)) in
        let last = reads (main ws) (between 1 (input_count ws)) in
        record {
          methods = λ i l. (body_set i l).1 (joined_each (method_reads ws) (method_count ws) (append_left first last h) i l);
          main_set = main_set.1 (append_right first last h);
        },
    λ t.
        sym
        (no_place 13 (all_reads ws)
        (all_append (joined (tabulate (method_count ws) (method_reads ws))) (reads (main ws) (between 1 (input_count ws)))
        (all_joined (method_reads ws) (method_count ws) (λ i l. (body_set i l).0 (t.methods i l)))
        (main_set.0 t.main_set))),
  )
