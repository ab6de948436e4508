-- Laws: the environments that bodies start with, and what the typing of the bodies, one after the other, says of rule 12.
use Rattle.std.specs.Prelude.{◌≡◌, refl, Bool, true, false, List, [], ◌∷◌, ◌++◌, map, ℕ, zero, suc, ◌+◌, ◌-◌, ◌≤◌, ◌<◌, get_or, set, replicate}
use Rattle.std.proofs.Math.Path.{sym, ap, fun_ext}
use Rattle.std.proofs.Common.{◌∙◌, add-one}
use Rattle.std.proofs.Math.Option.{none, some}
use native.Mathlib.Omega.{arith}
use Rattle.std.proofs.Math.ListN.{length, length-map}
use Rattle.std.specs.declared.option.Option.TheVariants.{Some, None}
use Rattle.order.specs.Rules.{first_place}
use Rattle.words.specs.declared.Ty.{Ty}
use Rattle.words.specs.declared.Ty.TheVariants.{Class}
use Rattle.std.specs.declared.option.Option.{Option as Maybe}
use Rattle.words.specs.Types.{type_of}
use Rattle.image.specs.declared.Kind.{Kind}
use Rattle.image.specs.declared.Kind.TheVariants.{New, Cast, Value as Literal, Var, Add, Eq, Assign, Get, Set, Call, Block, Seq, If, While, Throw, Try, Unknown}
use Rattle.image.specs.declared.Layout.{Layout}
use Rattle.image.specs.Numbers.{variables}
use Rattle.image.specs.Trailer.{class_count, method_count, type_count, node_count, input_count, main_node}
use Rattle.image.specs.Records.{method_word, type_at, method_holds, type_holds}
use Rattle.image.specs.Nodes.{node_word, kind_of, body_start, node_holds, filled_holds}
use Rattle.image.specs.Layout.{Good}
use Rattle.rules.specs.Maps.{upd, tabulate, from}
use Rattle.rules.specs.Trees.{Expr, node_of, node_tree, operand, tree, place, places}
use Rattle.rules.specs.Program.{Program, program, types_from, method_at, method_env, main, main_env, input_types}
use Rattle.rules.specs.Typing.{ok, bad, ◌>>=◌, need, typing}
use Rattle.rules.specs.Classes.{subtype}
use Rattle.rules.specs.Sites.{sites, site_typed}
use Rattle.rules.specs.Numbers.{joined, method_sites, all_sites, typing_rule}
use Rattle.laws.specs.Maps.{length_stretch, tabulate_same}
use Rattle.laws.specs.Trees.{known, tree_node}
use Rattle.laws.specs.Postorder.{body_holds_lem, method_filled, main_filled, body_places, main_places}
use Rattle.figures.specs.FirstBreach.{AllHold, bounded}
use Rattle.figures.proofs.FirstBreach.{sites_length, body_exactly, body_first}
use Rattle.figures.proofs.Laid.{written_tree}
use Rattle.std.specs.declared.result.Result.{Result}
use Rattle.std.specs.declared.result.Result.TheVariants.{Ok, Err}
use Rattle.std.specs.Result.{result_err}
use Rattle.node_rules.specs.Env.{entry, env_of, Has, EnvOk, res_ty, within, method_typing, main_typing}
use Rattle.node_rules.specs.EnvLaws.{env_set, ok_set, declared_had}
use Rattle.node_types.specs.ListLaws.{same_at}
use Rattle.figures.specs.Bodies.{Bodies}
use Rattle.figures.proofs.Bodies.{told, body_told, main_told, none_told}

-- WHAT BODIES START WITH
pub type_declared : (ws : List ℕ) (i : ℕ) → type_holds ws i ≡ true → Has ws (type_of (type_at ws i))
unfolding type_holds
type_declared ws i h = declared_had (type_at ws i) (class_count ws) h

pub untyped_ok : (ws : List ℕ) → EnvOk ws (replicate 64 None)
untyped_ok ws = record { size = refl; types = λ x. rw (same_at {A = Maybe Ty} None 64 x) tt }

-- the types from j on are bound: what is left to bind stands before them
pub record Declaring (ws : List ℕ) (first count : ℕ) (env : List (Maybe Ty)) (j : ℕ) : Type 0 where
  pub within : j ≤ count
  pub ok : EnvOk ws env
  pub types : env_of env ≡ from (suc j) (types_from ws (first + j) (count - j))

types_none : (ws : List ℕ) (i k : ℕ) → k ≡ 0 → types_from ws i k ≡ []
unfolding types_from tabulate
types_none ws i k h = rw h

types_cons : (ws : List ℕ) (i k : ℕ) → types_from ws i (suc k) ≡ type_of (type_at ws i) ∷ types_from ws (suc i) k
unfolding types_from tabulate
types_cons ws i k =
    let e : i + 0 ≡ i = omega arith in
    rw (
      e,
      tabulate_same k (λ j. type_of (type_at ws (i + suc j))) (λ j. type_of (type_at ws (suc i + j)))
          (λ j h. let q : i + suc j ≡ suc i + j = omega arith in ap (λ (m : ℕ). type_of (type_at ws m)) q),
    )

opened : (i : ℕ) (t : Ty) (ts : List Ty) → upd (from (suc (suc i)) ts) (suc i) (some t) ≡ from (suc i) (t ∷ ts)
unfolding from
opened i t ts = refl

module _ (ws : List ℕ) (first count : ℕ) where
  pub declare_start : (env : List (Maybe Ty)) → EnvOk ws env → ((x : ℕ) → get_or env x None ≡ None) → Declaring ws first count env count
  unfolding env_of entry from
  declare_start env e z =
      let q : count - count ≡ 0 = omega arith in
      record {
        within = omega arith;
        ok = e;
        types = rw (types_none ws (first + count) (count - count) q) (fun_ext (λ x. ap entry (z x)));
      }

  pub declare_on : (env : List (Maybe Ty)) (j : ℕ) (t : Ty) → Declaring ws first count env j → 0 < j → count < variables → t ≡ type_of (type_at ws (first + (j - 1))) → Has ws t
      → Declaring ws first count (set env (j - 1 + 1) (Some t)) (j - 1)
  declare_on env zero t d h l e k = absurd (omega arith)
  declare_on env (suc i) t d h l e k =
      let a : suc i - 1 ≡ i = omega arith in
      let b : count - i ≡ suc (count - suc i) = omega (arith, d.within) in
      let c : suc (first + i) ≡ first + suc i = omega arith in
      let v : t ≡ type_of (type_at ws (first + i)) = rw a at e in
      rw (a, add-one i)
      (record {
        within = omega (arith, d.within);
        ok = ok_set ws env (suc i) (Some t) d.ok k;
        types = env_set env (suc i) t (omega (arith, d.ok.size, d.within)) ∙ rw (b, types_cons ws (first + i) (count - suc i), c, v, d.types) (opened i (type_of (type_at ws (first + i))) (types_from ws (first + suc i) (count - suc i)));
      })

  pub declare_end : (env : List (Maybe Ty)) (j : ℕ) → Declaring ws first count env j → j ≡ 0 → env_of env ≡ from 1 (types_from ws first count)
  declare_end env j d h =
      let a : first + 0 ≡ first = omega arith in
      let b : count - 0 ≡ count = omega arith in
      rw (h, a, b) at d.types

-- a method's environment, and main's
pub method_env_lem : (ws : List ℕ) (env : List (Maybe Ty)) (i : ℕ) → length env ≡ variables → env_of env ≡ from 1 (types_from ws (method_word ws i 3) (method_word ws i 4))
    → env_of (set env 0 (Some (Class (method_word ws i 0)))) ≡ method_env (method_at ws i)
unfolding method_env method_at from
method_env_lem ws env i l h = env_set env 0 (Class (method_word ws i 0)) (omega arith) ∙ rw h

pub main_env_lem : (ws : List ℕ) (env : List (Maybe Ty)) → env_of env ≡ from 1 (types_from ws (type_count ws - input_count ws) (input_count ws)) → env_of env ≡ main_env ws
unfolding main_env input_types
main_env_lem ws env h = h

-- WHERE A TREE STANDS
place_node : (k : Kind) (p x y : ℕ) (o : ℕ → Expr) → (k ≡ Unknown → ⊥) → place (node_of k p x y o) ≡ p
unfolding place node_of
place_node New p x y o h = refl
place_node Cast p x y o h = refl
place_node Literal p x y o h = refl
place_node Var p x y o h = refl
place_node Add p x y o h = refl
place_node Eq p x y o h = refl
place_node Assign p x y o h = refl
place_node Get p x y o h = refl
place_node Set p x y o h = refl
place_node Call p x y o h = refl
place_node Block p x y o h = refl
place_node Seq p x y o h = refl
place_node If p x y o h = refl
place_node While p x y o h = refl
place_node Throw p x y o h = refl
place_node Try p x y o h = refl
place_node Unknown p x y o h = absurd (h refl)

pub place_tree : (ws : List ℕ) (n : ℕ) → node_holds ws n ≡ true → place (tree ws n) ≡ n
unfolding node_tree
place_tree ws n h =
    ap place (tree_node ws n h)
    ∙ place_node (kind_of (node_word ws n 0)) n (node_word ws n 2) (node_word ws n 3) (λ j. tree ws (operand ws n j)) (known ws n h)

-- A BODY'S RESULT
pub within_bad : (P : Program) (n : ℕ) (u : Ty) (p : ℕ) → bad p ≡ within P n u (bad p)
unfolding within bounded ◌>>=◌
within_bad P n u p = refl

module _ (P : Program) (n : ℕ) (u t : Ty) where
  pub within_yes : subtype P t u ≡ true → ok t ≡ within P n u (ok t)
  unfolding within bounded ◌>>=◌ need
  within_yes h = rw h

  pub within_no : subtype P t u ≡ false → bad n ≡ within P n u (ok t)
  unfolding within bounded ◌>>=◌ need
  within_no h = rw h

pub method_typing_lem : (ws : List ℕ) (env : List (Maybe Ty)) (i : ℕ) → node_holds ws (method_word ws i 5) ≡ true → env_of env ≡ method_env (method_at ws i)
    → within (program ws) (method_word ws i 5) (type_of (method_word ws i 2)) (typing (program ws) (tree ws (method_word ws i 5)) (env_of env)) ≡ method_typing ws i
unfolding within method_typing method_at
method_typing_lem ws env i h e = rw (e, place_tree ws (method_word ws i 5) h)

pub main_typing_lem : (ws : List ℕ) (env : List (Maybe Ty)) → env_of env ≡ main_env ws → typing (program ws) (tree ws (main_node ws)) (env_of env) ≡ main_typing ws
unfolding main_typing bounded main
main_typing_lem ws env e = rw e

-- TESTS
map_append : {A B : Type 0} (f : A → B) (xs ys : List A) → map f (xs ++ ys) ≡ map f xs ++ map f ys
map_append f [] ys = refl
map_append f (x ∷ xs) ys = ap (f x ∷◌) (map_append f xs ys)

map_joined : {A B : Type 0} (f : A → B) (g : ℕ → List A) (m : ℕ) → map f (joined (tabulate m g)) ≡ joined (tabulate m (λ i. map f (g i)))
unfolding joined tabulate
map_joined f g zero = refl
map_joined f g (suc m) = map_append f (g 0) (joined (tabulate m (λ i. g (suc i)))) ∙ ap (map f (g 0) ++◌) (map_joined f (λ i. g (suc i)) m)

-- the tests of method i's nodes, and of main's
unfoldable pub method_tests : List ℕ → ℕ → List Bool
method_tests ws i = map (site_typed (program ws)) (method_sites ws i)

unfoldable pub main_tests : List ℕ → List Bool
main_tests ws = map (site_typed (program ws)) (sites (main ws) (main_env ws) none)

tests_all : (ws : List ℕ) → map (site_typed (program ws)) (all_sites ws) ≡ joined (tabulate (method_count ws) (method_tests ws)) ++ main_tests ws
unfolding all_sites method_tests main_tests
tests_all ws =
    map_append (site_typed (program ws)) (joined (tabulate (method_count ws) (method_sites ws))) (sites (main ws) (main_env ws) none)
    ∙ ap (◌++ map (site_typed (program ws)) (sites (main ws) (main_env ws) none)) (map_joined (site_typed (program ws)) (method_sites ws) (method_count ws))

module _ (ws : List ℕ) (l : Layout) (g : Good ws l) where
  hold : (n : ℕ) → n < node_count ws → node_holds ws n ≡ true
  hold = g.nodes

  filled : (i : ℕ) → i ≤ method_count ws → filled_holds ws i ≡ true
  filled i w = g.bodies i (omega arith)

  pub main_within : l.main < l.node_count
  main_within = omega (arith, g.lay.main, g.lay.node_count_lem, (main_filled ws (filled (method_count ws) (omega arith))).1)

  module _ (i : ℕ) (w : i < l.method_count) where
    below_count : i < method_count ws
    below_count = rw (← g.lay.method_count_lem) w

    pub method_holds_lem : method_holds ws i ≡ true
    method_holds_lem = g.methods i below_count

    pub body_node : method_word ws i 5 < node_count ws
    body_node =
        (body_holds_lem ws (body_start ws i) (method_word ws i 5) (method_filled ws i below_count (filled i (omega (arith, below_count))))).0

    pub body_within : method_word ws i 5 < l.node_count
    body_within = rw g.lay.node_count_lem body_node

    pub body_node_holds : node_holds ws (method_word ws i 5) ≡ true
    body_node_holds = hold (method_word ws i 5) body_node

  starts : Bodies (method_tests ws) (method_count ws) (body_start ws)
  unfolding body_start method_tests method_sites
  starts =
      record {
        zeroth = refl;
        next = λ j w.
            let e = (method_at ws j).body in
            let s = body_holds_lem ws (body_start ws j) (method_word ws j 5) (method_filled ws j w (filled j (omega arith))) in
            let r = length-map (sites e (method_env (method_at ws j)) (some (method_at ws j).result)) (site_typed (program ws))
            ∙ sites_length e (method_env (method_at ws j)) (some (method_at ws j).result)
            ∙ ap length (body_places ws hold filled j w)
            ∙ length_stretch (λ i. i) (body_start ws j) (body_start ws (suc j)) in
            omega (arith, r, s.1);
      }

  -- RULE 12
  -- the bodies before i hold
  abbrev pub Held : ℕ → Type 0
  Held i = (j : ℕ) → j < i → AllHold (method_tests ws j)

  pub method_typed : (i : ℕ) (r : Result Ty ℕ) (t : Ty) → res_ty r ≡ method_typing ws i → r ≡ Ok t → AllHold (method_tests ws i)
  unfolding method_typing method_tests method_sites method_at
  method_typed i r t q e =
      (body_exactly (program ws) (method_at ws i).body (written_tree ws (method_word ws i 5)) (method_env (method_at ws i)) (some (method_at ws i).result)).0
      (t, sym q ∙ rw e)

  pub method_untyped : (i : ℕ) (r : Result Ty ℕ) (p : ℕ) → i < l.method_count → Held i → res_ty r ≡ method_typing ws i → r ≡ Err p → Some p ≡ first_place (typing_rule ws)
  unfolding typing_rule method_typing method_tests method_sites method_at
  method_untyped i r p w h q e =
      let m = below_count i w in
      let b = body_first (program ws) (method_at ws i).body (written_tree ws (method_word ws i 5)) (method_env (method_at ws i)) (some (method_at ws i).result) p (sym q ∙ rw e) in
      rw (tests_all ws)
      (body_told starts 12 (main_tests ws) p i m h (told (body_start ws i) (body_start ws (suc i)) _ (places (method_at ws i).body) p (body_places ws hold filled i m) b))

  pub main_untyped : (r : Result Ty ℕ) (p : ℕ) → Held l.method_count → res_ty r ≡ main_typing ws → r ≡ Err p → Some p ≡ first_place (typing_rule ws)
  unfolding typing_rule main_typing main_tests main
  main_untyped r p h q e =
      let b = body_first (program ws) (main ws) (written_tree ws (main_node ws)) (main_env ws) none p (sym q ∙ rw e) in
      rw (tests_all ws)
      (main_told starts 12 (main_tests ws) p (rw g.lay.method_count_lem at h)
      (told (body_start ws (method_count ws)) (node_count ws) _ (places (main ws)) p (main_places ws hold filled) b))

  pub none_untyped : (r : Result Ty ℕ) (t : Ty) → Held l.method_count → res_ty r ≡ main_typing ws → r ≡ Ok t → None ≡ first_place (typing_rule ws)
  unfolding typing_rule main_typing main_tests main
  none_untyped r t h q e =
      rw (tests_all ws)
      (none_told (method_tests ws) (method_count ws) 12 (main_tests ws) (rw g.lay.method_count_lem at h)
      ((body_exactly (program ws) (main ws) (written_tree ws (main_node ws)) (main_env ws) none).0 (t, sym q ∙ rw e)))

  -- what main's typing says when every method's body is typed
  pub main_answer : (r : Result Ty ℕ) → Held l.method_count → res_ty r ≡ main_typing ws → result_err r ≡ first_place (typing_rule ws)
  main_answer (Ok t) h q = none_untyped (Ok t) t h q refl
  main_answer (Err p) h q = main_untyped (Err p) p h q refl
