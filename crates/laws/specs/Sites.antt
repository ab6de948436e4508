-- Laws of sites and reads: there is one for each node, in the order of the nodes.
use Rattle.std.specs.Prelude.{◌≡◌, refl, false, get_or}
use Rattle.std.proofs.Common.{sym, ◌∙◌}
use Rattle.std.proofs.Math.Path.{ap}
use Rattle.std.proofs.Math.Bool.{true}
use Rattle.std.proofs.Math.Option.{Option, none, some}
use mathlib.Core.List.{List, [], ◌∷◌, map, map-append}
use Prim.Native.Nat.{ℕ, zero, suc, ◌<◌}
use Rattle.std.proofs.Math.ListN
use Rattle.std.proofs.Math.ListN.{length, length-append, length-map}
use Rattle.words.specs.declared.Ty.{Ty}
use Rattle.words.specs.declared.Ty.TheVariants.{Class}
use Rattle.image.specs.Trailer.{method_count, node_count, input_count}
use Rattle.image.specs.Layout.{tested}
use Rattle.rules.specs.Maps.{upd, tabulate}
use Rattle.rules.specs.Trees.{Expr, Exprs, new, cast, val, var, add, eq, assign, get, put, call, block, seq, ite, while, throw, try, nil, cons, tree, postorder, postorder_all}
use Rattle.rules.specs.Program.{Env, program, method_at, main}
use Rattle.rules.specs.Setting.{Vars, between}
use Rattle.rules.specs.Sites.{Site, sites, sites_all, site_typed, after, reads, reads_all}
use Rattle.rules.specs.Numbers.{joined, method_sites, all_sites, typing_rule, method_reads, all_reads, setting_rule}
use Rattle.laws.specs.Maps.{length_tabulate, get_d_tabulate, map_tabulate, get_d_map}
use Rattle.laws.specs.Postorder.{NodesHold, BodiesHold, parts, all_postorder}

mutual
  unfolding sites postorder

  pub sites_parts : (e : Expr) (Γ : Env) (r : Option Ty) → map (λ s. s.tree) (sites e Γ r) ≡ parts e
  sites_parts (new p c) Γ r = refl
  sites_parts (cast p c e) Γ r = simp (map-append, sites_parts e Γ none)
  sites_parts (val p v) Γ r = refl
  sites_parts (var p x) Γ r = refl
  sites_parts (add p a b) Γ r = simp (map-append, sites_parts a Γ none, sites_parts b Γ none)
  sites_parts (eq p a b) Γ r = simp (map-append, sites_parts a Γ none, sites_parts b Γ none)
  sites_parts (assign p x e) Γ r = simp (map-append, sites_parts e Γ none)
  sites_parts (get p f d e) Γ r = simp (map-append, sites_parts e Γ none)
  sites_parts (put p f d a b) Γ r = simp (map-append, sites_parts a Γ none, sites_parts b Γ none)
  sites_parts (call p m e es) Γ r = simp (map-append, sites_parts e Γ none, sites_all_parts es Γ)
  sites_parts (block p x t mv e) Γ r = simp (map-append, sites_parts e (upd Γ x (some t)) none)
  sites_parts (seq p a b) Γ r = simp (map-append, sites_parts a Γ none, sites_parts b Γ none)
  sites_parts (ite p c a b) Γ r = simp (map-append, sites_parts c Γ none, sites_parts a Γ none, sites_parts b Γ none)
  sites_parts (while p c e) Γ r = simp (map-append, sites_parts c Γ none, sites_parts e Γ none)
  sites_parts (throw p t e) Γ r = simp (map-append, sites_parts e Γ none)
  sites_parts (try p c x a b) Γ r = simp (map-append, sites_parts a Γ none, sites_parts b (upd Γ x (some (Class c))) none)

  pub sites_all_parts : (es : Exprs) (Γ : Env) → map (λ s. s.tree) (sites_all es Γ) ≡ postorder_all (λ t. t) es
  sites_all_parts nil Γ = refl
  sites_all_parts (cons e es) Γ = simp (map-append, sites_parts e Γ none, sites_all_parts es Γ)

mutual
  unfolding reads postorder

  pub reads_parts : (e : Expr) (I : Vars) → length (reads e I) ≡ length (parts e)
  reads_parts (new p c) I = refl
  reads_parts (cast p c e) I = simp (length-append, reads_parts e I)
  reads_parts (val p v) I = refl
  reads_parts (var p x) I = refl
  reads_parts (add p a b) I = simp (length-append, reads_parts a I, reads_parts b (after a I))
  reads_parts (eq p a b) I = simp (length-append, reads_parts a I, reads_parts b (after a I))
  reads_parts (assign p x e) I = simp (length-append, reads_parts e I)
  reads_parts (get p f d e) I = simp (length-append, reads_parts e I)
  reads_parts (put p f d a b) I = simp (length-append, reads_parts a I, reads_parts b (after a I))
  reads_parts (call p m e es) I = simp (length-append, reads_parts e I, reads_all_parts es (after e I))
  reads_parts (block p x t mv e) I = simp (length-append, reads_parts e (upd I x false))
  reads_parts (seq p a b) I = simp (length-append, reads_parts a I, reads_parts b (after a I))
  reads_parts (ite p c a b) I = simp (length-append, reads_parts c I, reads_parts a (after c I), reads_parts b (after c I))
  reads_parts (while p c e) I = simp (length-append, reads_parts c I, reads_parts e (after c I))
  reads_parts (throw p t e) I = simp (length-append, reads_parts e I)
  reads_parts (try p c x a b) I = simp (length-append, reads_parts a I, reads_parts b (upd I x true))

  pub reads_all_parts : (es : Exprs) (I : Vars) → length (reads_all es I) ≡ length (postorder_all (λ t. t) es)
  reads_all_parts nil I = refl
  reads_all_parts (cons e es) I = simp (length-append, reads_parts e I, reads_all_parts es (after e I))

-- lists one after the other
map_joined : {A B : Type 0} (f : A → B) (ls : List (List A)) → map f (joined ls) ≡ joined (map (map f) ls)
unfolding joined
map_joined f [] = refl
map_joined f (l ∷ ls) = rw (map-append, map_joined f ls)

length_joined : {A B : Type 0} (n : ℕ) (f : ℕ → List A) (g : ℕ → List B) → ((i : ℕ) → length (f i) ≡ length (g i))
    → length (joined (tabulate n f)) ≡ length (joined (tabulate n g))
unfolding joined tabulate
length_joined zero f g h = refl
length_joined (suc n) f g h =
    simp (length-append, h 0, length_joined n (λ i. f (suc i)) (λ i. g (suc i)) (λ i. h (suc i)))

-- An image whose nodes and bodies hold has a site and a read for each node.
module _ (ws : List ℕ) (hold : NodesHold ws) (filled : BodiesHold ws) where
  pub all_sites_trees : map (λ s. s.tree) (all_sites ws) ≡ tabulate (node_count ws) (tree ws)
  unfolding all_sites method_sites
  all_sites_trees = simp (map-append, map_joined, map_tabulate, sites_parts) (all_postorder ws hold filled (λ t. t))

  pub length_all_sites : length (all_sites ws) ≡ node_count ws
  length_all_sites = sym (length-map (all_sites ws) (λ s. s.tree)) ∙ ap length all_sites_trees ∙ length_tabulate (node_count ws) (tree ws)

  pub site_tree : (n : ℕ) (z : Site) → n < node_count ws → (get_or (all_sites ws) n z).tree ≡ tree ws n
  site_tree n z l =
      sym (ListN.get_or-map (λ s. s.tree) (all_sites ws) n z)
      ∙ ap (λ (l : List Expr). get_or l n z.tree) all_sites_trees
      ∙ get_d_tabulate (node_count ws) (tree ws) n z.tree l

  pub length_all_reads : length (all_reads ws) ≡ node_count ws
  unfolding all_reads method_reads
  length_all_reads =
      let m = method_count ws in
      let b : ℕ → List Expr = λ i. parts (method_at ws i).body in
      length-append (joined (tabulate m (method_reads ws))) (reads (main ws) (between 1 (input_count ws)))
      ∙ rw (length_joined m (method_reads ws) b (λ i. reads_parts _ _), reads_parts (main ws) (between 1 (input_count ws)))
      (sym (length-append (joined (tabulate m b)) (parts (main ws))))
      ∙ ap length (all_postorder ws hold filled (λ t. t))
      ∙ length_tabulate (node_count ws) (tree ws)

  -- 12 and 13 are asked at each node
  pub typing_places : (typing_rule ws).places ≡ node_count ws
  unfolding typing_rule tested
  typing_places = length-map (all_sites ws) (site_typed (program ws)) ∙ length_all_sites

  pub setting_places : (setting_rule ws).places ≡ node_count ws
  unfolding setting_rule tested
  setting_places = length_all_reads

  pub typing_holds : (n : ℕ) (z : Site) → n < node_count ws
      → (typing_rule ws).holds n ≡ site_typed (program ws) (get_or (all_sites ws) n z)
  unfolding typing_rule tested
  typing_holds n z l = get_d_map (site_typed (program ws)) (all_sites ws) n true z (rw length_all_sites l)
