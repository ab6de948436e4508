-- Laws: the place that a check tells is that of the first node in the order of the numbers, operands before their node, at which
-- the rule is broken: 12 and 13 are at the lowest such node.
use Rattle.std.specs.Prelude.{ℕ, zero, suc, ◌+◌, ◌≤◌, ◌<◌, ◌≡◌, ◌↔◌, Bool, cond, List, [], ◌∷◌, ◌++◌, map, length, get_or}
use Rattle.std.proofs.Math.Path.{refl}
use Rattle.std.proofs.Common.{sym, ◌∙◌, ap, arith, length-append}
use Rattle.std.proofs.Math.Bool.{true, false}
use Rattle.std.proofs.Math.Option.{Option, none, some}
use Rattle.std.proofs.lemmas.List.{length-map}
use Rattle.words.specs.declared.Value.{Value}
use Rattle.words.specs.declared.Value.TheVariants.{Null, Intg, Addr}
use Rattle.words.specs.declared.Ty.{Ty}
use Rattle.words.specs.declared.Ty.TheVariants.{Void, Boolean, Integer, NT, Class}
use Rattle.rules.specs.Maps.{upd, tabulate}
use Rattle.rules.specs.Trees.{Expr, Exprs, new, cast, val, var, add, eq, assign, get, put, call, block, seq, ite, while, throw, try, nil, cons}
use Rattle.rules.specs.Program.{Program, Env}
use Rattle.rules.specs.Classes.{or_else, subtype, sees_field, sees_method}
use Rattle.rules.specs.Typing.{Res, ok, bad, ◌>>=◌, need, found, literal, class, unremembered, typing, typings}
use Rattle.rules.specs.Setting.{Vars, every_var, setting, settings}
use Rattle.rules.specs.Trees.{place, places, places_all, postorder}
use Rattle.rules.specs.Sites.{sites, sites_all, typed_within, site_typed, after, after_all, reads, reads_all}
use Rattle.figures.proofs.Agreement.{clash, ok_inj}
use Rattle.figures.specs.FirstBreach.{AllHold, Consecutive, FirstBreach, Lowest, Written, WrittenAll, bounded, site_place}

-- FIRST OF A LIST
-- the same as a function: the place of the first test that fails
first_false : List Bool → List ℕ → Option ℕ
first_false [] ps = none
first_false (b ∷ bs) [] = none
first_false (b ∷ bs) (p ∷ ps) = cond b (first_false bs ps) (some p)

first_append : (bs : List Bool) (ps : List ℕ) (cs : List Bool) (qs : List ℕ)
    → length bs ≡ length ps
    → first_false (bs ++ cs) (ps ++ qs) ≡ or_else (first_false bs ps) (first_false cs qs)
unfolding first_false
first_append [] [] cs qs e = refl
first_append [] (p ∷ ps) cs qs e = absurd (omega arith)
first_append (b ∷ bs) [] cs qs e = absurd (omega arith)
first_append (true ∷ bs) (p ∷ ps) cs qs e = first_append bs ps cs qs (omega arith)
first_append (false ∷ bs) (p ∷ ps) cs qs e = refl

some_inj : {A : Type 0} {a b : A} → some a ≡ some b → a ≡ b
some_inj e = cc

none_some : {A : Type 0} {a : A} → none ≡ some a → ⊥
none_some e = let z : ◌≡◌ {A = ℕ} 0 1 = cc in omega arith

first_found : (bs : List Bool) (ps : List ℕ) (p : ℕ) → first_false bs ps ≡ some p → FirstBreach bs ps p
unfolding first_false
first_found [] ps p e = absurd (none_some e)
first_found (b ∷ bs) [] p e = absurd (none_some e)
first_found (true ∷ bs) (q ∷ ps) p e =
    let f = first_found bs ps p e in
    record {
      index = suc f.index;
      within = omega (arith, f.within);
      first = record { fails = f.first.fails; lower = elim [ zero ↦ λ h. refl | suc j ↦ λ h. f.first.lower j (omega arith) ] };
      at = f.at;
    }
first_found (false ∷ bs) (q ∷ ps) p e =
    record { index = 0; within = omega arith; first = record { fails = refl; lower = λ j h. absurd (omega arith) }; at = some_inj e }

first_none : (bs : List Bool) (ps : List ℕ) → length bs ≡ length ps → first_false bs ps ≡ none → AllHold bs
unfolding first_false
first_none [] ps l e i = refl
first_none (b ∷ bs) [] l e i = absurd (omega arith)
first_none (true ∷ bs) (q ∷ ps) l e zero = refl
first_none (true ∷ bs) (q ∷ ps) l e (suc i) = first_none bs ps (omega arith) e i
first_none (false ∷ bs) (q ∷ ps) l e i = absurd (none_some (sym e))

all_first : (bs : List Bool) (ps : List ℕ) → AllHold bs → first_false bs ps ≡ none
unfolding first_false
all_first [] ps h = refl
all_first (b ∷ bs) [] h = refl
all_first (b ∷ bs) (q ∷ ps) h = rw (h 0) (all_first bs ps (λ i. h (suc i)))

even_append : {A B : Type 0} (bs cs : List A) (ps qs : List B)
    → length bs ≡ length ps
    → length cs ≡ length qs
    → length (bs ++ cs) ≡ length (ps ++ qs)
even_append bs cs ps qs e f = rw (length-append bs cs, length-append ps qs, e, f)

map_append : {A B : Type 0} (f : A → B) (xs ys : List A) → map f (xs ++ ys) ≡ map f xs ++ map f ys
map_append f [] ys = refl
map_append f (x ∷ xs) ys = ap (λ zs. f x ∷ zs) (map_append f xs ys)

mutual
  unfolding place sites postorder

  pub sites_places : (e : Expr) (Γ : Env) (l : Option Ty) → map site_place (sites e Γ l) ≡ places e
  sites_places (new p c) Γ l = refl
  sites_places (cast p c e) Γ l = rw (map_append, sites_places e Γ none)
  sites_places (val p v) Γ l = refl
  sites_places (var p x) Γ l = refl
  sites_places (add p a b) Γ l = rw (map_append, map_append, sites_places a Γ none, sites_places b Γ none)
  sites_places (eq p a b) Γ l = rw (map_append, map_append, sites_places a Γ none, sites_places b Γ none)
  sites_places (assign p x e) Γ l = rw (map_append, sites_places e Γ none)
  sites_places (get p f d e) Γ l = rw (map_append, sites_places e Γ none)
  sites_places (put p f d a b) Γ l = rw (map_append, map_append, sites_places a Γ none, sites_places b Γ none)
  sites_places (call p m e es) Γ l = rw (map_append, map_append, sites_places e Γ none, sites_places_all es Γ)
  sites_places (block p x t mv e) Γ l = rw (map_append, sites_places e (upd Γ x (some t)) none)
  sites_places (seq p a b) Γ l = rw (map_append, map_append, sites_places a Γ none, sites_places b Γ none)
  sites_places (ite p c a b) Γ l =
      rw (map_append, map_append, map_append, sites_places c Γ none, sites_places a Γ none, sites_places b Γ none)
  sites_places (while p c e) Γ l = rw (map_append, map_append, sites_places c Γ none, sites_places e Γ none)
  sites_places (throw p t e) Γ l = rw (map_append, sites_places e Γ none)
  sites_places (try p c x a b) Γ l =
      rw (map_append, map_append, sites_places a Γ none, sites_places b (upd Γ x (some (Class c))) none)

  sites_places_all : (es : Exprs) (Γ : Env) → map site_place (sites_all es Γ) ≡ places_all es
  sites_places_all nil Γ = refl
  sites_places_all (cons e es) Γ = rw (map_append, sites_places e Γ none, sites_places_all es Γ)

pub sites_length : (e : Expr) (Γ : Env) (l : Option Ty) → length (sites e Γ l) ≡ length (places e)
sites_length e Γ l = sym (length-map (sites e Γ l) site_place) ∙ ap length (sites_places e Γ l)

-- 13
-- an answer, from the first place that fails
verdict : {A : Type 0} → Option ℕ → A → Res A
verdict none a = ok a
verdict (some p) a = bad p

-- an answer tells the first of these tests that fails, and a where none does
record Reads {A : Type 0} (r : Res A) (a : A) (bs : List Bool) (ps : List ℕ) : Type 0 where
  even : length bs ≡ length ps
  says : r ≡ verdict (first_false bs ps) a

reads_nil : {A : Type 0} (a : A) → Reads (ok a) a [] []
unfolding first_false verdict
reads_nil a = record { even = refl; says = refl }

reads_one : {A : Type 0} (b : Bool) (a : A) (p : ℕ) → Reads (need b p a) a (b ∷ []) (p ∷ [])
unfolding first_false verdict need
reads_one true a p = record { even = refl; says = refl }
reads_one false a p = record { even = refl; says = refl }

-- a node that reads nothing
reads_none : {A : Type 0} (a : A) (p : ℕ) → Reads (ok a) a (true ∷ []) (p ∷ [])
unfolding need
reads_none a p = reads_one true a p

reads_on : {A B : Type 0} {r : Res A} {a : A} {bs : List Bool} {ps : List ℕ} (f : A → Res B) {b : B} {cs : List Bool} {qs : List ℕ}
    → Reads r a bs ps
    → Reads (f a) b cs qs
    → Reads (r >>= f) b (bs ++ cs) (ps ++ qs)
unfolding verdict ◌>>=◌
reads_on {A} {B} {r} {a} {bs} {ps} f {b} {cs} {qs} s t =
    record {
      even = even_append bs cs ps qs s.even t.even;
      says = rw (s.says, first_append bs ps cs qs s.even) (go (first_false bs ps));
    }
  where
    go : (o : Option ℕ) → (verdict o a >>= f) ≡ verdict (or_else o (first_false cs qs)) b
    go none = t.says
    go (some p) = refl

reads_last : {A : Type 0} {r : Res A} {a : A} {bs : List Bool} {ps : List ℕ} (p : ℕ)
    → Reads r a bs ps
    → Reads r a (bs ++ (true ∷ [])) (ps ++ (p ∷ []))
unfolding first_false
reads_last {A} {r} {a} {bs} {ps} p s =
    record {
      even = even_append bs (true ∷ []) ps (p ∷ []) s.even refl;
      says = rw (first_append bs ps (true ∷ []) (p ∷ []) s.even) (s.says ∙ go (first_false bs ps));
    }
  where
    go : (o : Option ℕ) → verdict o a ≡ verdict (or_else o none) a
    go none = refl
    go (some q) = refl

mutual
  unfolding setting after reads postorder place

  reading : (e : Expr) (I : Vars) → Reads (setting e I) (after e I) (reads e I) (places e)
  reading (new p c) I = reads_none I p
  reading (cast p c e) I = reads_last p (reading e I)
  reading (val p v) I = reads_none I p
  reading (var p x) I = reads_one (I x) I p
  reading (add p a b) I = reads_on _ (reading a I) (reads_last p (reading b (after a I)))
  reading (eq p a b) I = reads_on _ (reading a I) (reads_last p (reading b (after a I)))
  reading (assign p x e) I = reads_on _ (reading e I) (reads_none (upd (after e I) x true) p)
  reading (get p f d e) I = reads_last p (reading e I)
  reading (put p f d a b) I = reads_on _ (reading a I) (reads_last p (reading b (after a I)))
  reading (call p m e es) I = reads_on _ (reading e I) (reads_last p (readings es (after e I)))
  reading (block p x t mv e) I = reads_on _ (reading e (upd I x false)) (reads_none (upd (after e (upd I x false)) x (I x)) p)
  reading (seq p a b) I = reads_on _ (reading a I) (reads_last p (reading b (after a I)))
  reading (ite p c a b) I =
      reads_on _ (reading c I) (reads_on _ (reading a (after c I)) (reads_on _ (reading b (after c I)) (reads_none _ p)))
  reading (while p c e) I = reads_on _ (reading c I) (reads_on _ (reading e (after c I)) (reads_none (after c I) p))
  reading (throw p t e) I = reads_on _ (reading e I) (reads_none every_var p)
  reading (try p c x a b) I = reads_on _ (reading a I) (reads_on _ (reading b (upd I x true)) (reads_none _ p))

  readings : (es : Exprs) (I : Vars) → Reads (settings es I) (after_all es I) (reads_all es I) (places_all es)
  readings nil I = reads_nil I
  readings (cons e es) I = reads_on _ (reading e I) (readings es (after e I))

verdict_ok : {A : Type 0} (o : Option ℕ) (a b : A) → verdict o a ≡ ok b → (o ≡ none) × (a ≡ b)
unfolding verdict
verdict_ok none a b e = (refl, ok_inj e)
verdict_ok (some p) a b e = absurd (clash p b e)

verdict_bad : {A : Type 0} (o : Option ℕ) (a : A) (p : ℕ) → verdict o a ≡ bad p → o ≡ some p
unfolding verdict
verdict_bad none a p e = absurd (clash p a (sym e))
verdict_bad (some q) a p e = cc

pub reads_length : (e : Expr) (I : Vars) → length (reads e I) ≡ length (places e)
reads_length e I = (reading e I).even

-- the set that the check finds is the set after the tree
pub setting_after : (e : Expr) (I K : Vars) → setting e I ≡ ok K → after e I ≡ K
setting_after e I K q = (verdict_ok (first_false (reads e I) (places e)) (after e I) K (sym (reading e I).says ∙ q)).1

-- it finds one exactly where no node reads an unset variable
pub setting_exactly : (e : Expr) (I : Vars) → (setting e I ≡ ok (after e I)) ↔ AllHold (reads e I)
unfolding verdict
setting_exactly e I = (
  λ q.
      first_none
      (reads e I)
      (places e)
      (reading e I).even
      (verdict_ok (first_false (reads e I) (places e)) (after e I) (after e I) (sym (reading e I).says ∙ q)).0,
  λ h. (reading e I).says ∙ rw (all_first (reads e I) (places e) h),
)

-- and else it tells the place of the first node that does
pub setting_first : (e : Expr) (I : Vars) (p : ℕ) → setting e I ≡ bad p → FirstBreach (reads e I) (places e) p
setting_first e I p q =
    first_found
    (reads e I)
    (places e)
    p
    (verdict_bad (first_false (reads e I) (places e)) (after e I) p (sym (reading e I).says ∙ q))

-- 12
-- the place that an answer tells
breach : {A : Type 0} → Res A → Option ℕ
breach (ok a) = none
breach (bad p) = some p

-- an answer tells the first of these tests that fails
record Says {A : Type 0} (r : Res A) (bs : List Bool) (ps : List ℕ) : Type 0 where
  even : length bs ≡ length ps
  says : first_false bs ps ≡ breach r

-- a node's own premises tell no place but its own
abbrev Own : {A : Type 0} → ℕ → Res A → Type 0
Own p (ok a) = Unit {0}
Own p (bad q) = q ≡ p

own_bind : {A B : Type 0} (p : ℕ) (r : Res A) (f : A → Res B) → Own p r → ((a : A) → Own p (f a)) → Own p (r >>= f)
unfolding ◌>>=◌
own_bind p (ok a) f h k = k a
own_bind p (bad q) f h k = h

own_need : {A : Type 0} (b : Bool) (p : ℕ) (a : A) → Own p (need b p a)
unfolding need
own_need true p a = tt
own_need false p a = refl

own_found : {A : Type 0} (p : ℕ) (o : Option A) → Own p (found p o)
unfolding found
own_found p none = refl
own_found p (some a) = tt

own_class : (p : ℕ) (t : Ty) → Own p (class p t)
unfolding class
own_class p Void = refl
own_class p Boolean = refl
own_class p Integer = refl
own_class p NT = refl
own_class p (Class c) = tt

own_literal : (p : ℕ) (v : Value) → Own p (literal p v)
unfolding literal
own_literal p Value.Unit = tt
own_literal p Null = tt
own_literal p (Value.Bool b) = tt
own_literal p (Intg n) = tt
own_literal p (Addr a) = refl

says_nil : {A : Type 0} (a : A) → Says (ok a) [] []
unfolding first_false breach
says_nil a = record { even = refl; says = refl }

says_ok : {A B : Type 0} {a : A} {r : Res B} {bs cs : List Bool} {ps qs : List ℕ}
    → Says (ok a) bs ps
    → Says r cs qs
    → Says r (bs ++ cs) (ps ++ qs)
unfolding breach
says_ok {bs = bs} {cs = cs} {ps = ps} {qs = qs} s t =
    record {
      even = even_append bs cs ps qs s.even t.even;
      says = rw (first_append bs ps cs qs s.even, s.says) t.says;
    }

says_bad : {A B : Type 0} {q : ℕ} {bs : List Bool} {ps : List ℕ}
    → Says {A = A} (bad q) bs ps
    → (cs : List Bool) (qs : List ℕ)
    → length cs ≡ length qs
    → Says {A = B} (bad q) (bs ++ cs) (ps ++ qs)
unfolding breach
says_bad {bs = bs} {ps = ps} s cs qs e =
    record { even = even_append bs cs ps qs s.even e; says = rw (first_append bs ps cs qs s.even, s.says) }

breach_ok : {A : Type 0} (r : Res A) → breach r ≡ none → (a : A) × (r ≡ ok a)
unfolding breach
breach_ok (ok a) e = (a, refl)
breach_ok (bad p) e = absurd (none_some (sym e))

-- the two halves of what an answer says
says_exactly : {A : Type 0} {r : Res A} {bs : List Bool} {ps : List ℕ} → Says r bs ps → ((a : A) × (r ≡ ok a)) ↔ AllHold bs
unfolding breach
says_exactly {A} {r} {bs} {ps} s = (
  λ q. first_none bs ps s.even (rw q.1 at s.says),
  λ h. breach_ok r (sym s.says ∙ all_first bs ps h),
)

says_first : {A : Type 0} {r : Res A} {bs : List Bool} {ps : List ℕ} (p : ℕ) → Says r bs ps → r ≡ bad p → FirstBreach bs ps p
unfolding breach
says_first {bs = bs} {ps = ps} p s q = first_found bs ps p (rw q at s.says)

module _ (P : Program) where
  bounded_bad : (l : Option Ty) (p q : ℕ) → bounded P l p (bad q) ≡ bad q
  unfolding bounded ◌>>=◌
  bounded_bad none p q = refl
  bounded_bad (some u) p q = refl

  module _ (l : Option Ty) (p : ℕ) where
    -- a node without operands
    node₀ : (r : Res Ty) → Own p r → Says (bounded P l p r) (typed_within P l r ∷ []) (p ∷ [])
    unfolding first_false breach bounded typed_within ◌>>=◌ need
    node₀ r h = go l r h
      where
        test : (b : Bool) (t : Ty) → first_false (b ∷ []) (p ∷ []) ≡ breach (need b p t)
        test true t = refl
        test false t = refl

        go : (l : Option Ty) (r : Res Ty) → Own p r → Says (bounded P l p r) (typed_within P l r ∷ []) (p ∷ [])
        go none (ok t) h = record { even = refl; says = refl }
        go (some u) (ok t) h = record { even = refl; says = test (subtype P t u) t }
        go none (bad q) h = record { even = refl; says = ap some (sym h) }
        go (some u) (bad q) h = record { even = refl; says = ap some (sym h) }

    -- the last operand's answer is the node's
    same : (r : Res Ty) {bs : List Bool} {ps : List ℕ}
        → Says r bs ps
        → Says (bounded P l p r) (bs ++ (typed_within P l r ∷ [])) (ps ++ (p ∷ []))
    same (ok t) s = says_ok s (node₀ (ok t) tt)
    same (bad q) s = rw (bounded_bad l p q) (says_bad s _ _ refl)

    -- one operand, two, three, asked before the node's own premises
    node₁ : {A : Type 0} (r : Res A) (k : A → Res Ty) {bs : List Bool} {ps : List ℕ}
        → Says r bs ps
        → ((a : A) → Own p (k a))
        → Says (bounded P l p (r >>= k)) (bs ++ (typed_within P l (r >>= k) ∷ [])) (ps ++ (p ∷ []))
    unfolding ◌>>=◌
    node₁ (ok a) k s h = says_ok s (node₀ (k a) (h a))
    node₁ (bad q) k s h = rw (bounded_bad l p q) (says_bad s _ _ refl)

    node₂ : {A B : Type 0} (r : Res A) (s : Res B) (k : A → B → Res Ty) {bs cs : List Bool} {ps qs : List ℕ}
        → Says r bs ps
        → Says s cs qs
        → ((a : A) (b : B) → Own p (k a b))
        → Says (bounded P l p (r >>= λ a. s >>= λ b. k a b)) (bs ++ (cs ++ (typed_within P l (r >>= λ a. s >>= λ b. k a b) ∷ []))) (ps ++ (qs ++ (p ∷ [])))
    unfolding ◌>>=◌
    node₂ (ok a) s k i j h = says_ok i (node₁ s (k a) j (h a))
    node₂ (bad q) s k {cs = cs} {qs = qs} i j h =
        rw (bounded_bad l p q) (says_bad i _ _ (even_append cs (typed_within P l (bad q) ∷ []) qs (p ∷ []) j.even refl))

    node₃ : {A B C : Type 0} (r : Res A) (s : Res B) (t : Res C) (k : A → B → C → Res Ty) {bs cs ds : List Bool} {ps qs rs : List ℕ}
        → Says r bs ps
        → Says s cs qs
        → Says t ds rs
        → ((a : A) (b : B) (c : C) → Own p (k a b c))
        → Says (bounded P l p (r >>= λ a. s >>= λ b. t >>= λ c. k a b c))
        (bs ++ (cs ++ (ds ++ (typed_within P l (r >>= λ a. s >>= λ b. t >>= λ c. k a b c) ∷ []))))
        (ps ++ (qs ++ (rs ++ (p ∷ []))))
    unfolding ◌>>=◌
    node₃ (ok a) s t k u v w h = says_ok u (node₂ s t (k a) v w (h a))
    node₃ (bad q) s t k {cs = cs} {ds = ds} {qs = qs} {rs = rs} u v w h =
        rw (bounded_bad l p q)
        (says_bad u _ _
        (even_append cs _ qs _ v.even (even_append ds (typed_within P l (bad q) ∷ []) rs (p ∷ []) w.even refl)))

    -- the first operand's type is not asked for
    then : {A : Type 0} (r : Res A) (s : Res Ty) {bs cs : List Bool} {ps qs : List ℕ}
        → Says r bs ps
        → Says s cs qs
        → Says (bounded P l p (r >>= λ a. s)) (bs ++ (cs ++ (typed_within P l (r >>= λ a. s) ∷ []))) (ps ++ (qs ++ (p ∷ [])))
    unfolding ◌>>=◌
    then (ok a) s i j = says_ok i (same s j)
    then (bad q) s {cs = cs} {qs = qs} i j =
        rw (bounded_bad l p q) (says_bad i _ _ (even_append cs (typed_within P l (bad q) ∷ []) qs (p ∷ []) j.even refl))

  both : {A B C : Type 0} (r : Res A) (s : Res B) (k : A → B → C) {bs cs : List Bool} {ps qs : List ℕ}
      → Says r bs ps
      → Says s cs qs
      → Says (r >>= λ a. s >>= λ b. ok (k a b)) (bs ++ cs) (ps ++ qs)
  unfolding ◌>>=◌ breach
  both (ok a) (ok b) k i j = says_ok i (record { even = j.even; says = j.says })
  both (ok a) (bad q) k i j = says_ok i (record { even = j.even; says = j.says })
  both (bad q) s k i j = says_bad i _ _ j.even

  mutual
    unfolding typing unremembered bounded sites site_typed place Written postorder

    says : (e : Expr) → Written e → (Γ : Env) (l : Option Ty)
        → Says (bounded P l (place e) (typing P e Γ)) (map (site_typed P) (sites e Γ l)) (places e)
    says (new p c) w Γ l = node₀ l p (ok (Class c)) tt
    says (cast p c e) w Γ l =
        rw map_append
        (node₁ l p (typing P e Γ) _ (says e w Γ none) (λ t. own_bind p (class p t) _ (own_class p t) (λ d. own_need _ p (Class c))))
    says (val p v) w Γ l = node₀ l p (literal p v) (own_literal p v)
    says (var p x) w Γ l = node₀ l p (found p (Γ x)) (own_found p (Γ x))
    says (add p a b) w Γ l =
        rw (map_append, map_append)
        (node₂ l p (typing P a Γ) (typing P b Γ) _ (says a w.0 Γ none) (says b w.1 Γ none) (λ t u. own_need _ p Integer))
    says (eq p a b) w Γ l =
        rw (map_append, map_append)
        (node₂ l p (typing P a Γ) (typing P b Γ) _ (says a w.0 Γ none) (says b w.1 Γ none) (λ t u. own_need _ p Boolean))
    says (assign p x e) w Γ l =
        rw map_append
        (node₁ l p (typing P e Γ) _ (says e w Γ none) (λ t. own_bind p (found p (Γ x)) _ (own_found p (Γ x)) (λ u. own_need _ p t)))
    says (get p f d e) w Γ l =
        rw map_append
        (node₁ l p (typing P e Γ) _ (says e w Γ none)
        (λ t.
        own_bind p (class p t) _ (own_class p t)
        (λ c. own_bind p (found p (sees_field P c f)) _ (own_found p (sees_field P c f)) (λ r. own_need _ p r.type))))
    says (put p f d a b) w Γ l =
        rw (map_append, map_append)
        (node₂ l p (typing P a Γ) (typing P b Γ) _ (says a w.0 Γ none) (says b w.1 Γ none)
        (λ t u.
        own_bind p (class p t) _ (own_class p t)
        (λ c. own_bind p (found p (sees_field P c f)) _ (own_found p (sees_field P c f)) (λ r. own_need _ p u))))
    says (call p m e es) w Γ l =
        rw (map_append, map_append)
        (node₂ l p (typing P e Γ) (typings P es Γ) _ (says e w.0 Γ none) (says_all es w.1 Γ)
        (λ t ts.
        own_bind p (class p t) _ (own_class p t)
        (λ c. own_bind p (found p (sees_method P c m)) _ (own_found p (sees_method P c m)) (λ r. own_need _ p r.result))))
    says (block p x t none e) w Γ l =
        rw map_append (same l p (typing P e (upd Γ x (some t))) (says e w.1 (upd Γ x (some t)) none))
    says (block p x t (some v) e) w Γ l = absurd (none_some (sym w.0))
    says (seq p a b) w Γ l =
        rw (map_append, map_append) (then l p (typing P a Γ) (typing P b Γ) (says a w.0 Γ none) (says b w.1 Γ none))
    says (ite p c a b) w Γ l =
        rw (map_append, map_append, map_append)
        (node₃ l p (typing P c Γ) (typing P a Γ) (typing P b Γ) _
        (says c w.0 Γ none) (says a w.1 Γ none) (says b w.2 Γ none) (λ v t u. own_need _ p t))
    says (while p c e) w Γ l =
        rw (map_append, map_append)
        (node₂ l p (typing P c Γ) (typing P e Γ) _ (says c w.0 Γ none) (says e w.1 Γ none) (λ v t. own_need _ p Void))
    says (throw p t e) w Γ l =
        rw map_append (node₁ l p (typing P e Γ) _ (says e w Γ none) (λ u. own_bind p (class p u) _ (own_class p u) (λ c. tt)))
    says (try p c x a b) w Γ l =
        rw (map_append, map_append)
        (node₂ l p (typing P a Γ) (typing P b (upd Γ x (some (Class c)))) _
        (says a w.0 Γ none) (says b w.1 (upd Γ x (some (Class c))) none) (λ t u. own_need _ p t))

    says_all : (es : Exprs) → WrittenAll es → (Γ : Env) → Says (typings P es Γ) (map (site_typed P) (sites_all es Γ)) (places_all es)
    says_all nil w Γ = says_nil []
    says_all (cons e es) w Γ = rw map_append (both (typing P e Γ) (typings P es Γ) _ (says e w.0 Γ none) (says_all es w.1 Γ))

  -- the check finds a type exactly where every node has one
  pub typing_exactly : (e : Expr) → Written e → (Γ : Env) → ((t : Ty) × (typing P e Γ ≡ ok t)) ↔ AllHold (map (site_typed P) (sites e Γ none))
  unfolding bounded
  typing_exactly e w Γ = says_exactly (says e w Γ none)

  -- and else it tells the place of the first node that has none
  pub typing_first : (e : Expr) → Written e → (Γ : Env) (p : ℕ) → typing P e Γ ≡ bad p → FirstBreach (map (site_typed P) (sites e Γ none)) (places e) p
  unfolding bounded
  typing_first e w Γ p q = says_first p (says e w Γ none) q

  -- a body's last node has a type below the limit besides
  pub body_exactly : (e : Expr) → Written e → (Γ : Env) (l : Option Ty)
      → ((t : Ty) × (bounded P l (place e) (typing P e Γ) ≡ ok t)) ↔ AllHold (map (site_typed P) (sites e Γ l))
  body_exactly e w Γ l = says_exactly (says e w Γ l)

  pub body_first : (e : Expr) → Written e → (Γ : Env) (l : Option Ty) (p : ℕ)
      → bounded P l (place e) (typing P e Γ) ≡ bad p
      → FirstBreach (map (site_typed P) (sites e Γ l)) (places e) p
  body_first e w Γ l p q = says_first p (says e w Γ l) q

get_d_tabulate : {A : Type 0} (k : ℕ) (f : ℕ → A) (i : ℕ) (d : A) → i < k → get_or (tabulate k f) i d ≡ f i
unfolding tabulate
get_d_tabulate zero f i d h = absurd (omega arith)
get_d_tabulate (suc k) f zero d h = refl
get_d_tabulate (suc k) f (suc i) d h = get_d_tabulate k (λ j. f (suc j)) i d (omega arith)

le_or : (a b : ℕ) → (b < a → ⊥) → a ≤ b
le_or zero b h = omega arith
le_or (suc a) zero h = absurd (h (omega arith))
le_or (suc a) (suc b) h = let z = le_or a b (λ q. h (omega arith)) in omega arith

pub first_lowest : (n : ℕ) (bs : List Bool) (ps : List ℕ) (p : ℕ) → Consecutive n ps → FirstBreach bs ps p → Lowest n bs p
first_lowest n bs ps p c f =
    let z : p ≡ n + f.index = sym f.at ∙ ap (λ qs. get_or qs f.index 0) c ∙ get_d_tabulate (length ps) (λ i. n + i) f.index 0 f.within in
    record {
      index = f.index;
      at = z;
      fails = f.first.fails;
      lowest = λ j e. let h = le_or f.index j (λ q. never j e (f.first.lower j q)) in omega arith;
    }
  where
    never : (j : ℕ) → get_or bs j true ≡ false → get_or bs j true ≡ true → ⊥
    never j e h = let z : ◌≡◌ {A = ℕ} 0 1 = cc in omega arith

-- 12 and 13 are at the lowest node that breaks them
pub typing_lowest : (P : Program) (e : Expr) → Written e → (Γ : Env) (n p : ℕ)
    → Consecutive n (places e)
    → typing P e Γ ≡ bad p
    → Lowest n (map (site_typed P) (sites e Γ none)) p
typing_lowest P e w Γ n p c q = first_lowest n _ (places e) p c (typing_first P e w Γ p q)

pub body_lowest : (P : Program) (e : Expr) → Written e → (Γ : Env) (l : Option Ty) (n p : ℕ)
    → Consecutive n (places e)
    → bounded P l (place e) (typing P e Γ) ≡ bad p
    → Lowest n (map (site_typed P) (sites e Γ l)) p
body_lowest P e w Γ l n p c q = first_lowest n _ (places e) p c (body_first P e w Γ l p q)

pub setting_lowest : (e : Expr) (I : Vars) (n p : ℕ) → Consecutive n (places e) → setting e I ≡ bad p → Lowest n (reads e I) p
setting_lowest e I n p c q = first_lowest n _ (places e) p c (setting_first e I p q)
