-- Laws of the two tables of members: their keys rise, a record that has the key is the one that the class declares, and where
-- none has it the class sees what its superclass sees.
use Rattle.std.specs.Prelude.{◌≡◌, refl, Bool, true, false, cond, ◌&&◌, ◌||◌, List, [], ◌∷◌, ltb, eqb}
use Rattle.std.proofs.Common.{sym, ◌∙◌, ap, arith, ltb-true, eqb-true, eq-eqb}
use Rattle.std.proofs.Math.Option.{none, some}
use Rattle.std.specs.declared.option.Option.{Option}
use Rattle.std.specs.declared.option.Option.TheVariants.{Some, None}
use Prim.Native.Nat.{ℕ, zero, suc, ◌+◌, ◌*◌, ◌≤◌, ◌<◌}
use Rattle.image.specs.Numbers.{highest_name}
use Rattle.image.specs.Trailer.{class_count, field_count, method_count}
use Rattle.image.specs.Records.{superclass, field_word, method_word, rises}
use Rattle.image.specs.Laws.{and_left, and_right}
use Rattle.image.specs.Layout.{Good}
use Rattle.image.specs.declared.Layout.{Layout}
use Rattle.rules.specs.Maps.{tabulate}
use Rattle.rules.specs.Program.{Field, Method, Program, field_at, method_at, program}
use Rattle.rules.specs.Classes.{declared_in, sees_field, method_in, sees_method}
use Rattle.laws.specs.Classes.{sees_field_zero, sees_field_suc, sees_method_zero, sees_method_suc}
use Rattle.classes.specs.declared.Members.{Members}
use Rattle.classes.specs.declared.Members.TheVariants.{Fields, Methods}
use Rattle.classes.specs.declared.Member.{Member}
use Rattle.classes.specs.Sees.{Sees}
use Rattle.classes.specs.Keys.{names, count_of, size_of, key_of, Finds}
use Rattle.classes.specs.Records.{field_open, method_open, field_rises_lem, method_rises_lem}
use Rattle.classes.specs.Types.{low, super_is}
use Rattle.classes.specs.Search.{Rising, rising, first_of, first_at, first_none}

-- pairs that rise have keys that rise
rises_key : (c n d m : ℕ) → n ≤ highest_name → rises c n d m ≡ true → c * names + n < d * names + m
unfolding rises
rises_key c n d m h e = go (ltb c d) refl e
  where
    go : (t : Bool) → ltb c d ≡ t → (t || (eqb c d && ltb n m)) ≡ true → c * names + n < d * names + m
    go true q e = omega (arith, ltb-true c d q)
    go false q e = omega (arith, eqb-true c d (and_left (eqb c d) (ltb n m) e), ltb-true n m (and_right (eqb c d) (ltb n m) e))

-- a record has the key exactly where it has the class and the name
same_key : (a b c n : ℕ) → b ≤ highest_name → n ≤ highest_name → a * names + b ≡ c * names + n → (eqb a c && eqb b n) ≡ true
same_key a b c n h k e =
    let p : a ≡ c = omega arith in
    let q : b ≡ n = omega arith in
    rw (eq-eqb a c p) (eq-eqb b n q)

other_key : (a b c n : ℕ) → (a * names + b ≡ c * names + n → ⊥) → (eqb a c && eqb b n) ≡ false
other_key a b c n h = go (eqb a c) refl (eqb b n) refl
  where
    go : (s : Bool) → eqb a c ≡ s → (t : Bool) → eqb b n ≡ t → (s && t) ≡ false
    go false p t q = refl
    go true p false q = refl
    go true p true q = absurd (h (omega (arith, eqb-true a c p, eqb-true b n q)))

-- Of n records that are sorted by class and name, the first with a given class and name.
module _ {A : Type 0} (owner name : A → ℕ) (n : ℕ) (f : ℕ → A)
    (short : (i : ℕ) → i < n → name (f i) ≤ highest_name) (r : Rising (λ i. owner (f i) * names + name (f i)) n) (c m : ℕ)
  where
    found : m ≤ highest_name → (i : ℕ) → i < n → owner (f i) * names + name (f i) ≡ c * names + m
        → first_of (λ a. eqb (owner a) c && eqb (name a) m) (tabulate n f) ≡ some (f i)
    found h i k e =
        first_at (λ a. eqb (owner a) c && eqb (name a) m) n f i k
        (same_key (owner (f i)) (name (f i)) c m (short i k) h e)
        (λ j p.
        other_key (owner (f j)) (name (f j)) c m
        (λ q. let s = rising (λ i. owner (f i) * names + name (f i)) n r j i p k in omega arith))

    not_found : ((i : ℕ) → i < n → owner (f i) * names + name (f i) ≡ c * names + m → ⊥)
        → first_of (λ a. eqb (owner a) c && eqb (name a) m) (tabulate n f) ≡ none
    not_found h =
        first_none (λ a. eqb (owner a) c && eqb (name a) m) n f
        (λ j p. other_key (owner (f j)) (name (f j)) c m (h j p))

declared_first : (P : Program) (l : List Field) (c f : ℕ) → declared_in P l c f ≡ first_of (λ r. eqb r.owner c && eqb r.name f) l
unfolding declared_in first_of
declared_first P [] c f = refl
declared_first P (r ∷ l) c f = ap (cond (eqb r.owner c && eqb r.name f) (some r)) (declared_first P l c f)

method_first : (P : Program) (l : List Method) (c f : ℕ) → method_in P l c f ≡ first_of (λ r. eqb r.owner c && eqb r.name f) l
unfolding method_in first_of
method_first P [] c f = refl
method_first P (r ∷ l) c f = ap (cond (eqb r.owner c && eqb r.name f) (some r)) (method_first P l c f)

-- no record has the key of a class and a name
abbrev pub Absent : List ℕ → Members → (c name : ℕ) → Type 0
Absent ws m c name = Finds (key_of ws m) (count_of ws m) (c * names + name) None

-- what two classes see is the same
abbrev pub Same : List ℕ → Members → (d c name : ℕ) → Type 0
Same ws Fields d c name = sees_field (program ws) d name ≡ sees_field (program ws) c name
Same ws Methods d c name = sees_method (program ws) d name ≡ sees_method (program ws) c name

pub same_refl : (ws : List ℕ) (m : Members) (c name : ℕ) → Same ws m c c name
same_refl ws Fields c name = refl
same_refl ws Methods c name = refl

pub same_trans : (ws : List ℕ) (m : Members) (b d c name : ℕ) → Same ws m b d name → Same ws m d c name → Same ws m b c name
same_trans ws Fields b d c name p q = p ∙ q
same_trans ws Methods b d c name p q = p ∙ q

pub carry : (ws : List ℕ) (m : Members) (d c name : ℕ) (r : Option Member) → Same ws m d c name → Sees ws m d name r → Sees ws m c name r
carry ws Fields d c name (Some r) e s =
    record { sees = sym e ∙ s.sees; within = s.within; owner = s.owner; class = s.class }
carry ws Fields d c name None e s = sym e ∙ s
carry ws Methods d c name (Some r) e s =
    record { sees = sym e ∙ s.sees; within = s.within; owner = s.owner; class = s.class }
carry ws Methods d c name None e s = sym e ∙ s

module _ (ws : List ℕ) (l : Layout) (g : Good ws l) where
  pub size_of_lem : (m : Members) → size_of l m ≡ count_of ws m
  unfolding size_of count_of
  size_of_lem Fields = g.lay.field_count_lem
  size_of_lem Methods = g.lay.method_count_lem

  pub size_small : (m : Members) → size_of l m ≤ 1024
  unfolding size_of
  size_small Fields = g.small.fields
  size_small Methods = g.small.methods

  fields_rise : Rising (λ i. field_word ws i 0 * names + field_word ws i 1) (field_count ws)
  fields_rise i h =
      rises_key (field_word ws i 0) (field_word ws i 1) (field_word ws (suc i) 0) (field_word ws (suc i) 1)
      (field_open ws i (g.fields i (omega arith))).name
      (field_rises_lem ws i (g.fields (suc i) h))

  methods_rise : Rising (λ i. method_word ws i 0 * names + method_word ws i 1) (method_count ws)
  methods_rise i h =
      rises_key (method_word ws i 0) (method_word ws i 1) (method_word ws (suc i) 0) (method_word ws (suc i) 1)
      (method_open ws i (g.methods i (omega arith))).name
      (method_rises_lem ws i (g.methods (suc i) h))

  pub keys_rise : (m : Members) (n : ℕ) → n ≡ size_of l m → Rising (key_of ws m) n
  unfolding key_of size_of
  keys_rise Fields n e = rw (e, g.lay.field_count_lem) fields_rise
  keys_rise Methods n e = rw (e, g.lay.method_count_lem) methods_rise

  -- the field and the method that a class declares, by key
  field_own : (c name i : ℕ) → name ≤ highest_name → i < field_count ws
      → field_word ws i 0 * names + field_word ws i 1 ≡ c * names + name
      → declared_in (program ws) (program ws).fields c name ≡ some (field_at ws i)
  unfolding program field_at
  field_own c name i h k e =
      declared_first (program ws) (program ws).fields c name
      ∙ found (λ (r : Field). r.owner) (λ (r : Field). r.name) (field_count ws) (field_at ws)
      (λ j p. (field_open ws j (g.fields j p)).name) fields_rise c name h i k e

  method_own : (c name i : ℕ) → name ≤ highest_name → i < method_count ws
      → method_word ws i 0 * names + method_word ws i 1 ≡ c * names + name
      → method_in (program ws) (program ws).methods c name ≡ some (method_at ws i)
  unfolding program method_at
  method_own c name i h k e =
      method_first (program ws) (program ws).methods c name
      ∙ found (λ (r : Method). r.owner) (λ (r : Method). r.name) (method_count ws) (method_at ws)
      (λ j p. (method_open ws j (g.methods j p)).name) methods_rise c name h i k e

  field_not : (c name : ℕ) → ((i : ℕ) → i < field_count ws → field_word ws i 0 * names + field_word ws i 1 ≡ c * names + name → ⊥)
      → declared_in (program ws) (program ws).fields c name ≡ none
  unfolding program field_at
  field_not c name h =
      declared_first (program ws) (program ws).fields c name
      ∙ not_found (λ (r : Field). r.owner) (λ (r : Field). r.name) (field_count ws) (field_at ws)
      (λ j p. (field_open ws j (g.fields j p)).name) fields_rise c name h

  method_not : (c name : ℕ) → ((i : ℕ) → i < method_count ws → method_word ws i 0 * names + method_word ws i 1 ≡ c * names + name → ⊥)
      → method_in (program ws) (program ws).methods c name ≡ none
  unfolding program method_at
  method_not c name h =
      method_first (program ws) (program ws).methods c name
      ∙ not_found (λ (r : Method). r.owner) (λ (r : Method). r.name) (method_count ws) (method_at ws)
      (λ j p. (method_open ws j (g.methods j p)).name) methods_rise c name h

  -- a class sees what it declares
  sees_field_lem : (c name : ℕ) (r : Field) → declared_in (program ws) (program ws).fields c name ≡ some r → sees_field (program ws) c name ≡ some r
  sees_field_lem zero name r e = rw (sees_field_zero (program ws) name, e)
  sees_field_lem (suc c) name r e = rw (sees_field_suc (program ws) (low ws l g) c name, e)

  sees_method_lem : (c name : ℕ) (r : Method) → method_in (program ws) (program ws).methods c name ≡ some r → sees_method (program ws) c name ≡ some r
  sees_method_lem zero name r e = rw (sees_method_zero (program ws) name, e)
  sees_method_lem (suc c) name r e = rw (sees_method_suc (program ws) (low ws l g) c name, e)

  -- The three ways to leave a class: its own record,
  pub here : (m : Members) (c name i : ℕ) → c < class_count ws → name ≤ highest_name → i < count_of ws m
      → key_of ws m i ≡ c * names + name → Sees ws m c name (Some (record { owner = c; «record» = i }))
  unfolding key_of count_of
  here Fields c name i h k w e =
      let s = (field_open ws i (g.fields i w)).name in
      record { sees = sees_field_lem c name (field_at ws i) (field_own c name i k w e); within = w; owner = omega arith; class = h }
  here Methods c name i h k w e =
      let s = (method_open ws i (g.methods i w)).name in
      record { sees = sees_method_lem c name (method_at ws i) (method_own c name i k w e); within = w; owner = omega arith; class = h }

  -- no record of its own in the highest class,
  pub nowhere : (m : Members) (c name : ℕ) → c ≡ 0 → Absent ws m c name → Sees ws m c name None
  unfolding key_of count_of
  nowhere Fields zero name z h = rw (sees_field_zero (program ws) name, field_not 0 name h)
  nowhere Methods zero name z h = rw (sees_method_zero (program ws) name, method_not 0 name h)
  nowhere m (suc c) name z h = absurd (omega arith)

  -- and none in a lower one, where the superclass tells.
  pub upwards : (m : Members) (c name : ℕ) → c < class_count ws → (c ≡ 0 → ⊥) → Absent ws m c name → Same ws m (superclass ws c) c name
  unfolding key_of count_of
  upwards m zero name k z h = absurd (z refl)
  upwards Fields (suc c) name k z h =
      rw (← super_is ws (suc c) k, sees_field_suc (program ws) (low ws l g) c name, field_not (suc c) name h)
  upwards Methods (suc c) name k z h =
      rw (← super_is ws (suc c) k, sees_method_suc (program ws) (low ws l g) c name, method_not (suc c) name h)
