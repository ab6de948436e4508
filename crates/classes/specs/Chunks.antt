-- Laws of the records that a slice is cut into, n words each, and of their keys.
use Rattle.std.specs.Prelude.{◌≡◌, refl, List, [], ℕ, zero, suc, ◌+◌, ◌-◌, ◌*◌, ◌/◌, ◌≤◌, ◌<◌, length, get_or, take, drop}
use Rattle.std.proofs.Common.{sym, ◌∙◌, ap, arith, drop-drop, length-take, length-drop}
use Rattle.std.proofs.lemmas.List.{get_or-take, get_or-drop}
use Rattle.std.specs.declared.option.Option.{Option}
use Rattle.std.specs.declared.option.Option.TheVariants.{Some, None}
use Rattle.std.specs.Simd.{first_chunks}
use Rattle.image.specs.Trailer.{trailer, field_count, method_count}
use Rattle.image.specs.Records.{field_word, method_word}
use Rattle.image.specs.Layout.{Good}
use Rattle.image.specs.declared.Layout.{Layout}
use Rattle.classes.specs.declared.Members.TheVariants.{Fields, Methods}
use Rattle.classes.specs.Keys.{names, key_of, Finds}
use Rattle.classes.specs.Search.{Rising}

-- the key of record i, whose first two words are its class and its name
abbrev pub record_key : (n : ℕ) → List ℕ → ℕ → ℕ
record_key n ws i = get_or ws (i * n) 0 * names + get_or ws (i * n + 1) 0

-- and of a record by itself
abbrev pub chunk_key : List ℕ → ℕ
chunk_key r = get_or r 0 0 * names + get_or r 1 0

-- record i of those that a slice is cut into
chunk_at : (n k i : ℕ) (ws : List ℕ) (d : List ℕ) → i < k → get_or (first_chunks n k ws) i d ≡ take n (drop (i * n) ws)
chunk_at n zero i ws d h = absurd (omega arith)
chunk_at n (suc k) zero ws d h = let e : 0 * n ≡ 0 = omega arith in rw e
chunk_at n (suc k) (suc i) ws d h =
    let e : n + i * n ≡ suc i * n = omega arith in
    chunk_at n k i (drop n ws) d (omega arith)
    ∙ ap (take n) (drop-drop (i * n) n ws ∙ ap (λ (j : ℕ). drop j ws) e)

chunk_word : (n k i j : ℕ) (ws : List ℕ) (d : List ℕ) → i < k → j < n → get_or (get_or (first_chunks n k ws) i d) j 0 ≡ get_or ws (i * n + j) 0
chunk_word n k i j ws d h l =
    ap (λ (r : List ℕ). get_or r j 0) (chunk_at n k i ws d h)
    ∙ get_or-take n (drop (i * n) ws) j 0 l
    ∙ get_or-drop (i * n) ws j 0

-- The records of n words that a slice is cut into, whose keys the caller knows: these keys rise, and what a search finds is theirs.
module _ (n k : ℕ) (ws : List ℕ) (keys : ℕ → ℕ) (xs : List (List ℕ)) (w : 1 < n) (p : xs ≡ first_chunks n k ws) (l : length xs ≡ k)
    (e : (i : ℕ) → i < k → record_key n ws i ≡ keys i)
  where
    same : (i : ℕ) → i < k → chunk_key (get_or xs i []) ≡ keys i
    same i a =
        let z : i * n + 0 ≡ i * n = omega arith in
        rw (p, chunk_word n k i 0 ws [] a (omega arith), chunk_word n k i 1 ws [] a w, z) (e i a)

    pub rise_in : Rising keys k → Rising (λ i. chunk_key (get_or xs i [])) (length xs)
    rise_in r i a = rw (same i (omega (arith, l)), same (suc i) (rw l at a)) (r i (rw l at a))

    pub found_in : (t : ℕ) (o : Option ℕ) → Finds (λ i. chunk_key (get_or xs i [])) (length xs) t o → Finds keys k t o
    found_in t (Some i) f = (rw l at f.0, sym (same i (rw l at f.0)) ∙ f.1)
    found_in t None f = λ j a q. f j (rw l a) (same j a ∙ q)

-- words of a part of a slice
part_word : (ws : List ℕ) (a b j : ℕ) → j < b - a → get_or (take (b - a) (drop a ws)) j 0 ≡ get_or ws (a + j) 0
part_word ws a b j h = get_or-take (b - a) (drop a ws) j 0 h ∙ get_or-drop a ws j 0

-- the two tables of members, as records
module _ (ws : List ℕ) (l : Layout) (g : Good ws l) where
  abbrev pub fields_in : List ℕ
  fields_in = take (l.methods - l.fields) (drop l.fields ws)

  abbrev pub methods_in : List ℕ
  methods_in = take (l.types - l.methods) (drop l.methods ws)

  pub fields_cut : length fields_in / 3 ≡ field_count ws
  fields_cut = omega (arith, length-take (l.methods - l.fields) (drop l.fields ws), length-drop l.fields ws, g.lay.methods, g.lay.types, g.lay.nodes, g.lay.whole, g.lay.field_count_lem)

  pub methods_cut : length methods_in / 6 ≡ method_count ws
  methods_cut = omega (arith, length-take (l.types - l.methods) (drop l.methods ws), length-drop l.methods ws, g.lay.types, g.lay.nodes, g.lay.whole, g.lay.method_count_lem)

  pub fields_key : (i : ℕ) → i < field_count ws → record_key 3 fields_in i ≡ key_of ws Fields i
  unfolding key_of field_word
  fields_key i h =
      let p : l.fields + i * 3 ≡ length ws - trailer ws 1 + 3 * i + 0 = omega (arith, g.lay.fields_at) in
      let q : l.fields + (i * 3 + 1) ≡ length ws - trailer ws 1 + 3 * i + 1 = omega (arith, g.lay.fields_at) in
      rw (part_word ws l.fields l.methods (i * 3) (omega (arith, g.lay.methods, g.lay.field_count_lem)), part_word ws l.fields l.methods (i * 3 + 1) (omega (arith, g.lay.methods, g.lay.field_count_lem)), p, q)

  pub methods_key : (i : ℕ) → i < method_count ws → record_key 6 methods_in i ≡ key_of ws Methods i
  unfolding key_of method_word
  methods_key i h =
      let p : l.methods + i * 6 ≡ length ws - trailer ws 2 + 6 * i + 0 = omega (arith, g.lay.methods_at) in
      let q : l.methods + (i * 6 + 1) ≡ length ws - trailer ws 2 + 6 * i + 1 = omega (arith, g.lay.methods_at) in
      rw (part_word ws l.methods l.types (i * 6) (omega (arith, g.lay.types, g.lay.method_count_lem)), part_word ws l.methods l.types (i * 6 + 1) (omega (arith, g.lay.types, g.lay.method_count_lem)), p, q)
