-- Laws of the table of fields: a class's row is its superclass's row, and then the records that the class declares.
use Rattle.std.specs.Prelude.{◌≡◌, Bool, ◌&&◌, ◌||◌, eqb, ltb, get_or, set}
use Rattle.std.proofs.Math.Path.{refl, ap}
use Rattle.std.proofs.Common.{sym, ◌∙◌, ⊎_elim, arith, length-set, get_or-set_same, get_or-set_other}
use Rattle.std.proofs.Math.Bool.{true, false, cond}
use mathlib.Core.List.{List, [], ◌∷◌, ◌++◌, append-nil, append_assoc}
use Prim.Native.Nat.{ℕ, zero, suc, ◌+◌, ◌*◌, ◌-◌, ◌≤◌, ◌<◌}
use Rattle.std.proofs.Math.ListN.{length, length-append}
use borrow.Author.Tests.{eq-eqb, ne_eqb, le-leb, leb-true, ltb-true, eqb-true}
use Rattle.order.specs.Rules.{first_place}
use Rattle.order.specs.Lowest.{held, found}
use Rattle.std.specs.declared.option.Option.{Option}
use Rattle.std.specs.declared.option.Option.TheVariants.{Some, None}
use Rattle.words.specs.Types.{type_of}
use Rattle.image.specs.Numbers.{most_classes}
use Rattle.image.specs.Trailer.{class_count, field_count}
use Rattle.image.specs.Records.{superclass, field_word, rises}
use Rattle.image.specs.Layout.{Good}
use Rattle.image.specs.declared.Layout.{Layout}
use Rattle.rules.specs.Maps.{tabulate}
use Rattle.rules.specs.Program.{Field, Program, field_at, program}
use Rattle.rules.specs.Classes.{own, has_fields}
use Rattle.rules.specs.Numbers.{most_fields_above, fields_rule, field_type}
use Rattle.laws.specs.Maps.{tabulate_append, tabulate_last}
use Rattle.laws.specs.Classes.{has_fields_zero, has_fields_on}
use Rattle.classes.specs.Records.{field_open, field_rises_lem}
use Rattle.classes.specs.Types.{low, super_is, super_below}
use Rattle.classes.specs.Search.{lt_or_ge}
use Rattle.rows.specs.Rows.{row_words, Sizes, Row, Rows, Upto, NoneBelow, Owned, Copied, OwnFields, so_far, Part}

-- The fields that a class declares, by parts of the table.
module _ (P : Program) (c : ℕ) where
  pub own_append : (a b : List Field) → own P (a ++ b) c ≡ own P a c ++ own P b c
  unfolding own
  own_append [] b = refl
  own_append (r ∷ a) b = go (eqb r.owner c) (own_append a b)
    where
      go : (t : Bool) → own P (a ++ b) c ≡ own P a c ++ own P b c
          → cond t (r ∷ own P (a ++ b) c) (own P (a ++ b) c) ≡ cond t (r ∷ own P a c) (own P a c) ++ own P b c
      go true e = ap (r ∷◌) e
      go false e = e

  pub own_none : (n : ℕ) (f : ℕ → Field) → ((k : ℕ) → k < n → (f k).owner ≡ c → ⊥) → own P (tabulate n f) c ≡ []
  unfolding own tabulate
  own_none zero f h = refl
  own_none (suc n) f h = rw (ne_eqb (f 0).owner c (h 0 (omega arith))) (own_none n (λ i. f (suc i)) (λ k l. h (suc k) (omega arith)))

module _ (ws : List ℕ) (c : ℕ) where
  -- one record more
  pub own_hit : (j : ℕ) → field_word ws j 0 ≡ c
      → own (program ws) (tabulate (suc j) (field_at ws)) c ≡ own (program ws) (tabulate j (field_at ws)) c ++ (field_at ws j ∷ [])
  unfolding own field_at
  own_hit j h =
      rw (tabulate_last j (field_at ws), own_append (program ws) c (tabulate j (field_at ws)) (field_at ws j ∷ []))
      (ap (own (program ws) (tabulate j (field_at ws)) c ++◌) (rw (eq-eqb (field_word ws j 0) c h)))

  pub own_before : (j : ℕ) → ((k : ℕ) → k < j → field_word ws k 0 < c) → own (program ws) (tabulate j (field_at ws)) c ≡ []
  unfolding field_at
  own_before j h = own_none (program ws) c j (field_at ws) (λ k l e. omega (arith, h k l))

  own_split : (j n : ℕ) → j ≤ n
      → own (program ws) (tabulate n (field_at ws)) c ≡ own (program ws) (tabulate j (field_at ws)) c ++ own (program ws) (tabulate (n - j) (λ i. field_at ws (j + i))) c
  own_split j n h =
      let e : j + (n - j) ≡ n = omega arith in
      ap (λ (m : ℕ). own (program ws) (tabulate m (field_at ws)) c) (sym e)
      ∙ rw (← tabulate_append j (n - j) (field_at ws)) (own_append (program ws) c _ _)

  pub own_all : (j n : ℕ) → j ≤ n → ((k : ℕ) → j ≤ k → k < n → c < field_word ws k 0)
      → own (program ws) (tabulate n (field_at ws)) c ≡ own (program ws) (tabulate j (field_at ws)) c
  unfolding field_at
  own_all j n h a =
      own_split j n h
      ∙ rw (own_none (program ws) c (n - j) (λ i. field_at ws (j + i)) (λ k l e. omega (arith, a (j + k) (omega arith) (omega arith)))) (append-nil _)

  pub own_le : (j n : ℕ) → j ≤ n
      → length (own (program ws) (tabulate j (field_at ws)) c) ≤ length (own (program ws) (tabulate n (field_at ws)) c)
  own_le j n h = omega (arith, simp length-append at (ap length (own_split j n h)))

-- types by index
type_left : (fs gs : List Field) (k : ℕ) → k < length fs → field_type (fs ++ gs) k ≡ field_type fs k
type_left [] gs k h = absurd (omega arith)
type_left (f ∷ fs) gs zero h = refl
type_left (f ∷ fs) gs (suc k) h = type_left fs gs k (omega arith)

type_last : (fs : List Field) (r : Field) → field_type (fs ++ (r ∷ [])) (length fs) ≡ r.type
type_last [] r = refl
type_last (f ∷ fs) r = type_last fs r

-- a row with one more type
pub row_push : {types : List ℕ} {c : ℕ} {fs : List Field} → Row types c fs → (r : Field) (t m : ℕ) → m ≡ length fs
    → row_words * c + m < length types → type_of t ≡ r.type → Row (set types (row_words * c + m) t) c (fs ++ (r ∷ []))
row_push {types} {c} {fs} w r t m e h q =
    record {
      each =
          λ k l.
          ⊎_elim
          (λ (z : k < m).
          rw (get_or-set_other types (row_words * c + m) (row_words * c + k) t 0 (λ y. omega arith))
          (w.each k (omega arith) ∙ sym (type_left fs (r ∷ []) k (omega arith))))
          (λ (z : m ≤ k).
          let long : length (fs ++ (r ∷ [])) ≡ length fs + 1 = simp length-append in
          let y : k ≡ m = omega arith in
          rw (y, get_or-set_same types (row_words * c + m) t 0 h, e) (q ∙ sym (type_last fs r)))
          (lt_or_ge k m);
    }

-- a lower row is not touched
pub row_kept : {types : List ℕ} {d : ℕ} {fs : List Field} → Row types d fs → length fs ≤ most_fields_above → (c m t : ℕ) → d < c
    → Row (set types (row_words * c + m) t) d fs
row_kept {types} {d} {fs} w h c m t l =
    record {
      each =
          λ k p.
          rw (get_or-set_other types (row_words * c + m) (row_words * d + k) t 0 (λ y. omega arith)) (w.each k p);
    }

module _ (ws : List ℕ) (l : Layout) (g : Good ws l) where
  -- 10 keeps rows short
  pub few : first_place (fields_rule ws) ≡ None → (c : ℕ) → c < class_count ws → length (has_fields (program ws) c) ≤ most_fields_above
  unfolding fields_rule
  few e c h = leb-true _ _ (held (fields_rule ws) e c h)

  -- a class's fields: its superclass's, and its own among the records up to the last of them
  pub row_whole : (c e : ℕ) → 0 < c → c < class_count ws → e ≤ field_count ws → ((j : ℕ) → e ≤ j → j < field_count ws → c < field_word ws j 0)
      → has_fields (program ws) c ≡ so_far ws c e
  unfolding program
  row_whole c e p h w a =
      has_fields_on (program ws) (low ws l g) c p
      ∙ rw (super_is ws c h) (ap (has_fields (program ws) (superclass ws c) ++◌) (own_all ws c e (field_count ws) w a))

  pub part_few : (c j : ℕ) → 0 < c → c < class_count ws → j ≤ field_count ws → length (so_far ws c j) ≤ length (has_fields (program ws) c)
  unfolding program
  part_few c j p h w =
      let e = ap length (has_fields_on (program ws) (low ws l g) c p) in
      rw e (rw (super_is ws c h) (simp length-append (omega (arith, own_le ws c j (field_count ws) w))))

pub owned_on : (ws : List ℕ) (c i j : ℕ) → Owned ws c i j → field_word ws j 0 ≡ c → Owned ws c i (j + 1)
owned_on ws c i j o e k p q =
    ⊎_elim (λ (z : k < j). o k p z) (λ (z : j ≤ k). let y : k ≡ j = omega arith in rw y e) (lt_or_ge k j)

rises_le : (c n d m : ℕ) → rises c n d m ≡ true → c ≤ d
unfolding rises
rises_le c n d m h = go (ltb c d) refl (eqb c d) refl h
  where
    go : (t : Bool) → ltb c d ≡ t → (u : Bool) → eqb c d ≡ u → (t || (u && ltb n m)) ≡ true → c ≤ d
    go true e u f q = omega (arith, ltb-true c d e)
    go false e true f q = omega (arith, eqb-true c d f)
    go false e false f q = absurd (let z : ◌≡◌ {A = ℕ} 0 1 = cc in omega arith)

module _ (ws : List ℕ) (l : Layout) (g : Good ws l) where
  -- fields are sorted by class
  pub class_rises : (j d : ℕ) → j + d < field_count ws → field_word ws j 0 ≤ field_word ws (j + d) 0
  class_rises j zero h = let e : j + 0 ≡ j = omega arith in rw e (omega arith)
  class_rises j (suc d) h =
      let e : j + suc d ≡ suc (j + d) = omega arith in
      let k : suc (j + d) < field_count ws = omega arith in
      let r = rises_le _ _ _ _ (field_rises_lem ws (j + d) (g.fields (suc (j + d)) k)) in
      rw e (omega (arith, class_rises j d (omega arith), r))

  -- the end of a class's records: another class stands there, or nothing
  pub own_ends : {c i j : ℕ} → NoneBelow ws c i → i ≤ j → j < field_count ws → (field_word ws j 0 ≡ c → ⊥)
      → Owned ws c i j → OwnFields ws c i j
  own_ends {c} {i} {j} low p h n o =
      record {
        low = p;
        high = omega arith;
        owned = o;
        rest =
            λ k q r.
            let d = class_rises j (k - j) (omega arith) in
            let e : j + (k - j) ≡ k = omega arith in
            let b = low j p h in
            let s = rw e at d in
            omega arith;
      }

  pub own_at_end : {c i j : ℕ} → i ≤ j → j ≤ field_count ws → field_count ws ≤ j
      → Owned ws c i j → OwnFields ws c i j
  own_at_end p h n o = record { low = p; high = h; owned = o; rest = λ k q r. absurd (omega arith) }

  part_is : (c j : ℕ) → field_word ws j 0 ≡ c → so_far ws c (suc j) ≡ so_far ws c j ++ (field_at ws j ∷ [])
  part_is c j e = rw (own_hit ws c j e) (sym (append_assoc (has_fields (program ws) (superclass ws c)) (own (program ws) (tabulate j (field_at ws)) c) (field_at ws j ∷ [])))

  part_more : (c j : ℕ) → field_word ws j 0 ≡ c → length (so_far ws c (suc j)) ≡ length (so_far ws c j) + 1
  part_more c j e = ap length (part_is c j e) ∙ length-append (so_far ws c j) (field_at ws j ∷ [])

  field_type_lem : (j t : ℕ) → t ≡ field_word ws j 2 → type_of t ≡ (field_at ws j).type
  unfolding field_at
  field_type_lem j t e = ap type_of e

  -- A row that is begun, goes on, and ends.
  module _ (short : first_place (fields_rule ws) ≡ None) where
    pub part_start : {counts old new : List ℕ} {c i s m : ℕ} → Upto ws counts old c i → 0 < c → c < class_count ws
        → s ≡ superclass ws c → m ≡ get_or counts s 0 → Copied old new s c m → Part ws new c i m
    part_start {counts} {old} {new} {c} {i} {s} {m} u p h e n w =
        let b : s < c = rw e (super_below ws l g c h p) in
        let none = own_before ws c i u.before in
        let all : so_far ws c i ≡ has_fields (program ws) s = rw (none, e) (append-nil _) in
        let k : m ≡ length (has_fields (program ws) s) = n ∙ u.count s b in
        record {
          size = rw w.size u.type_size;
          row =
              λ d q.
              record {
                each =
                    λ k r.
                    let f = few ws l g short d (omega arith) in
                    rw (w.kept (row_words * d + k) (omega arith)) ((u.row d q).each k r);
              };
          count = rw all k;
          mine = rw all (record { each = λ j r. rw (w.same j (omega arith)) ((u.row s b).each j r) });
        }

    -- the superclass's row is a lower one, and short
    pub above_short : {counts types : List ℕ} {c i s : ℕ} → Upto ws counts types c i → 0 < c → c < class_count ws → s ≡ superclass ws c
        → (s < c) × (c < most_classes) × (get_or counts s 0 ≤ most_fields_above)
    above_short {counts} {types} {c} {i} {s} u p h e =
        let b : s < c = rw e (super_below ws l g c h p) in
        (b, omega (arith, g.small.classes, g.lay.class_count_lem), rw (u.count s b) (few ws l g short s (omega arith)))

    -- there is room for one field more
    pub part_room : {types : List ℕ} {c j m : ℕ} → Part ws types c j m → 0 < c → c < class_count ws → j < field_count ws
        → field_word ws j 0 ≡ c → m < most_fields_above
    part_room {types} {c} {j} {m} w p h k e =
        let f = part_few ws l g c (suc j) p h (omega arith) in
        let s = few ws l g short c h in
        let a = part_more c j e in
        omega (arith, w.count)

    -- and it stands in the table
    pub part_fits : {types : List ℕ} {c j m : ℕ} → Part ws types c j m → 0 < c → c < class_count ws → j < field_count ws
        → field_word ws j 0 ≡ c → (m < most_fields_above) × (c < most_classes) × (row_words * c + m < length types)
    part_fits w p h k e =
        let r = part_room w p h k e in
        (r, omega (arith, g.small.classes, g.lay.class_count_lem), omega (arith, w.size))

    pub part_on : {types : List ℕ} {c j m : ℕ} → Part ws types c j m → 0 < c → c < class_count ws → j < field_count ws
        → field_word ws j 0 ≡ c → (t : ℕ) → t ≡ field_word ws j 2 → Part ws (set types (row_words * c + m) t) c (j + 1) (m + 1)
    part_on {types} {c} {j} {m} w p h k e t q =
        let r = part_room w p h k e in
        let z : j + 1 ≡ suc j = omega arith in
        record {
          size = simp length-set w.size;
          row = λ d y. row_kept (w.row d y) (few ws l g short d (omega arith)) c m t y;
          count = rw z (omega (arith, w.count, part_more c j e));
          mine = rw z (rw (part_is c j e) (row_push w.mine (field_at ws j) t m w.count (omega (arith, w.size)) (field_type_lem j t q)));
        }

    pub part_end : {counts old types : List ℕ} {c i e m : ℕ} → Upto ws counts old c i → 0 < c → c < class_count ws
        → OwnFields ws c i e → Part ws types c e m → Upto ws (set counts c m) types (c + 1) e
    part_end {counts} {old} {types} {c} {i} {e} {m} u p h o w =
        let all = row_whole ws l g c e p h o.high o.rest in
        let b : c < length counts = omega (arith, u.count_size, g.small.classes, g.lay.class_count_lem) in
        record {
          count_size = simp length-set u.count_size;
          type_size = w.size;
          count =
              λ d q.
              ⊎_elim
              (λ (z : d < c). get_or-set_other counts c d m 0 (λ y. omega arith) ∙ u.count d z)
              (λ (z : c ≤ d).
              let y : d ≡ c = omega arith in
              rw (y, get_or-set_same counts c m 0 b, all) w.count)
              (lt_or_ge d c);
          row =
              λ d q.
              ⊎_elim (λ (z : d < c). w.row d z)
              (λ (z : c ≤ d). let y : d ≡ c = omega arith in rw (y, all) w.mine)
              (lt_or_ge d c);
          within = o.high;
          before =
              λ j q.
              ⊎_elim (λ (z : j < i). omega (arith, u.before j z)) (λ (z : i ≤ j). omega (arith, o.owned j z q)) (lt_or_ge j i);
          after = λ j q r. omega (arith, o.rest j q r);
        }

  -- class 0 has no fields
  no_zero : has_fields (program ws) 0 ≡ []
  unfolding program field_at
  no_zero =
      has_fields_zero (program ws)
      ∙ own_none (program ws) 0 (field_count ws) (field_at ws)
      (λ k h e. omega (arith, (field_open ws k (g.fields k h)).user))

  pub upto_start : (counts types : List ℕ) → length counts ≡ most_classes → row_words * class_count ws ≤ length types
      → Upto ws (set counts 0 0) types 1 0
  upto_start counts types n m =
      record {
        count_size = simp length-set n;
        type_size = m;
        count =
            λ d q.
            let e : d ≡ 0 = omega arith in
            let b : 0 < length counts = omega arith in
            rw (e, get_or-set_same counts 0 0 0 b, no_zero);
        row =
            λ d q.
            let e : d ≡ 0 = omega arith in rw (e, no_zero) (record { each = λ k h. absurd (omega arith) });
        within = omega arith;
        before = λ j q. absurd (omega arith);
        after = λ j q r. omega (arith, (field_open ws j (g.fields j r)).user);
      }

  pub upto_end : {counts types : List ℕ} {c i : ℕ} → first_place (fields_rule ws) ≡ None → Upto ws counts types c i → class_count ws ≤ c
      → Rows ws counts types
  upto_end short u h =
      record {
        sizes =
            record {
              size = u.count_size;
              few = few ws l g short;
              count = λ d q. u.count d (omega arith);
            };
        size = u.type_size;
        row = λ d q. u.row d (omega arith);
      }

-- A table of the fields of every class is one of an image whose classes 10 accepts.
pub fields_kept : {ws counts : List ℕ} → Sizes ws counts → first_place (fields_rule ws) ≡ None
unfolding fields_rule
fields_kept {ws} {counts} s = go (first_place (fields_rule ws)) refl
  where
    go : (o : Option ℕ) → first_place (fields_rule ws) ≡ o → o ≡ None
    go None e = refl
    go (Some c) e =
        let b = (found (fields_rule ws) c e).broken in
        let h = le-leb _ _ (s.few c b.within) in
        absurd (let f = b.fails in cc)
