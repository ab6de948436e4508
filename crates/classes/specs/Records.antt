-- Laws: what the rules of the layout say of a class, a field, a method and a type word, as facts on numbers.
use Rattle.std.specs.Prelude.{◌≡◌, refl, true, ◌&&◌, List, ℕ, zero, suc, ◌+◌, ◌≤◌, ◌<◌, ltb, leb}
use Rattle.std.proofs.Common.{ltb-true, leb-true}
use Rattle.words.specs.Types.{type_of, is_declared, is_type}
use Rattle.image.specs.Numbers.{first_user_class, most_arguments, highest_name}
use Rattle.image.specs.Trailer.{class_count, type_count}
use Rattle.image.specs.Records.{field_word, method_word, type_at, is_user_class, is_name, rises, member_holds, field_rises, field_holds, method_rises, arguments_hold, method_holds, type_holds}
use Rattle.image.specs.Laws.{and_left, and_right}

-- the class, the name and the type of a member
pub record Member (classes c n t : ℕ) : Type 0 where
  pub user : first_user_class ≤ c
  pub class : c < classes
  pub name : n ≤ highest_name
  pub type : is_type t classes ≡ true

pub declared_type : (t classes : ℕ) → is_declared t classes ≡ true → is_type t classes ≡ true
unfolding is_declared is_type type_of
declared_type zero n h = refl
declared_type (suc zero) n h = refl
declared_type (suc (suc zero)) n h = refl
declared_type (suc (suc (suc zero))) n h = refl
declared_type (suc (suc (suc (suc t)))) n h = h

member_open : (classes c n t : ℕ) → member_holds classes c n t ≡ true → Member classes c n t
unfolding member_holds is_user_class is_name
member_open classes c n t h =
    let first = and_left (leb first_user_class c && ltb c classes && leb n highest_name) (is_declared t classes) h in
    let user = and_left (leb first_user_class c && ltb c classes) (leb n highest_name) first in
    record {
      user = leb-true _ _ (and_left (leb first_user_class c) (ltb c classes) user);
      class = ltb-true _ _ (and_right (leb first_user_class c) (ltb c classes) user);
      name = leb-true _ _ (and_right (leb first_user_class c && ltb c classes) (leb n highest_name) first);
      type = declared_type t classes (and_right (leb first_user_class c && ltb c classes && leb n highest_name) (is_declared t classes) h);
    }

-- where a method's arguments stand
pub record Arguments (types first count : ℕ) : Type 0 where
  pub few : count ≤ most_arguments
  pub within : first + count ≤ types

arguments_open : (types first count : ℕ) → arguments_hold types first count ≡ true → Arguments types first count
unfolding arguments_hold
arguments_open types first count h =
    record {
      few = leb-true _ _ (and_left (leb count most_arguments) (leb (first + count) types) h);
      within = leb-true _ _ (and_right (leb count most_arguments) (leb (first + count) types) h);
    }

module _ (ws : List ℕ) where
  pub field_open : (i : ℕ) → field_holds ws i ≡ true → Member (class_count ws) (field_word ws i 0) (field_word ws i 1) (field_word ws i 2)
  unfolding field_holds
  field_open i h = member_open _ _ _ _ (and_left _ (field_rises ws i) h)

  pub method_open : (i : ℕ) → method_holds ws i ≡ true → Member (class_count ws) (method_word ws i 0) (method_word ws i 1) (method_word ws i 2)
  unfolding method_holds
  method_open i h =
      member_open _ _ _ _
      (and_left _ (arguments_hold (type_count ws) (method_word ws i 3) (method_word ws i 4))
      (and_left _ (method_rises ws i) h))

  pub method_arguments : (i : ℕ) → method_holds ws i ≡ true → Arguments (type_count ws) (method_word ws i 3) (method_word ws i 4)
  unfolding method_holds
  method_arguments i h =
      arguments_open _ _ _
      (and_right (member_holds (class_count ws) (method_word ws i 0) (method_word ws i 1) (method_word ws i 2)) _
      (and_left _ (method_rises ws i) h))

  pub type_open : (i : ℕ) → type_holds ws i ≡ true → is_type (type_at ws i) (class_count ws) ≡ true
  unfolding type_holds
  type_open i h = declared_type _ _ h

  -- a record is after the one before it
  pub field_rises_lem : (i : ℕ) → field_holds ws (suc i) ≡ true
      → rises (field_word ws i 0) (field_word ws i 1) (field_word ws (suc i) 0) (field_word ws (suc i) 1) ≡ true
  unfolding field_holds field_rises
  field_rises_lem i h =
      and_right
      (member_holds (class_count ws) (field_word ws (suc i) 0) (field_word ws (suc i) 1) (field_word ws (suc i) 2))
      _
      h

  pub method_rises_lem : (i : ℕ) → method_holds ws (suc i) ≡ true
      → rises (method_word ws i 0) (method_word ws i 1) (method_word ws (suc i) 0) (method_word ws (suc i) 1) ≡ true
  unfolding method_holds method_rises
  method_rises_lem i h =
      and_right
      (member_holds (class_count ws) (method_word ws (suc i) 0) (method_word ws (suc i) 1) (method_word ws (suc i) 2)
      && arguments_hold (type_count ws) (method_word ws (suc i) 3) (method_word ws (suc i) 4))
      _
      h
