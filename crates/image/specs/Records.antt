-- Class, field and method records and type words, and what each must be.
use Rattle.std.specs.Prelude.{Bool, true, cond, ◌&&◌, ◌||◌, List, ℕ, zero, suc, ◌+◌, ◌*◌, ◌-◌, length, get_or, ltb, leb, eqb}
use Rattle.words.specs.Types.{is_declared}
use Rattle.image.specs.Numbers.{first_user_class, most_arguments, highest_name}
use Rattle.image.specs.Trailer.{trailer, class_count, type_count}

-- class c's one word
unfoldable pub superclass : List ℕ → ℕ → ℕ
superclass ws c = get_or ws (length ws - trailer ws 0 + c) 0

-- word k of field i: 0 class, 1 name, 2 type
unfoldable pub field_word : List ℕ → ℕ → ℕ → ℕ
field_word ws i k = get_or ws (length ws - trailer ws 1 + 3 * i + k) 0

-- word k of method i: 0 class, 1 name, 2 result type, 3 first argument type, 4 argument count, 5 body node
unfoldable pub method_word : List ℕ → ℕ → ℕ → ℕ
method_word ws i k = get_or ws (length ws - trailer ws 2 + 6 * i + k) 0

-- type word i
unfoldable pub type_at : List ℕ → ℕ → ℕ
type_at ws i = get_or ws (length ws - trailer ws 3 + i) 0

-- A system class holds 0, a later one a class below itself.
unfoldable pub super_holds : (c s : ℕ) → Bool
super_holds c s = cond (ltb c first_user_class) (eqb s 0) (ltb s c)

-- 4: each class; at the class count, that there are enough
unfoldable pub class_holds : List ℕ → ℕ → Bool
class_holds ws c = cond (ltb c (class_count ws)) (super_holds c (superclass ws c)) (leb first_user_class (class_count ws))

-- a user class of the image
unfoldable pub is_user_class : (classes c : ℕ) → Bool
is_user_class classes c = leb first_user_class c && ltb c classes

unfoldable pub is_name : ℕ → Bool
is_name n = leb n highest_name

-- (class, name) rises strictly
unfoldable pub rises : (c n d m : ℕ) → Bool
rises c n d m = ltb c d || (eqb c d && ltb n m)

-- what field and method records share: class, name and type
unfoldable pub member_holds : (classes c n t : ℕ) → Bool
member_holds classes c n t = is_user_class classes c && is_name n && is_declared t classes

unfoldable pub field_rises : List ℕ → ℕ → Bool
field_rises ws zero = true
field_rises ws (suc i) = rises (field_word ws i 0) (field_word ws i 1) (field_word ws (suc i) 0) (field_word ws (suc i) 1)

-- 5
unfoldable pub field_holds : List ℕ → ℕ → Bool
field_holds ws i =
    member_holds (class_count ws) (field_word ws i 0) (field_word ws i 1) (field_word ws i 2) && field_rises ws i

unfoldable pub method_rises : List ℕ → ℕ → Bool
method_rises ws zero = true
method_rises ws (suc i) =
    rises (method_word ws i 0) (method_word ws i 1) (method_word ws (suc i) 0) (method_word ws (suc i) 1)

-- a method's arguments stand among the type words
unfoldable pub arguments_hold : (types first count : ℕ) → Bool
arguments_hold types first count = leb count most_arguments && leb (first + count) types

-- 6
unfoldable pub method_holds : List ℕ → ℕ → Bool
method_holds ws i =
    member_holds (class_count ws) (method_word ws i 0) (method_word ws i 1) (method_word ws i 2)
    && arguments_hold (type_count ws) (method_word ws i 3) (method_word ws i 4)
    && method_rises ws i

-- 7
unfoldable pub type_holds : List ℕ → ℕ → Bool
type_holds ws i = is_declared (type_at ws i) (class_count ws)
