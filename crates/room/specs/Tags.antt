-- Tags of frames, by their numbers.
use Rattle.std.specs.Prelude.{cond, List, [], ◌∷◌, ℕ, eqb}
use Rattle.room.specs.declared.Tag.{Tag}
use Rattle.room.specs.declared.Tag.TheVariants.{Cast, AddFirst, EqFirst, Assign, Get, SetFirst, Call, Block, Seq, If, Test, Throw, Try, AddSecond, EqSecond, SetSecond, Loop, Unknown}

abbrev pub tags : List (ℕ × Tag)
tags =
    (1, Cast) ∷ (4, AddFirst) ∷ (5, EqFirst) ∷ (6, Assign) ∷ (7, Get) ∷ (8, SetFirst) ∷ (9, Call) ∷ (10, Block) ∷ (11, Seq) ∷ (12, If)
    ∷ (13, Test) ∷ (14, Throw) ∷ (15, Try) ∷ (20, AddSecond) ∷ (21, EqSecond) ∷ (24, SetSecond) ∷ (29, Loop) ∷ []

-- the tag that a list has for a number
unfoldable pub tag_in : List (ℕ × Tag) → ℕ → Tag
tag_in [] t = Unknown
tag_in (e ∷ rest) t = cond (eqb t e.0) e.1 (tag_in rest t)

unfoldable pub tag_of : ℕ → Tag
tag_of t = tag_in tags t
