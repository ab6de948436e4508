-- A table of the fields of every class, in heap order: how many a class has, and the type word of each.
use Rattle.std.specs.Prelude.{◌≡◌, List, ◌++◌, ℕ, ◌+◌, ◌*◌, ◌≤◌, ◌<◌, length, get_or}
use Rattle.words.specs.Types.{type_of}
use Rattle.image.specs.Numbers.{most_classes}
use Rattle.image.specs.Trailer.{class_count, field_count}
use Rattle.image.specs.Records.{superclass, field_word}
use Rattle.rules.specs.Maps.{tabulate}
use Rattle.rules.specs.Program.{Field, field_at, program}
use Rattle.rules.specs.Classes.{own, has_fields}
use Rattle.rules.specs.Numbers.{most_fields_above, field_type}

-- words of a row: as many as a class may have fields
abbrev pub row_words : ℕ
row_words = most_fields_above

-- how many fields each class has
pub record Sizes (ws counts : List ℕ) : Type 0 where
  pub size : length counts ≡ most_classes
  pub few : (c : ℕ) → c < class_count ws → length (has_fields (program ws) c) ≤ most_fields_above
  pub count : (c : ℕ) → c < class_count ws → get_or counts c 0 ≡ length (has_fields (program ws) c)

-- the row of class c begins with the types of those fields
pub record Row (types : List ℕ) (c : ℕ) (fs : List Field) : Type 0 where
  pub each : (k : ℕ) → k < length fs → type_of (get_or types (row_words * c + k) 0) ≡ field_type fs k

pub record Rows (ws counts types : List ℕ) : Type 0 where
  pub sizes : Sizes ws counts
  pub size : row_words * class_count ws ≤ length types
  pub row : (c : ℕ) → c < class_count ws → Row types c (has_fields (program ws) c)

-- no record from i on is of a class below c
abbrev pub NoneBelow : List ℕ → (c i : ℕ) → Type 0
NoneBelow ws c i = (j : ℕ) → i ≤ j → j < field_count ws → c ≤ field_word ws j 0

-- The table while it is made. The rows below class c stand, and the fields below i are those of the classes below c.
pub record Upto (ws counts types : List ℕ) (c i : ℕ) : Type 0 where
  pub count_size : length counts ≡ most_classes
  pub type_size : row_words * class_count ws ≤ length types
  pub count : (d : ℕ) → d < c → get_or counts d 0 ≡ length (has_fields (program ws) d)
  pub row : (d : ℕ) → d < c → Row types d (has_fields (program ws) d)
  pub within : i ≤ field_count ws
  pub before : (j : ℕ) → j < i → field_word ws j 0 < c
  pub after : NoneBelow ws c i

-- n words copied from one row to a later one; what stands below the later one is as it was
pub record Copied (old new : List ℕ) (s c n : ℕ) : Type 0 where
  pub size : length new ≡ length old
  pub same : (k : ℕ) → k < n → get_or new (row_words * c + k) 0 ≡ get_or old (row_words * s + k) 0
  pub kept : (j : ℕ) → j < row_words * c → get_or new j 0 ≡ get_or old j 0

-- all records from i up to j are class c's
abbrev pub Owned : List ℕ → (c i j : ℕ) → Type 0
Owned ws c i j = (k : ℕ) → i ≤ k → k < j → field_word ws k 0 ≡ c

-- the records from i up to e are class c's own, and no more follow
pub record OwnFields (ws : List ℕ) (c i e : ℕ) : Type 0 where
  pub low : i ≤ e
  pub high : e ≤ field_count ws
  pub owned : Owned ws c i e
  pub rest : (j : ℕ) → e ≤ j → j < field_count ws → c < field_word ws j 0

-- the superclass's fields, and class c's own among the records below j
abbrev pub so_far : List ℕ → (c j : ℕ) → List Field
so_far ws c j = has_fields (program ws) (superclass ws c) ++ own (program ws) (tabulate j (field_at ws)) c

-- class c's row has these, m in number, and the rows below it stand
pub record Part (ws types : List ℕ) (c j m : ℕ) : Type 0 where
  pub size : row_words * class_count ws ≤ length types
  pub row : (d : ℕ) → d < c → Row types d (has_fields (program ws) d)
  pub count : m ≡ length (so_far ws c j)
  pub mine : Row types c (so_far ws c j)
