-- The keys of the records of a table of members: a class's number times the number of names, and the name; and what a search
-- for a key finds.
use Rattle.std.specs.Prelude.{◌≡◌, List, ℕ, ◌+◌, ◌*◌, ◌<◌}
use Rattle.std.specs.declared.option.Option.{Option}
use Rattle.std.specs.declared.option.Option.TheVariants.{Some, None}
use Rattle.image.specs.Trailer.{field_count, method_count}
use Rattle.image.specs.Records.{field_word, method_word}
use Rattle.image.specs.declared.Layout.{Layout}
use Rattle.classes.specs.declared.Members.{Members}
use Rattle.classes.specs.declared.Members.TheVariants.{Fields, Methods}

abbrev pub names : ℕ
names = 65536

-- how many records a table has, as the trailer and as the layout say
unfoldable pub count_of : List ℕ → Members → ℕ
count_of ws Fields = field_count ws
count_of ws Methods = method_count ws

unfoldable pub size_of : Layout → Members → ℕ
size_of l Fields = l.field_count
size_of l Methods = l.method_count

-- word k of record i
abbrev pub word_of : List ℕ → Members → (i k : ℕ) → ℕ
word_of ws Fields i k = field_word ws i k
word_of ws Methods i k = method_word ws i k

unfoldable pub key_of : List ℕ → Members → ℕ → ℕ
key_of ws m i = word_of ws m i 0 * names + word_of ws m i 1

-- of n keys, the place of a key t, or that it has none
abbrev pub Finds : (ℕ → ℕ) → (n t : ℕ) → Option ℕ → Type 0
Finds key n t (Some i) = (i < n) × (key i ≡ t)
Finds key n t None = (i : ℕ) → i < n → key i ≡ t → ⊥
