-- From the words of a heap and inputs to conformity, and from a heap that conforms back to words that 14, 15 and 17 accept.
use Prim.Native.Nat.{ℕ}
use mathlib.Core.List.{List}
use Rattle.rules.specs.Numbers.{fields_rule, heap_length_rule, heap_word_rule, input_rule, heap_rule, input_type_rule}
use Rattle.safety.specs.Image.{Held}

-- the rules of an accepted start
pub record Start (ws hs is : List ℕ) : Type 0 where
  pub fields : Held (fields_rule ws)
  pub length : Held (heap_length_rule hs)
  pub words : Held (heap_word_rule ws hs)
  pub inputs : Held (input_rule ws is)
  pub objects : Held (heap_rule ws hs)
  pub types : Held (input_type_rule ws hs is)
