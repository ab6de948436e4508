-- A type that is not below the one at its place decides.
use Rattle.classes.specs.Subtypes.{subtypes_not}
use Rattle.rules.specs.Program.{types_from}
use mathlib.Core.Path.{◌∙◌, sym}
use Rattle.class_rules.proofs.params_below.Goals as goal

pub returns-then-not-is_subtype : goal.returns-then-not-is_subtype
unfolding types_from
returns-then-not-is_subtype c =
    subtypes_not _ _ _ _ c.loop-k.k c.loop-k-test.true
    (rw (← c.type_word.ensures, ← c.type_word-in-loop-k.ensures, ← c.type_of-t.ensures, ← c.type_of-u.ensures) (sym c.is_subtype.ensures ∙ c.if-not-is_subtype.true))
