-- Each argument's type passed is below its parameter's.
use Rattle.classes.specs.Subtypes.{subtypes_not}
use Rattle.rules.specs.Program.{types_from}
use mathlib.Core.Path.{◌∙◌, sym}
use native.Mathlib.Numerals.{add-one}
use Rattle.node_rules.proofs.args_below.Goals as goal

pub returns-then-not-is_subtype : goal.returns-then-not-is_subtype
unfolding types_from
returns-then-not-is_subtype c =
    rw c.if-given-count.false
    (subtypes_not _ _ _ _ c.loop-i.i c.loop-i-test.true
    (rw (← add-one c.loop-i.i, ← c.type_word.ensures, ← c.type_of-parameter.ensures) (sym c.is_subtype.ensures ∙ c.if-not-is_subtype.true)))
