-- The words read are those of the two methods.
use Rattle.class_rules.specs.Overrides.{method_member, method_types, overrides_same}
use Rattle.words.specs.Types.{is_type}
use mathlib.Core.Path.{◌∙◌, sym}
use native.Mathlib.Omega.{arith}
use Rattle.class_rules.proofs.overrides.Goals as goal

pub params_below-requires : goal.params_below-requires
params_below-requires c =
    let s = method_types _ _ c.args.image.now.good _ c.requires.0 in
    let r = method_types _ _ c.args.image.now.good _ c.requires.1 in
    (omega arith, omega arith)

pub is_subtype-requires : goal.is_subtype-requires
unfolding is_type
is_subtype-requires c =
    (rw (c.type_of-t.ensures, c.method_word.ensures) (method_member _ _ c.args.image.now.good _ c.requires.0).type)

pub returns : goal.returns
returns c =
    let o = overrides_same _ _ _ _ (sym c.method_word-overridden.ensures ∙ c.if-overridden-n.false) (sym c.method_word-n.ensures) in
    cc
