-- What the class above sees, if anything, is what the method is compared with.
use Rattle.class_rules.specs.Overrides.{method_member, override_is}
use Rattle.classes.specs.Types.{super_below}
use Rattle.rules.specs.Classes.{overrides}
use native.Mathlib.Omega.{arith}
use Rattle.class_rules.proofs.override_holds.Goals as goal

pub class_word-above-requires : goal.class_word-above-requires
class_word-above-requires c =
    let m = method_member _ _ c.args.image.now.good _ c.requires in
    omega arith

pub look_up-requires : goal.look_up-requires
look_up-requires c =
    let m = method_member _ _ c.args.image.now.good _ c.requires in
    let b = super_below _ _ c.args.image.now.good c.method_word-owner.result (omega arith) (omega arith) in
    (omega arith, omega arith)

pub overrides-requires : goal.overrides-requires
overrides-requires c =
    let s = c.in-Some.ensures in
    (c.requires, omega (arith, s.within))

pub returns-in-Some : goal.returns-in-Some
returns-in-Some c =
    let s = c.in-Some.ensures in
    rw c.overrides.ensures
    (override_is _ _ (method_member _ _ c.args.image.now.good _ c.requires).class
    c.method_word-owner.ensures
    c.method_word-name.ensures
    c.class_word-above.ensures
    s.sees)

pub returns-in-None : goal.returns-in-None
unfolding overrides
returns-in-None c =
    let s = c.in-None.ensures in
    override_is _ _ (method_member _ _ c.args.image.now.good _ c.requires).class
    c.method_word-owner.ensures
    c.method_word-name.ensures
    c.class_word-above.ensures
    s
