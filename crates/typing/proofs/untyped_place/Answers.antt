-- Every node of the bodies passed has a type.
use Rattle.figures.proofs.Bodies.{held_on}
use Rattle.typing.specs.Untyped.{main_answer, method_typed, method_untyped, method_tests}
use mathlib.Core.Path.{◌≡◌, ◌∙◌}
use native.Mathlib.Omega.{arith}
use Rattle.typing.proofs.untyped_place.Goals as goal

pub returns-in-Err : goal.returns-in-Err
returns-in-Err c = method_untyped _ _ c.args.image.now.good _ _ _ c.loop-i-test.true c.loop-i.invariant c.type_method.ensures c.in-Err.is

pub loop-i-preserved : goal.loop-i-preserved
loop-i-preserved c =
    held_on (method_tests c.args.image.now.words.now) _ c.loop-i.invariant
    (method_typed _ _ c.args.image.now.good _ _ _ c.type_method.ensures c.in_default.is)

pub returns : goal.returns
returns c =
    let e : c.loop-i.i ≡ c.args.image.now.layout.method_count = omega arith in
    c.err.ensures.value ∙ main_answer _ _ c.args.image.now.good _ (rw e at c.loop-i.invariant) c.type_main.ensures
