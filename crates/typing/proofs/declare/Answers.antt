-- The variables from j + 1 on have their types.
use Prim.Native.Nat.{◌+◌, ◌-◌, ◌<◌}
use Rattle.image.specs.Records.{type_at}
use Rattle.image.specs.Trailer.{type_count}
use Rattle.node_rules.specs.Env.{Has}
use Rattle.typing.specs.Untyped.{declare_end, declare_on, declare_start, type_declared}
use Rattle.words.specs.Types.{type_of}
use mathlib.Core.Path.{◌≡◌}
use native.Mathlib.Omega.{arith}
use Rattle.typing.proofs.declare.Goals as goal

pub loop-j-init : goal.loop-j-init
loop-j-init c = declare_start _ _ _ _ c.requires.0 c.requires.1

pub loop-j-preserved : goal.loop-j-preserved
loop-j-preserved c =
    let b : (c.args.first + (c.loop-j.j - 1)) < type_count c.args.image.now.words.now = omega (arith, c.args.image.now.good.lay.type_count_lem, c.loop-j.invariant.within) in
    let e : c.type_of.result ≡ type_of (type_at c.args.image.now.words.now (c.args.first + (c.loop-j.j - 1))) = rw (c.type_of.ensures, c.type_word.ensures) in
    let w : Has c.args.image.now.words.now c.type_of.result = rw e (type_declared _ _ (c.args.image.now.good.types (c.args.first + (c.loop-j.j - 1)) b)) in
    declare_on _ _ _ _ c.loop-j.j _ c.loop-j.invariant c.loop-j-test.true (omega arith) e w

pub returns : goal.returns
returns c = (c.loop-j.invariant.ok, declare_end _ _ _ _ c.loop-j.j c.loop-j.invariant (omega arith))
