-- A place that was asked says what the test says there.
use Rattle.std.proofs.Common.{sym, ◌∙◌, arith}
use Rattle.order.specs.Scan.{start, on, hit, none}
use Rattle.order.proofs.first_broken.Goals as goal

pub loop-i-init : goal.loop-i-init
loop-i-init g c = λ test asks. start test _

pub returns-then-not-holds : goal.returns-then-not-holds
returns-then-not-holds g c =
    λ test asks.
    hit
    (c.loop-i.invariant test asks)
    c.loop-i-test.true
    (sym (asks _ _ c.loop-i-test.true c.holds.ensures) ∙ c.if-not-holds.true)

pub loop-i-preserved : goal.loop-i-preserved
loop-i-preserved g c =
    λ test asks.
    on
    (c.loop-i.invariant test asks)
    c.loop-i-test.true
    (sym (asks _ _ c.loop-i-test.true c.holds.ensures) ∙ c.if-not-holds.false)

pub returns : goal.returns
returns g c = λ test asks. none (c.loop-i.invariant test asks) (omega arith)
