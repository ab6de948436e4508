-- One tree back, there is one tree less to go.
use Rattle.std.proofs.Common.{◌≡◌, ◌-◌, ◌+◌, ◌≤◌, ◌∙◌, arith}
use Rattle.nodes.specs.Laws.{reach_on}
use Rattle.nodes.proofs.reach.Goals as goal

pub loop-preserved : goal.loop-preserved
loop-preserved c =
    let fits : c.node_word.result ≤ c.loop.at = c.in_ok-at.ensures.0 in
    let back : c.in_ok-at.at ≡ c.loop.at - c.node_word.result = c.in_ok-at.ensures.1 in
    let left : c.args.k - (c.loop.counter + 1) ≡ c.args.k - c.loop.counter - 1 = omega arith in
    let w = c.node_word.ensures in (
      omega arith,
      rw (back, left, w)
          (reach_on _ (c.args.k - c.loop.counter) c.loop.at (omega arith) (omega arith) (rw w at fits)
          ∙ c.loop.invariant.1),
    )
