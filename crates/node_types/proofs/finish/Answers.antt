-- The node's own premises, where its operands have types.
use Rattle.node_rules.specs.EnvLaws.{node_names}
use Rattle.node_types.specs.ListLaws.{finish_bad, finish_ok}
use Rattle.std.proofs.lemmas.Result.{err_from_is_err_and}
use Rattle.node_types.proofs.finish.Goals as goal

pub returns-in_err-types : goal.returns-in_err-types
returns-in_err-types c =
    let p = err_from_is_err_and c.from_residual.result c.from_residual.ensures.1 in
    rw (p.1, p.2) (record { says = finish_bad _ _ _ c.args.r _ c.in_err-types.was; known = tt })

pub node_rule-requires : goal.node_rule-requires
node_rule-requires c =
    rw (c.from-k.ensures, c.node_word.ensures, c.node_word-x.ensures, c.node_word-y.ensures)
    (c.requires.0, node_names _ _ c.args.image.now.good c.args.n c.requires.1, rw c.in_ok-types.was at c.requires.2)

pub returns : goal.returns
returns c =
    rw (c.ok_or.ensures.value, ← finish_ok _ _ _ c.args.r _ c.in_ok-types.was)
    (rw (c.from-k.ensures, c.node_word.ensures, c.node_word-x.ensures, c.node_word-y.ensures) at (c.node_rule.ensures c.args.n))
