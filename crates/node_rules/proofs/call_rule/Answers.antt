-- A class is asked for, and the method that it sees.
use Rattle.node_rules.specs.RuleLaws.{call_method, method_arguments}
use Rattle.node_rules.proofs.call_rule.Goals as goal

pub args_below-below-requires : goal.args_below-below-requires
args_below-below-requires c =
    let f = c.in_ok-method.ensures in (
      c.requires.2,
      c.requires.1,
      rw (c.method_word-first.ensures, c.method_word-count.ensures, c.args.image.now.good.lay.type_count_lem)
          (method_arguments _ _ (c.args.image.now.good.methods _ f.within)).1,
    )

pub returns : goal.returns
returns c =
    λ n.
    let f = c.in_ok-method.ensures in
    rw (c.then_some.ensures, c.args_below-below.ensures, c.method_word-first.ensures, c.method_word-count.ensures, c.type_of.ensures, c.method_word.ensures)
    (call_method _ _ _ _ _ _ _ _ _ c.in-Class.is (c.args.image.now.good.methods _ f.within) f)
