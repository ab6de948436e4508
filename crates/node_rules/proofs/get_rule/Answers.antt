-- A class is asked for, and the field that it sees.
use Rattle.node_rules.specs.RuleLaws.{get_field_lem}
use Rattle.node_rules.proofs.get_rule.Goals as goal

pub returns : goal.returns
returns c =
    λ n.
    let f = c.in_ok-field.ensures in
    rw (c.in-Class.is, c.then_some.ensures, c.type_of.ensures, c.field_word.ensures)
    (get_field_lem _ _ _ _ _ _ _ _ (c.args.image.now.good.fields _ f.within) f)
