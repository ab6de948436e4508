-- Each kind's own rule.
use Rattle.image.specs.Nodes.{operands}
use Rattle.rules.specs.Maps.{tabulate}
use Rattle.node_rules.specs.Env.{types_of}
use Rattle.node_rules.specs.Node.{node_rule}
use Rattle.node_rules.specs.RuleLaws.{names_new, names_throw, names_value, rule_add, rule_if, rule_new, rule_throw, rule_try, rule_value, rule_while}
use Rattle.node_types.proofs.node_rule.Goals as goal

pub literal_rule-requires : goal.literal_rule-requires
literal_rule-requires c = (names_value _ _ _ (rw c.in-Value.is at c.requires.1)).0

pub returns-in-New : goal.returns-in-New
unfolding operands types_of tabulate
returns-in-New c = λ n. rw c.in-New.is (rule_new _ _ _ _ _ _ (names_new _ _ _ (rw c.in-New.is at c.requires.1)))

pub returns-in-Value : goal.returns-in-Value
unfolding operands types_of tabulate
returns-in-Value c = λ n. rw (c.in-Value.is, c.literal_rule.ensures) (rule_value _ _ _ _ _ _ (names_value _ _ _ (rw c.in-Value.is at c.requires.1)).0 (names_value _ _ _ (rw c.in-Value.is at c.requires.1)).1)

pub returns-in-Var : goal.returns-in-Var
unfolding node_rule operands types_of tabulate
returns-in-Var c = λ n. rw c.in-Var.is (c.var_rule.ensures _ n c.requires.0)

pub returns-in-Add : goal.returns-in-Add
unfolding operands types_of tabulate
returns-in-Add c = λ n. rw (c.in-Add.is, c.add_rule.ensures) (rule_add _ _ _ _ _ _ _ _)

pub returns-in-If : goal.returns-in-If
unfolding operands types_of tabulate
returns-in-If c = λ n. rw (c.in-If.is, c.if_rule.ensures) (rule_if _ _ _ _ _ _ _ _ _ (c.requires.2 1))

pub returns-in-While : goal.returns-in-While
unfolding operands types_of tabulate
returns-in-While c = λ n. rw (c.in-While.is, c.while_rule.ensures) (rule_while _ _ _ _ _ _ _ _)

pub returns-in-Throw : goal.returns-in-Throw
unfolding operands types_of tabulate
returns-in-Throw c = λ n. rw (c.in-Throw.is, c.throw_rule.ensures, c.type_of.ensures) (rule_throw _ _ _ _ _ _ _ (names_throw _ _ _ (rw c.in-Throw.is at c.requires.1)))

pub returns-in-Try : goal.returns-in-Try
unfolding operands types_of tabulate
returns-in-Try c = λ n. rw (c.in-Try.is, c.try_rule.ensures) (rule_try _ _ _ _ _ _ _ _ (c.requires.2 0))
