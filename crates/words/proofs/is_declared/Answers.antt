-- The null type is tested first; every other word goes by its size.
use Rattle.std.proofs.Common.{rules, sym, ◌∙◌}
use Rattle.words.specs.Types.{type_of, is_declared}
use Rattle.words.specs.TypeLaws.{is_type_lem, is_declared_lem}
use Rattle.words.proofs.is_declared.Goals as goal

pub returns-in-3 : goal.returns-in-3
unfolding is_declared type_of
returns-in-3 c = rw c.in-3.is

pub returns-in_default : goal.returns-in_default
returns-in_default c = sym (is_declared_lem _ _ (search rules) ∙ is_type_lem _ _)
