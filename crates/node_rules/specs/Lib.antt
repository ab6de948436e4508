-- Environments and answers, and what the typing of one node asks of its operands' types.
pub mod Env
pub mod Node
pub mod EnvLaws
pub mod RuleLaws
