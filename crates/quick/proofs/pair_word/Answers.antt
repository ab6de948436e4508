-- `quick::pair_word` meets its contract.
use Rattle.quick.specs.KnownLaws.{gives_add, gives_eq, not_eq}
use Rattle.quick.proofs.pair_word.Goals as goal

pub returns-then-kind : goal.returns-then-kind
returns-then-kind c = gives_eq _ _ _ _ c.if-kind.true c.eq_redex.ensures.0 c.eq_redex.ensures.1

pub returns-then-v-w : goal.returns-then-v-w
returns-then-v-w c = let p = c.requires in gives_add _ _ _ (not_eq p.0 c.if-kind.false) p.1 p.2 c.if-v-w.true
