-- `memo::method` meets its contract.
use Rattle.memo.specs.MemoLaws.{learnt_method}
use Rattle.memo.proofs.method.Goals as goal

pub returns : goal.returns
returns c = λ ws m k n. let r = rw c.in_ok-o.was at c.seen.ensures in learnt_method ws _ k _ _ _ (r.learnt ws m) _ c.requires.2 c.receiver_class-c.ensures.0 n
