-- `memo::spot` meets its contract.
use Rattle.memo.specs.MemoLaws.{learnt_spot}
use Rattle.memo.proofs.spot.Goals as goal

pub returns : goal.returns
returns c = λ ws m k f. let r = rw c.in_ok-o.was at c.seen.ensures in learnt_spot ws _ k _ _ _ (r.learnt ws m) _ c.requires.2 c.receiver_class-c.ensures.0 r.some f
