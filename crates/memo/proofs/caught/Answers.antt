-- `memo::caught` meets its contract.
use Rattle.memo.specs.MemoLaws.{learnt_catches, learnt_passes}
use Rattle.memo.proofs.caught.Goals as goal

pub returns-in-1 : goal.returns-in-1
returns-in-1 c = λ ws m k n. let r = rw c.in_ok-seen.was at c.seen.ensures in learnt_passes ws _ k _ _ _ (r.learnt ws m) _ c.class_at-c.ensures.0 n c.in-1.is

pub returns-in-2 : goal.returns-in-2
returns-in-2 c = λ ws m k n. let r = rw c.in_ok-seen.was at c.seen.ensures in learnt_catches ws _ k _ _ _ (r.learnt ws m) _ c.class_at-c.ensures.0 n c.in-2.is
