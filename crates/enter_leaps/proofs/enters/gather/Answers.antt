-- `enter_leaps::enters::gather` meets its contract.
use Rattle.enter_leaps.specs.CallLaps.{gathers_end, gathers_in, gathers_more, gathers_start, stored_kept}
use Rattle.room.specs.Nodes.{call_count}
use native.Mathlib.Omega.{arith}
use borrow.Author.Rules.{rules}
use Rattle.enter_leaps.proofs.enters.gather.Goals as goal

pub overflow_step-k : goal.overflow_step-k
overflow_step-k c = let p = c.requires in let f = call_count _ _ (p.0.holds _ p.1) p.2 in omega (arith, f, p.3)

pub loop-k-init : goal.loop-k-init
loop-k-init c = gathers_start _ _ _ _ _ _

pub overflow_sub-m : goal.overflow_sub-m
overflow_sub-m c = let p = c.requires in let b = c.loop-k.invariant in let f = call_count _ _ (p.0.holds _ p.1) p.2 in let i = gathers_in _ _ _ _ _ _ _ _ _ _ b (omega arith) (p.0.holds _ p.1) p.2 p.3 in i.0

pub argument-requires : goal.argument-requires
argument-requires c = let p = c.requires in let b = c.loop-k.invariant in let f = call_count _ _ (p.0.holds _ p.1) p.2 in let i = gathers_in _ _ _ _ _ _ _ _ _ _ b (omega arith) (p.0.holds _ p.1) p.2 p.3 in (p.0, omega (arith, i.1, p.1), stored_kept p.5 b.kept, p.6, p.7)

pub returns-in_err-q : goal.returns-in_err-q
returns-in_err-q c = (c.loop-k.invariant.kept, search rules)

pub overflow_add-room : goal.overflow_add-room
overflow_add-room c = let p = c.requires in let b = c.loop-k.invariant in let f = call_count _ _ (p.0.holds _ p.1) p.2 in let i = gathers_in _ _ _ _ _ _ _ _ _ _ b (omega arith) (p.0.holds _ p.1) p.2 p.3 in omega (arith, f, p.3, p.4, b.low, b.kept.size)

pub overflow_add-room-in-loop-k : goal.overflow_add-room-in-loop-k
overflow_add-room-in-loop-k c = let p = c.requires in let b = c.loop-k.invariant in let f = call_count _ _ (p.0.holds _ p.1) p.2 in let i = gathers_in _ _ _ _ _ _ _ _ _ _ b (omega arith) (p.0.holds _ p.1) p.2 p.3 in omega (arith, f, p.3, p.4, b.low, b.kept.size)

pub offset_bounds-room-at : goal.offset_bounds-room-at
offset_bounds-room-at c = let p = c.requires in let b = c.loop-k.invariant in let f = call_count _ _ (p.0.holds _ p.1) p.2 in let i = gathers_in _ _ _ _ _ _ _ _ _ _ b (omega arith) (p.0.holds _ p.1) p.2 p.3 in omega (arith, f, p.3, p.4, b.low, b.kept.size)

pub bounds-room-at : goal.bounds-room-at
bounds-room-at c = let p = c.requires in let b = c.loop-k.invariant in let f = call_count _ _ (p.0.holds _ p.1) p.2 in let i = gathers_in _ _ _ _ _ _ _ _ _ _ b (omega arith) (p.0.holds _ p.1) p.2 p.3 in omega (arith, f, p.3, p.4, b.low, b.kept.size)

pub overflow_add-steps : goal.overflow_add-steps
overflow_add-steps c = let p = c.requires in let b = c.loop-k.invariant in let f = call_count _ _ (p.0.holds _ p.1) p.2 in let i = gathers_in _ _ _ _ _ _ _ _ _ _ b (omega arith) (p.0.holds _ p.1) p.2 p.3 in omega (arith, f, p.3, b.few, c.in_ok-q.ensures.few)

pub word_at-requires : goal.word_at-requires
word_at-requires c = let p = c.requires in let b = c.loop-k.invariant in let f = call_count _ _ (p.0.holds _ p.1) p.2 in let i = gathers_in _ _ _ _ _ _ _ _ _ _ b (omega arith) (p.0.holds _ p.1) p.2 p.3 in (p.0, omega (arith, i.1, p.1), omega arith)

pub overflow_sub-end : goal.overflow_sub-end
overflow_sub-end c = let p = c.requires in let b = c.loop-k.invariant in let f = call_count _ _ (p.0.holds _ p.1) p.2 in let i = gathers_in _ _ _ _ _ _ _ _ _ _ b (omega arith) (p.0.holds _ p.1) p.2 p.3 in rw c.word_at.ensures i.2

pub loop-k-preserved : goal.loop-k-preserved
loop-k-preserved c = let p = c.requires in let b = c.loop-k.invariant in let f = call_count _ _ (p.0.holds _ p.1) p.2 in let i = gathers_in _ _ _ _ _ _ _ _ _ _ b (omega arith) (p.0.holds _ p.1) p.2 p.3 in rw c.word_at.ensures (gathers_more _ _ _ _ _ _ _ _ _ _ _ (omega arith) b p.3 c.in_ok-q.ensures (omega (arith, f, p.3, p.4, b.low, b.kept.size)))

pub shape_of-room : goal.shape_of-room
shape_of-room c = let p = c.requires in c.loop-k.invariant.kept.size

pub returns : goal.returns
returns c = let p = c.requires in let b = c.loop-k.invariant in let f = call_count _ _ (p.0.holds _ p.1) p.2 in (b.kept, (omega (arith, b.few, f, p.3), gathers_end _ _ _ _ _ _ _ _ _ _ (omega arith) b))
