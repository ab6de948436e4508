-- `enter_leaps::enters::call` meets its contract.
use Rattle.room.specs.RoomLaws.{kept_refl}
use mathlib.Core.Path.{refl}
use Rattle.calls.specs.CallLaws.{body_node}
use Rattle.enter_leaps.specs.CallLaps.{call_lands, callable, operand_word_lem}
use Rattle.quick.specs.KnownLaws.{stored, tabled}
use Rattle.room.specs.Nodes.{call_count}
use native.Mathlib.Omega.{arith}
use Rattle.enter_leaps.proofs.enters.call.Goals as goal

pub overflow_add-l : goal.overflow_add-l
overflow_add-l c = let f = call_count _ _ (c.args.image.now.good.nodes _ c.requires.0.here) c.requires.4 in omega (arith, f, c.node_word-y.ensures)

pub returns-then-depth-l : goal.returns-then-depth-l
returns-then-depth-l c = (kept_refl _ _, refl)

pub gather-requires : goal.gather-requires
gather-requires c = (tabled c.args.image.now.good, c.requires.0.here, c.requires.4, c.node_word-y.ensures, omega (arith, c.requires.0.long, c.requires.3), stored c.requires.0.fit, c.requires.1.words, c.requires.2)

pub returns-in_err-s : goal.returns-in_err-s
returns-in_err-s c = rw c.from_residual.ensures (c.gather.ensures.0, refl)

pub bounds-room-l : goal.bounds-room-l
bounds-room-l c = omega (arith, c.gather.ensures.0.size, c.requires.0.long, c.requires.3)

pub method-requires : goal.method-requires
method-requires c = let k = c.gather.ensures.0 in let r = (rw c.in_ok-s.was at c.gather.ensures.1).1 in (c.requires.2.size, omega (arith, c.requires.0.here, c.args.image.now.good.lay.node_count_lem, c.args.image.now.good.small.nodes), operand_word_lem _ c.args.image.now.good.nodes _ _ _ _ _ _ c.requires.0 c.requires.1 c.requires.3 c.requires.4 k _ _ c.node_word-y.ensures r 0 (omega arith))

pub returns-in_err-j : goal.returns-in_err-j
returns-in_err-j c = rw c.from_residual-in_err-j.ensures (c.gather.ensures.0, refl)

pub push_blocks-requires : goal.push_blocks-requires
push_blocks-requires c = let k = c.gather.ensures.0 in let r = (rw c.in_ok-s.was at c.gather.ensures.1).1 in let t = c.in_ok-j.ensures _ c.requires.2 c.requires.1.words (c.requires.0.here, c.requires.4) in (callable _ c.args.image.now.good.nodes _ _ _ _ _ _ c.requires.0 c.requires.1 c.requires.3 c.requires.4 k _ _ c.node_word-y.ensures r _ _ t (omega (arith, c.if-depth-l.false)))

pub method_word-requires : goal.method_word-requires
method_word-requires c = let t = c.in_ok-j.ensures _ c.requires.2 c.requires.1.words (c.requires.0.here, c.requires.4) in (rw c.args.image.now.good.lay.method_count_lem t.within, omega arith)

pub overflow_add-l-3 : goal.overflow_add-l-3
overflow_add-l-3 c = omega (arith, c.if-depth-l.false, c.requires.0.long, c.well_formed)

pub returns : goal.returns
returns c = let k = c.gather.ensures.0 in let r = (rw c.in_ok-s.was at c.gather.ensures.1).1 in let t = c.in_ok-j.ensures _ c.requires.2 c.requires.1.words (c.requires.0.here, c.requires.4) in rw (c.at_node.ensures, c.method_word.ensures) (call_lands _ c.args.image.now.good.nodes _ _ _ _ _ _ c.requires.0 c.requires.1 c.requires.3 c.requires.4 k _ _ c.node_word-y.ensures r _ _ t (omega (arith, c.if-depth-l.false)) _ (let q = rw c.in_ok-s.was at c.gather.ensures.1 in omega (arith, q.0)) c.push_blocks.ensures (body_node c.args.image.now.good _ t.within))
