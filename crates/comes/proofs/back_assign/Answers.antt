-- `comes::back_assign` meets its contract.
use Rattle.comes.specs.ComesLaws.{assign_taken, assign_turned, taken_below, taken_place}
use Rattle.laws.specs.Tags.{tag_small}
use Rattle.room.specs.Nodes.{assign_local}
use mathlib.Core.Path.{◌∙◌, sym}
use native.Mathlib.Numerals.{add-one}
use native.Mathlib.Omega.{arith}
use Rattle.comes.proofs.back_assign.Goals as goal

pub armed_seq-requires : goal.armed_seq-requires
armed_seq-requires c = let m = rw (← c.node_word-x.ensures) at (assign_local _ c.args.p (c.args.image.now.good.nodes c.args.p (rw (← c.args.image.now.good.lay.node_count_lem) c.requires.0)) c.requires.1) in (omega (arith, c.requires.2.long), m)

pub overflow_sub-j : goal.overflow_sub-j
overflow_sub-j c = taken_below c.args.image.now.words.now _ _ _ (sym (c.armed_seq.ensures _) ∙ c.if-armed_seq.true)

pub take_up-rest-requires : goal.take_up-rest-requires
take_up-rest-requires c = let m = rw (← c.node_word-x.ensures) at (assign_local _ c.args.p (c.args.image.now.good.nodes c.args.p (rw (← c.args.image.now.good.lay.node_count_lem) c.requires.0)) c.requires.1) in (omega (arith, c.requires.2.long), m, c.requires.3, taken_place _ c.args.image.now.good.nodes _ _ _ c.requires.2 (sym (c.armed_seq.ensures _) ∙ c.if-armed_seq.true))

pub returns-then-armed_seq : goal.returns-then-armed_seq
returns-then-armed_seq c = let m = rw (← c.node_word-x.ensures) at (assign_local _ c.args.p (c.args.image.now.good.nodes c.args.p (rw (← c.args.image.now.good.lay.node_count_lem) c.requires.0)) c.requires.1) in λ D hs may k. rw (c.take_up-rest.ensures.0, c.take_up-rest.ensures.1) (assign_taken _ D hs _ c.args.p c.args.w _ may _ k c.node_word-x.ensures m (sym (c.armed_seq.ensures _) ∙ c.if-armed_seq.true))

pub overflow_add-room : goal.overflow_add-room
overflow_add-room c = omega (arith, tag_small _ c.requires.3)

pub bounds-room-x : goal.bounds-room-x
bounds-room-x c = let m = rw (← c.node_word-x.ensures) at (assign_local _ c.args.p (c.args.image.now.good.nodes c.args.p (rw (← c.args.image.now.good.lay.node_count_lem) c.requires.0)) c.requires.1) in omega (arith, c.requires.2.long)

pub returns : goal.returns
returns c = λ D hs may k. rw add-one (assign_turned _ D hs _ c.args.p _ _ may k _ c.node_word-x.ensures (sym (c.armed_seq.ensures _) ∙ c.if-armed_seq.false))
