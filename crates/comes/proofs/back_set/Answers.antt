-- `comes::back_set` meets its contract.
use Rattle.comes.specs.ComesLaws.{set_at, set_fails, set_limit, set_raises}
use Rattle.room.specs.Nodes.{set_class, set_name}
use native.Mathlib.Omega.{arith}
use Rattle.comes.proofs.back_set.Goals as goal

pub field_spot-requires : goal.field_spot-requires
field_spot-requires c = let h = c.args.table.now.image.good.nodes c.args.p (rw (← c.args.table.now.image.good.lay.node_count_lem) c.requires.1) in (c.requires.0, omega (arith, c.node_word-d.ensures, set_class _ _ h c.requires.2, c.args.table.now.image.good.lay.class_count_lem), omega (arith, c.node_word-name.ensures, set_name _ _ h c.requires.2), c.requires.3)

pub returns-then-not-may : goal.returns-then-not-may
returns-then-not-may c = λ D room k q. set_limit c.args.table.now.image.words.now D c.args.heap.now room c.args.p c.args.i c.args.w c.args.may k c.args.v q c.in-Gives.j (rw (← c.node_word-name.ensures, ← c.node_word-d.ensures) (rw c.in-Gives.is at c.field_spot.ensures)) c.if-not-may.true

pub returns-else-not-may : goal.returns-else-not-may
returns-else-not-may c = λ D room k q. set_at c.args.table.now.image.words.now D c.args.heap.now room c.args.p c.args.i c.args.w c.args.may k c.args.v q _ (rw (← c.node_word-name.ensures, ← c.node_word-d.ensures) (rw c.in-Gives.is at c.field_spot.ensures)) c.if-not-may.false

pub returns-in-Raises : goal.returns-in-Raises
returns-in-Raises c = λ D room k q. set_raises c.args.table.now.image.words.now D c.args.heap.now room c.args.p c.args.i c.args.w c.args.may k c.args.v q _ (rw (← c.node_word-name.ensures, ← c.node_word-d.ensures) (rw c.in-Raises.is at c.field_spot.ensures))

pub returns-in-Fails : goal.returns-in-Fails
returns-in-Fails c = λ D room k q. set_fails c.args.table.now.image.words.now D c.args.heap.now room c.args.p c.args.i c.args.w c.args.may k c.args.v q (rw (← c.node_word-name.ensures, ← c.node_word-d.ensures) (rw c.in-Fails.is at c.field_spot.ensures))
