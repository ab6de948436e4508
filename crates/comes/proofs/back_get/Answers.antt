-- `comes::back_get` meets its contract.
use Rattle.comes.specs.ComesLaws.{get_at, get_fails, get_raises}
use Rattle.room.specs.Nodes.{get_class, get_name}
use native.Mathlib.Omega.{arith}
use Rattle.comes.proofs.back_get.Goals as goal

pub field_spot-requires : goal.field_spot-requires
field_spot-requires c = let h = c.args.table.now.image.good.nodes c.args.p (rw (← c.args.table.now.image.good.lay.node_count_lem) c.requires.1) in (c.requires.0, omega (arith, c.node_word-d.ensures, get_class _ _ h c.requires.2, c.args.table.now.image.good.lay.class_count_lem), omega (arith, c.node_word-name.ensures, get_name _ _ h c.requires.2), c.requires.3)

pub returns-in-Gives : goal.returns-in-Gives
returns-in-Gives c = λ D room may k. get_at _ D _ room _ _ _ may k _ (rw (← c.node_word-name.ensures, ← c.node_word-d.ensures) (rw c.in-Gives.is at c.field_spot.ensures))

pub returns-in-Raises : goal.returns-in-Raises
returns-in-Raises c = λ D room may k. get_raises _ D _ room _ _ _ may k _ (rw (← c.node_word-name.ensures, ← c.node_word-d.ensures) (rw c.in-Raises.is at c.field_spot.ensures))

pub returns-in-Fails : goal.returns-in-Fails
returns-in-Fails c = λ D room may k. get_fails _ D _ room _ _ _ may k (rw (← c.node_word-name.ensures, ← c.node_word-d.ensures) (rw c.in-Fails.is at c.field_spot.ensures))
