-- `memo::receiver_class` meets its contract.
use Rattle.laws.specs.Tags.{address_small}
use Rattle.memo.specs.MemoLaws.{receiver_is}
use Rattle.memo.proofs.receiver_class.Goals as goal

pub class_at-requires : goal.class_at-requires
class_at-requires c = address_small _ c.requires c.if-w-ne-ADDRESS.false

pub returns : goal.returns
returns c = (receiver_is _ _ _ c.if-w-ne-ADDRESS.false c.class_at.ensures.0, c.class_at.ensures.1)
