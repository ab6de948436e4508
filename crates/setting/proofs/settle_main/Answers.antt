-- Main's body stands in the table.
use Rattle.setting.specs.Unset.{main_within}
use Rattle.setting.proofs.settle_main.Goals as goal

pub settle-requires : goal.settle-requires
settle-requires c = main_within c.args.image.now
