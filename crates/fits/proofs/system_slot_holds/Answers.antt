-- `fits::system_slot_holds` meets its contract.
use Prim.Native.Nat.{◌+◌, suc}
use borrow.Author.Tests.{le-ltb, lt-ltb}
use mathlib.Core.Path.{◌≡◌}
use native.Mathlib.Omega.{arith}
use Rattle.fits.proofs.system_slot_holds.Goals as goal

pub returns-then-a-lt-FEWEST_SLOTS : goal.returns-then-a-lt-FEWEST_SLOTS
returns-then-a-lt-FEWEST_SLOTS c = let e : c.args.a + 2 ≡ suc (suc c.args.a) = omega arith in rw (lt-ltb _ _ c.if-a-lt-FEWEST_SLOTS.true, e)

pub returns-else-a-lt-FEWEST_SLOTS : goal.returns-else-a-lt-FEWEST_SLOTS
returns-else-a-lt-FEWEST_SLOTS c = rw (le-ltb _ _ c.if-a-lt-FEWEST_SLOTS.false)
