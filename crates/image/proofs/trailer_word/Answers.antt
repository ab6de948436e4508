-- `image::trailer_word` meets its contract.
use Prim.Native.Nat.{◌+◌, ◌-◌}
use Rattle.image.specs.Trailer.{trailer}
use lib.ListN.{length}
use mathlib.Core.Path.{refl}
use native.Mathlib.Omega.{arith}
use Rattle.image.proofs.trailer_word.Goals as goal

pub overflow_cast-result : goal.overflow_cast-result
overflow_cast-result c = omega (arith, c.shared_slice_known-1.given (length c.args.ws.now - 8 + c.args.j))

pub returns : goal.returns
unfolding trailer
returns c = refl
