-- The premises of demand 3 can be met: by computation, for a bench program and for one with a class hierarchy, an override and a
-- caught exception.
use Rattle.std.specs.Prelude.{ℕ, ◌≡◌, refl, []}
use Rattle.words.specs.declared.Value.TheVariants.{Intg}
use Rattle.words.specs.declared.Ty.{Ty}
use Rattle.words.specs.declared.Ty.TheVariants.{Integer}
use Rattle.rules.specs.declared.End.TheVariants.{Returned}
use Rattle.rules.specs.Program.{program, main, main_env}
use Rattle.rules.specs.Typing.{ok, typing}
use Rattle.rules.specs.Run.{run_of}
use Rattle.rules.specs.Computing.{computing}
use Rattle.rules.specs.Bench.{image, heap}
use Rattle.safety.specs.Demand3.{SafeRun}
use Rattle.safety.proofs.Demand3.{demand_3}
use Rattle.safety.specs.Demo.{Accepts, bench_image, inputs, objects, orders}

pub bench : Accepts bench_image (heap 1) []
unfolding computing image heap bench_image
bench = record { check = refl; conform = refl }

pub hierarchy : Accepts orders objects inputs
unfolding computing orders objects inputs
hierarchy = record { check = refl; conform = refl }

main_type : typing (program orders) (main orders) (main_env orders) ≡ ok Integer
unfolding computing orders
main_type = refl

-- the override throws, and the handler catches
pub caught : (run_of orders objects inputs 100 8).end ≡ Returned (Intg 42)
unfolding computing orders objects inputs
caught = refl

-- So every run of either is safe.
pub bench_safe : (t : Ty) × (typing (program bench_image) (main bench_image) (main_env bench_image) ≡ ok t)
    × ((steps depth : ℕ) → SafeRun bench_image t (run_of bench_image (heap 1) [] steps depth))
bench_safe = demand_3 bench_image (heap 1) [] bench.check bench.conform

pub hierarchy_safe : (t : Ty) × (typing (program orders) (main orders) (main_env orders) ≡ ok t)
    × ((steps depth : ℕ) → SafeRun orders t (run_of orders objects inputs steps depth))
hierarchy_safe = demand_3 orders objects inputs hierarchy.check hierarchy.conform
