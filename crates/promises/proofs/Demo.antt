-- The premises of demand 3 for programs can be met, the run's answer too: by computation, for a bench program, and for one with a class
-- hierarchy, an override and a caught exception.
use Rattle.std.specs.Prelude.{ℕ, ◌≡◌, refl, List, []}
use Rattle.std.proofs.Common.{sym, ◌∙◌, arith}
use Rattle.words.specs.declared.Value.TheVariants.{Intg}
use Rattle.words.specs.declared.Ty.TheVariants.{Integer}
use Rattle.rules.specs.declared.End.TheVariants.{Returned}
use Rattle.rules.specs.Program.{program, main, main_env}
use Rattle.rules.specs.Typing.{ok, typing}
use Rattle.rules.specs.Computing.{computing}
use Rattle.rules.specs.Bench.{image, heap}
use Rattle.figures.proofs.Agreement.{ok_inj}
use Rattle.safety.specs.Demo.{Accepts, bench_image, orders, objects, inputs}
use Rattle.safety.proofs.Demo.{bench, hierarchy}
use Rattle.std.specs.declared.result.Result.TheVariants.{Ok}
use Rattle.run.specs.Answers.{Ran, Over}
use Rattle.promises.specs.Demand3.{LetIn, Enough}
use Rattle.promises.proofs.Demand3.{demand_3}
use Rattle.promises.specs.Demo.{Given, Safe, bench_left, lent, objects_left}

pub enough : Enough lent 8
enough = record { least = omega arith; most = omega arith; room = omega arith }

pub let_in : {ws hs is : List ℕ} → Accepts ws hs is → LetIn ws hs is (Ok tt) (Ok tt)
let_in a =
    record {
      check_promise = sym a.check;
      conform_promise = sym a.conform;
      check_accepts = refl;
      conform_accepts = refl;
    }

given_safe : (ws hs is : List ℕ) → Accepts ws hs is → typing (program ws) (main ws) (main_env ws) ≡ ok Integer
    → (r : Ran) (left : List ℕ) → Given ws hs is r left → Safe ws r left
given_safe ws hs is a m r left g =
    let s = demand_3 ws hs is (Ok tt) (Ok tt) (let_in a) in
    let e : s.0 ≡ Integer = ok_inj (sym s.1 ∙ m) in
    rw e at (s.2 lent 100 8 enough r left lent g)

bench_type : typing (program bench_image) (main bench_image) (main_env bench_image) ≡ ok Integer
unfolding computing image bench_image
bench_type = refl

pub bench_given : Given bench_image (heap 1) [] (Over (Returned (Intg 0)) 5) bench_left
unfolding computing image heap bench_image bench_left
bench_given = record { sound = refl; end = refl; count = refl; heap = refl; room = refl }

pub bench_safe : Safe bench_image (Over (Returned (Intg 0)) 5) bench_left
bench_safe = given_safe bench_image (heap 1) [] bench bench_type (Over (Returned (Intg 0)) 5) bench_left bench_given

orders_type : typing (program orders) (main orders) (main_env orders) ≡ ok Integer
unfolding computing orders
orders_type = refl

pub hierarchy_given : Given orders objects inputs (Over (Returned (Intg 42)) 11) objects_left
unfolding computing heap orders objects inputs objects_left
hierarchy_given = record { sound = refl; end = refl; count = refl; heap = refl; room = refl }

pub hierarchy_safe : Safe orders (Over (Returned (Intg 42)) 11) objects_left
hierarchy_safe = given_safe orders objects inputs hierarchy orders_type (Over (Returned (Intg 42)) 11) objects_left hierarchy_given
