-- What the machine's answer must be: the end, the count and the heap of the definition's run.
use Rattle.std.specs.Prelude.{◌≡◌, cond, List, ℕ, ◌+◌, ◌%◌, ◌^◌, ltb, leb}
use Rattle.rules.specs.declared.End.{End}
use Rattle.rules.specs.declared.End.TheVariants.{Returned, Threw, OutOfSteps, TooDeep}
use Rattle.rules.specs.Run.{Ended, heap_after}
use Rattle.laws.specs.Values.{value_at}
use Rattle.room.specs.declared.Focus.{Focus}
use Rattle.room.specs.declared.Focus.TheVariants.{Node, Value, Thrown}
use Rattle.room.specs.declared.Go.{Go}
use Rattle.room.specs.declared.Go.TheVariants.{Moved, Stepped, Limit, Sunk, Stuck, Deep, Over}
use Rattle.ends.specs.declared.Finished.{Finished}
use Rattle.ends.specs.declared.Going.{Going}
use Rattle.std.specs.declared.option.Option.{Option}
use Rattle.std.specs.declared.option.Option.TheVariants.{Some, None}

pub record Finishes (e : Ended) (r : Finished) (heap : List ℕ) : Type 0 where
  pub end_is : r.end ≡ e.end
  pub count_is : r.count ≡ e.count
  pub heap_is : heap ≡ heap_after e

-- the end of a focus that is final
abbrev pub end_of : Focus → End
end_of (Node n) = TooDeep
end_of (Value w) = Returned (value_at w)
end_of (Thrown a p) = Threw (a % 2 ^ 32)

-- a step after which the active place is too deep, if it may be taken
unfoldable pub sunk_at : (limit count : ℕ) → Finished
sunk_at limit count =
    cond (ltb count limit) (record { end = TooDeep; count = count + 1 }) (record { end = OutOfSteps; count = count })

-- how the run goes on after a turn, if it is not at its end
abbrev pub next_of : Go → (limit count : ℕ) → Option Going
next_of (Moved f l) limit count = Some (record { focus = f; level = l; count = count })
next_of (Stepped f l) limit count = cond (leb limit count) None (Some (record { focus = f; level = l; count = count + 1 }))
next_of Limit limit count = None
next_of Sunk limit count = None
next_of (Stuck q) limit count = None
next_of Deep limit count = None
next_of Over limit count = None

-- the end that the last turn makes, with the focus f
abbrev pub ended_at : Go → Focus → (limit count : ℕ) → Finished
ended_at (Moved g l) f limit count = record { end = OutOfSteps; count = count }
ended_at (Stepped g l) f limit count = record { end = OutOfSteps; count = count }
ended_at Limit f limit count = record { end = OutOfSteps; count = count }
ended_at Sunk f limit count = sunk_at limit count
ended_at (Stuck q) f limit count = record { end = End.Stuck q; count = count }
ended_at Deep f limit count = record { end = TooDeep; count = count }
ended_at Over f limit count = record { end = end_of f; count = count }
