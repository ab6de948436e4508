-- The invariant: the trees that are left, from where the walk stands, begin where all of them do.
use Rattle.std.proofs.Common.{◌≡◌, ◌≤◌, ◌-◌}
use Rattle.image.specs.Nodes.{reach}
use Rattle.nodes.proofs.reach.Given as goal

abbrev pub invariant-loop : goal.invariant-loop
invariant-loop l =
    (l.at ≤ l.e) × (reach l.sections.words.now (l.k - l.counter) l.at ≡ reach l.sections.words.now l.k l.e)
