-- `fresh::enter_new` meets its contract.
use Prim.Native.Nat.{ℕ}
use Rattle.pushes.specs.EnterLaws.{holds_at}
use Rattle.fresh.specs.NewLaws.{new_could, new_full, new_opens, new_steps, new_throws}
use Rattle.objects.specs.Made.{Opens}
use Rattle.room.specs.Nodes.{new_class}
use mathlib.Core.Bool.{false, true}
use mathlib.Core.Path.{◌∙◌, ◌≡◌, refl, sym}
use native.Mathlib.Numerals.{add-one}
use native.Mathlib.Omega.{arith}
use Rattle.fresh.proofs.enter_new.Goals as goal

pub returns-then-not-may : goal.returns-then-not-may
returns-then-not-may c = λ D inv low. (new_could _ c.args.table.now.image.good.nodes D _ _ _ _ inv low c.requires.2 c.requires.3 _ _ (new_opens _ _ _ c.requires.3 _ _ (rw c.in-Some.is at c.lowest_free.ensures)), c.if-not-may.true, refl)

pub new_object-requires : goal.new_object-requires
new_object-requires c = let o : Opens _ _ 0 _ _ = (new_opens _ _ _ c.requires.3 _ _ (rw c.in-Some.is at c.lowest_free.ensures)) in (c.requires.3.words, rw (c.node_word-c.ensures, c.args.table.now.image.good.lay.class_count_lem) (new_class _ _ (holds_at c.args.table.now.image.good c.requires.0) c.requires.2), o.inside, o.empty)

pub overflow_add-room : goal.overflow_add-room
overflow_add-room c = let o : Opens _ _ 0 _ _ = (new_opens _ _ _ c.requires.3 _ _ (rw c.in-Some.is at c.lowest_free.ensures)) in omega (arith, o.known)

pub overflow_add-result : goal.overflow_add-result
overflow_add-result c = let o : Opens _ _ 0 _ _ = (new_opens _ _ _ c.requires.3 _ _ (rw c.in-Some.is at c.lowest_free.ensures)) in omega (arith, o.known)

pub returns-in-None : goal.returns-in-None
returns-in-None c = λ D inv low. (new_throws _ c.args.table.now.image.good.nodes D _ _ _ _ inv low c.requires.2 c.requires.3 (new_full _ _ _ c.requires.3 _ (rw c.in-None.is at c.lowest_free.ensures)), λ e. refl)

pub returns-else-not-may : goal.returns-else-not-may
returns-else-not-may c = λ D inv low. (rw (add-one c.in-Some.a) (new_steps _ c.args.table.now.image.good.nodes D _ _ _ _ inv low c.requires.2 c.requires.3 _ _ (new_opens _ _ _ c.requires.3 _ _ (rw c.in-Some.is at c.lowest_free.ensures)) _ (rw c.node_word-c.ensures at c.new_object.ensures)), λ e. absurd (let z : true ≡ false = sym c.if-not-may.false ∙ e in let y : ◌≡◌ {A = ℕ} 0 1 = cc in omega arith))
