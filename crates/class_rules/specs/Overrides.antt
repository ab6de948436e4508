-- Laws of 11: what a method is compared with.
use Rattle.std.specs.Prelude.{◌≡◌, false, ◌&&◌}
use Rattle.std.proofs.Math.Option.{Option, some}
use mathlib.Core.List.{List}
use Prim.Native.Nat.{ℕ, ◌+◌, ◌<◌}
use native.Mathlib.Omega.{arith}
use Rattle.words.specs.Types.{type_of}
use Rattle.image.specs.Trailer.{class_count, type_count}
use Rattle.image.specs.Records.{superclass, method_word, type_at}
use Rattle.image.specs.Layout.{Good}
use Rattle.image.specs.declared.Layout.{Layout}
use Rattle.rules.specs.Program.{Method, types_from, method_at, program}
use Rattle.rules.specs.Classes.{subtype, subtypes, sees_method, overrides, override_holds}
use Rattle.classes.specs.Records.{Member, Arguments, method_open, method_arguments}
use Rattle.classes.specs.Types.{super_is}
use Rattle.classes.specs.Subtypes.{subtypes_lengths}

module _ (ws : List ℕ) (i o : ℕ) where
  -- another number of arguments
  pub overrides_not : (method_word ws o 4 ≡ method_word ws i 4 → ⊥)
      → false ≡ overrides (program ws) (method_at ws i) (some (method_at ws o))
  unfolding overrides method_at types_from
  overrides_not h =
      rw (← subtypes_lengths (program ws) (method_word ws o 4) (method_word ws i 4)
      (λ k. type_of (type_at ws (method_word ws o 3 + k)))
      (λ k. type_of (type_at ws (method_word ws i 3 + k)))
      h)

  -- as many arguments
  pub overrides_same : (n : ℕ) → method_word ws o 4 ≡ n → method_word ws i 4 ≡ n
      → (subtypes (program ws) (types_from ws (method_word ws o 3) n) (types_from ws (method_word ws i 3) n)
      && subtype (program ws) (type_of (method_word ws i 2)) (type_of (method_word ws o 2)))
      ≡ overrides (program ws) (method_at ws i) (some (method_at ws o))
  unfolding overrides method_at
  overrides_same n p q = rw (p, q)

-- A method is compared with what the class above its own sees. The code has that class and the name by other names.
pub override_is : (ws : List ℕ) (i : ℕ) {owner name above : ℕ} {x : Option Method} → method_word ws i 0 < class_count ws
    → owner ≡ method_word ws i 0 → name ≡ method_word ws i 1 → above ≡ superclass ws owner → sees_method (program ws) above name ≡ x
    → overrides (program ws) (method_at ws i) x ≡ override_holds (program ws) (method_at ws i)
unfolding override_holds method_at
override_is ws i h p q r s = rw (super_is ws (method_word ws i 0) h, ← p, ← q, ← r, s)

-- what the layout says of a method
module _ (ws : List ℕ) (l : Layout) (g : Good ws l) (i : ℕ) (h : i < l.method_count) where
  pub method_member : Member (class_count ws) (method_word ws i 0) (method_word ws i 1) (method_word ws i 2)
  method_member = method_open ws i (g.methods i (omega (arith, g.lay.method_count_lem)))

  pub method_types : Arguments (type_count ws) (method_word ws i 3) (method_word ws i 4)
  method_types = method_arguments ws i (g.methods i (omega (arith, g.lay.method_count_lem)))
