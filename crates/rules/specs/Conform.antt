-- Conformity: of a value to a type, of a heap, of inputs.
use Rattle.std.specs.Prelude.{Bool, true, false, ◌&&◌, List, [], ◌∷◌}
use Rattle.words.specs.declared.Value.{Value}
use Rattle.words.specs.declared.Value.TheVariants.{Null, Intg, Addr}
use Rattle.words.specs.declared.Ty.{Ty}
use Rattle.words.specs.declared.Ty.TheVariants.{Void, Boolean, Integer, NT, Class}
use Rattle.rules.specs.Program.{Program}
use Rattle.rules.specs.Classes.{subtype, same_type}
use Rattle.rules.specs.Heap.{Slot, free, obj, Heap, look}

module _ (P : Program) where
  -- an address conforms to class C when its slot holds a subclass of C
  unfoldable pub slot_conforms : Slot → Ty → Bool
  slot_conforms free t = false
  slot_conforms (obj c vs) t = subtype P (Class c) t

  -- Unit, Bool and Integer values conform to their own type alone, Null to every class and to the null type.
  unfoldable pub conforms : Heap → Value → Ty → Bool
  conforms h Value.Unit t = same_type t Void
  conforms h Null t = subtype P NT t
  conforms h (Value.Bool b) t = same_type t Boolean
  conforms h (Intg n) t = same_type t Integer
  conforms h (Addr a) t = slot_conforms (look h a) t

  unfoldable pub values_conform : Heap → List Value → List Ty → Bool
  values_conform h [] [] = true
  values_conform h [] (t ∷ ts) = false
  values_conform h (v ∷ vs) [] = false
  values_conform h (v ∷ vs) (t ∷ ts) = conforms h v t && values_conform h vs ts
