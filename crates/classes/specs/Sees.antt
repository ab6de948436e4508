-- What a class sees of a name: a record of one of the two tables of members, or nothing.
use Rattle.std.specs.Prelude.{◌≡◌, List, ℕ, ◌<◌}
use Rattle.std.proofs.Math.Option.{none, some}
use Rattle.std.specs.declared.option.Option.{Option}
use Rattle.std.specs.declared.option.Option.TheVariants.{Some, None}
use Rattle.image.specs.Trailer.{class_count, field_count, method_count}
use Rattle.image.specs.Records.{field_word, method_word}
use Rattle.rules.specs.Program.{field_at, method_at, program}
use Rattle.rules.specs.Classes.{sees_field, sees_method}
use Rattle.classes.specs.declared.Members.{Members}
use Rattle.classes.specs.declared.Members.TheVariants.{Fields, Methods}
use Rattle.classes.specs.declared.Member.{Member}

-- class c sees field i, which class d declares
pub record FieldAt (ws : List ℕ) (c name d i : ℕ) : Type 0 where
  pub sees : sees_field (program ws) c name ≡ some (field_at ws i)
  pub within : i < field_count ws
  pub owner : field_word ws i 0 ≡ d
  pub class : d < class_count ws

-- class c sees method i, which class d declares
pub record MethodAt (ws : List ℕ) (c name d i : ℕ) : Type 0 where
  pub sees : sees_method (program ws) c name ≡ some (method_at ws i)
  pub within : i < method_count ws
  pub owner : method_word ws i 0 ≡ d
  pub class : d < class_count ws

abbrev pub Sees : List ℕ → Members → (c name : ℕ) → Option Member → Type 0
Sees ws Fields c name (Some m) = FieldAt ws c name m.owner m.record
Sees ws Fields c name None = sees_field (program ws) c name ≡ none
Sees ws Methods c name (Some m) = MethodAt ws c name m.owner m.record
Sees ws Methods c name None = sees_method (program ws) c name ≡ none
