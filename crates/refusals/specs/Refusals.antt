-- The number and place of each refusal of a run.
use Rattle.order.specs.declared.Answer.{Answer}
use Rattle.image.specs.Layout.{breach_numbers}
use Rattle.refusals.specs.declared.Refusal.{Refusal}
use Rattle.refusals.specs.declared.Refusal.TheVariants.{Layout, Fields, HeapLength, HeapWord, Input, Depth, Room}

abbrev pub refusal_numbers : Refusal → Answer
refusal_numbers (Layout b) = breach_numbers b
refusal_numbers (Fields p) = record { number = 10; place = p }
refusal_numbers HeapLength = record { number = 14; place = 0 }
refusal_numbers (HeapWord p) = record { number = 15; place = p }
refusal_numbers (Input p) = record { number = 16; place = p }
refusal_numbers Depth = record { number = 19; place = 0 }
refusal_numbers Room = record { number = 20; place = 0 }
