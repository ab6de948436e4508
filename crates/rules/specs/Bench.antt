-- The paper's starred bench examples: one table, one theorem, by computation over the images as words.
use Rattle.std.specs.Prelude.{ℕ, suc, ◌+◌, ◌*◌, ◌/◌, ◌≡◌, refl, List, [], ◌∷◌, ◌++◌, map, length, replicate}
use Rattle.std.proofs.Math.Option.{Option, none, some}
use Rattle.order.specs.declared.Answer.{Answer}
use Rattle.words.specs.declared.Value.{Value}
use Rattle.words.specs.declared.Value.TheVariants.{Intg, Addr}
use Rattle.order.specs.Rules.{answer_of}
use Rattle.rules.specs.Run.{run_of}
use Rattle.rules.specs.Numbers.{room_words, check_rules, run_rules, end_numbers, end_value}
use Rattle.rules.specs.Computing.{computing}

-- Class 4 extends 0, has field 7 of type Integer and method 9, which returns `this.7`: nodes 0 and 1. Then main's nodes.
unfoldable pub image : (types nodes : List ℕ) → List ℕ
image types nodes =
    (0 ∷ 0 ∷ 0 ∷ 0 ∷ 0 ∷ [])
    ++ ((4 ∷ 7 ∷ 2 ∷ [])
    ++ ((4 ∷ 9 ∷ 2 ∷ 0 ∷ 0 ∷ 1 ∷ [])
    ++ (types
    ++ ((3 ∷ 1 ∷ 0 ∷ 0 ∷ 7 ∷ 2 ∷ 7 ∷ 4 ∷ []) ++ (nodes ++ trailing (length types) (length nodes))))))
  where
    -- distances from the end, the main node, main's inputs, the format
    trailing : ℕ → ℕ → List ℕ
    trailing t n =
        (t + n + 30) ∷ (t + n + 25) ∷ (t + n + 22) ∷ (t + n + 16) ∷ (n + 16) ∷ suc (n / 4) ∷ t ∷ 1 ∷ []

-- the three system objects, and so many free slots
unfoldable pub heap : ℕ → List ℕ
heap slots = (2 ∷ replicate 15 0) ++ ((3 ∷ replicate 15 0) ++ ((4 ∷ replicate 15 0) ++ replicate (16 * slots) 0))

pub record Row : Type 0 where
  pub words : List ℕ
  pub inputs : List ℕ
  pub free : ℕ
  pub steps : ℕ
  pub depth : ℕ

-- what the check and the run say: the check's number and place, the run's refusal, its end's number and place, its value, its count
pub record Answers : Type 0 where
  pub check : Answer
  pub refusal : Answer
  pub end : Answer
  pub value : Option Value
  pub count : ℕ

unfoldable pub found_in : Row → Answers
found_in r =
    let ended = run_of r.words (heap r.free) r.inputs r.steps r.depth in
    record {
      check = answer_of (check_rules r.words);
      refusal = answer_of (run_rules r.words (heap r.free) r.inputs (room_words r.depth) r.depth);
      end = end_numbers ended.end;
      value = end_value ended.end;
      count = ended.count;
    }

-- main alone, under the table's usual limits: one free slot, 100 steps, depth 8
unfoldable pub plain : List ℕ → Row
plain nodes = record { words = image [] nodes; inputs = []; free = 1; steps = 100; depth = 8 }

abbrev pub at : ℕ → ℕ → Answer
at n p = record { number = n; place = p }

-- an accepted main that ends so
unfoldable pub ends : ℕ → Option Value → ℕ → Answers
ends n v k = record { check = at 0 0; refusal = at 0 0; end = at n 0; value = v; count = k }

-- { V : Integer; V := 2; V + V }, and the same with V := 1 + 1
abbrev pub doubled : List ℕ
doubled =
    2 ∷ 1 ∷ 3 ∷ 2 ∷ 6 ∷ 2 ∷ 1 ∷ 0 ∷ 3 ∷ 1 ∷ 1 ∷ 0 ∷ 3 ∷ 1 ∷ 1 ∷ 0 ∷ 4 ∷ 3 ∷ 0 ∷ 0 ∷ 11 ∷ 6 ∷ 0 ∷ 0 ∷ 10 ∷ 7 ∷ 1 ∷ 2 ∷ []

abbrev pub summed : List ℕ
summed =
    2 ∷ 1 ∷ 3 ∷ 1 ∷ 2 ∷ 1 ∷ 3 ∷ 1 ∷ 4 ∷ 3 ∷ 0 ∷ 0 ∷ 6 ∷ 4 ∷ 1 ∷ 0
    ∷ 3 ∷ 1 ∷ 1 ∷ 0 ∷ 3 ∷ 1 ∷ 1 ∷ 0 ∷ 4 ∷ 3 ∷ 0 ∷ 0 ∷ 11 ∷ 8 ∷ 0 ∷ 0 ∷ 10 ∷ 9 ∷ 1 ∷ 2 ∷ []

-- Try Throw (New 4) Catch (4 V) V
abbrev pub caught : List ℕ
caught = 0 ∷ 1 ∷ 4 ∷ 0 ∷ 14 ∷ 2 ∷ 8 ∷ 0 ∷ 3 ∷ 1 ∷ 1 ∷ 0 ∷ 15 ∷ 4 ∷ 4 ∷ 1 ∷ []

pub record Example : Type 0 where
  pub row : Row
  pub wanted : Answers

abbrev pub example : Row → Answers → Example
example r w = record { row = r; wanted = w }

unfoldable pub table : List Example
table =
    -- 5, limit 0
    example (record { words = image [] (2 ∷ 1 ∷ 3 ∷ 5 ∷ []); inputs = []; free = 1; steps = 0; depth = 8 }) (ends 30 (some (Intg 5)) 0)
    -- Add 2147483647, 1: -2147483648
    ∷ example (plain (2 ∷ 1 ∷ 3 ∷ 2147483647 ∷ 2 ∷ 1 ∷ 3 ∷ 1 ∷ 4 ∷ 3 ∷ 0 ∷ 0 ∷ [])) (ends 30 (some (Intg 2147483648)) 1)
    ∷ example (plain doubled) (ends 30 (some (Intg 4)) 4)
    ∷ example (plain summed) (ends 30 (some (Intg 4)) 5)
    -- at limit 4
    ∷ example (record { words = image [] summed; inputs = []; free = 1; steps = 4; depth = 8 }) (ends 32 none 4)
    -- (V := 2); V, an Integer input holding 7
    ∷ example
    (record {
      words = image (2 ∷ []) (2 ∷ 1 ∷ 3 ∷ 2 ∷ 6 ∷ 2 ∷ 1 ∷ 0 ∷ 3 ∷ 1 ∷ 1 ∷ 0 ∷ 11 ∷ 4 ∷ 0 ∷ 0 ∷ []);
      inputs = 12884901895 ∷ [];
      free = 1;
      steps = 100;
      depth = 8;
    })
    (ends 30 (some (Intg 2)) 3)
    -- While (false) Unit
    ∷ example (plain (2 ∷ 1 ∷ 2 ∷ 0 ∷ 2 ∷ 1 ∷ 0 ∷ 0 ∷ 13 ∷ 3 ∷ 0 ∷ 0 ∷ [])) (ends 30 (some Value.Unit) 2)
    ∷ example (plain caught) (ends 30 (some (Addr 3)) 4)
    -- no free slot
    ∷ example (record { words = image [] caught; inputs = []; free = 0; steps = 100; depth = 8 }) (ends 31 (some (Addr 2)) 3)
    -- { V : Class 4; V := null; V.7 }
    ∷ example
    (plain (2 ∷ 1 ∷ 1 ∷ 0 ∷ 6 ∷ 2 ∷ 1 ∷ 0 ∷ 3 ∷ 1 ∷ 1 ∷ 0 ∷ 7 ∷ 2 ∷ 7 ∷ 4 ∷ 11 ∷ 5 ∷ 0 ∷ 0 ∷ 10 ∷ 6 ∷ 1 ∷ 8 ∷ []))
    (ends 31 (some (Addr 0)) 3)
    -- (New 4).9()
    ∷ example (plain (0 ∷ 1 ∷ 4 ∷ 0 ∷ 9 ∷ 2 ∷ 9 ∷ 0 ∷ [])) (ends 30 (some (Intg 0)) 5)
    -- { V : Integer; V }
    ∷ example (plain (3 ∷ 1 ∷ 1 ∷ 0 ∷ 10 ∷ 2 ∷ 1 ∷ 2 ∷ []))
    (record { check = at 13 2; refusal = at 0 0; end = at 34 2; value = none; count = 0 })
    ∷ []

pub bench : map (λ x. found_in x.row) table ≡ map (λ x. x.wanted) table
unfolding computing image heap found_in plain ends table
bench = refl
