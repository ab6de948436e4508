-- What the answers of a step's decisions say of the rules.
use Rattle.std.specs.Prelude.{◌≡◌, Bool, cond, List, ◌∷◌, ℕ, ◌<◌, length}
use Rattle.std.proofs.Math.Option.{some}
use Rattle.words.specs.declared.Value.{Value}
use Rattle.words.specs.declared.Value.TheVariants.{Addr}
use Rattle.words.specs.declared.Ty.TheVariants.{Class}
use Rattle.words.specs.Value.{addresses}
use Rattle.image.specs.Trailer.{method_count}
use Rattle.image.specs.Records.{method_word}
use Rattle.rules.specs.Trees.{Expr, block}
use Rattle.rules.specs.Program.{method_at, program}
use Rattle.rules.specs.Heap.{Heap, look, heap_of}
use Rattle.rules.specs.Step.{Store, null_pointer, thrown_at, Redex, gives, raises, fails, load, Out, to, redex, if_out, throw_out, blocks, call_out, catch_slot}
use Rattle.laws.specs.Values.{value_at, IsValue}
use Rattle.std.specs.declared.option.Option.{Option}
use Rattle.std.specs.declared.option.Option.TheVariants.{Some, None}
use Rattle.redexes.specs.declared.Outcome.{Outcome}
use Rattle.redexes.specs.declared.Outcome.TheVariants.{Gives}
use Rattle.redexes.specs.declared.Entry.{Entry}

-- the redex that an outcome stands for, in a heap that it leaves as it is
unfoldable pub redex_of : Heap → Outcome ℕ → Redex
redex_of h (Gives w) = gives h (value_at w)
redex_of h (Outcome.Raises a) = raises a
redex_of h Outcome.Fails = fails

-- what an outcome hands on is a value's word, or an address
abbrev pub Sound : Outcome ℕ → Type 0
Sound (Gives w) = IsValue w
Sound (Outcome.Raises a) = a < addresses
Sound Outcome.Fails = Unit {0}

-- what an If does whose condition is the value of w
abbrev pub Chooses : (w : ℕ) → Option Bool → Type 0
Chooses w (Some c) = (p : ℕ) (h : Heap) (s : Store) (a b : Expr) → if_out p h s (value_at w) a b ≡ to p h s (cond c a b)
Chooses w None = (p : ℕ) (h : Heap) (s : Store) (a b : Expr) → if_out p h s (value_at w) a b ≡ Out.stuck 0 p

-- a Throw of the value of w is Throw of address a
pub record ThrowsAt (w a : ℕ) : Type 0 where
  pub is : value_at w ≡ Addr a
  pub small : a < addresses
  pub out : (p : ℕ) (h : Heap) (s : Store) → throw_out p h s (value_at w) ≡ Out.thrown a

-- a Throw of the value of w becomes Throw of NullPointer, whose address is a
abbrev pub ThrowsNull : (w a : ℕ) → Type 0
ThrowsNull w a = (a ≡ null_pointer) × ((p : ℕ) (h : Heap) (s : Store) → throw_out p h s (value_at w) ≡ redex p h s (raises a))

-- what a Throw does whose operand is the value of w
abbrev pub Throws : (w : ℕ) → Outcome ℕ → Type 0
Throws w (Gives a) = ThrowsAt w a
Throws w (Outcome.Raises a) = ThrowsNull w a
Throws w Outcome.Fails = (p : ℕ) (h : Heap) (s : Store) → throw_out p h s (value_at w) ≡ Out.stuck 0 p

module _ (ws hs : List ℕ) where
  -- a Call of a name on value v with that many arguments enters method j, on address a
  pub record EntersAt (name count : ℕ) (v : Value) (a j : ℕ) : Type 0 where
    pub is : v ≡ Addr a
    pub small : a < addresses
    pub within : j < method_count ws
    pub arguments : method_word ws j 4 ≡ count
    pub out : (p : ℕ) (s : Store) (vs : List Value) → length vs ≡ count
        → call_out (program ws) p (heap_of (program ws) hs) s name v vs
        ≡ to p (heap_of (program ws) hs) s
        (blocks p 0 (Class (method_at ws j).owner ∷ (method_at ws j).params) (Addr a ∷ vs) (load (method_at ws j).body))

  -- such a Call throws address a, which is a system exception's
  pub record RaisesAt (name count : ℕ) (v : Value) (a : ℕ) : Type 0 where
    pub small : a < addresses
    pub out : (p : ℕ) (s : Store) (vs : List Value) → length vs ≡ count
        → call_out (program ws) p (heap_of (program ws) hs) s name v vs ≡ redex p (heap_of (program ws) hs) s (raises a)

  -- what such a Call does
  abbrev pub Calls : (name count : ℕ) → Value → Outcome Entry → Type 0
  Calls name count v (Gives e) = EntersAt name count v e.object e.method
  Calls name count v (Outcome.Raises a) = RaisesAt name count v a
  Calls name count v Outcome.Fails =
      (p : ℕ) (s : Store) (vs : List Value) → length vs ≡ count
      → call_out (program ws) p (heap_of (program ws) hs) s name v vs ≡ Out.stuck 0 p

  -- what a Try does that catches class c, when address a is thrown
  abbrev pub Tries : (c a : ℕ) → Option Bool → Type 0
  Tries c a (Some catches) =
      (p : ℕ) (s : Store) (x : ℕ) (b : Expr)
      → catch_slot (program ws) p (heap_of (program ws) hs) s c x b a (look (heap_of (program ws) hs) a)
      ≡ to p (heap_of (program ws) hs) s (cond catches (block p x (Class c) (some (Addr a)) b) (thrown_at p a))
  Tries c a None =
      (p : ℕ) (s : Store) (x : ℕ) (b : Expr)
      → catch_slot (program ws) p (heap_of (program ws) hs) s c x b a (look (heap_of (program ws) hs) a) ≡ Out.stuck 0 p
