-- Appendix B of the report, the reduction rules, with the paper's choices: a rule for each rule there, in its order and by its
-- constructs. `Reduces e h l e' h' l'`: in one step e becomes e', the heap h becomes h' and the store l becomes l'.
-- A result that a rule computes is a variable with an equation. A new node has the place of the node that makes it; values need none.
use Rattle.std.specs.Prelude.{ℕ, ◌+◌, ◌%◌, ◌^◌, ◌≡◌, true, false, List, [], ◌∷◌, length, get_or, set}
use Rattle.std.proofs.Math.Option.{none, some}
use Rattle.words.specs.declared.Value.{Value}
use Rattle.words.specs.declared.Value.TheVariants.{Null, Intg, Addr}
use Rattle.words.specs.declared.Ty.{Ty}
use Rattle.words.specs.declared.Ty.TheVariants.{Class}
use Rattle.rules.specs.Maps.{upd}
use Rattle.rules.specs.Trees.{Expr, Exprs, new, cast, val, var, add, eq, assign, get, put, call, block, seq, ite, while, throw, try, nil, cons}
use Rattle.rules.specs.Program.{Method, Program}
use Rattle.rules.specs.Classes.{subclass, sees_method, has_fields, field_index}
use Rattle.rules.specs.Heap.{obj, Heap, look, defaults, lowest_free}
use Rattle.rules.specs.Step.{Store, null_pointer, class_cast, out_of_memory, thrown_at, blocked, load, blocks, bare}

-- A final expression: a value, or Throw of an address.
pub data Final : Expr → Type 0 where
  AValue : {p : ℕ} {v : Value} → Final (val p v)
  AnException : {p q a : ℕ} {t : Ty} → Final (throw p t (val q (Addr a)))

-- operands that are values, and these values
pub data Values : Exprs → List Value → Type 0 where
  NoValue : Values nil []
  OneValue : {q : ℕ} {v : Value} {es : Exprs} {vs : List Value} → Values es vs → Values (cons (val q v) es) (v ∷ vs)

-- operands that are values up to one that is Throw of an address, and this address
pub data Throws : Exprs → ℕ → Type 0 where
  Now : {q r a : ℕ} {t : Ty} {es : Exprs} → Throws (cons (throw q t (val r (Addr a))) es) a
  Later : {q a : ℕ} {v : Value} {es : Exprs} → Throws es a → Throws (cons (val q v) es) a

module _ (P : Program) where
  mutual
    pub data Reduces : Expr → Heap → Store → Expr → Heap → Store → Type 0 where
      -- New. The paper: the lowest free slot; the address of OutOfMemory is 2.
      New : {p c a : ℕ} {h h' : Heap} {l : Store}
          → lowest_free h ≡ some a
          → set h a (obj c (defaults (has_fields P c))) ≡ h'
          → Reduces (new p c) h l (bare (Addr a)) h' l
      NewNoMemory : {p c : ℕ} {h : Heap} {l : Store}
          → lowest_free h ≡ none
          → Reduces (new p c) h l (thrown_at p out_of_memory) h l
      -- Cast. The paper: the address of ClassCast is 1. An exception moves, here and below, only once it is Throw of an address.
      CastStep : {p c : ℕ} {e e' : Expr} {h h' : Heap} {l l' : Store}
          → Reduces e h l e' h' l'
          → Reduces (cast p c e) h l (cast p c e') h' l'
      CastNull : {p c q : ℕ} {h : Heap} {l : Store} → Reduces (cast p c (val q Null)) h l (bare Null) h l
      Cast : {p c q a d : ℕ} {vs : List Value} {h : Heap} {l : Store}
          → look h a ≡ obj d vs
          → subclass P d c ≡ true
          → Reduces (cast p c (val q (Addr a))) h l (bare (Addr a)) h l
      CastFails : {p c q a d : ℕ} {vs : List Value} {h : Heap} {l : Store}
          → look h a ≡ obj d vs
          → subclass P d c ≡ false
          → Reduces (cast p c (val q (Addr a))) h l (thrown_at p class_cast) h l
      CastThrow : {p c q r a : ℕ} {t : Ty} {h : Heap} {l : Store} → Reduces (cast p c (throw q t (val r (Addr a)))) h l (thrown_at p a) h l
      -- Binary operation, first Add. The paper: it is modulo 2^32 and needs two Integers.
      AddFirst : {p : ℕ} {a a' b : Expr} {h h' : Heap} {l l' : Store}
          → Reduces a h l a' h' l'
          → Reduces (add p a b) h l (add p a' b) h' l'
      AddSecond : {p q : ℕ} {v : Value} {b b' : Expr} {h h' : Heap} {l l' : Store}
          → Reduces b h l b' h' l'
          → Reduces (add p (val q v) b) h l (add p (val q v) b') h' l'
      Add : {p q r m n k : ℕ} {h : Heap} {l : Store}
          → (m + n) % 2 ^ 32 ≡ k
          → Reduces (add p (val q (Intg m)) (val r (Intg n))) h l (bare (Intg k)) h l
      AddFirstThrow : {p q r a : ℕ} {t : Ty} {b : Expr} {h : Heap} {l : Store}
          → Reduces (add p (throw q t (val r (Addr a))) b) h l (thrown_at p a) h l
      AddSecondThrow : {p s q r a : ℕ} {v : Value} {t : Ty} {h : Heap} {l : Store}
          → Reduces (add p (val s v) (throw q t (val r (Addr a)))) h l (thrown_at p a) h l
      -- then Eq. The paper: it is true when both values are the same, over all values.
      EqFirst : {p : ℕ} {a a' b : Expr} {h h' : Heap} {l l' : Store}
          → Reduces a h l a' h' l'
          → Reduces (eq p a b) h l (eq p a' b) h' l'
      EqSecond : {p q : ℕ} {v : Value} {b b' : Expr} {h h' : Heap} {l l' : Store}
          → Reduces b h l b' h' l'
          → Reduces (eq p (val q v) b) h l (eq p (val q v) b') h' l'
      EqTrue : {p q r : ℕ} {v w : Value} {h : Heap} {l : Store}
          → v ≡ w
          → Reduces (eq p (val q v) (val r w)) h l (bare (Value.Bool true)) h l
      EqFalse : {p q r : ℕ} {v w : Value} {h : Heap} {l : Store}
          → ¬ (v ≡ w)
          → Reduces (eq p (val q v) (val r w)) h l (bare (Value.Bool false)) h l
      EqFirstThrow : {p q r a : ℕ} {t : Ty} {b : Expr} {h : Heap} {l : Store}
          → Reduces (eq p (throw q t (val r (Addr a))) b) h l (thrown_at p a) h l
      EqSecondThrow : {p s q r a : ℕ} {v : Value} {t : Ty} {h : Heap} {l : Store}
          → Reduces (eq p (val s v) (throw q t (val r (Addr a)))) h l (thrown_at p a) h l
      -- Variable access.
      Var : {p x : ℕ} {v : Value} {h : Heap} {l : Store} → l x ≡ some v → Reduces (var p x) h l (bare v) h l
      -- Variable assignment.
      AssignStep : {p x : ℕ} {e e' : Expr} {h h' : Heap} {l l' : Store}
          → Reduces e h l e' h' l'
          → Reduces (assign p x e) h l (assign p x e') h' l'
      Assign : {p x q : ℕ} {v : Value} {h : Heap} {l l' : Store}
          → upd l x (some v) ≡ l'
          → Reduces (assign p x (val q v)) h l (bare v) h l'
      AssignThrow : {p x q r a : ℕ} {t : Ty} {h : Heap} {l : Store}
          → Reduces (assign p x (throw q t (val r (Addr a)))) h l (thrown_at p a) h l
      -- Field access. The paper: an object having that field of that class; the address of NullPointer is 0.
      GetStep : {p f d : ℕ} {e e' : Expr} {h h' : Heap} {l l' : Store}
          → Reduces e h l e' h' l'
          → Reduces (get p f d e) h l (get p f d e') h' l'
      Get : {p f d q a c i : ℕ} {vs : List Value} {v : Value} {h : Heap} {l : Store}
          → look h a ≡ obj c vs
          → field_index (has_fields P c) d f ≡ some i
          → get_or vs i Value.Unit ≡ v
          → Reduces (get p f d (val q (Addr a))) h l (bare v) h l
      GetNull : {p f d q : ℕ} {h : Heap} {l : Store} → Reduces (get p f d (val q Null)) h l (thrown_at p null_pointer) h l
      GetThrow : {p f d q r a : ℕ} {t : Ty} {h : Heap} {l : Store}
          → Reduces (get p f d (throw q t (val r (Addr a)))) h l (thrown_at p a) h l
      -- Field assignment. The paper: an object having that field of that class; a set never adds one.
      SetFirst : {p f d : ℕ} {a a' b : Expr} {h h' : Heap} {l l' : Store}
          → Reduces a h l a' h' l'
          → Reduces (put p f d a b) h l (put p f d a' b) h' l'
      SetSecond : {p f d q : ℕ} {v : Value} {b b' : Expr} {h h' : Heap} {l l' : Store}
          → Reduces b h l b' h' l'
          → Reduces (put p f d (val q v) b) h l (put p f d (val q v) b') h' l'
      Set : {p f d q r a c j : ℕ} {vs : List Value} {v : Value} {h h' : Heap} {l : Store}
          → look h a ≡ obj c vs
          → field_index (has_fields P c) d f ≡ some j
          → set h a (obj c (set vs j v)) ≡ h'
          → Reduces (put p f d (val q (Addr a)) (val r v)) h l (bare v) h' l
      SetNull : {p f d q r : ℕ} {v : Value} {h : Heap} {l : Store} → Reduces (put p f d (val q Null) (val r v)) h l (thrown_at p null_pointer) h l
      SetFirstThrow : {p f d q r a : ℕ} {t : Ty} {b : Expr} {h : Heap} {l : Store}
          → Reduces (put p f d (throw q t (val r (Addr a))) b) h l (thrown_at p a) h l
      SetSecondThrow : {p f d s q r a : ℕ} {v : Value} {t : Ty} {h : Heap} {l : Store}
          → Reduces (put p f d (val s v) (throw q t (val r (Addr a)))) h l (thrown_at p a) h l
      -- Method call. The blocks that it makes remember `this` and the arguments.
      CallStep : {p m : ℕ} {e e' : Expr} {es : Exprs} {h h' : Heap} {l l' : Store}
          → Reduces e h l e' h' l'
          → Reduces (call p m e es) h l (call p m e' es) h' l'
      CallArguments : {p m q : ℕ} {v : Value} {es es' : Exprs} {h h' : Heap} {l l' : Store}
          → ReducesAll es h l es' h' l'
          → Reduces (call p m (val q v) es) h l (call p m (val q v) es') h' l'
      Call : {p m q a c : ℕ} {fs vs : List Value} {r : Method} {es : Exprs} {e' : Expr} {h : Heap} {l : Store}
          → Values es vs
          → look h a ≡ obj c fs
          → sees_method P c m ≡ some r
          → length vs ≡ length r.params
          → blocks p 0 (Class r.owner ∷ r.params) (Addr a ∷ vs) (load r.body) ≡ e'
          → Reduces (call p m (val q (Addr a)) es) h l e' h l
      CallNull : {p m q : ℕ} {vs : List Value} {es : Exprs} {h : Heap} {l : Store}
          → Values es vs
          → Reduces (call p m (val q Null) es) h l (thrown_at p null_pointer) h l
      CallThrow : {p m q r a : ℕ} {t : Ty} {es : Exprs} {h : Heap} {l : Store}
          → Reduces (call p m (throw q t (val r (Addr a))) es) h l (thrown_at p a) h l
      CallArgumentThrow : {p m q a : ℕ} {v : Value} {es : Exprs} {h : Heap} {l : Store}
          → Throws es a
          → Reduces (call p m (val q v) es) h l (thrown_at p a) h l
      -- Block. Inside, the store has x as the block remembers it; afterwards x is given back.
      -- The paper: a block remembers v as soon as its body is `x := v; e` (`blocked`); `block p x t (some v) e` stands for that.
      -- So the report's premise, that the body of a block that does not remember is not of this form, needs no saying: Remembering.
      BlockStep : {p x : ℕ} {t : Ty} {e e₁ e' : Expr} {h h' : Heap} {l l₀ l₁ l' : Store}
          → upd l x none ≡ l₀
          → Reduces e h l₀ e₁ h' l₁
          → l₁ x ≡ none
          → blocked p x t none e₁ ≡ e'
          → upd l₁ x (l x) ≡ l'
          → Reduces (block p x t none e) h l e' h' l'
      BlockBegins : {p x : ℕ} {t : Ty} {v : Value} {e e' : Expr} {h h' : Heap} {l l₀ l₁ l' : Store}
          → upd l x none ≡ l₀
          → Reduces e h l₀ e' h' l₁
          → l₁ x ≡ some v
          → upd l₁ x (l x) ≡ l'
          → Reduces (block p x t none e) h l (block p x t (some v) e') h' l'
      BlockRemembers : {p x : ℕ} {t : Ty} {v v' : Value} {e e' : Expr} {h h' : Heap} {l l₀ l₁ l' : Store}
          → upd l x (some v) ≡ l₀
          → Reduces e h l₀ e' h' l₁
          → l₁ x ≡ some v'
          → upd l₁ x (l x) ≡ l'
          → Reduces (block p x t (some v) e) h l (block p x t (some v') e') h' l'
      Block : {p x q : ℕ} {t : Ty} {u : Value} {h : Heap} {l : Store}
          → Reduces (block p x t none (val q u)) h l (val q u) h l
      BlockRemembering : {p x q : ℕ} {t : Ty} {v u : Value} {h : Heap} {l : Store}
          → Reduces (block p x t (some v) (val q u)) h l (val q u) h l
      BlockThrow : {p x q r a : ℕ} {t u : Ty} {h : Heap} {l : Store}
          → Reduces (block p x t none (throw q u (val r (Addr a)))) h l (thrown_at p a) h l
      BlockRememberingThrow : {p x q r a : ℕ} {t u : Ty} {v : Value} {h : Heap} {l : Store}
          → Reduces (block p x t (some v) (throw q u (val r (Addr a)))) h l (thrown_at p a) h l
      -- Sequential composition.
      SeqStep : {p : ℕ} {a a' b : Expr} {h h' : Heap} {l l' : Store}
          → Reduces a h l a' h' l'
          → Reduces (seq p a b) h l (seq p a' b) h' l'
      Seq : {p q : ℕ} {v : Value} {b : Expr} {h : Heap} {l : Store} → Reduces (seq p (val q v) b) h l b h l
      SeqThrow : {p q r a : ℕ} {t : Ty} {b : Expr} {h : Heap} {l : Store}
          → Reduces (seq p (throw q t (val r (Addr a))) b) h l (thrown_at p a) h l
      -- Conditional.
      IfStep : {p : ℕ} {c c' a b : Expr} {h h' : Heap} {l l' : Store}
          → Reduces c h l c' h' l'
          → Reduces (ite p c a b) h l (ite p c' a b) h' l'
      IfTrue : {p q : ℕ} {a b : Expr} {h : Heap} {l : Store}
          → Reduces (ite p (val q (Value.Bool true)) a b) h l a h l
      IfFalse : {p q : ℕ} {a b : Expr} {h : Heap} {l : Store}
          → Reduces (ite p (val q (Value.Bool false)) a b) h l b h l
      IfThrow : {p q r n : ℕ} {t : Ty} {a b : Expr} {h : Heap} {l : Store}
          → Reduces (ite p (throw q t (val r (Addr n))) a b) h l (thrown_at p n) h l
      -- While loop. The paper: the If and the Seq have the While's place.
      While : {p : ℕ} {c e : Expr} {h : Heap} {l : Store}
          → Reduces (while p c e) h l (ite p c (seq p e (while p c e)) (bare Value.Unit)) h l
      -- Throw.
      ThrowStep : {p : ℕ} {t : Ty} {e e' : Expr} {h h' : Heap} {l l' : Store}
          → Reduces e h l e' h' l'
          → Reduces (throw p t e) h l (throw p t e') h' l'
      ThrowNull : {p q : ℕ} {t : Ty} {h : Heap} {l : Store}
          → Reduces (throw p t (val q Null)) h l (thrown_at p null_pointer) h l
      ThrowThrow : {p q r a : ℕ} {t u : Ty} {h : Heap} {l : Store}
          → Reduces (throw p t (throw q u (val r (Addr a)))) h l (thrown_at p a) h l
      -- Try-Catch.
      TryStep : {p c x : ℕ} {a a' b : Expr} {h h' : Heap} {l l' : Store}
          → Reduces a h l a' h' l'
          → Reduces (try p c x a b) h l (try p c x a' b) h' l'
      Try : {p c x q : ℕ} {v : Value} {b : Expr} {h : Heap} {l : Store}
          → Reduces (try p c x (val q v) b) h l (val q v) h l
      TryCatch : {p c x q r a d : ℕ} {t : Ty} {vs : List Value} {b : Expr} {h : Heap} {l : Store}
          → look h a ≡ obj d vs
          → subclass P d c ≡ true
          → Reduces (try p c x (throw q t (val r (Addr a))) b) h l (block p x (Class c) (some (Addr a)) b) h l
      TryFails : {p c x q r a d : ℕ} {t : Ty} {vs : List Value} {b : Expr} {h : Heap} {l : Store}
          → look h a ≡ obj d vs
          → subclass P d c ≡ false
          → Reduces (try p c x (throw q t (val r (Addr a))) b) h l (thrown_at p a) h l

    -- Expression list.
    pub data ReducesAll : Exprs → Heap → Store → Exprs → Heap → Store → Type 0 where
      ListFirst : {e e' : Expr} {es : Exprs} {h h' : Heap} {l l' : Store}
          → Reduces e h l e' h' l'
          → ReducesAll (cons e es) h l (cons e' es) h' l'
      ListRest : {q : ℕ} {v : Value} {es es' : Exprs} {h h' : Heap} {l l' : Store}
          → ReducesAll es h l es' h' l'
          → ReducesAll (cons (val q v) es) h l (cons (val q v) es') h' l'
