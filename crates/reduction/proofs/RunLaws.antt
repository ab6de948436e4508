-- Laws: the function `run` agrees with the relation `RunsTo`, both ways, and a start has one end.
use Prim.Native.Nat.{ℕ, zero, suc, ◌+◌, ◌≤◌, ◌<◌}
use Rattle.std.proofs.Common.{arith, ap, leb→le, le→leb, ltb→lt, nltb→le}
use Rattle.std.specs.Prelude.{◌≡◌, Bool, cond, ◌↔◌, ltb}
use Rattle.std.proofs.Math.Path.{refl}
use Rattle.std.proofs.Math.Bool.{true, false}
use Rattle.std.proofs.Math.Dec.{leb, nleb→lt}
use Rattle.rules.specs.declared.End.{End}
use Rattle.rules.specs.declared.End.TheVariants.{Returned, Threw, OutOfSteps, TooDeep, Stuck}
use Rattle.rules.specs.Trees.{Expr}
use Rattle.rules.specs.Program.{Program}
use Rattle.rules.specs.Heap.{Heap}
use Rattle.rules.specs.Step.{Store, Out, value, step}
use Rattle.rules.specs.Run.{Ended, judge, run}
use Rattle.reduction.specs.AppendixB.{AValue, AnException, Reduces}
use Rattle.reduction.specs.ActivePlace.{Active}
use Rattle.reduction.specs.Agreement.{Exception, Thrown}
use Rattle.reduction.proofs.Agreement.{test_true, Does, does, unfinished, one_place, told_value, told_thrown, told_next, told_stuck, one_step}
use Rattle.reduction.specs.Runs.{Reduction, Rest, Step, EndsAt, IsValue, IsException, IsDeep, NoRule, AtLimit, GoesOn, NoTest, RunsTo}

same_ended : (w w' : Ended) → w.end ≡ w'.end → w.count ≡ w'.count → w.heap ≡ w'.heap → w ≡ w'
same_ended w w' p q r = λ i. record { end = p i; count = q i; heap = r i }

module _ (P : Program) where
  -- A number of steps leads to one state.
  pub one_reduction : {k : ℕ} {e e₁ e₂ : Expr} {h h₁ h₂ : Heap} {l l₁ l₂ : Store}
      → Reduction P k e h l e₁ h₁ l₁ → Reduction P k e h l e₂ h₂ l₂
      → (e₁ ≡ e₂) × (h₁ ≡ h₂) × (l₁ ≡ l₂)
  one_reduction Rest Rest = (refl, refl, refl)
  one_reduction (Step {k = k} {e' = e₁} {h' = h₁} {l' = l₁} r m) (Step {e' = e₂} {h' = h₂} {l' = l₂} s n) =
      let q = one_step P r s in
      one_reduction m (rw (← q.0, ← q.1, ← q.2) at n)

  module _ (limit depth : ℕ) where
    -- A state at which the run ends is not one at which it goes on.
    ends_or_goes : {k : ℕ} {e : Expr} {h : Heap} {l : Store} {x : End} → EndsAt P limit depth k e h l x → ¬ GoesOn P limit depth k e h l
    ends_or_goes IsValue (NoTest a d f b) = unfinished a AValue
    ends_or_goes IsException (NoTest a d f b) = unfinished a AnException
    ends_or_goes (IsDeep a' d') (NoTest a d f b) = let q = (one_place a a').0 in omega arith
    ends_or_goes (NoRule a' d' f') (NoTest a d f b) = f' f
    ends_or_goes (AtLimit a' d' f' b') (NoTest a d f b) = omega arith

    one_end_at : {k : ℕ} {e : Expr} {h : Heap} {l : Store} {x y : End} → EndsAt P limit depth k e h l x → EndsAt P limit depth k e h l y → x ≡ y
    one_end_at IsValue IsValue = refl
    one_end_at IsValue (IsDeep a d) = absurd (unfinished a AValue)
    one_end_at IsValue (NoRule a d f) = absurd (unfinished a AValue)
    one_end_at IsValue (AtLimit a d f b) = absurd (unfinished a AValue)
    one_end_at IsException IsException = refl
    one_end_at IsException (IsDeep a d) = absurd (unfinished a AnException)
    one_end_at IsException (NoRule a d f) = absurd (unfinished a AnException)
    one_end_at IsException (AtLimit a d f b) = absurd (unfinished a AnException)
    one_end_at (IsDeep a d) IsValue = absurd (unfinished a AValue)
    one_end_at (IsDeep a d) IsException = absurd (unfinished a AnException)
    one_end_at (IsDeep a d) (IsDeep a' d') = refl
    one_end_at (IsDeep a d) (NoRule a' d' f') = let q = (one_place a a').0 in absurd (omega arith)
    one_end_at (IsDeep a d) (AtLimit a' d' f' b') = let q = (one_place a a').0 in absurd (omega arith)
    one_end_at (NoRule a d f) IsValue = absurd (unfinished a AValue)
    one_end_at (NoRule a d f) IsException = absurd (unfinished a AnException)
    one_end_at (NoRule a d f) (IsDeep a' d') = let q = (one_place a a').0 in absurd (omega arith)
    one_end_at (NoRule a d f) (NoRule a' d' f') = ap Stuck (one_place a a').1
    one_end_at (NoRule a d f) (AtLimit a' d' f' b') = absurd (f f')
    one_end_at (AtLimit a d f b) IsValue = absurd (unfinished a AValue)
    one_end_at (AtLimit a d f b) IsException = absurd (unfinished a AnException)
    one_end_at (AtLimit a d f b) (IsDeep a' d') = let q = (one_place a a').0 in absurd (omega arith)
    one_end_at (AtLimit a d f b) (NoRule a' d' f') = absurd (f' f)
    one_end_at (AtLimit a d f b) (AtLimit a' d' f' b') = refl

    -- A start has one end.
    pub one_end : {e : Expr} {h : Heap} {l : Store} {w w' : Ended} → RunsTo P limit depth e h l w → RunsTo P limit depth e h l w' → w ≡ w'
    one_end {e} {h} {l} {w} {w'} r s = order (ltb w.count w'.count) (ltb w'.count w.count) refl refl
      where
        same : w.count ≡ w'.count → w ≡ w'
        same q =
            let m : Reduction P w'.count e h l r.last w.heap r.store = rw q at r.path in
            let o = one_reduction m s.path in
            let a : EndsAt P limit depth w'.count s.last w'.heap s.store w.end = rw (q, o.0, o.1, o.2) at r.ends in
            same_ended w w' (one_end_at a s.ends) q o.1

        order : (b c : Bool) → ltb w.count w'.count ≡ b → ltb w'.count w.count ≡ c → w ≡ w'
        order true c p q = absurd (ends_or_goes r.ends (s.before r.path (ltb→lt w.count w'.count (rw p tt))))
        order false true p q = absurd (ends_or_goes s.ends (r.before s.path (ltb→lt w'.count w.count (rw q tt))))
        order false false p q =
            let m = nltb→le w.count w'.count (rw p tt) in
            let n = nltb→le w'.count w.count (rw q tt) in
            same (omega arith)

    -- The run from where k steps have been taken.
    record From (k : ℕ) (e : Expr) (h : Heap) (l : Store) (w : Ended) : Type 0 where
      more : ℕ
      counted : k + more ≡ w.count
      within : w.count ≤ limit
      last : Expr
      store : Store
      path : Reduction P more e h l last w.heap store
      before : {i : ℕ} {e' : Expr} {h' : Heap} {l' : Store} → Reduction P i e h l e' h' l' → i < more → GoesOn P limit depth (k + i) e' h' l'
      ends : EndsAt P limit depth w.count last w.heap store w.end

    now : {k : ℕ} {e : Expr} {h : Heap} {l : Store} (x : End) → k ≤ limit → EndsAt P limit depth k e h l x
        → From k e h l (record { end = x; count = k; heap = h })
    now {k} {e} {h} {l} x b a =
        record {
          more = 0;
          counted = omega arith;
          within = b;
          last = e;
          store = l;
          path = Rest;
          before = λ m lt. absurd (omega arith);
          ends = a;
        }

    -- one step, and then the run from there
    module _
        {k : ℕ}
        {e e₁ : Expr}
        {h h₁ : Heap}
        {l l₁ : Store}
        {w : Ended}
        (g : GoesOn P limit depth k e h l)
        (r : Reduces P e h l e₁ h₁ l₁)
        (f : From (suc k) e₁ h₁ l₁ w)
      where
        later_before : {i : ℕ} {e' : Expr} {h' : Heap} {l' : Store} → Reduction P i e h l e' h' l' → i < suc f.more
            → GoesOn P limit depth (k + i) e' h' l'
        later_before Rest lt = let z : k + 0 ≡ k = omega arith in rw z g
        later_before {e' = e'} {h' = h'} {l' = l'} (Step {k = i} s m) lt =
            let q = one_step P s r in
            let n : Reduction P i e₁ h₁ l₁ e' h' l' = rw (q.0, q.1, q.2) at m in
            let z : k + suc i ≡ suc k + i = omega arith in
            rw z (f.before n (omega arith))

        later : From k e h l w
        later =
            let c = f.counted in
            record {
              more = suc f.more;
              counted = omega arith;
              within = f.within;
              last = f.last;
              store = f.store;
              path = Step r f.path;
              before = λ m lt. later_before m lt;
              ends = f.ends;
            }

    exception_ends : {k a : ℕ} {e : Expr} {h : Heap} {l : Store} → Exception e a → EndsAt P limit depth k e h l (Threw a)
    exception_ends Thrown = IsException

    -- what the tests say of a state, where `on` is right for a step
    judged : (k : ℕ) (e : Expr) (h : Heap) (l : Store) (on : Heap → Store → Expr → Ended) (o : Out) → step P e h l ≡ o → k ≤ limit
        → ((d q : ℕ) (h' : Heap) (l' : Store) (e' : Expr) → Active e d q → d ≤ depth → Reduces P e h l e' h' l' → From k e h l (on h' l' e'))
        → From k e h l (judge depth k h o on)
    unfolding judge
    judged k e h l on (value q v) s b c = rw (told_value P e h l s) (now (Returned v) b IsValue)
    judged k e h l on (Out.thrown a) s b c = now (Threw a) b (exception_ends (told_thrown P e h l s))
    judged k e h l on (Out.next d q h' l' e') s b c = test (leb d depth) refl
      where
        test : (z : Bool) → leb d depth ≡ z → From k e h l (cond z (on h' l' e') (record { end = TooDeep; count = k; heap = h }))
        test true t = c d q h' l' e' (told_next P e h l s).1 (leb→le d depth (rw t tt)) (told_next P e h l s).0
        test false t = now TooDeep b (IsDeep (told_next P e h l s).1 (nleb→lt d depth (rw t tt)))
    judged k e h l on (Out.stuck d q) s b c = test (leb d depth) refl
      where
        test : (z : Bool) → leb d depth ≡ z
            → From k e h l (cond z (record { end = Stuck q; count = k; heap = h }) (record { end = TooDeep; count = k; heap = h }))
        test true t =
            let k = told_stuck P e h l s in
            now (Stuck q) b (NoRule k.2 (leb→le d depth (rw t tt)) (λ f. k.0 f.0 f.1 f.2 f.3))
        test false t = now TooDeep b (IsDeep (told_stuck P e h l s).2 (nleb→lt d depth (rw t tt)))

    runs : (n k : ℕ) → k + n ≡ limit → (e : Expr) (h : Heap) (l : Store) → From k e h l (run depth P n k h l e)
    unfolding run
    runs zero k q e h l =
        judged k e h l _ (step P e h l) refl (omega arith)
        (λ d p h' l' e' a b r. now OutOfSteps (omega arith) (AtLimit a b (e', h', l', r) (omega arith)))
    runs (suc n) k q e h l =
        judged k e h l _ (step P e h l) refl (omega arith)
        (λ d p h' l' e' a b r. later (NoTest a b (e', h', l', r) (omega arith)) r (runs n (suc k) (omega arith) e' h' l'))

    -- The run's answer is the relation's.
    pub run_runs : (e : Expr) (h : Heap) (l : Store) → RunsTo P limit depth e h l (run depth P limit 0 h l e)
    run_runs e h l =
        let f = runs limit 0 (omega arith) e h l in
        let c = f.counted in
        let q : f.more ≡ (run depth P limit 0 h l e).count = omega arith in
        record {
          last = f.last;
          store = f.store;
          path = rw q at f.path;
          before =
              λ {k = i} m lt.
              let z : 0 + i ≡ i = omega arith in
              rw z at (f.before m (omega arith));
          ends = f.ends;
        }

    pub run_agrees : (e : Expr) (h : Heap) (l : Store) (w : Ended) → (run depth P limit 0 h l e ≡ w) ↔ RunsTo P limit depth e h l w
    run_agrees e h l w = (λ q. rw q at (run_runs e h l), λ r. one_end (run_runs e h l) r)

    -- The count is the length of the reduction, and at most the limit.
    pub counted : {e : Expr} {h : Heap} {l : Store} {w : Ended} → RunsTo P limit depth e h l w → w.count ≤ limit
    counted {e} {h} {l} {w} r = rw (← ((run_agrees e h l w).1 r)) (runs limit 0 (omega arith) e h l).within

  module _ (depth : ℕ) where
    -- With a larger limit: a run that ended otherwise than by its limit ends so again.
    other_limit : {n n' k : ℕ} {e : Expr} {h : Heap} {l : Store} {x : End} → EndsAt P n depth k e h l x → ¬ (x ≡ OutOfSteps)
        → EndsAt P n' depth k e h l x
    other_limit IsValue o = IsValue
    other_limit IsException o = IsException
    other_limit (IsDeep a d) o = IsDeep a d
    other_limit (NoRule a d f) o = NoRule a d f
    other_limit (AtLimit a d f b) o = absurd (o refl)

    goes_further : {n n' k : ℕ} {e : Expr} {h : Heap} {l : Store} → n ≤ n' → GoesOn P n depth k e h l → GoesOn P n' depth k e h l
    goes_further {n' = n'} {k = k} b (NoTest a d f c) = let t : k < n' = omega arith in NoTest a d f t

    pub ends_again : {n n' : ℕ} {e : Expr} {h : Heap} {l : Store} {w : Ended} → n ≤ n' → ¬ (w.end ≡ OutOfSteps)
        → RunsTo P n depth e h l w → RunsTo P n' depth e h l w
    ends_again b o r =
        record {
          last = r.last;
          store = r.store;
          path = r.path;
          before = λ m lt. goes_further b (r.before m lt);
          ends = other_limit r.ends o;
        }

    -- Where it ended by its limit, the run with m steps more goes on from there.
    limit_reached : {n k : ℕ} {e : Expr} {h : Heap} {l : Store} {x : End} → EndsAt P n depth k e h l x → x ≡ OutOfSteps → n ≤ k
    limit_reached IsValue o = let z : ◌≡◌ {A = ℕ} 0 1 = cc in absurd (omega arith)
    limit_reached IsException o = let z : ◌≡◌ {A = ℕ} 0 1 = cc in absurd (omega arith)
    limit_reached (IsDeep a d) o = let z : ◌≡◌ {A = ℕ} 0 1 = cc in absurd (omega arith)
    limit_reached (NoRule a d f) o = let z : ◌≡◌ {A = ℕ} 0 1 = cc in absurd (omega arith)
    limit_reached (AtLimit a d f b) o = b

    Shallow : Expr → Type 0
    Shallow e = (d : ℕ) × (q : ℕ) × Active e d q × (d ≤ depth)

    shallow : {n k : ℕ} {e : Expr} {h : Heap} {l : Store} → GoesOn P n depth k e h l → Shallow e
    unfolding Shallow
    shallow (NoTest {d = d} {q = q} a b f c) = (d, q, a, b)

    one_on : (n k : ℕ) {e e₁ : Expr} {h h₁ : Heap} {l l₁ : Store} → Reduces P e h l e₁ h₁ l₁ → Shallow e
        → run depth P (suc n) k h l e ≡ run depth P n (suc k) h₁ l₁ e₁
    unfolding Shallow Does run judge
    one_on n k {e} {h = h} {l = l} r s =
        let i = does P r in
        let a = (told_next P e h l i.2).1 in
        let q = (one_place a s.2).0 in
        let t : i.0 ≤ depth = rw q s.3 in
        rw (i.2, test_true (leb i.0 depth) (le→leb i.0 depth t))

    follow : {j : ℕ} {e e' : Expr} {h h' : Heap} {l l' : Store} (m k : ℕ) → Reduction P j e h l e' h' l'
        → ((i : ℕ) (e₁ : Expr) (h₁ : Heap) (l₁ : Store) → Reduction P i e h l e₁ h₁ l₁ → i < j → Shallow e₁)
        → run depth P (j + m) k h l e ≡ run depth P m (k + j) h' l' e'
    follow m k Rest g = let p : 0 + m ≡ m = omega arith in let q : k + 0 ≡ k = omega arith in rw (p, q)
    follow {h = h} {l = l} m k (Step {k = j} {e = e} r s) g =
        let p : suc j + m ≡ suc (j + m) = omega arith in
        let q : k + suc j ≡ suc k + j = omega arith in
        let i = follow m (suc k) s (λ i e₁ h₁ l₁ t b. g (suc i) e₁ h₁ l₁ (Step r t) (omega arith)) in
        rw (p, q, ← i) (one_on (j + m) k r (g 0 e h l Rest (omega arith)))

    pub goes_on : {n : ℕ} {e : Expr} {h : Heap} {l : Store} {w : Ended} (m : ℕ) (r : RunsTo P n depth e h l w) → w.end ≡ OutOfSteps
        → run depth P (n + m) 0 h l e ≡ run depth P m n w.heap r.store r.last
    goes_on {n} {e} {h} {l} {w} m r o =
        let a = limit_reached r.ends o in
        let b = counted n depth r in
        let c : w.count ≡ n = omega arith in
        let z : 0 + w.count ≡ w.count = omega arith in
        let f = follow m 0 r.path (λ i e₁ h₁ l₁ t lt. shallow (r.before t lt)) in
        rw (z, c) at f
