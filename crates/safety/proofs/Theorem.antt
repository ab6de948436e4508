-- Demand 3 over trees: for a program with accepted tables, a main that types and sets, a heap that conforms and a store that
-- conforms to main's environment, no run gets stuck, whatever its limits; a value conforms to main's type, a thrown address is an
-- object's, and the heap conforms at every end.
use Rattle.std.specs.Prelude.{ℕ, length}
use Rattle.words.specs.declared.Ty.{Ty}
use Rattle.rules.specs.Trees.{Expr}
use Rattle.rules.specs.Program.{Program, Env, method_env}
use Rattle.rules.specs.Setting.{Vars, between}
use Rattle.rules.specs.Heap.{Heap}
use Rattle.rules.specs.Step.{Store, load}
use Rattle.rules.specs.Run.{run}
use Rattle.figures.proofs.Agreement.{never}
use Rattle.safety.specs.Sets.{◌⊆◌, ⊆_refl, dom}
use Rattle.safety.specs.Conform.{≼_refl, ⊑_refl, StoreOk, HeapOk, le_refl}
use Rattle.safety.specs.Safe.{mono}
use Rattle.safety.specs.Typed.{typed_safe}
use Rattle.safety.specs.Tables.{declared, inherits}
use Rattle.safety.specs.Steps.{Wf}
use Rattle.safety.specs.Safety.{RunOk, run_ok}
use Rattle.safety.specs.Theorem.{Accepted, Checked}

module _ (P : Program) where
  module _ (A : Accepted P) where
    wf : Wf P
    wf =
        record {
          low = A.low;
          inherits = inherits P A.low A.overrides;
          body =
              λ c m r e h.
              let k = declared P A.low m r c e in
              let b = A.bodies k.0 m r k.2 in
              mono P A.low (load r.body) ⊑_refl ⊆_refl ≼_refl (record { ok = b.result })
              (record { at = λ x t. absurd (never t) })
              (typed_safe P A.low r.body (method_env r) (between 0 (length r.params)) h b.type b.checked.after
              b.checked.known b.checked.typed b.checked.sets);
        }

    pub safety : (main : Expr) (Γ : Env) (I : Vars) (t : Ty) → Checked P main Γ I t → {h : Heap} {l : Store} → HeapOk P h
        → StoreOk P h l Γ
        → I ⊆ dom l → (steps depth : ℕ) → RunOk P t (run depth P steps 0 h l (load main))
    safety main Γ I t c {h} {l} hk sk i steps depth =
        run_ok P wf steps depth 0 t c.after (load main) hk sk
        (mono P A.low (load main) ⊑_refl i ≼_refl (le_refl P A.low) ⊆_refl
        (typed_safe P A.low main Γ I h t c.after c.known c.typed c.sets))
