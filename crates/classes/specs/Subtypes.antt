-- Laws: lists of types, one below the other type by type.
use Rattle.std.specs.Prelude.{◌≡◌, refl, Bool, true, false, ◌&&◌, List, [], ◌∷◌, length}
use Rattle.std.proofs.Common.{ap, arith, sym, ◌∙◌}
use Prim.Native.Nat.{ℕ, zero, suc, ◌<◌}
use Rattle.words.specs.declared.Ty.{Ty}
use Rattle.rules.specs.Maps.{tabulate}
use Rattle.rules.specs.Program.{Program}
use Rattle.rules.specs.Classes.{subtype, subtypes}
use Rattle.laws.specs.Maps.{length_tabulate}

module _ (P : Program) where
  -- each is below the one at its place
  pub subtypes_all : (n : ℕ) (a b : ℕ → Ty) → ((i : ℕ) → i < n → subtype P (a i) (b i) ≡ true) → true ≡ subtypes P (tabulate n a) (tabulate n b)
  unfolding subtypes tabulate
  subtypes_all zero a b h = refl
  subtypes_all (suc n) a b h =
      rw (h 0 (omega arith)) (subtypes_all n (λ i. a (suc i)) (λ i. b (suc i)) (λ i w. h (suc i) (omega arith)))

  last_false : (t : Bool) {s : Bool} → false ≡ s → false ≡ (t && s)
  last_false true e = e
  last_false false e = refl

  -- one is not
  pub subtypes_not : (n : ℕ) (a b : ℕ → Ty) (i : ℕ) → i < n → subtype P (a i) (b i) ≡ false → false ≡ subtypes P (tabulate n a) (tabulate n b)
  unfolding subtypes tabulate
  subtypes_not zero a b i w e = absurd (omega arith)
  subtypes_not (suc n) a b zero w e = rw e
  subtypes_not (suc n) a b (suc i) w e =
      last_false (subtype P (a 0) (b 0)) (subtypes_not n (λ i. a (suc i)) (λ i. b (suc i)) i (omega arith) e)

  -- one list is longer
  pub subtypes_length : (ts us : List Ty) → (length ts ≡ length us → ⊥) → subtypes P ts us ≡ false
  unfolding subtypes
  subtypes_length [] [] h = absurd (h refl)
  subtypes_length [] (u ∷ us) h = refl
  subtypes_length (t ∷ ts) [] h = refl
  subtypes_length (t ∷ ts) (u ∷ us) h = sym (last_false (subtype P t u) (sym (subtypes_length ts us (λ e. h (ap suc e)))))

  pub subtypes_lengths : (n m : ℕ) (a b : ℕ → Ty) → (n ≡ m → ⊥) → false ≡ subtypes P (tabulate n a) (tabulate m b)
  subtypes_lengths n m a b h =
      sym (subtypes_length (tabulate n a) (tabulate m b) (λ e. h (sym (length_tabulate n a) ∙ e ∙ length_tabulate m b)))
