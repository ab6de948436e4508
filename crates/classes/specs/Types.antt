-- Laws: subclass by one step upwards, and when two classes are one type.
use Rattle.std.specs.Prelude.{◌≡◌, Bool, true, List, eqb}
use Rattle.std.proofs.Math.Path.{refl, ap}
use Rattle.std.proofs.Common.{sym, ◌∙◌, arith, eq-eqb, eqb-true, ne_eqb}
use Rattle.std.proofs.Math.Bool.{false}
use Prim.Native.Nat.{ℕ, zero, suc, ◌+◌, ◌≤◌, ◌<◌}
use Rattle.std.proofs.lemmas.Bool.{eqb-false}
use Rattle.image.specs.Trailer.{class_count}
use Rattle.image.specs.Records.{superclass}
use Rattle.image.specs.Layout.{Good}
use Rattle.image.specs.declared.Layout.{Layout}
use Rattle.rules.specs.Program.{program}
use Rattle.rules.specs.Classes.{super, subclass}
use Rattle.laws.specs.Maps.{get_d_tabulate}
use Rattle.laws.specs.Classes.{Lower, lower, subclass_refl, subclass_suc, subclass_le}

-- the superclass that the image has
pub super_is : (ws : List ℕ) (c : ℕ) → c < class_count ws → super (program ws) c ≡ superclass ws c
unfolding program
super_is ws c h = get_d_tabulate (class_count ws) (superclass ws) c 0 h

module _ (ws : List ℕ) (l : Layout) (g : Good ws l) where
  pub low : Lower (program ws)
  low = lower ws (λ c h. g.classes c (omega arith))

  pub super_below : (c : ℕ) → c < class_count ws → 0 < c → superclass ws c < c
  super_below zero h p = absurd (omega arith)
  super_below (suc c) h p = rw (super_is ws (suc c) h) at (low c)

  -- a class above d is below it through its superclass
  pub subclass_step : (c d : ℕ) → c < class_count ws → d < c → subclass (program ws) (superclass ws c) d ≡ subclass (program ws) c d
  subclass_step zero d h k = absurd (omega arith)
  subclass_step (suc c) d h k =
      rw (← super_is ws (suc c) h, subclass_suc (program ws) low c d, ne_eqb (suc c) d (λ e. omega arith))

  -- and one that is not above d is d or no subclass of it
  pub subclass_end : (c d : ℕ) → c ≤ d → eqb c d ≡ subclass (program ws) c d
  subclass_end c d h = go (eqb c d) refl (subclass (program ws) c d) refl
    where
      go : (t : Bool) → eqb c d ≡ t → (s : Bool) → subclass (program ws) c d ≡ s → t ≡ s
      go true e s q = sym (subclass_refl (program ws) d) ∙ ap (λ (k : ℕ). subclass (program ws) k d) (sym (eqb-true c d e)) ∙ q
      go false e true q = absurd (eqb-false c d e (let k = subclass_le (program ws) low c d q in omega arith))
      go false e false q = refl

-- two classes have one word when they are one
pub same_class : (c d : ℕ) → eqb (4 + c) (4 + d) ≡ eqb c d
same_class c d = go (eqb c d) refl
  where
    go : (b : Bool) → eqb c d ≡ b → eqb (4 + c) (4 + d) ≡ b
    go true e = eq-eqb (4 + c) (4 + d) (ap (4 +◌) (eqb-true c d e))
    go false e = ne_eqb (4 + c) (4 + d) (λ q. eqb-false c d e (omega arith))
