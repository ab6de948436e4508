-- Laws of leaps in a row: where they have come to, and that they end.
use Rattle.std.specs.Prelude.{◌≡◌, refl, true, List, ℕ, zero, suc, ◌+◌, ◌*◌, ◌-◌, ◌≤◌, ◌<◌, get_or}
use Rattle.std.proofs.Common.{mul-le-mul_right, suc-mul, arith}
use Rattle.image.specs.Trailer.{node_count}
use Rattle.image.specs.Nodes.{node_holds}
use Rattle.room.specs.declared.Focus.{Focus}
use Rattle.room.specs.declared.Focus.TheVariants.{Node, Value, Thrown}
use Rattle.room.specs.Room.{search_word}
use Rattle.room.specs.RoomLaws.{Kept}
use Rattle.room.specs.Turn.{HeapOk, phi, Inv}
use Rattle.room.specs.Leads.{Leads, Leaps}
use Rattle.room.specs.LeadsLaws.{leads_none, leads_on, leaps_on, leads_kept}
use Rattle.landings.specs.Lands.{Low}
use Rattle.strides.specs.Bound.{bound, phi_low}
use Rattle.strides.specs.declared.Reached.{Reached}
use Rattle.strides.specs.Reaches.{Reaches}

-- a value is no deeper than a higher bound
pub low_on : {m : ℕ} (D : ℕ) (f : Focus) (level : ℕ) → m ≤ D → Low m f level → Low D f level
low_on D (Node n) level h a = tt
low_on D (Value w) level h a = omega arith
low_on D (Thrown b p) level h a = tt

module _ (ws : List ℕ) (D : ℕ) where
  -- so far, with so many steps left
  pub record Onward (steps : ℕ) (hs₀ room₀ : List ℕ) (l₀ : ℕ) (f₀ : Focus) (hs room : List ℕ) (l : ℕ) (f : Focus) (left : ℕ) : Type 0 where
    pub low : left ≤ steps
    pub leads : Leads ws D (steps - left) hs₀ room₀ l₀ f₀ hs room l f

  -- what falls from leap to leap
  abbrev pub fuel : (left : ℕ) (room : List ℕ) (l : ℕ) (f : Focus) → ℕ
  fuel left room l f = left * bound ws D + phi ws room l f

  pub onward_start : (steps : ℕ) {hs room : List ℕ} {l : ℕ} {f : Focus} → Inv ws D room l f → HeapOk ws hs (get_or room search_word 0)
      → Onward steps hs room l f hs room l f steps
  onward_start steps v h =
      let z : steps - steps ≡ 0 = omega arith in
      record { low = omega arith; leads = rw z (leads_none ws D v h) }

  module _ {steps : ℕ} {hs₀ room₀ : List ℕ} {l₀ : ℕ} {f₀ : Focus} {hs room : List ℕ} {l : ℕ} {f : Focus} {left : ℕ}
      (o : Onward steps hs₀ room₀ l₀ f₀ hs room l f left) where
    pub onward_leads : {hs' room' : List ℕ} {l' : ℕ} {f' : Focus} (k : ℕ) → Leads ws D k hs room l f hs' room' l' f' → k ≤ left
        → Onward steps hs₀ room₀ l₀ f₀ hs' room' l' f' (left - k)
    onward_leads k a h =
        let e : steps - (left - k) ≡ steps - left + k = omega (arith, o.low) in
        record { low = omega (arith, o.low); leads = rw e (leads_on ws D o.leads a) }

    -- the same, by the steps that are left
    pub onward_to : {hs' room' : List ℕ} {l' : ℕ} {f' : Focus} (m : ℕ) → Leads ws D (left - m) hs room l f hs' room' l' f' → m ≤ left
        → Onward steps hs₀ room₀ l₀ f₀ hs' room' l' f' m
    onward_to m a h =
        let e : left - (left - m) ≡ m = omega arith in
        rw e at (onward_leads (left - m) a (omega arith))

    pub onward_kept : {new : List ℕ} → Kept room new l → Onward steps hs₀ room₀ l₀ f₀ hs new l f left
    onward_kept k = record { low = o.low; leads = leads_kept ws D o.leads k }

  -- leaps in a row after others, and after one
  pub reaches_on : {steps : ℕ} {hs room : List ℕ} {l : ℕ} {f : Focus} {hs₁ room₁ hs₂ room₂ : List ℕ} {q r : Reached}
      → Reaches ws D steps hs room l f hs₁ room₁ q → Reaches ws D q.left hs₁ room₁ q.level q.focus hs₂ room₂ r
      → Reaches ws D steps hs room l f hs₂ room₂ r
  reaches_on {steps} {q = q} {r = r} a b =
      let e : steps - r.left ≡ steps - q.left + (q.left - r.left) = omega (arith, a.low, b.low) in
      record { low = omega (arith, a.low, b.low); leads = rw e (leads_on ws D a.leads b.leads) }

  pub leap_reaches : {left k : ℕ} {hs room : List ℕ} {l : ℕ} {f : Focus} {hs₁ room₁ : List ℕ} {l₁ : ℕ} {f₁ : Focus} {hs₂ room₂ : List ℕ} {r : Reached}
      → Leaps ws D k hs room l f hs₁ room₁ l₁ f₁ → k ≤ left → Reaches ws D (left - k) hs₁ room₁ l₁ f₁ hs₂ room₂ r
      → Leaps ws D (left - r.left) hs room l f hs₂ room₂ r.level r.focus × (r.left ≤ left)
  leap_reaches {left} {k} {r = r} a h b =
      let e : left - r.left ≡ k + (left - k - r.left) = omega (arith, b.low) in
      (rw e (leaps_on ws D a b.leads), omega (arith, b.low))

module _ (ws : List ℕ) (good : (n : ℕ) → n < node_count ws → node_holds ws n ≡ true) (D : ℕ) where
  -- no steps, or some
  more_fuel : (k left x y : ℕ) → k ≤ left → (k ≡ 0 → y < x) → y < bound ws D
      → (left - k) * bound ws D + y < left * bound ws D + x
  more_fuel zero left x y h f b = let z : left - 0 ≡ left = omega arith in rw z (omega (arith, f refl))
  more_fuel (suc k) left x y h f b =
      let m : suc (left - suc k) * bound ws D ≤ left * bound ws D = mul-le-mul_right (bound ws D) (omega arith) in
      omega (arith, m, suc-mul (left - suc k) (bound ws D))

  module _ {k : ℕ} {hs room : List ℕ} {l : ℕ} {f : Focus} {hs' room' : List ℕ} {l' : ℕ} {f' : Focus} where
    pub leaps_less : (left : ℕ) → Leaps ws D k hs room l f hs' room' l' f' → k ≤ left
        → fuel ws D (left - k) room' l' f' < fuel ws D left room l f
    leaps_less left a h = more_fuel k left (phi ws room l f) (phi ws room' l' f') h a.falls (phi_low ws good D room' l' f' a.leads.inv)

    pub leaps_to_less : (left m : ℕ) → k ≡ left - m → m ≤ left → Leaps ws D k hs room l f hs' room' l' f'
        → fuel ws D m room' l' f' < fuel ws D left room l f
    leaps_to_less left m e h a =
        let z : left - k ≡ m = omega arith in
        rw z at (leaps_less left a (omega arith))

    pub leads_less : (left : ℕ) → Leads ws D k hs room l f hs' room' l' f' → k ≤ left
        → fuel ws D (left - k) room' l' f' ≤ fuel ws D left room l f
    leads_less left a h =
        let b = more_fuel k left (suc (phi ws room l f)) (phi ws room' l' f') h (λ e. omega (arith, a.rests e)) (phi_low ws good D room' l' f' a.inv) in
        omega (arith, b)

  -- what is left after leaps in a row
  pub reaches_less : {steps : ℕ} {hs room : List ℕ} {l : ℕ} {f : Focus} {hs' room' : List ℕ} {r : Reached}
      → Reaches ws D steps hs room l f hs' room' r
      → fuel ws D r.left room' r.level r.focus ≤ fuel ws D steps room l f
  reaches_less {steps} {r = r} a =
      let e : steps - (steps - r.left) ≡ r.left = omega (arith, a.low) in
      rw e at (leads_less steps a.leads (omega arith))
