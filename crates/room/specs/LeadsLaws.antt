-- Laws of several turns: one turn is such a thing, one after the other is, and what stands above the level does not matter.
use Rattle.std.specs.Prelude.{◌≡◌, refl, List, ℕ, suc, ◌+◌, get_or}
use Rattle.std.proofs.Common.{◌∙◌, arith}
use Rattle.rules.specs.Program.{program}
use Rattle.rules.specs.Heap.{heap_of}
use Rattle.rules.specs.Run.{run}
use Rattle.room.specs.declared.Focus.{Focus}
use Rattle.room.specs.Room.{search_word}
use Rattle.room.specs.RoomLaws.{Kept, kept_fit, kept_frames, kept_store}
use Rattle.room.specs.Stack.{run_goes}
use Rattle.room.specs.Enter.{pending_kept}
use Rattle.room.specs.Turn.{HeapOk, phi, whole, outside, Inv, Moves, Steps}
use Rattle.room.specs.Leads.{Leads, Leaps}

zero_plus : (n : ℕ) → 0 + n ≡ n
zero_plus n = omega arith

one_plus : (n : ℕ) → 1 + n ≡ suc n
one_plus n = omega arith

module _ (ws : List ℕ) (D : ℕ) where
  pub leads_none : {hs room : List ℕ} {l : ℕ} {f : Focus} → Inv ws D room l f → HeapOk ws hs (get_or room search_word 0)
      → Leads ws D 0 hs room l f hs room l f
  leads_none v h = record { inv = v; size = refl; heap = h; runs = λ m c. rw (zero_plus m, zero_plus c); rests = λ e. omega arith }

  pub leaps_move : {hs room : List ℕ} {l : ℕ} {f : Focus} {room' : List ℕ} {l' : ℕ} {f' : Focus}
      → HeapOk ws hs (get_or room search_word 0) → Moves ws D room l f room' l' f' → Leaps ws D 0 hs room l f hs room' l' f'
  leaps_move h m =
      record {
        leads =
            record {
              inv = m.inv;
              size = m.size;
              heap = rw m.search h;
              runs = λ n c. rw (zero_plus n, zero_plus c, m.same, m.around);
              rests = λ e. omega (arith, m.falls);
            };
        falls = λ e. m.falls;
      }

  pub leaps_step : {hs room : List ℕ} {l : ℕ} {f : Focus} {hs' room' : List ℕ} {l' : ℕ} {f' : Focus}
      → Steps ws D hs room l f hs' room' l' f' → Leaps ws D 1 hs room l f hs' room' l' f'
  leaps_step {hs} {room} {l} {f} {hs'} {room'} {l'} {f'} s =
      record {
        leads =
            record {
              inv = s.inv;
              size = s.size;
              heap = s.heap;
              runs =
                  λ n c.
                  rw (one_plus n, one_plus c)
                  (run_goes (program ws) D (heap_of (program ws) hs) (outside ws room l) (whole ws room l f) n c (heap_of (program ws) hs')
                  (outside ws room' l') (whole ws room' l' f') s.goes);
              rests = λ e. absurd (omega arith);
            };
        falls = λ e. absurd (omega arith);
      }

  module _ {hs room : List ℕ} {l : ℕ} {f : Focus} {hs₁ room₁ : List ℕ} {l₁ : ℕ} {f₁ : Focus} {hs₂ room₂ : List ℕ} {l₂ : ℕ} {f₂ : Focus}
      {j k : ℕ} where
    pub leads_on : Leads ws D j hs room l f hs₁ room₁ l₁ f₁ → Leads ws D k hs₁ room₁ l₁ f₁ hs₂ room₂ l₂ f₂
        → Leads ws D (j + k) hs room l f hs₂ room₂ l₂ f₂
    leads_on a b =
        record {
          inv = b.inv;
          size = b.size ∙ a.size;
          heap = b.heap;
          runs = runs_on;
          rests = λ e. omega (arith, a.rests (omega arith), b.rests (omega arith));
        }
      where
        runs_on : (m c : ℕ)
            → run D (program ws) (j + k + m) c (heap_of (program ws) hs) (outside ws room l) (whole ws room l f)
            ≡ run D (program ws) m (j + k + c) (heap_of (program ws) hs₂) (outside ws room₂ l₂) (whole ws room₂ l₂ f₂)
        runs_on m c =
            let e : j + k + m ≡ j + (k + m) = omega arith in
            let g : k + (j + c) ≡ j + k + c = omega arith in
            rw e (a.runs (k + m) c ∙ rw g at (b.runs m (j + c)))

    pub leaps_on : Leaps ws D j hs room l f hs₁ room₁ l₁ f₁ → Leads ws D k hs₁ room₁ l₁ f₁ hs₂ room₂ l₂ f₂
        → Leaps ws D (j + k) hs room l f hs₂ room₂ l₂ f₂
    leaps_on a b =
        record {
          leads = leads_on a.leads b;
          falls = λ e. omega (arith, a.falls (omega arith), b.rests (omega arith));
        }

  -- the room may be another one above the level
  module _ {room new : List ℕ} {l : ℕ} (k : Kept room new l) (f : Focus) where
    pub kept_inv : Inv ws D room l f → Inv ws D new l f
    kept_inv v = record { fit = kept_fit ws k v.fit; level = v.level; long = rw k.size v.long; here = v.here }

    pub kept_whole : whole ws new l f ≡ whole ws room l f
    kept_whole = rw (kept_frames ws k, kept_store k)

    pub kept_outside : outside ws new l ≡ outside ws room l
    kept_outside = rw (kept_frames ws k, kept_store k)

    pub kept_phi : phi ws new l f ≡ phi ws room l f
    kept_phi = rw (pending_kept ws k)

    pub kept_heap : {hs : List ℕ} → HeapOk ws hs (get_or room search_word 0) → HeapOk ws hs (get_or new search_word 0)
    kept_heap h = rw (k.same search_word (omega arith)) h

  module _ {n : ℕ} {hs room : List ℕ} {l : ℕ} {f : Focus} {hs' room' : List ℕ} {l' : ℕ} {f' : Focus} {new : List ℕ} where
    pub leads_kept : Leads ws D n hs room l f hs' room' l' f' → Kept room' new l' → Leads ws D n hs room l f hs' new l' f'
    leads_kept a k =
        record {
          inv = kept_inv k f' a.inv;
          size = k.size ∙ a.size;
          heap = kept_heap k f' a.heap;
          runs = λ m c. rw (kept_whole k f', kept_outside k f') (a.runs m c);
          rests = λ e. rw (kept_phi k f') (a.rests e);
        }

    pub leaps_kept : Leaps ws D n hs room l f hs' room' l' f' → Kept room' new l' → Leaps ws D n hs room l f hs' new l' f'
    leaps_kept a k = record { leads = leads_kept a.leads k; falls = λ e. rw (kept_phi k f') (a.falls e) }
