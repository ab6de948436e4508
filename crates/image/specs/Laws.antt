-- Laws of the layout's definitions.
use Rattle.std.specs.Prelude.{◌≡◌, refl, Bool, true, false, ◌&&◌, ℕ, suc, ◌+◌, ◌-◌, ◌≤◌}
use Rattle.std.proofs.Common.{arith}
use Rattle.std.proofs.Math.ListN.{get_or-eq_default}
use Rattle.image.specs.declared.Kind.TheVariants.{Unknown}
use Rattle.image.specs.Nodes.{kinds, kind_of}

-- a number above the kinds is none
pub no_kind : (k : ℕ) → 16 ≤ k → kind_of k ≡ Unknown
unfolding kind_of
no_kind k h = get_or-eq_default kinds Unknown h

-- one more number that k is not
pub past : {k n : ℕ} → n ≤ k → (k ≡ n → ⊥) → suc n ≤ k
past h d = omega arith

-- where a section begins, from its distance to the end
pub begins : (at distance all : ℕ) → at + distance ≡ all → all - distance ≡ at
begins at distance all h = omega arith

pub and_left : (a b : Bool) → (a && b) ≡ true → a ≡ true
and_left true b h = refl
and_left false b h = h

pub and_right : (a b : Bool) → (a && b) ≡ true → b ≡ true
and_right true b h = h
and_right false b h = absurd (let z : ◌≡◌ {A = ℕ} 0 1 = cc in omega arith)
