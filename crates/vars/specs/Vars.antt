-- Sets of variables as binary numbers, a digit for each of the 64; and laws of them.
use Rattle.std.specs.Prelude.{◌≡◌, refl, Bool, true, false, cond, ◌&&◌, ℕ, ◌+◌, ◌*◌, ◌-◌, ◌%◌, ◌^◌, ◌≤◌, ◌<◌, min, max, eqb, ltb, leb}
use Rattle.std.proofs.Common.{sym, ◌∙◌, ap, arith, eqb-true, ltb-true, ltb-false}
use Rattle.std.proofs.Math.Path.{fun_ext}
use Rattle.std.proofs.Math.Pow.{pow-lt}
use Rattle.std.specs.Int.{bit_at, bit_not, w64}
use Rattle.std.specs.Int.Bits.{bit_and, bit_or, bit_xor}
use Rattle.std.proofs.lemmas.Nat.Bits.{bit_at-lt, bit_at-zero, bit_at_and, bit_at_or, bit_at_xor, bit_at-pow_same, bit_at-pow_other, bit_at_ones, bit_at_ones_above, bit_at_above, bit_at_set_same, bit_at_set_other, bit_at_clear_same, bit_at_clear_other}
use Rattle.std.proofs.lemmas.Bool.{eqb-false}
use Rattle.std.proofs.lemmas.Bool.Decides.{nat_tests}
use Rattle.image.specs.Numbers.{variables}
use Rattle.rules.specs.Maps.{upd}
use Rattle.rules.specs.Setting.{every_var, between, meet}
use Rattle.vars.specs.declared.Vars.{Vars}

-- binary digit x of w is 1
unfoldable pub marks : (w x : ℕ) → Bool
marks w x = eqb (bit_at w x) 1

abbrev pub vars_of : Vars → ℕ → Bool
vars_of v = marks v.on

unfoldable pub no_var : ℕ → Bool
no_var x = false

-- the variables from one number on and below another
unfoldable pub below : (from i x : ℕ) → Bool
below from i x = leb from x && ltb x i

-- LAWS
-- The methods.
pub marks_none : marks 0 ≡ no_var
unfolding marks no_var
marks_none = fun_ext (λ x. ap (λ (n : ℕ). eqb n 1) (bit_at-zero x))

pub marks_all : marks (2 ^ variables - 1) ≡ every_var
unfolding marks every_var
marks_all = fun_ext (λ x. go x (ltb x variables) refl)
  where
    go : (x : ℕ) (t : Bool) → ltb x variables ≡ t → eqb (bit_at (2 ^ variables - 1) x) 1 ≡ t
    go x true e = ap (λ (n : ℕ). eqb n 1) (bit_at_ones variables x (ltb-true x variables e))
    go x false e = ap (λ (n : ℕ). eqb n 1) (bit_at_ones_above variables x (ltb-false x variables e))

module _ (w x : ℕ) (h : x < variables) where
  pub marks_with : marks (bit_or w (1 * 2 ^ x % 2 ^ variables)) ≡ upd (marks w) x true
  unfolding marks upd
  marks_with = fun_ext (λ y. go y (eqb x y) refl)
    where
      go : (y : ℕ) (t : Bool) → eqb x y ≡ t
          → eqb (bit_at (bit_or w (1 * 2 ^ x % 2 ^ variables)) y) 1 ≡ cond t true (eqb (bit_at w y) 1)
      go y true e = rw (← eqb-true x y e) (ap (λ (n : ℕ). eqb n 1) (bit_at_set_same w64 w x h))
      go y false e = ap (λ (n : ℕ). eqb n 1) (bit_at_set_other w64 w x h y (λ q. eqb-false x y e (sym q)))

  abbrev cleared : ℕ
  cleared = bit_and w (bit_not w64 (1 * 2 ^ x % 2 ^ variables))

  pub marks_cleared : w < 2 ^ variables → marks cleared ≡ upd (marks w) x false
  unfolding marks upd
  marks_cleared l = fun_ext (λ y. go y (eqb x y) refl (ltb y variables) refl)
    where
      go : (y : ℕ) (t : Bool) → eqb x y ≡ t → (u : Bool) → ltb y variables ≡ u → eqb (bit_at cleared y) 1 ≡ cond t false (eqb (bit_at w y) 1)
      go y true e u f = rw (← eqb-true x y e) (ap (λ (n : ℕ). eqb n 1) (bit_at_clear_same w64 w x h))
      go y false e true f = ap (λ (n : ℕ). eqb n 1) (bit_at_clear_other w64 w x h y (ltb-true y variables f) (λ q. eqb-false x y e (sym q)))
      go y false e false f =
          let z = bit_at_above w variables y l (ltb-false y variables f) in
          let m : bit_at cleared y ≡ bit_at w y = omega (arith, bit_at_and w (bit_not w64 (1 * 2 ^ x % 2 ^ variables)) y, z) in
          ap (λ (n : ℕ). eqb n 1) m

-- the digit set, and then turned over
pub marks_without : (w x : ℕ) → x < variables
    → marks (bit_xor (bit_or w (1 * 2 ^ x % 2 ^ variables)) (1 * 2 ^ x % 2 ^ variables)) ≡ upd (marks w) x false
unfolding marks upd
marks_without w x h = rw shifted (fun_ext (λ y. go y (eqb x y) refl))
  where
    shifted : 1 * 2 ^ x % 2 ^ variables ≡ 2 ^ x
    shifted = let l = pow-lt h in omega (arith, l)

    go : (y : ℕ) (t : Bool) → eqb x y ≡ t → eqb (bit_at (bit_xor (bit_or w (2 ^ x)) (2 ^ x)) y) 1 ≡ cond t false (eqb (bit_at w y) 1)
    go y true e =
        let m : bit_at (bit_xor (bit_or w (2 ^ x)) (2 ^ x)) x ≡ 0 =
        omega (arith, bit_at_xor (bit_or w (2 ^ x)) (2 ^ x) x, bit_at_or w (2 ^ x) x, bit_at-pow_same x, bit_at-lt w x) in
        rw (← eqb-true x y e) (ap (λ (n : ℕ). eqb n 1) m)
    go y false e =
        let m : bit_at (bit_xor (bit_or w (2 ^ x)) (2 ^ x)) y ≡ bit_at w y =
        omega
        (arith, bit_at_xor (bit_or w (2 ^ x)) (2 ^ x) y, bit_at_or w (2 ^ x) y, bit_at-pow_other x y (λ q. eqb-false x y e (sym q)), bit_at-lt w y) in
        ap (λ (n : ℕ). eqb n 1) m

pub marks_meet : (a b : ℕ) → marks (bit_and a b) ≡ meet (marks a) (marks b)
unfolding marks meet
marks_meet a b = fun_ext (λ x. ap (λ (n : ℕ). eqb n 1) (bit_at_and a b x) ∙ go (bit_at a x) (bit_at b x) (bit_at-lt a x) (bit_at-lt b x))
  where
    go : (m n : ℕ) → m < 2 → n < 2 → eqb (min m n) 1 ≡ (eqb m 1 && eqb n 1)
    go m n h k = grind (arith, nat_tests)

pub below_start : (from : ℕ) → no_var ≡ below from from
unfolding no_var below
below_start from = fun_ext (λ x. grind (arith, nat_tests))

pub below_on : (from i : ℕ) → from ≤ i → upd (below from i) i true ≡ below from (i + 1)
unfolding upd below
below_on from i h = fun_ext (λ x. grind (arith, nat_tests))

pub below_end : (from to i : ℕ) → to < i → i ≤ max from (to + 1) → below from i ≡ between from to
unfolding below between
below_end from to i h k = fun_ext (λ x. grind (arith, nat_tests))
