-- Laws of 32-bit integers, and no definitions.
use Rattle.std.specs.Prelude.{◌≡◌, ℕ, suc, ◌+◌, ◌-◌, ◌%◌, ◌^◌, ◌<◌, ◌≤◌, ◌⊎◌, ℤ, pos, negsuc, ◌+ℤ◌, ◌-ℤ◌, neg_ℤ}
use Rattle.std.proofs.Common.{sym, ◌∙◌, ap, inl, inr, ⊎_elim, add_comm, arith, lt-ltb, le-ltb}
use Rattle.std.proofs.Math.Decide.{dec_lt}
use Rattle.std.proofs.Math.IntN.{+ℤ_assoc, +ℤ_comm, -ℤ-+ℤ_cancel}
use Rattle.words.specs.Integer.{InRange, integer_of, bits_of, plus_of, Wrapped}

-- a number is below another, or it is not
split : (m n : ℕ) → (m < n) ⊎ (n ≤ m)
split m n = elim (dec_lt m n) [ yes h ↦ inl h | no h ↦ inr (omega arith) ]

-- the two halves of the bits, and what taking 2^32 away gives
low : (n : ℕ) → n < 2 ^ 31 → integer_of n ≡ pos n
unfolding integer_of
low n h = rw (lt-ltb n (2 ^ 31) h)

high : (n : ℕ) → 2 ^ 31 ≤ n → integer_of n ≡ pos n -ℤ pos (2 ^ 32)
unfolding integer_of
high n h = rw (le-ltb n (2 ^ 31) h)

below : (n : ℕ) → n < 2 ^ 32 → pos n -ℤ pos (2 ^ 32) ≡ negsuc (2 ^ 32 - suc n)
below n h = rw (lt-ltb n (2 ^ 32) h)

above : (n : ℕ) → 2 ^ 32 ≤ n → pos (n - 2 ^ 32) ≡ pos n -ℤ pos (2 ^ 32)
above n h = rw (le-ltb n (2 ^ 32) h)

-- 32 bits stand for an integer in range, an integer in range has 32 bits, and each gives the other back
pub integer_range : (n : ℕ) → n < 2 ^ 32 → InRange (integer_of n)
integer_range n h =
    ⊎_elim (λ k. rw (low n k) k) (λ k. rw (high n k, below n h) (omega arith)) (split n (2 ^ 31))

pub bits_range : (z : ℤ) → InRange z → bits_of z < 2 ^ 32
unfolding bits_of
bits_range (pos n) h = omega arith
bits_range (negsuc n) h = omega arith

pub bits_integer : (n : ℕ) → n < 2 ^ 32 → bits_of (integer_of n) ≡ n
unfolding bits_of
bits_integer n h =
    ⊎_elim (λ k. rw (low n k)) (λ k. rw (high n k, below n h) (omega arith)) (split n (2 ^ 31))

pub integer_bits : (z : ℤ) → InRange z → integer_of (bits_of z) ≡ z
unfolding bits_of
integer_bits (pos n) h = low n h
integer_bits (negsuc n) h =
    let k : 2 ^ 31 ≤ 2 ^ 32 - suc n = omega arith in
    let l : 2 ^ 32 - suc n < 2 ^ 32 = omega arith in
    let m : 2 ^ 32 - suc (2 ^ 32 - suc n) ≡ n = omega arith in
    rw (high _ k, below _ l, m)

-- where m is taken away from a sum makes no difference
move : (x y m : ℤ) → (x +ℤ y) -ℤ m ≡ (x -ℤ m) +ℤ y
move x y m = +ℤ_assoc x y (neg_ℤ m) ∙ ap (λ z. x +ℤ z) (+ℤ_comm y (neg_ℤ m)) ∙ sym (+ℤ_assoc x (neg_ℤ m) y)

both : (x y m : ℤ) → ((x +ℤ y) -ℤ m) -ℤ m ≡ (x -ℤ m) +ℤ (y -ℤ m)
both x y m = ap (λ z. z -ℤ m) (move x y m) ∙ +ℤ_assoc (x -ℤ m) y (neg_ℤ m)

back : (x y m : ℤ) → (x +ℤ y) -ℤ m ≡ ((x -ℤ m) +ℤ (y -ℤ m)) +ℤ m
back x y m = sym (-ℤ-+ℤ_cancel ((x +ℤ y) -ℤ m) m) ∙ ap (λ z. z +ℤ m) (both x y m)

pub plus_range : (a b : ℕ) → plus_of a b < 2 ^ 32
unfolding plus_of
plus_range a b = omega arith

plus_comm : (a b : ℕ) → plus_of a b ≡ plus_of b a
unfolding plus_of
plus_comm a b = ap (λ n. n % 2 ^ 32) (add_comm a b)

plus_small : (a b : ℕ) → a + b < 2 ^ 32 → plus_of a b ≡ a + b
unfolding plus_of
plus_small a b h = omega arith

plus_large : (a b : ℕ) → a < 2 ^ 32 → b < 2 ^ 32 → 2 ^ 32 ≤ a + b → plus_of a b ≡ a + b - 2 ^ 32
unfolding plus_of
plus_large a b h k l = omega arith

-- the law below, by the halves in which a and b lie
low_low : (a b : ℕ) → a < 2 ^ 31 → b < 2 ^ 31 → Wrapped (integer_of (plus_of a b)) (integer_of a +ℤ integer_of b)
low_low a b p q =
    let s : a + b < 2 ^ 32 = omega arith in
    rw (plus_small a b s, low a p, low b q)
    (⊎_elim (λ r. inl (low (a + b) r)) (λ r. inr (inr (high (a + b) r))) (split (a + b) (2 ^ 31)))

low_high : (a b : ℕ) → a < 2 ^ 31 → 2 ^ 31 ≤ b → b < 2 ^ 32 → integer_of (plus_of a b) ≡ integer_of a +ℤ integer_of b
low_high a b p q k = rw (low a p, high b q) (⊎_elim small large (split (a + b) (2 ^ 32)))
  where
    small : a + b < 2 ^ 32 → integer_of (plus_of a b) ≡ pos a +ℤ (pos b -ℤ pos (2 ^ 32))
    small s =
        let r : 2 ^ 31 ≤ a + b = omega arith in
        rw (plus_small a b s) (high (a + b) r ∙ +ℤ_assoc (pos a) (pos b) (neg_ℤ (pos (2 ^ 32))))

    large : 2 ^ 32 ≤ a + b → integer_of (plus_of a b) ≡ pos a +ℤ (pos b -ℤ pos (2 ^ 32))
    large s =
        let l : a < 2 ^ 32 = omega arith in
        let r : a + b - 2 ^ 32 < 2 ^ 31 = omega arith in
        rw (plus_large a b l k s) (low _ r ∙ above (a + b) s ∙ +ℤ_assoc (pos a) (pos b) (neg_ℤ (pos (2 ^ 32))))

high_high : (a b : ℕ) → 2 ^ 31 ≤ a → a < 2 ^ 32 → 2 ^ 31 ≤ b → b < 2 ^ 32
    → Wrapped (integer_of (plus_of a b)) (integer_of a +ℤ integer_of b)
high_high a b p h q k =
    let s : 2 ^ 32 ≤ a + b = omega arith in
    rw (plus_large a b h k s, high a p, high b q)
    (⊎_elim (λ r. inr (inl (low _ r ∙ above (a + b) s ∙ back (pos a) (pos b) (pos (2 ^ 32)))))
    (λ r. inl (high _ r ∙ ap (λ z. z -ℤ pos (2 ^ 32)) (above (a + b) s) ∙ both (pos a) (pos b) (pos (2 ^ 32))))
    (split (a + b - 2 ^ 32) (2 ^ 31)))

-- the bits of a sum stand for the sum of the two integers, brought into range
pub integer_plus : (a b : ℕ) → a < 2 ^ 32 → b < 2 ^ 32 → Wrapped (integer_of (plus_of a b)) (integer_of a +ℤ integer_of b)
integer_plus a b h k =
    ⊎_elim (λ p. ⊎_elim (low_low a b p) (λ q. inl (low_high a b p q k)) (split b (2 ^ 31)))
    (λ p.
    ⊎_elim
    (λ q. inl (ap integer_of (plus_comm a b) ∙ low_high b a q p h ∙ +ℤ_comm (integer_of b) (integer_of a)))
    (λ q. high_high a b p h q k)
    (split b (2 ^ 31)))
    (split a (2 ^ 31))
