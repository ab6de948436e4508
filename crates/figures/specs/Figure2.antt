-- Figure 2 of the report, "definite initialization", equation by equation and in its order.
-- `Sets I e K`: where the variables of I are set, e reads none that is unset, and those of K are set after it.
use Rattle.std.specs.Prelude.{ℕ, ◌≡◌, true, false, cond}
use Rattle.rules.specs.Maps.{upd}
use Rattle.rules.specs.Trees.{Expr, Exprs, new, cast, val, var, add, eq, assign, get, put, call, block, seq, ite, while, throw, try, nil, cons}
use Rattle.rules.specs.Setting.{Vars, every_var, meet}

-- I with x, and I without x
abbrev pub with : Vars → ℕ → Vars
with I x = upd I x true

abbrev pub without : Vars → ℕ → Vars
without I x = upd I x false

unfoldable mutual
  pub Sets : Vars → Expr → Vars → Type 0
  Sets I₀ (new p c) I₁ = I₁ ≡ I₀
  Sets I₀ (cast p c e) I₁ = Sets I₀ e I₁
  Sets I₀ (val p v) I₁ = I₁ ≡ I₀
  Sets I₀ (add p a b) I₂ = (I₁ : Vars) × Sets I₀ a I₁ × Sets I₁ b I₂
  Sets I₀ (eq p a b) I₂ = (I₁ : Vars) × Sets I₀ a I₁ × Sets I₁ b I₂
  Sets I₀ (var p x) I₁ = (I₀ x ≡ true) × (I₁ ≡ I₀)
  Sets I₀ (assign p x e) I₂ = (I₁ : Vars) × Sets I₀ e I₁ × (I₂ ≡ with I₁ x)
  Sets I₀ (get p f d e) I₁ = Sets I₀ e I₁
  Sets I₀ (put p f d a b) I₂ = (I₁ : Vars) × Sets I₀ a I₁ × Sets I₁ b I₂
  Sets I₀ (call p m e es) I₂ = (I₁ : Vars) × Sets I₀ e I₁ × SetsAll I₁ es I₂
  Sets I₀ (block p x t mv e) I₂ =
      (I₁ : Vars) × Sets (without I₀ x) e I₁ × (I₂ ≡ cond (I₀ x) (with I₁ x) (without I₁ x))
  Sets I₀ (seq p a b) I₂ = (I₁ : Vars) × Sets I₀ a I₁ × Sets I₁ b I₂
  Sets I₀ (ite p c a b) I₃ =
      (I : Vars) × (I₁ : Vars) × (I₂ : Vars) × Sets I₀ c I × Sets I a I₁ × Sets I b I₂ × (I₃ ≡ meet I₁ I₂)
  Sets I₀ (while p c e) I₁ = Sets I₀ c I₁ × ((I₂ : Vars) × Sets I₁ e I₂)
  -- the set of all variables is that of all 64
  Sets I₀ (throw p t e) I₂ = (I₂ ≡ every_var) × ((I₁ : Vars) × Sets I₀ e I₁)
  Sets I₀ (try p c x a b) I₃ =
      (I₁ : Vars)
      × (I₂ : Vars)
      × Sets I₀ a I₁
      × Sets (with I₀ x) b I₂
      × (I₃ ≡ meet I₁ (cond (I₀ x) I₂ (without I₂ x)))

  pub SetsAll : Vars → Exprs → Vars → Type 0
  SetsAll I₀ nil I₁ = I₁ ≡ I₀
  SetsAll I₀ (cons e es) I₂ = (I₁ : Vars) × Sets I₀ e I₁ × SetsAll I₁ es I₂
