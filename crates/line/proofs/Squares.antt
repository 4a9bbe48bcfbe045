-- The quadratic identities of the line pass, and what follows for two sites i < u: u is strictly better from one place on.
-- Assumes nothing.
use mathlib.Core.Path.{◌≡◌, ap, ◌∙◌}
use mathlib.Core.List.{List}
use mathlib.Core.Logic.{⊎_elim}
use Prim.Native.Nat.{ℕ, ◌+◌, ◌*◌, ◌-◌, ◌≤◌, ◌<◌}
use native.Mathlib.Nat.{mul-add, add-mul, one-mul, mul-one, mul_comm, mul_left_comm, mul-le-mul_right, mul-le-mul}
use native.Mathlib.Nat.{le-div_iff_mul-le, div-lt_iff_lt-mul}
use native.Mathlib.Omega.{arith}
use Rattle.plane.specs.Plane.{apart}
use Rattle.std.proofs.lemmas.Bool.{cases_lt}
use Rattle.line.specs.steps.Line.{value_at}
use Rattle.line.specs.steps.Envelope.{height, takeover_at}

square-sum : (x d : ℕ) → d * d + 2 * (x * (x + d)) ≡ x * x + (x + d) * (x + d)
square-sum x d =
    let a : x * (x + d) ≡ x * x + x * d = mul-add x x d in
    let b : (x + d) * (x + d) ≡ x * (x + d) + d * (x + d) = add-mul x d (x + d) in
    let e : d * (x + d) ≡ d * x + d * d = mul-add d x d in
    let m : d * x ≡ x * d = mul_comm d x in
    omega arith

-- (x - i)² + 2xi = x² + i²
pub square-apart : (x i : ℕ) → apart x i * apart x i + 2 * (x * i) ≡ x * x + i * i
unfolding apart
square-apart x i =
    ⊎_elim
    (λ (h : x < i).
    let d = i - x in
    let e : x + d ≡ i = omega arith in
    let z : (x - i) + (i - x) ≡ d = omega arith in
    rw z (rw e at (square-sum x d)))
    (λ (h : i ≤ x).
    let d = x - i in
    let e : i + d ≡ x = omega arith in
    let z : (x - i) + (i - x) ≡ d = omega arith in
    let s : d * d + 2 * (i * x) ≡ i * i + x * x = rw e at (square-sum i d) in
    let m : x * i ≡ i * x = mul_comm x i in
    rw z (omega arith))
    (cases_lt x i)

module _ (costs : List ℕ) where
  -- the one equation: at x the values of i and u differ by what is linear in x
  pub balance : (x i u : ℕ) → i ≤ u → value_at costs x i + height costs u ≡ value_at costs x u + (height costs i + x * (2 * (u - i)))
  unfolding value_at
  balance x i u h =
      let a = square-apart x i in
      let b = square-apart x u in
      let e : u ≡ i + (u - i) = omega arith in
      let m : x * u ≡ x * i + x * (u - i) = ap (λ (k : ℕ). x * k) e ∙ mul-add x i (u - i) in
      let t : x * (2 * (u - i)) ≡ 2 * (x * (u - i)) = mul_left_comm x 2 (u - i) in
      omega arith

  -- where u is strictly better, it stays so to the right
  pub beats : (i u x y : ℕ) → i ≤ u → x ≤ y → value_at costs x u < value_at costs x i → value_at costs y u < value_at costs y i
  beats i u x y h l b =
      let p = balance x i u h in
      let q = balance y i u h in
      let m : x * (2 * (u - i)) ≤ y * (2 * (u - i)) = mul-le-mul_right (2 * (u - i)) l in
      omega arith

  -- where i is as good, it is so to the left
  pub holds : (i u x y : ℕ) → i ≤ u → x ≤ y → value_at costs y i ≤ value_at costs y u → value_at costs x i ≤ value_at costs x u
  holds i u x y h l b =
      let p = balance x i u h in
      let q = balance y i u h in
      let m : x * (2 * (u - i)) ≤ y * (2 * (u - i)) = mul-le-mul_right (2 * (u - i)) l in
      omega arith

  -- where i is as good somewhere, its height is no larger
  pub heights : (i u x : ℕ) → i ≤ u → value_at costs x i ≤ value_at costs x u → height costs i ≤ height costs u
  heights i u x h b = let p = balance x i u h in omega arith

  -- before the takeover i is as good, from it on u is strictly better
  pub before : (i u x : ℕ) → i < u → height costs i ≤ height costs u → x < takeover_at costs i u → value_at costs x i ≤ value_at costs x u
  unfolding takeover_at
  before i u x h g l =
      let p = balance x i u (omega arith) in
      let rise = height costs u - height costs i in
      let m : x * (2 * (u - i)) ≤ rise = (le-div_iff_mul-le {k = 2 * (u - i)} {x = x} {y = rise} (omega arith)).0 (omega arith) in
      omega arith

  pub after : (i u x : ℕ) → i < u → takeover_at costs i u ≤ x → value_at costs x u < value_at costs x i
  unfolding takeover_at
  after i u x h l =
      let p = balance x i u (omega arith) in
      let rise = height costs u - height costs i in
      let m : rise < x * (2 * (u - i)) = (div-lt_iff_lt-mul {k = 2 * (u - i)} {x = rise} {y = x} (omega arith)).0 (omega arith) in
      omega arith

-- how far apart two places are, by which is the left one
pub apart-left : (x j : ℕ) → j ≤ x → apart x j + j ≡ x
unfolding apart
apart-left x j l = omega arith

pub apart-right : (x j : ℕ) → x ≤ j → apart x j + x ≡ j
unfolding apart
apart-right x j l = omega arith

-- they are not apart where they are one
pub apart-zero : (x j : ℕ) → apart x j ≡ 0 → j ≡ x
unfolding apart
apart-zero x j e = omega arith

-- the square of a number below 65,536 is below 2^32
pub square-fits : (d : ℕ) → d < 65536 → d * d ≤ 4294836225
square-fits d h = mul-le-mul {n₁ = d} {m₁ = d} {n₂ = 65535} {m₂ = 65535} (omega arith) (omega arith)

-- two places of a line are less than 65,536 apart
pub apart_fits : (x i : ℕ) → x < 65536 → i < 65536 → apart x i < 65536
unfolding apart
apart_fits x i a b = omega arith

-- so the square of their distance is below 2^32
pub gap-fits : (x i d : ℕ) → d ≡ apart x i → x < 65536 → i < 65536 → d * d ≤ 4294836225
gap-fits x i d e a b = square-fits d (let z = apart_fits x i a b in omega arith)

-- squares are in the order of their roots
pub square_le : {a b : ℕ} → a ≤ b → a * a ≤ b * b
square_le {a} {b} h = mul-le-mul {n₁ = a} {m₁ = a} {n₂ = b} {m₂ = b} h h

pub square-lt : {a b : ℕ} → a < b → a * a < b * b
square-lt {a} {b} h =
    let m : (a + 1) * (a + 1) ≤ b * b = mul-le-mul {n₁ = a + 1} {m₁ = a + 1} {n₂ = b} {m₂ = b} (omega arith) (omega arith) in
    omega (arith, rw (add-mul, mul-add, one-mul, mul-one) at m)

pub root-le : (a b : ℕ) → a * a ≤ b * b → a ≤ b
root-le a b h = ⊎_elim (λ (l : b < a). (let z = square-lt l in absurd (omega arith))) (λ (l : a ≤ b). l) (cases_lt b a)

pub root-lt : (a b : ℕ) → a * a < b * b → a < b
root-lt a b h = ⊎_elim (λ (l : a < b). l) (λ (l : b ≤ a). (let z = square_le l in absurd (omega arith))) (cases_lt a b)
