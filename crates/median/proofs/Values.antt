-- Laws of numbers that are kept in a buffer of 32-bit numbers.
-- Assumes nothing.
use mathlib.Core.Path.{◌≡◌, sym, ap, ◌∙◌}
use mathlib.Core.Bool.{true, false, not}
use mathlib.Core.List.{List}
use mathlib.Core.Logic.{⊎_elim}
use Prim.Native.Nat.{ℕ, ◌+◌, ◌*◌, ◌/◌, ◌≤◌, ◌<◌}
use native.Mathlib.Omega.{arith}
use lib.Dec.{T, eqb}
use lib.ListN.{length, get_or, take, set, length-set}
use lib.Seq.{length-take-le, get_or-take, get_or-set_same, get_or-set_other, ext_get_or}
use lib.Ieee.{Float, nan, inf, fin, binary64, to_bits, nan_bits, fits, is_nan}
use lib.Ieee.Bits.{of_bits-to_bits, of_bits-fits, nan_bits_is}
use lib.Ieee.Scale.{finite}
use borrow.Author.Tests.{eqb-true, eqb-false}
use Rattle.plane.proofs.Plane.{table-length, table_at}
use Rattle.std.proofs.lemmas.Bool.{cases_Bool}
use Rattle.colour.specs.Number.{Binary64}
use Rattle.colour.specs.Colour.{colour_ok, colours_ok}
use Rattle.colour.proofs.Range.{is, ok-finite, colours-at}
use Rattle.median.specs.steps.Values.{half, float_at, floats_of}

pub floats-length : (v : List ℕ) → length (floats_of v) ≡ length v / 2
unfolding floats_of
floats-length v = table-length (float_at v) 0 (length v / 2)

-- how many numbers a buffer has, for the bounds of indices into it
pub ruleset buffer_length = (floats-length)

pub floats_at : (v : List ℕ) (k : ℕ) → k < length (floats_of v) → get_or (floats_of v) k nan ≡ float_at v k
unfolding floats_of
floats_at v k h = table_at (float_at v) (length v / 2) k nan (omega (arith, floats-length v))

-- whatever the buffer holds, they are binary64 numbers
pub floats-held : (v : List ℕ) → Binary64 (floats_of v)
unfolding float_at
floats-held v k h = rw (floats_at v k h) (of_bits-fits binary64 _)

-- ---- a number from 0 to 1 is no NaN
finite_number : (x : Float) → T (finite x) → T (not (is_nan x))
unfolding is_nan
finite_number nan t = t
finite_number (inf s) t = tt
finite_number (fin s m e) t = tt

pub ok-number : (x : Float) → colour_ok x ≡ true → T (not (is_nan x))
ok-number x e = finite_number x (ok-finite x (is _ e))

-- nor is its pattern that of one
pub bits-number : (v : List ℕ) (k b : ℕ) → colours_ok (floats_of v) ≡ true → k < length (floats_of v)
    → b ≡ get_or v (2 * k + 1) 0 * half + get_or v (2 * k) 0 → T (not (nan_bits binary64 b))
unfolding float_at
bits-number v k b ok h e = rw (nan_bits_is binary64 b, e) (ok-number _ (rw (floats_at v k h) at (colours-at (floats_of v) ok k h)))

-- ---- number k is written
module _ (v : List ℕ) (k low high : ℕ) (h : k < length (floats_of v)) where
  abbrev written : List ℕ
  written = set (set v (2 * k) low) (2 * k + 1) high

  size : length written ≡ length v
  size = length-set (set v (2 * k) low) (2 * k + 1) high ∙ length-set v (2 * k) low

  same_size : length (floats_of written) ≡ length (floats_of v)
  same_size = floats-length written ∙ ap (λ (n : ℕ). n / 2) size ∙ sym (floats-length v)

  low_half : get_or written (2 * k) 0 ≡ low
  low_half =
      get_or-set_other (set v (2 * k) low) (2 * k + 1) (2 * k) high 0 (λ (e : 2 * k ≡ 2 * k + 1). absurd (omega arith))
      ∙ get_or-set_same v (2 * k) low 0 (omega (arith, floats-length v))

  high_half : get_or written (2 * k + 1) 0 ≡ high
  high_half = get_or-set_same (set v (2 * k) low) (2 * k + 1) high 0 (omega (arith, floats-length v, length-set v (2 * k) low))

  other : (j : ℕ) → (j ≡ 2 * k → ⊥) → (j ≡ 2 * k + 1 → ⊥) → get_or written j 0 ≡ get_or v j 0
  other j p q = get_or-set_other (set v (2 * k) low) (2 * k + 1) j high 0 q ∙ get_or-set_other v (2 * k) j low 0 p

  pub floats-put : (x : Float) → T (fits binary64 x) → high * half + low ≡ to_bits binary64 x → floats_of written ≡ set (floats_of v) k x
  unfolding float_at
  floats-put x f e =
      ext_get_or nan (floats_of written) (set (floats_of v) k x) (same_size ∙ sym (length-set (floats_of v) k x))
      (λ i l. floats_at written i l ∙ at i (omega (arith, same_size)))
    where
      here : float_at written k ≡ get_or (set (floats_of v) k x) k nan
      here = rw (low_half, high_half, e) (of_bits-to_bits binary64 x f ∙ sym (get_or-set_same (floats_of v) k x nan h))

      apart : (i : ℕ) → i < length (floats_of v) → (i ≡ k → ⊥) → float_at written i ≡ get_or (set (floats_of v) k x) i nan
      apart i m z =
          rw (
            other (2 * i) (λ (p : 2 * i ≡ 2 * k). z (omega arith)) (λ (p : 2 * i ≡ 2 * k + 1). absurd (omega arith)),
            other (2 * i + 1) (λ (p : 2 * i + 1 ≡ 2 * k). absurd (omega arith)) (λ (p : 2 * i + 1 ≡ 2 * k + 1). z (omega arith)),
          )
          (sym (get_or-set_other (floats_of v) k i x nan z ∙ floats_at v i m))

      at : (i : ℕ) → i < length (floats_of v) → float_at written i ≡ get_or (set (floats_of v) k x) i nan
      at i m =
          ⊎_elim {C = float_at written i ≡ get_or (set (floats_of v) k x) i nan}
          (λ (z : eqb i k ≡ true). rw (eqb-true i k z) here)
          (λ (z : eqb i k ≡ false). apart i m (eqb-false i k z))
          (cases_Bool (eqb i k))

-- ---- the first n numbers
pub floats-take : (v : List ℕ) (n : ℕ) → n ≤ length (floats_of v) → floats_of (take (2 * n) v) ≡ take n (floats_of v)
unfolding float_at
floats-take v n h =
    let a : length (take (2 * n) v) ≡ 2 * n = length-take-le (2 * n) v (omega (arith, floats-length v)) in
    let b : length (floats_of (take (2 * n) v)) ≡ n = omega (arith, floats-length (take (2 * n) v)) in
    ext_get_or nan (floats_of (take (2 * n) v)) (take n (floats_of v)) (b ∙ sym (length-take-le n (floats_of v) h))
    (λ i l.
    floats_at (take (2 * n) v) i l
    ∙ rw (get_or-take (2 * n) v (2 * i) 0 (omega arith), get_or-take (2 * n) v (2 * i + 1) 0 (omega arith))
    (sym (get_or-take n (floats_of v) i nan (omega arith) ∙ floats_at v i (omega arith))))
