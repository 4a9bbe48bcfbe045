-- Laws of masks: what is on, by index and by row and column.
-- Assumes nothing.
use mathlib.Core.Path.{◌≡◌, refl, sym, ap, ◌∙◌}
use mathlib.Core.Bool.{Bool, true, false, not}
use mathlib.Core.List.{List}
use mathlib.Core.Logic.{⊎_elim}
use Prim.Native.Nat.{ℕ, ◌+◌, ◌*◌, ◌/◌, ◌%◌, ◌≤◌, ◌<◌}
use native.Mathlib.Omega.{arith}
use lib.Dec.{eqb}
use lib.ListN.{length, get_or, get_or-eq_default}
use Rattle.plane.specs.Plane.{on, bit, on_at}
use Rattle.plane.specs.Mask.{is_on, mask_of}
use Rattle.plane.proofs.Search.{not-both}
use Rattle.std.proofs.lemmas.Bool.{cases_lt}
use Rattle.plane.proofs.Plane.{table-length, table_at, table_same, pixel-in, index-of, on_bit}

-- a pixel that is on lies in the plane
pub on-inside : (mask : List ℕ) (i : ℕ) → is_on mask i ≡ true → i < length mask
unfolding is_on on
on-inside mask i e =
    ⊎_elim {C = i < length mask}
    (λ (l : i < length mask). l)
    (λ (l : length mask ≤ i). not-both (not (eqb (get_or mask i 0) 0)) e (rw (get_or-eq_default mask 0 l)))
    (cases_lt i (length mask))

-- a byte that is 0 is off
pub off_byte : (mask : List ℕ) (i : ℕ) → eqb (get_or mask i 0) 0 ≡ not (is_on mask i)
unfolding is_on on
off_byte mask i = twice (eqb (get_or mask i 0) 0)
  where
    twice : (t : Bool) → t ≡ not (not t)
    twice true = refl
    twice false = refl

-- ---- masks by a test

module _ (n : ℕ) (p : ℕ → Bool) where
  pub mask-length : length (mask_of n p) ≡ n
  unfolding mask_of
  mask-length = table-length (λ (i : ℕ). bit (p i)) 0 n

  -- a mask holds 0 and 1 only
  pub mask_at : (i : ℕ) → i < n → get_or (mask_of n p) i 0 ≡ bit (p i)
  unfolding mask_of
  mask_at i l = table_at (λ (k : ℕ). bit (p k)) n i 0 l

  -- the pixels that are on are those of which p holds
  pub mask-on : (i : ℕ) → i < n → is_on (mask_of n p) i ≡ p i
  unfolding is_on
  mask-on i l = ap on (mask_at i l) ∙ on_bit (p i)

  -- and they lie in the plane
  pub mask-inside : (i : ℕ) → is_on (mask_of n p) i ≡ true → i < n
  mask-inside i e = omega (arith, on-inside (mask_of n p) i e, mask-length)

  -- so a pixel that is on is one of which p holds
  pub mask-holds : (i : ℕ) → is_on (mask_of n p) i ≡ true → p i ≡ true
  mask-holds i e = sym (mask-on i (mask-inside i e)) ∙ e

-- masks of equal tests are equal
pub mask-same : (n : ℕ) (p q : ℕ → Bool) → ((i : ℕ) → i < n → p i ≡ q i) → mask_of n p ≡ mask_of n q
unfolding mask_of
mask-same n p q h = table_same (λ (i : ℕ). bit (p i)) (λ (i : ℕ). bit (q i)) n 0 (λ i l. ap bit (h i l))

-- a mask made from a mask's pixels is that mask
pub mask-again : (n : ℕ) (p : ℕ → Bool) → mask_of n (is_on (mask_of n p)) ≡ mask_of n p
mask-again n p = mask-same n (is_on (mask_of n p)) p (mask-on n p)

-- ---- by index, and by row and column

pub index_on : (mask : List ℕ) (w i : ℕ) → on_at mask w (i / w) (i % w) ≡ is_on mask i
unfolding on_at is_on
index_on mask w i = rw (index-of i w)

pub row_on : (mask : List ℕ) (w y x : ℕ) → on_at mask w y x ≡ is_on mask (y * w + x)
unfolding on_at is_on
row_on mask w y x = refl

-- masks with the same pixels on, by index, have them on by row and column
pub rows_alike : (a b : List ℕ) (h w : ℕ) → ((i : ℕ) → i < h * w → is_on a i ≡ is_on b i)
    → (y x : ℕ) → y < h → x < w → on_at a w y x ≡ on_at b w y x
rows_alike a b h w e y x r c = row_on a w y x ∙ e (y * w + x) (pixel-in y x h w r c) ∙ sym (row_on b w y x)
