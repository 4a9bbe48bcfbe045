-- Laws of the median. Lists that are equal as numbers place by place have one median, bit for bit; the median of numbers from 0 to 1
-- is from 0 to 1.
-- Assumes nothing.
use mathlib.Core.Path.{◌≡◌, refl, sym, ap, ◌∙◌}
use mathlib.Core.Bool.{Bool, true, false, cond}
use mathlib.Core.List.{List, [], ◌∷◌, map}
use Prim.Native.Nat.{ℕ, ◌-◌, ◌/◌, ◌≤◌, ◌<◌}
use native.Mathlib.Omega.{arith}
use lib.Dec.{T}
use lib.ListN.{length, get_or, length-map, get_or-map}
use lib.Seq.{ext_get_or}
use lib.Ieee.{Float, nan, binary64, lt, fits}
use Rattle.colour.specs.Number.{plus_zero, half_of, Binary64}
use Rattle.colour.specs.Colour.{colour_ok, colours_ok}
use Rattle.colour.proofs.Zero.{plus0, plus0-plus0, Alike, lt-alike, plus-zero-same, plus-zero-is}
use Rattle.colour.proofs.Same.{half-alike}
use Rattle.median.specs.Median.{insert, sorted, placed, lower_middle, upper_middle, median_of}
use Rattle.median.proofs.Pattern.{between-one}
use Rattle.median.proofs.Between.{half-ok}
use Rattle.median.proofs.Places.{placed-good, placed-ok}

-- ---- a zero's sign
plus-zero-alike : (x : Float) → T (fits binary64 x) → Alike (plus_zero x) x
plus-zero-alike x t = ap plus0 (plus-zero-is x t) ∙ plus0-plus0 x

-- the signs of zeros among the middle values are not seen
pub signs-gone : (a b : Float) → T (fits binary64 a) → T (fits binary64 b)
    → plus_zero (half_of (plus_zero a) (plus_zero b)) ≡ plus_zero (half_of a b)
signs-gone a b s t = plus-zero-same _ _ (half-alike (plus_zero a) a (plus_zero b) b (plus-zero-alike a s) (plus-zero-alike b t))

-- ---- clearing the signs of zeros keeps the order
insert-plus0 : (x : Float) (l : List Float) → map plus0 (insert x l) ≡ insert (plus0 x) (map plus0 l)
unfolding insert
insert-plus0 x [] = refl
insert-plus0 x (y ∷ l) = rw (lt-alike (plus0 x) x (plus0 y) y (plus0-plus0 x) (plus0-plus0 y)) (go (lt x y) (insert-plus0 x l))
  where
    go : (b : Bool) → map plus0 (insert x l) ≡ insert (plus0 x) (map plus0 l) → map plus0 (cond b (x ∷ y ∷ l) (y ∷ insert x l))
        ≡ cond b (plus0 x ∷ plus0 y ∷ map plus0 l) (plus0 y ∷ insert (plus0 x) (map plus0 l))
    go true e = refl
    go false e = ap (λ (r : List Float). plus0 y ∷ r) e

sorted-plus0 : (l : List Float) → map plus0 (sorted l) ≡ sorted (map plus0 l)
unfolding sorted
sorted-plus0 [] = refl
sorted-plus0 (x ∷ l) = insert-plus0 x (sorted l) ∙ ap (insert (plus0 x)) (sorted-plus0 l)

placed-plus0 : (l : List Float) (k : ℕ) → plus0 (placed l k) ≡ placed (map plus0 l) k
unfolding placed plus0
placed-plus0 l k = sym (get_or-map plus0 (sorted l) k nan) ∙ ap (λ (r : List Float). get_or r k nan) (sorted-plus0 l)

-- medians whose middle values are equal as numbers
middle-same : (l m : List Float) → Alike (lower_middle l) (lower_middle m) → Alike (upper_middle l) (upper_middle m)
    → median_of l ≡ median_of m
unfolding median_of
middle-same l m p q = plus-zero-same _ _ (half-alike (lower_middle l) (lower_middle m) (upper_middle l) (upper_middle m) p q)

-- equal as numbers place by place: the same median, bit for bit
pub median-alike : (l m : List Float) → length l ≡ length m
    → ((i : ℕ) → i < length l → Alike (get_or l i nan) (get_or m i nan)) → median_of l ≡ median_of m
unfolding lower_middle upper_middle plus0
median-alike l m e h = middle-same l m (rw (sym e) (alike (length l / 2 - 1))) (rw (sym e) (alike (length l / 2)))
  where
    cleared : map plus0 l ≡ map plus0 m
    cleared =
        ext_get_or nan (map plus0 l) (map plus0 m) (length-map l plus0 ∙ e ∙ sym (length-map m plus0))
        (λ i g. get_or-map plus0 l i nan ∙ h i (omega (arith, length-map l plus0)) ∙ sym (get_or-map plus0 m i nan))

    alike : (k : ℕ) → Alike (placed l k) (placed m k)
    alike k = placed-plus0 l k ∙ ap (λ (r : List Float). placed r k) cleared ∙ sym (placed-plus0 m k)

-- ---- range
-- the median of numbers from 0 to 1 is from 0 to 1
pub median-ok : (l : List Float) → Binary64 l → colours_ok l ≡ true → 2 ≤ length l → colour_ok (median_of l) ≡ true
unfolding median_of lower_middle upper_middle colour_ok
median-ok l a ok h =
    let i : length l / 2 - 1 < length l = omega arith in
    let j : length l / 2 < length l = omega arith in
    let x = placed l (length l / 2 - 1) in
    let y = placed l (length l / 2) in
    half-ok x y (placed-good l a ok _ i).from_zero (placed-good l a ok _ j).from_zero
    (between-one x (placed-ok l a ok _ i)) (between-one y (placed-ok l a ok _ j))
