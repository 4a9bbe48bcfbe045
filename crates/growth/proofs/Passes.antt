-- Passes one after the other.
-- Assumes nothing.
use mathlib.Core.Path.{◌≡◌, sym}
use mathlib.Core.Bool.{Bool, true, false, ◌||◌}
use mathlib.Core.List.{List}
use Prim.Native.Nat.{ℕ, zero, suc, ◌+◌, ◌*◌, ◌<◌}
use Rattle.std.proofs.Common.{add-one}
use native.Mathlib.Omega.{arith}
use lib.Ieee.{Float}
use Rattle.plane.proofs.Mask.{mask-same, mask-on}
use Rattle.plane.specs.Search.{some_below}
use Rattle.plane.proofs.Search.{none_found, or_no}
use Rattle.plane.specs.Mask.{is_on, mask_of}
use Rattle.colour.specs.declared.Rgb.{Rgb}
use Rattle.outline.specs.Growth.{is_joining, pass_of, growth_of}

module _ (colours : List Float) (reference : Rgb) (h w : ℕ) (back : List ℕ) where
  abbrev joining : ℕ → Bool
  joining = is_joining colours reference back h w

  abbrev next : List ℕ
  next = pass_of colours reference back h w

  -- a pass without a join leaves the background as it is
  stays : some_below (h * w) joining ≡ false → mask_of (h * w) (is_on back) ≡ mask_of (h * w) (is_on next)
  unfolding pass_of
  stays e =
      mask-same (h * w) (is_on back) (is_on next)
      (λ i l. rw (mask-on (h * w) (λ (k : ℕ). is_on back k || joining k) i l, none_found joining (h * w) e i l, or_no))

  -- one pass, and those that are left
  pub growth-more : (p left : ℕ) (new : List ℕ) → p ≡ left + 1 → some_below (h * w) joining ≡ true → new ≡ next
      → growth_of colours reference h w p back ≡ growth_of colours reference h w left new
  unfolding growth_of
  growth-more p left new l e f = rw (l, add-one, e, f)

  -- a pass without a join is the last
  pub growth-last : (p n : ℕ) (new : List ℕ) → 0 < p → n ≡ h * w → some_below (h * w) joining ≡ false → new ≡ next
      → mask_of n (is_on new) ≡ growth_of colours reference h w p back
  unfolding growth_of
  growth-last zero n new l k e f = absurd (omega arith)
  growth-last (suc p) n new l k e f = rw (k, e, f) (sym (stays e))

  -- none is left
  pub growth-done : (p n : ℕ) → p ≡ 0 → n ≡ h * w → mask_of n (is_on back) ≡ growth_of colours reference h w p back
  unfolding growth_of
  growth-done p n e f = rw (e, f)
