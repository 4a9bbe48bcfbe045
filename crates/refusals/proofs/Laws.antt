-- Laws of the tests.
-- Assumes nothing.
use mathlib.Core.Path.{◌≡◌, refl, sym}
use mathlib.Core.Bool.{Bool}
use mathlib.Core.List.{List, [], ◌∷◌}
use Prim.Native.Nat.{ℕ}
use lib.ListN.{length, get_or}
use lib.Ieee.{Float}
use Rattle.plane.specs.Refusal.{refusal_of}
use Rattle.plane.specs.Search.{some_below}
use Rattle.plane.specs.Mask.{is_on}
use Rattle.plane.proofs.Search.{some_same}
use Rattle.plane.proofs.Mask.{mask-on}
use Rattle.plane.proofs.Refusal.{passed_first}
use Rattle.colour.specs.declared.Rgb.{Rgb}
use Rattle.colour.specs.declared.Settings.{Settings}
use Rattle.colour.specs.Colour.{colours_ok, rgb_ok}
use Rattle.colour.specs.Settings.{on_of}
use Rattle.outline.specs.Cut.{alpha_mask}
use Rattle.outline.specs.Refusal.{work_tests, growth_lengths, growth_refusal}

-- where the lengths are accepted, what is in the buffers decides
pub growth-first : (colours : List Float) (back h w : ℕ) (reference : Rgb) (out nearest shallow deep marks : ℕ)
    → refusal_of (growth_lengths h w (length colours) back out nearest shallow deep marks) ≡ 0
    → growth_refusal colours back h w reference out nearest shallow deep marks
    ≡ refusal_of ((4, colours_ok colours) ∷ (4, rgb_ok reference) ∷ [])
unfolding growth_refusal
growth-first colours back h w reference out nearest shallow deep marks e =
    passed_first (growth_lengths h w (length colours) back out nearest shallow deep marks) _ (unfold growth_lengths work_tests in refl) e

-- the alphas that reach the threshold are those that the mask by alpha has on
pub alpha-searched : (alpha : List ℕ) (n : ℕ) (s : Settings)
    → some_below n (λ (i : ℕ). on_of (get_or alpha i 0) s.alpha_threshold) ≡ some_below n (is_on (alpha_mask alpha n s))
unfolding alpha_mask
alpha-searched alpha n s =
    let p : ℕ → Bool = λ (i : ℕ). on_of (get_or alpha i 0) s.alpha_threshold in
    some_same p (is_on (alpha_mask alpha n s)) n (λ i g. sym (mask-on n p i g))
