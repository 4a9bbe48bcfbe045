-- A look at a cut: its background is what the mask leaves off.
-- Assumes nothing.
use Rattle.std.specs.Prelude.{ℕ, ◌+◌, ◌≡◌, not, List}
use Rattle.plane.specs.Mask.{is_on, mask_of}
use Rattle.colour.specs.declared.Settings.{Settings}
use Rattle.colour.specs.Settings.{passes_of}

-- on and off exchanged (R32): the background of a mask, and the mask of a background
unfoldable pub off_of : ℕ → List ℕ → List ℕ
off_of n mask = mask_of n (λ (i : ℕ). not (is_on mask i))

-- settings t are the settings s with one pass more (R92)
pub record OnePassMore (s t : Settings) : Type 0 where
  pub threshold : s.alpha_threshold ≡ t.alpha_threshold
  pub keying : s.key_bg ≡ t.key_bg
  pub passes : passes_of s + 1 ≡ passes_of t
  pub tolerance : s.key_bg_tolerance ≡ t.key_bg_tolerance
  pub cropping : s.crop_to_alpha ≡ t.crop_to_alpha
