-- The cut: from a picture, a reference colour and the settings to mask, weights, keyed flag and crop box.
-- Assumes nothing.
use Rattle.std.specs.Prelude.{ℕ, ◌*◌, Bool, cond, not, ◌&&◌, List, eqb, get_or, Float}
use Rattle.plane.specs.Plane.{table}
use Rattle.plane.specs.Mask.{is_on, mask_of, some_off}
use Rattle.plane.specs.Box.{box_of, whole_of}
use Rattle.plane.specs.declared.Box.{Box}
use Rattle.colour.specs.declared.Rgb.{Rgb}
use Rattle.colour.specs.declared.Settings.{Settings}
use Rattle.colour.specs.Number.{zero64}
use Rattle.colour.specs.Settings.{on_of, passes_of}
use Rattle.colour.specs.Weight.{weight_of}
use Rattle.outline.specs.Ground.{ground_of, is_found}
use Rattle.outline.specs.Growth.{growth_of}

-- the mask before keying (R31): on where alpha is at least the threshold
unfoldable pub alpha_mask : List ℕ → ℕ → Settings → List ℕ
alpha_mask alpha n s = mask_of n (λ (i : ℕ). on_of (get_or alpha i 0) s.alpha_threshold)

-- a ground is sought where that mask is full and the settings ask for it (R32)
unfoldable pub is_sought : List ℕ → ℕ → Settings → Bool
is_sought alpha n s = s.key_bg && not (some_off (alpha_mask alpha n s) n)

-- the keyed flag (R33): a ground was sought and found
unfoldable pub is_keyed : List Float → List ℕ → ℕ → ℕ → Rgb → Settings → Bool
is_keyed colours alpha h w reference s = is_sought alpha (h * w) s && is_found colours h w reference s.key_bg_tolerance

-- the ground after growth (R32)
unfoldable pub grown_ground : List Float → ℕ → ℕ → Rgb → Settings → List ℕ
grown_ground colours h w reference s =
    growth_of colours reference h w (passes_of s) (ground_of colours h w reference s.key_bg_tolerance)

-- the mask that is filed (R32): keyed, what the grown ground leaves
unfoldable pub cut_mask : List Float → List ℕ → ℕ → ℕ → Rgb → Settings → List ℕ
cut_mask colours alpha h w reference s =
    cond (is_keyed colours alpha h w reference s)
    (mask_of (h * w) (λ (i : ℕ). not (is_on (grown_ground colours h w reference s) i)))
    (alpha_mask alpha (h * w) s)

-- the weight of a pixel (R34): max(alpha, 1) / 255 on the mask, else 0
unfoldable pub weight_at : List ℕ → List ℕ → ℕ → Float
weight_at mask alpha i = cond (is_on mask i) (weight_of (cond (eqb (get_or alpha i 0) 0) 1 (get_or alpha i 0))) zero64

unfoldable pub weights_of : List ℕ → List ℕ → ℕ → List Float
weights_of mask alpha n = table (weight_at mask alpha) 0 n

-- how many pixels are added on each side of the mask's box (R35)
abbrev pub margin : ℕ
margin = 1

-- the crop box (R35, R36): the whole picture where cropping is off or the mask is full
unfoldable pub crop_of : List ℕ → ℕ → ℕ → ℕ → Bool → Box
crop_of mask h w added cropping = cond (cropping && some_off mask (h * w)) (box_of mask h w added) (whole_of h w)

-- a cut, as it is filed: its sides, mask, weights, keyed flag and crop box (R30 to R36)
pub record Cut : Type 0 where
  pub height : ℕ
  pub width : ℕ
  pub mask : List ℕ
  pub weights : List Float
  pub keyed : Bool
  pub box : Box

-- the cut of a picture (R30 to R36)
unfoldable pub cut_of : List Float → List ℕ → ℕ → ℕ → Rgb → Settings → Cut
cut_of colours alpha h w reference s =
    record {
      height = h;
      width = w;
      mask = cut_mask colours alpha h w reference s;
      weights = weights_of (cut_mask colours alpha h w reference s) alpha (h * w);
      keyed = is_keyed colours alpha h w reference s;
      box = crop_of (cut_mask colours alpha h w reference s) h w margin s.crop_to_alpha;
    }
