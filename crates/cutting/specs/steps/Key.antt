-- What the inner functions of the cut are given, and what they give.
-- Assumes nothing.
use Rattle.std.specs.Prelude.{ℕ, ◌*◌, ◌≤◌, ◌≡◌, true, not, cond, List, length, Float}
use Rattle.plane.specs.declared.size.Size.{Size}
use Rattle.plane.specs.Mask.{is_on, mask_of}
use Rattle.plane.specs.Refusal.{room_for}
use Rattle.colour.specs.declared.Rgb.{Rgb}
use Rattle.outline.specs.Ground.{ground_of, is_found}
use Rattle.outline.specs.Growth.{growth_of}

-- a full mask with the grown ground taken out where it is found
unfoldable pub keyed_plane : List Float → ℕ → ℕ → Rgb → Float → ℕ → List ℕ
keyed_plane colours h w reference tolerance passes =
    cond (is_found colours h w reference tolerance)
    (mask_of (h * w) (λ (i : ℕ). not (is_on (growth_of colours reference h w passes (ground_of colours h w reference tolerance)) i)))
    (mask_of (h * w) (λ (i : ℕ). true))

-- a mask of a picture with these sides, and buffers for it
pub record KeyRoom (size : Size) (nearest shallow deep marks mask : List ℕ) : Type 0 where
  pub mask_long : length mask ≡ size.h * size.w
  pub nearest_long : room_for size.h size.w ≤ length nearest
  pub shallow_long : room_for size.h size.w ≤ length shallow
  pub deep_long : room_for size.h size.w ≤ length deep
  pub marks_long : room_for size.h size.w ≤ length marks
