-- Laws of the plane of the nearest pixels' indices.
-- Assumes nothing.
use mathlib.Core.Path.{◌≡◌, refl}
use mathlib.Core.Bool.{Bool, true, false}
use mathlib.Core.List.{List}
use Prim.Native.Nat.{ℕ, ◌*◌, ◌<◌, ◌/◌, ◌%◌}
use native.Mathlib.Omega.{arith}
use lib.ListN.{length, get_or}
use Rattle.std.specs.Bool.{then_some}
use Rattle.std.specs.Prelude.{Some}
use Rattle.plane.specs.Plane.{index_of}
use Rattle.plane.proofs.Plane.{plane-length, plane-index}
use Rattle.nearest.specs.Nearest.{nearest}
use Rattle.nearest.specs.steps.Indices.{indices_plane}
use Rattle.nearest.proofs.Indexed.{index-inside}
use Rattle.outline.specs.Growth.{is_reach}
use Rattle.window.specs.steps.Window.{near_pixel}

-- a pixel that is near enough lies in the plane
pub near-inside : (deep : List ℕ) (h w y x b : ℕ) → 0 < h * w → near_pixel deep h w y x ≡ Some b → b < h * w
unfolding near_pixel
near-inside deep h w y x b p e =
    let n = nearest deep h w y x in
    rw (← chosen (is_reach y x n) (index_of w n) b e) (index-inside deep h w y x n p refl)
  where
    chosen : (t : Bool) (a b : ℕ) → then_some t a ≡ Some b → a ≡ b
    chosen true a b e = cc
    chosen false a b e = cc

module _ (mask : List ℕ) (h w : ℕ) (wide : 0 < w) where
  pub indices-length : length (indices_plane mask h w) ≡ h * w
  unfolding indices_plane
  indices-length = plane-length h w (λ (y x : ℕ). index_of w (nearest mask h w y x))

  pub indices-at : (i : ℕ) → i < h * w → get_or (indices_plane mask h w) i 0 ≡ index_of w (nearest mask h w (i / w) (i % w))
  unfolding indices_plane
  indices-at i l = plane-index h w (λ (y x : ℕ). index_of w (nearest mask h w y x)) i 0 wide l

  pub indices-inside : (i : ℕ) → i < h * w → get_or (indices_plane mask h w) i 0 < h * w
  indices-inside i l = rw (indices-at i l) (index-inside mask h w (i / w) (i % w) (nearest mask h w (i / w) (i % w)) (omega arith) refl)
