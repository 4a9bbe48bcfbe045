-- Laws of the plane of indices, in a buffer that begins with it.
-- Assumes nothing.
use mathlib.Core.Path.{◌≡◌, refl, sym, ap, ◌∙◌}
use mathlib.Core.List.{List}
use mathlib.Core.Option.{Option, none, some}
use Prim.Native.Nat.{ℕ, ◌*◌, ◌<◌, ◌/◌, ◌%◌}
use native.Mathlib.Omega.{arith}
use lib.ListN.{get_or, take}
use lib.Seq.{get_or-take}
use Rattle.plane.specs.Plane.{index_of}
use Rattle.plane.proofs.Plane.{pixel-in, plane-index}
use Rattle.nearest.specs.Nearest.{nearest}
use Rattle.nearest.specs.steps.Indices.{indices_plane}
use Rattle.nearest.proofs.Laws.{nearest-some}

-- the index of an answer lies in the plane
pub index-inside : (mask : List ℕ) (h w y x : ℕ) (r : Option (ℕ × ℕ)) → 0 < h * w → nearest mask h w y x ≡ r → index_of w r < h * w
unfolding index_of
index-inside mask h w y x none p e = p
index-inside mask h w y x (some q) p e =
    let n = nearest-some mask h w y x q.0 q.1 e in
    pixel-in q.1 q.0 h w n.row_inside n.column_inside

module _ (mask : List ℕ) (h w : ℕ) (wide : 0 < w) (work : List ℕ) (e : take (h * w) work ≡ indices_plane mask h w) where
  pub front-index : (i : ℕ) → i < h * w → get_or work i 0 ≡ index_of w (nearest mask h w (i / w) (i % w))
  unfolding indices_plane
  front-index i l =
      sym (get_or-take (h * w) work i 0 l)
      ∙ ap (λ (p : List ℕ). get_or p i 0) e
      ∙ plane-index h w (λ (y x : ℕ). index_of w (nearest mask h w y x)) i 0 wide l

  pub front-inside : (i : ℕ) → i < h * w → get_or work i 0 < h * w
  front-inside i l = rw (front-index i l) (index-inside mask h w (i / w) (i % w) (nearest mask h w (i / w) (i % w)) (omega arith) refl)
