-- `window::near_pixel` meets its contract.
-- Assumes nothing.
use Rattle.std.proofs.Common.{◌≡◌, ℕ, ◌/◌, ◌%◌, ◌*◌, ◌<◌, List, leb, length, get_or, ap, ◌∙◌, arith}
use Rattle.std.specs.Bool.{then_some}
use Rattle.plane.proofs.Plane.{row_of}
use Rattle.plane.specs.steps.Sides.{Sides}
use Rattle.nearest.specs.Nearest.{away}
use Rattle.outline.specs.Growth.{body_reach}
use Rattle.window.specs.steps.Window.{near_pixel, Made}
use Rattle.window.proofs.Searching.{near-index}
use Rattle.window.proofs.Indices.{indices-length, indices-at, indices-inside}
use Rattle.window.proofs.near_pixel.Goals as goal

module _ {deep nearest : List ℕ} {h w : ℕ} (made : Made deep nearest h w) (sides : Sides h w) (i : ℕ) (inside : i < h * w) where
  -- the nearest deep pixel of pixel i, by the plane
  abbrev b : ℕ
  b = get_or nearest i 0

  in_plane : i < length nearest
  in_plane = rw (made.indices, indices-length deep h w sides.some_columns) inside

  b-in : b < h * w
  b-in = rw made.indices (indices-inside deep h w sides.some_columns i inside)

  answer : then_some (leb (away (i / w) (i % w) (b / w) (b % w)) body_reach) b ≡ near_pixel deep h w (i / w) (i % w)
  answer =
      near-index deep h w (i / w) (i % w) sides.some_columns made.some_deep b
      (ap (λ (p : List ℕ). get_or p i 0) made.indices ∙ indices-at deep h w sides.some_columns i inside)

pub bounds-plane-i : goal.bounds-plane-i
bounds-plane-i c = in_plane (c.requires.made _ c.in-Some.is) c.args.deep.size.sides c.args.i c.requires.i_bound

pub is_near-requires-clause-j_bound : goal.is_near-requires-clause-j_bound
is_near-requires-clause-j_bound c =
    let a = c.args in
    let size = a.deep.size in
    let l = b-in (c.requires.made _ c.in-Some.is) size.sides a.i c.requires.i_bound in
    let r = row_of (get_or c.in-Some.plane.now a.i 0) size.h size.w size.sides.some_columns l in
    omega (arith, size.sides.tall)

pub returns-in-Some : goal.returns-in-Some
returns-in-Some c =
    c.then_some.ensures ∙ rw c.is_near.ensures (answer (c.requires.made _ c.in-Some.is) c.args.deep.size.sides c.args.i c.requires.i_bound)
