-- The law of loops over the rows of a plane, each row computed by a function with its own contract; and what row y gives.
-- Assumes nothing.
use mathlib.Core.Path.{◌≡◌, ap, ◌∙◌, subst}
use mathlib.Core.List.{List, ◌++◌}
use mathlib.Core.Logic.{⊎_elim}
use Prim.Native.Nat.{ℕ, ◌+◌, ◌-◌, ◌*◌, ◌≤◌, ◌<◌}
use native.Mathlib.Omega.{arith}
use lib.ListN.{length, get_or, take, drop, length-take, get_or-append}
use lib.Seq.{get_or-take, take_at, drop_at}
use borrow.Rule.Slice.PartMut.{put_mid}
use Rattle.plane.specs.Plane.{plane_of}
use Rattle.plane.specs.steps.Sides.{Sides}
use Rattle.std.proofs.lemmas.Bool.{cases_lt}
use Rattle.plane.proofs.Plane.{row_in, pixel-in, plane-is, table-length}
use Rattle.line.specs.steps.Line.{best, place_of, line_of}
use Rattle.line.proofs.Part.{part, part_at, put_front, put_part, put_back}
use Rattle.nearest.specs.Nearest.{nearest, distance}
use Rattle.nearest.specs.steps.Stages.{no_row, nearer, Swept, square_cost, pixel_in, IsRow, distance_in, Passed}
use Rattle.nearest.proofs.Stages.{row_low, near_low, swept-next, pixel, chosen-row, chosen-distance}

-- the first y rows of w elements are f
abbrev pub Rows : {A : Type 0} → A → (ℕ → ℕ → A) → ℕ → List A → ℕ → Type 0
Rows d f w plane y = (j x : ℕ) → j < y → x < w → get_or plane (j * w + x) d ≡ f j x

module _ {A : Type 0} (d : A) (f : ℕ → ℕ → A) (w : ℕ) where
  -- the next row is written
  pub rows_next : (plane row : List A) (y : ℕ) → Rows d f w plane y → y * w + w ≤ length plane → length row ≡ w
      → ((x : ℕ) → x < w → get_or row x d ≡ f y x) → Rows d f w (put_mid (y * w) (y * w + w - y * w) plane row) (y + 1)
  rows_next plane row y p fits long e j x l g =
      ⊎_elim
      (λ (a : j < y). put_front d (y * w) (y * w + w) plane row fits (omega arith) (j * w + x) (pixel-in j x y w a g) ∙ p j x a g)
      (λ (a : y ≤ j).
      subst (λ (i : ℕ). get_or (put_mid (y * w) (y * w + w - y * w) plane row) (i * w + x) d ≡ f i x) (omega arith)
      (put_part d (y * w) (y * w + w) plane row fits (omega arith) x (omega arith) ∙ e x g))
      (cases_lt j y)

  -- what stands before row y is kept
  pub rows_kept : (old plane : List A) (y : ℕ) → ((i : ℕ) → i < y * w → get_or plane i d ≡ get_or old i d) → Rows d f w old y
      → Rows d f w plane y
  rows_kept old plane y same p j x l g = same (j * w + x) (pixel-in j x y w l g) ∙ p j x l g

  -- all rows are written
  pub rows_end : (h : ℕ) (plane : List A) (y : ℕ) → Rows d f w plane y → h ≤ y → length plane ≡ h * w → plane ≡ plane_of h w f
  rows_end h plane y p l long = plane-is h w f plane d long (λ j x a b. p j x (omega arith) b)

-- ---- row y

line_length : (costs : List ℕ) → length (line_of costs) ≡ length costs
unfolding line_of
line_length costs = table-length (λ (x : ℕ). place_of (best costs x)) 0 (length costs)

-- before row y
pub record BeforeRow (mask : List ℕ) (h w y at : ℕ) (plane lines : List ℕ) : Type 0 where
  pub sides : Sides h w
  pub inside : y < h
  pub fits : y * w + w ≤ h * w
  pub low : at ≤ y * w
  pub long : length plane ≡ h * w
  pub swept : Swept mask h w y plane lines

pub before_row : {mask : List ℕ} {h w y at : ℕ} {plane lines : List ℕ} → Sides h w → y < h → at ≤ y * w → length plane ≡ h * w
    → Swept mask h w y plane lines → BeforeRow mask h w y at plane lines
before_row {h = h} {w = w} {y = y} sides inside low long swept =
    record { sides = sides; inside = inside; fits = row_in y h w inside; low = low; long = long; swept = swept }

module _ {mask : List ℕ} {h w y at : ℕ} {plane lines : List ℕ} (r : BeforeRow mask h w y at plane lines) where
  abbrev row : List ℕ
  row = part plane (y * w) (y * w + w - y * w)

  row-at : (x : ℕ) → x < w → get_or row x 0 ≡ get_or plane (y * w + x) 0
  row-at x g = part_at plane (y * w) (y * w + w - y * w) x 0 (omega arith)

  pub row_no-higher : (x : ℕ) → x < length row → get_or row x 0 ≤ no_row
  row_no-higher x g =
      let l : x < w = omega (arith, length-take (y * w + w - y * w) (drop (y * w) plane)) in
      rw (row-at x l) (row_low mask h w r.inside r.sides.tall r.swept x l)

  -- the first line
  module _ {above : List ℕ} (front : above ≡ take w lines) where
    above-at : (x : ℕ) → x < w → get_or above x 0 ≡ get_or lines x 0
    above-at x g = ap (λ (l : List ℕ). get_or l x 0) front ∙ get_or-take w lines x 0 g

    pub near_no-higher : (x : ℕ) → x < w → get_or above x 0 ≤ no_row
    near_no-higher x g = rw (above-at x g) (near_low mask h w r.inside r.sides.tall r.swept x g)

    module _ (near costs stack places : List ℕ) (wide : length near ≡ w) (size : length costs ≡ w)
        (sweep : (x : ℕ) → x < length near → get_or near x 0 ≡ nearer y (get_or row x 0) (get_or above x 0))
        (priced : (x : ℕ) → x < length costs → get_or costs x 0 ≡ square_cost y (get_or near x 0)) (passed : places ≡ line_of costs) where
      swept' : (x : ℕ) → x < w → get_or near x 0 ≡ nearer y (get_or plane (y * w + x) 0) (get_or lines x 0)
      swept' x g =
          sweep x (omega arith)
          ∙ ap (λ (a : ℕ). nearer y a (get_or above x 0)) (row-at x g)
          ∙ ap (nearer y (get_or plane (y * w + x) 0)) (above-at x g)

      priced' : (x : ℕ) → x < w → get_or costs x 0 ≡ square_cost y (get_or near x 0)
      priced' x g = priced x (omega arith)

      abbrev after : List ℕ
      after = near ++ (costs ++ stack)

      abbrev now : List ℕ
      now = put_mid at (at + w - at) plane places

      long : length places ≡ w
      long = ap length passed ∙ line_length costs ∙ size

      near_is : take w after ≡ near
      near_is = take_at near (costs ++ stack) w wide

      costs_is : take w (drop w after) ≡ costs
      costs_is = ap (take w) (drop_at near (costs ++ stack) w wide) ∙ take_at costs stack w size

      within : at + w ≤ length plane
      within = let l = r.low in let f = r.fits in omega (arith, r.long)

      filled : at + length places ≡ at + w
      filled = omega (arith, long)

      behind : (i : ℕ) → y * w + w ≤ i → get_or now i 0 ≡ get_or plane i 0
      behind i g = let l = r.low in put_back 0 at (at + w) plane places within filled i (omega arith)

      place-at : (x : ℕ) → x < w → get_or now (at + x) 0 ≡ get_or places x 0
      place-at x g = put_part 0 at (at + w) plane places within filled x (omega (arith, long))

      next-near : Swept mask h w (y + 1) now near
      next-near = swept-next mask h w r.inside r.sides.tall r.swept near swept' now behind

      pub row_passed : Passed mask h w y at plane now after
      row_passed = record {
        next = record {
          above = λ x g. get_or-append near (costs ++ stack) 0 x (omega arith) ∙ next-near.above x g;
          below = next-near.below;
        };
        before = λ i g. put_front 0 at (at + w) plane places within filled i g;
        chosen = λ x g. rw (near_is, place-at x g)
            (chosen-row mask h w r.inside r.sides.tall r.swept near swept' costs r.sides.wide wide size priced' places passed x g);
        pixels = λ x g. rw (near_is, place-at x g)
            (pixel mask h w r.inside r.sides.tall r.swept near swept' costs r.sides.wide wide size priced' places passed x g);
        distances = λ x g. rw (costs_is, place-at x g)
            (chosen-distance mask h w r.inside r.sides.tall r.swept near swept' costs r.sides.wide wide size priced' places passed x g);
      }

-- row y is passed, and its chosen columns are read in `places`
module _ {mask : List ℕ} {h w y at : ℕ} {old plane lines : List ℕ} (p : Passed mask h w y at old plane lines) (places : List ℕ)
    (here : (x : ℕ) → x < w → get_or places x 0 ≡ get_or plane (at + x) 0) where
  pub chosen_in : (x : ℕ) → x < w → IsRow (take w lines) (get_or places x 0)
  chosen_in x g = rw (here x g) (p.chosen x g)

  pub pixel_is : (x : ℕ) → x < w → pixel_in (take w lines) (get_or places x 0) ≡ nearest mask h w y x
  pixel_is x g = rw (here x g) (p.pixels x g)

  pub distance_is : (n : ℕ) → n ≡ w → (x : ℕ) → x < w → distance_in (take n (drop w lines)) y x (get_or places x 0) ≡ distance mask h w y x
  distance_is n e x g = rw (here x g, e) (p.distances x g)

-- in the first row of the plane
pub at-front : (plane : List ℕ) (w x : ℕ) → x < w → get_or (take w plane) x 0 ≡ get_or plane (0 + x) 0
at-front plane w x g = get_or-take w plane x 0 g ∙ ap (λ (i : ℕ). get_or plane i 0) (omega arith)

-- at a row's own place
pub at-own : (plane : List ℕ) (at w x : ℕ) → x < w → get_or (part plane at (at + w - at)) x 0 ≡ get_or plane (at + x) 0
at-own plane at w x g = part_at plane at (at + w - at) x 0 (omega arith)

-- and what is then written to its own place changes nothing behind it
pub swept-kept : {mask : List ℕ} {h w : ℕ} (y : ℕ) {lines : List ℕ} (plane new : List ℕ) → Swept mask h w (y + 1) plane lines
    → y * w + w ≤ length plane → length new ≡ w → Swept mask h w (y + 1) (put_mid (y * w) (y * w + w - y * w) plane new) lines
swept-kept {w = w} y plane new s fits size = record {
  above = s.above;
  below = λ j x a b g.
      (let q = row_in y j w (omega arith) in
      put_back 0 (y * w) (y * w + w) plane new fits (omega arith) (j * w + x) (omega arith) ∙ s.below j x a b g);
}
