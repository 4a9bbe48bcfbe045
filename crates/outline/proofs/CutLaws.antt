-- Laws of the cut: what an accepted one knows, and that its mask is never empty.
-- Assumes nothing.
use mathlib.Core.Path.{◌≡◌, refl, ◌∙◌}
use mathlib.Core.Bool.{Bool, true, false, not}
use mathlib.Core.List.{List}
use mathlib.Core.Logic.{⊎_elim}
use Prim.Native.Nat.{ℕ, ◌*◌, ◌≤◌}
use lib.Dec.{leb}
use lib.ListN.{length}
use lib.Ieee.{Float}
use borrow.Author.Tests.{eqb-true, leb-true}
use Rattle.plane.specs.steps.Sides.{Sides}
use Rattle.plane.specs.Search.{some_below}
use Rattle.plane.proofs.Search.{some_same}
use Rattle.std.proofs.lemmas.Bool.{and_parts, cases_Bool}
use Rattle.plane.specs.Refusal.{room_for}
use Rattle.plane.proofs.Refusal.{passed, sides-are}
use Rattle.plane.specs.Mask.{is_on, mask_of, some_off}
use Rattle.colour.specs.declared.Rgb.{Rgb}
use Rattle.colour.specs.declared.Settings.{Settings}
use Rattle.colour.specs.Colour.{colours_ok}
use Rattle.colour.specs.Settings.{passes_of}
use Rattle.card.specs.Card.{Card}
use Rattle.outline.specs.Border.{border_list}
use Rattle.outline.specs.Ground.{close_plane, ground_of, count_on, found_from, is_found}
use Rattle.outline.specs.Cut.{alpha_mask, is_sought, is_keyed, grown_ground, cut_mask}
use Rattle.outline.specs.Refusal.{work_tests, cut_lengths, picture_tests, cut_contents, cut_refusal}
use Rattle.outline.specs.Calls.{Buffers, refusal_in}
use Rattle.plane.proofs.Mask.{mask-on}
use Rattle.outline.proofs.GrowthLaws.{growth-leaves}

-- ---- acceptance

-- what an accepted cut knows of the sides, the picture, the alpha and the buffers
pub record Taken (colours : List Float) (alpha : List ℕ) (h w : ℕ) (s : Settings) (b : Buffers) : Type 0 where
  pub sides : Sides h w
  pub colours_long : length colours ≡ 3 * (h * w)
  pub alpha_long : length alpha ≡ h * w
  pub mask_long : length b.mask ≡ h * w
  pub weights_long : length b.weights ≡ h * w
  pub nearest_long : room_for h w ≤ length b.nearest
  pub shallow_long : room_for h w ≤ length b.shallow
  pub deep_long : room_for h w ≤ length b.deep
  pub marks_long : room_for h w ≤ length b.marks
  pub range : colours_ok colours ≡ true
  pub some_alpha : some_below (h * w) (is_on (alpha_mask alpha (h * w) s)) ≡ true

pub taken : (colours : List Float) (alpha : List ℕ) (h w : ℕ) (card : Card) (s : Settings) (b : Buffers)
    → refusal_in colours alpha h w card s b ≡ 0 → Taken colours alpha h w s b
unfolding cut_refusal cut_lengths work_tests picture_tests cut_contents
taken colours alpha h w card s b e =
    let p = passed _ refl e in
    record {
      sides = sides-are h w p.0;
      colours_long = eqb-true _ _ p.1.0;
      alpha_long = eqb-true _ _ p.1.1.0;
      mask_long = eqb-true _ _ p.1.1.1.0;
      weights_long = eqb-true _ _ p.1.1.1.1.0;
      nearest_long = leb-true _ _ p.1.1.1.1.1.0;
      shallow_long = leb-true _ _ p.1.1.1.1.1.1.0;
      deep_long = leb-true _ _ p.1.1.1.1.1.1.1.0;
      marks_long = leb-true _ _ p.1.1.1.1.1.1.1.1.0;
      range = p.1.1.1.1.1.1.1.1.1.1.0;
      some_alpha = p.1.1.1.1.1.1.1.1.1.1.1.1.0;
    }

-- ---- the mask is never empty

module _ (colours : List Float) (alpha : List ℕ) (h w : ℕ) (reference : Rgb) (s : Settings) where
  abbrev keyed : Bool
  keyed = is_keyed colours alpha h w reference s

  -- the ground, the ground after growth, and what that leaves
  abbrev ground : List ℕ
  ground = ground_of colours h w reference s.key_bg_tolerance

  abbrev grown : List ℕ
  grown = grown_ground colours h w reference s

  abbrev left : ℕ → Bool
  left i = not (is_on grown i)

  -- whether the mask has a pixel on
  abbrev some-on : Bool
  some-on = some_below (h * w) (is_on (cut_mask colours alpha h w reference s))

  -- the ground after growth leaves something where it was found
  grown-off : keyed ≡ true → some_off grown (h * w) ≡ true
  unfolding is_keyed grown_ground is_found found_from ground_of
  grown-off e =
      let close = close_plane colours h w reference s.key_bg_tolerance in
      let found = (and_parts (is_sought alpha (h * w) s) _ e).1 in
      growth-leaves colours reference h w (passes_of s) ground
      (and_parts (leb (9 * length (border_list h w)) (10 * count_on close (border_list h w))) _ found).1

  -- so the mask of every accepted cut has a pixel on
  pub mask-not-empty : (card : Card) (b : Buffers) → refusal_in colours alpha h w card s b ≡ 0 → some-on ≡ true
  unfolding cut_mask some_off
  mask-not-empty card b e =
      ⊎_elim {C = some-on ≡ true}
      (λ (k : keyed ≡ true). rw k (some_same (is_on (mask_of (h * w) left)) left (h * w) (mask-on (h * w) left) ∙ grown-off k))
      (λ (k : keyed ≡ false). rw k (taken colours alpha h w card s b e).some_alpha)
      (cases_Bool keyed)
