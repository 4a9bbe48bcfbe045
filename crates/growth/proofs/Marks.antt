-- The marks of a pass: what the search of the window decides, what waits, and that the last marks are the pixels that join.
-- Assumes nothing.
use mathlib.Core.Path.{◌≡◌, refl, sym, ap, ◌∙◌}
use mathlib.Core.Bool.{Bool, true, false, cond, ◌&&◌, ◌||◌}
use mathlib.Core.List.{List}
use mathlib.Core.Logic.{◌⊎◌, inl, inr, ⊎_elim}
use Prim.Native.Nat.{ℕ, ◌+◌, ◌*◌, ◌<◌, ◌/◌, ◌%◌}
use native.Mathlib.Nat.{add-zero}
use lib.Dec.{eqb}
use lib.Ieee.{Float}
use lib.ListN.{length}
use Rattle.std.specs.Bool.{then_some}
use Rattle.std.specs.Prelude.{Option, None}
use Rattle.plane.proofs.Mask.{mask-same}
use Rattle.plane.specs.Plane.{bit, on_at, table, index_of}
use Rattle.plane.specs.Search.{some_below}
use Rattle.plane.proofs.Search.{none_found, some_same}
use Rattle.plane.proofs.Plane.{pixel-in, table-length, table_at, table_same, on_bit}
use Rattle.plane.specs.Mask.{is_on, mask_of}
use Rattle.nearest.specs.Nearest.{nearest}
use Rattle.nearest.proofs.Laws.{nothing-on}
use Rattle.colour.specs.declared.Rgb.{Rgb}
use Rattle.nearest.specs.steps.Indices.{indices_plane}
use Rattle.colour.specs.steps.Pixel.{pixel_of}
use Rattle.outline.specs.Border.{channel_at, colour_at}
use Rattle.outline.specs.Growth.{is_edge, is_shallow, is_reach, body_from, joins_from, is_joining, pass_of}
use Rattle.window.specs.steps.Window.{near_pixel}
use Rattle.growth.specs.declared.deep.Deep.{Deep}
use Rattle.growth.specs.steps.Marks.{joins_with, near_deep, waits, edge_mark, near_mark, search_mark, last_mark, decided_mark, Laid}
use Rattle.window.proofs.Searching.{near_none, near-some}
use Rattle.window.proofs.Indices.{indices-at}

-- the colour of a pixel, as its three channels stand
pub pixel-colour : (colours : List Float) (i : ℕ) → pixel_of colours i ≡ colour_at colours i
unfolding colour_at channel_at
pixel-colour colours i = simp add-zero

-- without a deep pixel none is near enough
pub near-empty : (deep : List ℕ) (h w y x : ℕ) → some_below (h * w) (is_on deep) ≡ false → near_pixel deep h w y x ≡ None
unfolding is_reach on_at is_on
near-empty deep h w y x e =
    let z = nothing-on deep h w y x (λ j i a b. none_found (is_on deep) (h * w) e (j * w + i) (pixel-in j i h w a b)) in
    near_none deep h w y x (rw z)

-- the deep plane is searched where it has a pixel, and then each pixel's nearest deep pixel is known
pub near-searched : (d : Deep) (some : Bool) {r : Option Deep} → r ≡ then_some some d
    → some ≡ some_below (d.mask.size.h * d.mask.size.w) (is_on d.mask.pixels.now) → (i : ℕ) → i < d.mask.size.h * d.mask.size.w
    → near_deep r i ≡ near_pixel d.mask.pixels.now d.mask.size.h d.mask.size.w (i / d.mask.size.w) (i % d.mask.size.w)
near-searched d true e known i l = rw e
near-searched d false e known i l =
    let w = d.mask.size.w in rw e (sym (near-empty d.mask.pixels.now d.mask.size.h w (i / w) (i % w) (sym known)))

-- a mark that is decided does not wait
bit-decided : (t : Bool) → eqb (bit t) waits ≡ false
unfolding bit
bit-decided true = refl
bit-decided false = refl

module _ (colours : List Float) (reference : Rgb) (near : ℕ → Option ℕ) (deep shallow : List ℕ) (h w : ℕ) (wide : 0 < w)
    (near-is : (i : ℕ) → i < h * w → near i ≡ near_pixel deep h w (i / w) (i % w)) where
  -- pixel i is decided by its body pixel; its nearest shallow pixel
  abbrev by_body : ℕ → ℕ
  by_body i = bit (joins_with colours reference (body_from deep shallow h w i) i)

  abbrev near_shallow : ℕ → ℕ
  near_shallow i = index_of w (nearest shallow h w (i / w) (i % w))

  abbrev Marked : ℕ → Type 0
  Marked i =
      (near_mark colours reference near i ≡ by_body i)
      ⊎ ((near_mark colours reference near i ≡ waits) × (body_from deep shallow h w i ≡ near_shallow i))

  -- a deep pixel is near enough and gives the body colour, or the pixel waits and the nearest shallow pixel does
  marked : (i : ℕ) → i < h * w → (t : Bool) → is_reach (i / w) (i % w) (nearest deep h w (i / w) (i % w)) ≡ t → Marked i
  unfolding body_from near_mark
  marked i l true e =
      inl (rw (near-is i l, near-some deep h w (i / w) (i % w) e, e))
  marked i l false e = inr (rw (near-is i l, near_none deep h w (i / w) (i % w) e), rw e)

  module _ (marks : List ℕ) where
    abbrev searched : ℕ → ℕ
    searched = search_mark colours reference near marks

    abbrev decided : ℕ → ℕ
    decided = decided_mark colours reference deep shallow h w marks

    -- the mark after the search, and then the last mark by the nearest shallow pixel
    abbrev Last : ℕ → Type 0
    Last i = cond (eqb (searched i) waits) (bit (joins_with colours reference (near_shallow i) i)) (searched i) ≡ decided i

    last-is : (i : ℕ) → i < h * w → (t : Bool) → is_on marks i ≡ t → Last i
    unfolding search_mark decided_mark
    last-is i l true t =
        ⊎_elim {C = Last i}
        (λ (d : near_mark colours reference near i ≡ by_body i). rw (t, d, bit-decided))
        (λ (d : (near_mark colours reference near i ≡ waits) × (body_from deep shallow h w i ≡ near_shallow i)). rw (t, d.0, d.1))
        (marked i l (is_reach (i / w) (i % w) (nearest deep h w (i / w) (i % w))) refl)
    last-is i l false t = rw t

    -- the waiting pixels are decided by the plane of indices
    pub decided-last : (plane now : List ℕ) → plane ≡ indices_plane shallow h w → now ≡ table searched 0 (h * w)
        → table (last_mark colours reference plane now) 0 (length now) ≡ table decided 0 (h * w)
    unfolding last_mark
    decided-last plane now e f =
        ap (table (last_mark colours reference plane now) 0) (ap length f ∙ table-length searched 0 (h * w))
        ∙ table_same (last_mark colours reference plane now) decided (h * w) 0
        (λ i l. rw (f, e, table_at searched (h * w) i 0 l, indices-at shallow h w wide i l) (last-is i l (is_on marks i) refl))

    -- where none waits all are decided
    pub decided-all : some_below (h * w) (λ (i : ℕ). eqb (searched i) waits) ≡ false → table searched 0 (h * w) ≡ table decided 0 (h * w)
    decided-all settled =
        table_same searched decided (h * w) 0
        (λ i l.
        let z : Last i = last-is i l (is_on marks i) refl in
        rw (none_found (λ (k : ℕ). eqb (searched k) waits) (h * w) settled i l) at z)

-- ---- the pixels that join

tests : (s e j : Bool) → cond (s && e) (bit j) 0 ≡ bit (s && (e && j))
unfolding bit
tests true true j = refl
tests true false j = refl
tests false e j = refl

module _ (colours : List Float) (reference : Rgb)
    (h w : ℕ) (back shallow deep edges : List ℕ) (laid : Laid back h w shallow deep edges) where
  abbrev joining : ℕ → Bool
  joining = is_joining colours reference back h w

  edge_on : (i : ℕ) → i < h * w → is_on edges i ≡ some_below (h * w) (is_shallow back h w) && is_edge back h w i
  unfolding is_on edge_mark
  edge_on i l = rw (laid.marks_are, table_at (edge_mark back h w) (h * w) i 0 l, on_bit)

  joining-is : (i : ℕ) → i < h * w → decided_mark colours reference deep shallow h w edges i ≡ bit (joining i)
  unfolding decided_mark is_joining joins_from joins_with
  joining-is i l = rw (edge_on i l, laid.shallow_is, laid.deep_is, tests)

  module _ (marks : List ℕ) (decided : marks ≡ table (decided_mark colours reference deep shallow h w edges) 0 (h * w)) where
    -- the marks after the decision are the pixels that join
    pub joins-on : (i : ℕ) → i < h * w → is_on marks i ≡ joining i
    unfolding is_on
    joins-on i l = rw (decided, table_at (decided_mark colours reference deep shallow h w edges) (h * w) i 0 l, joining-is i l, on_bit)

    pub joins-some : (n : ℕ) → n ≡ h * w → some_below n (is_on marks) ≡ some_below (h * w) joining
    joins-some n e = rw e (some_same (is_on marks) joining (h * w) joins-on)

    pub joins-pass : (n : ℕ) → n ≡ h * w → mask_of n (λ (i : ℕ). is_on back i || is_on marks i) ≡ pass_of colours reference back h w
    unfolding pass_of
    joins-pass n e =
        rw e
        (mask-same (h * w) (λ (i : ℕ). is_on back i || is_on marks i) (λ (i : ℕ). is_on back i || joining i)
        (λ i l. ap (λ (t : Bool). is_on back i || t) (joins-on i l)))
