-- The border's values of one channel: there is room for them, they are in range, and one after the other is stored.
-- Assumes nothing.
use mathlib.Core.Path.{◌≡◌, refl}
use mathlib.Core.List.{List, [], ◌∷◌, map, map-append}
use Prim.Native.Nat.{ℕ, zero, suc, ◌+◌, ◌*◌, ◌≤◌, ◌<◌}
use native.Mathlib.Nat.{not-suc-le-zero, suc-mul, mul-one, mul-le-mul_left}
use native.Mathlib.Omega.{arith}
use native.Mathlib.Numerals.{add-one}
use lib.ListN.{length, get_or, take, set, length-map}
use lib.Seq.{take-suc, take-suc-set}
use lib.Ieee.{Float, nan}
use Rattle.plane.specs.Refusal.{room_for}
use Rattle.plane.specs.declared.size.Size.{Size}
use Rattle.colour.specs.declared.picture.Picture.{Picture}
use Rattle.colour.proofs.Range.{colours-at, colours-all}
use Rattle.median.specs.steps.Values.{floats_of}
use Rattle.median.specs.steps.Select.{Channel}
use Rattle.median.proofs.Values.{floats-length}
use Rattle.outline.specs.Border.{border_list, channel_at}
use Rattle.outline.proofs.Borders.{mapped_at}
use Rattle.flood.proofs.Border.{border-length, border-in}

-- ---- a value more is stored
pub one_more : (g : ℕ → Float) (l : List ℕ) (v : List Float) (k : ℕ) → k < length l → k < length v
    → take k v ≡ map g (take k l) → take (k + 1) (set v k (g (get_or l k 0))) ≡ map g (take (k + 1) l)
one_more g l v k a b e =
    rw (add-one k, take-suc-set v k (g (get_or l k 0)) b, take-suc l k 0 a, map-append g (take k l) (get_or l k 0 ∷ []), e)

-- ---- there is room for them
sides-sum : (h w : ℕ) → 1 ≤ h → 1 ≤ w → h + w ≤ h * w + 1
sides-sum zero w a b = absurd (not-suc-le-zero a)
sides-sum (suc n) w a b = let z : n * 1 ≤ n * w = mul-le-mul_left n b in omega (arith, suc-mul n w, mul-one n)

pub values-room : (size : Size) (v : List ℕ) → room_for size.h size.w ≤ length v → length (border_list size.h size.w) ≤ length (floats_of v)
values-room size v room =
    let s = size.sides in
    omega (arith, floats-length v, room, border-length size.h size.w, sides-sum size.h size.w s.some_rows s.some_columns)

module _ (p : Picture) {c : ℕ} (channel : c < 3) where
  -- a channel of a pixel of the border is there
  pub read-in : {k i : ℕ} → k < length (border_list p.size.h p.size.w) → i ≡ get_or (border_list p.size.h p.size.w) k 0
      → 3 * i + c < length p.colours.now
  read-in {k} l e = omega (arith, e, border-in k p.size.sides l, p.whole)

  -- ---- the border's values are in range
  abbrev values : List Float
  values = map (channel_at p.colours.now c) (border_list p.size.h p.size.w)

  entry : (k : ℕ) → k < length values
      → (i : ℕ) × (3 * i + c < length p.colours.now) × (get_or values k nan ≡ get_or p.colours.now (3 * i + c) nan)
  unfolding channel_at
  entry k l =
      let border = border_list p.size.h p.size.w in
      let m : k < length border = omega (arith, length-map border (channel_at p.colours.now c)) in
      (get_or border k 0, read-in m refl, mapped_at (channel_at p.colours.now c) border k m)

  -- so the median of them is asked rightly
  pub border-channel : Channel values
  border-channel =
      let border = border_list p.size.h p.size.w in
      record {
        some = omega (arith, length-map border (channel_at p.colours.now c), border-length p.size.h p.size.w, p.size.sides.some_columns);
        ok = colours-all values (λ k l. (let z = entry k l in rw z.2 (colours-at p.colours.now p.in_range (3 * z.0 + c) z.1)));
      }
