-- A picture of bytes is accepted by the cut or declined for its alpha alone; and its text, from the answer of the cut.
-- Assumes nothing.
use mathlib.Core.Path.{◌≡◌, refl, sym, ap, ◌∙◌}
use mathlib.Core.Bool.{Bool, true, false, cond, ◌&&◌}
use mathlib.Core.List.{List}
use mathlib.Core.Logic.{⊎_elim}
use Prim.Native.Nat.{ℕ, zero, suc, ◌+◌, ◌*◌, ◌≤◌}
use native.Mathlib.Nat.{suc-mul, mul-suc}
use native.Mathlib.Omega.{arith}
use lib.Dec.{eqb, leb}
use lib.ListN.{length, get_or, take}
use lib.Seq.{length-take-le}
use lib.Ieee.{Float}
use borrow.Author.Tests.{eq-eqb, le-leb}
use Rattle.std.specs.Prelude.{Result, Ok, Err, Some}
use Rattle.plane.specs.declared.answer.Refusal.{Refusal}
use Rattle.plane.specs.Search.{some_below, last_below}
use Rattle.plane.specs.Refusal.{refusal_of, room_for, number_of, refusal_by, answer_for}
use Rattle.plane.specs.Mask.{is_on, some_off}
use Rattle.plane.specs.Box.{row_has, column_has, box_of, whole_of}
use Rattle.plane.proofs.Search.{some_same}
use Rattle.std.proofs.lemmas.Bool.{cases_Bool}
use Rattle.plane.proofs.Plane.{table-length}
use Rattle.plane.proofs.Mask.{mask-on}
use Rattle.plane.proofs.Bounds.{first-most, lesser-min}
use Rattle.plane.proofs.Refusal.{sides-accepted, written}
use Rattle.colour.specs.declared.Settings.{Settings}
use Rattle.colour.specs.Colour.{colours_ok}
use Rattle.colour.specs.Settings.{on_of}
use Rattle.card.specs.Card.{Border}
use Rattle.outline.specs.Cut.{alpha_mask, cut_of, crop_of, margin}
use Rattle.outline.specs.Refusal.{work_tests, cut_lengths, picture_tests, cut_contents, cut_refusal}
use Rattle.outline.specs.declared.Outcome.{Outcome}
use Rattle.outline.specs.Answer.{outcome_for}
use Rattle.outline.specs.Calls.{Buffers, refusal_in}
use Rattle.keying.specs.Calls.{cut_buffers, Called}
use Rattle.pam_header.specs.declared.Header.{Header}
use Rattle.pam_header.specs.Header.{header_of}
use Rattle.pam_header.proofs.Sizes.{header-small}
use Rattle.pam.specs.Picture.{most_pixels, colours_from, alpha_from, colours_of, alpha_of}
use Rattle.pam.specs.Settings.{threshold, settings}
use Rattle.pam.specs.steps.File.{file_refusal}
use Rattle.pam.proofs.Files.{SidesOk, file-ok, sides-of}
use Rattle.pbm.specs.Text.{mask_text, crop_lines, size_line, refusal_text}
use Rattle.pbm.proofs.Lengths.{Small, crop-short, size-short, refusal-short}
use Rattle.cutfile.specs.Cutcard.{cut_with, cut_text, most_text}
use Rattle.cutfile.specs.steps.Text.{alpha_refusal, picture_text}

-- ---- the number

-- the sum of two sides is at most their product and 1
sum-least : (a b : ℕ) → suc a + suc b ≤ suc a * suc b + 1
sum-least a b = rw (suc-mul a (suc b), mul-suc a b) (omega arith)

-- a picture of at most 2304 pixels asks for work buffers of at most 9234 numbers
room_most : (h w : ℕ) → 1 ≤ h → 1 ≤ w → h * w ≤ most_pixels → room_for h w ≤ 9234
room_most zero w p q l = absurd (omega arith)
room_most (suc a) zero p q l = absurd (omega arith)
room_most (suc a) (suc b) p q l = omega (arith, sum-least a b)

-- the mask by alpha has an on-pixel where some alpha reaches the threshold
alpha-same : (alpha : List ℕ) (n : ℕ)
    → some_below n (is_on (alpha_mask alpha n settings)) ≡ some_below n (λ (i : ℕ). leb threshold (get_or alpha i 0))
unfolding alpha_mask on_of
alpha-same alpha n =
    some_same (is_on (alpha_mask alpha n settings)) (λ (i : ℕ). leb threshold (get_or alpha i 0)) n
    (λ i l. mask-on n (λ (k : ℕ). leb threshold (get_or alpha k 0)) i l)

-- the buffers of a picture of n pixels: the front of two that are as long as the largest picture, and four work buffers
abbrev buffers_of : ℕ → List ℕ → List Float → List ℕ → List ℕ → List ℕ → List ℕ → Buffers
buffers_of n mask weights nearest shallow deep marks = cut_buffers (take n mask) (take n weights) nearest shallow deep marks

-- how long these lists are
abbrev Long : List ℕ → List Float → List ℕ → List ℕ → List ℕ → List ℕ → Type 0
Long mask weights nearest shallow deep marks =
    (length mask ≡ most_pixels) × (length weights ≡ most_pixels) × (length nearest ≡ 9234) × (length shallow ≡ 9234)
    × (length deep ≡ 9234) × (length marks ≡ 9234)

-- the cut declines such a picture for its alpha alone
number_is : (colours : List Float) (alpha : List ℕ) (h w : ℕ) (mask : List ℕ) (weights : List Float) (nearest shallow deep marks : List ℕ)
    → SidesOk h w → h * w ≤ most_pixels → length colours ≡ 3 * (h * w) → length alpha ≡ h * w → colours_ok colours ≡ true
    → Long mask weights nearest shallow deep marks
    → refusal_in colours alpha h w Border settings (buffers_of (h * w) mask weights nearest shallow deep marks) ≡ alpha_refusal alpha
unfolding cut_refusal cut_lengths work_tests picture_tests cut_contents refusal_of alpha_refusal
number_is colours alpha h w mask weights nearest shallow deep marks s few c a ok long =
    let most = room_most h w s.some_rows s.some_columns few in
    rw (
      sides-accepted h w s.some_rows (omega (arith, s.tall)) s.some_columns (omega (arith, s.wide)),
      eq-eqb _ _ c,
      eq-eqb _ _ a,
      eq-eqb _ _ (length-take-le (h * w) mask (omega (arith, few, long.0))),
      eq-eqb _ _ (length-take-le (h * w) weights (omega (arith, few, long.1))),
      le-leb (room_for h w) (length nearest) (omega (arith, most, long.2)),
      le-leb (room_for h w) (length shallow) (omega (arith, most, long.3)),
      le-leb (room_for h w) (length deep) (omega (arith, most, long.4)),
      le-leb (room_for h w) (length marks) (omega (arith, most, long.5)),
      ok,
      alpha-same alpha (h * w),
      a,
    )

-- ---- the crop box is inside the picture

-- each number of the crop box is below 10000
crop-small : (mask : List ℕ) (h w added : ℕ) (cropping : Bool) → h ≤ most_pixels → w ≤ most_pixels → Small (crop_of mask h w added cropping)
unfolding crop_of box_of whole_of
crop-small mask h w added cropping tall wide =
    ⊎_elim {C = Small (crop_of mask h w added cropping)}
    (λ (e : cropping && some_off mask (h * w) ≡ true).
    rw e
    (record {
      y0_small = omega (arith, first-most (row_has mask w) h);
      y1_small = omega (arith, lesser-min h (last_below h (row_has mask w) + 1 + added));
      x0_small = omega (arith, first-most (column_has mask h w) w);
      x1_small = omega (arith, lesser-min w (last_below w (column_has mask h w) + 1 + added));
    }))
    (λ (e : cropping && some_off mask (h * w) ≡ false).
    rw e (record { y0_small = omega arith; y1_small = omega arith; x0_small = omega arith; x1_small = omega arith }))
    (cases_Bool (cropping && some_off mask (h * w)))

-- the lines before the pixels have at most 48 bytes
pub lines-short : (colours : List Float) (alpha : List ℕ) (h w : ℕ) (keyed : Bool) → h ≤ most_pixels → w ≤ most_pixels
    → length (crop_lines (cut_with colours alpha h w).box keyed) + length (size_line h w) ≤ 48
unfolding cut_of
lines-short colours alpha h w keyed tall wide =
    let b = (cut_with colours alpha h w).box in
    omega (arith, crop-short b keyed (crop-small _ h w margin true tall wide), size-short h w (omega arith) (omega arith))

-- ---- the text of an answer

-- what is written for an answer of the cut, which left this mask, is this text, and has room
abbrev pub Said : List ℕ → ℕ → ℕ → List ℕ → Result Outcome Refusal → Type 0
Said text h w mask (Ok cut) =
    (mask_text mask h w cut.crop cut.keyed ≡ text)
    × (length (crop_lines cut.crop cut.keyed) + length (size_line h w) + 2 * (h * w) ≤ most_text)
Said text h w mask (Err refusal) = (refusal_text (number_of refusal) ≡ text) × (length (refusal_text (number_of refusal)) ≤ most_text)

-- the answer of the cut of a picture: its text is that of the picture
module _ (colours : List Float) (alpha : List ℕ) (h w : ℕ) (s : SidesOk h w) (few : h * w ≤ most_pixels) where
  said-by : (mask : List ℕ) → (alpha_refusal alpha ≡ 0 → mask ≡ (cut_with colours alpha h w).mask)
      → Said (picture_text colours alpha h w) h w mask (outcome_for (alpha_refusal alpha) (cut_with colours alpha h w))
  unfolding picture_text cut_text answer_for alpha_refusal refusal_of
  said-by mask is = by (some_below (length alpha) (λ (i : ℕ). leb threshold (get_or alpha i 0))) is
    where
      by : (t : Bool) → (◌≡◌ {A = ℕ} (cond t 0 6) 0 → mask ≡ (cut_with colours alpha h w).mask)
          → (let c = cut_with colours alpha h w in
          Said (cond (eqb (cond t 0 6) 0) (mask_text c.mask h w c.box c.keyed) (refusal_text (cond t 0 6))) h w mask
          (cond (eqb (cond t 0 6) 0) (Ok (record { keyed = c.keyed; crop = c.box })) (Err (refusal_by (cond t 0 6)))))
      by true is =
          let c = cut_with colours alpha h w in (
            ap (λ (m : List ℕ). mask_text m h w c.box c.keyed) (is refl),
            omega (arith, lines-short colours alpha h w c.keyed s.tall s.wide, few),
          )
      by false is = (refl, omega (arith, refusal-short 6 (omega arith)))

-- the same of a file whose header and length are accepted, for an answer v that is known by its case
pub said : {header : Header} (input : List ℕ) {colours : List Float} {alpha : List ℕ} (mask : List ℕ) (weights : List Float)
    {nearest shallow deep marks : List ℕ} {s : Settings} {b' : Buffers} {r v : Result Outcome Refusal}
    → Some header ≡ header_of input → file_refusal (Some header) input ≡ 0
    → colours ≡ colours_of header input → alpha ≡ alpha_of header input → colours_ok colours ≡ true
    → Long mask weights nearest shallow deep marks → s ≡ settings
    → Called colours alpha header.height header.width Border s
    (buffers_of (header.height * header.width) mask weights nearest shallow deep marks) r b'
    → r ≡ v → Said (picture_text (colours_of header input) (alpha_of header input) header.height header.width) header.height header.width b'.mask v
unfolding colours_from alpha_from
said {header} input {colours} {alpha} mask weights {nearest} {shallow} {deep} {marks} {s} {b'} {r} {v} is passed c a ok long given call e =
    let h = header.height in
    let w = header.width in
    let few = (file-ok header input passed).few in
    let sides = sides-of header (header-small input header (sym is)) few in
    let cl : length colours ≡ 3 * (h * w) = ap length c ∙ table-length _ 0 (3 * (h * w)) in
    let al : length alpha ≡ h * w = ap length a ∙ table-length _ 0 (h * w) in
    let n = number_is colours alpha h w mask weights nearest shallow deep marks sides few cl al ok long in
    let answer : r ≡ outcome_for (alpha_refusal alpha) (cut_with colours alpha h w) = call.answer ∙ rw (given, n) in
    rw (← e, answer, ← c, ← a)
    (said-by colours alpha h w sides few b'.mask (λ z. call.mask_is ∙ rw given (written _ _ _ (n ∙ z))))
