-- `ground::close_plane` meets its contract.
-- Assumes nothing.
use Rattle.std.proofs.Common.{◌≡◌, ℕ, ◌+◌, ◌*◌, ◌<◌, List, Float, true, ap, arith, ◌∙◌}
use Rattle.std.proofs.lemmas.Grind.{common_steps}
use Rattle.plane.specs.Plane.{bit}
use Rattle.plane.proofs.Plane.{table_is, from_bool-bit}
use Rattle.colour.specs.declared.Rgb.{Rgb}
use Rattle.colour.specs.declared.picture.Picture.{Picture}
use Rattle.colour.specs.Colour.{close_to, rgb_ok}
use Rattle.colour.specs.steps.Pixel.{pixel_of}
use Rattle.colour.proofs.Range.{colours-at, rgb-from}
use Rattle.outline.specs.Border.{channel_at, colour_at}
use Rattle.outline.specs.Ground.{is_close, close_plane}
use Rattle.ground.proofs.close_plane.Goals as goal

-- the colour of a pixel is in range
pixel-ok : (p : Picture) (i : ℕ) → i < p.size.h * p.size.w → rgb_ok (pixel_of p.colours.now i) ≡ true
pixel-ok p i l =
    rgb-from (pixel_of p.colours.now i)
    (colours-at p.colours.now p.in_range (3 * i) (omega (arith, p.whole)))
    (colours-at p.colours.now p.in_range (3 * i + 1) (omega (arith, p.whole)))
    (colours-at p.colours.now p.in_range (3 * i + 2) (omega (arith, p.whole)))

-- and the one that the definition reads
close-is : (colours : List Float) (reference : Rgb) (tolerance : Float) (i : ℕ)
    → close_to tolerance reference (pixel_of colours i) ≡ is_close colours reference tolerance i
unfolding is_close colour_at channel_at
close-is colours reference tolerance i =
    let e : 3 * i + 0 ≡ 3 * i = omega arith in
    rw e

pub close-requires : goal.close-requires
close-requires c =
    record { first = rw c.pixel-p.ensures (pixel-ok c.args.picture c.loop-i.i (omega arith)); second = c.args.reference.in_range }

pub loop-i-preserved : goal.loop-i-preserved
loop-i-preserved c =
    let l = c.loop-i in
    let a = c.args in
    let made : c.from.result ≡ bit (is_close a.picture.colours.now a.reference.colour a.tolerance l.i) =
    c.from.ensures ∙ from_bool-bit c.close.result ∙ ap bit (c.close.ensures ∙ rw c.pixel-p.ensures (close-is _ _ _ l.i)) in
    grind (arith, common_steps)

pub returns : goal.returns
unfolding close_plane
returns c =
    let p = c.args.picture in
    let l = c.loop-i in
    table_is (λ (i : ℕ). bit (is_close p.colours.now c.args.reference.colour c.args.tolerance i)) (p.size.h * p.size.w) l.out 0 (omega arith)
    (λ i h. l.invariant i (omega arith))
