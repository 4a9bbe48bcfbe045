-- Colours that are equal as numbers: whichever of them is used, closeness and the join test answer the same.
-- Assumes nothing.
use mathlib.Core.Path.{◌≡◌, refl, sym, ap, ◌∙◌}
use mathlib.Core.Bool.{Bool, true, false, ◌&&◌, cond}
use lib.Dec.{T}
use lib.Ieee.{Float, binary64, neg, lt, eq, fits}
use lib.Ieee.Fits.{and_l, and_r}
use lib.Ieee.Scale.{finite}
use Rattle.colour.specs.declared.Rgb.{Rgb}
use Rattle.colour.specs.Number.{zero64, two64, abs_of, larger, half_of}
use Rattle.colour.specs.Colour.{difference_of, close_to, same_colour}
use Rattle.colour.specs.Join.{millionth, joins_of}
use Rattle.colour.proofs.Range.{is}
use Rattle.colour.proofs.Zero.{plus0, plus0-cases, Alike, neg-of-alike, sub_alike, add-alike, mul-alike, div-alike, lt-alike}
use Rattle.colour.proofs.Zero.{le-alike, eq-alike}

pub abs-alike : (x y : Float) → Alike x y → Alike (abs_of x) (abs_of y)
unfolding abs_of
abs-alike x y p = rw (lt-alike x y zero64 zero64 p refl) (go (lt y zero64))
  where
    go : (b : Bool) → Alike (cond b (neg x) x) (cond b (neg y) y)
    go true = neg-of-alike x y p
    go false = p

pub larger-alike : (x x' y y' : Float) → Alike x x' → Alike y y' → Alike (larger x y) (larger x' y')
unfolding larger
larger-alike x x' y y' p q = rw (lt-alike x x' y y' p q) (go (lt x' y'))
  where
    go : (b : Bool) → Alike (cond b y x) (cond b y' x')
    go true = q
    go false = p

pub half-alike : (x x' y y' : Float) → Alike x x' → Alike y y' → Alike (half_of x y) (half_of x' y')
unfolding half_of
half-alike x x' y y' p q = div-alike binary64 _ _ false 0 _ (add-alike binary64 x x' y y' p q)

-- whether a tolerance is finite

pub plus0-finite : (x : Float) → finite x ≡ finite (plus0 x)
plus0-finite = plus0-cases (λ a b. finite a ≡ finite b) (λ a. refl) (λ s e. refl)

pub finite-alike : (x y : Float) → Alike x y → finite x ≡ finite y
finite-alike x y p = plus0-finite x ∙ ap finite p ∙ sym (plus0-finite y)

-- the three channels are equal numbers
pub record SameColour (p q : Rgb) : Type 0 where
  pub r : Alike p.r q.r
  pub g : Alike p.g q.g
  pub b : Alike p.b q.b

-- the channels of a colour are values of the format, as every f64 is
pub record Held (p : Rgb) : Type 0 where
  pub r : T (fits binary64 p.r)
  pub g : T (fits binary64 p.g)
  pub b : T (fits binary64 p.b)

-- colours that the test `==` on each channel calls equal are the same colour
pub same-colour : (p q : Rgb) → Held p → Held q → same_colour p q ≡ true → SameColour p q
unfolding same_colour
same-colour p q h k e =
    let t = is _ e in
    let rg = and_l (eq p.r q.r && eq p.g q.g) (eq p.b q.b) t in
    record {
      r = eq-alike binary64 p.r q.r h.r k.r (and_l (eq p.r q.r) (eq p.g q.g) rg);
      g = eq-alike binary64 p.g q.g h.g k.g (and_r (eq p.r q.r) (eq p.g q.g) rg);
      b = eq-alike binary64 p.b q.b h.b k.b (and_r (eq p.r q.r && eq p.g q.g) (eq p.b q.b) t);
    }

pub same_refl : (p : Rgb) → SameColour p p
same_refl p = record { r = refl; g = refl; b = refl }

module _ (p p' q q' : Rgb) (h : SameColour p p') (k : SameColour q q') where
  pub difference-alike : Alike (difference_of p q) (difference_of p' q')
  unfolding difference_of
  difference-alike =
      larger-alike _ _ _ _
      (larger-alike _ _ _ _
      (abs-alike _ _ (sub_alike binary64 p.r p'.r q.r q'.r h.r k.r))
      (abs-alike _ _ (sub_alike binary64 p.g p'.g q.g q'.g h.g k.g)))
      (abs-alike _ _ (sub_alike binary64 p.b p'.b q.b q'.b h.b k.b))

  -- closeness to the reference q
  pub close-same : (t t' : Float) → Alike t t' → close_to t q p ≡ close_to t' q' p'
  unfolding close_to
  close-same t t' z = le-alike (difference_of p q) (difference_of p' q') t t' difference-alike z

-- the join test of two pairs of differences that are equal as numbers
pub joins-alike : (full full' mixed mixed' : Float) → Alike full full' → Alike mixed mixed' → joins_of full mixed ≡ joins_of full' mixed'
unfolding joins_of
joins-alike full full' mixed mixed' p q =
    rw (lt-alike millionth millionth full full' refl p, lt-alike _ _ full full' (mul-alike binary64 two64 mixed mixed' q) p) refl

-- the join test of pixel p with body colour b and reference q
pub joins-same : (p p' q q' b b' : Rgb) → SameColour p p' → SameColour q q' → SameColour b b'
    → joins_of (difference_of b q) (difference_of p q) ≡ joins_of (difference_of b' q') (difference_of p' q')
joins-same p p' q q' b b' h k j = joins-alike _ _ _ _ (difference-alike b b' q q' j k) (difference-alike p p' q q' h k)
