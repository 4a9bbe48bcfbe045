-- Laws of the border list: it lies in the plane, and what is alike on it gives one reference and one count.
-- Assumes nothing.
use mathlib.Core.Path.{◌≡◌, refl, sym, ◌∙◌}
use mathlib.Core.Bool.{true, false}
use mathlib.Core.List.{List, [], ◌∷◌, ◌++◌, map}
use mathlib.Core.Logic.{⊎_elim}
use Prim.Native.Nat.{ℕ, zero, suc, ◌+◌, ◌*◌, ◌-◌, ◌≤◌, ◌<◌}
use native.Mathlib.Nat.{not-suc-le-zero, le_of_suc-le-suc}
use native.Mathlib.Omega.{arith}
use lib.Dec.{eqb}
use lib.ListN.{length, get_or, length-map}
use lib.Ieee.{Float, nan}
use borrow.Author.Tests.{eqb-true, eq-eqb}
use Rattle.plane.specs.Plane.{table}
use Rattle.plane.proofs.Plane.{pixel-in}
use Rattle.plane.proofs.Search.{not-both}
use Rattle.std.proofs.lemmas.Bool.{or_cases, or_left, or_right}
use Rattle.plane.specs.Mask.{is_on}
use Rattle.colour.proofs.Zero.{Alike}
use Rattle.colour.proofs.Same.{SameColour}
use Rattle.median.specs.Median.{median_of}
use Rattle.median.proofs.Laws.{median-alike}
use Rattle.card.specs.Card.{Card}
use Rattle.card.specs.Card.{Border, Given, Unreadable}
use Rattle.outline.specs.Border.{row_pixels, inner_column, border_list, listed, on_border}
use Rattle.outline.specs.Border.{channel_at, colour_at, reference_channel, reference_of, reference_on}
use Rattle.outline.specs.Ground.{count_on}

-- ---- lists of pixels

-- what follows for a number in each of two lists follows for one in both together
in_either : {R : Type 0} (i : ℕ) (l m : List ℕ) → (listed i l ≡ true → R) → (listed i m ≡ true → R) → listed i (l ++ m) ≡ true → R
unfolding listed
in_either i [] m f g e = g e
in_either {R} i (j ∷ l) m f g e =
    ⊎_elim {C = R}
    (λ (a : eqb i j ≡ true). f (or_left (eqb i j) (listed i l) a))
    (in_either i l m (λ b. f (or_right (eqb i j) (listed i l) b)) g)
    (or_cases (eqb i j) (listed i (l ++ m)) e)

-- every entry of a list is in it
pub listed_at : (l : List ℕ) (k : ℕ) → k < length l → listed (get_or l k 0) l ≡ true
unfolding listed
listed_at [] k h = absurd (not-suc-le-zero h)
listed_at (j ∷ l) zero h = or_left (eqb j j) (listed j l) (eq-eqb j j refl)
listed_at (j ∷ l) (suc k) h = or_right (eqb (get_or l k 0) j) (listed (get_or l k 0) l) (listed_at l k (le_of_suc-le-suc h))

-- what is in a table below n has a place there
listed-table : (f : ℕ → ℕ) (i k n : ℕ) → listed i (table f k n) ≡ true → (x : ℕ) × (k ≤ x) × (x < k + n) × (i ≡ f x)
unfolding listed table
listed-table f i k zero e = not-both false e refl
listed-table f i k (suc n) e =
    ⊎_elim {C = (x : ℕ) × (k ≤ x) × (x < k + suc n) × (i ≡ f x)}
    (λ (a : eqb i (f k) ≡ true). (k, omega arith, omega arith, eqb-true i (f k) a))
    (λ (a : listed i (table f (suc k) n) ≡ true).
    (let z = listed-table f i (suc k) n a in (z.0, omega (arith, z.1), omega (arith, z.2), z.3)))
    (or_cases (eqb i (f k)) (listed i (table f (suc k) n)) e)

-- ---- the border lies in the plane

module _ (h w : ℕ) (tall : 0 < h) (wide : 0 < w) where
  row_inside : (y i : ℕ) → y < h → listed i (row_pixels w y) ≡ true → i < h * w
  unfolding row_pixels
  row_inside y i a e =
      let z = listed-table (λ (x : ℕ). y * w + x) i 0 w e in
      rw z.3 (pixel-in y z.0 h w a (omega (arith, z.2)))

  column_inside : (k x i : ℕ) → k ≤ h → x < w → listed i (inner_column k w x) ≡ true → i < h * w
  unfolding inner_column
  column_inside k x i l a e =
      let z = listed-table (λ (y : ℕ). y * w + x) i 1 (k - 2) e in
      rw z.3 (pixel-in z.0 x h w (omega (arith, z.1, z.2)) a)

  pub border-inside : (i : ℕ) → on_border h w i ≡ true → i < h * w
  unfolding on_border border_list
  border-inside i =
      let rows = row_pixels w 0 ++ row_pixels w (h - 1) in
      in_either i (rows ++ inner_column h w 0) _
      (in_either i rows (inner_column h w 0)
      (in_either i (row_pixels w 0) (row_pixels w (h - 1)) (row_inside 0 i tall) (row_inside (h - 1) i (omega arith)))
      (column_inside _ 0 i (omega arith) wide))
      (column_inside _ (w - 1) i (omega arith) (omega arith))

-- ---- masks that are alike on a list have as many entries of it on

pub count-alike : (a b l : List ℕ) → ((i : ℕ) → listed i l ≡ true → is_on a i ≡ is_on b i) → count_on a l ≡ count_on b l
unfolding count_on listed
count-alike a b [] h = refl
count-alike a b (j ∷ l) h =
    rw (h j (or_left (eqb j j) (listed j l) (eq-eqb j j refl)), count-alike a b l (λ i e. h i (or_right (eqb i j) (listed i l) e)))

-- ---- the reference

pub mapped_at : (f : ℕ → Float) (l : List ℕ) (k : ℕ) → k < length l → get_or (map f l) k nan ≡ f (get_or l k 0)
mapped_at f [] k h = absurd (not-suc-le-zero h)
mapped_at f (x ∷ l) zero h = refl
mapped_at f (x ∷ l) (suc k) h = mapped_at f l k (le_of_suc-le-suc h)

-- values that are equal numbers on a list have one median over it
median-same : (f g : ℕ → Float) (l : List ℕ) → ((i : ℕ) → listed i l ≡ true → Alike (f i) (g i)) → median_of (map f l) ≡ median_of (map g l)
median-same f g l h =
    median-alike (map f l) (map g l) (length-map l f ∙ sym (length-map l g))
    (λ k a. (
    let b : k < length l = omega (arith, length-map l f) in
    rw (mapped_at f l k b, mapped_at g l k b) (h (get_or l k 0) (listed_at l k b))))

-- pictures with equal borders, as numbers, have one reference, bit for bit
pub reference-same : (one two : List Float) (h w : ℕ)
    → ((i : ℕ) → on_border h w i ≡ true → SameColour (colour_at one i) (colour_at two i)) → reference_of one h w ≡ reference_of two h w
unfolding reference_of reference_channel on_border colour_at
reference-same one two h w e =
    rw (
      median-same (channel_at one 0) (channel_at two 0) (border_list h w) (λ i l. (e i l).r),
      median-same (channel_at one 1) (channel_at two 1) (border_list h w) (λ i l. (e i l).g),
      median-same (channel_at one 2) (channel_at two 2) (border_list h w) (λ i l. (e i l).b),
    )

-- so they have one reference on any card: a colour that is given is the same for both
pub reference-on-same : (on : Card) (one two : List Float) (h w : ℕ)
    → ((i : ℕ) → on_border h w i ≡ true → SameColour (colour_at one i) (colour_at two i)) → reference_on on one h w ≡ reference_on on two h w
reference-on-same (Given colour) one two h w e = refl
reference-on-same Border one two h w e = reference-same one two h w e
reference-on-same Unreadable one two h w e = reference-same one two h w e
