-- Laws of a look at the coming pass, over the definitions alone.
-- Assumes nothing.
use mathlib.Core.Path.{◌≡◌, refl, sym, ap, ◌∙◌}
use mathlib.Core.Bool.{Bool, true, false, not, ◌&&◌, ◌||◌}
use mathlib.Core.List.{List}
use mathlib.Core.Logic.{⊎_elim}
use Prim.Native.Nat.{ℕ, ◌+◌, ◌*◌, ◌<◌}
use lib.Dec.{eqb}
use lib.ListN.{length}
use lib.Ieee.{Float}
use borrow.Author.Tests.{not-true, eq-eqb}
use Rattle.plane.specs.Search.{some_below, count_below}
use Rattle.plane.proofs.Search.{count_same, none_found, or_no}
use Rattle.std.proofs.lemmas.Bool.{and_parts, cases_Bool}
use Rattle.plane.specs.Mask.{is_on, mask_of}
use Rattle.plane.proofs.Mask.{mask-on, mask-same, mask-again}
use Rattle.colour.specs.declared.Rgb.{Rgb}
use Rattle.colour.specs.declared.Settings.{Settings}
use Rattle.colour.specs.Settings.{passes_of}
use Rattle.outline.specs.Growth.{near_ground, is_edge, is_joining, pass_of, growth_of}
use Rattle.outline.specs.Cut.{alpha_mask, is_sought, is_keyed, grown_ground, cut_mask}
use Rattle.outline.proofs.GrowthLaws.{joins-edge, pass_on, growth-none, growth-more, growth-ended, growth-bits, growth-length, growth-same, growth-sum}
use Rattle.next_pass.specs.NextPass.{next_background, newly_on, joins_in}
use Rattle.next_pass.specs.Cut.{OnePassMore, off_of}
use Rattle.next_pass.proofs.Counts.{new, count-zero}

module _ (colours : List Float) (reference : Rgb) (h w : ℕ) (back : List ℕ) where
  abbrev joining : ℕ → Bool
  joining = is_joining colours reference back h w

  abbrev some-joins : Bool
  some-joins = some_below (h * w) joining

  abbrev next : List ℕ
  next = next_background colours reference h w back

  abbrev joins : ℕ
  joins = joins_in colours reference h w back

  -- the would-be background holds 0 and 1 only
  pub next-bits : next ≡ mask_of (h * w) (is_on next)
  unfolding next_background
  next-bits = growth-bits colours reference h w _ back

  -- the would-be background is the background after one pass, also where that pass ends growth
  pub next-pass : next ≡ pass_of colours reference back h w
  unfolding next_background pass_of
  next-pass =
      ⊎_elim {C = next ≡ pass_of colours reference back h w}
      (λ (e : some-joins ≡ true).
      growth-more colours reference h w 0 back e
      ∙ growth-none colours reference h w (pass_of colours reference back h w)
      ∙ mask-again (h * w) (λ (i : ℕ). is_on back i || joining i))
      (λ (e : some-joins ≡ false).
      growth-ended colours reference h w 1 back e
      ∙ mask-same (h * w) (is_on back) (λ (i : ℕ). is_on back i || joining i)
      (λ i l. rw (none_found joining (h * w) e i l, or_no)))
      (cases_Bool some-joins)

  pub next-length : length next ≡ h * w
  unfolding next_background
  next-length = growth-length colours reference h w 1 back

  -- a pixel is newly on exactly where it joins
  newly : (i : ℕ) → i < h * w → new back next i ≡ joining i
  newly i l = rw (next-pass, pass_on colours reference h w back i l) (at (is_on back i) (joining i) off)
    where
      off : joining i ≡ true → not (is_on back i) ≡ true
      off e = unfold is_edge in (and_parts (not (is_on back i)) (near_ground back h w 1 i) (joins-edge colours reference h w back i e)).0

      at : (b j : Bool) → (j ≡ true → not b ≡ true) → (b || j) && not b ≡ j
      at true true k = k refl
      at true false k = refl
      at false true k = refl
      at false false k = refl

  -- the number is that of the pixels that join
  pub joins-joining : joins ≡ count_below (h * w) joining
  unfolding joins_in newly_on
  joins-joining = count_same (new back next) joining (h * w) newly

  -- it is 0 exactly where growth would end
  pub joins-zero : eqb joins 0 ≡ not some-joins
  joins-zero = ap (λ (n : ℕ). eqb n 0) joins-joining ∙ count-zero joining (h * w)

  no_join : joins ≡ 0 → some-joins ≡ false
  no_join z = not-true some-joins (sym joins-zero ∙ eq-eqb joins 0 z)

  -- with no join growth has ended, however many passes are left,
  pub no-join-ended : joins ≡ 0 → (p : ℕ) → growth_of colours reference h w p back ≡ mask_of (h * w) (is_on back)
  no-join-ended z p = growth-ended colours reference h w p back (no_join z)

  -- and the would-be background has the background's pixels, written as 0 and 1
  pub no-join-same : joins ≡ 0 → next ≡ mask_of (h * w) (is_on back)
  unfolding next_background
  no-join-same z = no-join-ended z 1

-- after n passes the look shows the pass that comes after them: the (n + 1)th
pub next-after : (colours : List Float) (reference : Rgb) (h w : ℕ) → 0 < w → (n : ℕ) (back : List ℕ)
    → next_background colours reference h w (growth_of colours reference h w n back) ≡ growth_of colours reference h w (n + 1) back
unfolding next_background
next-after colours reference h w wide n back = growth-sum colours reference h w wide n 1 back

-- ---- a look at a filed cut

module _ (colours : List Float) (alpha : List ℕ) (h w : ℕ) (reference : Rgb) (s t : Settings) (wide : 0 < w) (more : OnePassMore s t) where
  abbrev grown : List ℕ
  grown = grown_ground colours h w reference s

  grown-more : next_background colours reference h w grown ≡ grown_ground colours h w reference t
  unfolding grown_ground
  grown-more =
      next-after colours reference h w wide (passes_of s) _
      ∙ rw (more.passes, more.tolerance)

  keyed-same : is_keyed colours alpha h w reference s ≡ is_keyed colours alpha h w reference t
  unfolding is_keyed is_sought alpha_mask
  keyed-same = rw (more.keying, more.threshold, more.tolerance)

  -- what is on in a mask, exchanged twice, is what was on
  twice : (mask : List ℕ) (i : ℕ) → i < h * w → is_on (off_of (h * w) (off_of (h * w) mask)) i ≡ is_on mask i
  unfolding off_of
  twice mask i l = rw (mask-on (h * w) _ i l, mask-on (h * w) (λ (k : ℕ). not (is_on mask k)) i l) (back-again (is_on mask i))
    where
      back-again : (b : Bool) → not (not b) ≡ b
      back-again true = refl
      back-again false = refl

  mask-keyed : (u : Settings) → is_keyed colours alpha h w reference u ≡ true
      → cut_mask colours alpha h w reference u ≡ off_of (h * w) (grown_ground colours h w reference u)
  unfolding cut_mask off_of
  mask-keyed u k = rw k

  -- the mask of the cut with one pass more is what the look at this cut leaves
  pub next-cut : is_keyed colours alpha h w reference s ≡ true
      → cut_mask colours alpha h w reference t
      ≡ off_of (h * w) (next_background colours reference h w (off_of (h * w) (cut_mask colours alpha h w reference s)))
  next-cut k =
      mask-keyed t (sym keyed-same ∙ k)
      ∙ ap (off_of (h * w))
      (sym grown-more ∙ sym (next-same (off_of (h * w) (off_of (h * w) grown)) grown (twice grown)))
      ∙ ap (λ (m : List ℕ). off_of (h * w) (next_background colours reference h w (off_of (h * w) m))) (sym (mask-keyed s k))
    where
      next-same : (a b : List ℕ) → ((i : ℕ) → i < h * w → is_on a i ≡ is_on b i)
          → next_background colours reference h w a ≡ next_background colours reference h w b
      next-same a b e = unfold next_background in growth-same colours reference h w wide 1 a b e
