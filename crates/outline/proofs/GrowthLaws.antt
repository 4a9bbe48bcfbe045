-- Laws of growth, over the definitions alone.
-- Assumes nothing.
use mathlib.Core.Path.{◌≡◌, refl, sym, ap, ◌∙◌}
use mathlib.Core.Bool.{Bool, true, false, not, ◌||◌}
use mathlib.Core.List.{List}
use mathlib.Core.Logic.{⊎_elim}
use Prim.Native.Nat.{ℕ, zero, suc, ◌+◌, ◌*◌, ◌<◌}
use native.Mathlib.Nat.{zero-add, suc-add}
use native.Mathlib.Omega.{arith}
use lib.ListN.{length}
use lib.Ieee.{Float}
use borrow.Author.Tests.{not-true}
use Rattle.plane.specs.Search.{some_below}
use Rattle.plane.proofs.Search.{some-found, some_is, some_same, and_no}
use Rattle.std.proofs.lemmas.Bool.{and_parts, cases_Bool, or_cases, or_left}
use Rattle.plane.specs.Mask.{is_on, mask_of, some_off}
use Rattle.colour.specs.declared.Rgb.{Rgb}
use Rattle.outline.specs.Growth.{near_ground, is_edge, is_shallow, is_deep, joins_from, is_joining, pass_of, growth_of}
use Rattle.plane.proofs.Mask.{mask-length, mask-on, mask-inside, mask-holds, mask-same, mask-again}
use Rattle.outline.proofs.Masks.{Within, near-found, near_same, within-self, within_more, within-within}

module _ (colours : List Float) (reference : Rgb) (h w : ℕ) where
  -- whether pixel i joins a background, and whether one does; a background after a pass, and after p of them
  abbrev joining : List ℕ → ℕ → Bool
  joining back = is_joining colours reference back h w

  abbrev some-joins : List ℕ → Bool
  some-joins back = some_below (h * w) (joining back)

  abbrev passed : List ℕ → List ℕ
  passed back = pass_of colours reference back h w

  abbrev grown : ℕ → List ℕ → List ℕ
  grown = growth_of colours reference h w

  -- which pixels are on a background after a pass
  abbrev after : List ℕ → ℕ → Bool
  after back i = is_on back i || joining back i

  -- ---- one pass

  -- what joins is edge, so it is off the background and within 1 of it
  pub joins-edge : (back : List ℕ) (i : ℕ) → joining back i ≡ true → is_edge back h w i ≡ true
  unfolding is_joining joins_from
  joins-edge back i e = (and_parts (is_edge back h w i) _ (and_parts (some_below (h * w) (is_shallow back h w)) _ e).1).0

  pub pass_on : (back : List ℕ) (i : ℕ) → i < h * w → is_on (passed back) i ≡ is_on back i || joining back i
  unfolding pass_of
  pass_on back i l = mask-on (h * w) (after back) i l

  -- a pass only adds,
  pub pass-adds : (back : List ℕ) (i : ℕ) → i < h * w → is_on back i ≡ true → is_on (passed back) i ≡ true
  pass-adds back i l e = pass_on back i l ∙ or_left (is_on back i) (joining back i) e

  -- and only pixels within 1 of the background
  pub pass-near : (back : List ℕ) (i : ℕ) → is_on (passed back) i ≡ true → Within back h w 1 i
  unfolding is_edge pass_of
  pass-near back i e =
      let l = mask-inside (h * w) (after back) i e in
      ⊎_elim {C = Within back h w 1 i}
      (λ (o : is_on back i ≡ true). within-self l o)
      (λ (j : joining back i ≡ true). near-found (and_parts (not (is_on back i)) (near_ground back h w 1 i) (joins-edge back i j)).1)
      (or_cases (is_on back i) (joining back i) (sym (pass_on back i l) ∙ e))

  -- ---- growth, unfolded

  pub growth-none : (back : List ℕ) → grown 0 back ≡ mask_of (h * w) (is_on back)
  unfolding growth_of
  growth-none back = refl

  pub growth-more : (p : ℕ) (back : List ℕ) → some-joins back ≡ true → grown (suc p) back ≡ grown p (passed back)
  unfolding growth_of
  growth-more p back e = rw e

  -- without a join growth has ended, however many passes are left
  pub growth-ended : (p : ℕ) (back : List ℕ) → some-joins back ≡ false → grown p back ≡ mask_of (h * w) (is_on back)
  unfolding growth_of
  growth-ended zero back e = refl
  growth-ended (suc p) back e = rw e

  -- what holds of every background without passes, of one where growth has ended, and before a pass if after it, holds of every growth
  pub growth-induction : (P : ℕ → List ℕ → Type 0) → ((back : List ℕ) → P zero back)
      → ((p : ℕ) (back : List ℕ) → some-joins back ≡ false → P (suc p) back)
      → ((p : ℕ) (back : List ℕ) → some-joins back ≡ true → P p (passed back) → P (suc p) back)
      → (p : ℕ) (back : List ℕ) → P p back
  growth-induction P a b c zero back = a back
  growth-induction P a b c (suc p) back =
      ⊎_elim {C = P (suc p) back}
      (λ (e : some-joins back ≡ true). c p back e (growth-induction P a b c p (passed back)))
      (b p back)
      (cases_Bool (some-joins back))

  -- ---- what growth writes

  -- growth writes 0 and 1: its result is the mask of its pixels
  pub growth-bits : (p : ℕ) (back : List ℕ) → grown p back ≡ mask_of (h * w) (is_on (grown p back))
  growth-bits =
      growth-induction (λ (p : ℕ) (back : List ℕ). grown p back ≡ mask_of (h * w) (is_on (grown p back)))
      (λ back. rw (growth-none back) (sym (mask-again (h * w) (is_on back))))
      (λ p back e. rw (growth-ended (suc p) back e) (sym (mask-again (h * w) (is_on back))))
      (λ p back e r. rw (growth-more p back e) r)

  pub growth-length : (p : ℕ) (back : List ℕ) → length (grown p back) ≡ h * w
  growth-length p back = rw (growth-bits p back) (mask-length (h * w) (is_on (grown p back)))

  -- after p passes the background lies within p of the first
  pub growth-near : (p : ℕ) (back : List ℕ) (i : ℕ) → is_on (grown p back) i ≡ true → Within back h w p i
  growth-near p back i =
      growth-induction (λ (n : ℕ) (b : List ℕ). is_on (grown n b) i ≡ true → Within b h w n i)
      (λ b e. kept b 0 (rw (growth-none b) at e))
      (λ n b t e. kept b (suc n) (rw (growth-ended (suc n) b t) at e))
      (λ n b t r e. within_more (omega arith) (within-within (pass-near b) (r (rw (growth-more n b t) at e))))
      p back
    where
      kept : (b : List ℕ) (n : ℕ) → is_on (mask_of (h * w) (is_on b)) i ≡ true → Within b h w n i
      kept b n e = within-self (mask-inside (h * w) (is_on b) i e) (mask-holds (h * w) (is_on b) i e)

  -- ---- something stays off

  -- a shallow pixel does not join, so a pass with a join leaves something off
  pub pass-leaves : (back : List ℕ) → some-joins back ≡ true → some_off (passed back) (h * w) ≡ true
  unfolding some_off is_shallow is_edge is_joining joins_from
  pass-leaves back e =
      let j = some-found (joining back) (h * w) e in
      let s = some-found (is_shallow back h w) (h * w) (and_parts (some_below (h * w) (is_shallow back h w)) _ j.2).0 in
      let i = s.0 in
      let z = and_parts (not (is_on back i)) (not (near_ground back h w 1 i)) s.2 in
      let off : is_on back i ≡ false = not-true (is_on back i) z.0 in
      let far : near_ground back h w 1 i ≡ false = not-true (near_ground back h w 1 i) z.1 in
      some_is (λ (k : ℕ). not (is_on (passed back) k)) (h * w) i s.1 (rw (pass_on back i s.1, off, far, and_no))

  mask-off : (back : List ℕ) → some_off back (h * w) ≡ true → some_off (mask_of (h * w) (is_on back)) (h * w) ≡ true
  unfolding some_off
  mask-off back e =
      let again = mask_of (h * w) (is_on back) in
      some_same (λ (i : ℕ). not (is_on again i)) (λ (i : ℕ). not (is_on back i)) (h * w) (λ i l. ap not (mask-on (h * w) (is_on back) i l)) ∙ e

  -- where something is off before growth, something is off after it
  pub growth-leaves : (p : ℕ) (back : List ℕ) → some_off back (h * w) ≡ true → some_off (grown p back) (h * w) ≡ true
  growth-leaves =
      growth-induction (λ (p : ℕ) (back : List ℕ). some_off back (h * w) ≡ true → some_off (grown p back) (h * w) ≡ true)
      (λ back o. rw (growth-none back) (mask-off back o))
      (λ p back e o. rw (growth-ended (suc p) back e) (mask-off back o))
      (λ p back e r o. rw (growth-more p back e) (r (pass-leaves back e)))

  -- ---- growth depends on which pixels are background, and on nothing else

  module _ (wide : 0 < w) where
    pub joining-same : (a b : List ℕ) → ((i : ℕ) → i < h * w → is_on a i ≡ is_on b i) → (i : ℕ) → i < h * w → joining a i ≡ joining b i
    unfolding is_joining joins_from is_edge
    joining-same a b e i l =
        let near = near_same a b h w wide e in
        let shallow : (k : ℕ) → k < h * w → is_shallow a h w k ≡ is_shallow b h w k = λ k m. unfold is_shallow in rw (e k m, near 1 k) in
        let deep : (k : ℕ) → k < h * w → is_deep a h w k ≡ is_deep b h w k = λ k m. unfold is_deep in rw (near 4 k) in
        rw (
          some_same (is_shallow a h w) (is_shallow b h w) (h * w) shallow,
          e i l,
          near 1 i,
          mask-same (h * w) (is_shallow a h w) (is_shallow b h w) shallow,
          mask-same (h * w) (is_deep a h w) (is_deep b h w) deep,
        )

    pub pass_same : (a b : List ℕ) → ((i : ℕ) → i < h * w → is_on a i ≡ is_on b i) → passed a ≡ passed b
    unfolding pass_of
    pass_same a b e =
        mask-same (h * w) (after a) (after b) (λ i l. rw (e i l, joining-same a b e i l))

    pub growth-same : (p : ℕ) (a b : List ℕ) → ((i : ℕ) → i < h * w → is_on a i ≡ is_on b i) → grown p a ≡ grown p b
    unfolding growth_of
    growth-same zero a b e = mask-same (h * w) (is_on a) (is_on b) e
    growth-same (suc p) a b e =
        rw (some_same (joining a) (joining b) (h * w) (joining-same a b e), pass_same a b e, mask-same (h * w) (is_on a) (is_on b) e)

    -- ---- passes one after the other

    -- p passes and then q passes are p + q passes
    pub growth-sum : (p q : ℕ) (back : List ℕ) → grown q (grown p back) ≡ grown (p + q) back
    growth-sum p q =
        growth-induction (λ (n : ℕ) (b : List ℕ). grown q (grown n b) ≡ grown (n + q) b)
        (λ b. rw (growth-none b, zero-add q) (again b))
        (λ n b e. rw (growth-ended (suc n) b e) (again b ∙ growth-ended q b e ∙ sym (growth-ended (suc n + q) b e)))
        (λ n b e r. rw (growth-more n b e, suc-add n q) (r ∙ sym (growth-more (n + q) b e)))
        p
      where
        again : (b : List ℕ) → grown q (mask_of (h * w) (is_on b)) ≡ grown q b
        again b = growth-same q (mask_of (h * w) (is_on b)) b (mask-on (h * w) (is_on b))
