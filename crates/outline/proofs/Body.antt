-- Where the body colour of an edge pixel comes from: a pixel within 5 of the background. The nearest deep pixel, moved one row and one
-- column towards the edge pixel where they differ, is nearer to it, so it is not deep: it is within 4 of the background.
-- Assumes nothing.
use mathlib.Core.Path.{◌≡◌, refl, sym, ap, ◌∙◌}
use mathlib.Core.Bool.{Bool, true, false, cond, not}
use mathlib.Core.List.{List}
use mathlib.Core.Option.{Option, none, some}
use mathlib.Core.Logic.{⊎_elim}
use Prim.Native.Nat.{ℕ, ◌+◌, ◌*◌, ◌/◌, ◌%◌, ◌<◌}
use native.Mathlib.Omega.{arith}
use borrow.Author.Tests.{not-false}
use Rattle.plane.specs.Plane.{on_at, index_of}
use Rattle.plane.specs.Search.{some_below}
use Rattle.plane.proofs.Plane.{pixel-in, row_of, column-of, index-of, apart-back}
use Rattle.plane.proofs.Search.{not-both, some-found, and_no}
use Rattle.std.proofs.lemmas.Bool.{and_parts, cases_Bool}
use Rattle.plane.specs.Mask.{is_on, mask_of}
use Rattle.labels.proofs.Steps.{row_is, column-is}
use Rattle.nearest.specs.Nearest.{nearest}
use Rattle.nearest.specs.steps.Towards.{towards}
use Rattle.nearest.proofs.Laws.{nearest-some, nearest-found, towards-inside, towards-near, step-off}
use Rattle.outline.specs.Growth.{near_ground, is_edge, is_shallow, is_deep, is_reach, body_from}
use Rattle.plane.proofs.Mask.{mask-on, mask-holds, index_on, row_on}
use Rattle.outline.proofs.Masks.{Within, Nigh, near-found, near-is, within-self, within_more, within-sum}

-- a pixel of the plane within k of the background
pub record PixelWithin (back : List ℕ) (h w k i : ℕ) : Type 0 where
  pub inside : i < h * w
  pub near : Within back h w k i

-- one step from (j, i) towards (y, x) is a pixel within 1 of it
step-nigh : (w j i y x : ℕ) → i < w → towards i x < w → Nigh w 1 (j * w + i) (towards j y * w + towards i x)
step-nigh w j i y x a b = record {
  rows = rw (row_is j i w a, row_is (towards j y) (towards i x) w b, apart-back j (towards j y)) (towards-near j y);
  columns = rw (column-is j i w a, column-is (towards j y) (towards i x) w b, apart-back i (towards i x)) (towards-near i x);
}

module _ (back : List ℕ) (h w : ℕ) (wide : 0 < w) (p : ℕ → Bool) (m : ℕ)
    (off : (i : ℕ) → i < h * w → p i ≡ false → Within back h w m i) where
  abbrev mask : List ℕ
  mask = mask_of (h * w) p

  -- where what is off a mask is within m of the background, the nearest pixel of the mask to one that is off it is within 1 + m of the
  -- background
  step-near : (i x y : ℕ) → i < h * w → p i ≡ false → nearest mask h w (i / w) (i % w) ≡ some (x, y)
      → PixelWithin back h w (1 + m) (y * w + x)
  step-near i x y l e q =
      let r = row_of i h w wide l in
      let c = column-of i w wide in
      let s = nearest-some mask h w (i / w) (i % w) x y q in
      let ty = towards y (i / w) in
      let tx = towards x (i % w) in
      let tx-in : tx < w = towards-inside w x (i % w) s.column_inside c in
      let u : ty * w + tx < h * w = pixel-in ty tx h w (towards-inside h y (i / w) s.row_inside r) tx-in in
      let other : (y ≡ i / w) × (x ≡ i % w) → ⊥ = λ z. (
      let k : y * w + x ≡ i = rw (z.0, z.1) (index-of i w) in
      let lit : is_on mask (y * w + x) ≡ true = sym (row_on mask w y x) ∙ s.pixel_on in
      let here : p i ≡ true = ap p (sym k) ∙ mask-holds (h * w) p (y * w + x) lit in
      not-both (p i) here e) in
      let dark = sym (mask-on (h * w) p (ty * w + tx) u) ∙ sym (row_on mask w ty tx) ∙ step-off mask h w (i / w) (i % w) r c x y q other in
      record {
        inside = pixel-in y x h w s.row_inside s.column_inside;
        near = within-sum (step-nigh w y x (i / w) (i % w) s.column_inside tx-in) (off (ty * w + tx) u dark);
      }

module _ (back : List ℕ) (h w : ℕ) (wide : 0 < w) where
  abbrev deep : List ℕ
  deep = mask_of (h * w) (is_deep back h w)

  abbrev shallow : List ℕ
  shallow = mask_of (h * w) (is_shallow back h w)

  not-deep : (i : ℕ) → i < h * w → is_deep back h w i ≡ false → Within back h w 4 i
  unfolding is_deep
  not-deep i l e = near-found (not-false (near_ground back h w 4 i) e)

  not-shallow : (i : ℕ) → i < h * w → is_shallow back h w i ≡ false → Within back h w 1 i
  unfolding is_shallow
  not-shallow i l e =
      ⊎_elim {C = Within back h w 1 i}
      (λ (a : is_on back i ≡ true). within-self l a)
      (λ (a : is_on back i ≡ false). near-found (not-false (near_ground back h w 1 i) (rw a at e)))
      (cases_Bool (is_on back i))

  module _ (i : ℕ) (l : i < h * w) (edge : is_edge back h w i ≡ true) where
    edge-near : near_ground back h w 1 i ≡ true
    unfolding is_edge
    edge-near = (and_parts (not (is_on back i)) (near_ground back h w 1 i) edge).1

    -- an edge pixel is within 1 of the background,
    pub edge-within : Within back h w 1 i
    edge-within = near-found edge-near

    -- so it is not shallow, and not deep
    edge-shallow : is_shallow back h w i ≡ false
    unfolding is_shallow
    edge-shallow = rw edge-near (and_no (not (is_on back i)))

    edge-deep : is_deep back h w i ≡ false
    unfolding is_deep
    edge-deep = rw (near-is {mask = back} {h = h} {w = w} {k = 4} {i = i} wide (within_more (omega arith) edge-within))

    abbrev found : List ℕ → Option (ℕ × ℕ)
    found mask = nearest mask h w (i / w) (i % w)

    -- its nearest deep pixel is within 5 of the background,
    pub deep-near : (x y : ℕ) → found deep ≡ some (x, y) → PixelWithin back h w 5 (y * w + x)
    deep-near x y q = step-near back h w wide (is_deep back h w) 4 not-deep i x y l edge-deep q

    -- and its nearest shallow pixel within 2
    shallow-within : (x y : ℕ) → found shallow ≡ some (x, y) → PixelWithin back h w 5 (index_of w (found shallow))
    unfolding index_of
    shallow-within x y q =
        let c = step-near back h w wide (is_shallow back h w) 1 not-shallow i x y l edge-shallow q in
        rw q (record { inside = c.inside; near = within_more (omega arith) c.near })

    -- where there is a shallow pixel, the pixel of its body colour is within 5
    pub body_near : some_below (h * w) (is_shallow back h w) ≡ true → PixelWithin back h w 5 (body_from deep shallow h w i)
    unfolding body_from index_of is_reach
    body_near some-shallow = from (found deep) refl
      where
        else-shallow : PixelWithin back h w 5 (index_of w (found shallow))
        else-shallow =
            let s = some-found (is_shallow back h w) (h * w) some-shallow in
            let k = s.0 in
            let lit : on_at shallow w (k / w) (k % w) ≡ true = index_on shallow w k ∙ mask-on (h * w) (is_shallow back h w) k s.1 ∙ s.2 in
            let f = nearest-found shallow h w (i / w) (i % w) (k / w) (k % w) (row_of k h w wide s.1) (column-of k w wide) lit in
            shallow-within f.0 f.1 f.2

        either-one : (t : Bool) (q : ℕ × ℕ) → found deep ≡ some q
            → PixelWithin back h w 5 (cond t (index_of w (some q)) (index_of w (found shallow)))
        either-one true q e = deep-near q.0 q.1 e
        either-one false q e = else-shallow

        from : (r : Option (ℕ × ℕ)) → found deep ≡ r
            → PixelWithin back h w 5 (cond (is_reach (i / w) (i % w) r) (index_of w r) (index_of w (found shallow)))
        from none e = else-shallow
        from (some q) e = either-one (is_reach (i / w) (i % w) (some q)) q e
