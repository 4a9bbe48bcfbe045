-- The search of the window finds the nearest deep pixel where it is near enough.
-- Assumes nothing.
use mathlib.Core.Path.{◌≡◌, refl, sym, ◌∙◌}
use mathlib.Core.Bool.{true, false}
use mathlib.Core.List.{List}
use mathlib.Core.Option.{Option as Found, none, some}
use mathlib.Core.Logic.{inl, inr, ⊎_elim}
use Prim.Native.Nat.{ℕ, ◌+◌, ◌*◌, ◌-◌, ◌≤◌, ◌<◌, ◌/◌, ◌%◌}
use native.Mathlib.Omega.{arith}
use lib.Dec.{leb}
use borrow.Author.Tests.{le-leb, lt-leb}
use Rattle.std.specs.Bool.{then_some}
use Rattle.std.specs.Prelude.{Option, Some, None, min}
use Rattle.plane.specs.Plane.{on_at, apart, index_of}
use Rattle.plane.specs.Search.{some_below}
use Rattle.plane.proofs.Plane.{row_of, column-of, index-of}
use Rattle.plane.proofs.Search.{not-both, some-found}
use Rattle.std.proofs.lemmas.Bool.{cases_lt}
use Rattle.line.proofs.Squares.{square_le, square-lt}
use Rattle.nearest.specs.Nearest.{nearest, away, distance_to}
use Rattle.nearest.proofs.Laws.{nearest-some, nearest-none, nearest-is}
use Rattle.plane.specs.Mask.{is_on}
use Rattle.labels.proofs.Steps.{row_is, column-is}
use Rattle.outline.specs.Growth.{body_reach, is_reach}
use Rattle.window.specs.steps.Window.{near_pixel, Cleared, RowFound, Chosen, Searched}

-- each on-pixel of column i is at least e rows from row y
abbrev pub Clear : List ℕ → ℕ → ℕ → ℕ → ℕ → ℕ → Type 0
Clear deep h w y i e = (k : ℕ) → k < h → on_at deep w k i ≡ true → e ≤ apart y k

module _ (deep : List ℕ) (h w y i e : ℕ) (clear : Clear deep h w y i e) where
  -- the pixel e rows above is on
  pub row_above : (across far : ℕ) → across + e * e < far → e ≤ y → y < h → on_at deep w (y - e) i ≡ true
      → RowFound deep h w y i across far (y - e)
  unfolding apart
  row_above across far near up row t =
      let q : apart y (y - e) ≡ e = omega arith in
      record {
        inside = omega arith;
        pixel_on = t;
        near = rw q near;
        least = λ k g s. omega (arith, clear k g s);
        first = λ k g s. omega arith;
      }

  -- the one e rows below is, and not the one above
  pub row_below : (across far : ℕ) → across + e * e < far → (e ≤ y → on_at deep w (y - e) i ≡ false) → y + e < h
      → on_at deep w (y + e) i ≡ true → RowFound deep h w y i across far (y + e)
  unfolding apart
  row_below across far near above down t =
      let q : apart y (y + e) ≡ e = omega arith in
      record {
        inside = down;
        pixel_on = t;
        near = rw q near;
        least = λ k g s. omega (arith, clear k g s);
        first = λ k g s.
            rw q
            (⊎_elim {C = e < apart y k}
            (λ (l : e < apart y k). l)
            (λ (l : apart y k ≤ e).
            (let here : k ≡ y - e = omega (arith, clear k (omega arith) s) in
            not-both (on_at deep w (y - e) i) (rw here at s) (above (omega (arith, clear k (omega arith) s)))))
            (cases_lt e (apart y k)));
      }

  -- none of the two is
  pub clear_more : (e ≤ y → on_at deep w (y - e) i ≡ false) → (y + e < h → on_at deep w (y + e) i ≡ false) → Clear deep h w y i (e + 1)
  unfolding apart
  clear_more above below k g s =
      ⊎_elim {C = e + 1 ≤ apart y k}
      (λ (l : e < apart y k). omega arith)
      (λ (l : apart y k ≤ e).
      ⊎_elim {C = e + 1 ≤ apart y k}
      (λ (m : k < y).
      (let here : k ≡ y - e = omega (arith, clear k g s) in
      not-both (on_at deep w (y - e) i) (rw here at s) (above (omega (arith, clear k g s)))))
      (λ (m : y ≤ k).
      (let here : k ≡ y + e = omega (arith, clear k g s) in
      not-both (on_at deep w (y + e) i) (rw here at s) (below (omega (arith, clear k g s)))))
      (cases_lt k y))
      (cases_lt e (apart y k))

-- no on-pixel in the first c columns is nearer to (y, x) than far
abbrev Least : List ℕ → ℕ → ℕ → ℕ → ℕ → ℕ → ℕ → Type 0
Least deep h w y x c far = (k l : ℕ) → k < h → l < c → on_at deep w k l ≡ true → far ≤ away y x k l

module _ {deep : List ℕ} {h w y x i d far : ℕ} {at : Option ℕ} (side : d ≡ apart x i) (so_far : Searched deep h w y x i far at) where
  -- what lies in column i, seen from (y, x)
  seen : (k : ℕ) → away y x k i ≡ d * d + apart y k * apart y k
  unfolding away
  seen k = rw side (omega arith)

  -- what is no farther than all before column i, and than column i
  least_more : (m : ℕ) → m ≤ far → ((k : ℕ) → k < h → on_at deep w k i ≡ true → m ≤ d * d + apart y k * apart y k)
      → Least deep h w y x (i + 1) m
  least_more m p q k l g n t =
      ⊎_elim {C = m ≤ away y x k l}
      (λ (r : l < i). omega (arith, so_far.least k l g r t))
      (λ (r : i ≤ l). (let z : l ≡ i = omega arith in rw (z, seen k) (q k g (rw z at t))))
      (cases_lt l i)

  -- column i has nothing nearer
  pub passed : Cleared deep h w y i (d * d) far → Searched deep h w y x (i + 1) far at
  passed c = record { low = so_far.low; least = least_more far (omega arith) c.least; found = so_far.found }

  -- it has, in row j
  pub taken : (j : ℕ) → i < w → RowFound deep h w y i (d * d) far j
      → Searched deep h w y x (i + 1) (d * d + apart y j * apart y j) (Some (j * w + i))
  taken j inside c =
      let near : d * d + apart y j * apart y j < far = c.near in
      record {
        low = omega (arith, so_far.low);
        least = least_more (d * d + apart y j * apart y j) (omega arith) (λ k g t. omega (arith, square_le (c.least k g t)));
        found = inr (record {
          i = i;
          j = j;
          row_inside = c.inside;
          column_inside = inside;
          pixel_on = c.pixel_on;
          place = refl;
          distance = sym (seen j);
          reached = omega (arith, so_far.low);
          first_column = λ k l g m t. omega (arith, so_far.least k l g m t);
          first_row = λ k l t. omega (arith, square-lt (c.first k l t), seen k);
        });
      }

module _ (deep : List ℕ) (h w y x : ℕ) where
  -- columns more than 6 away are too far
  outside : (k l : ℕ) → 7 ≤ apart x l → body_reach + 1 ≤ away y x k l
  unfolding away
  outside k l g = omega (arith, square_le {a = 7} {b = apart x l} g)

  -- nothing is searched yet
  pub started : (c : ℕ) → c ≤ x - 6 → Searched deep h w y x c (body_reach + 1) None
  unfolding apart
  started c l = record { low = omega arith; least = λ k m g q t. outside k m (omega arith); found = inl (refl, refl) }

  chosen_is : (far : ℕ) (at : Option ℕ) → Least deep h w y x w far → Chosen deep h w y x far at → at ≡ near_pixel deep h w y x
  unfolding near_pixel is_reach index_of distance_to
  chosen_is far at least p =
      let e : nearest deep h w y x ≡ some (p.i, p.j) =
      nearest-is deep h w y x p.i p.j
      (record {
        row_inside = p.row_inside;
        column_inside = p.column_inside;
        pixel_on = p.pixel_on;
        least = λ k l g m t. omega (arith, least k l g m t, p.distance);
        first_column = λ k l g m t. omega (arith, p.first_column k l g m t, p.distance);
        first_row = λ k g t. omega (arith, p.first_row k g t, p.distance);
      }) in
      rw (e, le-leb (away y x p.j p.i) body_reach (omega (arith, p.distance, p.reached))) p.place

  none_is : (r : Found (ℕ × ℕ)) → nearest deep h w y x ≡ r → Least deep h w y x w (body_reach + 1) → is_reach y x r ≡ false
  unfolding is_reach distance_to
  none_is none e least = refl
  none_is (some q) e least =
      let p = nearest-some deep h w y x q.0 q.1 e in
      lt-leb (away y x q.1 q.0) body_reach (omega (arith, least q.1 q.0 p.row_inside p.column_inside p.pixel_on))

  -- no deep pixel is near enough
  pub near_none : is_reach y x (nearest deep h w y x) ≡ false → near_pixel deep h w y x ≡ None
  unfolding near_pixel
  near_none e = rw e

  -- one is
  pub near-some : is_reach y x (nearest deep h w y x) ≡ true → near_pixel deep h w y x ≡ Some (index_of w (nearest deep h w y x))
  unfolding near_pixel
  near-some e = rw e

  -- all columns that are near enough are searched
  pub finished : (c far : ℕ) (at : Option ℕ) → c ≡ min w (x + 7) → Searched deep h w y x c far at → at ≡ near_pixel deep h w y x
  unfolding apart
  finished c far at done s =
      let least : Least deep h w y x w far =
      λ k l g m t.
      ⊎_elim {C = far ≤ away y x k l}
      (λ (q : l < c). s.least k l g q t)
      (λ (q : c ≤ l). omega (arith, outside k l (omega arith), s.low))
      (cases_lt l c) in
      ⊎_elim {C = at ≡ near_pixel deep h w y x}
      (λ (p : (far ≡ body_reach + 1) × (at ≡ None)). p.1 ∙ sym (near_none (none_is (nearest deep h w y x) refl (rw p.0 at least))))
      (chosen_is far at least)
      s.found

  near-cases : 0 < w → some_below (h * w) (is_on deep) ≡ true → (r : Found (ℕ × ℕ)) → nearest deep h w y x ≡ r → (b : ℕ) → b ≡ index_of w r
      → then_some (leb (away y x (b / w) (b % w)) body_reach) b ≡ then_some (is_reach y x r) (index_of w r)
  unfolding is_reach distance_to index_of is_on on_at
  near-cases wide has none e b f =
      let z = some-found (is_on deep) (h * w) has in
      let off = nearest-none deep h w y x e (z.0 / w) (z.0 % w) (row_of z.0 h w wide z.1) (column-of z.0 w wide) in
      not-both (is_on deep z.0) z.2 (rw (index-of z.0 w) at off)
  near-cases wide has (some q) e b f =
      let p = nearest-some deep h w y x q.0 q.1 e in
      rw (f, row_is q.1 q.0 w p.column_inside, column-is q.1 q.0 w p.column_inside)

  -- the nearest deep pixel where it is near enough, by its index
  pub near-index : 0 < w → some_below (h * w) (is_on deep) ≡ true → (b : ℕ) → b ≡ index_of w (nearest deep h w y x)
      → then_some (leb (away y x (b / w) (b % w)) body_reach) b ≡ near_pixel deep h w y x
  unfolding near_pixel
  near-index wide has b e = near-cases wide has (nearest deep h w y x) refl b e
