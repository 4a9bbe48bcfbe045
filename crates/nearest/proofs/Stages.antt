-- What the two stages give is the nearest on-pixel.
-- Assumes nothing.
use mathlib.Core.Path.{◌≡◌, refl, sym, ap, ◌∙◌, subst}
use mathlib.Core.Bool.{Bool, cond}
use mathlib.Core.List.{List}
use mathlib.Core.Option.{Option, none, some}
use mathlib.Core.Logic.{⊎_elim}
use Prim.Native.Nat.{ℕ, zero, suc, ◌+◌, ◌*◌, ◌-◌, ◌≤◌, ◌<◌}
use native.Mathlib.Nat.{add-mul, one-mul}
use native.Mathlib.Numerals.{add-one}
use native.Mathlib.Omega.{arith}
use lib.ListN.{length, get_or, take, drop}
use lib.Seq.{get_or-take, get_or-drop}
use borrow.Author.Tests.{lt-ltb, le-ltb}
use Rattle.plane.specs.Plane.{on, on_at, apart}
use Rattle.std.proofs.lemmas.Bool.{cases_lt}
use Rattle.plane.proofs.Plane.{row_in, pixel-in}
use Rattle.line.specs.steps.FirstLeast.{first_least, Answers}
use Rattle.line.specs.steps.Line.{most_cost, most_length, no_place, offer, best, place_of, line_of}
use Rattle.line.specs.steps.Columns.{attach, chosen, Encodes}
use Rattle.line.specs.Grid.{value_of, walk, upto, grid}
use Rattle.line.proofs.Squares.{gap-fits}
use Rattle.line.proofs.Walk.{walk-answers}
use Rattle.line.proofs.Best.{line_at, offered}
use Rattle.line.proofs.Grid.{over, column_best, column_cost, walk-line, far, two-stages}
use Rattle.nearest.specs.Nearest.{row_cost, nearest, away, distance}
use Rattle.nearest.specs.steps.Stages.{no_row, below_at, BelowFrom, nearer, row_code, near_at, above_at, Swept}
use Rattle.nearest.specs.steps.Stages.{square_cost, pixel_in, IsRow, distance_in}
use Rattle.nearest.proofs.Sweep.{Near, FirstFrom, numbered, near-row, near-is}
use Rattle.nearest.proofs.Sweep.{first-from, first_step, first-none, sweep-start, sweep-step}
use Rattle.nearest.proofs.Laws.{nearest-some, distance_some, distance_none}

module _ (mask : List ℕ) (h w : ℕ) where
  -- which rows of column x are on
  abbrev column : ℕ → ℕ → Bool
  column x j = on_at mask w j x

  -- ---- the first sweep

  -- behind the last row nothing is found
  below_none : (x : ℕ) → below_at mask h w h x ≡ no_row
  unfolding below_at
  below_none x = first-none (column x) h

  pub below-start : (work : List ℕ) → ((x : ℕ) → x < w → get_or work (h * w + x) 0 ≡ no_row) → BelowFrom mask h w h work
  below-start work v j x a b g =
      subst (λ (i : ℕ). get_or work (i * w + x) 0 ≡ below_at mask h w i x) (omega arith) (v x g ∙ sym (below_none x))

  -- one row further up
  below-own : (y x : ℕ) → y < h → below_at mask h w y x ≡ cond (on (get_or mask (y * w + x) 0)) y (below_at mask h w (y + 1) x)
  unfolding below_at on_at
  below-own y x l = first_step (column x) y h l

  pub below_next : {y : ℕ} (old new : List ℕ) → y < h → BelowFrom mask h w (y + 1) old
      → ((x : ℕ) → x < w → get_or new (y * w + x) 0 ≡ cond (on (get_or mask (y * w + x) 0)) y (get_or old (y * w + w + x) 0))
      → ((i : ℕ) → y * w + w ≤ i → get_or new i 0 ≡ get_or old i 0) → BelowFrom mask h w y new
  below_next {y} old new l before here behind j x a b g =
      ⊎_elim {C = get_or new (j * w + x) 0 ≡ below_at mask h w j x}
      (λ (z : y < j). (let r = row_in y j w z in behind (j * w + x) (omega arith) ∙ before j x (omega arith) b g))
      (λ (z : j ≤ y).
      let m : (y + 1) * w ≡ y * w + w = add-mul y 1 w ∙ ap (λ (i : ℕ). y * w + i) (one-mul w) in
      let next : y * w + w + x ≡ (y + 1) * w + x = omega arith in
      subst (λ (i : ℕ). get_or new (i * w + x) 0 ≡ below_at mask h w i x) (omega arith)
      (here x g
      ∙ ap (cond (on (get_or mask (y * w + x) 0)) y) (ap (λ (i : ℕ). get_or old i 0) next ∙ before (y + 1) x (omega arith) (omega arith) g)
      ∙ sym (below-own y x l)))
      (cases_lt y j)

  -- the plane is the front of the buffer, and the line behind it is that of the nearest on-rows
  pub swept-start : (work : List ℕ) → BelowFrom mask h w 0 work → Swept mask h w 0 (take (h * w) work) (drop (h * w) work)
  unfolding above_at
  swept-start work b = record {
    above = λ x g.
        get_or-drop (h * w) work x 0 ∙ b h x (omega arith) (omega arith) g ∙ below_none x;
    below = λ j x a l g. get_or-take (h * w) work (j * w + x) 0 (pixel-in j x h w l g) ∙ b j x a (omega arith) g;
  }

  -- ---- the second sweep

  module _ (short : h ≤ most_length) (y x : ℕ) where
    near-at : Near (column x) h y (near_at mask h w y x)
    unfolding near_at row_cost
    near-at = near-row (column x) h y (omega arith)

    near-from : (b : ℕ) → Near (column x) h y b → near_at mask h w y x ≡ b
    unfolding near_at row_cost
    near-from b n = near-is (column x) h y (omega arith) b n

    below-first : y ≤ h → FirstFrom (column x) y h (below_at mask h w y x)
    unfolding below_at
    below-first l = first-from (column x) (h - y) y h (omega arith) (omega arith)

  -- a row or no_row
  low : (a : ℕ) → h ≤ most_length → (h ≤ a → a ≡ no_row) → a ≤ no_row
  low a short e = ⊎_elim (λ (l : a < h). omega arith) (λ (l : h ≤ a). (let z = e l in omega arith)) (cases_lt a h)

  -- the nearest on-row of row y from that of the row above
  near_step : (y x : ℕ) → y < h → h ≤ most_length → near_at mask h w y x ≡ nearer y (below_at mask h w y x) (above_at mask h w y x)
  unfolding above_at
  near_step zero x l short =
      near-from short 0 x (below_at mask h w 0 x) (sweep-start (column x) h (below_at mask h w 0 x) (below-first short 0 x (omega arith)))
      ∙ unfold nearer in refl
  near_step (suc z) x l short =
      near-from short (suc z) x (nearer (suc z) (below_at mask h w (suc z) x) (near_at mask h w z x))
      (sweep-step (column x) h z (below_at mask h w (suc z) x) (near_at mask h w z x) l short (below-first short (suc z) x (omega arith))
      (near-at short z x))

  above_low : (y x : ℕ) → h ≤ most_length → above_at mask h w y x ≤ no_row
  unfolding above_at
  above_low zero x short = omega arith
  above_low (suc z) x short = low (near_at mask h w z x) short (near-at short z x).missing

  -- row y: near goes on from the row above to row y, and its line is passed over
  module _ {y : ℕ} {plane near : List ℕ} (inside : y < h) (tall : h ≤ most_length) (s : Swept mask h w y plane near) where
    -- the two lines hold rows or no_row
    pub row_low : (x : ℕ) → x < w → get_or plane (y * w + x) 0 ≤ no_row
    row_low x g = rw (s.below y x (omega arith) inside g) (low (below_at mask h w y x) tall (below-first tall y x (omega arith)).missing)

    pub near_low : (x : ℕ) → x < w → get_or near x 0 ≤ no_row
    near_low x g = rw (s.above x g) (above_low y x tall)

    module _ (near' : List ℕ) (sweep : (x : ℕ) → x < w → get_or near' x 0 ≡ nearer y (get_or plane (y * w + x) 0) (get_or near x 0)) where
      near-done : (x : ℕ) → x < w → get_or near' x 0 ≡ near_at mask h w y x
      near-done x g = sweep x g ∙ rw (s.below y x (omega arith) inside g, s.above x g) (sym (near_step y x inside tall))

      -- before the next row, whatever is written to the rows up to y
      pub swept-next : (now : List ℕ) → ((i : ℕ) → y * w + w ≤ i → get_or now i 0 ≡ get_or plane i 0) → Swept mask h w (y + 1) now near'
      swept-next now same = record {
        above = λ x g. near-done x g ∙ rw (add-one y) (unfold above_at in refl);
        below = λ j x a b g.
            (let q = row_in y j w (omega arith) in
            same (j * w + x) (omega arith) ∙ s.below j x (omega arith) b g);
      }

      -- ---- the second stage

      module _ (costs : List ℕ) (wide : w ≤ most_length) (long : length near' ≡ w) (size : length costs ≡ w)
          (priced : (x : ℕ) → x < w → get_or costs x 0 ≡ square_cost y (get_or near' x 0)) where
        cost-at : (x : ℕ) → x < w → get_or costs x 0 ≡ square_cost y (near_at mask h w y x)
        cost-at x g = priced x g ∙ ap (square_cost y) (near-done x g)

        -- a cost that stands for a number, or for none
        Coded : ℕ → Option ℕ → Type 0
        Coded c none = most_cost < c
        Coded c (some a) = (c ≡ a) × (a ≤ most_cost)

        value-of : (x j v : ℕ) → row_cost mask w y x j ≡ some v → v ≡ apart y j * apart y j
        unfolding row_cost
        value-of x j v q = (numbered (column x) y j v q).1

        coded : (x : ℕ) (b : Option ℕ) → Answers (row_cost mask w y x) h b
            → Coded (square_cost y (row_code b)) (value_of (row_cost mask w y x) b)
        unfolding Coded square_cost row_code value_of
        coded x none a = omega arith
        coded x (some j) a =
            let inner = a.1.inside in
            let v = value-of x j a.0 a.1.here in
            let g = gap-fits y j (apart y j) refl (omega arith) (omega arith) in
            rw (a.1.here, lt-ltb j most_length (omega arith)) (sym v, omega arith)

        -- the costs of row y are those of the columns' answers
        encodes : Encodes costs (column_cost (row_cost mask w y) (upto h))
        unfolding Coded near_at
        encodes =
            let one : (x : ℕ) → x < w → Coded (get_or costs x 0) (column_cost (row_cost mask w y) (upto h) x) = λ x g.
            rw (cost-at x g, walk-line (row_cost mask w y x) h)
            (coded x (first_least (row_cost mask w y x) h) (walk-answers (row_cost mask w y x) h)) in
            record {
              some_cost = λ x a g q. rw q at (one x (omega arith));
              no_cost = λ x g q. rw q at (one x (omega arith));
            }

        -- nearest is the line pass along the row, and the chosen column's own answer
        two : (x : ℕ) → nearest mask h w y x ≡ chosen (column_best (row_cost mask w y) (upto h)) (best costs x)
        unfolding nearest
        two x =
            ap (λ (n : ℕ). walk (over (far (row_cost mask w y) (upto h) x)) none (grid n (upto h))) (sym size)
            ∙ two-stages (row_cost mask w y) (upto h) x costs encodes

        -- a chosen column has an answer
        some-row : (x i v : ℕ) → i < w → offer costs x i ≡ some v → (b : Option ℕ) → column_best (row_cost mask w y) (upto h) i ≡ b
            → attach i b ≡ some (i, row_code b)
        unfolding attach row_code
        some-row x i v g o none e =
            let site = (offered costs x i v o).0 in
            let z = encodes.no_cost i (omega arith) (ap (value_of (row_cost mask w y i)) e ∙ unfold value_of in refl) in
            absurd (omega arith)
        some-row x i v g o (some j) e = refl

        picked : (x : ℕ) (b : Option ℕ) → Answers (offer costs x) (length costs) b
            → chosen (column_best (row_cost mask w y) (upto h)) b ≡ pixel_in near' (place_of b)
        unfolding chosen pixel_in place_of near_at
        picked x none a = rw (le-ltb no_place (length near') (omega arith))
        picked x (some i) a =
            let g : i < w = omega (arith, a.1.inside) in
            let b = column_best (row_cost mask w y) (upto h) i in
            let q : row_code b ≡ get_or near' i 0 = ap row_code (walk-line (row_cost mask w y i) h) ∙ sym (near-done i g) in
            some-row x i a.0 g a.1.here b refl ∙ rw (q, lt-ltb i (length near') (omega arith))

        module _ (places : List ℕ) (passed : places ≡ line_of costs) (x : ℕ) (g : x < w) where
          abbrev place : ℕ
          place = get_or places x 0

          -- the chosen column is the best one, and its on-pixel is the nearest
          pub pixel : pixel_in near' place ≡ nearest mask h w y x
          unfolding best
          pixel =
              ap (λ (l : List ℕ). pixel_in near' (get_or l x 0)) passed
              ∙ ap (pixel_in near') (line_at costs x (omega arith))
              ∙ sym (two x ∙ picked x (best costs x) (walk-answers (offer costs x) (length costs)))

          pixel-some : place < w → nearest mask h w y x ≡ some (place, get_or near' place 0)
          unfolding pixel_in
          pixel-some l = sym pixel ∙ rw (lt-ltb place (length near') (omega arith))

          -- a chosen column has an on-row
          pub chosen-row : IsRow near' place
          chosen-row l =
              let z = (nearest-some mask h w y x place (get_or near' place 0) (pixel-some (omega arith))).row_inside in
              omega arith

          -- its cost gives the distance
          pub chosen-distance : distance_in costs y x place ≡ distance mask h w y x
          unfolding distance_in away square_cost pixel_in
          chosen-distance =
              ⊎_elim
              (λ (l : place < w).
              let z = chosen-row (omega arith) in
              rw (lt-ltb place (length costs) (omega arith))
              (ap (λ (k : ℕ). k + apart x place * apart x place) (priced place l ∙ rw (lt-ltb (get_or near' place 0) most_length z))
              ∙ sym (distance_some mask h w y x place (get_or near' place 0) (pixel-some l))))
              (λ (l : w ≤ place).
              rw (le-ltb place (length costs) (omega arith))
              (sym (distance_none mask h w y x (sym pixel ∙ rw (le-ltb place (length near') (omega arith))))))
              (cases_lt place w)
