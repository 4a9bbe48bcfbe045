-- The first stage: down a column, the nearest on-row of a row follows from the nearest of the row above and the first on-row at or below.
-- Assumes nothing.
use mathlib.Core.Path.{◌≡◌, refl, ap, ◌∙◌}
use mathlib.Core.Bool.{Bool, true, false, cond}
use mathlib.Core.Option.{Option, none, some}
use mathlib.Core.Logic.{◌⊎◌, inl, inr, ⊎_elim}
use Prim.Native.Nat.{ℕ, zero, suc, ◌+◌, ◌*◌, ◌-◌, ◌≤◌, ◌<◌}
use native.Mathlib.Omega.{arith}
use lib.Dec.{ltb}
use borrow.Author.Tests.{lt-ltb, le-ltb, ne_eqb}
use Rattle.plane.specs.Plane.{apart}
use Rattle.plane.proofs.Search.{not-both}
use Rattle.std.proofs.lemmas.Bool.{cases_Bool, cases_lt}
use Rattle.line.specs.steps.FirstLeast.{first_least, Answers}
use Rattle.line.specs.steps.Line.{most_length}
use Rattle.line.proofs.Squares.{apart-left, apart-right, square_le, square-lt, root-le, root-lt}
use Rattle.line.proofs.Walk.{clash, same, walk-answers, walk_is}
use Rattle.nearest.specs.steps.Stages.{no_row, first_from, nearer, row_code}

module _ (p : ℕ → Bool) where
  -- the number of row j, seen from row y
  abbrev pub row_number : ℕ → ℕ → Option ℕ
  row_number y j = cond (p j) (some (apart y j * apart y j)) none

  on-number : (y j : ℕ) → p j ≡ true → row_number y j ≡ some (apart y j * apart y j)
  on-number y j e = rw e

  off-number : (y j : ℕ) → p j ≡ false → row_number y j ≡ none
  off-number y j e = rw e

  -- a row that has a number is on, and the number is its square
  pub numbered : (y j v : ℕ) → row_number y j ≡ some v → (p j ≡ true) × (v ≡ apart y j * apart y j)
  numbered y j v e =
      ⊎_elim {C = (p j ≡ true) × (v ≡ apart y j * apart y j)}
      (λ (t : p j ≡ true). (t, same (row_number y j) v (apart y j * apart y j) e (on-number y j t)))
      (λ (t : p j ≡ false). clash (row_number y j) v (off-number y j t) e)
      (cases_Bool (p j))

  -- ---- the nearest on-row

  -- b is the on-row nearest to y, the upper of two; or it is no_row, and nothing is on
  pub record Near (h y b : ℕ) : Type 0 where
    pub missing : h ≤ b → b ≡ no_row
    pub here : b < h → p b ≡ true
    pub least : (k : ℕ) → k < h → p k ≡ true → (b < h) × (apart y b ≤ apart y k)
    pub first : (k : ℕ) → k < b → k < h → p k ≡ true → apart y b < apart y k

  module _ (h y : ℕ) (short : h ≤ no_row) where
    -- what the walk down the column answers is that row
    near-from : (b : Option ℕ) → Answers (row_number y) h b → Near h y (row_code b)
    unfolding row_code
    near-from none a = record {
      missing = λ l. refl;
      here = λ l. absurd (omega arith);
      least = λ k l q. clash (row_number y k) (apart y k * apart y k) (a k l) (on-number y k q);
      first = λ k g l q. clash (row_number y k) (apart y k * apart y k) (a k l) (on-number y k q);
    }
    near-from (some j) a =
        let z = numbered y j a.0 a.1.here in
        let e = z.1 in
        let inside = a.1.inside in
        record {
          missing = λ l. absurd (omega arith);
          here = λ l. z.0;
          least = λ k l q.
              (let m = a.1.least k (apart y k * apart y k) l (on-number y k q) in
              (inside, root-le (apart y j) (apart y k) (omega arith)));
          first = λ k g l q.
              (let m = a.1.first k (apart y k * apart y k) g (on-number y k q) in
              root-lt (apart y j) (apart y k) (omega arith));
        }

    pub near-row : Near h y (row_code (first_least (row_number y) h))
    near-row = near-from (first_least (row_number y) h) (walk-answers (row_number y) h)

    -- and such a row is what it answers
    pub near-is : (b : ℕ) → Near h y b → row_code (first_least (row_number y) h) ≡ b
    unfolding row_code
    near-is b n =
        ⊎_elim
        (λ (l : b < h).
        ap row_code (walk_is (row_number y) h (some b) (
          apart y b * apart y b,
          record {
            inside = l;
            here = on-number y b (n.here l);
            least = λ k v g e.
                (let z = numbered y k v e in let q = z.1 in let m = square_le (n.least k g z.0).1 in omega arith);
            first = λ k v g e.
                (let z = numbered y k v e in let q = z.1 in let m = square-lt (n.first k g (omega arith) z.0) in omega arith);
          },
        )))
        (λ (l : h ≤ b).
        let off : (k : ℕ) → k < h → row_number y k ≡ none = λ k g.
        ⊎_elim (λ (t : p k ≡ true). (let m = (n.least k g t).0 in absurd (omega arith))) (λ t. off-number y k t) (cases_Bool (p k)) in
        ap row_code (walk_is (row_number y) h none off) ∙ (let e = n.missing l in omega arith))
        (cases_lt b h)

  -- ---- the first on-row at or below

  -- a is the first on-row from y on; or it is no_row, and there is none
  pub record FirstFrom (y h a : ℕ) : Type 0 where
    pub missing : h ≤ a → a ≡ no_row
    pub here : a < h → (y ≤ a) × (p a ≡ true)
    pub first : (k : ℕ) → y ≤ k → k < h → p k ≡ true → a ≤ k

  from-off : (y h a : ℕ) → p y ≡ false → FirstFrom (suc y) h a → FirstFrom y h a
  from-off y h a t r = record {
    missing = r.missing;
    here = λ l. (let z = r.here l in (omega arith, z.1));
    first = λ k g l q.
        ⊎_elim (λ (m : y < k). r.first k m l q) (λ (m : k ≤ y). (let e : k ≡ y = omega arith in not-both (p k) q (rw e t))) (cases_lt y k);
  }

  pub first-from : (n y h : ℕ) → h ≤ no_row → y + n ≡ h → FirstFrom y h (first_from p y n)
  unfolding first_from
  first-from zero y h m e =
      record { missing = λ l. refl; here = λ l. absurd (omega arith); first = λ k g l q. absurd (omega arith) }
  first-from (suc n) y h m e =
      ⊎_elim {C = FirstFrom y h (cond (p y) y (first_from p (suc y) n))}
      (λ (t : p y ≡ true).
      rw t (record { missing = λ l. absurd (omega arith); here = λ l. (omega arith, t); first = λ k g l q. g }))
      (λ (t : p y ≡ false). rw t (from-off y h (first_from p (suc y) n) t (first-from n (suc y) h m (omega arith))))
      (cases_Bool (p y))

  -- one row further up
  pub first_step : (y h : ℕ) → y < h → first_from p y (h - y) ≡ cond (p y) y (first_from p (y + 1) (h - (y + 1)))
  unfolding first_from
  first_step y h l =
      let e : h - y ≡ suc (h - (y + 1)) = omega arith in
      let q : suc y ≡ y + 1 = omega arith in
      rw (e, q)

  -- and no row at all
  pub first-none : (h : ℕ) → first_from p h (h - h) ≡ no_row
  unfolding first_from
  first-none h = let e : h - h ≡ 0 = omega arith in rw e

  -- ---- the sweep's step

  -- the nearest to row 0 is the first of all
  pub sweep-start : (h a : ℕ) → FirstFrom 0 h a → Near h 0 a
  unfolding apart
  sweep-start h a f = record {
    missing = f.missing;
    here = λ l. (f.here l).1;
    least = λ k l q. (let m = f.first k (omega arith) l q in omega arith);
    first = λ k g l q. (let m = f.first k (omega arith) l q in omega arith);
  }

  -- the nearest to row z stays for the row below it, unless the first from there on is strictly nearer
  module _ (h z a b : ℕ) (inside : suc z < h) (short : h ≤ most_length) (f : FirstFrom (suc z) h a) (n : Near h z b) where
    -- a row above the new row, or one from it on, seen from both rows
    abbrev Up : ℕ → Type 0
    Up k = (apart (suc z) k + k ≡ suc z) × (apart z k + k ≡ z)

    abbrev Down : ℕ → Type 0
    Down k = (apart (suc z) k + suc z ≡ k) × (apart z k + z ≡ k)

    seen : (k : ℕ) → Up k ⊎ Down k
    seen k =
        ⊎_elim {C = Up k ⊎ Down k}
        (λ (g : k < suc z). inl (apart-left (suc z) k (omega arith), apart-left z k (omega arith)))
        (λ (g : suc z ≤ k). inr (apart-right (suc z) k g, apart-right z k (omega arith)))
        (cases_lt k (suc z))

    takes-a : a + b < 2 * suc z → Near h (suc z) a
    takes-a t =
        let low : a < h = ⊎_elim (λ (l : a < h). l) (λ (l : h ≤ a). (let e = f.missing l in absurd (omega arith))) (cases_lt a h) in
        let from = (f.here low).0 in
        let ea = apart-right (suc z) a from in
        let eb = apart-left z b (omega arith) in
        let far = apart (suc z) in
        -- an on-row above lies no lower than b, and one from the new row on no higher than a
        let nearer : (k : ℕ) → k < h → p k ≡ true → (far a ≤ far k) × (k < a → far a < far k) = λ k l q.
        ⊎_elim (λ (u : Up k). (let m = n.least k l q in omega arith))
        (λ (u : Down k). (let m = f.first k (omega arith) l q in omega arith)) (seen k) in
        record {
          missing = f.missing;
          here = λ l. (f.here l).1;
          least = λ k l q. (low, (nearer k l q).0);
          first = λ k g l q. (nearer k l q).1 g;
        }

    takes-b : 2 * suc z ≤ a + b → Near h (suc z) b
    takes-b t = record {
      missing = n.missing;
      here = n.here;
      least = λ k l q.
          (let m = n.least k l q in
          ⊎_elim
          (λ (u : Up k). ⊎_elim (λ (v : Up b). omega arith) (λ (v : Down b). omega arith) (seen b))
          (λ (u : Down k).
          (let s = f.first k (omega arith) l q in ⊎_elim (λ (v : Up b). omega arith) (λ (v : Down b). omega arith) (seen b)))
          (seen k));
      first = λ k g l q.
          (let m = n.first k g l q in
          ⊎_elim
          (λ (u : Up k). ⊎_elim (λ (v : Up b). omega arith) (λ (v : Down b). omega arith) (seen b))
          (λ (u : Down k). ⊎_elim (λ (v : Up b). omega arith) (λ (v : Down b). omega arith) (seen b))
          (seen k));
    }

    pub sweep-step : Near h (suc z) (nearer (suc z) a b)
    unfolding nearer
    sweep-step =
        rw (ne_eqb (suc z) 0 (λ e. omega arith))
        (⊎_elim {C = Near h (suc z) (cond (ltb (a + b) (2 * suc z)) a b)}
        (λ (t : a + b < 2 * suc z). rw (lt-ltb (a + b) (2 * suc z) t) (takes-a t))
        (λ (t : 2 * suc z ≤ a + b). rw (le-ltb (a + b) (2 * suc z) t) (takes-b t))
        (cases_lt (a + b) (2 * suc z)))
