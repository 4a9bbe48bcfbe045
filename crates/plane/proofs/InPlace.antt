-- The law of loops that change a buffer in place, element by element from the front; for every element type.
-- Assumes nothing.
use mathlib.Core.Path.{◌≡◌, refl, ◌∙◌}
use mathlib.Core.List.{List}
use mathlib.Core.Logic.{⊎_elim}
use Prim.Native.Nat.{ℕ, ◌+◌, ◌≤◌, ◌<◌}
use native.Mathlib.Nat.{not-suc-le-zero}
use native.Mathlib.Omega.{arith}
use lib.ListN.{length, get_or, set, length-set}
use lib.Seq.{get_or-set_other}
use Rattle.plane.specs.Plane.{table}
use Rattle.plane.proofs.Plane.{filled, table_is}
use Rattle.std.proofs.lemmas.Bool.{cases_lt}

-- f in front of x, and from x on as it was
module _ {A : Type 0} (d : A) (f : ℕ → A) (old : List A) where
  pub record Changed (new : List A) (x : ℕ) : Type 0 where
    pub size : length new ≡ length old
    pub front : (i : ℕ) → i < x → get_or new i d ≡ f i
    pub back : (i : ℕ) → x ≤ i → get_or new i d ≡ get_or old i d

  pub changed-none : Changed old 0
  changed-none = record { size = refl; front = λ i l. absurd (not-suc-le-zero l); back = λ i l. refl }

  -- the right store at x
  pub changed-more : (new : List A) (x : ℕ) (v : A) → Changed new x → x < length old → v ≡ f x → Changed (set new x v) (x + 1)
  changed-more new x v p l e = record {
    size = length-set new x v ∙ p.size;
    front = filled f new x v d (omega (arith, p.size)) p.front e;
    back = λ i g. get_or-set_other new x i v d (λ (q : i ≡ x). absurd (omega arith)) ∙ p.back i (omega arith);
  }

  -- at the end, or where f is already there behind x, the buffer is the table of f
  pub changed-all : (new : List A) (x : ℕ) → Changed new x → ((i : ℕ) → x ≤ i → i < length old → get_or old i d ≡ f i)
      → new ≡ table f 0 (length old)
  changed-all new x p h =
      table_is f (length old) new d p.size
      (λ i l. ⊎_elim {C = get_or new i d ≡ f i} (λ (a : i < x). p.front i a) (λ (a : x ≤ i). p.back i a ∙ h i a l) (cases_lt i x))

  pub changed-end : (new : List A) (x : ℕ) → Changed new x → length old ≤ x → new ≡ table f 0 (length old)
  changed-end new x p l = changed-all new x p (λ i g k. absurd (omega arith))
