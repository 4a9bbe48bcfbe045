-- Laws of counts, and of counting pixels that are on in one mask and off in another.
-- Assumes nothing.
use mathlib.Core.Path.{◌≡◌, refl, sym, ap, ◌∙◌}
use mathlib.Core.Bool.{Bool, true, false, cond, not, ◌&&◌, ◌||◌}
use mathlib.Core.List.{List}
use mathlib.Core.Logic.{⊎_elim}
use Prim.Native.Nat.{ℕ, zero, suc, ◌+◌, ◌-◌, ◌≤◌}
use native.Mathlib.Omega.{arith}
use native.Mathlib.Nat.{add-zero, add-suc, add_assoc}
use lib.Dec.{eqb}
use lib.ListN.{length, get_or, take, drop}
use borrow.Author.Tests.{ne_eqb}
use Rattle.plane.specs.Search.{some_below, count_below}
use Rattle.plane.proofs.Search.{or_no, count_most, count_same}
use Rattle.std.proofs.lemmas.Bool.{cases_Bool, or_right}
use Rattle.std.specs.Int.{from_bool}
use Rattle.plane.specs.Plane.{bit}
use Rattle.plane.specs.Mask.{is_on}
use Rattle.plane.proofs.Plane.{from_bool-bit}
use Rattle.plane.proofs.Mask.{off_byte}
use Rattle.counts.proofs.Counting.{count-more}
use Rattle.counts.proofs.Put.{part_at, part_length}
use Rattle.next_pass.specs.NextPass.{newly_on}

-- whether a pixel is on in the second mask and off in the first
abbrev pub new : List ℕ → List ℕ → ℕ → Bool
new before after i = is_on after i && not (is_on before i)

-- one pixel more
pub new_more : (before after : List ℕ) (i : ℕ) {n b : ℕ} → n ≡ count_below i (new before after)
    → b ≡ from_bool (is_on after i && eqb (get_or before i 0) 0) → n + b ≡ count_below (i + 1) (new before after)
new_more before after i {n} {b} e f =
    let one : b ≡ bit (new before after i) = f ∙ from_bool-bit _ ∙ ap (λ (t : Bool). bit (is_on after i && t)) (off_byte before i) in
    rw (e, one) (sym (count-more i (new before after)))

-- a count is 0 exactly where nothing is found
pub count-zero : (p : ℕ → Bool) (n : ℕ) → eqb (count_below n p) 0 ≡ not (some_below n p)
unfolding count_below some_below
count-zero p zero = refl
count-zero p (suc n) =
    ⊎_elim {C = eqb (count_below n p + cond (p n) 1 0) 0 ≡ not (some_below n p || p n)}
    (λ (a : p n ≡ true). rw (a, ne_eqb (count_below n p + 1) 0 (λ z. absurd (omega arith)), or_right (some_below n p) true refl))
    (λ (a : p n ≡ false). rw (a, or_no, add-zero) (count-zero p n))
    (cases_Bool (p n))

-- a count up to m, and one of the n numbers from there on
count-then : (p : ℕ → Bool) (m n : ℕ) → count_below m p + count_below n (λ (i : ℕ). p (m + i)) ≡ count_below (m + n) p
unfolding count_below
count-then p m zero = rw (add-zero, add-zero)
count-then p m (suc n) = rw (add-suc, sym (count-then p m n)) (sym (add_assoc _ _ _))

-- pixels that are newly on: k of them up to m, and l of them in the part from there up to e
pub newly-then : (before after : List ℕ) (m e : ℕ) {k l : ℕ} → m ≤ e → e ≤ length before → k ≡ newly_on m before after
    → (let b = take (e - m) (drop m before) in l ≡ newly_on (length b) b (take (e - m) (drop m after)) → k + l ≡ newly_on e before after)
unfolding newly_on is_on
newly-then before after m e le most p q =
    rw (p, q, part_length before m (e - m) (omega arith), parts)
    (count-then (new before after) m (e - m) ∙ (let z : m + (e - m) ≡ e = omega arith in rw z))
  where
    parts : count_below (e - m) (new (take (e - m) (drop m before)) (take (e - m) (drop m after)))
        ≡ count_below (e - m) (λ (i : ℕ). new before after (m + i))
    parts = count_same _ _ (e - m) (λ i h. rw (part_at before m (e - m) i h, part_at after m (e - m) i h))

-- and they are at most n
pub newly-most : (n : ℕ) (before after : List ℕ) → newly_on n before after ≤ n
unfolding newly_on
newly-most n before after = count_most (new before after) n
