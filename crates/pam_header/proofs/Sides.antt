-- A line that gives a side is a name and a number.
-- Assumes nothing.
use mathlib.Core.Path.{◌≡◌, refl, sym, ap, ◌∙◌}
use mathlib.Core.Bool.{Bool, true, false, ◌&&◌}
use mathlib.Core.List.{List, ◌++◌}
use mathlib.Core.Logic.{⊎_elim}
use Prim.Native.Nat.{ℕ, ◌≤◌}
use native.Mathlib.Omega.{arith}
use lib.ListN.{length, take, drop, length-drop, take-append-drop}
use lib.Dec.{eqb}
use lib.Seq.{drop_at, take_at}
use Rattle.std.specs.Cmp.Lexicographic.{pointwise}
use Rattle.std.proofs.lemmas.Slice.Eq.{bytes_eq-Decides}
use Rattle.plane.proofs.Search.{not-both}
use Rattle.std.proofs.lemmas.Bool.{and_from, and_parts, cases_Bool}
use Rattle.pam_header.specs.Header.{starts_at, is_numeral, is_side}
use Rattle.pam_header.proofs.Comparing.{starts_is, starts-front}
use Rattle.pam_header.proofs.Numbers.{numeral}

module _ (name : List ℕ) where
  -- a name and a number give a side
  pub side-given : (digits : List ℕ) → is_numeral digits ≡ true → is_side name (name ++ digits) ≡ true
  unfolding is_side
  side-given digits e =
      and_from _ _ (starts_is (name ++ digits) name digits 0 refl) (ap is_numeral (drop_at name digits (length name) refl) ∙ e)

  -- a line that gives it is the name and a number
  pub side-line : (line : List ℕ) → is_side name line ≡ true → name ++ drop (length name) line ≡ line
  unfolding is_side
  side-line line t =
      let a = and_parts (starts_at line 0 name) (is_numeral (drop (length name) line)) t in
      let some = (numeral (drop (length name) line) a.1).some in
      let l : length name ≤ length line = omega (arith, some, length-drop (length name) line) in
      ap (λ (x : List ℕ). x ++ drop (length name) line) (sym (starts-front line name a.0 l))
      ∙ take-append-drop (length name) line

  pub side-number : (line : List ℕ) → is_side name line ≡ true → is_numeral (drop (length name) line) ≡ true
  unfolding is_side
  side-number line t = (and_parts (starts_at line 0 name) (is_numeral (drop (length name) line)) t).1

  -- what std says of a line that does not begin with the name, and of one that does
  pub side-not : (line : List ℕ) → pointwise eqb (take (length name) line) name ≡ false → is_side name line ≡ false
  side-not line f =
      ⊎_elim {C = is_side name line ≡ false}
      (λ (t : is_side name line ≡ true).
      let front : take (length name) line ≡ name =
      sym (ap (take (length name)) (side-line line t)) ∙ take_at name (drop (length name) line) (length name) refl in
      not-both _ ((bytes_eq-Decides (take (length name) line) name).1 front) f)
      (λ (t : is_side name line ≡ false). t)
      (cases_Bool (is_side name line))

  pub side-front : (line : List ℕ) → pointwise eqb (take (length name) line) name ≡ true
      → is_side name line ≡ is_numeral (drop (length name) line)
  unfolding is_side
  side-front line f =
      let rest = drop (length name) line in
      let front = (bytes_eq-Decides (take (length name) line) name).0 f in
      let whole : line ≡ name ++ rest = sym (take-append-drop (length name) line) ∙ ap (λ (x : List ℕ). x ++ rest) front in
      ap (λ (t : Bool). t && is_numeral rest) (starts_is line name rest 0 whole)
