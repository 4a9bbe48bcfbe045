-- Parts of a list: their elements, and a list of which a part was replaced.
-- Assumes nothing.
use mathlib.Core.Path.{◌≡◌, ◌∙◌}
use mathlib.Core.List.{List}
use Rattle.std.proofs.Common.{rules}
use Rattle.std.proofs.lemmas.List.{places}
use borrow.Rule.Slice.PartMut.{put_mid}
use Prim.Native.Nat.{ℕ, ◌+◌, ◌-◌, ◌≤◌, ◌<◌}
use native.Mathlib.Omega.{arith}
use lib.ListN.{length, get_or, take, drop, length-take, length-drop}
use lib.Seq.{get_or-take, get_or-drop}

-- ---- the elements of a part

-- the n elements from a on
abbrev pub part : {A : Type 0} → List A → ℕ → ℕ → List A
part l a n = take n (drop a l)

module _ {A : Type 0} (l : List A) (a n : ℕ) where
  pub part_length : a + n ≤ length l → length (part l a n) ≡ n
  part_length fits = simp (length-take, length-drop) (omega arith)

  pub part_at : (i : ℕ) (d : A) → i < n → get_or (part l a n) i d ≡ get_or l (a + i) d
  part_at i d g = get_or-take n (drop a l) i d g ∙ get_or-drop a l i d

-- ---- a list with ys in the place of the elements from a to e

module _ {A : Type 0} (d : A) (a e : ℕ) (xs ys : List A) (fits : e ≤ length xs) (long : a + length ys ≡ e) where
  pub put_length : length (put_mid a (e - a) xs ys) ≡ length xs
  put_length = search (rules, places)

  pub put_front : (i : ℕ) → i < a → get_or (put_mid a (e - a) xs ys) i d ≡ get_or xs i d
  put_front i g = grind (arith, places)

  pub put_part : (i : ℕ) → i < length ys → get_or (put_mid a (e - a) xs ys) (a + i) d ≡ get_or ys i d
  put_part i g = grind (arith, places)

  pub put_back : (i : ℕ) → e ≤ i → get_or (put_mid a (e - a) xs ys) i d ≡ get_or xs i d
  put_back i g = grind (arith, places)
