-- Laws of lists of which a part is replaced.
-- Assumes nothing.
use Rattle.std.proofs.Common.{◌≡◌, ℕ, ◌+◌, ◌-◌, ◌<◌, ◌≤◌, List, length, get_or, take, drop, ◌∙◌, ⊎_elim, arith}
use borrow.Rule.Slice.PartMut.{put_mid}
use Rattle.std.proofs.Common.{rules}
use Rattle.std.proofs.lemmas.List.{places}
use Rattle.std.proofs.lemmas.Bool.{cases_lt}
use Rattle.counts.proofs.Begun.{Begun}

-- an element of a part, and the length of one
pub part_at : (xs : List ℕ) (s n i : ℕ) → i < n → get_or (take n (drop s xs)) i 0 ≡ get_or xs (s + i) 0
part_at xs s n i l = search (rules, places)

pub part_length : (xs : List ℕ) (s n : ℕ) → s + n ≤ length xs → length (take n (drop s xs)) ≡ n
part_length xs s n l = search (rules, places)

-- a list with ys in the place of m elements from s on: in front of them, in their place, and behind them
module _ (s m : ℕ) (xs ys : List ℕ) (fits : s + m ≤ length xs) (long : length ys ≡ m) where
  abbrev made : List ℕ
  made = put_mid s m xs ys

  pub put-length : length made ≡ length xs
  put-length = search (rules, places)

  pub put_front : (i : ℕ) → i < s → get_or made i 0 ≡ get_or xs i 0
  put_front i g = search (rules, places)

  pub put-part : (i : ℕ) → i < m → get_or made (s + i) 0 ≡ get_or ys i 0
  put-part i g = search (rules, places)

  pub put_back : (i : ℕ) → s + m ≤ i → get_or made i 0 ≡ get_or xs i 0
  put_back i g = search (rules, places)

-- a line that is written up to s, with the right part put there
pub begun-part : {f : ℕ → ℕ} {n s : ℕ} {out : List ℕ} (m : ℕ) (part : List ℕ) → Begun f n out s → s + m ≤ n → length part ≡ m
    → ((i : ℕ) → i < m → get_or part i 0 ≡ f (s + i)) → Begun f n (put_mid s m out part) (s + m)
begun-part {f} {n} {s} {out} m part b l long each =
    let fits : s + m ≤ length out = omega (arith, b.size) in
    record {
      size = put-length s m out part fits long ∙ b.size;
      front =
          λ i g.
          ⊎_elim {C = get_or (put_mid s m out part) i 0 ≡ f i}
          (λ (a : i < s). put_front s m out part fits long i a ∙ b.front i a)
          (λ (a : s ≤ i).
          let q : s + (i - s) ≡ i = omega arith in
          let z = put-part s m out part fits long (i - s) (omega arith) ∙ each (i - s) (omega arith) in
          rw q at z)
          (cases_lt i s);
    }
