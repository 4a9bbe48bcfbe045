-- Laws of counts in two parts: what enters and leaves changes the byte alone, and the byte tells whether the count is 0.
-- Assumes nothing.
use Rattle.std.proofs.Common.{◌≡◌, ℕ, ◌+◌, ◌-◌, ◌%◌, ◌<◌, ◌≤◌, Bool, true, false, not, eqb, ltb, refl, ⊎_elim, arith, lt-ltb, ne_eqb}
use Rattle.std.specs.Int.{from_bool}
use Rattle.std.proofs.lemmas.Bool.{cases_lt}
use Rattle.plane.specs.Plane.{on, bit}
use Rattle.counts.specs.steps.Parts.{full_byte, rest_of, changed, step_of, Split}

-- a byte that nothing moves stays as it is, and one that is moved is below 256
pub not-moved : (v change : ℕ) → v < 256 → changed v false change ≡ v
unfolding changed
not-moved v change l = omega arith

pub moved-small : (v : ℕ) (t : Bool) (change : ℕ) → changed v t change < 256
unfolding changed
moved-small v t change = omega arith

-- what the truth of a pixel adds to a byte, and takes from one
pub changed-add : (v : ℕ) (t : Bool) → (v + from_bool t) % 256 ≡ changed v t 1
unfolding changed
changed-add v true = refl
changed-add v false = refl

pub changed-sub : (v : ℕ) (t : Bool) → (v + (256 - from_bool t)) % 256 ≡ changed v t 255
unfolding changed
changed-sub v true = refl
changed-sub v false = omega arith

pub changed-first : (t : Bool) → from_bool t ≡ changed 0 t 1
unfolding changed
changed-first true = refl
changed-first false = refl

-- a count that is balanced
pub split-new : (n : ℕ) → Split n 0 (full_byte n) (rest_of n)
split-new n = record { sum = omega arith; most = omega arith; least = λ l. omega arith }

module _ {value t low rest : ℕ} (s : Split value t low rest) where
  pub split-later : (u : ℕ) → t ≤ u → Split value u low rest
  split-later u l = record { sum = s.sum; most = omega (arith, s.most); least = λ g. omega (arith, s.least g) }

  -- where the count is not 0, the byte is not
  low-some : t ≤ 127 → 0 < value → 0 < low
  low-some l g =
      ⊎_elim {C = 0 < low} (λ (a : 0 < rest). omega (arith, s.least a)) (λ (a : rest ≤ 0). omega (arith, s.sum)) (cases_lt 0 rest)

  -- the byte tells whether the count is above 0
  pub split-test : t ≤ 127 → on low ≡ ltb 0 value
  unfolding on
  split-test l =
      ⊎_elim {C = not (eqb low 0) ≡ ltb 0 value}
      (λ (a : 0 < value).
      let g = low-some l a in
      rw (ne_eqb low 0 (λ (e : low ≡ 0). absurd (omega arith)), lt-ltb 0 value a) refl)
      (λ (a : value ≤ 0).
      let z : low ≡ 0 = omega (arith, s.sum) in
      let v : value ≡ 0 = omega arith in
      rw (z, v) refl)
      (cases_lt 0 value)

  -- a pixel enters,
  pub split-enter : (e : Bool) → t ≤ 126 → Split (value + bit e) (t + 1) (changed low e 1) rest
  unfolding bit changed
  split-enter true l =
      let z : (low + 1) % 256 ≡ low + 1 = omega (arith, s.most) in
      record {
        sum = omega (arith, s.sum);
        most = omega (arith, s.most);
        least = λ g. omega (arith, s.least g);
      }
  split-enter false l =
      let z : (low + 0) % 256 ≡ low = omega (arith, s.most) in
      record {
        sum = omega (arith, s.sum);
        most = omega (arith, s.most);
        least = λ g. omega (arith, s.least g);
      }

  -- one leaves,
  pub split-leave : (e : Bool) → t ≤ 126 → bit e ≤ value → Split (value - bit e) (t + 1) (changed low e 255) rest
  unfolding bit changed
  split-leave true l g =
      let some = low-some (omega arith) g in
      let z : (low + 255) % 256 ≡ low - 1 = omega (arith, s.most) in
      record {
        sum = omega (arith, s.sum);
        most = omega (arith, s.most);
        least = λ g. omega (arith, s.least g);
      }
  split-leave false l g =
      let z : (low + 0) % 256 ≡ low = omega (arith, s.most) in
      record {
        sum = omega (arith, s.sum);
        most = omega (arith, s.most);
        least = λ g. omega (arith, s.least g);
      }

  -- and both at once
  pub split_step : (e l : Bool) → t ≤ 126 → bit l ≤ value + bit e → Split (value + bit e - bit l) (t + 1) ((low + step_of e l) % 256) rest
  unfolding bit changed
  split_step true true h g =
      let z : (low + 0) % 256 ≡ low = omega (arith, s.most) in
      record { sum = omega (arith, s.sum); most = omega (arith, s.most); least = λ g. omega (arith, s.least g) }
  split_step true false h g =
      let r = split-enter true h in
      record { sum = omega (arith, r.sum); most = r.most; least = r.least }
  split_step false true h g =
      let r = split-leave true h (omega arith) in
      record { sum = omega (arith, r.sum); most = r.most; least = r.least }
  split_step false false h g =
      let z : (low + 0) % 256 ≡ low = omega (arith, s.most) in
      record { sum = omega (arith, s.sum); most = omega (arith, s.most); least = λ g. omega (arith, s.least g) }
