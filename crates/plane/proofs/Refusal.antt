-- Laws of refusals: an accepted call has passed every test, what its answer is, and what a buffer holds afterwards.
-- Assumes nothing.
use mathlib.Core.Path.{◌≡◌, refl, sym}
use mathlib.Core.Bool.{Bool, true, false, cond, ◌&&◌}
use mathlib.Core.List.{List, [], ◌∷◌, ◌++◌}
use Prim.Native.Nat.{ℕ, ◌+◌, ◌*◌, ◌≤◌}
use native.Mathlib.Nat.{mul-le-mul}
use native.Mathlib.Omega.{arith}
use lib.Dec.{leb, eqb}
use borrow.Author.Tests.{leb-true, le-leb, eq-eqb, ne_eqb, eqb-true}
use Rattle.plane.specs.Plane.{most_side}
use Rattle.plane.specs.steps.Sides.{Sides}
use Rattle.std.specs.Prelude.{Result, Ok, Err}
use Rattle.plane.specs.declared.answer.Refusal.{Refusal}
use Rattle.plane.specs.declared.answer.Refusal.TheVariants as refusal
use Rattle.plane.specs.Refusal.{Test, refusal_of, after, sides_ok, room_for, number_of, refusal_by, answer_for, done_for, refusal_of_answer}
use Rattle.plane.proofs.Plane.{area-most}
use Rattle.std.proofs.lemmas.Bool.{and_parts}

-- ---- tests in order

-- no test has the number 0, which means acceptance; of a list that is written out this is computed
abbrev pub numbered : List Test → Bool
numbered [] = true
numbered (t ∷ ts) = leb 1 t.0 && numbered ts

-- every test holds
abbrev pub Passed : List Test → Type 0
Passed [] = Unit
Passed (t ∷ ts) = (t.1 ≡ true) × Passed ts

one-passed : (t : Bool) (n m : ℕ) → leb 1 n ≡ true → cond t m n ≡ 0 → (t ≡ true) × (m ≡ 0)
one-passed true n m p e = (refl, e)
one-passed false n m p e = absurd (omega (arith, leb-true 1 n p))

-- the law of refusals: 0 means that all tests hold
pub passed : (ts : List Test) → numbered ts ≡ true → refusal_of ts ≡ 0 → Passed ts
unfolding refusal_of
passed [] p e = tt
passed (t ∷ ts) p e =
    let q = and_parts (leb 1 t.0) (numbered ts) p in
    let r = one-passed t.1 t.0 (refusal_of ts) q.0 e in
    (r.0, passed ts q.1 r.1)

-- the second of two lists matters only where all tests of the first hold
pub declined-first : (ts us : List Test) → (refusal_of ts ≡ 0 → ⊥) → refusal_of (ts ++ us) ≡ refusal_of ts
unfolding refusal_of
declined-first [] us bad = absurd (bad refl)
declined-first (t ∷ ts) us bad = go t.1 bad (λ n. declined-first ts us n)
  where
    go : (b : Bool) → (cond b (refusal_of ts) t.0 ≡ 0 → ⊥) → ((refusal_of ts ≡ 0 → ⊥) → refusal_of (ts ++ us) ≡ refusal_of ts)
        → cond b (refusal_of (ts ++ us)) t.0 ≡ cond b (refusal_of ts) t.0
    go true n f = f n
    go false n f = refl

pub passed_first : (ts us : List Test) → numbered ts ≡ true → refusal_of ts ≡ 0 → refusal_of (ts ++ us) ≡ refusal_of us
unfolding refusal_of
passed_first [] us p e = refl
passed_first (t ∷ ts) us p e =
    let q = and_parts (leb 1 t.0) (numbered ts) p in
    let r = one-passed t.1 t.0 (refusal_of ts) q.0 e in
    rw r.0 (passed_first ts us q.1 r.1)

-- two tests with one number, one after the other, are one test: that both hold
pub joined : (s t : Bool) (m n : ℕ) → cond s (cond t m n) n ≡ cond (s && t) m n
joined true t m n = refl
joined false t m n = refl

-- ---- answers

-- each refusal is the one that its number names
pub refusal_by-number : (r : Refusal) → refusal_by (number_of r) ≡ r
refusal_by-number refusal.Sides = refl
refusal_by-number refusal.Inputs = refl
refusal_by-number refusal.Outputs = refl
refusal_by-number refusal.Colours = refl
refusal_by-number refusal.Tolerance = refl
refusal_by-number refusal.Alpha = refl
refusal_by-number refusal.Part = refl
refusal_by-number refusal.Header = refl
refusal_by-number refusal.FileLength = refl
refusal_by-number refusal.Pixels = refl
refusal_by-number refusal.CardColour = refl

-- an accepted call answers its value, and a declined one its refusal
pub accepted : {A : Type 0} (n : ℕ) (v : A) → n ≡ 0 → answer_for n v ≡ Ok v
unfolding answer_for
accepted n v e = rw (eq-eqb n 0 e)

pub declined : {A : Type 0} (n : ℕ) (v : A) → (n ≡ 0 → ⊥) → answer_for n v ≡ Err (refusal_by n)
unfolding answer_for
declined n v e = rw (ne_eqb n 0 e)

-- of an answer: where it is a value the call was accepted, and where it is a refusal it was not
pub is-accepted : {A : Type 0} (n : ℕ) (v a : A) → Ok a ≡ answer_for n v → n ≡ 0
unfolding answer_for
is-accepted {A = A} n v a e = split (eqb n 0) refl e
  where
    split : (b : Bool) → eqb n 0 ≡ b → Ok a ≡ cond {A = Result A Refusal} b (Ok v) (Err (refusal_by n)) → n ≡ 0
    split true q f = eqb-true n 0 q
    split false q f = cc

pub is-declined : {A : Type 0} (n : ℕ) (v : A) (r : Refusal) → Err r ≡ answer_for n v → n ≡ 0 → ⊥
is-declined n v r e z = let f = accepted n v z in cc

-- what a call declines that hands its tests to another has the same refusal, whatever the values
pub same-refusal : {A B : Type 0} (n : ℕ) (v : A) (u : B) (r : Refusal) → Err r ≡ answer_for n v → Err r ≡ answer_for n u
same-refusal n v u r e = let d = is-declined n v r e in let f = declined n v d in let g = declined n u d in cc

-- what is declined by the first of two lists of tests is declined by both
pub declined-so : (ts us : List Test) {r : Refusal} → Err r ≡ done_for (refusal_of ts) → Err r ≡ done_for (refusal_of (ts ++ us))
declined-so ts us {r} e = rw (declined-first ts us (is-declined _ _ r e)) e

-- each test has a number that names a refusal; of a list that is written out this is computed
abbrev pub named : List Test → Bool
named [] = true
named (t ∷ ts) = eqb (number_of (refusal_by t.0)) t.0 && named ts

answer-number : {A : Type 0} (n : ℕ) (v : A) → eqb (number_of (refusal_by n)) n ≡ true → refusal_of_answer (answer_for n v) ≡ n
unfolding answer_for
answer-number {A = A} n v e = split n v e (eqb n 0) refl
  where
    split : (n : ℕ) (v : A) → eqb (number_of (refusal_by n)) n ≡ true → (b : Bool) → eqb n 0 ≡ b → refusal_of_answer (answer_for n v) ≡ n
    split n v e true q = rw q (sym (eqb-true n 0 q))
    split n v e false q = rw q (eqb-true (number_of (refusal_by n)) n e)

-- the number of an answer is that of the first test that fails, and 0 where all hold
pub number-of-answer : {A : Type 0} (ts : List Test) (v : A) → named ts ≡ true → refusal_of_answer (answer_for (refusal_of ts) v) ≡ refusal_of ts
unfolding refusal_of answer_for
number-of-answer [] v e = refl
number-of-answer {A = A} (t ∷ ts) v e =
    let p = and_parts (eqb (number_of (refusal_by t.0)) t.0) (named ts) e in
    go t.1 (answer-number t.0 v p.0) (number-of-answer ts v p.1)
  where
    go : (b : Bool) → refusal_of_answer (answer_for t.0 v) ≡ t.0 → refusal_of_answer (answer_for (refusal_of ts) v) ≡ refusal_of ts
        → refusal_of_answer (answer_for (cond b (refusal_of ts) t.0) v) ≡ cond b (refusal_of ts) t.0
    go true f g = g
    go false f g = f

-- no refusal has the number 0, which means acceptance
pub number-some : (r : Refusal) → 1 ≤ number_of r
number-some refusal.Sides = omega arith
number-some refusal.Inputs = omega arith
number-some refusal.Outputs = omega arith
number-some refusal.Colours = omega arith
number-some refusal.Tolerance = omega arith
number-some refusal.Alpha = omega arith
number-some refusal.Part = omega arith
number-some refusal.Header = omega arith
number-some refusal.FileLength = omega arith
number-some refusal.Pixels = omega arith
number-some refusal.CardColour = omega arith

-- an answer without a number is that of an accepted call
pub accepted-number : {A : Type 0} (n : ℕ) (v : A) → refusal_of_answer (answer_for n v) ≡ 0 → n ≡ 0
unfolding answer_for
accepted-number {A = A} n v e = split (eqb n 0) refl e
  where
    split : (b : Bool) → eqb n 0 ≡ b → refusal_of_answer {A = A} (cond b (Ok v) (Err (refusal_by n))) ≡ 0 → n ≡ 0
    split true q f = eqb-true n 0 q
    split false q f = let s = number-some (refusal_by n) in absurd (omega arith)

-- ---- buffers

pub written : {A : Type 0} (n : ℕ) (new old : A) → n ≡ 0 → after n new old ≡ new
unfolding after
written n new old e = rw (eq-eqb n 0 e)

pub kept : {A : Type 0} (n : ℕ) (new old : A) → (n ≡ 0 → ⊥) → after n new old ≡ old
unfolding after
kept n new old e = rw (ne_eqb n 0 e)

-- ---- sides and lengths

-- sides within the limits of the public calls, and within those of the inner functions
pub record Within (h w : ℕ) : Type 0 where
  pub some_rows : 1 ≤ h
  pub some_columns : 1 ≤ w
  pub tall : h ≤ most_side
  pub wide : w ≤ most_side

pub sides-within : (h w : ℕ) → sides_ok h w ≡ true → Within h w
sides-within h w e =
    let a = and_parts (leb 1 h && leb h most_side && leb 1 w) (leb w most_side) e in
    let b = and_parts (leb 1 h && leb h most_side) (leb 1 w) a.0 in
    let c = and_parts (leb 1 h) (leb h most_side) b.0 in
    record {
      some_rows = leb-true 1 h c.0;
      some_columns = leb-true 1 w b.1;
      tall = leb-true h most_side c.1;
      wide = leb-true w most_side a.1;
    }

pub sides-are : (h w : ℕ) → sides_ok h w ≡ true → Sides h w
sides-are h w e =
    let s = sides-within h w e in
    record { some_rows = s.some_rows; some_columns = s.some_columns; tall = omega arith; wide = omega arith }

-- the area of accepted sides fits a usize
pub accepted-area : (h w : ℕ) → sides_ok h w ≡ true → h * w ≤ 4294967296
accepted-area h w e = let s = sides-are h w e in let m = area-most {h = h} {w = w} s.tall s.wide in omega arith

-- sides within the limits are accepted
pub sides-accepted : (h w : ℕ) → 1 ≤ h → h ≤ most_side → 1 ≤ w → w ≤ most_side → sides_ok h w ≡ true
sides-accepted h w a b c d = simp (le-leb 1 h a, le-leb h most_side b, le-leb 1 w c, le-leb w most_side d)

-- a work buffer has room for a plane and three lines
pub three-lines : (h w n : ℕ) → Sides h w → room_for h w ≤ n → h * w + 3 * w ≤ n
three-lines h w n s l = let a : 1 * w ≤ h * w = mul-le-mul {n₁ = 1} {m₁ = w} {n₂ = h} {m₂ = w} s.some_rows (omega arith) in omega arith
