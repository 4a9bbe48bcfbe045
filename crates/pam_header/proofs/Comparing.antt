-- What the definitions of a comparison say of a line, and what the comparisons of std say of it.
-- Assumes nothing.
use mathlib.Core.Path.{◌≡◌, refl, sym, ap, ◌∙◌}
use mathlib.Core.Bool.{Bool, true, false, not, ◌&&◌}
use mathlib.Core.List.{List, [], ◌∷◌, ◌++◌, append-nil}
use mathlib.Core.Logic.{⊎_elim}
use Prim.Native.Nat.{ℕ, zero, suc, ◌+◌, ◌≤◌, ◌<◌}
use native.Mathlib.Nat.{zero-add, add-zero}
use native.Mathlib.Omega.{arith}
use lib.Dec.{eqb}
use lib.ListN.{length, get_or, take, drop, get_or-eq_default}
use lib.Seq.{drop-cons, drop-drop, drop_at, get_or-drop, get_or-take, take_all, length-take-le, ext_get_or}
use borrow.Author.Tests.{eq-eqb, ne_eqb, eqb-true, eqb-false, not-true}
use Rattle.std.specs.Str.{bytes_eq}
use Rattle.std.specs.Cmp.Lexicographic.{pointwise}
use Rattle.std.proofs.lemmas.Slice.Eq.{bytes_eq-Decides}
use Rattle.std.proofs.lemmas.Bool.{and_from, and_parts, cases_lt}
use Rattle.pam_header.specs.Header.{starts_at, is_text}

-- ---- what stands at a place

module _ (input : List ℕ) where
  -- the byte at a place is the first of what stands there
  pub byte-first : (at : ℕ) → get_or input at 0 ≡ get_or (drop at input) 0 0
  byte-first at = sym (get_or-drop at input 0 0 ∙ ap (λ (k : ℕ). get_or input k 0) (add-zero at))

  pub drop_more : (at : ℕ) (p q : List ℕ) → drop at input ≡ p ++ q → drop (at + length p) input ≡ q
  drop_more at p q e = sym (drop-drop (length p) at input) ∙ ap (drop (length p)) e ∙ drop_at p q (length p) refl

  pub drop-one : (at b : ℕ) (q : List ℕ) → drop at input ≡ b ∷ q → drop (suc at) input ≡ q
  drop-one at b q e = ap (λ (k : ℕ). drop k input) (let z : suc at ≡ at + 1 = omega arith in z) ∙ drop_more at (b ∷ []) q e

  pub byte-is : (at b : ℕ) (q : List ℕ) → drop at input ≡ b ∷ q → get_or input at 0 ≡ b
  byte-is at b q e = byte-first at ∙ ap (λ (l : List ℕ). get_or l 0 0) e

  pub starts_is : (text rest : List ℕ) (at : ℕ) → drop at input ≡ text ++ rest → starts_at input at text ≡ true
  unfolding starts_at
  starts_is [] rest at e = refl
  starts_is (b ∷ text) rest at e =
      rw (eq-eqb _ _ (byte-is at b (text ++ rest) e)) (starts_is text rest (suc at) (drop-one at b (text ++ rest) e))

-- no byte is 0, which is read past the end
unfoldable pub no_zero : List ℕ → Bool
no_zero [] = true
no_zero (b ∷ l) = not (eqb b 0) && no_zero l

module _ (input : List ℕ) where
  -- past the end there is no byte but 0
  inside : (at b : ℕ) → get_or input at 0 ≡ b → (b ≡ 0 → ⊥) → at < length input
  inside at b e z =
      ⊎_elim {C = at < length input}
      (λ (l : at < length input). l)
      (λ (l : length input ≤ at). absurd (z (sym e ∙ get_or-eq_default input 0 l)))
      (cases_lt at (length input))

  -- a text that stands at a place, and what follows it
  pub starts-split : (text : List ℕ) (at : ℕ) → no_zero text ≡ true → starts_at input at text ≡ true
      → drop at input ≡ text ++ drop (at + length text) input
  unfolding no_zero starts_at
  starts-split [] at t e = ap (λ (k : ℕ). drop k input) (sym (add-zero at))
  starts-split (b ∷ text) at t e =
      let z = and_parts (not (eqb b 0)) (no_zero text) t in
      let a = and_parts (eqb (get_or input at 0) b) (starts_at input (suc at) text) e in
      let i = eqb-true (get_or input at 0) b a.0 in
      let s : suc at + length text ≡ at + suc (length text) = omega arith in
      drop-cons input at 0 (inside at b i (eqb-false b 0 (not-true (eqb b 0) z.0)))
      ∙ ap (λ (q : List ℕ). get_or input at 0 ∷ q) (starts-split text (suc at) z.1 a.1)
      ∙ ap (λ (c : ℕ). c ∷ (text ++ drop (suc at + length text) input)) i
      ∙ ap (λ (k : ℕ). b ∷ (text ++ drop k input)) s

-- ---- a line that is a text, or begins with one

-- every byte of the text stands in the line
starts-bytes : (line text : List ℕ) (at : ℕ) → starts_at line at text ≡ true → (i : ℕ) → i < length text
    → get_or line (at + i) 0 ≡ get_or text i 0
unfolding starts_at
starts-bytes line [] at e i l = absurd (omega arith)
starts-bytes line (b ∷ text) at e zero l =
    ap (λ (k : ℕ). get_or line k 0) (add-zero at)
    ∙ eqb-true (get_or line at 0) b (and_parts (eqb (get_or line at 0) b) (starts_at line (suc at) text) e).0
starts-bytes line (b ∷ text) at e (suc i) l =
    let k : at + suc i ≡ suc at + i = omega arith in
    ap (λ (n : ℕ). get_or line n 0) k
    ∙ starts-bytes line text (suc at) (and_parts (eqb (get_or line at 0) b) (starts_at line (suc at) text) e).1 i (omega arith)

-- a text that begins a line, where the line is as long, is its front
pub starts-front : (line text : List ℕ) → starts_at line 0 text ≡ true → length text ≤ length line → take (length text) line ≡ text
starts-front line text e l =
    let n : length (take (length text) line) ≡ length text = length-take-le (length text) line l in
    ext_get_or 0 (take (length text) line) text n
    (λ i g.
    get_or-take (length text) line i 0 (omega arith)
    ∙ ap (λ (k : ℕ). get_or line k 0) (sym (zero-add i))
    ∙ starts-bytes line text 0 e i (omega arith))

pub text-long : (text line : List ℕ) → is_text text line ≡ true → length line ≡ length text
unfolding is_text
text-long text line t = eqb-true _ _ (and_parts (starts_at line 0 text) (eqb (length line) (length text)) t).1

pub text-is : (text line : List ℕ) → is_text text line ≡ true → line ≡ text
unfolding is_text
text-is text line t =
    let n = text-long text line t in
    sym (take_all (length text) line (omega arith))
    ∙ starts-front line text (and_parts (starts_at line 0 text) (eqb (length line) (length text)) t).0 (omega arith)

-- ---- std's comparisons

-- two tests that follow from each other
same_test : (s t : Bool) → (s ≡ true → t ≡ true) → (t ≡ true → s ≡ true) → s ≡ t
same_test true t f g = sym (f refl)
same_test false true f g = g refl
same_test false false f g = refl

pub text_same : (text line : List ℕ) (r : Bool) → r ≡ bytes_eq line text → r ≡ is_text text line
unfolding is_text
text_same text line r e =
    let same = bytes_eq-Decides line text in
    e
    ∙ same_test (bytes_eq line text) (is_text text line)
    (λ t.
    let l = same.0 t in
    and_from _ _ (starts_is line text [] 0 (l ∙ sym (append-nil text))) (eq-eqb _ _ (ap length l)))
    (λ t. same.1 (text-is text line t))

-- a text of one byte begins a line that has it first
pub first_same : (b : ℕ) (line : List ℕ) → (b ≡ 0 → ⊥) → pointwise eqb (b ∷ []) (take 1 line) ≡ eqb (get_or line 0 0) b
first_same b [] z = sym (ne_eqb 0 b (λ e. z (sym e)))
first_same b (a ∷ line) z =
    same_test (eqb b a && true) (eqb a b)
    (λ t. eq-eqb a b (sym (eqb-true b a (and_parts (eqb b a) true t).0)))
    (λ t. and_from (eqb b a) true (eq-eqb b a (sym (eqb-true a b t))) refl)
