-- Pieces of text written one after the other.
-- Assumes nothing.
use mathlib.Core.Path.{◌≡◌, refl, sym, ap, ◌∙◌}
use mathlib.Core.List.{List, [], ◌∷◌, ◌++◌, append_assoc}
use Prim.Native.Nat.{ℕ, suc, ◌+◌, ◌≤◌}
use native.Mathlib.Nat.{add-zero}
use native.Mathlib.Omega.{arith}
use lib.ListN.{length, take, drop, set, length-append}
use lib.Seq.{sets, sets-eq, length-sets, drop-drop}
use borrow.Rule.Slice.PartMut.{put_mid}
use Rattle.text.specs.declared.Page.{Page}
use Rattle.text.specs.steps.Writing.{Wrote, Writes}

sets-append : (l : List ℕ) (i : ℕ) (p q : List ℕ) → sets l i (p ++ q) ≡ sets (sets l i p) (i + length p) q
sets-append l i [] q = ap (λ (k : ℕ). sets l k q) (sym (add-zero i))
sets-append l i (a ∷ p) q =
    let e : suc i + length p ≡ i + suc (length p) = omega arith in
    sets-append (set l i a) (suc i) p q ∙ ap (λ (k : ℕ). sets (sets (set l i a) (suc i) p) k q) e

pub wrote_none : {old : List ℕ} {at : ℕ} → Wrote [] old old at at
wrote_none = record { end_is = omega arith; bytes_are = refl }

pub wrote-more : {p q a b c : List ℕ} {i j k : ℕ} → Wrote p a b i j → Wrote q b c j k → Wrote (p ++ q) a c i k
wrote-more {p} {q} {a} {b} {c} {i} {j} {k} x y =
    record {
      end_is = omega (arith, x.end_is, y.end_is, length-append p q);
      bytes_are =
          y.bytes_are
          ∙ ap (λ (l : List ℕ). sets l j q) x.bytes_are
          ∙ ap (λ (n : ℕ). sets (sets a i p) n q) x.end_is
          ∙ sym (sets-append a i p q);
    }

pub wrote_as : {p q a b : List ℕ} {i j : ℕ} → p ≡ q → Wrote p a b i j → Wrote q a b i j
wrote_as e x = rw e at x

wrote-long : {p a b : List ℕ} {i j : ℕ} → Wrote p a b i j → length b ≡ length a
wrote-long {p} {a} {b} {i} {j} x = ap length x.bytes_are ∙ length-sets a i p

-- pieces on a page
pub writes : {p : List ℕ} {a b : Page} → b.out.ghost_name ≡ a.out.ghost_name → Wrote p a.out.now b.out.now a.at b.at → Writes p a b
writes e x = record { same_buffer = e; same_length = wrote-long x; wrote = x }

pub writes_none : {page : Page} → Writes [] page page
writes_none = record { same_buffer = refl; same_length = refl; wrote = wrote_none }

pub writes-more : {p q : List ℕ} {a b c : Page} → Writes p a b → Writes q b c → Writes (p ++ q) a c
writes-more x y =
    record {
      same_buffer = y.same_buffer ∙ x.same_buffer;
      same_length = y.same_length ∙ x.same_length;
      wrote = wrote-more x.wrote y.wrote;
    }

pub writes_as : {p q : List ℕ} {a b : Page} → p ≡ q → Writes p a b → Writes q a b
writes_as e x = rw e at x

-- a text copied over a part of the buffer
pub part-sets : (old text : List ℕ) (at k : ℕ) → k ≡ length text → at + k ≤ length old → put_mid at k old text ≡ sets old at text
part-sets old text at k e l =
    let h : at + length text ≤ length old = omega arith in
    ap (λ (q : List ℕ). take at old ++ (text ++ q)) (drop-drop k at old ∙ ap (λ (m : ℕ). drop (at + m) old) e)
    ∙ sym (append_assoc (take at old) text (drop (at + length text) old))
    ∙ sym (sets-eq text old at h)
