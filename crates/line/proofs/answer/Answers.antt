-- `line::answer` meets its contract: the segments are written from the last to the first.
-- Assumes nothing.
use Rattle.std.proofs.Common.{◌≡◌, ℕ, zero, suc, ◌+◌, ◌-◌, ◌≤◌, ◌<◌, List, length, get_or}
use Rattle.std.proofs.Common.{refl, sym, ap, ◌∙◌, ⊎_elim, arith, rules, add-one}
use borrow.Rule.Slice.PartMut.{put_mid}
use Rattle.std.proofs.lemmas.Bool.{cases_lt}
use Rattle.line.specs.steps.Envelope.{Segments, InSegment}
use Rattle.line.proofs.Part.{put_length, put_front, put_part, put_back}
use Rattle.line.proofs.answer.Invariants.{Answered}
use Rattle.line.proofs.answer.Goals as goal

-- the starts rise from 0, so site q does not before place q
own-place : {out stack : List ℕ} {count base : ℕ} → Segments out stack count base → (q : ℕ) → q < count → q ≤ get_or out q 0
own-place p zero l = omega arith
own-place {out} p (suc q) l =
    let z = own-place p q (omega arith) in
    let r = p.rises q (omega arith) in
    let e : get_or out (q + 1) 0 ≡ get_or out (suc q) 0 = ap (λ (i : ℕ). get_or out i 0) (add-one q) in
    omega arith

module _ {old out stack : List ℕ} {count base q end : ℕ} (p : Segments old stack count base) (l : Answered old out stack count base q end)
    (few : q ≤ count) (some_left : 0 < q) where
  -- the segment of the top ends behind its start
  starts : get_or old (q - 1) 0 < end
  starts =
      ⊎_elim
      (λ (h : q < count).
      let z : get_or old (q - 1 + 1) 0 ≡ get_or old q 0 = ap (λ (i : ℕ). get_or old i 0) (omega arith) in
      let r = p.rises (q - 1) (omega arith) in
      let m = l.ends h in
      omega arith)
      (λ (h : count ≤ q). (let m = l.whole (omega arith) in let r = p.inside (q - 1) (omega arith) in omega arith))
      (cases_lt q count)

  -- and no answer stands there yet
  start-kept : get_or out (q - 1) 0 ≡ get_or old (q - 1) 0
  start-kept =
      let o = own-place p (q - 1) (omega arith) in
      let s = starts in
      l.before (q - 1) (omega arith)

  module _ (from v : ℕ) (new : List ℕ) (from_is : from ≡ get_or old (q - 1) 0) (site-is : v ≡ base + get_or stack (q - 1) 0)
      (size : length new ≡ end - from) (filled : (i : ℕ) → i < end - from → get_or new i 0 ≡ v) where
    in_top : (x : ℕ) → from ≤ x → x < end → InSegment old stack count base x (get_or (put_mid from (end - from) out new) x 0)
    in_top x a b =
        let s = l.size in
        let low = l.low in
        let back : from + (x - from) ≡ x = omega arith in
        let until : q - 1 + 1 < count → x < get_or old (q - 1 + 1) 0 = λ y.
        (let e : q - 1 + 1 ≡ q = omega arith in
        let m : get_or old (q - 1 + 1) 0 ≡ end = ap (λ (i : ℕ). get_or old i 0) e ∙ sym (l.ends (omega arith)) in
        omega arith) in
        record {
          q = q - 1;
          inside = omega arith;
          from = omega arith;
          until = until;
          site =
              ap (λ (m : ℕ). get_or (put_mid from (end - from) out new) m 0) (sym back)
              ∙ put_part 0 from end out new (omega arith) (omega arith) (x - from) (omega arith)
              ∙ filled (x - from) (omega arith)
              ∙ site-is;
        }

    next : Answered old (put_mid from (end - from) out new) stack count base (q - 1) from
    next =
        let low = l.low in
        let long = l.size in
        let s = starts in
        let fits : end ≤ length out = omega arith in
        let join : from + length new ≡ end = omega arith in
        record {
          size = put_length 0 from end out new fits join ∙ l.size;
          low = omega arith;
          ends = λ h. from_is;
          whole = λ e. absurd (omega arith);
          answered = λ x g h.
              ⊎_elim (λ (z : x < end). in_top x g z)
              (λ (z : end ≤ x). rw (put_back 0 from end out new fits join x z) (l.answered x z h)) (cases_lt x end);
          before = λ i g. put_front 0 from end out new fits join i g ∙ l.before i (omega arith);
        }

pub slice_bounds-fill-count : goal.slice_bounds-fill-count
slice_bounds-fill-count c =
    let s = starts c.requires c.loop-q.invariant (omega arith) (omega arith) in
    omega (arith, start-kept c.requires c.loop-q.invariant (omega arith) (omega arith))

pub loop-q-preserved : goal.loop-q-preserved
loop-q-preserved c =
    let filled : (i : ℕ) → i < c.loop-q.end - get_or c.loop-q.out (c.loop-q.q - 1) 0
    → get_or c.fill.new.self i 0 ≡ c.args.base + get_or c.args.stack.now (c.loop-q.q - 1) 0 = λ i l. search rules in
    next c.requires c.loop-q.invariant (omega arith) (omega arith) _ _ c.fill.new.self
    (start-kept c.requires c.loop-q.invariant (omega arith) (omega arith)) refl (omega arith) filled

pub slice_bounds-fill-start : goal.slice_bounds-fill-start
slice_bounds-fill-start c =
    let s = starts c.requires c.loop-q.invariant (omega arith) (omega arith) in
    let k = start-kept c.requires c.loop-q.invariant (omega arith) (omega arith) in
    search rules
