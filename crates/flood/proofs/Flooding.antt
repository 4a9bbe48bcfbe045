-- What holds while the flood goes on: every pixel that is 2 is reached from the border, and it passes 2 on unless it is on the stack.
-- Assumes nothing.
use Rattle.std.proofs.Common.{◌≡◌, ℕ, ◌+◌, ◌-◌, ◌%◌, ◌<◌, ◌≤◌, Bool, true, false, eqb, ltb, leb, ◌⊎◌, List, length, get_or, set, sym, refl, ap, ◌∙◌, inl, inr, ⊎_elim, arith, length-set, get_or-set_other, get_or-set_same, ltb-true, lt-ltb, eqb-true, le-leb, leb-true}
use lib.ListN.{get_or-eq_default}
use borrow.Author.Tests.{eqb-false}
use Rattle.std.specs.Bool.{then_some}
use Rattle.plane.proofs.Search.{not-both}
use Rattle.std.proofs.lemmas.Bool.{cases_Bool, cases_lt}
use Rattle.plane.specs.Mask.{is_on}
use Rattle.labels.specs.Labels.{beside, Joined, onward}
use Rattle.plane.proofs.Mask.{on-inside}
use Rattle.labels.proofs.Joined.{end_on}
use Rattle.labels.proofs.Steps.{beside-above, beside-below, beside-left, beside-right, beside-sides}
use Rattle.outline.specs.Border.{on_border}
use Rattle.flood.specs.steps.Flood.{State, pushed, visited, visit_if, spread_from, on_top, popped}
use Rattle.flood.proofs.Room.{Kept, room_for, pushed_room, popped-room}

-- what pixel k holds
abbrev pub at : State → ℕ → ℕ
at s k = get_or s.plane k 0

-- pixel k is on the stack
abbrev pub OnStack : State → ℕ → Type 0
OnStack s k = (e : ℕ) × (e < s.top) × (get_or s.stack e 0 ≡ k)

-- pixel k is joined to a border pixel
abbrev pub FromBorder : List ℕ → ℕ → ℕ → ℕ → Type 0
FromBorder mask h w k = (j : ℕ) × (on_border h w j ≡ true) × Joined mask w j k

-- after a store at i
set_cases : (l : List ℕ) (i k v : ℕ) → i < length l → ((k ≡ i) × (get_or (set l i v) k 0 ≡ v)) ⊎ (get_or (set l i v) k 0 ≡ get_or l k 0)
set_cases l i k v h =
    ⊎_elim {C = ((k ≡ i) × (get_or (set l i v) k 0 ≡ v)) ⊎ (get_or (set l i v) k 0 ≡ get_or l k 0)}
    (λ (e : eqb k i ≡ true). (let q = eqb-true k i e in inl (q, rw q (get_or-set_same l i v 0 h))))
    (λ (e : eqb k i ≡ false). inr (get_or-set_other l i k v 0 (eqb-false k i e)))
    (cases_Bool (eqb k i))

-- of the close pixels `mask`, while pixel `hold` is being spread from (none, if it is no pixel)
pub record Flooding (mask : List ℕ) (h w hold : ℕ) (s : State) : Type 0 where
  pub kept : Kept (length mask) s
  pub lit : (k : ℕ) → at s k ≡ 1 → is_on mask k ≡ true
  pub due : (k : ℕ) → is_on mask k ≡ true → (at s k ≡ 1) ⊎ (at s k ≡ 2)
  pub sound : (k : ℕ) → at s k ≡ 2 → FromBorder mask h w k
  pub stacked : (e : ℕ) → e < s.top → FromBorder mask h w (get_or s.stack e 0)
  pub closed : (k j : ℕ) → at s k ≡ 2 → beside w k j ≡ true → is_on mask j ≡ true → (at s j ≡ 2) ⊎ ((k ≡ hold) ⊎ OnStack s k)

module _ (mask : List ℕ) (h w : ℕ) where
  abbrev Reach : ℕ → Type 0
  Reach k = FromBorder mask h w k

  further : (p q : ℕ) → Reach p → beside w p q ≡ true → is_on mask q ≡ true → Reach q
  further p q r b o = (r.0, r.1, onward r.2 b o)

  reach-inside : (p : ℕ) → Reach p → p < length mask
  reach-inside p r = on-inside mask p (end_on r.2)

  -- what a visit to q leaves, where there is such a pixel
  pub record Visits (hold : ℕ) (has : Bool) (q : ℕ) (s t : State) : Type 0 where
    pub floods : Flooding mask h w hold t
    pub stays : (k : ℕ) → at s k ≡ 2 → at t k ≡ 2
    pub done : has ≡ true → is_on mask q ≡ true → at t q ≡ 2

  module _ (hold : ℕ) (s : State) (f : Flooding mask h w hold s) where
    -- a pixel that waits and is reached is pushed
    module _ (q : ℕ) (r : Reach q) (e : at s q ≡ 1) where
      q-in : q < length s.plane
      q-in = omega (arith, reach-inside q r, f.kept.long)

      t-in : s.top < length s.stack
      t-in = room_for s q f.kept.room q-in e

      new : (k : ℕ) → ((k ≡ q) × (at (pushed q s) k ≡ 2)) ⊎ (at (pushed q s) k ≡ at s k)
      unfolding pushed
      new k = set_cases s.plane q k 2 q-in

      pushed-stays : (k : ℕ) → at s k ≡ 2 → at (pushed q s) k ≡ 2
      pushed-stays k l = ⊎_elim (λ z. z.1) (λ z. z ∙ l) (new k)

      pushed-stacked : (k : ℕ) → k < (pushed q s).top → Reach (get_or (pushed q s).stack k 0)
      unfolding pushed
      pushed-stacked k l =
          ⊎_elim
          (λ (m : k < s.top). rw (get_or-set_other s.stack s.top k q 0 (λ z. omega arith)) (f.stacked k m))
          (λ (m : s.top ≤ k). (let y : k ≡ s.top = omega arith in rw (y, get_or-set_same s.stack s.top q 0 t-in) r))
          (cases_lt k s.top)

      still-on : (k : ℕ) → OnStack s k → OnStack (pushed q s) k
      unfolding pushed
      still-on k o = (o.0, omega (arith, o.1), get_or-set_other s.stack s.top o.0 q 0 (λ z. omega (arith, o.1)) ∙ o.2)

      now_on : OnStack (pushed q s) q
      unfolding pushed
      now_on = (s.top, omega arith, get_or-set_same s.stack s.top q 0 t-in)

      pushed_long : length s.plane ≡ length (pushed q s).plane
      unfolding pushed
      pushed_long = sym (length-set s.plane q 2)

      pushed-floods : Flooding mask h w hold (pushed q s)
      pushed-floods = record {
        kept = record { room = pushed_room s q f.kept.room q-in e; long = f.kept.long ∙ pushed_long };
        lit = λ k u. ⊎_elim (λ z. absurd (omega (arith, z.1))) (λ z. f.lit k (sym z ∙ u)) (new k);
        due = λ k o. ⊎_elim (λ z. inr z.1) (λ z. rw z (f.due k o)) (new k);
        sound = λ k u. ⊎_elim (λ z. rw z.0 r) (λ z. f.sound k (sym z ∙ u)) (new k);
        stacked = pushed-stacked;
        closed = λ k j l b o.
            ⊎_elim (λ z. inr (inr (rw z.0 now_on)))
            (λ z.
            ⊎_elim (λ y. inl (pushed-stays j y)) (λ y. inr (⊎_elim (λ x. inl x) (λ x. inr (still-on k x)) y))
            (f.closed k j (sym z ∙ l) b o))
            (new k);
      }

    -- a visit to q, which is reached if it is close
    module _ (q : ℕ) (r : is_on mask q ≡ true → Reach q) where
      onto : at s q ≡ 1 → Reach q
      onto e = r (f.lit q e)

      visited-floods : Visits hold true q s (visited q s)
      unfolding visited
      visited-floods =
          ⊎_elim
          (λ (t : eqb (at s q) 1 ≡ true). (
          let e = eqb-true (at s q) 1 t in
          rw t (record {
            floods = pushed-floods q (onto e) e;
            stays = pushed-stays q (onto e) e;
            done = λ z o. unfold pushed in get_or-set_same s.plane q 2 0 (q-in q (onto e) e);
          })))
          (λ (t : eqb (at s q) 1 ≡ false).
          rw t (record {
            floods = f;
            stays = λ k l. l;
            done = λ z o. ⊎_elim (λ e. absurd (eqb-false (at s q) 1 t e)) (λ e. e) (f.due q o);
          }))
          (cases_Bool (eqb (at s q) 1))

  -- the same where the plane may have no such pixel
  pub visits : (hold : ℕ) (has : Bool) (q : ℕ) (s : State) → (has ≡ true → is_on mask q ≡ true → Reach q)
      → Flooding mask h w hold s → Visits hold has q s (visit_if (then_some has q) s)
  unfolding visit_if
  visits hold true q s r f = visited-floods hold s f q (r refl)
  visits hold false q s r f = record { floods = f; stays = λ k l. l; done = λ z. not-both false z refl }

  -- past the end there is no 2, so no such pixel is held
  pub not-past : (s : State) → Kept (length mask) s → (k : ℕ) → k ≡ length mask → at s k ≡ 2 → ⊥
  not-past s k x e l = let z = get_or-eq_default s.plane 0 {n = x} (omega (arith, k.long)) in omega arith

  -- the top of the stack is taken off and held
  pub popped-floods : (s : State) → 0 < s.top → Flooding mask h w (length mask) s → Flooding mask h w (on_top s) (popped s)
  popped-floods s l f = record {
    kept = record { room = popped-room f.kept.room; long = f.kept.long };
    lit = f.lit;
    due = f.due;
    sound = f.sound;
    stacked = λ e m. f.stacked e (omega arith);
    closed = λ k j a b o.
        ⊎_elim (λ z. inl z)
        (λ z.
        ⊎_elim (λ y. absurd (not-past s f.kept k y a))
        (λ y.
        ⊎_elim
        (λ (x : y.0 < s.top - 1). inr (inr (y.0, x, y.2)))
        (λ (x : s.top - 1 ≤ y.0). (
        let v : y.0 ≡ s.top - 1 = omega (arith, y.1) in
        inr (inl (sym y.2 ∙ ap (λ (e : ℕ). get_or s.stack e 0) v))))
        (cases_lt y.0 (s.top - 1)))
        z)
        (f.closed k j a b o);
  }

  -- and let go when its close neighbours are 2
  released : (p : ℕ) (s : State) → Flooding mask h w p s
      → ((j : ℕ) → beside w p j ≡ true → is_on mask j ≡ true → at s j ≡ 2) → Flooding mask h w (length mask) s
  released p s f g = record {
    kept = f.kept;
    lit = f.lit;
    due = f.due;
    sound = f.sound;
    stacked = f.stacked;
    closed = λ k j a b o.
        ⊎_elim (λ z. inl z) (λ z. ⊎_elim (λ y. inl (g j (rw y at b) o)) (λ y. inr (inr y)) z) (f.closed k j a b o);
  }

  -- so one spread keeps it, and every 2
  pub spread-floods : (p : ℕ) (s : State) → 0 < w → Reach p → Flooding mask h w p s
      → let t = spread_from w (length mask) p s in Flooding mask h w (length mask) t × ((k : ℕ) → at s k ≡ 2 → at t k ≡ 2)
  unfolding spread_from
  spread-floods p s wide r f =
      let x = p % w in
      let v1 = visits p (leb w p) (p - w) s (λ t. further p (p - w) r (beside-above w wide p (leb-true w p t))) f in
      let v2 = visits p (ltb (p + w) (length mask)) (p + w) _ (λ t. further p (p + w) r (beside-below w wide p)) v1.floods in
      let v3 = visits p (ltb 0 x) (p - 1) _ (λ t. further p (p - 1) r (beside-left w wide p (ltb-true 0 x t))) v2.floods in
      let last : ltb x (w - 1) ≡ true → x + 1 < w = λ t. omega (arith, ltb-true x (w - 1) t) in
      let v4 = visits p (ltb x (w - 1)) (p + 1) _ (λ t. further p (p + 1) r (beside-right w wide p (last t))) v3.floods in (
        released p _ v4.floods
            (λ j b o.
            ⊎_elim (λ z. v4.stays j (v3.stays j (v2.stays j (rw z.1 (v1.done (le-leb w p z.0) (rw z.1 at o))))))
            (⊎_elim
            (λ z. (
            let e : is_on mask (p + w) ≡ true = rw z at o in
            v4.stays j (v3.stays j (rw z (v2.done (lt-ltb (p + w) (length mask) (on-inside mask (p + w) e)) e)))))
            (⊎_elim (λ z. v4.stays j (rw z.1 (v3.done (lt-ltb 0 x z.0) (rw z.1 at o))))
            (λ z. rw z.1 (v4.done (lt-ltb x (w - 1) (omega (arith, z.0))) (rw z.1 at o)))))
            (beside-sides w wide p j b)),
        λ k l. v4.stays k (v3.stays k (v2.stays k (v1.stays k l))),
      )
