-- The flood begins at the border, and ends with the ground marked.
-- Assumes nothing.
use Rattle.std.proofs.Common.{◌≡◌, ℕ, ◌-◌, ◌*◌, ◌<◌, ◌≤◌, true, false, not, eqb, List, [], ◌∷◌, length, get_or, sym, refl, ap, ◌∙◌, inl, ⊎_elim, arith, eq-eqb, ne_eqb, eqb-true}
use Rattle.plane.specs.Plane.{on}
use Rattle.plane.specs.steps.Sides.{Sides}
use Rattle.plane.proofs.Search.{not-both}
use Rattle.std.proofs.lemmas.Bool.{cases_lt, or_cases, or_left, or_right}
use Rattle.plane.specs.Mask.{is_on, mask_of}
use Rattle.labels.specs.Labels.{beside, same}
use Rattle.plane.proofs.Mask.{on-inside}
use Rattle.labels.proofs.Joined.{start-on, end_on}
use Rattle.labels.proofs.Steps.{next-in}
use Rattle.outline.specs.Border.{border_list, listed, on_border}
use Rattle.outline.specs.Ground.{ground_from}
use Rattle.outline.proofs.GroundLaws.{ground-is}
use Rattle.flood.specs.steps.Flood.{State, state, visited, visit_if, seeded, spread_from}
use Rattle.flood.specs.steps.Flood.{on_top, popped, spread_top, marked, Spreads, Closed}
use Rattle.flood.proofs.Room.{first-room}
use Rattle.flood.proofs.Flooding.{at, FromBorder, Flooding, visits, not-past, popped-floods, spread-floods}

number-on : (l : List ℕ) (k v : ℕ) → get_or l k 0 ≡ v → 0 < v → is_on l k ≡ true
unfolding is_on on
number-on l k v e p = rw (e, ne_eqb v 0 (λ z. omega arith))

on-number : (l : List ℕ) (k : ℕ) → is_on l k ≡ true → 0 < get_or l k 0
unfolding is_on on
on-number l k t =
    ⊎_elim {C = 0 < get_or l k 0}
    (λ (p : 0 < get_or l k 0). p)
    (λ (p : get_or l k 0 ≤ 0). not-both (not (eqb (get_or l k 0) 0)) t (rw (eq-eqb (get_or l k 0) 0 (omega arith))))
    (cases_lt 0 (get_or l k 0))

module _ (mask : List ℕ) (h w : ℕ) where
  -- pixels of a list are visited
  pub record Seeded (l : List ℕ) (s : State) : Type 0 where
    pub floods : Flooding mask h w (length mask) (seeded l s)
    pub stays : (k : ℕ) → at s k ≡ 2 → at (seeded l s) k ≡ 2
    pub done : (k : ℕ) → listed k l ≡ true → is_on mask k ≡ true → at (seeded l s) k ≡ 2

  seeds : (l : List ℕ) (s : State) → ((k : ℕ) → listed k l ≡ true → is_on mask k ≡ true → FromBorder mask h w k)
      → Flooding mask h w (length mask) s → Seeded l s
  unfolding seeded listed visit_if
  seeds [] s r f = record { floods = f; stays = λ k e. e; done = λ k e o. not-both false e refl }
  seeds (q ∷ l) s r f =
      let v = visits mask h w (length mask) true q s (λ t o. r q (or_left (eqb q q) (listed q l) (eq-eqb q q refl)) o) f in
      let g = seeds l (visited q s) (λ k e o. r k (or_right (eqb k q) (listed k l) e) o) v.floods in
      record {
        floods = g.floods;
        stays = λ k e. g.stays k (v.stays k e);
        done = λ k e o.
            ⊎_elim (λ t. (let z = eqb-true k q t in g.stays k (rw z (v.done refl (rw z at o))))) (λ t. g.done k t o)
            (or_cases (eqb k q) (listed k l) e);
      }

  module _ (sides : Sides h w) (g : Closed mask h w) (stack : List ℕ) (tall : h * w ≤ length stack) where
    none_yet : {R : Type 0} (k : ℕ) → get_or mask k 0 ≡ 2 → R
    none_yet k e = absurd (omega (arith, g.bits k))

    first-floods : Flooding mask h w (length mask) (state 0 stack mask)
    first-floods = record {
      kept = record { room = first-room stack mask h w sides g tall; long = refl };
      lit = λ k e. number-on mask k 1 e (omega arith);
      due = λ k o. inl (omega (arith, g.bits k, on-number mask k o));
      sound = λ k e. none_yet k e;
      stacked = λ e l. absurd (omega arith);
      closed = λ k j e. none_yet k e;
    }

    -- every close pixel of the border is visited
    pub border-seeded : Seeded (border_list h w) (state 0 stack mask)
    border-seeded = seeds (border_list h w) (state 0 stack mask) (λ k e o. (k, unfold on_border in e, same o)) first-floods

  -- ---- while the flood goes on, every close pixel of the border is 2
  pub record Going (s : State) : Type 0 where
    pub floods : Flooding mask h w (length mask) s
    pub began : (k : ℕ) → on_border h w k ≡ true → is_on mask k ≡ true → at s k ≡ 2

  pub first-going : Sides h w → Closed mask h w → (stack : List ℕ) → h * w ≤ length stack → (s : State)
      → s ≡ seeded (border_list h w) (state 0 stack mask) → Going s
  unfolding on_border
  first-going sides g stack tall s e =
      let z = border-seeded sides g stack tall in
      rw e (record { floods = z.floods; began = z.done })

  module _ (sides : Sides h w) (g : Closed mask h w) (s : State) (f : Going s) where
    wide : 0 < w
    wide = omega (arith, sides.some_columns)

    long : length s.plane ≡ h * w
    long = sym f.floods.kept.long ∙ g.output

    -- the pixel on top of the stack is reached
    top_reached : 0 < s.top → FromBorder mask h w (on_top s)
    top_reached t = f.floods.stacked (s.top - 1) (omega arith)

    pub spread-ready : 0 < s.top → Spreads w s
    spread-ready t =
        let l : on_top s < h * w = omega (arith, on-inside mask (on_top s) (end_on (top_reached t).2), g.output) in
        record {
          room = f.floods.kept.room;
          some = t;
          wide = wide;
          narrow = sides.wide;
          inside = omega (arith, long);
          row = λ x. omega (arith, next-in w wide h (on_top s) l (omega arith), long);
        }

    pub spread-going : {t : State} → 0 < s.top → t ≡ spread_top w s → Going t
    spread-going {t} l e =
        let e' : t ≡ spread_from w (length mask) (on_top s) (popped s) = rw f.floods.kept.long e in
        let z = spread-floods mask h w (on_top s) (popped s) wide (top_reached l) (popped-floods mask h w s l f.floods) in
        rw e' (record { floods = z.0; began = λ k b o. z.1 k (f.began k b o) })

    -- ---- and in the end 2 is the ground
    module _ (empty : s.top ≡ 0) where
      passes : (a b : ℕ) → at s a ≡ 2 → beside w a b ≡ true → is_on mask b ≡ true → at s b ≡ 2
      passes a b l d o =
          ⊎_elim (λ z. z)
          (⊎_elim (λ y. absurd (not-past mask h w s f.floods.kept a y l)) (λ y. absurd (omega (arith, y.1))))
          (f.floods.closed a b l d o)

      pub ground-marked : marked s.plane ≡ ground_from mask h w
      unfolding marked mask_of
      ground-marked =
          ap (λ (n : ℕ). mask_of n (λ (i : ℕ). eqb (at s i) 2)) long
          ∙ ground-is mask h w g.output (λ (i : ℕ). eqb (at s i) 2)
          (λ i l e. (
          let r = f.floods.sound i (eqb-true (at s i) 2 e) in
          (r.0, omega (arith, on-inside mask r.0 (start-on r.2), g.output), r.1, r.2)))
          (λ i l b o. eq-eqb (at s i) 2 (f.began i b o))
          (λ i j e b o. eq-eqb (at s j) 2 (passes i j (eqb-true (at s i) 2 e) b o))
