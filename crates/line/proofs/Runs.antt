-- A run of places that ends at places of cost 0, or at the ends of the line: sites beyond it are worse at each of its places.
-- So the line is answered run by run.
-- Assumes nothing.
use mathlib.Core.Path.{◌≡◌, refl, sym, ap, ◌∙◌, subst}
use mathlib.Core.List.{List}
use mathlib.Core.Option.{Option, none, some}
use mathlib.Core.Logic.{◌⊎◌, inl, inr, ⊎_elim}
use Rattle.std.specs.Prelude.{slice_index}
use borrow.Rule.Slice.PartMut.{put_mid}
use Prim.Native.Nat.{ℕ, ◌+◌, ◌-◌, ◌*◌, ◌≤◌, ◌<◌}
use native.Mathlib.Omega.{arith}
use lib.ListN.{length, get_or, set}
use lib.Seq.{get_or-set_same, get_or-set_other}
use borrow.Author.Count.{below_more}
use Rattle.plane.specs.Plane.{apart}
use Rattle.std.proofs.lemmas.Bool.{cases_lt}
use Rattle.line.specs.steps.FirstLeast.{Answers}
use Rattle.line.specs.steps.Line.{most_length, no_place, Site, value_at, offer, best, place_of, line_of}
use Rattle.line.specs.steps.Envelope.{Leads, Stack, Segments, InSegment}
use Rattle.line.specs.steps.Run.{place_from, Ran, Ends, Lone, Done}
use Rattle.line.proofs.Squares.{square-lt, apart-left, apart-right, apart-zero}
use Rattle.line.proofs.Walk.{clash, walk-answers}
use Rattle.line.proofs.Best.{line-is, offer-site, offered, leader, no-leader}
use Rattle.line.proofs.Part.{part, part_length, part_at, put_front, put_part}
use Rattle.line.proofs.Push.{at-start}

apart-shift : (a y i : ℕ) → apart y i ≡ apart (a + y) (a + i)
unfolding apart
apart-shift a y i = omega arith

-- what holds of a + j for each j below k holds from a on up to a + k
shifted : (P : ℕ → Type 0) (a k : ℕ) → ((j : ℕ) → j < k → P (a + j)) → (j : ℕ) → a ≤ j → j < a + k → P j
shifted P a k h j l g = subst P (omega arith) (h (j - a) (omega arith))

module _ (costs : List ℕ) (x : ℕ) where
  answers : Answers (offer costs x) (length costs) (best costs x)
  unfolding best
  answers = walk-answers (offer costs x) (length costs)

  -- what the definition answers leads
  best-leads : (i : ℕ) → best costs x ≡ some i → Leads costs (length costs) x i
  best-leads i e =
      let a : Answers (offer costs x) (length costs) (some i) = rw e at answers in
      let o = offered costs x i a.0 a.1.here in
      let v = o.1 in
      record {
        inside = a.1.inside;
        site = o.0;
        least = λ j l s. (let m = a.1.least j (value_at costs x j) l (offer-site costs x j s) in omega arith);
        first = λ j l s. (let m = a.1.first j (value_at costs x j) l (offer-site costs x j s) in omega arith);
      }

  best_none : best costs x ≡ none → (j : ℕ) → j < length costs → Site costs j → ⊥
  best_none e j l s =
      let a : Answers (offer costs x) (length costs) none = rw e at answers in
      clash (offer costs x j) (value_at costs x j) (a j l) (offer-site costs x j s)

  -- a place of cost 0 beats each site that is farther away
  beyond : (a j : ℕ) → get_or costs a 0 ≡ 0 → apart x a < apart x j → value_at costs x a < value_at costs x j
  unfolding value_at
  beyond a j e l = let s = square-lt l in omega arith

  -- its value, at itself and next to itself
  zero-value : (a d : ℕ) → get_or costs a 0 ≡ 0 → apart x a ≡ d → value_at costs x a ≡ d * d
  unfolding value_at
  zero-value a d e z = rw z (omega arith)

  -- it leads at itself
  own-place : x < length costs → get_or costs x 0 ≡ 0 → best costs x ≡ some x
  own-place l e =
      let z = apart-left x x (omega arith) in
      let v = zero-value x 0 e (omega arith) in
      leader costs x x (record {
        inside = l;
        site = omega arith;
        least = λ j g s. omega arith;
        first = λ j g s. beyond x j e (let f = apart-left x j (omega arith) in omega arith);
      })

  some-value : (j : ℕ) → (get_or costs x 0 ≡ 0 → ⊥) → 1 ≤ value_at costs x j
  unfolding value_at
  some-value j n =
      ⊎_elim
      (λ (p : 0 < apart x j). (let s = square-lt p in omega arith))
      (λ (p : apart x j ≤ 0). (let q = subst (λ (i : ℕ). get_or costs i 0 ≡ 0 → ⊥) (sym (apart-zero x j (omega arith))) n in omega arith))
      (cases_lt 0 (apart x j))

  -- and at the place behind it, where that has a cost
  left-place : 0 < x → x < length costs → get_or costs (x - 1) 0 ≡ 0 → (get_or costs x 0 ≡ 0 → ⊥) → best costs x ≡ some (x - 1)
  left-place p l e n =
      let a = apart-left x (x - 1) (omega arith) in
      let v = zero-value (x - 1) 1 e (omega arith) in
      leader costs x (x - 1) (record {
        inside = omega arith;
        site = omega arith;
        least = λ j g s. (let m = some-value j n in omega arith);
        first = λ j g s. beyond (x - 1) j e (let f = apart-left x j (omega arith) in omega arith);
      })

-- ---- a run from a on, of k places

module _ (costs : List ℕ) (a k : ℕ) (within : a + k ≤ length costs) (left : 0 < a → get_or costs a 0 ≡ 0)
    (right : a + k < length costs → get_or costs (a + k - 1) 0 ≡ 0) where
  abbrev run : List ℕ
  run = part costs a k

  run_length : length run ≡ k
  run_length = part_length costs a k within

  run_value : (y i : ℕ) → i < k → value_at run y i ≡ value_at costs (a + y) (a + i)
  unfolding value_at
  run_value y i l = rw (part_at costs a k i 0 l, apart-shift a y i)

  -- which holds x, the place y of the run
  module _ (y : ℕ) (inside : y < k) where
    abbrev value : ℕ → ℕ
    value = value_at costs (a + y)

    module _ (i : ℕ) (h : Leads run (length run) y i) where
      i-in : i < k
      i-in = let long = run_length in omega (arith, h.inside)

      -- the part's leader among the sites of the run
      among : (j : ℕ) → a ≤ j → j < a + k → Site costs j → value (a + i) ≤ value j
      among =
          shifted (λ (j : ℕ). Site costs j → value (a + i) ≤ value j) a k
          (λ j g s.
          let long = run_length in
          let c = part_at costs a k j 0 g in
          let m = h.least j (omega arith) (omega arith) in
          let v = run_value y i i-in in
          let w = run_value y j g in
          omega arith)

      among_first : (j : ℕ) → a ≤ j → j < a + i → Site costs j → value (a + i) < value j
      among_first =
          shifted (λ (j : ℕ). Site costs j → value (a + i) < value j) a i
          (λ j g s.
          let l = i-in in
          let c = part_at costs a k j 0 (omega arith) in
          let m = h.first j g (omega arith) in
          let v = run_value y i i-in in
          let w = run_value y j (omega arith) in
          omega arith)

      -- a site before the run is worse than the place of cost 0 where the run starts
      before-run : (j : ℕ) → j < a → value (a + i) < value j
      before-run j g =
          let z = left (omega arith) in
          let m = among a (omega arith) (omega arith) (omega arith) in
          let f = apart-left (a + y) j (omega arith) in
          let q = apart-left (a + y) a (omega arith) in
          let b = beyond costs (a + y) a j z (omega arith) in
          omega arith

      -- a site behind it is worse than the place of cost 0 where it ends
      behind-run : (j : ℕ) → a + k ≤ j → j < length costs → value (a + i) < value j
      behind-run j g l =
          let z = right (omega arith) in
          let m = among (a + k - 1) (omega arith) (omega arith) (omega arith) in
          let f = apart-right (a + y) j (omega arith) in
          let q = apart-right (a + y) (a + k - 1) (omega arith) in
          let b = beyond costs (a + y) (a + k - 1) j z (omega arith) in
          omega arith

      -- so it leads in the whole line
      run-leads : Leads costs (length costs) (a + y) (a + i)
      run-leads =
          let c = part_at costs a k i 0 i-in in
          let l = i-in in
          record {
            inside = omega arith;
            site = omega (arith, h.site);
            least = λ j l s.
                ⊎_elim
                (λ (g : j < a). (let m = before-run j g in omega arith))
                (λ (g : a ≤ j).
                ⊎_elim (λ (f : j < a + k). among j g f s) (λ (f : a + k ≤ j). (let m = behind-run j f l in omega arith)) (cases_lt j (a + k)))
                (cases_lt j a);
            first = λ j l s. ⊎_elim (λ (g : j < a). before-run j g) (λ (g : a ≤ j). among_first j g l s) (cases_lt j a);
          }

    -- a run with no site is the whole line
    run_none : ((j : ℕ) → j < length run → Site run j → ⊥) → (j : ℕ) → j < length costs → Site costs j → ⊥
    run_none n j l =
        let long = run_length in
        let off : (i : ℕ) → a ≤ i → i < a + k → Site costs i → ⊥ =
        shifted (λ (i : ℕ). Site costs i → ⊥) a k (λ i g t. n i (omega arith) (let c = part_at costs a k i 0 g in omega arith)) in
        let start =
        ⊎_elim (λ (p : 0 < a). absurd (off a (omega arith) (omega arith) (let z = left p in omega arith))) (λ (p : a ≤ 0). p) (cases_lt 0 a) in
        let end =
        ⊎_elim (λ (p : a + k < length costs). absurd (off (a + k - 1) (omega arith) (omega arith) (let z = right p in omega arith)))
        (λ (p : length costs ≤ a + k). p) (cases_lt (a + k) (length costs)) in
        off j (omega arith) (omega arith)

    run-from : (b : Option ℕ) → best run y ≡ b → place_from a b ≡ place_of (best costs (a + y))
    unfolding place_from place_of
    run-from none e = sym (ap place_of (no-leader costs (run_none (best_none run y e)) (a + y)))
    run-from (some i) e = sym (ap place_of (leader costs (a + y) (a + i) (run-leads i (best-leads run y i e))))

    -- the run's own line pass, moved to the run's start, is the line's
    run-place : place_from a (best run y) ≡ place_of (best costs (a + y))
    run-place = run-from (best run y) refl

-- ---- the stack is there, and its segments are answered

module _ {costs : List ℕ} (out stack : List ℕ) {count : ℕ} (base : ℕ)
    (st : Stack costs (slice_index stack) (slice_index out) (length costs) count) (size : length out ≡ length costs) where
  pub segments : length costs ≤ length stack → length costs ≤ most_length → base ≤ most_length → 0 < count → Segments out stack count base
  segments room short low p =
      let sm = st.small in
      record {
        low = omega arith;
        some_site = p;
        few = omega arith;
        room = omega arith;
        start = st.start p;
        inside = λ q g. (let z = st.inside q g in omega arith);
        rises = st.rises;
        site = λ q g. (let z = (at-start st q g).inside in omega arith);
      }

  in-segment : (x v : ℕ) → x < length costs → InSegment out stack count base x v → v ≡ place_from base (best costs x)
  unfolding place_from
  in-segment x v g s =
      s.site ∙ sym (ap (place_from base) (leader costs x (slice_index stack s.q) (st.leads s.q s.inside x s.from g s.until)))

  pub ran-segments : (new : List ℕ) → ((x : ℕ) → x < length out → InSegment out stack count base x (get_or new x 0)) → Ran new costs base
  ran-segments new s x g = in-segment x (get_or new x 0) g (s x (omega arith))

  -- no site at all
  pub ran-none : (new : List ℕ) → count ≡ 0 → ((x : ℕ) → x < length costs → get_or new x 0 ≡ no_place) → Ran new costs base
  unfolding place_from
  ran-none new z s x g = s x g ∙ sym (ap (place_from base) (no-leader costs (λ j l. st.empty z j l) x))

-- ---- the line, run by run

module _ {costs out : List ℕ} {x : ℕ} (size : length out ≡ length costs) (p : Done costs out x) where
  -- the whole line is answered
  pub all_done : length costs ≤ x → out ≡ line_of costs
  all_done g = line-is costs out size (λ k h. p.answered k (omega arith))

  module _ (l : x < length costs) where
    -- the right answer of x is stored
    stored : (v : ℕ) → v ≡ place_of (best costs x)
        → (x + 1 < length costs → (get_or costs x 0 ≡ 0) ⊎ (get_or costs (x + 1) 0 ≡ 0)) → Done costs (set out x v) (x + 1)
    stored v e b =
        let back : x ≡ x + 1 - 1 = omega arith in
        record {
          within = omega arith;
          answered =
              below_more (λ (k : ℕ). get_or (set out x v) k 0 ≡ place_of (best costs k)) x
              (λ k g. get_or-set_other out x k v 0 (λ q. omega arith) ∙ p.answered k g)
              (get_or-set_same out x v 0 (omega arith) ∙ e);
          bound = λ _ q. subst (λ (m : ℕ). (get_or costs m 0 ≡ 0) ⊎ (get_or costs (x + 1) 0 ≡ 0)) back (b (omega arith));
        }

    -- a place of cost 0 answers itself
    pub own-next : get_or costs x 0 ≡ 0 → Done costs (set out x x) (x + 1)
    unfolding place_of
    own-next z = stored x (sym (ap place_of (own-place costs x l z))) (λ _. inl z)

    module _ (bears : get_or costs x 0 ≡ 0 → ⊥) where
      -- the cost that x has is not 0, so that of the place before it is
      starts : 0 < x → get_or costs (x - 1) 0 ≡ 0
      starts g = ⊎_elim {C = get_or costs (x - 1) 0 ≡ 0} (λ e. e) (λ e. absurd (bears e)) (p.bound g l)

      -- a lone place with a cost has the answer of the place before it
      pub lone-next : Lone costs x → Done costs (set out x (x - 1)) (x + 1)
      unfolding place_of
      lone-next q = stored (x - 1) (sym (ap place_of (left-place costs x q.after l (starts q.after) bears))) (λ _. inr q.bound)

      -- the run from a to e that holds x is answered by its own line pass
      module _ (new : List ℕ) {a e : ℕ} (ends : Ends costs x e) (from : a ≡ x - 1) (long : length new ≡ e - a)
          (ran : Ran new (part costs a (e - a)) a) where
        fits : (a ≤ x) × (x < e) × (e ≤ length costs)
        fits = omega (arith, ends.after, ends.within)

        run-answers : (i : ℕ) → i < e - a → get_or (put_mid a (e - a) out new) (a + i) 0 ≡ place_of (best costs (a + i))
        run-answers i g =
            let f = fits in
            let end : a + (e - a) ≡ e = omega arith in
            put_part 0 a e out new (omega arith) (omega arith) i (omega arith)
            ∙ ran i (let z = part_length costs a (e - a) (omega arith) in omega arith)
            ∙ run-place costs a (e - a) (omega arith) (λ z. rw from (starts (omega arith))) (rw end ends.bound) i g

        pub run-next : Done costs (put_mid a (e - a) out new) e
        run-next =
            let f = fits in
            record {
              within = omega arith;
              answered = λ i g.
                  ⊎_elim
                  (λ (z : i < a). put_front 0 a e out new (omega arith) (omega arith) i z ∙ p.answered i (omega arith))
                  (λ (z : a ≤ i).
                  shifted (λ (m : ℕ). get_or (put_mid a (e - a) out new) m 0 ≡ place_of (best costs m)) a (e - a) run-answers i z
                  (omega arith))
                  (cases_lt i a);
              bound = λ _ q. inl (ends.bound q);
            }
