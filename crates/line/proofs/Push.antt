-- One place more on the line: what becomes of the stack.
-- Assumes nothing.
use mathlib.Core.Path.{◌≡◌, refl, ap, ◌∙◌, subst}
use mathlib.Core.List.{List}
use mathlib.Core.Logic.{⊎_elim}
use Rattle.std.specs.Prelude.{slice_index}
use Prim.Native.Nat.{ℕ, zero, suc, ◌+◌, ◌-◌, ◌≤◌, ◌<◌}
use native.Mathlib.Nat.{add-zero}
use native.Mathlib.Omega.{arith}
use lib.ListN.{length, get_or, set}
use lib.Seq.{get_or-set_same, get_or-set_other}
use borrow.Author.Count.{below_more}
use Rattle.std.proofs.lemmas.Bool.{cases_lt}
use Rattle.line.specs.steps.Line.{most_cost, Site, value_at}
use Rattle.line.specs.steps.Envelope.{Leads, Stack, Ready, height, Stays, Dropped, takeover_at, Placed, Skips}
use Rattle.line.proofs.Squares.{balance, beats, holds, heights, before, after}

-- ---- who leads

module _ {costs : List ℕ} {u x : ℕ} where
  -- the leader stays where it is as good as place u
  leads_stays : {i : ℕ} → Leads costs u x i → (Site costs u → value_at costs x i ≤ value_at costs x u) → Leads costs (u + 1) x i
  leads_stays {i} h p = record {
    inside = omega (arith, h.inside);
    site = h.site;
    least = below_more (λ (j : ℕ). Site costs j → value_at costs x i ≤ value_at costs x j) u h.least p;
    first = h.first;
  }

  -- and up to place v, where none of those between has a site
  leads-far : {v i : ℕ} → u ≤ v → ((j : ℕ) → u ≤ j → j < v → Site costs j → ⊥) → Leads costs u x i → Leads costs v x i
  leads-far l none h = record {
    inside = omega (arith, h.inside);
    site = h.site;
    least = λ j g k. ⊎_elim (λ (a : j < u). h.least j a k) (λ (a : u ≤ j). absurd (none j a g k)) (cases_lt j u);
    first = h.first;
  }

  -- place u leads where each site before it is strictly worse
  leads-new : Site costs u → ((j : ℕ) → j < u → Site costs j → value_at costs x u < value_at costs x j) → Leads costs (u + 1) x u
  leads-new s all = record {
    inside = omega arith;
    site = s;
    least =
        below_more (λ (j : ℕ). Site costs j → value_at costs x u ≤ value_at costs x j) u
        (λ j g k. (let z = all j g k in omega arith)) (λ k. omega arith);
    first = all;
  }

  -- so it does where it beats the leader at x or somewhere to the left of x
  leads-takes : {y i : ℕ} → Site costs u → y ≤ x → Leads costs u y i → value_at costs y u < value_at costs y i → Leads costs (u + 1) x u
  leads-takes {y} s l h b = leads-new s (λ j g k. beats costs j u y x (omega arith) l (let z = h.least j g k in omega arith))

-- ---- the stack

-- site q is as good as u at its own start
abbrev Even : List ℕ → (ℕ → ℕ) → (ℕ → ℕ) → ℕ → ℕ → Type 0
Even costs s t u q = value_at costs (t q) (s q) ≤ value_at costs (t q) u

-- each of the k sites leads from its start up to the next start, and the last one up to w
abbrev Lead-to : List ℕ → (ℕ → ℕ) → (ℕ → ℕ) → ℕ → ℕ → ℕ → Type 0
Lead-to costs s t u k w =
    (q : ℕ) → q < k → (x : ℕ) → t q ≤ x → x < length costs → (q + 1 < k → x < t (q + 1)) → (q + 1 ≡ k → x < w) → Leads costs u x (s q)

module _ {costs : List ℕ} {s t : ℕ → ℕ} {u count : ℕ} (st : Stack costs s t u count) where
  -- the starts rise
  rising : (d q : ℕ) → q + d < count → t q ≤ t (q + d)
  rising zero q h = rw (add-zero q) (omega arith)
  rising (suc d) q h =
      let a = rising d q (omega arith) in
      let b = st.rises (q + d) (omega arith) in
      let e : t (q + suc d) ≡ t (q + d + 1) = ap t (omega arith) in
      omega arith

  rises-to : (q p : ℕ) → q ≤ p → p < count → t q ≤ t p
  rises-to q p l h =
      let a = rising (p - q) q (omega arith) in
      let e : t (q + (p - q)) ≡ t p = ap t (omega arith) in
      omega arith

  -- a stacked site leads at its own start
  pub at-start : (q : ℕ) → q < count → Leads costs u (t q) (s q)
  at-start q h = st.leads q h (t q) (omega arith) (st.inside q h) (st.rises q)

  -- places with no site change nothing
  skipped : (v : ℕ) → u ≤ v → ((j : ℕ) → u ≤ j → j < v → Site costs j → ⊥) → Stack costs s t v count
  skipped v l none = record {
    small = omega (arith, st.small);
    empty = λ e j g k. ⊎_elim (λ (a : j < u). st.empty e j a k) (λ (a : u ≤ j). none j a g k) (cases_lt j u);
    start = st.start;
    inside = st.inside;
    rises = st.rises;
    leads = λ q h x a b m. leads-far l none (st.leads q h x a b m);
  }

  module _ (site : Site costs u) {r : ℕ} (d : Dropped (Even costs s t u) count r) where
    worse : (q : ℕ) → r ≤ q → q < count → value_at costs (t q) u < value_at costs (t q) (s q)
    worse q a b =
        ⊎_elim (λ (l : value_at costs (t q) u < value_at costs (t q) (s q)). l) (λ (l : Even costs s t u q). absurd (d.worse q a b l))
        (cases_lt (value_at costs (t q) u) (value_at costs (t q) (s q)))

    -- u beats every stacked site: it leads everywhere
    alone : r ≡ 0 → (x : ℕ) → x < length costs → Leads costs (u + 1) x u
    alone e x l =
        ⊎_elim
        (λ (h : 0 < count). leads-takes site (let z = st.start h in omega arith) (at-start 0 h) (worse 0 (omega arith) h))
        (λ (h : count ≤ 0). leads-new site (λ j g k. absurd (st.empty (omega arith) j g k)))
        (cases_lt 0 count)

  -- p is the top that stays, and w where u takes over from it
  module _ (site : Site costs u) (p : ℕ) (d : Dropped (Even costs s t u) count (p + 1)) where
    abbrev w : ℕ
    w = takeover_at costs (s p) u

    low : p < count
    low = omega (arith, d.fewer)

    left : s p < u
    left = (at-start p low).inside

    even : Even costs s t u p
    even = d.better p refl

    no-higher : height costs (s p) ≤ height costs u
    no-higher = heights costs (s p) u (t p) (let z = left in omega arith) even

    -- it takes over later than p itself does, and no later than the first that went
    later : t p < w
    later =
        ⊎_elim (λ (h : t p < w). h) (λ (h : w ≤ t p). (let z = after costs (s p) u (t p) left h in let y = even in absurd (omega arith)))
        (cases_lt (t p) w)

    no-later : p + 1 < count → w ≤ t (p + 1)
    no-later g =
        let a = worse site d (p + 1) (omega arith) g in
        let b = (at-start (p + 1) g).least (s p) left (at-start p low).site in
        ⊎_elim
        (λ (h : t (p + 1) < w). (let z = before costs (s p) u (t (p + 1)) left no-higher h in absurd (omega arith)))
        (λ (h : w ≤ t (p + 1)). h)
        (cases_lt (t (p + 1)) w)

    -- the segments that stay: the top leads up to the takeover
    segment : Lead-to costs s t (u + 1) (p + 1) w
    segment q h x a b l g =
        ⊎_elim
        (λ (z : q < p).
        let m = l (omega arith) in
        let old = st.leads q (omega (arith, d.fewer)) x a b (λ y. m) in
        let near = rises-to (q + 1) p (omega arith) low in
        let i-left = left in
        let i-even = holds costs (s p) u x (t p) (omega arith) (omega arith) even in
        let best = old.least (s p) left (at-start p low).site in
        leads_stays old (λ y. omega arith))
        (λ (z : p ≤ q).
        let e : p ≡ q = omega arith in
        let m = g (omega arith) in
        let even-here : Site costs u → value_at costs x (s p) ≤ value_at costs x u = λ y. before costs (s p) u x left no-higher m in
        subst (λ (y : ℕ). t y ≤ x → Leads costs (u + 1) x (s y)) e
        (λ c. leads_stays (st.leads p low x c b (λ y. (let n = no-later y in omega arith))) even-here) a)
        (cases_lt q p)

    -- from the takeover on u leads
    new-leads : (x : ℕ) → w ≤ x → x < length costs → Leads costs (u + 1) x u
    new-leads x a b =
        let from-top : (p + 1 < count → w < t (p + 1)) → Leads costs (u + 1) x u = λ g.
        leads-takes site a (st.leads p low w (let z = later in omega arith) (omega arith) g) (after costs (s p) u w left (omega arith)) in
        ⊎_elim
        (λ (g : p + 1 < count).
        ⊎_elim
        (λ (z : w < t (p + 1)). from-top (λ y. z))
        (λ (z : t (p + 1) ≤ w). leads-takes site (omega arith) (at-start (p + 1) g) (worse site d (p + 1) (omega arith) g))
        (cases_lt w (t (p + 1))))
        (λ (g : count ≤ p + 1). from-top (λ y. absurd (omega arith)))
        (cases_lt (p + 1) count)

    -- u is better nowhere on the line
    push-none : length costs ≤ w → Stack costs s t (u + 1) (p + 1)
    push-none b =
        let f = d.fewer in
        let sm = st.small in
        record {
          small = omega arith;
          empty = λ e. absurd (omega arith);
          start = λ h. st.start (omega arith);
          inside = λ q h. st.inside q (omega arith);
          rises = λ q h. st.rises q (omega arith);
          leads = λ q h x a g y. segment q h x a g y (λ e. omega arith);
        }

-- nothing is stacked before the first place
pub nothing_yet : {costs : List ℕ} {s t : ℕ → ℕ} → Stack costs s t 0 0
nothing_yet = record {
  small = omega arith;
  empty = λ e j l. absurd (omega arith);
  start = λ h. absurd (omega arith);
  inside = λ q h. absurd (omega arith);
  rises = λ q h. absurd (omega arith);
  leads = λ q h. absurd (omega arith);
}

-- ---- a site that is stored: u on top of k sites, from w on

module _ (out stack : List ℕ) (k u w : ℕ) (low : k < length out) (room : k < length stack) where
  abbrev s : ℕ → ℕ
  s = slice_index stack

  abbrev t : ℕ → ℕ
  t = slice_index out

  abbrev s' : ℕ → ℕ
  s' = slice_index (set stack k u)

  abbrev t' : ℕ → ℕ
  t' = slice_index (set out k w)

  same-site : (q : ℕ) → q < k → s' q ≡ s q
  same-site q l = get_or-set_other stack k q u 0 (λ z. omega arith)

  same_start : (q : ℕ) → q < k → t' q ≡ t q
  same_start q l = get_or-set_other out k q w 0 (λ z. omega arith)

  new-site : s' k ≡ u
  new-site = get_or-set_same stack k u 0 room

  new-start : t' k ≡ w
  new-start = get_or-set_same out k w 0 low

  module _ {costs : List ℕ} {count : ℕ} (st : Stack costs s t u count) (fits : k ≤ count) (inside : w < length costs)
      (first : k ≡ 0 → w ≡ 0) (rise : (p : ℕ) → k ≡ p + 1 → t p < w) (old : Lead-to costs s t (u + 1) k w)
      (new : (x : ℕ) → w ≤ x → x < length costs → Leads costs (u + 1) x u) where
    starts : t' 0 ≡ 0
    starts =
        ⊎_elim
        (λ (h : 0 < k). same_start 0 h ∙ st.start (omega arith))
        (λ (h : k ≤ 0). (let e : k ≡ 0 = omega arith in subst (λ (m : ℕ). t' m ≡ w) e new-start ∙ first e))
        (cases_lt 0 k)

    rises : (q : ℕ) → q + 1 < k + 1 → t' q < t' (q + 1)
    rises q h =
        let a = same_start q (omega arith) in
        ⊎_elim
        (λ (l : q + 1 < k). (let b = same_start (q + 1) l in let z = st.rises q (omega arith) in omega arith))
        (λ (l : k ≤ q + 1).
        let b : t' (q + 1) ≡ w = ap t' (omega arith) ∙ new-start in
        let z = rise q (omega arith) in
        omega arith)
        (cases_lt (q + 1) k)

    leads : (q : ℕ) → q < k + 1 → (x : ℕ) → t' q ≤ x → x < length costs → (q + 1 < k + 1 → x < t' (q + 1))
        → Leads costs (u + 1) x (s' q)
    leads q h x a b l =
        ⊎_elim
        (λ (g : q < k).
        let m = l (omega arith) in
        let e = same_start q g in
        rw (same-site q g)
        (old q g x (omega arith) b (λ y. (let z = same_start (q + 1) y in omega arith))
        (λ y. (let z : t' (q + 1) ≡ w = ap t' y ∙ new-start in omega arith))))
        (λ (g : k ≤ q).
        let e : k ≡ q = omega arith in
        subst (λ (m : ℕ). t' m ≤ x → Leads costs (u + 1) x (s' m)) e
        (λ c. rw new-site (new x (let z = new-start in omega arith) b)) a)
        (cases_lt q k)

    pushed : Stack costs s' t' (u + 1) (k + 1)
    pushed = record {
      small = omega (arith, st.small);
      empty = λ e. absurd (omega arith);
      start = λ h. starts;
      inside =
          below_more (λ (q : ℕ). t' q < length costs) k
          (λ q h. rw (same_start q h) (st.inside q (omega arith))) (rw new-start inside);
      rises = rises;
      leads = leads;
    }

-- ---- one site more

module _ {out costs stack : List ℕ} {count u : ℕ} (ready : Ready out costs stack count u) where
  pub site_left : (q : ℕ) → q < count → slice_index stack q < u
  site_left q g = (at-start ready.whole q g).inside

  -- what find_spot compares, in terms of values
  compared : (q : ℕ) → q < count
      → (Stays costs (slice_index stack) (slice_index out) u q → Even costs (slice_index stack) (slice_index out) u q)
      × (Even costs (slice_index stack) (slice_index out) u q → Stays costs (slice_index stack) (slice_index out) u q)
  compared q g =
      let left = site_left q g in
      let e = balance costs (slice_index out q) (slice_index stack q) u (omega arith) in
      ((λ h. omega arith), (λ h. omega arith))

  -- u goes on top of the r sites that stay, and leads from w on
  module _ {r w : ℕ} (at : Placed costs (slice_index stack) (slice_index out) count u r w) where
    -- those that go are worse than u at their own start
    d : Dropped (Even costs (slice_index stack) (slice_index out) u) count r
    d =
        let f = at.dropped.fewer in
        record {
          fewer = f;
          worse = λ q a b h. at.dropped.worse q a b ((compared q b).1 h);
          better = λ p e. (compared p (omega arith)).0 (at.dropped.better p e);
        }

    -- there is room for one more
    pub top_in : r < length costs
    top_in = omega (arith, at.dropped.fewer, ready.whole.small, ready.inside)

    -- the top that stays, where there is one
    top : (p : ℕ) → r ≡ p + 1 → Dropped (Even costs (slice_index stack) (slice_index out) u) count (p + 1)
    top p is = rw is at d

    -- w lies behind the start of the top
    rise : (p : ℕ) → r ≡ p + 1 → slice_index out p < w
    rise p is = rw (at.over p is) (later ready.whole ready.cost p (top p is))

    -- those that stay lead up to w
    old : Lead-to costs (slice_index stack) (slice_index out) (u + 1) r w
    old =
        ⊎_elim
        (λ (h : 0 < r).
        let is : r ≡ r - 1 + 1 = omega arith in
        rw (at.over (r - 1) is)
        (subst
        (λ (k : ℕ). Lead-to costs (slice_index stack) (slice_index out) (u + 1) k (takeover_at costs (slice_index stack (r - 1)) u))
        (omega arith) (segment ready.whole ready.cost (r - 1) (top (r - 1) is))))
        (λ (h : r ≤ 0). (λ q g. absurd (omega arith)))
        (cases_lt 0 r)

    -- and from w on u does
    new : (x : ℕ) → w ≤ x → x < length costs → Leads costs (u + 1) x u
    new x a b =
        ⊎_elim
        (λ (h : 0 < r).
        let is : r ≡ r - 1 + 1 = omega arith in
        new-leads ready.whole ready.cost (r - 1) (top (r - 1) is) x (let e = at.over (r - 1) is in omega arith) b)
        (λ (h : r ≤ 0). alone ready.whole ready.cost d (omega arith) x b)
        (cases_lt 0 r)

    -- it leads before the line ends
    pub pushed-over : w < length costs → Stack costs (slice_index (set stack r u)) (slice_index (set out r w)) (u + 1) (r + 1)
    pushed-over l =
        let f = top_in in
        pushed out stack r u w (omega (arith, ready.lent.out_long)) (omega (arith, ready.lent.stack_long)) ready.whole at.dropped.fewer l at.alone
        rise old new

    -- it leads nowhere
    pub pushed-none : length costs ≤ w → Stack costs (slice_index stack) (slice_index out) (u + 1) r
    pushed-none g =
        let f = ready.inside in
        let some : 0 < r =
        ⊎_elim (λ (h : 0 < r). h) (λ (h : r ≤ 0). (let z = at.alone (omega arith) in absurd (omega arith))) (cases_lt 0 r) in
        let is : r ≡ r - 1 + 1 = omega arith in
        subst (λ (k : ℕ). Stack costs (slice_index stack) (slice_index out) (u + 1) k) (omega arith)
        (push-none ready.whole ready.cost (r - 1) (top (r - 1) is) (let z = at.over (r - 1) is in omega arith))

-- places with no site change nothing
pub skipped-to : {costs : List ℕ} {s t : ℕ → ℕ} {u count : ℕ} → Stack costs s t u count → most_cost < get_or costs u 0 → (v : ℕ)
    → Skips costs (u + 1) v → Stack costs s t v count
skipped-to {costs} {s} {t} {u} st g v k =
    skipped st v (omega (arith, k.after))
    (λ j a b h.
    ⊎_elim (λ (l : u < j). (let z = k.none j (omega arith) b in omega arith))
    (λ (l : j ≤ u). (let e : u ≡ j = omega arith in let z = subst (λ (i : ℕ). most_cost < get_or costs i 0) e g in omega arith))
    (cases_lt u j))
