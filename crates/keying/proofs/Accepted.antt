-- What a call's refusal says: of its answer, and, where it is 0, of what was lent.
-- Assumes nothing.
use mathlib.Core.Path.{◌≡◌, refl, sym, ap, ◌∙◌}
use mathlib.Core.Bool.{Bool, true}
use mathlib.Core.List.{List}
use Prim.Native.Nat.{ℕ, ◌*◌, ◌≤◌}
use lib.IntN.{ℤ}
use lib.ListN.{length}
use lib.Ieee.{Float}
use borrow.Author.Tests.{eqb-true, leb-true}
use Rattle.plane.specs.declared.size.Size.{Size}
use Rattle.plane.specs.declared.Box.{Box}
use Rattle.std.specs.Prelude.{Ok, Err}
use Rattle.plane.specs.declared.answer.Refusal.{Refusal}
use Rattle.plane.specs.Refusal.{Test, refusal_of, room_for, done_for}
use Rattle.plane.proofs.Refusal.{passed, passed_first, accepted, is-declined, same-refusal, declined-so, written, kept}
use Rattle.colour.specs.declared.Rgb.{Rgb}
use Rattle.colour.specs.declared.Settings.{Settings}
use Rattle.colour.specs.Colour.{colours_ok}
use Rattle.colour.specs.Settings.{at_least_zero}
use Rattle.card.specs.Card.{Card}
use Rattle.outline.specs.Border.{reference_on}
use Rattle.outline.proofs.CutLaws.{Taken, taken}
use Rattle.outline.specs.Growth.{growth_of}
use Rattle.outline.specs.Cut.{is_keyed, cut_mask, weights_of, crop_of, margin, cut_of}
use Rattle.outline.specs.Calls.{Buffers, refusal_in, HeldIn}
use Rattle.outline.specs.Refusal.{work_tests, ground_lengths, growth_lengths, cut_lengths, picture_tests, cut_contents}
use Rattle.outline.specs.Refusal.{ground_refusal, growth_refusal, cut_refusal}
use Rattle.keying.specs.Calls.{ground_refusal_in, GroundCalled, GrowthBuffers, growth_refusal_in, GrowthCalled, Called}

-- ---- what was lent

pub record GroundOk (colours : List Float) (h w out work : ℕ) : Type 0 where
  pub input : length colours ≡ 3 * (h * w)
  pub output : out ≡ h * w
  pub room : room_for h w ≤ work
  pub range : colours_ok colours ≡ true

pub ground-ok : (size : Size) (colours : List Float) (h w : ℕ) (card : Card) (t : Float) (out work : ℕ) → (size.h ≡ h) × (size.w ≡ w)
    → ground_refusal colours h w card t out work ≡ 0 → GroundOk colours size.h size.w out work
unfolding ground_refusal ground_lengths picture_tests
ground-ok size colours h w card t out work s e =
    let p = passed _ refl e in
    rw (s.0, s.1)
    (record {
      input = eqb-true _ _ p.1.0;
      output = eqb-true _ _ p.1.1.0;
      room = leb-true _ _ p.1.1.1.0;
      range = p.1.1.1.1.1.0;
    })

pub record GrowthOk (colours : List Float) (background : List ℕ) (h w : ℕ) (b : GrowthBuffers) : Type 0 where
  pub colours_long : length colours ≡ 3 * (h * w)
  pub back_long : length background ≡ h * w
  pub out_long : length b.out ≡ h * w
  pub nearest_long : room_for h w ≤ length b.nearest
  pub shallow_long : room_for h w ≤ length b.shallow
  pub deep_long : room_for h w ≤ length b.deep
  pub marks_long : room_for h w ≤ length b.marks

pub growth-lent : (colours : List Float) (background : List ℕ) (h w : ℕ) (reference : Rgb) (b : GrowthBuffers)
    → growth_refusal_in colours background h w reference b ≡ 0 → GrowthOk colours background h w b
unfolding growth_refusal growth_lengths work_tests
growth-lent colours background h w reference b e =
    let p = passed _ refl e in
    record {
      colours_long = eqb-true _ _ p.1.0;
      back_long = eqb-true _ _ p.1.1.0;
      out_long = eqb-true _ _ p.1.1.1.0;
      nearest_long = leb-true _ _ p.1.1.1.1.0;
      shallow_long = leb-true _ _ p.1.1.1.1.1.0;
      deep_long = leb-true _ _ p.1.1.1.1.1.1.0;
      marks_long = leb-true _ _ p.1.1.1.1.1.1.1.0;
    }

-- the same, by the sides that an accepted call goes on with
pub growth-ok : (size : Size) (colours : List Float) (background : List ℕ) (h w : ℕ) (reference : Rgb) (b : GrowthBuffers)
    → (size.h ≡ h) × (size.w ≡ w) → growth_refusal_in colours background h w reference b ≡ 0 → GrowthOk colours background size.h size.w b
growth-ok size colours background h w reference b s e = rw (s.0, s.1) (growth-lent colours background h w reference b e)

-- ---- the tests of ground and cut: the lengths, and where these are accepted, what stands in the buffers on the card that was judged

module _ (colours : List Float) (h w : ℕ) (card : Card) (t : Float) (work out : List ℕ) where
  abbrev ground-lengths : List Test
  ground-lengths = ground_lengths h w (length colours) (length out) (length work)

  pub ground-by-picture : {on : Card} → on ≡ card → refusal_of ground-lengths ≡ 0
      → refusal_of (picture_tests on colours t) ≡ ground_refusal_in colours h w card t work out
  unfolding ground_refusal
  ground-by-picture is e =
      ap (λ (k : Card). refusal_of (picture_tests k colours t)) is
      ∙ sym (passed_first ground-lengths _ (unfold ground_lengths in refl) e)

module _ (colours : List Float) (alpha : List ℕ) (h w : ℕ) (card : Card) (s : Settings) (b : Buffers) where
  abbrev pub cut-lengths : List Test
  cut-lengths =
      cut_lengths h w (length colours) (length alpha) (length b.mask) (length b.weights)
      (length b.nearest) (length b.shallow) (length b.deep) (length b.marks)

  alpha_long : refusal_of cut-lengths ≡ 0 → length alpha ≡ h * w
  unfolding cut_lengths work_tests
  alpha_long e = let p = passed _ refl e in eqb-true _ _ p.1.1.0

  pub cut-by-contents : {on : Card} → on ≡ card → refusal_of cut-lengths ≡ 0
      → refusal_of (cut_contents on colours alpha (length alpha) s) ≡ refusal_in colours alpha h w card s b
  unfolding cut_refusal
  cut-by-contents is e =
      ap (λ (k : Card). refusal_of (cut_contents k colours alpha (length alpha) s)) is
      ∙ ap (λ (n : ℕ). refusal_of (cut_contents card colours alpha n s)) (alpha_long e)
      ∙ sym (passed_first cut-lengths _ (unfold cut_lengths work_tests in refl) e)

-- what an accepted cut was lent, by the sides that it goes on with
pub cut-ok : (size : Size) (colours : List Float) (alpha : List ℕ) (h w : ℕ) (card : Card) (s : Settings) (b : Buffers)
    → (size.h ≡ h) × (size.w ≡ w) → refusal_in colours alpha h w card s b ≡ 0 → Taken colours alpha size.h size.w s b
cut-ok size colours alpha h w card s b e z = rw (e.0, e.1) (taken colours alpha h w card s b z)

-- ---- what a call has done

-- a search of the ground that is declined leaves its buffers as they were
pub ground-refused : (colours : List Float) (h w : ℕ) (card : Card) (t : Float) (work out : List ℕ) {r : Refusal}
    → Err r ≡ done_for (ground_refusal_in colours h w card t work out) → GroundCalled colours h w card t work out (Err r) work out
ground-refused colours h w card t work out e =
    record { answer = same-refusal _ _ _ _ e; out_is = sym (kept _ _ _ (is-declined _ _ _ e)); kept = λ _. refl }

-- so does one whose lengths are declined, whatever else it is lent
pub ground-wrong-lengths : (colours : List Float) (h w : ℕ) (card : Card) (t : Float) (work out : List ℕ) {r : Refusal}
    → Err r ≡ done_for (refusal_of (ground_lengths h w (length colours) (length out) (length work)))
    → GroundCalled colours h w card t work out (Err r) work out
unfolding ground_refusal
ground-wrong-lengths colours h w card t work out e = ground-refused colours h w card t work out (declined-so _ _ e)

-- a cut that is declined leaves its buffers as they were
pub cut-refused : (colours : List Float) (alpha : List ℕ) (h w : ℕ) (card : Card) (s : Settings) (b : Buffers) {r : Refusal}
    → Err r ≡ done_for (refusal_in colours alpha h w card s b) → HeldIn colours s → Called colours alpha h w card s b (Err r) b
cut-refused colours alpha h w card s b e held =
    let d = is-declined _ _ _ e in
    record {
      answer = same-refusal _ _ _ _ e;
      mask_is = sym (kept _ _ _ d);
      weights_is = sym (kept _ _ _ d);
      kept = λ _. refl;
      held = held;
    }

-- so does one whose lengths are declined, whatever else it is lent
pub cut-wrong-lengths : (colours : List Float) (alpha : List ℕ) (h w : ℕ) (card : Card) (s : Settings) (b : Buffers) {r : Refusal}
    → Err r ≡ done_for (refusal_of (cut-lengths colours alpha h w card s b)) → HeldIn colours s → Called colours alpha h w card s b (Err r) b
unfolding cut_refusal
cut-wrong-lengths colours alpha h w card s b e = cut-refused colours alpha h w card s b (declined-so _ _ e)

-- a cut that is accepted has made the mask, and from it weights and crop box
pub cut-made : (colours : List Float) (alpha : List ℕ) (h w : ℕ) (card : Card) (s : Settings) (b b' : Buffers) (keyed : Bool) (box : Box)
    → refusal_in colours alpha h w card s b ≡ 0 → keyed ≡ is_keyed colours alpha h w (reference_on card colours h w) s
    → b'.mask ≡ cut_mask colours alpha h w (reference_on card colours h w) s → b'.weights ≡ weights_of b'.mask alpha (h * w)
    → box ≡ crop_of b'.mask h w margin s.crop_to_alpha → HeldIn colours s
    → Called colours alpha h w card s b (Ok (record { keyed = keyed; crop = box })) b'
unfolding cut_of
cut-made colours alpha h w card s b b' keyed box z k m v d held =
    record {
      answer = rw (accepted _ _ z, k, d, m);
      mask_is = m ∙ sym (written _ _ _ z);
      weights_is = v ∙ ap (λ (q : List ℕ). weights_of q alpha (h * w)) m ∙ sym (written _ _ _ z);
      kept = λ bad. absurd (bad z);
      held = held;
    }

-- growth that is declined leaves its buffers as they were
pub growth-refused : (colours : List Float) (background : List ℕ) (h w : ℕ) (reference : Rgb) (p : ℤ) (b : GrowthBuffers) {r : Refusal}
    → Err r ≡ done_for (growth_refusal_in colours background h w reference b) → GrowthCalled colours background h w reference p b (Err r) b
growth-refused colours background h w reference p b e =
    record { answer = e; out_is = sym (kept _ _ _ (is-declined _ _ _ e)); kept = λ _. refl }

-- growth that is accepted has carried a copy of the background through its passes
pub growth-made : (colours : List Float) (background : List ℕ) (h w : ℕ) (reference : Rgb) (p : ℤ)
    (b b' : GrowthBuffers) (n : ℕ) (copy : List ℕ)
    → growth_refusal_in colours background h w reference b ≡ 0 → n ≡ at_least_zero p → copy ≡ background
    → b'.out ≡ growth_of colours reference h w n copy → GrowthCalled colours background h w reference p b (Ok tt) b'
growth-made colours background h w reference p b b' n copy z e c o =
    record { answer = sym (accepted _ _ z); out_is = o ∙ rw (e, c) (sym (written _ _ _ z)); kept = λ bad. absurd (bad z) }
