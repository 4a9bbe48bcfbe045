-- A look at the coming pass beside a call of growth with one pass.
-- Assumes nothing.
use mathlib.Core.Path.{◌≡◌, refl, sym, ap, ◌∙◌}
use mathlib.Core.List.{List}
use Prim.Native.Nat.{ℕ, ◌*◌}
use lib.IntN.{pos}
use lib.ListN.{length}
use lib.Ieee.{Float}
use Rattle.std.specs.Prelude.{Result, Ok, Err}
use Rattle.plane.specs.declared.answer.Refusal.{Refusal}
use Rattle.plane.specs.Refusal.{done_for}
use Rattle.plane.proofs.Refusal.{accepted, is-accepted, same-refusal, written}
use Rattle.colour.specs.declared.Rgb.{Rgb}
use Rattle.keying.specs.Calls.{GrowthBuffers, growth_refusal_in, GrowthCalled, NextPassCalled}
use Rattle.keying.proofs.Accepted.{growth-lent}
use Rattle.next_pass.specs.NextPass.{next_background, newly_on, joins_in}
use Rattle.next_pass.proofs.Laws.{next-length}

-- ---- calls

module _ (colours : List Float) (background : List ℕ) (h w : ℕ) (reference : Rgb) (b : GrowthBuffers) where
  abbrev refusal : ℕ
  refusal = growth_refusal_in colours background h w reference b

  -- a look that growth with one pass declines
  pub not-looked : {r : Refusal} {b' : GrowthBuffers} → GrowthCalled colours background h w reference (pos 1) b (Err r) b'
      → NextPassCalled colours background h w reference b (Err r) colours background b'
  unfolding next_background
  not-looked grown =
      record {
        answer = same-refusal _ _ _ _ grown.answer;
        out_is = grown.out_is;
        kept = grown.kept;
        picture_kept = refl;
        background_kept = refl;
      }

  -- growth with one pass is accepted
  module _ {b' : GrowthBuffers} (grown : GrowthCalled colours background h w reference (pos 1) b (Ok tt) b') where
    accepted-look : refusal ≡ 0
    accepted-look = is-accepted _ _ _ grown.answer

    abbrev counted-joins : ℕ
    counted-joins = newly_on (length background) background b'.out

    back_long : length background ≡ h * w
    back_long = (growth-lent colours background h w reference b accepted-look).back_long

    next-is : b'.out ≡ next_background colours reference h w background
    unfolding next_background
    next-is = grown.out_is ∙ written refusal _ _ accepted-look

    -- its result is as long as the background
    pub as_long : length b'.out ≡ length background
    as_long = ap length next-is ∙ next-length colours reference h w background ∙ sym back_long

    joins-are : counted-joins ≡ joins_in colours reference h w background
    unfolding joins_in
    joins-are = rw (back_long, next-is)

    -- the joins of its result are counted
    pub looked : (n : ℕ) → n ≡ counted-joins → NextPassCalled colours background h w reference b (Ok n) colours background b'
    unfolding next_background
    looked n e =
        record {
          answer = ap Ok (e ∙ joins-are) ∙ sym (accepted _ _ accepted-look);
          out_is = grown.out_is;
          kept = grown.kept;
          picture_kept = refl;
          background_kept = refl;
        }

  -- ---- what a look has done

  module _ {r : Result ℕ Refusal} {colours' : List Float} {background' : List ℕ} {b' : GrowthBuffers}
      (call : NextPassCalled colours background h w reference b r colours' background' b') where
    -- a call of growth with one pass, on buffers that hold the same, would have left just this, and declined by the same number
    pub is-growth : GrowthCalled colours background h w reference (pos 1) b (done_for refusal) b'
    unfolding next_background
    is-growth = record { answer = refl; out_is = call.out_is; kept = call.kept }

    -- accepted, its number is that of the pixels on in its output and off in the background
    pub counts-output : refusal ≡ 0 → r ≡ Ok (newly_on (h * w) background b'.out)
    unfolding joins_in
    counts-output z =
        call.answer ∙ accepted refusal _ z
        ∙ ap (λ (o : List ℕ). Ok (newly_on (h * w) background o)) (sym (call.out_is ∙ written refusal _ _ z))
