-- `colour::colours_ok` meets its contract. The invariant is of what is left: the answer for all is that for the rest.
-- Assumes nothing.
use Rattle.std.proofs.Common.{◌≡◌, Bool, true, false, ◌&&◌, List, [], ◌∷◌, ◌++◌, length, refl, sym, ap, ◌∙◌, rules, arith}
use Rattle.std.specs.Float.Ieee.{Float}
use Rattle.colour.specs.Colour.{colours_ok}
use Rattle.colour.proofs.Range.{colours-append}
use Rattle.colour.proofs.colours_ok.Goals as goal

-- the rest is a block, for which the answer is t, and what is left after it
block : (l x m : List Float) (t : Bool) → l ≡ x ++ m → colours_ok x ≡ t → colours_ok l ≡ t && colours_ok m
block l x m t e k = ap colours_ok e ∙ colours-append x m ∙ ap (λ (b : Bool). b && colours_ok m) k

-- no number is left
none : (l : List Float) → length l ≡ 0 → colours_ok l ≡ true
unfolding colours_ok
none [] e = refl
none (x ∷ l) e = absurd (omega arith)

pub returns-then-not-block_ok : goal.returns-then-not-block_ok
returns-then-not-block_ok c = record {
  answer = sym (c.loop-block.invariant.left ∙ block _ _ _ false c.in-Some.ensures.steps.1.0 (sym c.block_ok.ensures ∙ c.if-not-block_ok.true));
  held = λ i h. c.type_inv.colours i;
}

pub loop-block-preserved : goal.loop-block-preserved
loop-block-preserved c = record {
  can_next = search rules;
  ends = search rules;
  left = c.loop-block.invariant.left ∙ block _ _ _ true c.in-Some.ensures.steps.1.0 (sym c.block_ok.ensures ∙ c.if-not-block_ok.false);
}

pub returns : goal.returns
returns c = record {
  answer = sym (c.loop-block.invariant.left ∙ none _ c.in-None.ensures.steps.1.0);
  held = λ i h. c.type_inv.colours i;
}
