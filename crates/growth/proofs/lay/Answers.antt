-- `growth::lay` meets its contract.
-- Assumes nothing.
use Rattle.std.proofs.Common.{◌≡◌, ◌*◌, ◌<◌, ℕ, Bool, true, false, List, length, replicate, sym, ap, ◌∙◌, arith}
use mathlib.Core.Logic.{⊎_elim}
use Rattle.plane.specs.Plane.{table}
use Rattle.plane.specs.Search.{some_below}
use Rattle.std.proofs.lemmas.Bool.{cases_Bool}
use Rattle.squares.specs.Squares.{squares_plane}
use Rattle.growth.specs.steps.Marks.{edge_test, edge_mark, Laid}
use Rattle.plane.specs.Mask.{is_on, mask_of}
use Rattle.plane.specs.steps.Complement.{complement_of}
use Rattle.outline.specs.Growth.{is_shallow}
use Rattle.growth.proofs.Laying.{deep-laid, shallow-laid, edge-laid, no-edge}
use Rattle.growth.proofs.lay.Goals as goal

module _ {back shallow deep : List ℕ} {h w : ℕ} (wide : 0 < w) where
  -- the two planes that are laid by dilations, and then the marks
  laid : deep ≡ complement_of (squares_plane back h w 4) → shallow ≡ complement_of (squares_plane back h w 1) → (some : Bool)
      → some ≡ some_below (length shallow) (is_on shallow)
      → (marks : List ℕ) → (some ≡ true → marks ≡ mask_of (h * w) (edge_test back shallow)) → (some ≡ false → marks ≡ replicate (h * w) 0)
      → Laid back h w shallow deep marks
  laid d s some known marks there empty =
      let made : shallow ≡ mask_of (h * w) (is_shallow back h w) = s ∙ shallow-laid back h w wide in
      record {
        shallow_is = made;
        deep_is = d ∙ deep-laid back h w wide;
        marks_are =
            ⊎_elim {C = marks ≡ table (edge_mark back h w) 0 (h * w)}
            (λ (t : some ≡ true). there t ∙ edge-laid back h w wide shallow made some known t)
            (λ (f : some ≡ false). empty f ∙ no-edge back h w wide shallow made some known f)
            (cases_Bool some);
      }

pub returns-then-any : goal.returns-then-any
returns-then-any c =
    let b = c.args.back in
    let yes = rw b.whole at c.edges.ensures in
    laid b.size.sides.some_columns (c.complement.ensures ∙ ap complement_of c.dilate.ensures.out_after)
    (c.complement-2.ensures ∙ ap complement_of c.dilate-2.ensures.out_after) c.any.result c.any.ensures _ (λ _. yes)
    (λ f. absurd (let z : true ≡ false = sym c.if-any.true ∙ f in cc))

pub returns-else-any : goal.returns-else-any
returns-else-any c =
    let b = c.args.back in
    let no : c.fill.new.self ≡ replicate (b.size.h * b.size.w) 0 = c.fill.ensures.after (λ y e. e) ∙ ap (λ (n : ℕ). replicate n 0) (omega arith) in
    laid b.size.sides.some_columns (c.complement.ensures ∙ ap complement_of c.dilate.ensures.out_after)
    (c.complement-2.ensures ∙ ap complement_of c.dilate-2.ensures.out_after) c.any.result c.any.ensures _
    (λ t. absurd (let z : true ≡ false = sym t ∙ c.if-any.false in cc)) (λ _. no)
