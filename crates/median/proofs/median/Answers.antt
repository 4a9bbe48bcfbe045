-- `median::median` meets its contract.
-- Assumes nothing.
use Rattle.std.proofs.Common.{◌≡◌, ℕ, ◌-◌, ◌/◌, length, ap, ◌∙◌, arith}
use Rattle.colour.specs.Number.{plus_zero, half_of}
use Rattle.median.specs.Median.{placed, lower_middle, upper_middle, median_of}
use Rattle.median.specs.steps.Values.{floats_of}
use Rattle.median.proofs.Values.{floats-held}
use Rattle.median.proofs.Places.{placed-good}
use Rattle.median.proofs.Laws.{signs-gone}
use Rattle.median.proofs.median.Goals as goal

pub returns : goal.returns
unfolding median_of lower_middle upper_middle
returns c =
    let v = c.args.values.now in
    let l = floats_of v in
    let some = c.requires.some in
    let x = placed l (length l / 2 - 1) in
    let y = placed l (length l / 2) in
    let good = placed-good l (floats-held v) c.requires.ok in
    let lower : c.select-lo.result ≡ plus_zero x =
    c.select-lo.ensures ∙ ap (λ (n : ℕ). plus_zero (placed l (n / 2 - 1))) c.count.ensures in
    let upper : c.next_place-hi.result ≡ plus_zero y =
    c.next_place-hi.ensures ∙ ap (λ (k : ℕ). plus_zero (placed l k)) (omega arith) in
    let halved : c.half.result ≡ half_of c.select-lo.result c.next_place-hi.result = c.half.ensures in
    c.plus_zero.ensures
    ∙ ap plus_zero (halved ∙ rw (lower, upper))
    ∙ signs-gone x y (good (length l / 2 - 1) (omega arith)).held (good (length l / 2) (omega arith)).held
