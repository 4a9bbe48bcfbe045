-- `pam::colours` meets its contract.
-- Assumes nothing.
use mathlib.Core.Path.{ap, ◌∙◌}
use Prim.Native.Nat.{ℕ, ◌+◌, ◌*◌, ◌/◌, ◌%◌}
use native.Mathlib.Omega.{arith}
use lib.ListN.{get_or}
use lib.Ieee.{nan}
use Rattle.plane.specs.Plane.{table}
use Rattle.plane.proofs.InPlace.{changed-more, changed-end}
use Rattle.colour.specs.Colour.{colour_ok}
use Rattle.colour.specs.Weight.{weight_of}
use Rattle.colour.proofs.Range.{colours-all}
use Rattle.pam.specs.Picture.{sample_at, colours_from}
use Rattle.colour.proofs.Bytes.{byte-ok}
use Rattle.pam.proofs.colours.Invariants.{channel}
use Rattle.pam.proofs.colours.Goals as goal

pub loop-k-preserved : goal.loop-k-preserved
unfolding sample_at
loop-k-preserved c =
    let l = c.loop-k in
    let done = l.invariant in
    let right = c.weight.ensures ∙ ap weight_of c.byte_at-v.ensures in
    changed-more nan _ _ l.out l.k c.weight.result done (omega (arith, done.size)) right

pub returns : goal.returns
unfolding colours_from sample_at
returns c =
    let l = c.loop-k in
    let a = c.args in
    let done = l.invariant in
    let whole = changed-end nan _ _ l.out l.k done (omega (arith, done.size)) in
    let place : ℕ → ℕ = λ (k : ℕ). a.body + (4 * (k / 3) + k % 3) in
    let byte = c.type_inv.input in record {
      out_after = whole ∙ ap (table (channel a.input.now a.body) 0) c.requires.2;
      out_in_range = colours-all l.out
          (λ k g.
          ap colour_ok (done.front k (omega (arith, done.size)))
          ∙ byte-ok (get_or a.input.now (place k) 0) (omega (arith, byte (place k))));
    }
