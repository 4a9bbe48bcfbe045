-- `median::Buffer::select` meets its contract. The invariant: the key of the value at place k lies from lo to hi.
-- Assumes nothing.
use Rattle.std.proofs.Common.{◌≡◌, ℕ, ◌+◌, ◌-◌, ◌/◌, ◌<◌, ◌≤◌, T, true, not, ltb, leb, List, length, sym, ap, ◌∙◌, arith, lt-ltb}
use lib.Ieee.{Float, binary64, of_bits, nan_bits}
use borrow.Author.Tests.{le-ltb, leb-true, leb-false}
use Rattle.colour.specs.Colour.{colours_ok}
use Rattle.colour.proofs.Zero.{plus-zero-is}
use Rattle.median.specs.Median.{placed}
use Rattle.median.specs.steps.Values.{floats_of}
use Rattle.median.specs.steps.Select.{at_most}
use Rattle.median.proofs.Values.{floats-held}
use Rattle.median.proofs.Pattern.{key, Good, key_back, bits-number, one_bits}
use Rattle.median.proofs.Places.{placed-good, placed-bound, bits-rank}
use Rattle.median.proofs.Buffer.select.Goals as goal

number : (v : ℕ) → v ≤ one_bits → T (not (nan_bits binary64 v))
number v h = rw (bits-number v h) tt

-- the value at place k of the values that the function is given
module _ (v : List ℕ) (k : ℕ) (ok : colours_ok (floats_of v) ≡ true) (inside : k < length (floats_of v)) where
  abbrev value : Float
  value = placed (floats_of v) k

  good : Good value
  good = placed-good (floats_of v) (floats-held v) ok k inside

  -- it is at or below the float of a pattern exactly when more than k values are
  rank : {mid n : ℕ} → mid ≤ one_bits → n ≡ at_most (of_bits binary64 mid) (floats_of v) → ltb k n ≡ leb (key value) mid
  rank {mid} h e = ap (ltb k) e ∙ bits-rank (floats_of v) (floats-held v) ok k inside mid h

pub loop-lo-init : goal.loop-lo-init
loop-lo-init c =
    let v = c.args.self.halves.now in
    (omega arith, placed-bound (floats_of v) (floats-held v) c.args.self.in_range c.args.k c.requires, omega arith)

pub loop-lo-preserved-then-k-at_most : goal.loop-lo-preserved-then-k-at_most
loop-lo-preserved-then-k-at_most c =
    let l = c.loop-lo in
    (l.invariant.0, leb-true _ _ (sym (rank _ _ c.args.self.in_range c.requires (omega arith) c.at_most.ensures) ∙ lt-ltb _ _ c.if-k-at_most.true), omega arith)

pub loop-lo-preserved : goal.loop-lo-preserved
loop-lo-preserved c =
    let l = c.loop-lo in
    let above = leb-false _ _ (sym (rank _ _ c.args.self.in_range c.requires (omega arith) c.at_most.ensures) ∙ le-ltb _ _ c.if-k-at_most.false) in
    (omega arith, l.invariant.1, l.invariant.2)

pub returns : goal.returns
returns c =
    let v = c.args.self.halves.now in
    let k = c.args.k in
    let x = placed (floats_of v) k in
    let held = (good v k c.args.self.in_range c.requires).held in
    let found : c.loop-lo.lo ≡ key x = omega arith in
    ap (of_bits binary64) found ∙ key_back x held ∙ sym (plus-zero-is x held)

pub float_from_bits-mid : goal.float_from_bits-mid
float_from_bits-mid c = number (c.loop-lo.lo + (c.loop-lo.hi - c.loop-lo.lo) / 2) (omega arith)

pub float_from_bits-result : goal.float_from_bits-result
float_from_bits-result c = number c.loop-lo.lo (omega arith)
