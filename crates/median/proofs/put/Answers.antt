-- `median::put` meets its contract.
-- Assumes nothing.
use Rattle.std.proofs.Common.{◌/◌, ◌%◌, div-add-mod', arith, length-set}
use lib.Ieee.{binary64, to_bits}
use lib.Ieee.Bits.{to_bits-lt}
use Rattle.median.specs.steps.Values.{half}
use Rattle.median.proofs.Values.{floats-length, floats-put, ok-number}
use Rattle.median.proofs.put.Goals as goal

pub float_to_bits-bits : goal.float_to_bits-bits
float_to_bits-bits c = ok-number c.args.x c.requires.ok

pub overflow_cast-values-2 : goal.overflow_cast-values-2
overflow_cast-values-2 c = omega (arith, to_bits-lt binary64 c.args.x c.requires.held)

pub bounds-values-k-2 : goal.bounds-values-k-2
bounds-values-k-2 c = simp length-set (omega (arith, c.requires.inside, floats-length c.args.values.now))

pub returns : goal.returns
returns c =
    let a = c.args in
    let bits = to_bits binary64 a.x in
    floats-put a.values.now a.k (bits % half) (bits / half) c.requires.inside a.x c.requires.held (div-add-mod' bits half)
