-- `text::value` meets its contract.
-- Assumes nothing.
use mathlib.Core.Path.{◌≡◌}
use Prim.Native.Nat.{◌^◌, ◌<◌}
use lib.ListN.{take}
use Rattle.text.specs.Decimal.{value_of}
use Rattle.text.proofs.value.Given as goal

abbrev pub invariant-loop-b : goal.invariant-loop-b
invariant-loop-b l = (l.v ≡ value_of (take l.b-index l.digits)) × (l.v < 10 ^ l.b-index)
