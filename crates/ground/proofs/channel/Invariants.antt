-- `ground::channel` meets its contract. The loop's invariant: the first k values are those of the border list's first k pixels.
-- Assumes nothing.
use Rattle.std.proofs.Common.{◌≡◌, map, take}
use Rattle.median.specs.steps.Values.{floats_of}
use Rattle.outline.specs.Border.{border_list, channel_at}
use Rattle.ground.proofs.channel.Given as goal

abbrev pub invariant-loop-k : goal.invariant-loop-k
invariant-loop-k l =
    take l.k (floats_of l.work) ≡ map (channel_at l.picture.colours.now l.c) (take l.k (border_list l.picture.size.h l.picture.size.w))
