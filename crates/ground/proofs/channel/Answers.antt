-- `ground::channel` meets its contract. The loop's invariant: the first k values are those of the border list's first k pixels.
-- Assumes nothing.
use Rattle.std.proofs.Common.{◌≡◌, ℕ, ◌+◌, ◌*◌, ◌-◌, ◌≤◌, List, Float, map, length, take, drop, ap, ◌∙◌, arith}
use lib.Seq.{take_all}
use Rattle.colour.proofs.Range.{colours-at}
use Rattle.median.specs.Median.{median_of}
use Rattle.median.specs.steps.Values.{floats_of}
use Rattle.median.proofs.Values.{floats-length, floats-held, floats-take}
use Rattle.median.proofs.Laws.{median-ok}
use Rattle.outline.specs.Border.{border_list, channel_at, reference_channel}
use Rattle.ground.proofs.Values.{one_more, values-room, read-in, border-channel}
use Rattle.ground.proofs.channel.Goals as goal

-- all values together are those of the border list
gathered : (g : ℕ → Float) (border v : List ℕ) {n k : ℕ} → n ≡ length border → n ≡ k → n ≤ length (floats_of v)
    → take k (floats_of v) ≡ map g (take k border) → floats_of (take (2 * n - 0) (drop 0 v)) ≡ map g border
gathered g border v {n} {k} e q room same =
    let double : 2 * n - 0 ≡ 2 * n = omega arith in
    ap (λ (i : ℕ). floats_of (take i v)) double
    ∙ floats-take v n room
    ∙ ap (λ (i : ℕ). take i (floats_of v)) q
    ∙ same
    ∙ ap (map g) (take_all k border (omega arith))

pub put-requires : goal.put-requires
put-requires c =
    let i = 3 * c.border_pixel-i.result + c.args.c in
    let p = c.args.picture in
    record {
      inside = omega (arith, values-room p.size c.loop-k.work (omega (arith, c.requires.room)));
      held = c.type_inv.colours i;
      ok = colours-at p.colours.now p.in_range i (read-in p c.requires.c_bound (omega arith) c.border_pixel-i.ensures);
    }

pub loop-k-preserved : goal.loop-k-preserved
unfolding channel_at
loop-k-preserved c =
    let l = c.loop-k in
    let p = c.args.picture in
    let border = border_list p.size.h p.size.w in
    let room = values-room p.size l.work (omega (arith, c.requires.room)) in
    let more = one_more (channel_at p.colours.now c.args.c) border (floats_of l.work) l.k (omega arith) (omega arith) l.invariant in
    rw (c.put.ensures, c.border_pixel-i.ensures) more

pub slice_bounds-median-end : goal.slice_bounds-median-end
slice_bounds-median-end c =
    let v = c.loop-k.work in
    omega (arith, values-room c.args.picture.size v (omega (arith, c.requires.room)), floats-length v)

pub median-requires : goal.median-requires
median-requires c =
    let l = c.loop-k in
    let p = c.args.picture in
    let border = border_list p.size.h p.size.w in
    let room = values-room p.size l.work (omega (arith, c.requires.room)) in
    let all = gathered (channel_at p.colours.now c.args.c) border l.work c.border_count-n.ensures (omega arith) (omega arith) l.invariant in
    rw all (border-channel p c.requires.c_bound)

pub returns : goal.returns
unfolding reference_channel
returns c =
    let l = c.loop-k in
    let p = c.args.picture in
    let border = border_list p.size.h p.size.w in
    let room = values-room p.size l.work (omega (arith, c.requires.room)) in
    let all = gathered (channel_at p.colours.now c.args.c) border l.work c.border_count-n.ensures (omega arith) (omega arith) l.invariant in
    let r : c.median.result ≡ reference_channel p.colours.now p.size.h p.size.w c.args.c = c.median.ensures ∙ ap median_of all in
    let z = border-channel p c.requires.c_bound in
    let stored = floats-held (take (2 * c.border_count-n.result - 0) (drop 0 l.work)) in
    let held = rw all at stored in
    record { value = r; in_range = rw r (median-ok _ held z.ok z.some) }
