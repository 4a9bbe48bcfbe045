-- `ground::ground_from` meets its contract.
-- Assumes nothing.
use Rattle.std.proofs.Common.{◌≡◌, ◌*◌, length, replicate, sym, ◌∙◌, arith, rules}
use Rattle.ground.proofs.Answers.{close-closed, absent-few, absent-full, found}
use Rattle.ground.proofs.ground_from.Goals as goal

pub flood-requires-clause-closed : goal.flood-requires-clause-closed
flood-requires-clause-closed c = close-closed _ _ _ _ _ _ c.close_plane.ensures

pub returns-then-not-mostly : goal.returns-then-not-mostly
returns-then-not-mostly c =
    let a = c.args in
    let p = a.picture in
    let v = c.close_plane.new.out in
    let zeros : c.fill.new.self ≡ replicate (length v) 0 = search rules in
    let both = absent-few p.colours.now p.size.h p.size.w a.reference.colour a.tolerance v (length v) _ c.close_plane.ensures
    (sym c.mostly.ensures ∙ c.if-not-mostly.true) (c.close_plane.auto.out ∙ c.requires.out_len, zeros) in
    record { value = both.0; out_after = both.1 }

pub returns-then-not-some_off : goal.returns-then-not-some_off
returns-then-not-some_off c =
    let a = c.args in
    let p = a.picture in
    let v = c.flood.new.out in
    let long : length v ≡ p.size.h * p.size.w = omega arith in
    let zeros : c.fill-then-not-some_off.new.self ≡ replicate (length v) 0 = search rules in
    let both = absent-full p.colours.now p.size.h p.size.w a.reference.colour a.tolerance _ v c.close_plane.ensures c.flood.ensures long (length v) _
    (sym c.some_off.ensures ∙ c.if-not-some_off.true) (long, zeros) in
    record { value = both.0; out_after = both.1 }

pub returns : goal.returns
returns c =
    let a = c.args in
    let p = a.picture in
    let v = c.flood.new.out in
    let long : length v ≡ p.size.h * p.size.w = omega arith in
    let both = found p.colours.now p.size.h p.size.w a.reference.colour a.tolerance _ v c.close_plane.ensures c.flood.ensures long
    (sym c.mostly.ensures ∙ c.if-not-mostly.false) (sym c.some_off.ensures ∙ c.if-not-some_off.false) in
    record { value = both.0; out_after = both.1 }
