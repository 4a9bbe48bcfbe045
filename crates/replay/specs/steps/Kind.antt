-- The bytes that name the kinds of cases.
-- Assumes nothing.
use Rattle.std.specs.Prelude.{ℕ, List, Bool, ◌==◌, codes, if◌then◌else◌}
use Rattle.std.specs.List.{list_any}
use Rattle.replay.specs.declared.kind.Kind.{Kind}
use Rattle.replay.specs.declared.kind.Kind.TheVariants.{Labels, Squares, Nearest, Ground, Cut, Pair, Following}

-- the byte is one of these letters
abbrev pub is_among : List ℕ → ℕ → Bool
is_among letters byte = list_any (λ letter. letter == byte) letters

-- the kind that a byte names: a letter its own kind, of which the small one says that the case gives the card's colour, and every other
-- byte a cut
abbrev pub kind_of : ℕ → Kind
kind_of byte =
    if is_among (codes "L") byte then Labels else (
    if is_among (codes "S") byte then Squares else (
    if is_among (codes "N") byte then Nearest else (
    if is_among (codes "Gg") byte then Ground else (
    if is_among (codes "Pp") byte then Pair else (
    if is_among (codes "Ff") byte then Following else Cut)))))
