-- The weights of all bytes, computed: each is a colour from 0 to 1.
-- Assumes nothing.
use mathlib.Core.Path.{◌≡◌, refl, sym, ap, ◌∙◌}
use mathlib.Core.Bool.{true}
use mathlib.Core.List.{List, [], ◌∷◌}
use Prim.Native.Nat.{ℕ, zero, suc, ◌+◌, ◌<◌}
use native.Mathlib.Nat.{zero-add, le_of_suc-le-suc, not-suc-le-zero}
use native.Mathlib.Omega.{arith}
use lib.ListN.{length, get_or}
use lib.Ieee.{Float, nan, le, lt, div, of_int}
use Rattle.colour.specs.Colour.{colour_ok, colours_ok}
use Rattle.colour.specs.Weight.{weight_of}
use Rattle.colour.proofs.Range.{colours-at}

-- the weights of n bytes from k on
unfoldable pub weights : ℕ → ℕ → List Float
weights k zero = []
weights k (suc n) = weight_of k ∷ weights (suc k) n

weights-from : (k n i : ℕ) → i < n → get_or (weights k n) i nan ≡ weight_of (k + i)
unfolding weights
weights-from k zero i h = absurd (not-suc-le-zero h)
weights-from k (suc n) zero h = ap weight_of (omega arith)
weights-from k (suc n) (suc i) h = weights-from (suc k) n i (le_of_suc-le-suc h) ∙ ap weight_of (omega arith)

pub weights-at : (v : ℕ) → v < 256 → get_or (weights 0 256) v nan ≡ weight_of v
weights-at v l = weights-from 0 256 v l ∙ ap weight_of (zero-add v)

all-ok : colours_ok (weights 0 256) ≡ true
unfolding weights colours_ok colour_ok weight_of le lt div of_int
all-ok = refl

all_there : length (weights 0 256) ≡ 256
unfolding weights
all_there = refl

-- every byte's colour is from 0 to 1
pub byte-ok : (v : ℕ) → v < 256 → colour_ok (weight_of v) ≡ true
byte-ok v l = ap colour_ok (sym (weights-at v l)) ∙ colours-at (weights 0 256) all-ok v (omega (arith, all_there))
