-- Cases that the prover computes from the definitions.
-- Assumes nothing.
use Rattle.std.proofs.Common.{◌≡◌, ℕ, List, [], ◌∷◌, refl}
use Rattle.plane.specs.Search.{count_below}
use Rattle.plane.specs.Plane.{on, bit, apart, table}
use Rattle.plane.specs.Box.{lesser_of}
use Rattle.plane.specs.Mask.{is_on}
use Rattle.counts.specs.Running.{window_count, enters, leaves, running}

-- the counts of all windows of a line, and the running values after all steps
abbrev counts : List ℕ → ℕ → ℕ → List ℕ
counts line n k = table (λ (x : ℕ). window_count n k x (is_on line)) 0 n

abbrev values : List ℕ → ℕ → ℕ → List ℕ
values line n k = table (running n k (is_on line)) 1 n

-- 10110 (on is also the byte 7) with k 0, 1, 2, and with k above the length; one pixel; all on
line-cases : (counts (1 ∷ 0 ∷ 7 ∷ 1 ∷ 0 ∷ []) 5 0 ≡ (1 ∷ 0 ∷ 1 ∷ 1 ∷ 0 ∷ [])) × (values (1 ∷ 0 ∷ 7 ∷ 1 ∷ 0 ∷ []) 5 0 ≡ (1 ∷ 0 ∷ 1 ∷ 1 ∷ 0 ∷ []))
    × (counts (1 ∷ 0 ∷ 7 ∷ 1 ∷ 0 ∷ []) 5 1 ≡ (1 ∷ 2 ∷ 2 ∷ 2 ∷ 1 ∷ [])) × (values (1 ∷ 0 ∷ 7 ∷ 1 ∷ 0 ∷ []) 5 1 ≡ (1 ∷ 2 ∷ 2 ∷ 2 ∷ 1 ∷ []))
    × (counts (1 ∷ 0 ∷ 7 ∷ 1 ∷ 0 ∷ []) 5 2 ≡ (2 ∷ 3 ∷ 3 ∷ 2 ∷ 2 ∷ [])) × (values (1 ∷ 0 ∷ 7 ∷ 1 ∷ 0 ∷ []) 5 2 ≡ (2 ∷ 3 ∷ 3 ∷ 2 ∷ 2 ∷ []))
    × (counts (1 ∷ 0 ∷ 7 ∷ 1 ∷ 0 ∷ []) 5 9 ≡ (3 ∷ 3 ∷ 3 ∷ 3 ∷ 3 ∷ [])) × (values (1 ∷ 0 ∷ 7 ∷ 1 ∷ 0 ∷ []) 5 9 ≡ (3 ∷ 3 ∷ 3 ∷ 3 ∷ 3 ∷ []))
    × (counts (1 ∷ []) 1 1 ≡ (1 ∷ [])) × (values (1 ∷ []) 1 1 ≡ (1 ∷ []))
    × (counts (1 ∷ 1 ∷ 1 ∷ 1 ∷ []) 4 1 ≡ (2 ∷ 3 ∷ 3 ∷ 2 ∷ [])) × (values (1 ∷ 1 ∷ 1 ∷ 1 ∷ []) 4 1 ≡ (2 ∷ 3 ∷ 3 ∷ 2 ∷ []))
unfolding window_count enters leaves running count_below lesser_of is_on on bit apart table
line-cases = (refl, refl, refl, refl, refl, refl, refl, refl, refl, refl, refl, refl)
