-- Planes: h rows of w pixels, row by row; pixel (y, x) stands at index y * w + x.
-- Assumes nothing.
use Rattle.std.specs.Prelude.{ℕ, zero, suc, ◌+◌, ◌*◌, ◌-◌, Bool, cond, not, ◌&&◌, List, [], ◌∷◌, ◌++◌, eqb, leb, get_or}
use Rattle.std.proofs.Math.Option.{Option, none, some}

-- the largest side that the public calls accept (R1)
abbrev pub most_side : ℕ
most_side = 4096

-- a byte of a mask (R3): 0 is off, any other on
unfoldable pub on : ℕ → Bool
on b = not (eqb b 0)

-- the byte that is written for a pixel that is on, or off (R3)
unfoldable pub bit : Bool → ℕ
bit t = cond t 1 0

-- whether pixel (y, x) of a mask with w columns is on (R3)
unfoldable pub on_at : List ℕ → ℕ → ℕ → ℕ → Bool
on_at mask w y x = on (get_or mask (y * w + x) 0)

-- how far apart two rows or two columns are (R4)
unfoldable pub apart : ℕ → ℕ → ℕ
apart a b = (a - b) + (b - a)

-- within k (R4): (j, i) is at most k rows and at most k columns away from (y, x)
unfoldable pub within : ℕ → ℕ → ℕ → ℕ → ℕ → Bool
within k y x j i = leb (apart y j) k && leb (apart x i) k

-- f at k, k + 1 and so on, n elements (R1)
unfoldable pub table : {A : Type 0} → (ℕ → A) → ℕ → ℕ → List A
table f k zero = []
table f k (suc n) = f k ∷ table f (suc k) n

-- n rows, one after the other (R1)
unfoldable pub rows_upto : {A : Type 0} → ℕ → (ℕ → List A) → List A
rows_upto zero g = []
rows_upto (suc n) g = rows_upto n g ++ g n

-- the plane whose element at row y and column x is f y x (R1)
unfoldable pub plane_of : {A : Type 0} → ℕ → ℕ → (ℕ → ℕ → A) → List A
plane_of h w f = rows_upto h (λ (y : ℕ). table (f y) 0 w)

-- the index of a pixel that is given by its column and its row; 0 where there is none (R1)
unfoldable pub index_of : ℕ → Option (ℕ × ℕ) → ℕ
index_of w none = 0
index_of w (some q) = q.1 * w + q.0
