-- Labels: the parts of a mask that steps up, down, left or right over on-pixels join (SciPy's ndimage.label with its
-- default structuring element), numbered from 1 in raster order of their first pixels. A pixel is named by its index, row * w + column.
-- Assumes nothing.
use Rattle.std.specs.Prelude.{◌≡◌, Bool, true, cond, ◌&&◌, ◌||◌, List, map, ℕ, zero, suc, ◌+◌, ◌*◌, ◌/◌, ◌%◌, eqb, get_or}
use Rattle.plane.specs.Plane.{apart, table, plane_of}
use Rattle.plane.specs.Search.{count_below}
use Rattle.plane.specs.Mask.{is_on}
use Rattle.plane.specs.Box.{lesser_of}

-- whether j is one step up, down, left or right of i: rows and columns together differ by 1 (R6)
unfoldable pub beside : ℕ → ℕ → ℕ → Bool
beside w i j = eqb (apart (i / w) (j / w) + apart (i % w) (j % w)) 1

-- steps over on-pixels lead from i to j (R6)
pub data Joined (mask : List ℕ) (w : ℕ) : ℕ → ℕ → Type 0 where
  same : {i : ℕ} → is_on mask i ≡ true → Joined mask w i i
  onward : {i j k : ℕ} → Joined mask w i j → beside w j k ≡ true → is_on mask k ≡ true → Joined mask w i k

-- the new number of what carries n, when a and b become one number: the lesser of the two in their place (R6)
unfoldable pub renamed : ℕ → ℕ → ℕ → ℕ
renamed a b n = cond (eqb n a || eqb n b) (lesser_of a b) n

-- all pixels renamed so (R6)
unfoldable pub merge : ℕ → ℕ → List ℕ → List ℕ
merge a b numbers = map (renamed a b) numbers

-- the parts of pixels i and j become one, if both are on and beside each other (R6)
unfoldable pub join_two : List ℕ → ℕ → ℕ → ℕ → List ℕ → List ℕ
join_two mask w i j numbers =
    cond (is_on mask i && is_on mask j && beside w i j) (merge (get_or numbers i 0) (get_or numbers j 0) numbers) numbers

-- pixel i with each of the pixels below n (R6)
unfoldable pub join_with : List ℕ → ℕ → ℕ → ℕ → List ℕ → List ℕ
join_with mask w i zero numbers = numbers
join_with mask w i (suc n) numbers = join_two mask w i n (join_with mask w i n numbers)

-- each pixel alone carries its own index; then every pixel below n is joined with those before it (R6)
unfoldable pub join_upto : List ℕ → ℕ → ℕ → ℕ → List ℕ
join_upto mask h w zero = table (λ (i : ℕ). i) 0 (h * w)
join_upto mask h w (suc n) = join_with mask w n n (join_upto mask h w n)

-- the first pixel in raster order of the part of pixel i: the number that i carries in the end (R7)
unfoldable pub first_pixel : List ℕ → ℕ → ℕ → ℕ → ℕ
first_pixel mask h w i = get_or (join_upto mask h w (h * w)) i 0

-- whether pixel i is the first of its part (R7)
unfoldable pub is_first : List ℕ → ℕ → ℕ → ℕ → Bool
is_first mask h w i = is_on mask i && eqb (first_pixel mask h w i) i

-- how many parts there are (R7)
unfoldable pub parts : List ℕ → ℕ → ℕ → ℕ
parts mask h w = count_below (h * w) (is_first mask h w)

-- the label of pixel i (R7): 0 if it is off, else 1 more than the number of parts that begin before its own
unfoldable pub label_of : List ℕ → ℕ → ℕ → ℕ → ℕ
label_of mask h w i = cond (is_on mask i) (1 + count_below (first_pixel mask h w i) (is_first mask h w)) 0

-- the label of pixel (y, x) (R7)
unfoldable pub label_at : List ℕ → ℕ → ℕ → ℕ → ℕ → ℕ
label_at mask h w y x = label_of mask h w (y * w + x)

-- the plane of labels (R7)
unfoldable pub labels_plane : List ℕ → ℕ → ℕ → List ℕ
labels_plane mask h w = plane_of h w (label_at mask h w)
