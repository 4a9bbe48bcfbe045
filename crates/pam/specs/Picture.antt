-- The picture in a PAM file, and the tests that the file must pass.
-- Assumes nothing.
use Rattle.std.specs.Prelude.{ℕ, ◌+◌, ◌*◌, ◌/◌, ◌%◌, true, false, List, [], ◌∷◌, eqb, leb, length, get_or, Float, Option, Some, None}
use Rattle.plane.specs.Plane.{table}
use Rattle.plane.specs.Refusal.{Test}
use Rattle.colour.specs.Weight.{weight_of}
use Rattle.pam_header.specs.declared.Header.{Header}
use Rattle.pam_header.specs.Header.{most_header}

-- the most pixels of a picture (R39)
abbrev pub most_pixels : ℕ
most_pixels = 2304

-- one byte more than any accepted file has: at most 4096 of header, and four for each pixel (R38, R39)
abbrev pub most_input : ℕ
most_input = most_header + 4 * most_pixels + 1

-- the number of pixels under a header (R39)
abbrev pub pixels_of : Header → ℕ
pixels_of header = header.height * header.width

-- byte k of the pixels, which stand from body on: red, green, blue and alpha of pixel i are bytes 4 * i to 4 * i + 3 (R39)
unfoldable pub sample_at : List ℕ → ℕ → ℕ → ℕ
sample_at input body k = get_or input (body + k) 0

-- three colours a pixel: number k is channel k % 3 of pixel k / 3; byte v is colour v / 255 (R40)
unfoldable pub colours_from : List ℕ → ℕ → ℕ → List Float
colours_from input body n = table (λ (k : ℕ). weight_of (sample_at input body (4 * (k / 3) + k % 3))) 0 (3 * n)

unfoldable pub alpha_from : List ℕ → ℕ → ℕ → List ℕ
alpha_from input body n = table (λ (i : ℕ). sample_at input body (4 * i + 3)) 0 n

abbrev pub colours_of : Header → List ℕ → List Float
colours_of header input = colours_from input header.body (pixels_of header)

abbrev pub alpha_of : Header → List ℕ → List ℕ
alpha_of header input = alpha_from input header.body (pixels_of header)

-- the tests of a file, in order (R51 to R53): the header is as it should be, there are not too many pixels, and no byte is missing or left
-- over
abbrev pub file_tests : Option Header → List ℕ → List Test
file_tests None input = (8, false) ∷ []
file_tests (Some header) input =
    (8, true)
    ∷ (10, leb (pixels_of header) most_pixels)
    ∷ (9, eqb (length input) (header.body + 4 * pixels_of header))
    ∷ []
