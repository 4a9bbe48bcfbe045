-- What cutcard prints for an input.
-- Assumes nothing.
use Rattle.std.specs.Prelude.{ℕ, ◌≡◌, cond, List, [], ◌∷◌, ◌++◌, eqb, leb, length, get_or, drop, Float, Option, Some, None}
use Rattle.plane.specs.Refusal.{Test, refusal_of}
use Rattle.plane.specs.Search.{some_below}
use Rattle.outline.specs.Border.{reference_of}
use Rattle.outline.specs.Cut.{Cut, cut_of}
use Rattle.pam_header.specs.declared.Header.{Header}
use Rattle.pam_header.specs.Header.{header_of}
use Rattle.pam.specs.Picture.{colours_of, alpha_of, file_tests}
use Rattle.pam.specs.Settings.{threshold, settings}
use Rattle.pbm.specs.Text.{mask_text, refusal_text}

-- 6 where no alpha reaches the threshold (R49)
abbrev pub alpha_test : List ℕ → Test
alpha_test alpha = (6, some_below (length alpha) (λ (i : ℕ). leb threshold (get_or alpha i 0)))

-- the number of the refusal of an input whose header says this (R59), 0 where it is accepted
unfoldable pub refusal_under : Option Header → List ℕ → ℕ
refusal_under None input = refusal_of (file_tests None input)
refusal_under (Some header) input = refusal_of (file_tests (Some header) input ++ (alpha_test (alpha_of header input) ∷ []))

-- the picture cut with the settings of cutcard (R40)
abbrev pub cut_with : List Float → List ℕ → ℕ → ℕ → Cut
cut_with colours alpha h w = cut_of colours alpha h w (reference_of colours h w) settings

-- its text (R41)
unfoldable pub cut_text : List Float → List ℕ → ℕ → ℕ → List ℕ
cut_text colours alpha h w = let c = cut_with colours alpha h w in mask_text c.mask h w c.box c.keyed

-- what is printed for an input whose header says this (R41, R42)
unfoldable pub text_under : Option Header → List ℕ → List ℕ
text_under None input = refusal_text (refusal_under None input)
text_under (Some header) input =
    cond (eqb (refusal_under (Some header) input) 0)
    (cut_text (colours_of header input) (alpha_of header input) header.height header.width)
    (refusal_text (refusal_under (Some header) input))

-- the number of an input's refusal, and what is printed for it (R41, R42, R59)
abbrev pub card_refusal : List ℕ → ℕ
card_refusal input = refusal_under (header_of input) input

abbrev pub card_text : List ℕ → List ℕ
card_text input = text_under (header_of input) input

-- no text is longer than this: 48 bytes for the lines before the pixels, and two for each of 2304 pixels (R41)
abbrev pub most_text : ℕ
most_text = 4656

-- a buffer after a text was written at its front (R63)
abbrev pub over : List ℕ → List ℕ → List ℕ
over text old = text ++ drop (length text) old

-- cutcard (R63): the length of the text, and the text at the front of the buffer; where the buffer is too short, 0 and nothing written
pub record CardCalled (input out : List ℕ) (r : ℕ) (out' : List ℕ) : Type 0 where
  pub answer : r ≡ cond (leb most_text (length out)) (length (card_text input)) 0
  pub out_is : out' ≡ cond (leb most_text (length out)) (over (card_text input) out) out
