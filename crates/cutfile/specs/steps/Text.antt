-- The text of a file whose header and length are accepted.
-- Assumes nothing.
use Rattle.std.specs.Prelude.{ℕ, cond, List, [], ◌∷◌, eqb, Float}
use Rattle.plane.specs.Refusal.{refusal_of}
use Rattle.pbm.specs.Text.{refusal_text}
use Rattle.cutfile.specs.Cutcard.{alpha_test, cut_text}

-- the number of a picture, which is declined for its alpha alone
unfoldable pub alpha_refusal : List ℕ → ℕ
alpha_refusal alpha = refusal_of (alpha_test alpha ∷ [])

-- the text of a picture, accepted or declined by its alpha
unfoldable pub picture_text : List Float → List ℕ → ℕ → ℕ → List ℕ
picture_text colours alpha h w =
    cond (eqb (alpha_refusal alpha) 0) (cut_text colours alpha h w) (refusal_text (alpha_refusal alpha))
