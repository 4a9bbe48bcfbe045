-- `card::all_hex` meets its contract.
-- Assumes nothing.
use Rattle.std.proofs.Common.{◌≡◌, ℕ, Bool, true, false, leb, List, [], ◌∷◌, refl, ◌∙◌, rules, tests}
use Rattle.std.specs.Bool.{then_some}
use Rattle.std.specs.List.{list_all}
use Rattle.std.specs.Prelude.{is_some}
use Rattle.std.proofs.lemmas.Iterator.{YieldsList-from_slice}
use Rattle.std.proofs.lemmas.Iterator.Search.{all_from_yields_List}
use Rattle.card.specs.Hex.{hex_of, all_hex}
use Rattle.card.proofs.all_hex.Goals as goal

all_is : (text : List ℕ) → list_all (λ b. leb (hex_of b) 15) text ≡ all_hex text
unfolding all_hex
all_is [] = refl
all_is (b ∷ text) = rw (all_is text)

-- a value is there where the test holds
told : (t : Bool) (v : ℕ) → is_some (then_some t v) ≡ t
told true v = refl
told false v = refl

pub returns : goal.returns
returns c =
    let t = c.args.text.now in
    all_from_yields_List (λ b. leb (hex_of b) 15) _ _ c.all.result c.all.ensures.ran (YieldsList-from_slice t cc) (λ x b q k. search (rules, tests, told))
    ∙ all_is t
