-- What the functions that write into a buffer ensure.
-- Assumes nothing.
use Rattle.std.specs.Prelude.{ℕ, ◌+◌, ◌≡◌, ◌≤◌, List, length}
use Rattle.std.proofs.lemmas.List.Edits.{sets}
use Rattle.text.specs.declared.Page.{Page}

-- a piece was written from a place on, its end was answered, and no other byte has changed
pub record Wrote (piece old new : List ℕ) (at end : ℕ) : Type 0 where
  pub end_is : end ≡ at + length piece
  pub bytes_are : new ≡ sets old at piece

-- a page has room for so many bytes
abbrev pub HasRoom : Page → ℕ → Type 0
HasRoom page n = page.at + n ≤ length page.out.now

-- a piece was written to a page, which is over the same buffer
pub record Writes (piece : List ℕ) (old new : Page) : Type 0 where
  pub same_buffer : new.out.ghost_name ≡ old.out.ghost_name
  pub same_length : length new.out.now ≡ length old.out.now
  pub wrote : Wrote piece old.out.now new.out.now old.at new.at
