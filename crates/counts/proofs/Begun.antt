-- Lines that are written from the front.
-- Assumes nothing.
use Rattle.std.proofs.Common.{◌≡◌, ℕ, ◌+◌, ◌<◌, ◌≤◌, List, length, get_or, set, ◌∙◌, not-suc-le-zero, arith, length-set}
use Rattle.plane.specs.Plane.{table}
use Rattle.plane.proofs.Plane.{filled, table_is}

-- a line of n numbers of which the first x are f's
pub record Begun (f : ℕ → ℕ) (n : ℕ) (out : List ℕ) (x : ℕ) : Type 0 where
  pub size : length out ≡ n
  pub front : (i : ℕ) → i < x → get_or out i 0 ≡ f i

module _ {f : ℕ → ℕ} {n : ℕ} {out : List ℕ} where
  pub begun-none : length out ≡ n → Begun f n out 0
  begun-none e = record { size = e; front = λ i l. absurd (not-suc-le-zero l) }

  -- the right store at x
  pub begun_more : {x v : ℕ} → Begun f n out x → x < n → v ≡ f x → Begun f n (set out x v) (x + 1)
  begun_more {x} {v} b l e = record {
    size = length-set out x v ∙ b.size;
    front = filled f out x v 0 (omega (arith, b.size)) b.front e;
  }

  pub begun-end : {x : ℕ} → Begun f n out x → n ≤ x → out ≡ table f 0 n
  begun-end b l = table_is f n out 0 b.size (λ i g. b.front i (omega arith))
