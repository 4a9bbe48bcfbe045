-- The number of an answer is that of the first test that fails (R60): so a call is declined by the number of its refusal.
-- Assumes nothing.
use mathlib.Core.Path.{◌≡◌, refl}
use Prim.Native.Nat.{ℕ}
use Rattle.plane.specs.Refusal.{answer_for, refusal_of_answer}
use Rattle.plane.proofs.Refusal.{number-of-answer}
use Rattle.geometry.specs.Refusal.{plane_refusal, nearest_refusal, fill_refusal, crop_refusal}

pub plane-number : {A : Type 0} (h w mask out work : ℕ) (v : A)
    → refusal_of_answer (answer_for (plane_refusal h w mask out work) v) ≡ plane_refusal h w mask out work
unfolding plane_refusal
plane-number h w mask out work v = number-of-answer _ v refl

pub nearest-number : {A : Type 0} (h w mask rows cols work : ℕ) (v : A)
    → refusal_of_answer (answer_for (nearest_refusal h w mask rows cols work) v) ≡ nearest_refusal h w mask rows cols work
unfolding nearest_refusal
nearest-number h w mask rows cols work v = number-of-answer _ v refl

pub fill-number : {A : Type 0} (h w colours mask out work : ℕ) (v : A)
    → refusal_of_answer (answer_for (fill_refusal h w colours mask out work) v) ≡ fill_refusal h w colours mask out work
unfolding fill_refusal
fill-number h w colours mask out work v = number-of-answer _ v refl

pub crop-number : {A : Type 0} (n h w y0 y1 x0 x1 y : ℕ) (v : A)
    → refusal_of_answer (answer_for (crop_refusal n h w y0 y1 x0 x1 y) v) ≡ crop_refusal n h w y0 y1 x0 x1 y
unfolding crop_refusal
crop-number n h w y0 y1 x0 x1 y v = number-of-answer _ v refl
