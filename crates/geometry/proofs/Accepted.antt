-- What a call's refusal says: of its answer, and, where it is 0, of the buffers' lengths.
-- Assumes nothing.
use mathlib.Core.Path.{◌≡◌, refl, sym, ◌∙◌}
use mathlib.Core.List.{List}
use Prim.Native.Nat.{ℕ, ◌+◌, ◌*◌, ◌≤◌, ◌<◌}
use native.Mathlib.Nat.{mul-le-mul}
use native.Mathlib.Omega.{arith}
use borrow.Author.Tests.{eqb-true, leb-true, ltb-true}
use Rattle.plane.specs.steps.Sides.{Sides}
use Rattle.plane.specs.declared.size.Size.{Size}
use Rattle.std.specs.Prelude.{Ok, Err}
use Rattle.plane.specs.declared.answer.Refusal.{Refusal}
use Rattle.plane.specs.Refusal.{room_for, done_for}
use Rattle.plane.proofs.Plane.{row_in, area-most}
use Rattle.plane.proofs.Refusal.{Within, passed, accepted, is-declined, written, kept, sides-are, sides-within, three-lines}
use Rattle.geometry.specs.Refusal.{plane_refusal, nearest_refusal, fill_refusal, crop_refusal}
use Rattle.geometry.specs.Calls.{PlaneCalled}

-- ---- answers

-- a call that is declined leaves its output and its work buffer as they were
pub plane-refused : {refusal : ℕ} {new work out : List ℕ} {r : Refusal} → Err r ≡ done_for refusal
    → PlaneCalled refusal new work out (Err r) work out
plane-refused {refusal} {r = r} e =
    record { answer = e; out_is = sym (kept _ _ _ (is-declined refusal tt r e)); kept = λ _. refl }

-- a call that is accepted has written its output
pub plane-made : {refusal : ℕ} {new work out work' out' : List ℕ} → refusal ≡ 0 → out' ≡ new
    → PlaneCalled refusal new work out (Ok tt) work' out'
plane-made z e = record { answer = sym (accepted _ _ z); out_is = e ∙ sym (written _ _ _ z); kept = λ bad. absurd (bad z) }

-- ---- lengths, by the sides that an accepted call goes on with

pub record PlaneOk (h w mask out work : ℕ) : Type 0 where
  pub within : Within h w
  pub input : mask ≡ h * w
  pub output : out ≡ h * w
  pub room : room_for h w ≤ work

pub plane-ok : (size : Size) (h w mask out work : ℕ) → (size.h ≡ h) × (size.w ≡ w) → plane_refusal h w mask out work ≡ 0
    → PlaneOk size.h size.w mask out work
unfolding plane_refusal
plane-ok size h w mask out work s e =
    let p = passed _ refl e in
    rw (s.0, s.1)
    (record {
      within = sides-within h w p.0;
      input = eqb-true _ _ p.1.0;
      output = eqb-true _ _ p.1.1.0;
      room = leb-true _ _ p.1.1.1.0;
    })

pub record NearestOk (h w mask rows cols work : ℕ) : Type 0 where
  pub input : mask ≡ h * w
  pub rows_long : rows ≡ h * w
  pub cols_long : cols ≡ h * w
  pub room : h * w + 3 * w ≤ work

pub nearest-ok : (size : Size) (h w mask rows cols work : ℕ) → (size.h ≡ h) × (size.w ≡ w) → nearest_refusal h w mask rows cols work ≡ 0
    → NearestOk size.h size.w mask rows cols work
unfolding nearest_refusal
nearest-ok size h w mask rows cols work s e =
    let p = passed _ refl e in
    rw (s.0, s.1)
    (record {
      input = eqb-true _ _ p.1.0;
      rows_long = eqb-true _ _ p.1.1.0;
      cols_long = eqb-true _ _ p.1.1.1.0;
      room = three-lines h w _ (sides-are h w p.0) (leb-true _ _ p.1.1.1.1.0);
    })

pub record FillOk (h w colours mask out work : ℕ) : Type 0 where
  pub colours_long : colours ≡ 3 * (h * w)
  pub input : mask ≡ h * w
  pub output : out ≡ 3 * (h * w)
  pub room : h * w + 3 * w ≤ work

pub fill-ok : (size : Size) (h w colours mask out work : ℕ) → (size.h ≡ h) × (size.w ≡ w) → fill_refusal h w colours mask out work ≡ 0
    → FillOk size.h size.w colours mask out work
unfolding fill_refusal
fill-ok size h w colours mask out work s e =
    let p = passed _ refl e in
    rw (s.0, s.1)
    (record {
      colours_long = eqb-true _ _ p.1.0;
      input = eqb-true _ _ p.1.1.0;
      output = eqb-true _ _ p.1.1.1.0;
      room = three-lines h w _ (sides-are h w p.0) (leb-true _ _ p.1.1.1.1.0);
    })

-- the part of an accepted row lies in the plane
pub record InPlane (n w x0 x1 y : ℕ) : Type 0 where
  pub left : x0 < x1
  pub right : y * w + x1 ≤ n
  pub small : n ≤ 4294967296

pub in-plane : (n h w y0 y1 x0 x1 y : ℕ) → crop_refusal n h w y0 y1 x0 x1 y ≡ 0 → InPlane n w x0 x1 y
unfolding crop_refusal
in-plane n h w y0 y1 x0 x1 y e =
    let p = passed _ refl e in
    let s : Sides h w = sides-are h w p.0 in
    let whole : n ≡ h * w = eqb-true _ _ p.1.0 in
    let bottom : y1 ≤ h = leb-true _ _ p.1.1.1.0 in
    let column : x1 ≤ w = leb-true _ _ p.1.1.1.1.1.0 in
    let row : y < y1 = ltb-true _ _ p.1.1.1.1.1.1.1.0 in
    let r = row_in y h w (omega arith) in
    let m = area-most {h = h} {w = w} s.tall s.wide in
    record { left = ltb-true _ _ p.1.1.1.1.0; right = omega arith; small = omega arith }

-- the public calls' sides are small enough for what is written in 32 bits: squared distances, and labels
pub distances-fit : (h w : ℕ) → Within h w → h * h + w * w ≤ 4294967295
distances-fit h w s =
    let a = mul-le-mul {n₁ = h} {m₁ = h} s.tall s.tall in
    let b = mul-le-mul {n₁ = w} {m₁ = w} s.wide s.wide in
    omega arith

pub few-pixels : (h w : ℕ) → Within h w → h * w < 4294967296
few-pixels h w s = let a = mul-le-mul {n₁ = h} {m₁ = w} s.tall s.wide in omega arith
