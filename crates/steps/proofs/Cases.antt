-- An answer that is none of the cases before: which ones are left. Assumes nothing.
use mathlib.Core.Path.{◌≡◌, refl, sym, ap, ◌∙◌}
use mathlib.Core.Bool.{Bool}
use mathlib.Core.List.{List}
use Prim.Native.Nat.{ℕ, ◌≤◌}
use Rattle.floating.specs.declared.Point.{Point}
use Rattle.floating.specs.declared.Texel.{Texel}
use native.Mathlib.Omega.{arith}
use lib.ListN.{length}
use Rattle.mesh.specs.Mesh.{Mesh}
use Rattle.records.specs.declared.Record.{Record}
use Rattle.records.specs.declared.Record.TheVariants.{Position, Texture, Normal, Face, End, Refused}
use Rattle.records.specs.Records.{number_of}
use Rattle.steps.specs.declared.Progress.{Progress}
use Rattle.steps.specs.Working.{case_of, stopped_with, Able, Stepped}
use Rattle.steps.proofs.Ends.{refusal_taken}

-- the last case is a refusal
pub not_end : (r : Record) → 4 ≤ case_of r → (r ≡ End → ⊥) → r ≡ Refused (number_of r)
not_end (Position p) h k = absurd (let z : 4 ≤ 0 = h in omega arith)
not_end (Texture p) h k = absurd (let z : 4 ≤ 1 = h in omega arith)
not_end (Normal p) h k = absurd (let z : 4 ≤ 2 = h in omega arith)
not_end (Face a n m) h k = absurd (let z : 4 ≤ 3 = h in omega arith)
not_end End h k = absurd (k refl)
not_end (Refused n) h k = refl

-- the case after the one that was looked for
pub after_position : (r : Record) → ((p : Point) → r ≡ Position p → ⊥) → 1 ≤ case_of r
after_position (Position p) k = absurd (k p refl)
after_position (Texture p) k = omega arith
after_position (Normal p) k = omega arith
after_position (Face a n m) k = omega arith
after_position End k = omega arith
after_position (Refused n) k = omega arith

pub after_texture : (r : Record) → 1 ≤ case_of r → ((t : Texel) → r ≡ Texture t → ⊥) → 2 ≤ case_of r
after_texture (Position p) h k = absurd (let z : 1 ≤ 0 = h in omega arith)
after_texture (Texture p) h k = absurd (k p refl)
after_texture (Normal p) h k = omega arith
after_texture (Face a n m) h k = omega arith
after_texture End h k = omega arith
after_texture (Refused n) h k = omega arith

pub after_normal : (r : Record) → 2 ≤ case_of r → ((p : Point) → r ≡ Normal p → ⊥) → 3 ≤ case_of r
after_normal (Position p) h k = absurd (let z : 2 ≤ 0 = h in omega arith)
after_normal (Texture p) h k = absurd (let z : 2 ≤ 1 = h in omega arith)
after_normal (Normal p) h k = absurd (k p refl)
after_normal (Face a n m) h k = omega arith
after_normal End h k = omega arith
after_normal (Refused n) h k = omega arith

pub after_face : (r : Record) → 3 ≤ case_of r → ((a n : ℕ) (m : Bool) → r ≡ Face a n m → ⊥) → 4 ≤ case_of r
after_face (Position p) h k = absurd (let z : 3 ≤ 0 = h in omega arith)
after_face (Texture p) h k = absurd (let z : 3 ≤ 1 = h in omega arith)
after_face (Normal p) h k = absurd (let z : 3 ≤ 2 = h in omega arith)
after_face (Face a n m) h k = absurd (k a n m refl)
after_face End h k = omega arith
after_face (Refused n) h k = omega arith

-- a reader stops with the number of an answer that is neither of the cases before nor the end record
pub refusal_step :
    (file : List ℕ) (r : Record) (x : Progress) (l : Mesh) (size : ℕ) (y : Progress) (k : ℕ) → Able size r x → 4 ≤ case_of r → (r ≡ End → ⊥)
    → k ≡ number_of r → y ≡ stopped_with x k → length file ≡ size → Stepped file r x y l l
refusal_step file r x l size y k a h o e f n =
    let i : r ≡ Refused k = not_end r h o ∙ ap Refused (sym e) in
    rw (i, f) (refusal_taken file x k l (rw (i, ← n) at a))
