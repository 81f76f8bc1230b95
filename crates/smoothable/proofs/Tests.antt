-- One test each: a triangle that is folded, a value within -1 to 1. Assumes nothing.
use mathlib.Core.Path.{◌≡◌, refl, sym, ap, ◌∙◌}
use mathlib.Core.Bool.{Bool, true, false, ◌&&◌}
use mathlib.Core.List.{List, []}
use Prim.Native.Nat.{ℕ, ◌<◌}
use lib.ListN.{get_or}
use lib.IntN.{pos}
use lib.Ieee.{Float, fin, binary64, of_bits, neg, le}
use Rattle.mesh.specs.Mesh.{Ring}
use Rattle.folding.specs.Folding.{folded}
use Rattle.floating.proofs.Literals.{one_is}
use Rattle.smoothed.specs.Columns.{triangles}
use Rattle.smoothed.specs.Refusals.{within_one}
use Rattle.smoothed.proofs.Triangles.{triangle_count, triangle_at, triangle_at_lem}

pub folded_here :
    (cs : List ℕ) (k : ℕ) (tri : Ring) (b : Bool) → k < triangle_count cs → tri ≡ triangle_at cs k → b ≡ folded tri
    → folded (get_or (triangles cs) k []) ≡ b
folded_here cs k tri b h e f = ap folded (triangle_at_lem cs k h ∙ sym e) ∙ sym f

-- as the code has the bounds
low_is : neg (of_bits binary64 0x3ff0_0000_0000_0000) ≡ fin true 1 (pos 0)
unfolding neg of_bits
low_is = refl

pub within_one_lem :
    (c : Float) → (le (neg (of_bits binary64 0x3ff0_0000_0000_0000)) c && le c (of_bits binary64 0x3ff0_0000_0000_0000)) ≡ within_one c
within_one_lem c = rw (low_is, one_is)

-- the lower bound first, then the upper one
pub within_one_above :
    (c : Float) → le (neg (of_bits binary64 0x3ff0_0000_0000_0000)) c ≡ true → le c (of_bits binary64 0x3ff0_0000_0000_0000) ≡ within_one c
within_one_above c h = ap (λ b. b && le c (of_bits binary64 0x3ff0_0000_0000_0000)) (sym h) ∙ within_one_lem c

pub within_one_below : (c : Float) → le (neg (of_bits binary64 0x3ff0_0000_0000_0000)) c ≡ false → le (neg (of_bits binary64 0x3ff0_0000_0000_0000)) c ≡ within_one c
within_one_below c h = h ∙ ap (λ b. b && le c (of_bits binary64 0x3ff0_0000_0000_0000)) (sym h) ∙ within_one_lem c
