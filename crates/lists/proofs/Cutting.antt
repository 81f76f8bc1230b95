-- The parts of a flat list: how many they are, where each stands, and that lists one behind the other come back. Assumes nothing.
use mathlib.Core.Path.{◌≡◌, refl, ap, ◌∙◌}
use mathlib.Core.List.{List, [], ◌∷◌, map}
use Prim.Native.Nat.{ℕ, zero, suc, ◌<◌}
use native.Mathlib.Nat.{le_of_suc-le-suc, not-suc-le-zero}
use lib.ListN.{length, get_or, take, drop}
use lib.Seq.{drop-drop, take-append_seam, drop-append_seam}
use Rattle.lists.specs.Lists.{sum, joined}
use Rattle.lists.specs.Cutting.{parts}

module _ {A : Type 0} where
  pub length_parts : (s : List ℕ) (flat : List A) → length (parts s flat) ≡ length s
  length_parts [] flat = refl
  length_parts (n ∷ s) flat = ap suc (length_parts s (drop n flat))

  -- part k stands behind those before it
  pub parts_at :
      (s : List ℕ) (flat : List A) (k : ℕ) → k < length s
      → get_or (parts s flat) k [] ≡ take (get_or s k 0) (drop (sum (take k s)) flat)
  parts_at [] flat k h = absurd (not-suc-le-zero h)
  parts_at (n ∷ s) flat zero h = refl
  parts_at (n ∷ s) flat (suc k) h =
      parts_at s (drop n flat) k (le_of_suc-le-suc h) ∙ ap (take (get_or s k 0)) (drop-drop (sum (take k s)) n flat)

  -- lists that are written one behind the other are the parts by their lengths
  pub parts_back : (ls : List (List A)) → parts (map length ls) (joined ls) ≡ ls
  parts_back [] = refl
  parts_back (l ∷ ls) = rw (take-append_seam, drop-append_seam) (ap (λ (t : List (List A)). l ∷ t) (parts_back ls))
