-- Corners that are written place by place. Assumes nothing.
use mathlib.Core.Path.{◌≡◌, refl, sym, ap, ◌∙◌}
use mathlib.Core.List.{List, [], ◌∷◌, ◌++◌, map, map-append}
use Prim.Native.Nat.{ℕ, ◌+◌, ◌*◌, ◌≤◌, ◌<◌}
use native.Mathlib.Numerals.{add-one}
use native.Mathlib.Omega.{arith}
use lib.ListN.{length, get_or, take}
use lib.Seq.{sets, take-suc, length-take-le, length-sets}
use Rattle.lists.specs.Lists.{joined}
use Rattle.lists.proofs.Parts.{joined_append}
use Rattle.lists.proofs.Writing.{sets_append}
use Rattle.mesh.specs.Limits.{width}
use Rattle.mesh.specs.Mesh.{corner_at}

-- the corners at the first k places stand from b on
pub record Placing (face ps l l' : List ℕ) (b k : ℕ) : Type 0 where
  pub within : k ≤ length ps
  pub written : l' ≡ sets l b (joined (map (corner_at face) (take k ps)))
  pub long : length l' ≡ length l

module _ (face : List ℕ) where
  -- as many numbers for each place as a corner has
  length_corners : (ps : List ℕ) → length (joined (map (corner_at face) ps)) ≡ width * length ps
  length_corners [] = refl
  length_corners (p ∷ ps) = let e : length (joined (map (corner_at face) ps)) ≡ width * length ps = length_corners ps in omega arith

  one_more : (ps : List ℕ) (k : ℕ) → k < length ps
      → joined (map (corner_at face) (take (k + 1) ps)) ≡ joined (map (corner_at face) (take k ps)) ++ corner_at face (get_or ps k 0)
  one_more ps k h =
      ap (λ (n : ℕ). joined (map (corner_at face) (take n ps))) (add-one k)
      ∙ ap (λ (t : List ℕ). joined (map (corner_at face) t)) (take-suc ps k 0 h)
      ∙ ap joined (map-append (corner_at face) (take k ps) (get_or ps k 0 ∷ []))
      ∙ joined_append (map (corner_at face) (take k ps)) (corner_at face (get_or ps k 0) ∷ [])

  pub place_turns : (ps l l' l'' : List ℕ) (b k : ℕ) → k < length ps → l'' ≡ sets l' (b + width * k) (corner_at face (get_or ps k 0)) → Placing face ps l l' b k
      → Placing face ps l l'' b (k + 1)
  place_turns ps l l' l'' b k h e c =
      let m : length (take k ps) ≡ k = length-take-le k ps (omega arith) in
      let n : length (joined (map (corner_at face) (take k ps))) ≡ width * k = length_corners (take k ps) ∙ ap (λ (j : ℕ). width * j) m in
      let x = corner_at face (get_or ps k 0) in
      record {
        within = omega arith;
        written =
            e
            ∙ ap (λ (t : List ℕ). sets t (b + width * k) x) c.written
            ∙ ap (λ (j : ℕ). sets (sets l b (joined (map (corner_at face) (take k ps)))) (b + j) x) (sym n)
            ∙ sym (sets_append l b (joined (map (corner_at face) (take k ps))) x)
            ∙ ap (sets l b) (sym (one_more ps k h));
        long = ap length e ∙ length-sets l' (b + width * k) x ∙ c.long;
      }
