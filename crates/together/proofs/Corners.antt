-- Corners with the representatives' indices, one after the other. Assumes nothing.
use mathlib.Core.Path.{◌≡◌, refl, sym, ap, ◌∙◌}
use mathlib.Core.List.{List, [], ◌∷◌, ◌++◌, map, map-append, append-nil}
use Prim.Native.Nat.{ℕ, suc, ◌+◌, ◌*◌, ◌/◌, ◌≤◌, ◌<◌}
use native.Mathlib.Omega.{arith}
use native.Mathlib.Numerals.{add-one}
use lib.ListN.{length, get_or, set, take}
use lib.Seq.{sets, length-sets, take-suc, take_all, length-take-le}
use Rattle.lists.specs.Lists.{joined}
use Rattle.lists.proofs.Parts.{joined_append}
use Rattle.lists.proofs.Writing.{sets_append}
use Rattle.mesh.specs.Limits.{width}
use Rattle.mesh.specs.Mesh.{Corner, corners_in, corner_at}
use Rattle.mesh.proofs.Corners.{length-corners_in, get_or-corners_in}
use Rattle.together.specs.Merging.{unless_missing}
use Rattle.together.specs.Working.{sent_corner}

-- ---- one index

-- ---- the corners, of which the first k are written

length_sent : (p t n : List ℕ) (r : List Corner) → length (joined (map (sent_corner p t n) r)) ≡ width * length r
unfolding sent_corner
length_sent p t n [] = refl
length_sent p t n (c ∷ r) = let e : length (joined (map (sent_corner p t n) r)) ≡ width * length r = length_sent p t n r in omega arith

pub record Writing (cs p t n out out' : List ℕ) (k : ℕ) : Type 0 where
  pub within : k ≤ length cs / width
  pub written : out' ≡ sets out 0 (joined (map (sent_corner p t n) (take k (corners_in cs))))
  pub long : length out' ≡ length out

module _ (cs p t n out : List ℕ) where
  module _ (out' : List ℕ) (k : ℕ) (h : k < length cs / width) (g : Writing cs p t n out out' k) where
    -- the first corners, as they are written
    abbrev front : ℕ → List ℕ
    front j = joined (map (sent_corner p t n) (take j (corners_in cs)))

    abbrev corner : Corner
    corner = sent_corner p t n (corner_at cs k)

    front_more : front (k + 1) ≡ front k ++ corner
    front_more =
        let l : length (corners_in cs) ≡ length cs / width = length-corners_in cs in
        let first = take k (corners_in cs) in
        let q : take (k + 1) (corners_in cs) ≡ first ++ (corner_at cs k ∷ []) =
        rw (add-one k, take-suc (corners_in cs) k [] (omega arith), get_or-corners_in cs k h) in
        ap (λ (r : List Corner). joined (map (sent_corner p t n) r)) q
        ∙ ap joined (map-append (sent_corner p t n) first (corner_at cs k ∷ []))
        ∙ joined_append (map (sent_corner p t n) first) (corner ∷ [])
        ∙ ap (λ (x : List ℕ). front k ++ x) (append-nil corner)

    one_more : sets (sets out 0 (front k)) (width * k) corner ≡ sets out 0 (front (k + 1))
    one_more =
        let l : length (corners_in cs) ≡ length cs / width = length-corners_in cs in
        let e : width * k ≡ 0 + length (front k) =
        omega (arith, length_sent p t n (take k (corners_in cs)), length-take-le k (corners_in cs) (omega arith)) in
        ap (λ (j : ℕ). sets (sets out 0 (front k)) j corner) e ∙ sym (sets_append out 0 (front k) corner) ∙ ap (sets out 0) (sym front_more)

    pub write_turns :
        (a b c d : ℕ)
        → a ≡ get_or p (get_or cs (width * k) 0) 0
        → b ≡ unless_missing (λ i. get_or t i 0) (get_or cs (width * k + 1) 0)
        → c ≡ unless_missing (λ i. get_or n i 0) (get_or cs (width * k + 2) 0)
        → d ≡ get_or cs (width * k + 3) 0
        → Writing cs p t n out (set (set (set (set out' (width * k) a) (width * k + 1) b) (width * k + 2) c) (width * k + 3) d) (k + 1)
    unfolding sent_corner
    write_turns a b c d x y z u =
        let e : width * k + 1 ≡ suc (width * k) = omega arith in
        let e' : width * k + 2 ≡ suc (suc (width * k)) = omega arith in
        let e'' : width * k + 3 ≡ suc (suc (suc (width * k))) = omega arith in
        let w : set (set (set (set out' (width * k) a) (width * k + 1) b) (width * k + 2) c) (width * k + 3) d ≡ sets out' (width * k) (a ∷ b ∷ c ∷ d ∷ []) =
        ap (λ (j : ℕ). set (set (set (set out' (width * k) a) j b) (width * k + 2) c) (width * k + 3) d) e
        ∙ ap (λ (j : ℕ). set (set (set (set out' (width * k) a) (suc (width * k)) b) j c) (width * k + 3) d) e'
        ∙ ap (λ (j : ℕ). set (set (set (set out' (width * k) a) (suc (width * k)) b) (suc (suc (width * k))) c) j d) e'' in
        let v : (a ∷ b ∷ c ∷ d ∷ []) ≡ corner = cc in
        record {
          within = omega arith;
          written = w ∙ ap (sets out' (width * k)) v ∙ ap (λ (o : List ℕ). sets o (width * k) corner) g.written ∙ one_more;
          long = ap length w ∙ length-sets out' (width * k) (a ∷ b ∷ c ∷ d ∷ []) ∙ g.long;
        }

  pub write_ends :
      (out' : List ℕ) (k : ℕ) → length cs / width ≤ k → Writing cs p t n out out' k
      → out' ≡ sets out 0 (joined (map (sent_corner p t n) (corners_in cs)))
  write_ends out' k h g =
      let l : length (corners_in cs) ≡ length cs / width = length-corners_in cs in
      g.written ∙ ap (λ (r : List Corner). sets out 0 (joined (map (sent_corner p t n) r))) (take_all k (corners_in cs) (omega arith))
