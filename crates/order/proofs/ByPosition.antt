-- Without the normals setting panels go by positions alone: the faces may be read as if every texture point and normal were missing.
-- Assumes nothing.
use mathlib.Core.Path.{◌≡◌, refl, sym, ap, ap₂, ◌∙◌}
use mathlib.Core.Bool.{false}
use mathlib.Core.List.{List, [], ◌∷◌, ◌++◌, map}
use Prim.Native.Nat.{ℕ, suc, ◌<◌}
use native.Mathlib.Omega.{arith}
use lib.ListN.{length, get_or, length-map, get_or-map}
use Rattle.lists.specs.Lists.{together}
use Rattle.mesh.specs.Mesh.{Corner, Ring, position}
use Rattle.edges.specs.Edges.{run_edges}
use Rattle.keys.specs.Keys.{Key, key_of, Use, face_keys, uses_from}
use Rattle.searching.specs.Search.{panels_from}
use Rattle.panels.specs.Panels.{joins_from, panels}
use Rattle.order.specs.Same.{Turned, Matching}
use Rattle.order.specs.Demand.{by_position}
use Rattle.order.specs.Pairs.{bare}
use Rattle.order.proofs.Matched.{faces_map, matched_map}
use Rattle.order.proofs.Panelwise.{Full, panels_matched}

-- ---- the faces with their positions alone

abbrev pub barely : List Ring → List Ring
barely fs = map (map bare) (by_position fs)

run_barely : (a : Corner) (r : Ring) (z : Corner)
    → map (key_of false) (run_edges (bare (position a)) (map bare (map position r)) (bare (position z))) ≡ map (key_of false) (run_edges a r z)
unfolding key_of
run_barely a [] z = refl
run_barely a (b ∷ r) z = ap (λ (l : List Key). key_of false (a, b) ∷ l) (run_barely b r z)

keys_barely : (f : Ring) → face_keys false (map bare (map position f)) ≡ face_keys false f
keys_barely [] = refl
keys_barely (a ∷ r) = run_barely a r a

uses_barely : (i : ℕ) (fs : List Ring) → uses_from false i (barely fs) ≡ uses_from false i fs
uses_barely i [] = refl
uses_barely i (f ∷ fs) = ap₂ (λ (ks : List Key) (us : List Use). map (λ k. (i, k)) ks ++ us) (keys_barely f) (uses_barely (suc i) fs)

length_barely : (fs : List Ring) → length (barely fs) ≡ length fs
length_barely fs = length-map (by_position fs) (map bare) ∙ length-map fs (map position)

pub panels_barely : (fs : List Ring) → panels false (barely fs) ≡ panels false fs
unfolding panels
panels_barely fs = λ i. panels_from (length_barely fs i) 0 (length_barely fs i) (joins_from [] (uses_barely 0 fs i)) []

-- ---- faces matched by their positions

full_barely : (fs : List Ring) → Full fs → Full (barely fs)
full_barely fs full x l =
    let a : length (get_or (barely fs) x []) ≡ length (get_or fs x []) =
    ap length (get_or-map (map bare) (by_position fs) x [])
    ∙ length-map (get_or (by_position fs) x []) bare
    ∙ ap length (get_or-map (map position) fs x [])
    ∙ length-map (get_or fs x []) position in
    let b : 0 < length (get_or fs x []) = full x (omega (arith, length_barely fs)) in
    omega arith

pub panels_by_position :
    (m n : List Ring)
    → Matching (by_position m) (by_position n)
    → Full m
    → Full n
    → (a b c d : ℕ) → a < length (by_position m) → c < length (by_position n)
    → Turned (get_or (by_position m) a []) (get_or (by_position n) c [])
    → Turned (get_or (by_position m) b []) (get_or (by_position n) d [])
    → together a b (panels false m) ≡ together c d (panels false n)
panels_by_position m n r f g a b c d la lc s t =
    ap (together a b) (sym (panels_barely m))
    ∙ panels_matched false (matched_map bare r) (full_barely m f) (full_barely n g) a b c d
    (omega (arith, length-map (by_position m) (map bare)))
    (omega (arith, length-map (by_position n) (map bare)))
    (faces_map bare (by_position m) (by_position n) a c s)
    (faces_map bare (by_position m) (by_position n) b d t)
    ∙ ap (together c d) (panels_barely n)
