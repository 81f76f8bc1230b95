-- Edge keys are read from positions and normals alone, and so panels. Assumes nothing.
use mathlib.Core.Path.{◌≡◌, refl, ap₂}
use mathlib.Core.Bool.{Bool}
use mathlib.Core.List.{List, [], ◌∷◌, ◌++◌, map}
use Prim.Native.Nat.{ℕ, suc}
use lib.ListN.{length, length-map}
use Rattle.mesh.specs.Mesh.{Corner, Ring}
use Rattle.mesh.specs.Edges.{run_edges}
use Rattle.keys.specs.Keys.{Key, key_of, Use, face_keys, uses_from}
use Rattle.searching.specs.Search.{panels_from}
use Rattle.panels.specs.Panels.{joins_from, panels}
use Rattle.marks.specs.Marks.{remarked, remarked_faces}
use Rattle.marks.proofs.Remarked.{position_kept, normal_kept}

module _ (g : ℕ → ℕ) (normals : Bool) where
  key_remarked : (a b : Corner) → key_of normals (remarked g a, remarked g b) ≡ key_of normals (a, b)
  unfolding key_of
  key_remarked a b = rw (position_kept g a, position_kept g b, normal_kept g a, normal_kept g b)

  run_remarked : (a : Corner) (r : Ring) (z : Corner)
      → map (key_of normals) (run_edges (remarked g a) (map (remarked g) r) (remarked g z)) ≡ map (key_of normals) (run_edges a r z)
  run_remarked a [] z = ap₂ (λ (k : Key) (l : List Key). k ∷ l) (key_remarked a z) refl
  run_remarked a (b ∷ r) z = ap₂ (λ (k : Key) (l : List Key). k ∷ l) (key_remarked a b) (run_remarked b r z)

  keys_remarked : (f : Ring) → face_keys normals (map (remarked g) f) ≡ face_keys normals f
  keys_remarked [] = refl
  keys_remarked (a ∷ r) = run_remarked a r a

  uses_remarked : (i : ℕ) (fs : List Ring) → uses_from normals i (remarked_faces g fs) ≡ uses_from normals i fs
  uses_remarked i [] = refl
  uses_remarked i (f ∷ fs) = ap₂ (λ (ks : List Key) (us : List Use). map (λ k. (i, k)) ks ++ us) (keys_remarked f) (uses_remarked (suc i) fs)

  pub panels_remarked : (fs : List Ring) → panels normals (remarked_faces g fs) ≡ panels normals fs
  unfolding panels
  panels_remarked fs =
      let l : length (remarked_faces g fs) ≡ length fs = length-map fs (map (remarked g)) in
      λ i. panels_from (l i) 0 (l i) (joins_from [] (uses_remarked 0 fs i)) []
