-- Folded faces are told by positions: the removal reads no mark, and moves it. Assumes nothing.
use mathlib.Core.Path.{◌≡◌, refl, sym, ap, ap₂, ◌∙◌, fun_ext}
use mathlib.Core.Bool.{Bool, true, false}
use mathlib.Core.List.{List, [], ◌∷◌, map, map-map}
use Prim.Native.Nat.{ℕ}
use lib.ListN.{length, get_or, length-map, get_or-map}
use lib.Dec.{eqb}
use Rattle.lists.specs.Lists.{every, each, joined, span}
use Rattle.mesh.specs.Mesh.{Mesh, mesh_of, Corner, Ring, position, mark, faces}
use Rattle.mesh.proofs.Faces.{is_ring, rings_are}
use Rattle.splitting.specs.Splitting.{folded_by, pieces_by}
use Rattle.folding.specs.Folding.{fold_of, pieces}
use Rattle.folding.specs.Places.{triangle_places, quadrangle_places, position_in, ring_places, places}
use Rattle.folding.proofs.Places.{places_read}
use Rattle.removal.specs.Origins.{origins_of}
use Rattle.removal.specs.Folded.{removed, unfolded_mesh}
use Rattle.removal.proofs.Accepted.{faces_unfolded}
use Rattle.unused.proofs.Columns.{lengths_map}
use Rattle.anyorder.proofs.Changed.{removed_changed, origins_changed}
use Rattle.marks.specs.Marks.{remarked, remarked_faces, remarked_mesh, Unread, Moved}
use Rattle.marks.proofs.Remarked.{position_kept, column_remarked, faces_remarked, written_remarked}

-- ---- what the removal leaves, and the origins

all : (fs : List Ring) → every (every (λ (c : Corner). true)) fs ≡ true
all [] = refl
all ([] ∷ fs) = all fs
all ((c ∷ r) ∷ fs) = all (r ∷ fs)

module _ (g : ℕ → ℕ) (m : Mesh) where
  agree : (a b : Corner) → ◌≡◌ {A = Bool} true true → ◌≡◌ {A = Bool} true true
      → eqb (position (remarked g a)) (position (remarked g b)) ≡ eqb (position a) (position b)
  agree a b s t = ap₂ eqb (position_kept g a) (position_kept g b)

  removed_remarked : removed (faces (remarked_mesh g m)) ≡ remarked_faces g (removed (faces m))
  removed_remarked = ap removed (faces_remarked g m) ∙ removed_changed (remarked g) (λ c. true) agree (faces m) (all (faces m))

  removed_rings : every is_ring (removed (faces m)) ≡ true
  unfolding faces
  removed_rings = ap (every is_ring) (sym (faces_unfolded m)) ∙ rings_are (unfolded_mesh m).sizes (unfolded_mesh m).corners

pub unfolded_moves : Moved unfolded_mesh
unfolding unfolded_mesh remarked_mesh
unfolded_moves g m h =
    let c : each joined (removed (faces (remarked_mesh g m))) ≡ remarked g (each joined (removed (faces m))) =
    ap (each joined) (removed_remarked g m) ∙ sym (written_remarked g (removed (faces m)) (removed_rings g m)) in
    let s : map length (removed (faces (remarked_mesh g m))) ≡ map length (removed (faces m)) =
    ap (map length) (removed_remarked g m) ∙ lengths_map (remarked g) (removed (faces m)) in
    λ i. mesh_of m.positions m.textures m.normals (c i) (s i)

pub origins_unread : Unread (λ m. origins_of (faces m))
origins_unread g m = ap origins_of (faces_remarked g m) ∙ origins_changed (remarked g) (λ c. true) (agree g m) (faces m) (all (faces m))

-- ---- the corners that a piece takes

module _ (g : ℕ → ℕ) (r : Ring) where
  at_kept : (k : ℕ) → position_in (map (remarked g) r) k ≡ position_in r k
  at_kept k = ap position (get_or-map (remarked g) r k []) ∙ position_kept g (get_or r k [])

  triangle_kept : triangle_places (map (remarked g) r) ≡ triangle_places r
  unfolding triangle_places folded_by
  triangle_kept = rw (column_remarked g position (position_kept g) r, triangle_places)

  quadrangle_kept : quadrangle_places (map (remarked g) r) ≡ quadrangle_places r
  unfolding quadrangle_places fold_of
  quadrangle_kept = rw (at_kept 0, at_kept 1, at_kept 2, at_kept 3)

  ring_kept : ring_places (map (remarked g) r) ≡ ring_places r
  ring_kept = ap₂ (λ (key : ℕ → ℕ) (n : ℕ). pieces_by key (span 0 n)) (fun_ext at_kept) (length-map r (remarked g))

  pub places_kept : places (map (remarked g) r) ≡ places r
  unfolding places
  places_kept =
      let n : length (map (remarked g) r) ≡ length r = length-map r (remarked g) in
      λ i.
      elim (eqb (n i) 3) [
        | true ↦ triangle_kept i
        | false ↦ elim (eqb (n i) 4) [ true ↦ quadrangle_kept i | false ↦ ring_kept i ]
      ]

pub marks_at_places : (r : Ring) → map (map mark) (pieces r) ≡ map (map (λ k. mark (get_or r k []))) (places r)
marks_at_places r =
    ap (map (map mark)) (places_read r)
    ∙ map-map (map mark) (map (λ k. get_or r k [])) (places r)
    ∙ ap (λ (f : List ℕ → List ℕ). map f (places r)) (fun_ext (λ (l : List ℕ). map-map mark (λ k. get_or r k []) l))
