-- The rows, one by one, and what they leave known of a mesh: that its faces are the triangles of its corners. Assumes nothing.
use mathlib.Core.Path.{◌≡◌, sym, ap, ◌∙◌}
use mathlib.Core.Bool.{true, false, not, ◌||◌}
use mathlib.Core.List.{List, [], ◌∷◌}
use Prim.Native.Nat.{ℕ}
use lib.Dec.{eqb}
use lib.Ieee.{Float}
use borrow.Author.Tests.{not-false}
use Rattle.lists.specs.Lists.{some, every}
use Rattle.lists.proofs.Bools.{or_neither}
use Rattle.mesh.specs.Limits.{least_ring}
use Rattle.mesh.specs.Mesh.{Mesh, Ring, faces, rings, position_count}
use Rattle.mesh.specs.Table.{when, mesh_number}
use Rattle.mesh.specs.Edges.{edges_of}
use Rattle.mesh.proofs.Accepted.{accepted}
use Rattle.mesh.proofs.Numbers.{first_is}
use Rattle.verdicts.specs.Edges.{verdict}
use Rattle.folding.specs.Folding.{folded}
use Rattle.floating.specs.Limits.{boundless}
use Rattle.smoothed.specs.Smoothed.{all_used}
use Rattle.smoothed.specs.Columns.{triangles, Triangular}
use Rattle.smoothed.specs.Refusals.{boundless_position, other_face, folded_or_idle, oriented, unoriented, unfit_list}
use Rattle.smoothed.proofs.All.{all_map, all_fail, every_back}
use Rattle.smoothed.proofs.Triangles.{faces_triangles, triangular_mesh}
use Rattle.smoothable.specs.Early.{early_number}

-- no size is another than 3
pub all_three : (m : Mesh) → other_face m ≡ false → every (λ k. eqb k least_ring) m.sizes ≡ true
unfolding other_face
all_three m h =
    every_back (λ k. eqb k least_ring)
    (all_map (λ k e. not-false (eqb k least_ring) e) (all_fail (λ k. not (eqb k least_ring)) m.sizes h))

module _ (m : Mesh) (ones twos : List Float) where
  pub early_mesh : (n : ℕ) → n ≡ mesh_number m → (n ≡ 0 → ⊥) → n ≡ early_number m ones twos
  unfolding early_number
  early_mesh n e h =
      let rows : List ℕ =
      when (boundless_position m) 7
      ∷ when (other_face m) 15
      ∷ when (folded_or_idle m) 16
      ∷ when (unoriented m) 10
      ∷ when (unfit_list ones || unfit_list twos) 17
      ∷ [] in
      e ∙ sym (first_is (mesh_number m) rows (λ z. h (e ∙ z)))

  module _ (ok : mesh_number m ≡ 0) where
    pub early_7 : some boundless m.positions ≡ true → 7 ≡ early_number m ones twos
    unfolding early_number boundless_position
    early_7 e = rw (ok, e)

    module _ (bounded : some boundless m.positions ≡ false) where
      pub early_15 : some (λ k. not (eqb k least_ring)) m.sizes ≡ true → 15 ≡ early_number m ones twos
      unfolding early_number boundless_position other_face
      early_15 e = rw (ok, bounded, e)

      module _ (three : some (λ k. not (eqb k least_ring)) m.sizes ≡ false) where
        abbrev fs : List Ring
        fs = triangles m.corners

        same_faces : faces m ≡ fs
        unfolding other_face
        same_faces = faces_triangles m (accepted m ok).sound (all_three m three)

        pub triangular : Triangular m.corners (position_count m)
        unfolding other_face
        triangular = triangular_mesh m ok (all_three m three)

        folded_idle : folded_or_idle m ≡ (some folded fs || not (all_used (position_count m) fs))
        unfolding folded_or_idle
        folded_idle = ap (λ (l : List Ring). some folded l || not (all_used (position_count m) l)) same_faces

        pub early_16 : (some folded fs || not (all_used (position_count m) fs)) ≡ true → 16 ≡ early_number m ones twos
        unfolding early_number boundless_position other_face
        early_16 e = rw (ok, bounded, three, folded_idle, e)

        module _ (unfolded : (some folded fs || not (all_used (position_count m) fs)) ≡ false) where
          pub early_10 : not (oriented (verdict (edges_of (rings m.sizes m.corners)))) ≡ true → 10 ≡ early_number m ones twos
          unfolding early_number boundless_position other_face unoriented faces
          early_10 e = rw (ok, bounded, three, folded_idle, unfolded, e)

          module _ (in_order : not (oriented (verdict (edges_of (rings m.sizes m.corners)))) ≡ false) where
            pub early_17 : (unfit_list ones || unfit_list twos) ≡ true → 17 ≡ early_number m ones twos
            unfolding early_number boundless_position other_face unoriented faces
            early_17 e = rw (ok, bounded, three, folded_idle, unfolded, in_order, e)

            pub early_0 : unfit_list ones ≡ false → unfit_list twos ≡ false → 0 ≡ early_number m ones twos
            unfolding early_number boundless_position other_face unoriented faces
            early_0 e f = rw (ok, bounded, three, folded_idle, unfolded, in_order, or_neither (unfit_list ones) (unfit_list twos) e f)
