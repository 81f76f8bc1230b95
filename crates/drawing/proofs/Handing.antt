-- The mesh that is handed over is the file's: the fronts of the reader's own lists, with the faces grouped. Assumes nothing.
use mathlib.Core.Path.{◌≡◌, refl, sym, ap, ◌∙◌}
use mathlib.Core.List.{List, ◌++◌}
use Prim.Native.Nat.{ℕ, ◌*◌}
use native.Mathlib.Omega.{arith}
use lib.ListN.{length, take, drop, length-map, length-append, take-append-drop}
use lib.Seq.{sets}
use lib.Ieee.{Float}
use Rattle.lists.specs.Lists.{joined, each}
use Rattle.lists.proofs.Writing.{sets_front}
use Rattle.mesh.specs.Limits.{width}
use Rattle.mesh.specs.Mesh.{Mesh, mesh_of, rings}
use Rattle.mesh.proofs.Faces.{is_ring}
use Rattle.grouping.specs.Push.{pushed, corner_count, Placed}
use Rattle.grouping.proofs.Placing.{length_flat}
use Rattle.grouping.proofs.Pushed.{every_pushed}
use Rattle.steps.specs.declared.Progress.{Progress}
use Rattle.reading.specs.Reading.{Drawn, read_all, mesh_drawn, panel_mesh}
use Rattle.drawing.specs.Working.{Drawing}
use Rattle.reading.specs.Answer.{Handed}
use Rattle.reading.proofs.Sane.{all_sane}
use Rattle.drawing.proofs.Fronts.{front_positions, front_textures, front_normals, own_rings}

-- what stands at the front of a list, written there, changes nothing
own_front : {A : Type 0} (l : List A) {k : ℕ} → length (take k l) ≡ k → l ≡ sets l 0 (take k l)
own_front l {k} e =
    sym (sets_front l (take k l) (omega (arith, length-append (take k l) (drop k l), ap length (take-append-drop k l))) ∙ ap (λ (n : ℕ). take k l ++ drop n l) e ∙ take-append-drop k l)

module _ (file : List ℕ) (x : Progress) (l : Mesh) (d : Drawing file x l) where
  abbrev drawn : Drawn
  drawn = (read_all file).drawn

  pub handed :
      (p1 p2 t1 t2 n1 n2 : List Float) (c1 c2 s1 s2 : List ℕ) (fc ff : ℕ)
      → p2 ≡ sets p1 0 (take (3 * x.positions) l.positions) → t2 ≡ sets t1 0 (take (2 * x.textures) l.textures) → n2 ≡ sets n1 0 (take (3 * x.normals) l.normals)
      → Placed (pushed (rings (take x.faces l.sizes) (take (width * x.corners) l.corners))) c1 c2 s1 s2 0 0 fc ff
      → Handed (panel_mesh file) (mesh_of p1 t1 n1 c1 s1) (mesh_of p2 t2 n2 c2 s2)
      (record { number = 0; positions = x.positions; textures = x.textures; normals = x.normals; corners = fc; faces = ff })
  unfolding panel_mesh mesh_drawn
  handed p1 p2 t1 t2 n1 n2 c1 c2 s1 s2 fc ff ep et en q =
      let fs = drawn.faces in
      let r : Placed (pushed fs) c1 c2 s1 s2 0 0 fc ff = rw (own_rings file x l d) at q in
      let a : length drawn.positions ≡ 3 * x.positions = ap length (sym d.holds.positions) ∙ front_positions file x l d in
      let b : length drawn.textures ≡ 2 * x.textures = ap length (sym d.holds.textures) ∙ front_textures file x l d in
      let e : length drawn.normals ≡ 3 * x.normals = ap length (sym d.holds.normals) ∙ front_normals file x l d in
      let f : length (each joined (pushed fs)) ≡ width * corner_count (pushed fs) = length_flat (pushed fs) (every_pushed is_ring fs (all_sane file).drawn.are_rings) in
      record {
        number = refl;
        position_count_is = omega arith;
        texture_count_is = omega arith;
        normal_count_is = omega arith;
        corner_count_is = omega (arith, r.more);
        face_count = omega (arith, r.most, length-map (pushed fs) length);
        positions = ep ∙ ap (sets p1 0) d.holds.positions;
        textures = et ∙ ap (sets t1 0) d.holds.textures;
        normals = en ∙ ap (sets n1 0) d.holds.normals;
        corners = r.corners;
        sizes = r.sizes;
      }

  -- coordinates that were drawn where they shall stand are handed over as they are
  pub gathered :
      (c1 c2 s1 s2 : List ℕ) (fc ff : ℕ)
      → Placed (pushed (rings (take x.faces l.sizes) (take (width * x.corners) l.corners))) c1 c2 s1 s2 0 0 fc ff
      → Handed (panel_mesh file) (mesh_of l.positions l.textures l.normals c1 s1) (mesh_of l.positions l.textures l.normals c2 s2)
      (record { number = 0; positions = x.positions; textures = x.textures; normals = x.normals; corners = fc; faces = ff })
  gathered c1 c2 s1 s2 fc ff q =
      handed l.positions l.positions l.textures l.textures l.normals l.normals c1 c2 s1 s2 fc ff
      (own_front l.positions (front_positions file x l d)) (own_front l.textures (front_textures file x l d))
      (own_front l.normals (front_normals file x l d)) q
