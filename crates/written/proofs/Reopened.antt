-- Reading what was written gives the same mesh. Assumes nothing.
use mathlib.Core.Path.{◌≡◌, refl, sym, ap, ap₂, ◌∙◌}
use mathlib.Core.Bool.{true, false}
use mathlib.Core.List.{List, [], ◌∷◌, ◌++◌, append-nil, map}
use Prim.Native.Nat.{ℕ, suc, ◌≤◌}
use native.Mathlib.Omega.{arith}
use lib.ListN.{length, length-append}
use lib.Dec.{leb}
use borrow.Author.Tests.{le-ltb}
use Rattle.lists.specs.Lists.{every, some, joined, each}
use Rattle.lists.proofs.Bools.{and_left, and_right}
use Rattle.mesh.specs.Limits.{ring_limit}
use Rattle.mesh.specs.Mesh.{Mesh, Ring, faces, corners_in}
use Rattle.mesh.specs.Table.{astray, astray_at, kind, falls, Lent, short}
use Rattle.mesh.proofs.Faces.{corners_back}
use Rattle.mesh.proofs.Numbers.{clear}
use Rattle.mesh.proofs.Accepted.{Accepted, accepted}
use Rattle.grouping.specs.Push.{pushed}
use Rattle.grouping.proofs.Pushed.{pushed_same}
use Rattle.grouping.proofs.Accepting.{sized, corners_in-flat}
use Rattle.reading.specs.Reading.{Drawn, reader, nothing, read_all, mesh_drawn, finish, reading_number, panel_mesh}
use Rattle.written.specs.Pieces.{Piece, the_end, pieces_of, finite_mesh, kind_of, header_of, body_of, record_of, file_of}
use Rattle.written.proofs.Lengths.{length_header}
use Rattle.written.specs.Promises.{DoubleMesh, MeshReopens}
use Rattle.written.proofs.Taking.{length_record, read_back}
use Rattle.written.proofs.Saying.{pieces_draw, pieces_sayable, faces_are, sized_faces, face_sizes, drawing, all_drawn, all_roomy}

-- ---- the fuel is enough: every record has a byte

some_byte : (p : Piece) → 1 ≤ length (record_of p)
unfolding record_of
some_byte p = omega (arith, length-append (header_of (length (body_of p)) (kind_of p)) (body_of p), length_header (length (body_of p)) (kind_of p))

enough : (ps : List Piece) → length ps ≤ length (each record_of ps)
enough [] = omega arith
enough (p ∷ ps) = omega (arith, enough ps, some_byte p, length-append (record_of p) (each record_of ps))

-- ---- the faces of an accepted mesh stay as they are

at_least_three : (fs : List Ring) → every sized fs ≡ true → every (λ (r : Ring). leb 3 (length r)) fs ≡ true
at_least_three [] h = refl
at_least_three (r ∷ fs) h =
    rw (and_left (leb 3 (length r)) (leb (length r) ring_limit) (and_left (sized r) (every sized fs) h)) (at_least_three fs (and_right (sized r) (every sized fs) h))

module _ (m : Mesh) (a : Accepted m) where
  same_faces : pushed (faces m) ≡ faces m
  same_faces = pushed_same (faces m) (at_least_three (faces m) (sized_faces m a)) (ap (λ (s : List ℕ). falls (map kind s)) (face_sizes m a) ∙ a.grouped)

  flat_corners : each joined (faces m) ≡ m.corners
  unfolding faces
  flat_corners = corners_back m.sizes m.corners a.whole.adds

  same_mesh : mesh_drawn (drawing m) ≡ m
  unfolding mesh_drawn
  same_mesh = rw (same_faces, flat_corners, face_sizes m a)

  -- ---- the whole file
  module _ (d : DoubleMesh m) (f : finite_mesh m ≡ true) where
    file_read : read_all (file_of m) ≡ reader (length (file_of m)) 0 true (drawing m)
    unfolding read_all file_of
    file_read =
        let ps = pieces_of m in
        let e = all_drawn m a in
        let z : length (record_of the_end) ≡ 4 = length_record the_end refl in
        read_back ps (suc (length (file_of m))) (file_of m) 0 nothing [] (pieces_sayable m a d f) (pieces_draw m) (rw e (all_roomy m a))
        (omega (arith, enough ps, length-append (each record_of ps) (record_of the_end)))
        (ap (λ (l : List ℕ). each record_of ps ++ l) (sym (append-nil (record_of the_end))))
        ∙ ap₂ (λ (i : ℕ) (x : Drawn). reader i 0 true x) (omega (arith, length-append (each record_of ps) (record_of the_end))) e

    mesh_read : panel_mesh (file_of m) ≡ m
    unfolding panel_mesh
    mesh_read = ap (λ x. mesh_drawn x.drawn) file_read ∙ same_mesh

    -- no corner of its faces is astray
    none_astray : astray m ≡ false → some (astray_at (mesh_drawn (drawing m))) (joined (faces m)) ≡ false
    unfolding astray
    none_astray h =
        let e : corners_in m.corners ≡ joined (faces m) = ap corners_in (sym flat_corners) ∙ corners_in-flat (faces m) (faces_are m) in
        ap₂ (λ (x : Mesh) (l : List (List ℕ)). some (astray_at x) l) same_mesh (sym e) ∙ h

    none_refused : astray m ≡ false → finish (file_of m) (read_all (file_of m)) ≡ 0
    unfolding finish
    none_refused h = rw (file_read, le-ltb (length (file_of m)) (length (file_of m)) (omega arith), none_astray h)

    number_read : astray m ≡ false → (rooms : List Lent) → short rooms ≡ false → reading_number rooms (file_of m) ≡ 0
    unfolding reading_number
    number_read h rooms e = rw (e, none_refused h)

-- an accepted mesh with finite coordinates is read back from its file, bit for bit, and its file is written again byte for byte
pub reopens : MeshReopens
reopens m h d f =
    let a : Accepted m = accepted m h in
    let e : panel_mesh (file_of m) ≡ m = mesh_read m a d f in
    record { number = number_read m a d f (clear m h).found; mesh = e; bytes = ap file_of e }
