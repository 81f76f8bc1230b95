-- The calls: what `read_panel` hands over of the bytes that `write_panel` wrote, and what `write_panel` makes of that. Assumes nothing.
use mathlib.Core.Path.{◌≡◌, refl, sym, ap, ◌∙◌}
use mathlib.Core.Bool.{false}
use mathlib.Core.List.{List}
use Prim.Native.Nat.{ℕ, ◌*◌, ◌/◌, ◌≤◌}
use native.Mathlib.Omega.{arith}
use lib.ListN.{length, take}
use lib.Seq.{sets}
use Rattle.lists.proofs.Copies.{take_written}
use Rattle.lists.proofs.Fronts.{front}
use Rattle.mesh.specs.Limits.{width}
use Rattle.mesh.specs.Mesh.{Mesh, mesh_of, position_count, texture_count, normal_count}
use Rattle.mesh.specs.Table.{mesh_number, short, after}
use Rattle.mesh.proofs.Accepted.{Accepted, accepted}
use Rattle.mesh.proofs.After.{after_done}
use Rattle.reading.specs.declared.MeshRead.{MeshRead}
use Rattle.reading.specs.Reading.{reading_number, panel_mesh, room_of}
use Rattle.reading.specs.Promises.{Full}
use Rattle.reading.specs.Answer.{PanelRead}
use Rattle.reading.proofs.Ending.{not_short}
use Rattle.written.specs.declared.Saved.{Saved}
use Rattle.written.specs.Pieces.{file_of, file_length}
use Rattle.written.specs.Answer.{saving_number, PanelWritten, Ready}
use Rattle.written.proofs.Parting.{file_is_long}
use Rattle.written.proofs.Numbers.{ready, number_well}
use Rattle.written.specs.Promises.{Reopens, handed, CanReopen, CallsReopen, CallsWriteAgain}
use Rattle.written.proofs.Reopened.{reopens}

-- ---- what the writer leaves

module _ {m : Mesh} {out out' : List ℕ} {saved : Saved} (w : PanelWritten m out out' saved) (z : saved.number ≡ 0) where
  pub could_write : Ready m out
  could_write = ready m out (sym w.number ∙ z)

  pub length_saved : saved.length ≡ file_length m
  length_saved = w.byte_count ∙ after_done _ _ _ z

  -- the bytes at the front of the buffer are the file
  pub bytes_saved : take saved.length out' ≡ file_of m
  bytes_saved =
      let n : length (file_of m) ≡ saved.length = file_is_long m could_write.accepted ∙ sym length_saved in
      ap (take saved.length) (w.bytes ∙ after_done _ _ _ z)
      ∙ take_written out (file_of m) saved.length n (omega (arith, length_saved, could_write.room))

-- ---- what the reader hands over of a file that it takes

module _ (file : List ℕ) (lists lists' : Mesh) (answer : MeshRead) (ok : mesh_number (panel_mesh file) ≡ 0) (room : short (room_of lists) ≡ false)
    (r : PanelRead file lists lists' answer) (z : answer.number ≡ 0) where
  abbrev m : Mesh
  m = panel_mesh file

  a : Accepted m
  a = accepted m ok

  full : Full lists.positions lists.textures lists.normals lists.corners lists.sizes
  full = not_short lists.positions lists.textures lists.normals lists.corners lists.sizes room

  pub hands_over : handed answer lists' ≡ m
  hands_over =
      let np : length m.positions ≡ 3 * answer.positions = omega (arith, r.position_count_is ∙ after_done _ _ _ z, a.whole.positions) in
      let nt : length m.textures ≡ 2 * answer.textures = omega (arith, r.texture_count_is ∙ after_done _ _ _ z, a.whole.textures) in
      let nn : length m.normals ≡ 3 * answer.normals = omega (arith, r.normal_count_is ∙ after_done _ _ _ z, a.whole.normals) in
      let nc : length m.corners ≡ width * answer.corners = omega (arith, r.corner_count_is ∙ after_done _ _ _ z, a.whole.corners) in
      let nf : length m.sizes ≡ answer.faces = sym (r.face_count ∙ after_done _ _ _ z) in
      let lp : 3 * answer.positions ≤ length lists.positions = omega (arith, np, a.limits.positions, full.positions) in
      let lt : 2 * answer.textures ≤ length lists.textures = omega (arith, nt, a.limits.textures, full.textures) in
      let ln : 3 * answer.normals ≤ length lists.normals = omega (arith, nn, a.limits.normals, full.normals) in
      let lc : width * answer.corners ≤ length lists.corners = omega (arith, nc, a.limits.corners, full.corners) in
      let lf : answer.faces ≤ length lists.sizes = omega (arith, nf, a.limits.sizes, full.sizes) in
      let p : take (3 * answer.positions) lists'.positions ≡ m.positions = (front lists.positions (r.positions ∙ after_done _ _ _ z) np lp).is in
      let t : take (2 * answer.textures) lists'.textures ≡ m.textures = (front lists.textures (r.textures ∙ after_done _ _ _ z) nt lt).is in
      let n : take (3 * answer.normals) lists'.normals ≡ m.normals = (front lists.normals (r.normals ∙ after_done _ _ _ z) nn ln).is in
      let c : take (width * answer.corners) lists'.corners ≡ m.corners = (front lists.corners (r.corners ∙ after_done _ _ _ z) nc lc).is in
      let f : take answer.faces lists'.sizes ≡ m.sizes = (front lists.sizes (r.sizes ∙ after_done _ _ _ z) nf lf).is in
      rw (p, t, n, c, f)

-- ---- both calls

-- the answers that the two contracts determine
pub can_reopen : CanReopen
can_reopen m out lists ok doubles finite room full =
    let n : ℕ = saving_number m (length out) in
    let saved : Saved = record { number = n; length = after n (file_length m) 0 } in
    let out' : List ℕ = after n (sets out 0 (file_of m)) out in
    let file : List ℕ = take saved.length out' in
    let k : ℕ = reading_number (room_of lists) file in
    let r : Mesh = panel_mesh file in
    let lists' : Mesh = mesh_of
    (after k (sets lists.positions 0 r.positions) lists.positions)
    (after k (sets lists.textures 0 r.textures) lists.textures)
    (after k (sets lists.normals 0 r.normals) lists.normals)
    (after k (sets lists.corners 0 r.corners) lists.corners)
    (after k (sets lists.sizes 0 r.sizes) lists.sizes) in
    let answer : MeshRead = record {
      number = k;
      positions = after k (position_count r) 0;
      textures = after k (texture_count r) 0;
      normals = after k (normal_count r) 0;
      corners = after k (length r.corners / width) 0;
      faces = after k (length r.sizes) 0;
    } in
    let read : PanelRead file lists lists' answer = record {
      number = refl;
      position_count_is = refl;
      texture_count_is = refl;
      normal_count_is = refl;
      corner_count_is = refl;
      face_count = refl;
      positions = refl;
      textures = refl;
      normals = refl;
      corners = refl;
      sizes = refl;
    } in
    let written : PanelWritten m out out' saved = record { number = refl; byte_count = refl; bytes = refl } in
    (out', saved, lists', answer, record { doubles = doubles; written = written; done = sym (number_well m (length out) ok finite room); read = read; room = full })

pub calls_reopen : CallsReopen
calls_reopen m out out' saved lists lists' answer h =
    let w = h.written in
    let ok : mesh_number m ≡ 0 = (could_write w h.done).accepted in
    let back : Reopens m = reopens m ok h.doubles (could_write w h.done).are_finite in
    let r : PanelRead (file_of m) lists lists' answer = rw (bytes_saved w h.done) at h.read in
    let z : answer.number ≡ 0 = r.number ∙ back.number (room_of lists) h.room in
    record { number = z; mesh = hands_over (file_of m) lists lists' answer (ap mesh_number back.mesh ∙ ok) h.room r z ∙ back.mesh }

pub calls_write_again : CallsWriteAgain
calls_write_again m out out' saved lists lists' answer again again' resaved h v long =
    let w = h.written in
    let same : handed answer lists' ≡ m = (calls_reopen m out out' saved lists lists' answer h).mesh in
    let v' : PanelWritten m again again' resaved = rw same at v in
    let ok : mesh_number m ≡ 0 = (could_write w h.done).accepted in
    let z : resaved.number ≡ 0 = v'.number ∙ sym (number_well m (length again) ok (could_write w h.done).are_finite (omega (arith, long, length_saved w h.done))) in
    record {
      number = z;
      long = length_saved v' z ∙ sym (length_saved w h.done);
      bytes = bytes_saved v' z ∙ sym (bytes_saved w h.done);
    }
