-- The number at the end, row by row; a mesh that is read is an accepted one; and what room that is not too short has. Assumes nothing.
use mathlib.Core.Path.{◌≡◌, refl}
use mathlib.Core.Bool.{Bool, true, false, ◌||◌}
use mathlib.Core.List.{List, [], ◌∷◌}
use Prim.Native.Nat.{ℕ, zero, suc, ◌≤◌, ◌<◌}
use lib.ListN.{length}
use lib.Dec.{ltb}
use borrow.Author.Tests.{lt-ltb, le-ltb, ltb-false}
use Rattle.lists.specs.Lists.{some, joined}
use Rattle.lists.proofs.Bools.{or_false_left, or_false_right}
use Rattle.mesh.specs.Limits.{face_limit, point_numbers, texel_numbers, corner_numbers}
use Rattle.mesh.specs.Table.{when, astray_at, short}
use Rattle.mesh.proofs.Numbers.{first_head, first_tail, when_not}
use Rattle.grouping.proofs.Accepting.{accepted_faces}
use Rattle.reading.specs.Reading.{Reader, read_all, mesh_drawn, finish, full_room, panel_mesh}
use Rattle.reading.specs.Promises.{ReadIsAccepted, RoomIsFull}
use Rattle.reading.proofs.Sane.{all_sane}

-- ---- the rows of the number at the end, of a reader that has stopped

module _ (s : List ℕ) (z : Reader) where
  -- an index out of range, over the corners of all faces that are kept
  abbrev pub strays : Bool
  strays = some (astray_at (mesh_drawn z.drawn)) (joined z.drawn.faces)

  -- a refusal's number stands, whatever is looked at behind it
  pub end_refused : (k : ℕ) → (k ≡ 0 → ⊥) → z.number ≡ k → k ≡ finish s z
  unfolding finish
  end_refused zero h e = absurd (h refl)
  end_refused (suc k) h e = rw e

  pub end_follows : z.number ≡ 0 → z.at < length s → 13 ≡ finish s z
  unfolding finish
  end_follows h l = rw (h, lt-ltb z.at (length s) l)

  pub end_astray : z.number ≡ 0 → length s ≤ z.at → strays ≡ true → 5 ≡ finish s z
  unfolding finish
  end_astray h l e = rw (h, le-ltb z.at (length s) l, e)

  pub end_well : z.number ≡ 0 → length s ≤ z.at → strays ≡ false → 0 ≡ finish s z
  unfolding finish
  end_well h l e = rw (h, le-ltb z.at (length s) l, e)

-- ---- what is read, and room

-- an accepted file's mesh is an accepted mesh
pub read_accepted : ReadIsAccepted
unfolding finish panel_mesh mesh_drawn
read_accepted file e =
    let z = read_all file in
    let m = mesh_drawn z.drawn in
    let a = when (ltb z.at (length file)) 13 in
    let b = some (astray_at (mesh_drawn z.drawn)) (joined z.drawn.faces) in
    let e1 = first_tail z.number (a ∷ when b 5 ∷ []) e in
    let e2 = first_tail a (when b 5 ∷ []) e1 in
    accepted_faces z.drawn.positions z.drawn.textures z.drawn.normals z.drawn.faces (all_sane file).drawn (when_not b 4 (first_head (when b 5) [] e2))

-- lent lists that are not short are at the full limits at least
pub not_short : RoomIsFull
unfolding short full_room
not_short p t n c s e =
    let a = ltb (length p) point_numbers in
    let b = ltb (length t) texel_numbers in
    let d = ltb (length n) point_numbers in
    let f = ltb (length c) corner_numbers in
    let g = ltb (length s) face_limit in
    let e1 : (b || (d || (f || (g || false)))) ≡ false = or_false_right a (b || (d || (f || (g || false)))) e in
    let e2 : (d || (f || (g || false))) ≡ false = or_false_right b (d || (f || (g || false))) e1 in
    let e3 : (f || (g || false)) ≡ false = or_false_right d (f || (g || false)) e2 in
    let e4 : (g || false) ≡ false = or_false_right f (g || false) e3 in
    record {
      positions = ltb-false (length p) point_numbers (or_false_left a (b || (d || (f || (g || false)))) e);
      textures = ltb-false (length t) texel_numbers (or_false_left b (d || (f || (g || false))) e1);
      normals = ltb-false (length n) point_numbers (or_false_left d (f || (g || false)) e2);
      corners = ltb-false (length c) corner_numbers (or_false_left f (g || false) e3);
      sizes = ltb-false (length s) face_limit (or_false_left g false e4);
    }
