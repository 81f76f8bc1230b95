-- Two calls of `components` on meshes with the same faces, under one normals setting. Assumes nothing.
use mathlib.Core.Path.{◌≡◌, refl, sym, ap, ap₂, ◌∙◌}
use mathlib.Core.Bool.{Bool}
use mathlib.Core.List.{List, map}
use Prim.Native.Nat.{ℕ}
use native.Mathlib.Omega.{arith}
use lib.ListN.{length, take, length-map}
use Rattle.lists.specs.Lists.{joined, together}
use Rattle.mesh.specs.Mesh.{Mesh, faces}
use Rattle.mesh.specs.Table.{mesh_number}
use Rattle.panels.specs.Contract.{components_number, panels_of}
use Rattle.lists.specs.Cutting.{parts}
use Rattle.lists.proofs.Cutting.{parts_back}
use Rattle.panels.proofs.Panelled.{panels_length, panels_count}
use Rattle.order.specs.Same.{Matching}
use Rattle.order.specs.Demand.{SameTogether}
use Rattle.calls.specs.Calls.{corners_of, PanelCall, panels_written}
use Rattle.calls.specs.Order.{SamePanels}
use Rattle.calls.proofs.Numbers.{roomy_zero}
use Rattle.calls.proofs.Fronts.{front, as_many}
use Rattle.calls.proofs.Counts.{faces_few}
use Rattle.calls.proofs.Seats.{as_many_panels}

-- one call
module _ (normals : Bool) (m : Mesh) (z : mesh_number m ≡ 0) (r : PanelCall normals m) where
  done_is : r.answer.number ≡ 0
  unfolding components_number
  done_is =
      r.contract.number
      ∙ roomy_zero (mesh_number m) (length r.before.flat) (corners_of m) (length r.before.lengths) (corners_of m) z r.flat_room r.lengths_room

  flat_front : take r.answer.faces r.afterwards.flat ≡ joined (panels_of normals m)
  flat_front =
      front r.before.flat r.afterwards.flat (joined (panels_of normals m))
      r.answer.number (length (joined (panels_of normals m))) r.answer.faces done_is
      r.contract.flat r.contract.face_count refl
      (omega (arith, panels_length normals (faces m), faces_few m z, r.flat_room))

  lengths_front : take r.answer.panels r.afterwards.lengths ≡ map length (panels_of normals m)
  lengths_front =
      let k : length (map (length {A = ℕ}) (panels_of normals m)) ≡ length (panels_of normals m) = length-map (panels_of normals m) (length {A = ℕ}) in
      front r.before.lengths r.afterwards.lengths (map length (panels_of normals m))
      r.answer.number (length (panels_of normals m)) r.answer.panels done_is
      r.contract.lengths r.contract.panel_count (sym k)
      (omega (arith, panels_count normals (faces m), faces_few m z, r.lengths_room))

  written : panels_written r ≡ panels_of normals m
  written = ap₂ parts lengths_front flat_front ∙ parts_back (panels_of normals m)

-- two of them, where the faces are known by their rings
pub panels_agree :
    {A : Type 0} {fs gs : List (List A)} (match : Matching fs gs) (m n : Mesh) → mesh_number m ≡ 0 → mesh_number n ≡ 0
    → length fs ≡ length (faces m) → length gs ≡ length (faces n) → length fs ≡ length gs
    → (normals : Bool) → SameTogether match normals (faces m) (faces n)
    → (r : PanelCall normals m) (q : PanelCall normals n) → SamePanels match r q
panels_agree {A} {fs} {gs} match m n a b lf lg s normals d r q = record {
  done = (done_is normals m a r, done_is normals n b q);
  as_many_faces =
      as_many r.answer.number q.answer.number (length (joined (panels_of normals m))) (length (joined (panels_of normals n)))
      r.answer.faces q.answer.faces (done_is normals m a r) (done_is normals n b q) r.contract.face_count q.contract.face_count
      (panels_length normals (faces m) ∙ sym lf ∙ s ∙ lg ∙ sym (panels_length normals (faces n)));
  as_many_panels =
      as_many r.answer.number q.answer.number (length (panels_of normals m)) (length (panels_of normals n))
      r.answer.panels q.answer.panels (done_is normals m a r) (done_is normals n b q) r.contract.panel_count q.contract.panel_count
      (as_many_panels match normals (faces m) (faces n) lf lg d);
  same_faces = λ x y g h.
      ap (together x y) (written normals m a r)
      ∙ d.matched x y g h
      ∙ sym (ap (together (match.to x) (match.to y)) (written normals n b q));
  same_faces_of = λ x y c e g h t u.
      ap (together x y) (written normals m a r) ∙ d.whichever x y c e g h t u ∙ sym (ap (together c e) (written normals n b q));
}
