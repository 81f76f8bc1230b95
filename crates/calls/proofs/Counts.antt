-- The same faces are as many, with as many corners: so two calls ask for the same room. Assumes nothing.
use mathlib.Core.Path.{◌≡◌, refl, sym, ap, ◌∙◌}
use mathlib.Core.List.{List, [], ◌∷◌, map}
use Prim.Native.Nat.{suc, ◌+◌, ◌*◌, ◌/◌, ◌≤◌}
use native.Mathlib.Omega.{arith}
use lib.ListN.{length, length-append, length-map}
use Rattle.lists.specs.Lists.{sum}
use Rattle.mesh.specs.Limits.{width}
use Rattle.mesh.specs.Mesh.{Mesh, Ring, position, faces}
use Rattle.mesh.specs.Table.{mesh_number}
use Rattle.mesh.proofs.Faces.{length_rings, sizes_back}
use Rattle.mesh.proofs.Accepted.{Accepted, accepted}
use Rattle.panels.proofs.Whole.{sizes_count}
use Rattle.order.specs.Same.{Turned, Same, none, face, swap, then}
use Rattle.order.specs.Demand.{by_position}
use Rattle.order.proofs.Turning.{Halves, halves}

module _ {A : Type 0} where
  turned_length : {f g : List A} → Turned f g → length f ≡ length g
  turned_length {f} {g} t =
      let h : Halves f g = halves t in
      let a : length f ≡ length h.front + length h.rear = ap length h.was ∙ length-append h.front h.rear in
      let b : length g ≡ length h.rear + length h.front = ap length h.is ∙ length-append h.rear h.front in
      omega arith

  pub same_length : {m n : List (List A)} → Same m n → length m ≡ length n
  same_length none = refl
  same_length (face t s) = ap suc (same_length s)
  same_length swap = refl
  same_length (then s t) = same_length s ∙ same_length t

  same_sizes : {m n : List (List A)} → Same m n → sum (map length m) ≡ sum (map length n)
  same_sizes none = refl
  same_sizes (face t s) = λ i. turned_length t i + same_sizes s i
  same_sizes (swap {f = f} {g = g} {m = m}) = omega arith
  same_sizes (then s t) = same_sizes s ∙ same_sizes t

-- the sizes of an accepted mesh are the lengths of its faces
sizes_are : (m : Mesh) → mesh_number m ≡ 0 → map length (faces m) ≡ m.sizes
unfolding faces
sizes_are m e = let a : Accepted m = accepted m e in sizes_back m.sizes m.corners (omega (arith, a.whole.adds))

-- and of their rings of positions
sizes_by_position : (fs : List Ring) → map length (by_position fs) ≡ map length fs
sizes_by_position [] = refl
sizes_by_position (f ∷ fs) = λ i. length-map f position i ∷ sizes_by_position fs i

pub corners_count :
    (m n : Mesh) → mesh_number m ≡ 0 → mesh_number n ≡ 0 → Same (by_position (faces m)) (by_position (faces n)) → length m.corners ≡ length n.corners
corners_count m n a b s =
    let p : width * sum m.sizes ≡ length m.corners = (accepted m a).whole.adds in
    let q : width * sum n.sizes ≡ length n.corners = (accepted n b).whole.adds in
    let e : sum m.sizes ≡ sum n.sizes =
    sym (ap sum (sizes_by_position (faces m) ∙ sizes_are m a)) ∙ same_sizes s ∙ ap sum (sizes_by_position (faces n) ∙ sizes_are n b) in
    omega arith

-- no more faces than corners
pub faces_few : (m : Mesh) → mesh_number m ≡ 0 → length (faces m) ≤ length m.corners / width
unfolding faces
faces_few m e =
    let a : Accepted m = accepted m e in
    let b : length m.sizes ≤ sum m.sizes = sizes_count m.sizes a.least in
    omega (arith, a.whole.adds, length_rings m.sizes m.corners)
