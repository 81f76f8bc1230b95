-- The rows are those that crate turning asks for: each place's next is the next use in its face, and its twin the other use of its edge.
-- Assumes nothing.
use mathlib.Core.Path.{◌≡◌, refl, sym, ap, ◌∙◌, subst}
use mathlib.Core.List.{List, [], ◌∷◌, ◌++◌, map, map-append}
use Prim.Native.Nat.{ℕ, zero, suc, ◌+◌, ◌-◌, ◌*◌, ◌/◌, ◌<◌}
use native.Mathlib.Nat.{zero-add}
use native.Mathlib.Omega.{arith}
use lib.ListN.{length, get_or, take, drop, length-map, length-append, length-drop, get_or-append, get_or-map}
use lib.Seq.{get_or-append-add}
use Rattle.lists.specs.Lists.{sum, joined}
use Rattle.lists.specs.Numbers.{next_of}
use Rattle.mesh.specs.Limits.{width}
use Rattle.mesh.specs.Mesh.{Ring, position, corners_in, rings}
use Rattle.mesh.specs.Face.{Sound}
use Rattle.mesh.specs.Edges.{Edge, key, ring_edges, mesh_edges, edges_of, Edged}
use Rattle.mesh.proofs.Corners.{get_or-corners_in, corners_in-split}
use Rattle.mesh.proofs.Faces.{sizes_back}
use Rattle.mesh.proofs.Edges.{length_ring}
use Rattle.uses.specs.Uses.{Gathered}
use Rattle.uses.proofs.Sides.{length_uses}
use Rattle.uses.proofs.Gathering.{uses_ready}
use Rattle.turning.specs.Rows.{nil, edge_at, place_count, begin_of, Rows}
use Rattle.turning.proofs.Next.{ring_firsts}
use Rattle.turning.proofs.Places.{next_below, place_below, place_of}
use Rattle.crossing.specs.Crossing.{ring_row, after_from, AfterRoom, TwinRoom, Crossable}
use Rattle.crossing.specs.Turned.{Rowed, faces_in}
use Rattle.crossing.proofs.After.{length_ring_row, ring_row_at, length_after_from}
use Rattle.crossing.proofs.Twinned.{twins_long, twins_below, twins_key, twins_alone}

-- ---- the next use in the face

-- place i of face j
after_at :
    (at : ℕ) (fs : List (List ℕ)) (j i : ℕ) → i < length (get_or fs j [])
    → get_or (after_from at (map length fs)) (begin_of fs j + i) 0 ≡ at + (begin_of fs j + next_of i (length (get_or fs j [])))
unfolding after_from
after_at at [] j i h = absurd (omega arith)
after_at at (f ∷ fs) zero i h =
    let k : length (ring_row at (length f)) ≡ length f = length_ring_row at (length f) in
    ap (λ (v : ℕ). get_or (ring_row at (length f) ++ after_from (at + length f) (map length fs)) v 0) (zero-add i)
    ∙ get_or-append (ring_row at (length f)) (after_from (at + length f) (map length fs)) 0 i (omega arith)
    ∙ ring_row_at at (length f) i h
    ∙ ap (λ (v : ℕ). at + v) (sym (zero-add (next_of i (length f))))
after_at at (f ∷ fs) (suc j) i h =
    let k : length (ring_row at (length f)) ≡ length f = length_ring_row at (length f) in
    let a : length (ring_edges f ++ mesh_edges (take j fs)) ≡ length (ring_edges f) + begin_of fs j = length-append (ring_edges f) (mesh_edges (take j fs)) in
    let b : length (ring_edges f) ≡ length f = length_ring f in
    let z : begin_of (f ∷ fs) (suc j) + i ≡ length (ring_row at (length f)) + (begin_of fs j + i) = omega arith in
    let ih : _ = after_at (at + length f) fs j i h in
    ap (λ (v : ℕ). get_or (ring_row at (length f) ++ after_from (at + length f) (map length fs)) v 0) z
    ∙ get_or-append-add (ring_row at (length f)) (after_from (at + length f) (map length fs)) (begin_of fs j + i) 0
    ∙ ih
    ∙ (let y : at + length f + (begin_of fs j + next_of i (length (get_or fs j []))) ≡ at + (begin_of (f ∷ fs) (suc j) + next_of i (length (get_or fs j []))) =
    omega arith in y)

sizes_of : (fs : List Ring) → map length (map (map position) fs) ≡ map length fs
sizes_of [] = refl
sizes_of (f ∷ fs) = rw (length-map f position, sizes_of fs)

-- ---- where an edge begins

firsts : (fs : List (List ℕ)) → map (λ (e : Edge). e.0) (mesh_edges fs) ≡ joined fs
firsts [] = refl
firsts (f ∷ fs) = map-append (λ (e : Edge). e.0) (ring_edges f) (mesh_edges fs) ∙ rw (ring_firsts f, firsts fs)

positions_joined : (fs : List Ring) → joined (map (map position) fs) ≡ map position (joined fs)
positions_joined [] = refl
positions_joined (f ∷ fs) = rw (positions_joined fs) (sym (map-append position f (joined fs)))

joined_rings : (s cs : List ℕ) → width * sum s ≡ length cs → joined (rings s cs) ≡ corners_in cs
joined_rings [] [] h = refl
joined_rings [] (c ∷ cs) h = absurd (let z : 0 ≡ suc (length cs) = h in omega arith)
joined_rings (n ∷ s) cs h =
    let k : length (drop (width * n) cs) ≡ length cs - width * n = length-drop (width * n) cs in
    ap (λ (r : Ring). corners_in (take (width * n) cs) ++ r) (joined_rings s (drop (width * n) cs) (omega arith))
    ∙ sym (corners_in-split n cs (omega arith))

-- ---- rooms

pub after_room : (cs s after : List ℕ) → Sound cs s → length after ≡ length cs / width → AfterRoom s after
after_room cs s after h e = record { few = omega (arith, h.fits); whole = omega (arith, h.adds) }

pub twin_room :
    (cs s : List ℕ) (n : ℕ) (l h d order old : List ℕ) → Edged cs s n → Gathered n (edges_of (rings s cs)) l h d order → length old ≡ length l
    → TwinRoom l h d order old
twin_room cs s n l h d order old e g k = record { ready = uses_ready cs s n e l h d order g; room = k }

-- ---- the rows

module _ (cs s : List ℕ) (n : ℕ) (l h d order old after twins : List ℕ) (r : Rowed cs s n l h d order old after twins) where
  abbrev fs : List (List ℕ)
  fs = faces_in cs s

  abbrev es : List Edge
  es = mesh_edges fs

  pub places_are : place_count fs ≡ length cs / width
  places_are = length_uses cs s r.edged.sound

  pub after_long : length after ≡ place_count fs
  after_long = ap length r.after_is ∙ length_after_from 0 s ∙ (let z : sum s ≡ place_count fs = omega (arith, places_are, r.edged.sound.adds) in z)

  pub twins_length : length twins ≡ place_count fs
  twins_length = ap length r.twins_are ∙ twins_long cs s n r.edged l h d order r.gathered old r.room

  sizes : map length fs ≡ s
  sizes = sizes_of (rings s cs) ∙ sizes_back s cs (omega (arith, r.edged.sound.adds))

  pub rows_are : Rows fs after twins
  rows_are =
      let below = twins_below cs s n r.edged l h d order r.gathered old r.room in
      let of-key = twins_key cs s n r.edged l h d order r.gathered old r.room in
      let lone = twins_alone cs s n r.edged l h d order r.gathered old r.room in
      record {
        next_is = λ j i k.
            ap (λ (a : List ℕ). get_or a (begin_of fs j + i) 0) (r.after_is ∙ ap (after_from 0) (sym sizes))
            ∙ after_at 0 fs j i k
            ∙ zero-add (begin_of fs j + next_of i (length (get_or fs j [])));
        twin_below = λ u k. subst (λ (t : List ℕ). get_or t u 0 < place_count fs) (sym r.twins_are) (below u k);
        twin_key = λ u k. subst (λ (t : List ℕ). key (edge_at fs u) ≡ key (edge_at fs (get_or t u 0))) (sym r.twins_are) (of-key u k);
        twin_alone = λ u v p q ne w z. lone u v p q ne w (ap (λ (t : List ℕ). get_or t u 0) (sym r.twins_are) ∙ z);
      }

  -- their numbers are places
  pub after_place : (u : ℕ) → u < place_count fs → get_or after u 0 < place_count fs
  after_place u k =
      let p : (j : ℕ) × (i : ℕ) × (i < length (get_or fs j [])) × (begin_of fs j + i ≡ u) = place_of fs u k in
      let m : ℕ = length (get_or fs p.0 []) in
      subst (λ (v : ℕ). v < place_count fs) (sym (ap (λ (v : ℕ). get_or after v 0) (sym p.3) ∙ rows_are.next_is p.0 p.1 p.2))
      (place_below fs p.0 (next_of p.1 (length (get_or fs p.0 []))) (next_below p.1 (length (get_or fs p.0 [])) p.2))

  pub crossable : Crossable after twins
  crossable = record {
    few = omega (arith, twins_length, places_are, r.edged.sound.fits);
    long = after_long ∙ sym twins_length;
    after_below = λ u k. subst (λ (m : ℕ). get_or after u 0 < m) (sym twins_length) (after_place u (subst (λ (m : ℕ). u < m) twins_length k));
    twin_below = λ u k. subst (λ (m : ℕ). get_or twins u 0 < m) (sym twins_length) (rows_are.twin_below u (subst (λ (m : ℕ). u < m) twins_length k));
  }

  pub place_begins : (u : ℕ) → u < place_count fs → (edge_at fs u).0 ≡ get_or cs (width * u) 0
  place_begins u k =
      sym (get_or-map (λ (e : Edge). e.0) es u nil)
      ∙ ap (λ (t : List ℕ). get_or t u 0) (firsts fs ∙ positions_joined (rings s cs) ∙ ap (map position) (joined_rings s cs r.edged.sound.adds))
      ∙ get_or-map position (corners_in cs) u []
      ∙ ap position (get_or-corners_in cs u (omega (arith, places_are)))
