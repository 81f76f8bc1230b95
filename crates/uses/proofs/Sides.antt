-- The uses of all edges, face by face and corner by corner: one more of what is left, how many there are, and that both ends of each
-- are positions of corners. Assumes nothing.
use mathlib.Core.Path.{◌≡◌, refl, sym, ap, ap₂, ◌∙◌}
use mathlib.Core.Bool.{Bool, true, false, cond, ◌&&◌}
use mathlib.Core.List.{List, [], ◌∷◌, ◌++◌, map}
use Prim.Native.Nat.{ℕ, ◌+◌, ◌*◌, ◌/◌, ◌-◌, ◌≤◌, ◌<◌}
use native.Mathlib.Numerals.{add-one}
use native.Mathlib.Omega.{arith}
use lib.ListN.{length, get_or, take, drop, length-append, length-map, length-drop, get_or-map, drop_of_length-le}
use lib.Seq.{drop-cons}
use lib.Dec.{ltb}
use borrow.Author.Tests.{ltb-true, ltb-false, lt-ltb}
use Rattle.lists.specs.Lists.{every, sum}
use Rattle.lists.proofs.Bools.{by_cases, and_both, and_left, and_right}
use Rattle.lists.proofs.Parts.{every_append}
use Rattle.lists.proofs.Mapping.{every_map, every_all}
use Rattle.mesh.specs.Limits.{width}
use Rattle.mesh.specs.Mesh.{Corner, Ring, position, corners_in, rings}
use Rattle.mesh.specs.Face.{Sound, offset_of, face_of}
use Rattle.mesh.proofs.Corners.{length-corners_in, get_or-corners_in, corners_in-split}
use Rattle.mesh.proofs.Faces.{rings_step, sizes_back}
use Rattle.mesh.specs.Edges.{Edge, run_edges, ring_edges, edges_of, Edged}
use Rattle.mesh.proofs.Edges.{length_ring}
use Rattle.lists.specs.Numbers.{next_of}
use Rattle.uses.specs.Uses.{face_edges}

-- ---- a face's edges, corner by corner

-- from each of the list to the next, and from the last to z
sides : ℕ → List ℕ → List Edge
sides z [] = []
sides z (a ∷ r) = (a, get_or r 0 z) ∷ sides z r

run_sides : (a : ℕ) (r : List ℕ) (z : ℕ) → run_edges a r z ≡ sides z (a ∷ r)
unfolding sides
run_sides a [] z = refl
run_sides a (b ∷ r) z = ap (λ (l : List Edge). (a, b) ∷ l) (run_sides b r z)

ring_sides : (ps : List ℕ) → ring_edges ps ≡ sides (get_or ps 0 0) ps
unfolding sides
ring_sides [] = refl
ring_sides (a ∷ r) = run_sides a r a

-- one more of what is left
side_at : (ps : List ℕ) (z i : ℕ) → i < length ps → sides z (drop i ps) ≡ (get_or ps i 0, get_or (drop (i + 1) ps) 0 z) ∷ sides z (drop (i + 1) ps)
unfolding sides
side_at ps z i h =
    ap (sides z) (drop-cons ps i 0 h) ∙ ap (λ (k : ℕ). (get_or ps i 0, get_or (drop k ps) 0 z) ∷ sides z (drop k ps)) (sym (add-one i))

-- the next corner, or the first behind the last
next_is : (ps : List ℕ) (i : ℕ) → get_or (drop (i + 1) ps) 0 (get_or ps 0 0) ≡ get_or ps (next_of i (length ps)) 0
unfolding next_of
next_is ps i =
    by_cases (ltb (i + 1) (length ps))
    (λ e. let l : i + 1 < length ps = ltb-true (i + 1) (length ps) e in ap (λ (t : List ℕ). get_or t 0 (get_or ps 0 0)) (drop-cons ps (i + 1) 0 l) ∙ sym (rw e))
    (λ e.
    let l : length ps ≤ i + 1 = ltb-false (i + 1) (length ps) e in
    ap (λ (t : List ℕ). get_or t 0 (get_or ps 0 0)) (drop_of_length-le ps l) ∙ sym (rw e))

-- the positions of a face's corners
places : List ℕ → List ℕ
places f = map position (corners_in f)

length_places : (f : List ℕ) → length (places f) ≡ length f / width
unfolding places
length_places f = length-map (corners_in f) position ∙ length-corners_in f

place_at : (f : List ℕ) (i : ℕ) → i < length f / width → get_or (places f) i 0 ≡ get_or f (width * i) 0
unfolding places
place_at f i h = get_or-map position (corners_in f) i [] ∙ ap position (get_or-corners_in f i h)

-- a face's edges from corner i on
pub edges_from : List ℕ → ℕ → List Edge
edges_from f i = sides (get_or (places f) 0 0) (drop i (places f))

pub edges_begin : (f : List ℕ) → face_edges f ≡ edges_from f 0
unfolding edges_from face_edges places
edges_begin f = ring_sides (map position (corners_in f))

next_below : (i n : ℕ) → i < n → next_of i n < n
unfolding next_of
next_below i n h = go (ltb (i + 1) n) refl
  where
    go : (b : Bool) → ltb (i + 1) n ≡ b → cond b (i + 1) 0 < n
    go true e = ltb-true (i + 1) n e
    go false e = omega arith

pub edges_step : (f : List ℕ) (i : ℕ) → i < length f / width → edges_from f i ≡ (get_or f (width * i) 0, get_or f (width * next_of i (length f / width)) 0) ∷ edges_from f (i + 1)
unfolding edges_from
edges_step f i h =
    let l : i < length (places f) = rw (length_places f) h in
    side_at (places f) (get_or (places f) 0 0) i l
    ∙ ap₂ (λ (a b : ℕ). (a, b) ∷ edges_from f (i + 1))
    (place_at f i h)
    (next_is (places f) i ∙ ap (λ (n : ℕ). get_or (places f) (next_of i n) 0) (length_places f) ∙ place_at f (next_of i (length f / width)) (next_below i (length f / width) h))

pub edges_end : (f : List ℕ) (i : ℕ) → length f / width ≤ i → edges_from f i ≡ []
unfolding edges_from sides
edges_end f i h = ap (sides (get_or (places f) 0 0)) (drop_of_length-le (places f) {i = i} (rw (length_places f) h))

pub length_face_edges : (f : List ℕ) → length (face_edges f) ≡ length f / width
unfolding face_edges places
length_face_edges f = length_ring (map position (corners_in f)) ∙ length_places f

-- ---- all faces

pub uses_step :
    (s cs : List ℕ) (k : ℕ) → k < length s
    → edges_of (rings (drop k s) (drop (width * offset_of s k) cs)) ≡ face_edges (face_of cs s k) ++ edges_of (rings (drop (k + 1) s) (drop (width * offset_of s (k + 1)) cs))
unfolding face_edges
uses_step s cs k h = ap edges_of (rings_step s cs k h)

length_edges : (fs : List Ring) → length (edges_of fs) ≡ sum (map length fs)
length_edges [] = refl
length_edges (f ∷ fs) =
    let a : length (ring_edges (map position f)) ≡ length f = length_ring (map position f) ∙ length-map f position in
    let b : length (edges_of fs) ≡ sum (map length fs) = length_edges fs in
    let c : length (ring_edges (map position f) ++ edges_of fs) ≡ length (ring_edges (map position f)) + length (edges_of fs) =
    length-append (ring_edges (map position f)) (edges_of fs) in
    omega arith

-- as many uses as corners
pub length_uses : (cs s : List ℕ) → Sound cs s → length (edges_of (rings s cs)) ≡ length cs / width
length_uses cs s h =
    let a : width * sum s ≡ length cs = h.adds in
    let b : length (edges_of (rings s cs)) ≡ sum s = length_edges (rings s cs) ∙ ap sum (sizes_back s cs (omega arith)) in
    omega arith

-- ---- both ends are positions of corners

-- both ends are below n
abbrev pub inside : ℕ → Edge → Bool
inside n e = ltb e.0 n && ltb e.1 n

module _ (n : ℕ) where
  abbrev below : ℕ → Bool
  below p = ltb p n

  run_inside : (a : ℕ) (r : List ℕ) (z : ℕ) → below a ≡ true → every below r ≡ true → below z ≡ true → every (inside n) (run_edges a r z) ≡ true
  run_inside a [] z p q r = and_both (inside n (a, z)) true (and_both (below a) (below z) p r) refl
  run_inside a (b ∷ l) z p q r =
      let h : below b ≡ true = and_left (below b) (every below l) q in
      and_both (inside n (a, b)) (every (inside n) (run_edges b l z)) (and_both (below a) (below b) p h) (run_inside b l z h (and_right (below b) (every below l) q) r)

  ring_inside : (ps : List ℕ) → every below ps ≡ true → every (inside n) (ring_edges ps) ≡ true
  ring_inside [] h = refl
  ring_inside (a ∷ r) h =
      let p : below a ≡ true = and_left (below a) (every below r) h in
      run_inside a r a p (and_right (below a) (every below r) h) p

  abbrev placed : Corner → Bool
  placed c = below (position c)

  edges_inside : (s cs : List ℕ) → width * sum s ≤ length cs → every placed (corners_in cs) ≡ true → every (inside n) (edges_of (rings s cs)) ≡ true
  edges_inside [] cs h p = refl
  edges_inside (k ∷ s) cs h p =
      let f : List ℕ = take (width * k) cs in
      let r : List ℕ = drop (width * k) cs in
      let e : corners_in cs ≡ corners_in f ++ corners_in r = corners_in-split k cs (omega arith) in
      let q : (every placed (corners_in f) && every placed (corners_in r)) ≡ true = sym (every_append placed (corners_in f) (corners_in r)) ∙ ap (every placed) (sym e) ∙ p in
      every_append (inside n) (ring_edges (map position (corners_in f))) (edges_of (rings s r))
      ∙ and_both (every (inside n) (ring_edges (map position (corners_in f)))) (every (inside n) (edges_of (rings s r)))
      (ring_inside (map position (corners_in f)) (every_map position below (corners_in f) ∙ and_left (every placed (corners_in f)) (every placed (corners_in r)) q))
      (edges_inside s r
      (let z : length (drop (width * k) cs) ≡ length cs - width * k = length-drop (width * k) cs in omega arith)
      (and_right (every placed (corners_in f)) (every placed (corners_in r)) q))

-- both ends of every use lie below the number of positions
pub uses_inside : (cs s : List ℕ) (n : ℕ) → Edged cs s n → every (inside n) (edges_of (rings s cs)) ≡ true
uses_inside cs s n h =
    edges_inside n s cs (let z : width * sum s ≡ length cs = h.sound.adds in omega arith)
    (every_all (placed n) [] (corners_in cs)
    (λ k l.
    let j : k < length cs / width = rw (length-corners_in cs) at l in
    ap (placed n) (get_or-corners_in cs k j) ∙ lt-ltb (get_or cs (width * k) 0) n (h.below k j)))
