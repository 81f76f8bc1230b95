-- Four triangles for one, on flat lists: those of triangle k are those of the face at place k; written for one face after the other they
-- are the smoothed faces. Assumes nothing.
use Rattle.std.proofs.Common.{◌≡◌, refl, sym, ap, ◌∙◌, Bool, true, false, cond, List, [], ◌∷◌, ◌++◌, map, ℕ, suc, ◌+◌, ◌*◌, ◌≤◌, ◌<◌, arith, length, get_or, replicate, take}
use Rattle.std.proofs.Common.{drop, length-take-le}
use lib.ListN.{length-map}
use lib.Seq.{sets}
use lib.ListN.{length-replicate}
use Rattle.lists.proofs.Writing.{sets_front}
use Rattle.lists.specs.Lists.{joined, each}
use Rattle.lists.specs.Putting.{Written}
use Rattle.lists.proofs.Changing.{map_at}
use Rattle.lists.proofs.Listing.{Listing, written_long, listing_turns, listing_ends}
use Rattle.lists.proofs.Mapping.{each_each}
use Rattle.mesh.specs.Limits.{least_ring, corner_limit}
use Rattle.mesh.specs.Mesh.{Corner, Ring}
use Rattle.mesh.specs.Edges.{Edge, same}
use Rattle.smoothed.specs.Smoothed.{fold, bare, sides, quartered, four, middle, place, edges_by_use, smoothed_faces}
use Rattle.smoothed.specs.Columns.{triangles, edge_numbers}
use Rattle.smoothed.proofs.Limits.{edges_few}
use Rattle.smoothed.proofs.Triangles.{length_triangles, triangle_count, triangle_at, triangle_at_lem, length-edge_numbers, edge_number}
use Rattle.fourfold.specs.Working.{triangle_numbers, Given, four_at, FourRoom}

-- ---- a front of sizes that is filled

pub sizes_put :
    (n t : ℕ) (l f : List ℕ) → n ≤ length l → f ≡ replicate (length (take n l)) t → f ++ drop n l ≡ sets l 0 (replicate n t)
sizes_put n t l f h e =
    let m : length (take n l) ≡ n = length-take-le n l h in
    let k : length (replicate n t) ≡ n = length-replicate n t in
    ap (λ (g : List ℕ). g ++ drop n l) (e ∙ ap (λ (i : ℕ). replicate i t) m)
    ∙ ap (λ (i : ℕ). replicate n t ++ drop i l) (sym k)
    ∙ sym (sets_front l (replicate n t) (omega arith))

-- ---- the four triangles of the face at place k

same_four :
    (n : ℕ) {u v w u' v' w' : Corner} {i j k i' j' k' : ℕ} → u ≡ u' → v ≡ v' → w ≡ w' → i ≡ i' → j ≡ j' → k ≡ k'
    → quartered u v w (bare (n + i)) (bare (n + j)) (bare (n + k)) ≡ quartered u' v' w' (bare (n + i')) (bare (n + j')) (bare (n + k'))
same_four n a b c d e f = rw (a, b, c, d, e, f)

pub four_here :
    (cs : List ℕ) (n k : ℕ) → k < triangle_count cs
    → four_at cs (edge_numbers (triangles cs)) n k ≡ four n (edges_by_use (triangles cs)) (get_or (triangles cs) k [])
unfolding middle
four_here cs n k h =
    let fs : List Ring = triangles cs in
    let there : triangle_at cs k ≡ get_or fs k [] = sym (triangle_at_lem cs k h) in
    let within : k < length fs = omega (arith, length_triangles cs) in
    let zero : least_ring * k ≡ least_ring * k + 0 = omega arith in
    same_four n
    (ap (λ (r : Ring). get_or r 0 []) there)
    (ap (λ (r : Ring). get_or r 1 []) there)
    (ap (λ (r : Ring). get_or r 2 []) there)
    (ap (λ (i : ℕ). get_or (edge_numbers fs) i 0) zero ∙ edge_number fs k 0 within (omega arith))
    (edge_number fs k 1 within (omega arith))
    (edge_number fs k 2 within (omega arith))

-- ---- the numbers of edges are small

place_most : (ks : List Edge) (k : Edge) → place ks k ≤ length ks
unfolding place
place_most [] k = omega arith
place_most (j ∷ ks) k = go (same k j) (place_most ks k)
  where
    go : (b : Bool) → place ks k ≤ length ks → cond b 0 (suc (place ks k)) ≤ suc (length ks)
    go true h = omega arith
    go false h = omega arith

-- ---- face after face

abbrev flat : List ℕ → ℕ → Ring → List ℕ
flat cs n f = each joined (four n (edges_by_use (triangles cs)) f)

-- the corners of the first k faces' triangles are written
abbrev pub Folding : List ℕ → ℕ → List ℕ → List ℕ → ℕ → Type 0
Folding cs n out out' k = Listing (flat cs n) (triangles cs) out out' 0 (fold * triangle_numbers * k) k

module _ (cs es : List ℕ) (n : ℕ) (out : List ℕ) (g : Given cs es n out) where
  long : length es ≡ least_ring * triangle_count cs
  long = omega (arith, ap length g.numbers, length-edge_numbers (triangles cs), length_triangles cs)

  small : (i : ℕ) → i < length es → get_or es i 0 ≤ corner_limit
  unfolding edge_numbers
  small i h =
      let fs : List Ring = triangles cs in
      let ks : List Edge = edges_by_use fs in
      let l : i < length (each sides fs) = omega (arith, ap length g.numbers, length-map (each sides fs) (place ks)) in
      let e : get_or es i 0 ≡ place ks (get_or (each sides fs) i (0, 0)) =
      ap (λ (t : List ℕ). get_or t i 0) g.numbers ∙ map_at (place ks) (0, 0) 0 (each sides fs) i l in
      omega (arith, place_most ks (get_or (each sides fs) i (0, 0)), edges_few fs, length_triangles cs, g.triangular.few)

  pub folding_long : (out' : List ℕ) (k : ℕ) → Folding cs n out out' k → length out' ≡ length out
  folding_long out' k f = written_long _ out out' 0 (fold * triangle_numbers * k) f.put

  pub folding_room : (out' : List ℕ) (k : ℕ) → k < triangle_count cs → Folding cs n out out' k → FourRoom cs es n k out'
  folding_room out' k h f = record {
    few = g.triangular.entries;
    within = omega arith;
    small = g.triangular.few;
    long = omega (arith, long);
    below = small;
    room = omega (arith, folding_long out' k f, g.room);
  }

  pub folding_turns :
      (out' out'' : List ℕ) (k : ℕ) → k < triangle_count cs → Folding cs n out out' k
      → out'' ≡ sets out' (fold * triangle_numbers * k) (each joined (four_at cs es n k)) → Folding cs n out out'' (k + 1)
  folding_turns out' out'' k h f e =
      let here : each joined (four_at cs es n k) ≡ flat cs n (get_or (triangles cs) k []) =
      ap (λ (t : List ℕ). each joined (four_at cs t n k)) g.numbers ∙ ap (each joined) (four_here cs n k h) in
      let so-long : length (each joined (four_at cs es n k)) ≡ fold * triangle_numbers = refl in
      listing_turns [] (flat cs n) (triangles cs) out 0 out' out'' (fold * triangle_numbers * k) (fold * triangle_numbers * (k + 1)) k
      (omega (arith, length_triangles cs))
      f
      (record {
        is = e ∙ ap (sets out' (fold * triangle_numbers * k)) here;
        next_is = omega (arith, so-long, ap length here);
      })

  pub folding_ends :
      (out' : List ℕ) (k : ℕ) → triangle_count cs ≤ k → Folding cs n out out' k → out' ≡ sets out 0 (each joined (smoothed_faces n (triangles cs)))
  unfolding smoothed_faces
  folding_ends out' k h f =
      let w : Written (each (flat cs n) (triangles cs)) out out' 0 (fold * triangle_numbers * k) =
      listing_ends [] (flat cs n) (triangles cs) out 0 out' (fold * triangle_numbers * k) k (omega (arith, length_triangles cs)) f in
      w.is ∙ ap (sets out 0) (sym (each_each joined (four n (edges_by_use (triangles cs))) (triangles cs)))

-- ---- sizes

pub sizes_are : (n : ℕ) (fs : List Ring) → map length (smoothed_faces n fs) ≡ replicate (fold * length fs) least_ring
unfolding smoothed_faces
sizes_are n fs = go fs
  where
    go : (gs : List Ring) → map length (each (four n (edges_by_use fs)) gs) ≡ replicate (fold * length gs) least_ring
    go [] = refl
    go (f ∷ gs) =
        let e : suc (suc (suc (suc (fold * length gs)))) ≡ fold * suc (length gs) = omega arith in
        ap (λ (l : List ℕ). least_ring ∷ least_ring ∷ least_ring ∷ least_ring ∷ l) (go gs)
        ∙ ap (λ (k : ℕ). replicate k least_ring) e
