-- The faces of a flat list: one more of what is left, the one at a place, and flat again. Assumes nothing.
use Rattle.std.proofs.Common.{◌≡◌, ℕ, zero, suc, ◌+◌, ◌-◌, ◌*◌, ◌/◌, ◌%◌, ◌<◌, ◌≤◌, Bool, true, List, [], ◌∷◌, ◌++◌, map, length, get_or, take, drop, sym, refl, ap, ◌∙◌, le_of_suc-le-suc, not-suc-le-zero, add-one, arith, length-drop, take-append-drop, length-take, length-take-le, drop-cons, drop-drop, take_at, drop_at, le-ltb, lt-ltb, eq-eqb, ne_eqb}
use native.Mathlib.Nat.{add-sub_cancel_left}
use Rattle.lists.specs.Lists.{every, joined, each, sum}
use Rattle.lists.proofs.Bools.{and_left, and_right, and_both}
use Rattle.lists.proofs.Parts.{sum_step, sum_at}
use Rattle.mesh.specs.Limits.{width}
use Rattle.mesh.specs.Mesh.{Mesh, Ring, corners_in, rings}
use Rattle.mesh.specs.Table.{shape_number}
use Rattle.mesh.specs.Face.{offset_of, face_of, face_part, Sound}
use Rattle.mesh.proofs.Corners.{is_corner, corners-corners_in, corners_in-joined, joined-corners_in, length_corners, length-corners_in}

-- ---- taking a face

-- face k ends within the corners
pub face_fits : (cs s : List ℕ) → Sound cs s → (k : ℕ) → k < length s → width * offset_of s k + width * get_or s k 0 ≤ length cs
face_fits cs s h k l = let a : offset_of s k + get_or s k 0 ≤ sum s = sum_at s k l in let b : width * sum s ≡ length cs = h.adds in omega arith

-- a face has three numbers for each of its corners
pub face_length : (cs s : List ℕ) → Sound cs s → (k : ℕ) → k < length s → length (face_of cs s k) ≡ width * get_or s k 0
unfolding face_of
face_length cs s h k l =
    let f : width * offset_of s k + width * get_or s k 0 ≤ length cs = face_fits cs s h k l in
    simp (length-take, length-drop) (omega arith)

-- the part from a to e is the face
pub part_is : (cs s : List ℕ) (k at : ℕ) → at ≡ offset_of s k → take (width * at + width * get_or s k 0 - width * at) (drop (width * at) cs) ≡ face_of cs s k
unfolding face_of
part_is cs s k at h = rw (add-sub_cancel_left (width * at) (width * get_or s k 0), h)

-- the next face begins where this one ends
pub offset_step : (s : List ℕ) (k : ℕ) → k < length s → offset_of s (k + 1) ≡ offset_of s k + get_or s k 0
offset_step = sum_step

-- ---- the list of faces

pub length_rings : (s cs : List ℕ) → length (rings s cs) ≡ length s
length_rings [] cs = refl
length_rings (n ∷ s) cs = ap suc (length_rings s (drop (width * n) cs))

-- one more face of what is left
pub rings_step :
    (s cs : List ℕ) (k : ℕ) → k < length s
    → rings (drop k s) (drop (width * offset_of s k) cs) ≡ corners_in (face_of cs s k) ∷ rings (drop (k + 1) s) (drop (width * offset_of s (k + 1)) cs)
unfolding face_of
rings_step s cs k h =
    let n = get_or s k 0 in
    let o = offset_of s k in
    let e : width * o + width * n ≡ width * offset_of s (k + 1) = let z : offset_of s (k + 1) ≡ o + n = sum_step s k h in omega arith in
    ap (λ (t : List ℕ). rings t (drop (width * o) cs)) (drop-cons s k 0 h)
    ∙ ap (λ (t : List ℕ). corners_in (take (width * n) (drop (width * o) cs)) ∷ rings (drop (suc k) s) t) (drop-drop (width * n) (width * o) cs ∙ ap (λ (i : ℕ). drop i cs) e)
    ∙ ap (λ (i : ℕ). corners_in (take (width * n) (drop (width * o) cs)) ∷ rings (drop i s) (drop (width * offset_of s (k + 1)) cs)) (sym (add-one k))

-- the face at a place
pub get_or-rings : (s cs : List ℕ) (k : ℕ) → k < length s → get_or (rings s cs) k [] ≡ corners_in (face_of cs s k)
unfolding face_of
get_or-rings [] cs k h = absurd (not-suc-le-zero h)
get_or-rings (n ∷ s) cs zero h = refl
get_or-rings (n ∷ s) cs (suc k) h =
    let e : width * n + width * sum (take k s) ≡ width * (n + sum (take k s)) = omega arith in
    get_or-rings s (drop (width * n) cs) k (le_of_suc-le-suc h)
    ∙ ap (λ (l : List ℕ). corners_in (take (width * get_or s k 0) l)) (drop-drop (width * sum (take k s)) (width * n) cs ∙ ap (λ (i : ℕ). drop i cs) e)

-- its size
pub length_face : (cs s : List ℕ) → Sound cs s → (k : ℕ) → k < length s → length (corners_in (face_of cs s k)) ≡ get_or s k 0
length_face cs s h k l =
    let a : length (face_of cs s k) ≡ width * get_or s k 0 = face_length cs s h k l in
    let b : length (corners_in (face_of cs s k)) ≡ length (face_of cs s k) / width = length-corners_in (face_of cs s k) in
    omega arith

-- ---- flat and back

abbrev pub is_ring : Ring → Bool
is_ring r = every is_corner r

pub rings_are : (s cs : List ℕ) → every is_ring (rings s cs) ≡ true
rings_are [] cs = refl
rings_are (n ∷ s) cs = and_both (is_ring (corners_in (take (width * n) cs))) (every is_ring (rings s (drop (width * n) cs))) (corners-corners_in (take (width * n) cs)) (rings_are s (drop (width * n) cs))

-- faces that are written flat are read back as they were
pub rings_back : (fs : List Ring) → every is_ring fs ≡ true → rings (map length fs) (each joined fs) ≡ fs
rings_back [] h = refl
rings_back (f ∷ fs) h =
    let a : is_ring f ≡ true = and_left (is_ring f) (every is_ring fs) h in
    let b : every is_ring fs ≡ true = and_right (is_ring f) (every is_ring fs) h in
    let n : length (joined f) ≡ width * length f = length_corners f a in
    ap (λ (l : List ℕ). corners_in l ∷ rings (map length fs) (drop (width * length f) (joined f ++ each joined fs))) (take_at (joined f) (each joined fs) (width * length f) n)
    ∙ ap (λ (l : List ℕ). corners_in (joined f) ∷ rings (map length fs) l) (drop_at (joined f) (each joined fs) (width * length f) n)
    ∙ ap (λ (l : List Ring). corners_in (joined f) ∷ l) (rings_back fs b)
    ∙ ap (λ (r : Ring). r ∷ fs) (corners_in-joined f a)

-- and the lists of sizes and corners come back from the faces
pub sizes_back : (s cs : List ℕ) → width * sum s ≤ length cs → map length (rings s cs) ≡ s
sizes_back [] cs h = refl
sizes_back (n ∷ s) cs h =
    let a : length (corners_in (take (width * n) cs)) ≡ n =
    let z : length (corners_in (take (width * n) cs)) ≡ length (take (width * n) cs) / width = length-corners_in (take (width * n) cs) in
    let y : length (take (width * n) cs) ≡ width * n = length-take-le (width * n) cs (omega arith) in
    omega arith in
    ap (λ (k : ℕ). k ∷ map length (rings s (drop (width * n) cs))) a
    ∙ ap (λ (l : List ℕ). n ∷ l) (sizes_back s (drop (width * n) cs) (simp length-drop (omega arith)))

pub corners_back : (s cs : List ℕ) → width * sum s ≡ length cs → each joined (rings s cs) ≡ cs
corners_back [] [] h = refl
corners_back [] (c ∷ cs) h = absurd (let z : 0 ≡ suc (length cs) = h in omega arith)
corners_back (n ∷ s) cs h =
    let y : length (take (width * n) cs) ≡ width * n = length-take-le (width * n) cs (omega arith) in
    let m : length (take (width * n) cs) % width ≡ 0 = omega arith in
    ap (λ (l : List ℕ). l ++ each joined (rings s (drop (width * n) cs))) (joined-corners_in (take (width * n) cs) m)
    ∙ ap (λ (l : List ℕ). take (width * n) cs ++ l) (corners_back s (drop (width * n) cs) (let z : length (drop (width * n) cs) ≡ length cs - width * n = length-drop (width * n) cs in omega arith))
    ∙ take-append-drop (width * n) cs

-- ---- the part that is handed back: empty where k is no face, or where the lists earn 1 to 4

pub no_face : (m : Mesh) (k : ℕ) → length m.sizes ≤ k → [] ≡ face_part m k
unfolding face_part
no_face m k h = rw (le-ltb k (length m.sizes) h)

pub no_shape : (m : Mesh) (k : ℕ) → k < length m.sizes → (shape_number m ≡ 0 → ⊥) → [] ≡ face_part m k
unfolding face_part
no_shape m k h e = rw (lt-ltb k (length m.sizes) h, ne_eqb (shape_number m) 0 e)

pub a_face : (m : Mesh) (k : ℕ) → k < length m.sizes → shape_number m ≡ 0 → face_of m.corners m.sizes k ≡ face_part m k
unfolding face_part
a_face m k h e = rw (lt-ltb k (length m.sizes) h, eq-eqb (shape_number m) 0 e)
