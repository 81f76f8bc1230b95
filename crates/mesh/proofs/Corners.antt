-- The corners of a flat list: one more of what is left, the one at a place, flat again, and those of two parts. How many numbers a
-- corner has matters to one law alone, that of the numbers of one corner. Assumes nothing.
use Rattle.std.proofs.Common.{◌≡◌, ℕ, zero, suc, ◌+◌, ◌-◌, ◌*◌, ◌/◌, ◌%◌, ◌<◌, ◌≤◌, Bool, true, eqb, List, [], ◌∷◌, ◌++◌, length, get_or, take, drop, sym, refl, ap, ◌∙◌, append_assoc, le_of_suc-le-suc, not-suc-le-zero, arith, length-append, length-drop, take-append-drop, length-take-le, drop-cons, drop-drop, take_at, drop_at, eq-eqb, eqb-true}
use Rattle.std.specs.Simd.{first_chunks}
use native.Mathlib.Numerals.{towards_suc}
use Rattle.lists.specs.Lists.{every, joined}
use Rattle.lists.proofs.Bools.{and_both, and_left, and_right}
use Rattle.mesh.specs.Limits.{width}
use Rattle.mesh.specs.Mesh.{Corner, Ring, first_corners, corners_in, corner_at}

-- the numbers of one corner
corner_of : (cs : List ℕ) (i : ℕ) → i + width ≤ length cs → take width (drop i cs) ≡ get_or cs i 0 ∷ get_or cs (i + 1) 0 ∷ get_or cs (i + 2) 0 ∷ get_or cs (i + 3) 0 ∷ []
corner_of cs i h =
    let a : i < length cs = omega arith in
    let b : suc i < length cs = omega arith in
    let c : suc (suc i) < length cs = omega arith in
    let d : suc (suc (suc i)) < length cs = omega arith in
    simp towards_suc
    (rw (drop-cons cs i 0 a, drop-cons cs (suc i) 0 b, drop-cons cs (suc (suc i)) 0 c, drop-cons cs (suc (suc (suc i))) 0 d))

-- one more corner of what is left
pub corners_in-step : (cs : List ℕ) (k : ℕ) → width * (k + 1) ≤ length cs → corners_in (drop (width * k) cs) ≡ corner_at cs k ∷ corners_in (drop (width * (k + 1)) cs)
corners_in-step cs k h =
    let l = drop (width * k) cs in
    let r = drop (width * (k + 1)) cs in
    let x : length (drop (width * k) cs) ≡ length cs - width * k = length-drop (width * k) cs in
    let y : length (drop (width * (k + 1)) cs) ≡ length cs - width * (k + 1) = length-drop (width * (k + 1)) cs in
    let n : length (drop (width * k) cs) / width ≡ suc (length (drop (width * (k + 1)) cs) / width) = omega arith in
    let e : width * k + width ≡ width * (k + 1) = omega arith in
    ap (λ (i : ℕ). first_corners i l) n
    ∙ ap (λ (c : Corner). c ∷ first_corners (length r / width) (drop width l)) (corner_of cs (width * k) (omega arith))
    ∙ ap (λ (t : List ℕ). corner_at cs k ∷ first_corners (length r / width) t) (drop-drop width (width * k) cs ∙ ap (λ (i : ℕ). drop i cs) e)

-- there are as many corners as their width goes into the numbers
length_first : (n : ℕ) (cs : List ℕ) → length (first_corners n cs) ≡ n
length_first zero cs = refl
length_first (suc n) cs = ap suc (length_first n (drop width cs))

pub length-corners_in : (cs : List ℕ) → length (corners_in cs) ≡ length cs / width
length-corners_in cs = length_first (length cs / width) cs

-- the corner at a place
get_or-first : (n : ℕ) (cs : List ℕ) (k : ℕ) → k < n → get_or (first_corners n cs) k [] ≡ take width (drop (width * k) cs)
get_or-first zero cs k h = absurd (not-suc-le-zero h)
get_or-first (suc n) cs zero h = refl
get_or-first (suc n) cs (suc k) h =
    let e : width + width * k ≡ width * suc k = omega arith in
    get_or-first n (drop width cs) k (le_of_suc-le-suc h)
    ∙ ap (take width) (drop-drop (width * k) width cs ∙ ap (λ (i : ℕ). drop i cs) e)

pub get_or-corners_in : (cs : List ℕ) (k : ℕ) → k < length cs / width → get_or (corners_in cs) k [] ≡ corner_at cs k
get_or-corners_in cs k h = get_or-first (length cs / width) cs k h ∙ corner_of cs (width * k) (omega arith)

-- the library's chunks of a list of corners are its corners
chunks_first : (n : ℕ) (cs : List ℕ) → first_chunks width n cs ≡ first_corners n cs
chunks_first zero cs = refl
chunks_first (suc n) cs = ap (λ (r : Ring). take width cs ∷ r) (chunks_first n (drop width cs))

pub first_chunks-corners_in : (cs : List ℕ) → first_chunks width (length cs / width) cs ≡ corners_in cs
first_chunks-corners_in cs = chunks_first (length cs / width) cs

-- how long a corner is
abbrev pub is_corner : Corner → Bool
is_corner c = eqb (length c) width

corners_first : (n : ℕ) (cs : List ℕ) → width * n ≤ length cs → every is_corner (first_corners n cs) ≡ true
corners_first zero cs h = refl
corners_first (suc n) cs h =
    let z : length (drop width cs) ≡ length cs - width = length-drop width cs in
    and_both (is_corner (take width cs)) (every is_corner (first_corners n (drop width cs)))
    (eq-eqb (length (take width cs)) width (length-take-le width cs (omega arith)))
    (corners_first n (drop width cs) (omega arith))

pub corners-corners_in : (cs : List ℕ) → every is_corner (corners_in cs) ≡ true
corners-corners_in cs = corners_first (length cs / width) cs (omega arith)

-- flat and back: whole corners are what they were
corner_then : (c : List ℕ) → length c ≡ width → (r : List ℕ) → corners_in (c ++ r) ≡ c ∷ corners_in r
corner_then c h r =
    let n : length (c ++ r) / width ≡ suc (length r / width) = omega (arith, length-append c r) in
    ap (λ (i : ℕ). first_corners i (c ++ r)) n
    ∙ ap (λ (d : Corner). d ∷ first_corners (length r / width) (drop width (c ++ r))) (take_at c r width h)
    ∙ ap (λ (l : List ℕ). c ∷ first_corners (length r / width) l) (drop_at c r width h)

corners_then : (r : Ring) (b : List ℕ) → every is_corner r ≡ true → corners_in (joined r ++ b) ≡ r ++ corners_in b
corners_then [] b h = refl
corners_then (c ∷ r) b h =
    ap corners_in (append_assoc c (joined r) b)
    ∙ corner_then c (eqb-true (length c) width (and_left (is_corner c) (every is_corner r) h)) (joined r ++ b)
    ∙ ap (λ (t : Ring). c ∷ t) (corners_then r b (and_right (is_corner c) (every is_corner r) h))

pub corners_in-joined : (r : Ring) → every is_corner r ≡ true → corners_in (joined r) ≡ r
corners_in-joined [] h = refl
corners_in-joined (c ∷ r) h =
    corner_then c (eqb-true (length c) width (and_left (is_corner c) (every is_corner r) h)) (joined r)
    ∙ ap (λ (t : Ring). c ∷ t) (corners_in-joined r (and_right (is_corner c) (every is_corner r) h))

joined_first : (n : ℕ) (cs : List ℕ) → length cs ≡ width * n → joined (first_corners n cs) ≡ cs
joined_first zero [] h = refl
joined_first zero (c ∷ cs) h = absurd (let z : suc (length cs) ≡ 0 = h in omega arith)
joined_first (suc n) cs h =
    let z : length (drop width cs) ≡ length cs - width = length-drop width cs in
    ap (λ (l : List ℕ). take width cs ++ l) (joined_first n (drop width cs) (omega arith))
    ∙ take-append-drop width cs

pub joined-corners_in : (cs : List ℕ) → length cs % width ≡ 0 → joined (corners_in cs) ≡ cs
joined-corners_in cs h = joined_first (length cs / width) cs (omega arith)

pub length_corners : (r : Ring) → every is_corner r ≡ true → length (joined r) ≡ width * length r
length_corners [] h = refl
length_corners (c ∷ r) h =
    let a : length c ≡ width = eqb-true (length c) width (and_left (is_corner c) (every is_corner r) h) in
    let b : length (joined r) ≡ width * length r = length_corners r (and_right (is_corner c) (every is_corner r) h) in
    omega (arith, length-append c (joined r))

-- the first n corners and the others
pub corners_in-split : (n : ℕ) (cs : List ℕ) → width * n ≤ length cs → corners_in cs ≡ corners_in (take (width * n) cs) ++ corners_in (drop (width * n) cs)
corners_in-split n cs h =
    let a = take (width * n) cs in
    let l : length (take (width * n) cs) ≡ width * n = length-take-le (width * n) cs h in
    let whole : joined (corners_in a) ≡ a = joined-corners_in a (omega arith) in
    ap corners_in (sym (take-append-drop (width * n) cs))
    ∙ ap (λ (f : List ℕ). corners_in (f ++ drop (width * n) cs)) (sym whole)
    ∙ corners_then (corners_in a) (drop (width * n) cs) (corners-corners_in a)
