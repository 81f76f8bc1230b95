-- The uses of edge keys, face after face, and their columns: the use of the edge at a corner, one face more, and all of them.
-- Assumes nothing.
use mathlib.Core.Path.{◌≡◌, refl, sym, ap, ap₂, ◌∙◌, subst}
use mathlib.Core.Logic.{⊎_elim}
use mathlib.Core.Bool.{Bool, cond}
use mathlib.Core.List.{List, [], ◌∷◌, ◌++◌, append-nil, append_assoc, map, map-map, map-append}
use Prim.Native.Nat.{ℕ, zero, suc, ◌+◌, ◌*◌, ◌/◌, ◌≤◌, ◌<◌}
use native.Mathlib.Nat.{add-zero, zero-add, suc-add, add-suc, not-suc-le-zero, le_of_suc-le-suc}
use native.Mathlib.Numerals.{add-one}
use native.Mathlib.Omega.{arith}
use lib.ListN.{length, get_or, take, set, length-append, length-map, get_or-append}
use lib.Seq.{sets, length-sets, take-suc, take-length, get_or-append-add}
use borrow.Author.Tests.{lt-ltb, le-ltb}
use Rattle.lists.specs.Lists.{span, sum}
use Rattle.lists.proofs.Writing.{sets_append, Copying, copy_turns, copy_ends}
use Rattle.lists.proofs.Copies.{sets_whole}
use Rattle.lists.proofs.Buckets.{lt_or_ge, table_at, table_ext}
use Rattle.mesh.specs.Limits.{width, corner_numbers}
use Rattle.mesh.specs.Mesh.{Corner, Ring, corners_in, rings, corner_at}
use Rattle.mesh.specs.Face.{offset_of, face_of, Sound}
use Rattle.mesh.proofs.Corners.{length-corners_in, get_or-corners_in}
use Rattle.mesh.proofs.Faces.{face_length, face_fits, offset_step, length_rings, get_or-rings}
use Rattle.mesh.specs.Edges.{run_edges, ring_edges}
use Rattle.mesh.proofs.Edges.{length_ring}
use Rattle.columns.specs.Keys.{Key, key_of, face_keys, Use, uses_from}
use Rattle.lists.specs.Numbers.{next_of}
use Rattle.columns.specs.Columns.{normal_digit, chosen, entry_of, column, edge_at, face_uses, FaceRoom}

-- ---- the edges of a ring: from each corner, to the one behind it

module _ {A : Type 0} where
  run_at : (c : A) (a : A) (r : List A) (z : A) (j : ℕ) → j < suc (length r) → get_or (run_edges a r z) j (c, c) ≡ (get_or (a ∷ r) j c, get_or (r ++ (z ∷ [])) j c)
  run_at c a [] z zero h = refl
  run_at c a [] z (suc j) h = absurd (not-suc-le-zero (le_of_suc-le-suc h))
  run_at c a (b ∷ r) z zero h = refl
  run_at c a (b ∷ r) z (suc j) h = run_at c b r z j (le_of_suc-le-suc h)

  behind_at : (c : A) (a : A) (r : List A) (j : ℕ) → j < suc (length r) → get_or (r ++ (a ∷ [])) j c ≡ get_or (a ∷ r) (next_of j (suc (length r))) c
  unfolding next_of
  behind_at c a r j h =
      ⊎_elim
      (λ l.
      get_or-append r (a ∷ []) c j l
      ∙ ap (λ (k : ℕ). get_or (a ∷ r) k c) (sym (add-one j))
      ∙ ap (λ (b : Bool). get_or (a ∷ r) (cond b (j + 1) 0) c) (sym (lt-ltb (j + 1) (suc (length r)) (omega arith))))
      (λ l.
      let e : j ≡ length r + 0 = omega arith in
      ap (λ (k : ℕ). get_or (r ++ (a ∷ [])) k c) e
      ∙ get_or-append-add r (a ∷ []) 0 c
      ∙ ap (λ (b : Bool). get_or (a ∷ r) (cond b (j + 1) 0) c) (sym (le-ltb (j + 1) (suc (length r)) (omega arith))))
      (lt_or_ge j (length r))

  pub ring_at : (c : A) (f : List A) (j : ℕ) → j < length f → get_or (ring_edges f) j (c, c) ≡ (get_or f j c, get_or f (next_of j (length f)) c)
  ring_at c [] j h = absurd (not-suc-le-zero h)
  ring_at c (a ∷ r) j h = run_at c a r a j h ∙ ap (λ (b : A). (get_or (a ∷ r) j c, b)) (behind_at c a r j h)

-- a corner behind one of n is one of n
pub next_below : (n j : ℕ) → j < n → next_of j n < n
unfolding next_of
next_below n j h =
    ⊎_elim
    (λ l. rw (lt-ltb (j + 1) n l) l)
    (λ l. rw (le-ltb (j + 1) n l) (omega arith))
    (lt_or_ge (j + 1) n)

-- the edges of a face that is a part of the list of corners
pub ring_part : (part : List ℕ) → ring_edges (corners_in part) ≡ map (edge_at part) (span 0 (length part / width))
unfolding edge_at
ring_part part =
    let n : length (corners_in part) ≡ length part / width = length-corners_in part in
    table_ext (edge_at part) (length part / width) ([], []) (ring_edges (corners_in part))
    (length_ring (corners_in part) ∙ n)
    (λ j h.
    ring_at [] (corners_in part) j (omega arith)
    ∙ ap (λ (m : ℕ). (get_or (corners_in part) j [], get_or (corners_in part) (next_of j m) [])) n
    ∙ ap₂ (λ (a b : Corner). (a, b)) (get_or-corners_in part j h) (get_or-corners_in part (next_of j (length part / width)) (next_below (length part / width) j h)))

module _ (normals : Bool) (which : ℕ) where
  -- ---- the uses of one face

  abbrev pub face_column : ℕ → Ring → List ℕ
  face_column k f = map (entry_of which) (face_uses normals k f)

  face_column_length : (k : ℕ) (f : Ring) → length (face_column k f) ≡ length f
  face_column_length k f =
      length-map (face_uses normals k f) (entry_of which)
      ∙ length-map (face_keys normals f) (λ key. (k, key))
      ∙ length-map (ring_edges f) (key_of normals)
      ∙ length_ring f

  face_column_lem : (k : ℕ) (part : List ℕ) → face_column k (corners_in part) ≡ map (λ j. entry_of which (k, key_of normals (edge_at part j))) (span 0 (length part / width))
  face_column_lem k part =
      map-map (entry_of which) (λ key. (k, key)) (face_keys normals (corners_in part))
      ∙ map-map (λ key. entry_of which (k, key)) (key_of normals) (ring_edges (corners_in part))
      ∙ ap (map (λ e. entry_of which (k, key_of normals e))) (ring_part part)
      ∙ map-map (λ e. entry_of which (k, key_of normals e)) (edge_at part) (span 0 (length part / width))

  -- as many numbers as the face has corners, and at corner j the one of its edge
  pub part_column_length : (k : ℕ) (part : List ℕ) → length (face_column k (corners_in part)) ≡ length part / width
  part_column_length k part = face_column_length k (corners_in part) ∙ length-corners_in part

  pub part_column_at : (k : ℕ) (part : List ℕ) (j : ℕ) → j < length part / width → get_or (face_column k (corners_in part)) j 0 ≡ entry_of which (k, key_of normals (edge_at part j))
  part_column_at k part j h =
      ap (λ (l : List ℕ). get_or l j 0) (face_column_lem k part) ∙ table_at (λ i. entry_of which (k, key_of normals (edge_at part i))) (length part / width) j 0 h

  -- one number more of a face's column
  pub face_turns :
      (k : ℕ) (part out₀ out : List ℕ) (at j v : ℕ) → j < length part / width → v ≡ entry_of which (k, key_of normals (edge_at part j))
      → Copying (face_column k (corners_in part)) out₀ out at j
      → Copying (face_column k (corners_in part)) out₀ (set out (at + j) v) at (j + 1)
  face_turns k part out₀ out at j v h e c =
      subst
      (λ (x : ℕ). Copying (face_column k (corners_in part)) out₀ (set out (at + j) x) at (j + 1))
      (part_column_at k part j h ∙ sym e)
      (copy_turns 0 (face_column k (corners_in part)) out₀ out at j (let l : length (face_column k (corners_in part)) ≡ length part / width = part_column_length k part in omega arith) c)

  pub face_ends :
      (k : ℕ) (part out₀ out : List ℕ) (at j : ℕ) → length part / width ≤ j → Copying (face_column k (corners_in part)) out₀ out at j
      → out ≡ sets out₀ at (face_column k (corners_in part))
  face_ends k part out₀ out at j h c =
      copy_ends 0 (face_column k (corners_in part)) out₀ out at j (let l : length (face_column k (corners_in part)) ≡ length part / width = part_column_length k part in omega arith) c

-- ---- one face more

uses_snoc : (normals : Bool) (i : ℕ) (fs : List Ring) (f : Ring) → uses_from normals i (fs ++ (f ∷ [])) ≡ uses_from normals i fs ++ face_uses normals (i + length fs) f
uses_snoc normals i [] f = append-nil (face_uses normals i f) ∙ ap (λ (k : ℕ). face_uses normals k f) (sym (add-zero i))
uses_snoc normals i (g ∷ fs) f =
    ap (λ (l : List Use). face_uses normals i g ++ l) (uses_snoc normals (suc i) fs f)
    ∙ sym (append_assoc (face_uses normals i g) (uses_from normals (suc i) fs) (face_uses normals (suc i + length fs) f))
    ∙ ap (λ (k : ℕ). (face_uses normals i g ++ uses_from normals (suc i) fs) ++ face_uses normals k f) (suc-add i (length fs) ∙ sym (add-suc i (length fs)))

-- the column of the first k faces is written, and `at` corners are passed
pub record Filling (normals : Bool) (which : ℕ) (cs s out₀ out : List ℕ) (at k : ℕ) : Type 0 where
  pub within : k ≤ length s
  pub passed : at ≡ offset_of s k
  pub filled : out ≡ sets out₀ 0 (map (entry_of which) (uses_from normals 0 (take k (rings s cs))))
  pub counted : length (map (entry_of which) (uses_from normals 0 (take k (rings s cs)))) ≡ at
  pub long : length out ≡ length out₀

module _ (normals : Bool) (which : ℕ) (cs s out₀ : List ℕ) where
  pub fill_begins : Filling normals which cs s out₀ out₀ 0 0
  fill_begins = record { within = omega arith; passed = refl; filled = refl; counted = refl; long = refl }

  abbrev upto : ℕ → List ℕ
  upto k = map (entry_of which) (uses_from normals 0 (take k (rings s cs)))

  one_more : (k : ℕ) → k < length s → upto (k + 1) ≡ upto k ++ map (entry_of which) (face_uses normals k (corners_in (face_of cs s k)))
  one_more k h =
      let l : length (rings s cs) ≡ length s = length_rings s cs in
      let n : length (take k (rings s cs)) ≡ k = lib.Seq.length-take-le k (rings s cs) (omega arith) in
      ap upto (add-one k)
      ∙ ap (λ (fs : List Ring). map (entry_of which) (uses_from normals 0 fs)) (take-suc (rings s cs) k [] (omega arith))
      ∙ ap (map (entry_of which)) (uses_snoc normals 0 (take k (rings s cs)) (get_or (rings s cs) k []))
      ∙ map-append (entry_of which) (uses_from normals 0 (take k (rings s cs))) (face_uses normals (0 + length (take k (rings s cs))) (get_or (rings s cs) k []))
      ∙ ap₂ (λ (i : ℕ) (f : Ring). upto k ++ map (entry_of which) (face_uses normals i f)) (zero-add (length (take k (rings s cs))) ∙ n) (get_or-rings s cs k h)

  pub fill_turns :
      (out out' part : List ℕ) (at k : ℕ) → Sound cs s → k < length s → part ≡ face_of cs s k
      → out' ≡ sets out at (map (entry_of which) (face_uses normals k (corners_in part)))
      → Filling normals which cs s out₀ out at k
      → Filling normals which cs s out₀ out' (at + length part / width) (k + 1)
  fill_turns out out' part at k sound h e w r = record {
    within = omega arith;
    passed =
        let p : at ≡ offset_of s k = r.passed in
        let q : offset_of s (k + 1) ≡ offset_of s k + get_or s k 0 = offset_step s k h in
        let z : length part / width ≡ get_or s k 0 = size in
        omega arith;
    filled =
        w
        ∙ ap (λ (l : List ℕ). sets l at (map (entry_of which) (face_uses normals k (corners_in part)))) r.filled
        ∙ ap (λ (i : ℕ). sets (sets out₀ 0 (upto k)) i (map (entry_of which) (face_uses normals k (corners_in part)))) (sym (zero-add (length (upto k)) ∙ r.counted))
        ∙ sym (sets_append out₀ 0 (upto k) (map (entry_of which) (face_uses normals k (corners_in part))))
        ∙ ap (λ (p : List ℕ). sets out₀ 0 (upto k ++ map (entry_of which) (face_uses normals k (corners_in p)))) e
        ∙ ap (sets out₀ 0) (sym (one_more k h));
    counted =
        ap length (one_more k h)
        ∙ length-append (upto k) (map (entry_of which) (face_uses normals k (corners_in (face_of cs s k))))
        ∙ ap₂ ◌+◌ r.counted (ap (λ (p : List ℕ). length (map (entry_of which) (face_uses normals k (corners_in p)))) (sym e) ∙ part_column_length normals which k part);
    long = ap length w ∙ length-sets out at (map (entry_of which) (face_uses normals k (corners_in part))) ∙ r.long;
  }
    where
      size : length part / width ≡ get_or s k 0
      size = let l : length part ≡ width * get_or s k 0 = ap length e ∙ face_length cs s sound k h in omega arith

  pub fill_ends :
      (out : List ℕ) (at k : ℕ) → Sound cs s → length s ≤ k → length out₀ ≡ length cs / width → Filling normals which cs s out₀ out at k
      → out ≡ column normals which (rings s cs)
  unfolding column
  fill_ends out at k sound h room r =
      let e : k ≡ length s = omega (arith, r.within) in
      let l : length (rings s cs) ≡ length s = length_rings s cs in
      let all : upto k ≡ map (entry_of which) (uses_from normals 0 (rings s cs)) =
      ap upto (e ∙ sym l) ∙ ap (λ (fs : List Ring). map (entry_of which) (uses_from normals 0 fs)) (take-length (rings s cs)) in
      let p : at ≡ sum (take k s) = r.passed in
      let q : take k s ≡ s = ap (λ (n : ℕ). take n s) e ∙ take-length s in
      let t : at ≡ sum s = p ∙ ap sum q in
      let c : length (upto k) ≡ at = r.counted in
      let a : width * sum s ≡ length cs = sound.adds in
      r.filled ∙ sets_whole out₀ (upto k) (omega arith) ∙ all

  -- the face's part fits behind what is written
  pub fill_room :
      (out part : List ℕ) (at k : ℕ) → Sound cs s → k < length s → part ≡ face_of cs s k → length out₀ ≡ length cs / width
      → Filling normals which cs s out₀ out at k → FaceRoom part out at
  fill_room out part at k sound h e room r =
      let l : length part ≡ width * get_or s k 0 = ap length e ∙ face_length cs s sound k h in
      let f : width * offset_of s k + width * get_or s k 0 ≤ length cs = face_fits cs s sound k h in
      let p : at ≡ offset_of s k = r.passed in
      let g : length out ≡ length out₀ = r.long in
      let c : length cs ≤ corner_numbers = sound.fits in
      record { whole = omega arith; few = omega arith; room = omega arith }

-- ---- one number

-- the edge from corner j to the one behind it, b: by which position is lower
module _ (normals : Bool) (which k : ℕ) (part : List ℕ) (j b n m r : ℕ) (e : b ≡ next_of j (length part / width)) where
  entry_at :
      chosen which (key_of normals (corner_at part j, corner_at part b)).0 (key_of normals (corner_at part j, corner_at part b)).1
      (normal_digit (key_of normals (corner_at part j, corner_at part b)).2) (normal_digit (key_of normals (corner_at part j, corner_at part b)).3) k
      ≡ entry_of which (k, key_of normals (edge_at part j))
  unfolding edge_at
  entry_at = ap (λ (i : ℕ). entry_of which (k, key_of normals (corner_at part j, corner_at part i))) e

  pub entry_up :
      get_or part (width * j) 0 < get_or part (width * b) 0
      → n ≡ normal_digit (cond normals (get_or part (width * j + 2) 0) 0) → m ≡ normal_digit (cond normals (get_or part (width * b + 2) 0) 0)
      → r ≡ chosen which (get_or part (width * j) 0) (get_or part (width * b) 0) n m k
      → r ≡ entry_of which (k, key_of normals (edge_at part j))
  unfolding key_of
  entry_up h p q w =
      w
      ∙ ap₂ (λ (x y : ℕ). chosen which (get_or part (width * j) 0) (get_or part (width * b) 0) x y k) p q
      ∙ ap
      (λ (t : Bool).
      let key : Key = cond t (get_or part (width * j) 0, get_or part (width * b) 0, cond normals (get_or part (width * j + 2) 0) 0, cond normals (get_or part (width * b + 2) 0) 0)
      (get_or part (width * b) 0, get_or part (width * j) 0, cond normals (get_or part (width * b + 2) 0) 0, cond normals (get_or part (width * j + 2) 0) 0) in
      chosen which key.0 key.1 (normal_digit key.2) (normal_digit key.3) k)
      (sym (lt-ltb (get_or part (width * j) 0) (get_or part (width * b) 0) h))
      ∙ entry_at

  pub entry_down :
      get_or part (width * b) 0 ≤ get_or part (width * j) 0
      → n ≡ normal_digit (cond normals (get_or part (width * j + 2) 0) 0) → m ≡ normal_digit (cond normals (get_or part (width * b + 2) 0) 0)
      → r ≡ chosen which (get_or part (width * b) 0) (get_or part (width * j) 0) m n k
      → r ≡ entry_of which (k, key_of normals (edge_at part j))
  unfolding key_of
  entry_down h p q w =
      w
      ∙ ap₂ (λ (x y : ℕ). chosen which (get_or part (width * b) 0) (get_or part (width * j) 0) y x k) p q
      ∙ ap
      (λ (t : Bool).
      let key : Key = cond t (get_or part (width * j) 0, get_or part (width * b) 0, cond normals (get_or part (width * j + 2) 0) 0, cond normals (get_or part (width * b + 2) 0) 0)
      (get_or part (width * b) 0, get_or part (width * j) 0, cond normals (get_or part (width * b + 2) 0) 0, cond normals (get_or part (width * j + 2) 0) 0) in
      chosen which key.0 key.1 (normal_digit key.2) (normal_digit key.3) k)
      (sym (le-ltb (get_or part (width * j) 0) (get_or part (width * b) 0) h))
      ∙ entry_at
