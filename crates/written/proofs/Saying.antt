-- The pieces of an accepted mesh: they draw its lists, each of them can be said in a file, and they stay within the limits. Assumes nothing.
use mathlib.Core.Path.{◌≡◌, refl, sym, ap, ap₂, ◌∙◌}
use mathlib.Core.Bool.{Bool, true, ◌&&◌}
use mathlib.Core.List.{List, [], ◌∷◌, ◌++◌, append-nil, map}
use Prim.Native.Nat.{ℕ, zero, suc, ◌+◌, ◌*◌, ◌/◌, ◌%◌, ◌≤◌, ◌<◌}
use native.Mathlib.Omega.{arith}
use lib.ListN.{length, get_or, take, drop}
use lib.Dec.{leb, eqb}
use lib.Ieee.{Float, nan}
use lib.Ieee.Bits.{is_true}
use borrow.Author.Tests.{lt-ltb, le-leb, eqb-true, eqb-false}
use Rattle.lists.specs.Lists.{every, each, sum}
use Rattle.lists.proofs.Bools.{by_cases, and_left, and_right, and_both}
use Rattle.lists.proofs.Parts.{each_append, every_append, every_take, every_drop}
use Rattle.lists.proofs.Mapping.{every_map, each_map, every_all}
use Rattle.mesh.specs.Limits.{width, ring_limit}
use Rattle.mesh.specs.Mesh.{Mesh, Ring, first_corners, corners_in, rings, faces, missing}
use Rattle.mesh.proofs.Corners.{is_corner}
use Rattle.mesh.proofs.Faces.{is_ring, rings_are, sizes_back}
use Rattle.mesh.proofs.Accepted.{Accepted, Found}
use Rattle.grouping.proofs.Accepting.{sized}
use Rattle.floating.specs.declared.Point.{Point}
use Rattle.floating.specs.declared.Texel.{Texel}
use Rattle.floating.specs.Points.{coordinates, points_of}
use Rattle.floating.specs.Limits.{finite}
use Rattle.floating.specs.Promises.{Doubles}
use Rattle.floating.proofs.Finite.{finite_lists}
use Rattle.reading.specs.Reading.{Drawn, nothing}
use Rattle.written.specs.Pieces.{Piece, a_position, a_texture, a_normal, a_face, texels_of, pair, pieces_of, finite_mesh}
use Rattle.written.specs.Said.{is_double, is_coordinate, is_word, sayable, positions_in, textures_in, normals_in, faces_in, drawn_with, Roomy}
use Rattle.written.specs.Promises.{DoubleMesh}
use Rattle.written.proofs.Taking.{draws}

-- ---- flat lists come back from their points

points_flat : (s : List Float) → length s % 3 ≡ 0 → each coordinates (points_of s) ≡ s
points_flat [] h = refl
points_flat (a ∷ []) h = absurd (let z : ◌≡◌ {A = ℕ} 1 0 = h in omega arith)
points_flat (a ∷ b ∷ []) h = absurd (let z : ◌≡◌ {A = ℕ} 2 0 = h in omega arith)
points_flat (a ∷ b ∷ c ∷ s) h = ap (λ (l : List Float). a ∷ b ∷ c ∷ l) (points_flat s (let z : suc (suc (suc (length s))) % 3 ≡ 0 = h in omega arith))

texels_flat : (s : List Float) → length s % 2 ≡ 0 → each pair (texels_of s) ≡ s
texels_flat [] h = refl
texels_flat (a ∷ []) h = absurd (let z : ◌≡◌ {A = ℕ} 1 0 = h in omega arith)
texels_flat (a ∷ b ∷ s) h = ap (λ (l : List Float). a ∷ b ∷ l) (texels_flat s (let z : suc (suc (length s)) % 2 ≡ 0 = h in omega arith))

-- ---- what the pieces of a mesh draw

module _ {A B : Type 0} where
  each_none : (l : List A) → ◌≡◌ {A = List B} (each (λ (a : A). []) l) []
  each_none [] = refl
  each_none (a ∷ l) = each_none l

each_one : {A : Type 0} (l : List A) → each (λ (a : A). a ∷ []) l ≡ l
each_one [] = refl
each_one (a ∷ l) = ap (λ k. a ∷ k) (each_one l)

-- over the four parts
module _ {B : Type 0} (f : Piece → List B) (m : Mesh) where
  abbrev P : List Piece
  P = map a_position (points_of m.positions)

  abbrev T : List Piece
  T = map a_texture (texels_of m.textures)

  abbrev N : List Piece
  N = map a_normal (points_of m.normals)

  abbrev F : List Piece
  F = map a_face (faces m)

  each_pieces :
      (p t n g : List B) → each (λ x. f (a_position x)) (points_of m.positions) ≡ p → each (λ x. f (a_texture x)) (texels_of m.textures) ≡ t
      → each (λ x. f (a_normal x)) (points_of m.normals) ≡ n → each (λ x. f (a_face x)) (faces m) ≡ g → each f (pieces_of m) ≡ p ++ (t ++ (n ++ g))
  unfolding pieces_of
  each_pieces p t n g ep et en eg =
      let a : each f P ≡ p = each_map f a_position (points_of m.positions) ∙ ep in
      let b : each f T ≡ t = each_map f a_texture (texels_of m.textures) ∙ et in
      let c : each f N ≡ n = each_map f a_normal (points_of m.normals) ∙ en in
      let d : each f F ≡ g = each_map f a_face (faces m) ∙ eg in
      each_append f P (T ++ (N ++ F))
      ∙ ap₂ (λ (x y : List B). x ++ y) a
      (each_append f T (N ++ F)
      ∙ ap₂ (λ (x y : List B). x ++ y) b (each_append f N F ∙ ap₂ (λ (x y : List B). x ++ y) c d))

module _ (m : Mesh) where
  pub positions_said : length m.positions % 3 ≡ 0 → each positions_in (pieces_of m) ≡ m.positions
  positions_said h =
      each_pieces positions_in m m.positions [] [] [] (points_flat m.positions h) (each_none (texels_of m.textures)) (each_none (points_of m.normals)) (each_none (faces m))
      ∙ append-nil m.positions

  pub textures_said : length m.textures % 2 ≡ 0 → each textures_in (pieces_of m) ≡ m.textures
  textures_said h =
      each_pieces textures_in m [] m.textures [] [] (each_none (points_of m.positions)) (texels_flat m.textures h) (each_none (points_of m.normals)) (each_none (faces m))
      ∙ append-nil m.textures

  pub normals_said : length m.normals % 3 ≡ 0 → each normals_in (pieces_of m) ≡ m.normals
  normals_said h =
      each_pieces normals_in m [] [] m.normals [] (each_none (points_of m.positions)) (each_none (texels_of m.textures)) (points_flat m.normals h) (each_none (faces m))
      ∙ append-nil m.normals

  pub faces_said : each faces_in (pieces_of m) ≡ faces m
  faces_said =
      each_pieces faces_in m [] [] [] (faces m) (each_none (points_of m.positions)) (each_none (texels_of m.textures)) (each_none (points_of m.normals)) (each_one (faces m))

-- ---- each of them can be said

module _ (p : Piece → Bool) (m : Mesh) where
  every_piece :
      every (λ x. p (a_position x)) (points_of m.positions) ≡ true → every (λ x. p (a_texture x)) (texels_of m.textures) ≡ true
      → every (λ x. p (a_normal x)) (points_of m.normals) ≡ true → every (λ x. p (a_face x)) (faces m) ≡ true → every p (pieces_of m) ≡ true
  unfolding pieces_of
  every_piece ep et en eg =
      let P = map a_position (points_of m.positions) in
      let T = map a_texture (texels_of m.textures) in
      let N = map a_normal (points_of m.normals) in
      let F = map a_face (faces m) in
      let c : every p (N ++ F) ≡ true = every_append p N F ∙ and_both (every p N) (every p F) (every_map a_normal p (points_of m.normals) ∙ en) (every_map a_face p (faces m) ∙ eg) in
      let b : every p (T ++ (N ++ F)) ≡ true = every_append p T (N ++ F) ∙ and_both (every p T) (every p (N ++ F)) (every_map a_texture p (texels_of m.textures) ∙ et) c in
      every_append p P (T ++ (N ++ F)) ∙ and_both (every p P) (every p (T ++ (N ++ F))) (every_map a_position p (points_of m.positions) ∙ ep) b

every_yes : {A : Type 0} (l : List A) → every (λ (a : A). true) l ≡ true
every_yes [] = refl
every_yes (a ∷ l) = every_yes l

pub pieces_draw : (m : Mesh) → every draws (pieces_of m) ≡ true
pieces_draw m = every_piece draws m (every_yes (points_of m.positions)) (every_yes (texels_of m.textures)) (every_yes (points_of m.normals)) (every_yes (faces m))

every_both : {A : Type 0} (p q : A → Bool) (l : List A) → every p l ≡ true → every q l ≡ true → every (λ (x : A). p x && q x) l ≡ true
every_both p q [] f g = refl
every_both p q (x ∷ l) f g =
    rw (and_left (p x) (every p l) f, and_left (q x) (every q l) g) (every_both p q l (and_right (p x) (every p l) f) (and_right (q x) (every q l) g))

-- f64 coordinates, as a test over the list; and finite ones
pub doubles : (s : List Float) → Doubles s → every is_double s ≡ true
doubles s d = every_all is_double nan s (λ k l. is_true (is_double (get_or s k nan)) (d k l))

are_coordinates : (s : List Float) → Doubles s → every finite s ≡ true → every is_coordinate s ≡ true
are_coordinates s d f = every_both is_double finite s (doubles s d) f

-- what every coordinate passes, the coordinates of every point pass
module _ (q : Float → Bool) where
  points_pass : (s : List Float) → every q s ≡ true → every (λ (p : Point). every q (coordinates p)) (points_of s) ≡ true
  points_pass [] h = refl
  points_pass (a ∷ []) h = refl
  points_pass (a ∷ b ∷ []) h = refl
  points_pass (a ∷ b ∷ c ∷ s) h =
      let h1 = and_right (q a) (every q (b ∷ c ∷ s)) h in
      let h2 = and_right (q b) (every q (c ∷ s)) h1 in
      rw (and_left (q a) (every q (b ∷ c ∷ s)) h, and_left (q b) (every q (c ∷ s)) h1, and_left (q c) (every q s) h2)
      (points_pass s (and_right (q c) (every q s) h2))

  texels_pass : (s : List Float) → every q s ≡ true → every (λ (t : Texel). every q (pair t)) (texels_of s) ≡ true
  texels_pass [] h = refl
  texels_pass (a ∷ []) h = refl
  texels_pass (a ∷ b ∷ s) h =
      let h1 = and_right (q a) (every q (b ∷ s)) h in
      rw (and_left (q a) (every q (b ∷ s)) h, and_left (q b) (every q s) h1) (texels_pass s (and_right (q b) (every q s) h1))

-- every index of an accepted mesh fits four bytes
small_index : (i count : ℕ) → count ≤ 4294967296 → ((i ≡ missing → ⊥) → i < count) → i < 4294967296
small_index i count l f =
    by_cases (eqb i missing)
    (λ e. let z : i ≡ 4294967295 = eqb-true i missing e in omega arith)
    (λ e. let z : i < count = f (eqb-false i missing e) in omega arith)

word_at : (m : Mesh) → Accepted m → DoubleMesh m → (k r : ℕ) → k < length m.corners / width → r < width → get_or m.corners (width * k + r) 0 < 4294967296
word_at m a d k zero l h =
    let f : Found m k = a.corner k l in
    let e : width * k + 0 ≡ width * k = omega arith in
    rw e (omega (arith, f.position, a.limits.positions))
word_at m a d k (suc zero) l h = small_index (get_or m.corners (width * k + 1) 0) (length m.textures / 2) (omega (arith, a.limits.textures)) (a.corner k l).texture
word_at m a d k (suc (suc zero)) l h = small_index (get_or m.corners (width * k + 2) 0) (length m.normals / 3) (omega (arith, a.limits.normals)) (a.corner k l).normal
word_at m a d k (suc (suc (suc zero))) l h = omega (arith, d.marks k)
word_at m a d k (suc (suc (suc (suc r)))) l h = absurd (omega arith)

words : (m : Mesh) → Accepted m → DoubleMesh m → every is_word m.corners ≡ true
words m a d =
    every_all is_word 0 m.corners
    (λ i l.
    let e : i ≡ width * (i / width) + i % width = omega arith in
    let z : get_or m.corners (width * (i / width) + i % width) 0 < 4294967296 = word_at m a d (i / width) (i % width) (omega (arith, a.whole.corners)) (omega arith) in
    ap (λ (j : ℕ). is_word (get_or m.corners j 0)) e ∙ lt-ltb (get_or m.corners (width * (i / width) + i % width) 0) 4294967296 z)

word_first : (n : ℕ) (cs : List ℕ) → every is_word cs ≡ true → every (every is_word) (first_corners n cs) ≡ true
word_first zero cs h = refl
word_first (suc n) cs h =
    and_both (every is_word (take width cs)) (every (every is_word) (first_corners n (drop width cs)))
    (every_take is_word width cs h) (word_first n (drop width cs) (every_drop is_word width cs h))

word_corners : (cs : List ℕ) → every is_word cs ≡ true → every (every is_word) (corners_in cs) ≡ true
word_corners cs h = word_first (length cs / width) cs h

word_faces : (s cs : List ℕ) → every is_word cs ≡ true → every (every (every is_word)) (rings s cs) ≡ true
word_faces [] cs h = refl
word_faces (n ∷ s) cs h =
    and_both (every (every is_word) (corners_in (take (width * n) cs))) (every (every (every is_word)) (rings s (drop (width * n) cs)))
    (word_corners (take (width * n) cs) (every_take is_word (width * n) cs h)) (word_faces s (drop (width * n) cs) (every_drop is_word (width * n) cs h))

abbrev fit_size : ℕ → Bool
fit_size n = leb 3 n && leb n ring_limit

pub sized_faces : (m : Mesh) → Accepted m → every sized (faces m) ≡ true
unfolding faces
sized_faces m a =
    sym (every_map length fit_size (rings m.sizes m.corners))
    ∙ ap (every fit_size) (sizes_back m.sizes m.corners (omega (arith, a.whole.adds)))
    ∙ every_all fit_size 0 m.sizes (λ k l. let n = get_or m.sizes k 0 in and_both (leb 3 n) (leb n ring_limit) (le-leb 3 n (a.least k l)) (le-leb n ring_limit (a.most k l)))

pub faces_are : (m : Mesh) → every is_ring (faces m) ≡ true
unfolding faces
faces_are m = rings_are m.sizes m.corners

faces_words : (m : Mesh) → Accepted m → DoubleMesh m → every (every (every is_word)) (faces m) ≡ true
unfolding faces
faces_words m a d = word_faces m.sizes m.corners (words m a d)

pub pieces_sayable : (m : Mesh) → Accepted m → DoubleMesh m → finite_mesh m ≡ true → every sayable (pieces_of m) ≡ true
pieces_sayable m a d f =
    let lists = finite_lists m.positions m.textures m.normals f in
    every_piece sayable m
    (points_pass is_coordinate m.positions (are_coordinates m.positions d.positions lists.positions))
    (texels_pass is_coordinate m.textures (are_coordinates m.textures d.textures lists.textures))
    (points_pass is_coordinate m.normals (are_coordinates m.normals d.normals lists.normals))
    (every_both sized (λ (f : Ring). every is_corner f && every (every is_word) f) (faces m) (sized_faces m a)
    (every_both (every is_corner) (every (every is_word)) (faces m) (faces_are m) (faces_words m a d)))

-- ---- all of it is within the limits

pub face_sizes : (m : Mesh) → Accepted m → map length (faces m) ≡ m.sizes
unfolding faces
face_sizes m a = sizes_back m.sizes m.corners (omega (arith, a.whole.adds))

-- what the pieces draw
abbrev pub drawing : Mesh → Drawn
drawing m = record { positions = m.positions; textures = m.textures; normals = m.normals; faces = faces m }

pub all_drawn : (m : Mesh) → Accepted m → drawn_with nothing (pieces_of m) ≡ drawing m
all_drawn m a =
    rw (positions_said m a.whole.positions, textures_said m a.whole.textures, normals_said m a.whole.normals, faces_said m)

pub all_roomy : (m : Mesh) → Accepted m → Roomy (drawing m)
all_roomy m a = record {
  positions = a.limits.positions;
  textures = a.limits.textures;
  normals = a.limits.normals;
  corners = omega (arith, ap sum (face_sizes m a), a.whole.adds, a.limits.corners);
}
