-- What the old reader drew, with 0 behind every corner: it is taken, kept and told as it was. Assumes nothing.
use mathlib.Core.Path.{◌≡◌, refl, sym, ap, ap₂, ◌∙◌}
use mathlib.Core.Bool.{Bool, true, false, ◌||◌}
use mathlib.Core.List.{List, [], ◌∷◌, ◌++◌, map}
use Prim.Native.Nat.{ℕ, zero, suc, ◌+◌, ◌*◌}
use lib.ListN.{length, get_or}
use lib.Dec.{ltb, leb, eqb}
use Rattle.lists.specs.Lists.{only, keep_if, some, joined, sum}
use Rattle.lists.proofs.Parts.{some_joined}
use Rattle.little.specs.Little.{word}
use Rattle.mesh.specs.Limits.{corner_limit}
use Rattle.mesh.specs.Mesh.{Mesh, Corner, Ring}
use Rattle.mesh.specs.Table.{when, first_of, astray_at}
use Rattle.grouping.specs.Push.{corner_count, pushed}
use Rattle.records.specs.Records.{ring_from}
use Rattle.reading.specs.Reading.{Drawn, Reader, reader, limited, with_face, take_face, finish, mesh_drawn}
use Rattle.oldfiles.specs.Before as before
use Rattle.oldfiles.specs.Promises.{with_mark0, with_marks0}

-- ---- a reader of today, by what the old one has drawn

abbrev pub drawn_now : Drawn → Drawn
drawn_now d = record { positions = d.positions; textures = d.textures; normals = d.normals; faces = map with_marks0 d.faces }

abbrev pub as_now : Reader → Reader
as_now y = reader y.at y.number y.ended (drawn_now y.drawn)

pub limited_same : (b : Bool) (old new : Reader) → limited b (as_now old) (as_now new) ≡ as_now (limited b old new)
limited_same true old new = refl
limited_same false old new = refl

-- ---- lists

module _ {A B : Type 0} (f : A → B) where
  map_append : (a b : List A) → map f (a ++ b) ≡ map f a ++ map f b
  map_append [] b = refl
  map_append (x ∷ a) b = ap (λ (l : List B). f x ∷ l) (map_append a b)

  map_length : (l : List A) → length (map f l) ≡ length l
  map_length [] = refl
  map_length (x ∷ l) = ap suc (map_length l)

-- as many corners in every face, and in all of them
length_same : (f : Ring) → length (with_marks0 f) ≡ length f
length_same f = map_length with_mark0 f

lengths_same : (fs : List Ring) → map length (map with_marks0 fs) ≡ map length fs
lengths_same [] = refl
lengths_same (f ∷ fs) = ap₂ (λ (n : ℕ) (l : List ℕ). n ∷ l) (length_same f) (lengths_same fs)

-- ---- a face is taken

ring_same : (s : List ℕ) (n a : ℕ) → ring_from false s n a ≡ with_marks0 (before.ring_from s n a)
ring_same s zero a = refl
ring_same s (suc n) a = ap (λ (f : Ring). (word s a ∷ word s (a + 4) ∷ word s (a + 8) ∷ 0 ∷ []) ∷ f) (ring_same s n (a + 12))

pub face_same : (b : Bool) (s : List ℕ) (a n : ℕ) (y : Reader) → take_face b s a n false (as_now y) ≡ as_now (before.take_face b s a n y)
face_same true s a n y = refl
face_same false s a n y =
    let d = y.drawn in
    let over : corner_count (map with_marks0 d.faces) ≡ corner_count d.faces = ap sum (lengths_same d.faces) in
    let new = reader (a + 12 * n) 0 false (with_face (before.ring_from s n a) d) in
    let drawn : map with_marks0 d.faces ++ ring_from false s n a ∷ [] ≡ map with_marks0 (d.faces ++ before.ring_from s n a ∷ []) =
    ap (λ (f : Ring). map with_marks0 d.faces ++ f ∷ []) (ring_same s n a) ∙ sym (map_append with_marks0 d.faces (before.ring_from s n a ∷ [])) in
    ap₂
    (λ (c : ℕ) (fs : List Ring).
    limited (ltb corner_limit (c + n)) (as_now y)
    (reader (a + 12 * n) 0 false (record { positions = d.positions; textures = d.textures; normals = d.normals; faces = fs })))
    over drawn
    ∙ limited_same (ltb corner_limit (corner_count d.faces + n)) y new

-- ---- the faces are kept

keep_same : (b : Bool) (f : Ring) (fs : List Ring) → keep_if b (with_marks0 f) (map with_marks0 fs) ≡ map with_marks0 (keep_if b f fs)
keep_same true f fs = refl
keep_same false f fs = refl

only_same : (p : ℕ → Bool) (fs : List Ring) → only (λ (f : Ring). p (length f)) (map with_marks0 fs) ≡ map with_marks0 (only (λ (f : Ring). p (length f)) fs)
only_same p [] = refl
only_same p (f ∷ fs) =
    ap₂ (λ (n : ℕ) (l : List Ring). keep_if (p n) (with_marks0 f) l) (length_same f) (only_same p fs)
    ∙ keep_same (p (length f)) f (only (λ (f : Ring). p (length f)) fs)

pub kept_same : (fs : List Ring) → pushed (map with_marks0 fs) ≡ map with_marks0 (pushed fs)
unfolding pushed
kept_same fs =
    let three = only (λ (f : Ring). eqb (length f) 3) fs in
    let four = only (λ (f : Ring). eqb (length f) 4) fs in
    let more = only (λ (f : Ring). leb 5 (length f)) fs in
    ap₂ (λ (x y : List Ring). x ++ y)
    (ap₂ (λ (x y : List Ring). x ++ y) (only_same (λ (n : ℕ). eqb n 3) fs) (only_same (λ (n : ℕ). eqb n 4) fs) ∙ sym (map_append with_marks0 three four))
    (only_same (leb 5) fs)
    ∙ sym (map_append with_marks0 (three ++ four) more)

pub sizes_same : (fs : List Ring) → map length (pushed (map with_marks0 fs)) ≡ map length (pushed fs)
sizes_same fs = ap (map length) (kept_same fs) ∙ lengths_same (pushed fs)

-- ---- the number: a mark of 0 is what stands behind the end of a list

number_same : (c : Corner) (k : ℕ) → get_or (with_mark0 c) k 0 ≡ get_or c k 0
number_same [] zero = refl
number_same [] (suc k) = refl
number_same (x ∷ c) zero = refl
number_same (x ∷ c) (suc k) = number_same c k

module _ (m m' : Mesh) (same : (c : Corner) → astray_at m (with_mark0 c) ≡ astray_at m' c) where
  some_same : (f : Ring) → some (astray_at m) (with_marks0 f) ≡ some (astray_at m') f
  some_same [] = refl
  some_same (c ∷ f) = ap₂ (λ (a b : Bool). a || b) (same c) (some_same f)

  all_same : (fs : List Ring) → some (some (astray_at m)) (map with_marks0 fs) ≡ some (some (astray_at m')) fs
  all_same [] = refl
  all_same (f ∷ fs) = ap₂ (λ (a b : Bool). a || b) (some_same f) (all_same fs)

pub finish_same : (s : List ℕ) (y : Reader) → finish s (as_now y) ≡ finish s y
unfolding finish mesh_drawn
finish_same s y =
    let d = y.drawn in
    let m = mesh_drawn (drawn_now d) in
    let same : (c : Corner) → astray_at m (with_mark0 c) ≡ astray_at (mesh_drawn d) c = λ c. rw (number_same c 0, number_same c 1, number_same c 2) in
    let astray : some (astray_at m) (joined (map with_marks0 d.faces)) ≡ some (astray_at (mesh_drawn d)) (joined d.faces) =
    some_joined (astray_at m) (map with_marks0 d.faces) ∙ all_same m (mesh_drawn d) same d.faces ∙ sym (some_joined (astray_at (mesh_drawn d)) d.faces) in
    ap (λ (b : Bool). first_of (y.number ∷ when (ltb y.at (length s)) 13 ∷ when b 5 ∷ [])) astray
