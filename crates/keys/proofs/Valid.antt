-- The keys of an accepted mesh: positions below 2,048, normals missing or below 2,048. So digits tell them apart. Assumes nothing.
use mathlib.Core.Path.{◌≡◌, refl, sym, ap, ap₂, ◌∙◌, subst}
use mathlib.Core.Bool.{Bool, true, false, cond, ◌&&◌, ◌||◌}
use mathlib.Core.List.{List, [], ◌∷◌, map}
use Prim.Native.Nat.{ℕ, suc, ◌+◌, ◌*◌, ◌/◌, ◌-◌, ◌≤◌, ◌<◌}
use native.Mathlib.Omega.{arith}
use lib.Dec.{ltb, eqb}
use lib.ListN.{length, get_or, take, drop, length-append, length-map, length-drop, get_or-map}
use borrow.Author.Tests.{lt-ltb, ltb-true, eq-eqb, eqb-true, eqb-false}
use Rattle.lists.specs.Lists.{every, sum}
use Rattle.lists.proofs.Bools.{by_cases, true_false, and_both, and_left, and_right, or_left, or_right}
use Rattle.lists.proofs.Cases.{iff}
use Rattle.lists.proofs.Mapping.{every_map, every_all}
use Rattle.lists.proofs.Parts.{every_append, every_at}
use Rattle.mesh.specs.Limits.{width, entry_limit, corner_limit, point_numbers}
use Rattle.mesh.specs.Mesh.{Mesh, Corner, Ring, position, normal, missing, corners_in, rings}
use Rattle.mesh.proofs.Corners.{length-corners_in, get_or-corners_in, corners_in-split}
use Rattle.mesh.proofs.Faces.{sizes_back}
use Rattle.mesh.proofs.Accepted.{Accepted, Found}
use Rattle.mesh.specs.Edges.{run_edges, ring_edges}
use Rattle.mesh.proofs.Edges.{length_ring}
use Rattle.columns.specs.Keys.{Key, pair_key, key_of, same_key_lem, face_keys, Use, uses_from, no_use}
use Rattle.sorting.specs.Sorting.{key_limit}
use Rattle.columns.specs.Columns.{Keyable, normal_digit, chosen, entry_of, face_uses}
use Rattle.keys.specs.Firsts.{same_use, KeyColumns, Plain}

-- a position, and a normal, as an accepted mesh has them
abbrev pub is_normal : ℕ → Bool
is_normal n = eqb n missing || ltb n entry_limit

abbrev pub good_corner : Corner → Bool
good_corner c = ltb (position c) entry_limit && is_normal (normal c)

abbrev pub good_key : Key → Bool
good_key k = (ltb k.0 entry_limit && ltb k.1 entry_limit) && (is_normal k.2 && is_normal k.3)

-- ---- from the corners to the keys

normal_of : (normals : Bool) (n : ℕ) → is_normal n ≡ true → is_normal (cond normals n 0) ≡ true
normal_of true n h = h
normal_of false n h = refl

pair_good : (normals : Bool) (a b : Corner) → good_corner a ≡ true → good_corner b ≡ true → good_key (pair_key normals a b) ≡ true
pair_good normals a b p q =
    and_both (ltb (position a) entry_limit && ltb (position b) entry_limit) (is_normal (cond normals (normal a) 0) && is_normal (cond normals (normal b) 0))
    (and_both (ltb (position a) entry_limit) (ltb (position b) entry_limit)
    (and_left (ltb (position a) entry_limit) (is_normal (normal a)) p) (and_left (ltb (position b) entry_limit) (is_normal (normal b)) q))
    (and_both (is_normal (cond normals (normal a) 0)) (is_normal (cond normals (normal b) 0))
    (normal_of normals (normal a) (and_right (ltb (position a) entry_limit) (is_normal (normal a)) p))
    (normal_of normals (normal b) (and_right (ltb (position b) entry_limit) (is_normal (normal b)) q)))

key_good : (normals : Bool) (a b : Corner) → good_corner a ≡ true → good_corner b ≡ true → good_key (key_of normals (a, b)) ≡ true
unfolding key_of
key_good normals a b p q = go (ltb (position a) (position b))
  where
    go : (t : Bool) → good_key (cond t (pair_key normals a b) (pair_key normals b a)) ≡ true
    go true = pair_good normals a b p q
    go false = pair_good normals b a q p

run_good : (normals : Bool) (a : Corner) (r : Ring) (z : Corner) → good_corner a ≡ true → every good_corner r ≡ true → good_corner z ≡ true
    → every good_key (map (key_of normals) (run_edges a r z)) ≡ true
run_good normals a [] z p h q = and_both (good_key (key_of normals (a, z))) true (key_good normals a z p q) refl
run_good normals a (b ∷ r) z p h q =
    and_both (good_key (key_of normals (a, b))) (every good_key (map (key_of normals) (run_edges b r z)))
    (key_good normals a b p (and_left (good_corner b) (every good_corner r) h))
    (run_good normals b r z (and_left (good_corner b) (every good_corner r) h) (and_right (good_corner b) (every good_corner r) h) q)

face_good : (normals : Bool) (f : Ring) → every good_corner f ≡ true → every good_key (face_keys normals f) ≡ true
face_good normals [] h = refl
face_good normals (a ∷ r) h =
    run_good normals a r a (and_left (good_corner a) (every good_corner r) h) (and_right (good_corner a) (every good_corner r) h) (and_left (good_corner a) (every good_corner r) h)

pub uses_good : (normals : Bool) (i : ℕ) (fs : List Ring) → every (every good_corner) fs ≡ true → every (λ (u : Use). good_key u.1) (uses_from normals i fs) ≡ true
uses_good normals i [] h = refl
uses_good normals i (f ∷ fs) h =
    every_append (λ (u : Use). good_key u.1) (face_uses normals i f) (uses_from normals (suc i) fs)
    ∙ and_both (every (λ (u : Use). good_key u.1) (face_uses normals i f)) (every (λ (u : Use). good_key u.1) (uses_from normals (suc i) fs))
    (every_map (λ k. (i, k)) (λ (u : Use). good_key u.1) (face_keys normals f) ∙ face_good normals f (and_left (every good_corner f) (every (every good_corner) fs) h))
    (uses_good normals (suc i) fs (and_right (every good_corner f) (every (every good_corner) fs) h))

-- ---- from the flat list to the faces

rings_every : (q : Corner → Bool) (s cs : List ℕ) → width * sum s ≤ length cs → every q (corners_in cs) ≡ true → every (every q) (rings s cs) ≡ true
rings_every q [] cs l h = refl
rings_every q (n ∷ s) cs l h =
    let e : (every q (corners_in (take (width * n) cs)) && every q (corners_in (drop (width * n) cs))) ≡ true =
    sym (every_append q (corners_in (take (width * n) cs)) (corners_in (drop (width * n) cs))) ∙ ap (every q) (sym (corners_in-split n cs (omega arith))) ∙ h in
    and_both (every q (corners_in (take (width * n) cs))) (every (every q) (rings s (drop (width * n) cs)))
    (and_left (every q (corners_in (take (width * n) cs))) (every q (corners_in (drop (width * n) cs))) e)
    (rings_every q s (drop (width * n) cs)
    (let z : length (drop (width * n) cs) ≡ length cs - width * n = length-drop (width * n) cs in omega arith)
    (and_right (every q (corners_in (take (width * n) cs))) (every q (corners_in (drop (width * n) cs))) e))

pub faces_good : (cs s : List ℕ) → Keyable cs s → every (every good_corner) (rings s cs) ≡ true
faces_good cs s a =
    rings_every good_corner s cs (let z : width * sum s ≡ length cs = a.sound.adds in omega arith)
    (every_all good_corner [] (corners_in cs)
    (λ k h.
    let l : length (corners_in cs) ≡ length cs / width = length-corners_in cs in
    subst (λ (c : Corner). good_corner c ≡ true) (sym (get_or-corners_in cs k (omega arith)))
    (and_both (ltb (get_or cs (width * k) 0) entry_limit) (is_normal (get_or cs (width * k + 2) 0))
    (lt-ltb (get_or cs (width * k) 0) entry_limit (a.position k (omega arith)))
    (by_cases (eqb (get_or cs (width * k + 2) 0) missing)
    (λ t. or_left (eqb (get_or cs (width * k + 2) 0) missing) (ltb (get_or cs (width * k + 2) 0) entry_limit) t)
    (λ t.
    or_right (eqb (get_or cs (width * k + 2) 0) missing) (ltb (get_or cs (width * k + 2) 0) entry_limit)
    (lt-ltb (get_or cs (width * k + 2) 0) entry_limit (a.normal k (omega arith) (eqb-false (get_or cs (width * k + 2) 0) missing t))))))))

pub keyable : (m : Mesh) → Accepted m → Keyable m.corners m.sizes
keyable m a = record {
  sound = a.sound;
  position = λ k h.
      let f : Found m k = a.corner k h in
      let p : get_or m.corners (width * k) 0 < length m.positions / 3 = f.position in
      let q : length m.positions ≤ point_numbers = a.limits.positions in
      omega arith;
  normal = λ k h ne.
      let f : Found m k = a.corner k h in
      let p : get_or m.corners (width * k + 2) 0 < length m.normals / 3 = f.normal ne in
      let q : length m.normals ≤ point_numbers = a.limits.normals in
      omega arith;
}

-- ---- digits tell normals apart

normal_below : (n : ℕ) → is_normal n ≡ true → eqb n missing ≡ false → n < entry_limit
normal_below n h t = ltb-true n entry_limit (rw t at h)

digit_missing : (n : ℕ) → eqb n missing ≡ true → normal_digit n ≡ 0
unfolding normal_digit
digit_missing n t = rw t

digit_there : (n : ℕ) → eqb n missing ≡ false → normal_digit n ≡ n + 1
unfolding normal_digit
digit_there n t = rw t

digit_injective : (a b : ℕ) → normal_digit a ≡ normal_digit b → a ≡ b
digit_injective a b e =
    by_cases (eqb a missing)
    (λ s.
    by_cases (eqb b missing)
    (λ t. eqb-true a missing s ∙ sym (eqb-true b missing t))
    (λ t. let x : 0 ≡ b + 1 = sym (digit_missing a s) ∙ e ∙ digit_there b t in absurd (omega arith)))
    (λ s.
    by_cases (eqb b missing)
    (λ t. let x : a + 1 ≡ 0 = sym (digit_there a s) ∙ e ∙ digit_missing b t in absurd (omega arith))
    (λ t. let x : a + 1 ≡ b + 1 = sym (digit_there a s) ∙ e ∙ digit_there b t in omega arith))

normal_same : (a b : ℕ) → eqb (normal_digit a) (normal_digit b) ≡ eqb a b
normal_same a b =
    iff (eqb (normal_digit a) (normal_digit b)) (eqb a b)
    (λ t. eq-eqb a b (digit_injective a b (eqb-true (normal_digit a) (normal_digit b) t)))
    (λ t. eq-eqb (normal_digit a) (normal_digit b) (ap normal_digit (eqb-true a b t)))

digit_below : (n : ℕ) → is_normal n ≡ true → normal_digit n < key_limit
digit_below n h =
    by_cases (eqb n missing)
    (λ t. rw (digit_missing n t) (omega arith))
    (λ t. rw (digit_there n t) (let l : n < entry_limit = normal_below n h t in omega arith))

-- ---- the columns at a use

module _ (us : List Use) where
  pub lower_at : (x : ℕ) → get_or (map (entry_of 0) us) x 0 ≡ (get_or us x no_use).1.0
  unfolding chosen
  lower_at x = get_or-map (entry_of 0) us x no_use

  pub higher_at : (x : ℕ) → get_or (map (entry_of 1) us) x 0 ≡ (get_or us x no_use).1.1
  unfolding chosen
  higher_at x = get_or-map (entry_of 1) us x no_use

  pub n_at : (x : ℕ) → get_or (map (entry_of 2) us) x 0 ≡ normal_digit (get_or us x no_use).1.2
  unfolding chosen normal_digit
  n_at x = get_or-map (entry_of 2) us x no_use

  pub m_at : (x : ℕ) → get_or (map (entry_of 3) us) x 0 ≡ normal_digit (get_or us x no_use).1.3
  unfolding chosen normal_digit
  m_at x = get_or-map (entry_of 3) us x no_use

  module _ (good : every (λ (u : Use). good_key u.1) us ≡ true) where
    -- the parts of a good key
    key_at_lem : (x : ℕ) → x < length us → good_key (get_or us x no_use).1 ≡ true
    key_at_lem x h = every_at (λ (u : Use). good_key u.1) no_use us x good h

    lower_good : (x : ℕ) → x < length us → (get_or us x no_use).1.0 < entry_limit
    lower_good x h = let k : Key = (get_or us x no_use).1 in
        ltb-true k.0 entry_limit
        (and_left (ltb k.0 entry_limit) (ltb k.1 entry_limit)
        (and_left (ltb k.0 entry_limit && ltb k.1 entry_limit) (is_normal k.2 && is_normal k.3) (key_at_lem x h)))

    higher_good : (x : ℕ) → x < length us → (get_or us x no_use).1.1 < entry_limit
    higher_good x h = let k : Key = (get_or us x no_use).1 in
        ltb-true k.1 entry_limit
        (and_right (ltb k.0 entry_limit) (ltb k.1 entry_limit)
        (and_left (ltb k.0 entry_limit && ltb k.1 entry_limit) (is_normal k.2 && is_normal k.3) (key_at_lem x h)))

    n_good : (x : ℕ) → x < length us → is_normal (get_or us x no_use).1.2 ≡ true
    n_good x h = let k : Key = (get_or us x no_use).1 in
        and_left (is_normal k.2) (is_normal k.3) (and_right (ltb k.0 entry_limit && ltb k.1 entry_limit) (is_normal k.2 && is_normal k.3) (key_at_lem x h))

    m_good : (x : ℕ) → x < length us → is_normal (get_or us x no_use).1.3 ≡ true
    m_good x h = let k : Key = (get_or us x no_use).1 in
        and_right (is_normal k.2) (is_normal k.3) (and_right (ltb k.0 entry_limit && ltb k.1 entry_limit) (is_normal k.2 && is_normal k.3) (key_at_lem x h))

    pub key_columns : length us ≤ corner_limit → KeyColumns (map (entry_of 0) us) (map (entry_of 1) us) (map (entry_of 2) us) (map (entry_of 3) us) (length us)
    key_columns few = record {
      few = omega arith;
      of_lower = record { long = length-map us (entry_of 0); below = λ x h. let b : _ = lower_good x h in let e : _ = lower_at x in omega arith };
      of_higher = record { long = length-map us (entry_of 1); below = λ x h. let b : _ = higher_good x h in let e : _ = higher_at x in omega arith };
      of_n = record { long = length-map us (entry_of 2); below = λ x h. subst (λ (d : ℕ). d < key_limit) (sym (n_at x)) (digit_below (get_or us x no_use).1.2 (n_good x h)) };
      of_m = record { long = length-map us (entry_of 3); below = λ x h. subst (λ (d : ℕ). d < key_limit) (sym (m_at x)) (digit_below (get_or us x no_use).1.3 (m_good x h)) };
    }

    -- two uses have one key exactly where their digits are equal
    pub same_key :
        (x y : ℕ) → x < length us → y < length us
        → same_use (map (entry_of 0) us) (map (entry_of 1) us) (map (entry_of 2) us) (map (entry_of 3) us) x y ≡ same_key_lem (get_or us x no_use).1 (get_or us y no_use).1
    same_key x y h i =
        ap₂ ◌&&◌
        (ap₂ ◌&&◌
        (ap₂ ◌&&◌ (ap₂ eqb (lower_at x) (lower_at y)) (ap₂ eqb (higher_at x) (higher_at y)))
        (ap₂ eqb (n_at x) (n_at y) ∙ normal_same (get_or us x no_use).1.2 (get_or us y no_use).1.2))
        (ap₂ eqb (m_at x) (m_at y) ∙ normal_same (get_or us x no_use).1.3 (get_or us y no_use).1.3)

-- ---- without the normals setting

-- no use looks at a normal
abbrev pub no_normals : Key → Bool
no_normals k = eqb k.2 0 && eqb k.3 0

run_plain : (a : Corner) (r : Ring) (z : Corner) → every no_normals (map (key_of false) (run_edges a r z)) ≡ true
unfolding key_of
run_plain a [] z = and_both (no_normals (key_of false (a, z))) true (go (ltb (position a) (position z))) refl
  where
    go : (t : Bool) → no_normals (cond t (pair_key false a z) (pair_key false z a)) ≡ true
    go true = refl
    go false = refl
run_plain a (b ∷ r) z = and_both (no_normals (key_of false (a, b))) (every no_normals (map (key_of false) (run_edges b r z))) (go (ltb (position a) (position b))) (run_plain b r z)
  where
    go : (t : Bool) → no_normals (cond t (pair_key false a b) (pair_key false b a)) ≡ true
    go true = refl
    go false = refl

face_plain : (f : Ring) → every no_normals (face_keys false f) ≡ true
face_plain [] = refl
face_plain (a ∷ r) = run_plain a r a

pub uses_plain : (i : ℕ) (fs : List Ring) → every (λ (u : Use). no_normals u.1) (uses_from false i fs) ≡ true
uses_plain i [] = refl
uses_plain i (f ∷ fs) =
    every_append (λ (u : Use). no_normals u.1) (face_uses false i f) (uses_from false (suc i) fs)
    ∙ and_both (every (λ (u : Use). no_normals u.1) (face_uses false i f)) (every (λ (u : Use). no_normals u.1) (uses_from false (suc i) fs))
    (every_map (λ k. (i, k)) (λ (u : Use). no_normals u.1) (face_keys false f) ∙ face_plain f)
    (uses_plain (suc i) fs)

-- so all have the digit of the first normal
plain_at :
    (us : List Use) → every (λ (u : Use). no_normals u.1) us ≡ true → (x : ℕ) → x < length us
    → (get_or (map (entry_of 2) us) x 0 ≡ normal_digit 0) × (get_or (map (entry_of 3) us) x 0 ≡ normal_digit 0)
plain_at us p x h =
    let k : Key = (get_or us x no_use).1 in
    let q : (eqb k.2 0 && eqb k.3 0) ≡ true = every_at (λ (u : Use). no_normals u.1) no_use us x p h in (
      n_at us x ∙ ap normal_digit (eqb-true k.2 0 (and_left (eqb k.2 0) (eqb k.3 0) q)),
      m_at us x ∙ ap normal_digit (eqb-true k.3 0 (and_right (eqb k.2 0) (eqb k.3 0) q)),
    )

pub key_plain :
    (normals : Bool) (fs : List Ring)
    → Plain normals (map (entry_of 2) (uses_from normals 0 fs)) (map (entry_of 3) (uses_from normals 0 fs)) (length (uses_from normals 0 fs))
key_plain true fs e x h = true_false e
key_plain false fs e x h = plain_at (uses_from false 0 fs) (uses_plain 0 fs) x h

-- ---- as many uses as corners

uses_length : (normals : Bool) (i : ℕ) (fs : List Ring) → length (uses_from normals i fs) ≡ sum (map length fs)
uses_length normals i [] = refl
uses_length normals i (f ∷ fs) =
    length-append (face_uses normals i f) (uses_from normals (suc i) fs)
    ∙ ap₂ ◌+◌ (length-map (face_keys normals f) (λ k. (i, k)) ∙ length-map (ring_edges f) (key_of normals) ∙ length_ring f) (uses_length normals (suc i) fs)

pub uses_corners : (normals : Bool) (s cs : List ℕ) → width * sum s ≡ length cs → length (uses_from normals 0 (rings s cs)) ≡ length cs / width
uses_corners normals s cs h =
    let a : length (uses_from normals 0 (rings s cs)) ≡ sum (map length (rings s cs)) = uses_length normals 0 (rings s cs) in
    let b : sum (map length (rings s cs)) ≡ sum s = ap sum (sizes_back s cs (omega arith)) in
    omega arith
