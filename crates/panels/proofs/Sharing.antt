-- Faces are connected by the recorded joins exactly where they are by shared edge keys. Each later use of a key joins its face to
-- the first that had it; so all faces that have a key are joined to one. Assumes nothing.
use mathlib.Core.Path.{◌≡◌, refl, sym, ap, ◌∙◌, subst}
use mathlib.Core.Logic.{◌⊎◌, inl, inr, ⊎_elim}
use mathlib.Core.Bool.{Bool, true, false, cond, ◌||◌, ◌&&◌, and-false, or-false, and-or_distrib_left}
use mathlib.Core.Option.{Option, none}
use mathlib.Core.List.{List, [], ◌∷◌, ◌++◌, map, append_assoc}
use Prim.Native.Nat.{ℕ, zero, suc, ◌+◌, ◌<◌}
use native.Mathlib.Omega.{arith}
use native.Mathlib.Nat.{add-zero}
use lib.Dec.{eqb, ltb}
use lib.ListN.{length, get_or-eq_default}
use borrow.Author.Tests.{eqb-true, eq-eqb, ne_eqb, ltb-true, ltb-false}
use Rattle.lists.specs.Lists.{some}
use Rattle.lists.proofs.Bools.{by_cases, or_left, or_right}
use Rattle.lists.proofs.Cases.{and_parts}
use Rattle.lists.proofs.Counting.{clash, or_either}
use Rattle.lists.proofs.Parts.{some_append}
use Rattle.mesh.specs.Mesh.{Ring}
use Rattle.keys.specs.Keys.{Key, same_key_lem, face_keys, Use, uses_from}
use Rattle.searching.specs.Search.{Join}
use Rattle.panels.specs.Panels.{first_face, join_of, joins_from, joins}
use Rattle.panels.specs.Promises.{key_in, Share}
use Rattle.lists.proofs.Chains.{Reach, here, reach_trans, reach_one, reach_sym}
use Rattle.searching.proofs.Looking.{Beside, has_neighbours, beside_sym}

-- ---- keys compared

pub same_key-true : (a b : Key) → same_key_lem a b ≡ true → a ≡ b
same_key-true a b h =
    let t : ((eqb a.0 b.0 && eqb a.1 b.1 && eqb a.2 b.2) ≡ true) × (eqb a.3 b.3 ≡ true) = and_parts _ _ h in
    let u : ((eqb a.0 b.0 && eqb a.1 b.1) ≡ true) × (eqb a.2 b.2 ≡ true) = and_parts _ _ t.0 in
    let v : (eqb a.0 b.0 ≡ true) × (eqb a.1 b.1 ≡ true) = and_parts _ _ u.0 in
    λ i. (
      eqb-true a.0 b.0 v.0 i,
      eqb-true a.1 b.1 v.1 i,
      eqb-true a.2 b.2 u.1 i,
      eqb-true a.3 b.3 t.1 i,
    )

pub same_key-refl : (a : Key) → same_key_lem a a ≡ true
same_key-refl a =
    rw (eq-eqb a.0 a.0 refl, eq-eqb a.1 a.1 refl, eq-eqb a.2 a.2 refl, eq-eqb a.3 a.3 refl)

-- ---- uses: face x uses the key k

abbrev pub is_use : ℕ → Key → Use → Bool
is_use x k u = eqb x u.0 && same_key_lem k u.1

abbrev pub Has : ℕ → Key → List Use → Type 0
Has x k us = some (is_use x k) us ≡ true

has_left : (x : ℕ) (k : Key) (s t : List Use) → Has x k s → Has x k (s ++ t)
has_left x k s t h = some_append (is_use x k) s t ∙ or_left _ _ h

has_right : (x : ℕ) (k : Key) (s t : List Use) → Has x k t → Has x k (s ++ t)
has_right x k s t h = some_append (is_use x k) s t ∙ or_right (some (is_use x k) s) (some (is_use x k) t) h

has_self : (u : Use) (t : List Use) → Has u.0 u.1 (u ∷ t)
has_self u t =
    or_left
    (is_use u.0 u.1 u)
    (some (is_use u.0 u.1) t)
    (rw (eq-eqb u.0 u.0 refl, same_key-refl u.1))

-- ---- the first face that had a key

pub first_has : (k : Key) (s : List Use) (j : ℕ) → first_face k s ≡ Option.some j → Has j k s
first_has k [] j e = absurd (let z : ◌≡◌ {A = ℕ} 0 1 = cc in omega arith)
first_has k (u ∷ s) j e = go (same_key_lem k u.1) refl e (first_has k s j)
  where
    go :
        (b : Bool) → same_key_lem k u.1 ≡ b
        → cond b (Option.some u.0) (first_face k s) ≡ Option.some j
        → (first_face k s ≡ Option.some j → Has j k s)
        → Has j k (u ∷ s)
    go true q e m =
        let f : u.0 ≡ j = cc in or_left (is_use j k u) (some (is_use j k) s) (rw (q, eq-eqb j u.0 (sym f)))
    go false q e m = or_right (is_use j k u) (some (is_use j k) s) (m e)

first_append : (k : Key) (s t : List Use) (j : ℕ) → first_face k s ≡ Option.some j → first_face k (s ++ t) ≡ Option.some j
first_append k [] t j e = absurd (let z : ◌≡◌ {A = ℕ} 0 1 = cc in omega arith)
first_append k (u ∷ s) t j e = go (same_key_lem k u.1) e (first_append k s t j)
  where
    go :
        (b : Bool) → cond b (Option.some u.0) (first_face k s) ≡ Option.some j
        → (first_face k s ≡ Option.some j → first_face k (s ++ t) ≡ Option.some j)
        → cond b (Option.some u.0) (first_face k (s ++ t)) ≡ Option.some j
    go true e m = e
    go false e m = m e

first_none : (k : Key) (s t : List Use) → first_face k s ≡ none → first_face k (s ++ t) ≡ first_face k t
first_none k [] t e = refl
first_none k (u ∷ s) t e = go (same_key_lem k u.1) e (first_none k s t)
  where
    go :
        (b : Bool) → cond b (Option.some u.0) (first_face k s) ≡ none
        → (first_face k s ≡ none → first_face k (s ++ t) ≡ first_face k t)
        → cond b (Option.some u.0) (first_face k (s ++ t)) ≡ first_face k t
    go true e m = absurd (let z : ◌≡◌ {A = ℕ} 0 1 = cc in omega arith)
    go false e m = m e

-- ---- a recorded join is of two faces that share a key

abbrev pub ShareIn : List Use → ℕ → ℕ → Type 0
ShareIn us x y = (k : Key) × Has x k us × Has y k us

pub joins_share : (seen us : List Use) (x y : ℕ) → Beside (joins_from seen us) x y → ShareIn (seen ++ us) x y
joins_share seen [] x y h = clash h refl
joins_share seen (u ∷ us) x y h =
    go
    (first_face u.1 seen)
    refl
    h
    (λ a. subst (λ l. ShareIn l x y) (append_assoc seen (u ∷ []) us) (joins_share (seen ++ (u ∷ [])) us x y a))
  where
    go :
        (o : Option ℕ) → first_face u.1 seen ≡ o
        → Beside (join_of u.0 o (joins_from (seen ++ (u ∷ [])) us)) x y
        → (Beside (joins_from (seen ++ (u ∷ [])) us) x y → ShareIn (seen ++ (u ∷ us)) x y)
        → ShareIn (seen ++ (u ∷ us)) x y
    go none e a m = m a
    go (Option.some j) e a m =
        let hj : Has j u.1 (seen ++ (u ∷ us)) = has_left j u.1 seen (u ∷ us) (first_has u.1 seen j e) in
        let hu : Has u.0 u.1 (seen ++ (u ∷ us)) = has_right u.0 u.1 seen (u ∷ us) (has_self u us) in
        ⊎_elim
        (λ p.
        let t : (eqb x u.0 ≡ true) × (eqb y j ≡ true) = and_parts _ _ p in
        (u.1, rw (eqb-true x u.0 t.0) hu, rw (eqb-true y j t.1) hj))
        (λ p.
        ⊎_elim
        (λ q.
        let t : (eqb x j ≡ true) × (eqb y u.0 ≡ true) = and_parts _ _ q in
        (u.1, rw (eqb-true x j t.0) hj, rw (eqb-true y u.0 t.1) hu))
        m
        (or_either _ _ p))
        (or_either _ _ (sym (has_neighbours x y (u.0, j) (joins_from (seen ++ (u ∷ [])) us)) ∙ a))

-- ---- and two faces that share a key are both joined to the first that had it, or are it

beside_more : (i : ℕ) (o : Option ℕ) (js : List Join) (x y : ℕ) → Beside js x y → Beside (join_of i o js) x y
beside_more i none js x y a = a
beside_more i (Option.some j) js x y a =
    has_neighbours x y (i, j) js ∙ or_right (eqb x i && eqb y j) _ (or_right (eqb x j && eqb y i) _ a)

-- x is the first face that had k, or is joined to it
abbrev ToFirst : List Use → List Use → ℕ → Key → Type 0
ToFirst seen us x k = (j : ℕ) × (first_face k (seen ++ us) ≡ Option.some j) × ((x ≡ j) ⊎ Beside (joins_from seen us) x j)

to_first : (seen us : List Use) (x : ℕ) (k : Key) → Has x k us → ToFirst seen us x k
to_first seen [] x k h = clash h refl
to_first seen (u ∷ us) x k h =
    ⊎_elim
    (λ p.
    let t : (eqb x u.0 ≡ true) × (same_key_lem k u.1 ≡ true) = and_parts _ _ p in
    this (eqb-true x u.0 t.0) (same_key-true k u.1 t.1) (first_face u.1 seen) refl)
    (λ p. later (to_first (seen ++ (u ∷ [])) us x k p))
    (or_either _ _ h)
  where
    rest : List Join
    rest = joins_from (seen ++ (u ∷ [])) us

    later : ToFirst (seen ++ (u ∷ [])) us x k → ToFirst seen (u ∷ us) x k
    later r = (
      r.0,
      sym (ap (first_face k) (append_assoc seen (u ∷ []) us)) ∙ r.1,
      ⊎_elim inl (λ a. inr (beside_more u.0 (first_face u.1 seen) rest x r.0 a)) r.2,
    )

    this : x ≡ u.0 → k ≡ u.1 → (o : Option ℕ) → first_face u.1 seen ≡ o → ToFirst seen (u ∷ us) x k
    this ex ek none e = (u.0, rw ek (first_none u.1 seen (u ∷ us) e ∙ rw same_key-refl), inl ex)
    this ex ek (Option.some j) e = (
      j,
      rw ek (first_append u.1 seen (u ∷ us) j e),
      inr
          (rw e
          (has_neighbours x j (u.0, j) rest
          ∙ or_left (eqb x u.0 && eqb j j) _ (rw (eq-eqb x u.0 ex, eq-eqb j j refl)))),
    )

pub share_reach : (us : List Use) (x y : ℕ) → ShareIn us x y → Reach (Beside (joins_from [] us)) x y
share_reach us x y s =
    let p : ToFirst [] us x s.0 = to_first [] us x s.0 s.1 in
    let q : ToFirst [] us y s.0 = to_first [] us y s.0 s.2 in
    let e : p.0 ≡ q.0 = cc (p.1, q.1) in
    reach_trans
    (to p.2)
    (reach_sym (beside_sym (joins_from [] us)) (subst (Reach (Beside (joins_from [] us)) y) (sym e) (to q.2)))
  where
    to : {a b : ℕ} → (a ≡ b) ⊎ Beside (joins_from [] us) a b → Reach (Beside (joins_from [] us)) a b
    to (inl p) = here p
    to (inr a) = reach_one a

-- ---- of faces

some_face : (x i : ℕ) (k : Key) (ks : List Key) → some (is_use x k) (map (λ q. (i, q)) ks) ≡ (eqb x i && some (same_key_lem k) ks)
some_face x i k [] = sym (and-false (eqb x i))
some_face x i k (q ∷ ks) =
    ap (λ b. (eqb x i && same_key_lem k q) || b) (some_face x i k ks)
    ∙ sym (and-or_distrib_left (eqb x i) (same_key_lem k q) (some (same_key_lem k) ks))

uses_below : (normals : Bool) (i : ℕ) (fs : List Ring) (x : ℕ) (k : Key) → x < i → some (is_use x k) (uses_from normals i fs) ≡ false
uses_below normals i [] x k l = refl
uses_below normals i (f ∷ fs) x k l =
    some_append (is_use x k) (map (λ q. (i, q)) (face_keys normals f)) (uses_from normals (suc i) fs)
    ∙ rw
    (some_face x i k (face_keys normals f), ne_eqb x i (λ e. omega arith))
    (uses_below normals (suc i) fs x k (omega arith))

uses_keys :
    (normals : Bool) (i : ℕ) (fs : List Ring) (x : ℕ) (k : Key)
    → some (is_use (i + x) k) (uses_from normals i fs) ≡ key_in normals fs x k
uses_keys normals i [] x k = refl
uses_keys normals i (f ∷ fs) zero k =
    some_append (is_use (i + zero) k) (map (λ q. (i, q)) (face_keys normals f)) (uses_from normals (suc i) fs)
    ∙ rw (
      some_face (i + zero) i k (face_keys normals f),
      eq-eqb (i + zero) i (add-zero i),
      uses_below normals (suc i) fs (i + zero) k (omega arith),
    )
    (or-false (some (same_key_lem k) (face_keys normals f)))
uses_keys normals i (f ∷ fs) (suc x) k =
    some_append (is_use (i + suc x) k) (map (λ q. (i, q)) (face_keys normals f)) (uses_from normals (suc i) fs)
    ∙ rw
    (some_face (i + suc x) i k (face_keys normals f), ne_eqb (i + suc x) i (λ e. omega arith))
    (ap (λ z. some (is_use z k) (uses_from normals (suc i) fs)) (let e : i + suc x ≡ suc i + x = omega arith in e)
    ∙ uses_keys normals (suc i) fs x k)

module _ (normals : Bool) (fs : List Ring) where
  pub use_key : (x : ℕ) (k : Key) → some (is_use x k) (uses_from normals 0 fs) ≡ key_in normals fs x k
  use_key x k =
      ap (λ z. some (is_use z k) (uses_from normals 0 fs)) (let e : x ≡ 0 + x = omega arith in e) ∙ uses_keys normals 0 fs x k

  pub key_below : (x : ℕ) (k : Key) → key_in normals fs x k ≡ true → x < length fs
  key_below x k h =
      by_cases
      (ltb x (length fs))
      (λ p. ltb-true x (length fs) p)
      (λ p.
      clash
      h
      (ap (λ f. some (same_key_lem k) (face_keys normals f)) (get_or-eq_default fs [] (ltb-false x (length fs) p))))

  pub beside_share : (x y : ℕ) → Beside (joins normals fs) x y → Share normals fs x y
  beside_share x y a =
      let r : ShareIn (uses_from normals 0 fs) x y = joins_share [] (uses_from normals 0 fs) x y a in
      (r.0, sym (use_key x r.0) ∙ r.1, sym (use_key y r.0) ∙ r.2)

  pub share_beside : (x y : ℕ) → Share normals fs x y → Reach (Beside (joins normals fs)) x y
  share_beside x y h =
      share_reach (uses_from normals 0 fs) x y (h.0, use_key x h.0 ∙ h.1, use_key y h.0 ∙ h.2)

  -- so neighbours are faces of the mesh
  pub beside_below : (x y : ℕ) → Beside (joins normals fs) x y → y < length fs
  beside_below x y a = let r : Share normals fs x y = beside_share x y a in key_below y r.0 r.2
