-- The joins of an accepted mesh: they are those of the rules, they are of its faces, and they are few. Assumes nothing.
use mathlib.Core.Path.{◌≡◌, refl, ap, ap₂, ◌∙◌, subst}
use mathlib.Core.Bool.{Bool, true, false, cond, ◌&&◌}
use mathlib.Core.Option.{Option, none, some}
use mathlib.Core.List.{List, [], ◌∷◌, ◌++◌, map}
use Prim.Native.Nat.{ℕ, suc, ◌+◌, ◌*◌, ◌/◌, ◌≤◌, ◌<◌}
use native.Mathlib.Omega.{arith}
use lib.Dec.{ltb}
use lib.ListN.{length, get_or, length-map}
use borrow.Author.Tests.{lt-ltb, ltb-true}
use Rattle.lists.specs.Lists.{every, each}
use Rattle.lists.specs.Putting.{Written}
use Rattle.lists.proofs.Bools.{and_both, and_left, and_right}
use Rattle.lists.proofs.Parts.{every_append}
use Rattle.mesh.specs.Limits.{width, corner_numbers}
use Rattle.mesh.specs.Mesh.{Ring, rings}
use Rattle.keys.specs.Keys.{Key, same_key_lem, face_keys, Use, uses_from, use_faces, FirstUses}
use Rattle.keys.specs.Columns.{face_uses, Keyable}
use Rattle.keys.proofs.Valid.{uses_corners}
use Rattle.keys.proofs.Rows.{use_faces_lem}
use Rattle.searching.specs.Joins.{join_numbers, flat_join, flat_joins}
use Rattle.panels.specs.Panels.{first_face, join_of, joins_from, joins}
use Rattle.panels.specs.Joins.{joins_by, Joinable}
use Rattle.panels.proofs.Recording.{joins_are}

-- ---- first uses and faces make the joins of the rules

module _ (normals : Bool) (cs s : List ℕ) (k : Keyable cs s) (firsts face : List ℕ) (r : FirstUses (uses_from normals 0 (rings s cs)) firsts)
    (f : face ≡ use_faces (rings s cs)) where
  abbrev uses : List Use
  uses = uses_from normals 0 (rings s cs)

  face_is : face ≡ map (λ (u : Use). u.0) uses
  face_is = f ∙ use_faces_lem normals (rings s cs)

  pub joins_ready : (out : List ℕ) → join_numbers ≤ length out → Joinable face firsts out
  joins_ready out h =
      let u : length uses ≡ length cs / width = uses_corners normals s cs k.sound.adds in
      let v : length firsts ≡ length uses = r.long in
      let w : length face ≡ length uses = ap length face_is ∙ length-map uses (λ (x : Use). x.0) in
      let q : length cs ≤ corner_numbers = k.sound.fits in
      record {
        few = omega arith;
        faces_long = omega arith;
        named = λ x i. let g : get_or firsts x 0 ≤ x = (r.first x (omega arith)).upto in omega arith;
        room = omega arith;
      }

  pub joins_done : (out out' : List ℕ) (j : ℕ) → Written (joins_by face firsts (length firsts)) out out' 0 j → Written (flat_joins (joins normals (rings s cs))) out out' 0 j
  joins_done out out' j w =
      subst (λ (t : List ℕ). Written t out out' 0 j)
      (ap₂ (λ (t : List ℕ) (u : ℕ). joins_by t firsts u) face_is r.long ∙ joins_are uses firsts r)
      w

-- ---- joins are of faces, and few

first_below : (b : ℕ) (k : Key) (us : List Use) (j : ℕ) → every (λ (u : Use). ltb u.0 b) us ≡ true → first_face k us ≡ some j → j < b
first_below b k [] j h e = absurd (let z : ◌≡◌ {A = ℕ} 0 1 = cc in omega arith)
first_below b k (u ∷ us) j h e = go (same_key_lem k u.1) e (first_below b k us j (and_right (ltb u.0 b) (every (λ (v : Use). ltb v.0 b) us) h))
  where
    go : (t : Bool) → cond t (some u.0) (first_face k us) ≡ some j → (first_face k us ≡ some j → j < b) → j < b
    go true q m = let z : u.0 ≡ j = cc in let y : u.0 < b = ltb-true u.0 b (and_left (ltb u.0 b) (every (λ (v : Use). ltb v.0 b) us) h) in omega arith
    go false q m = m q

pub joins_below :
    (b : ℕ) (seen us : List Use) → every (λ (u : Use). ltb u.0 b) seen ≡ true → every (λ (u : Use). ltb u.0 b) us ≡ true
    → every (λ x. ltb x b) (flat_joins (joins_from seen us)) ≡ true
unfolding flat_joins
joins_below b seen [] p q = refl
joins_below b seen (u ∷ us) p q =
    go (first_face u.1 seen) refl
    (joins_below b (seen ++ (u ∷ [])) us
    (every_append (λ (v : Use). ltb v.0 b) seen (u ∷ [])
    ∙ and_both (every (λ (v : Use). ltb v.0 b) seen) (ltb u.0 b && true) p
    (and_both (ltb u.0 b) true (and_left (ltb u.0 b) (every (λ (v : Use). ltb v.0 b) us) q) refl))
    (and_right (ltb u.0 b) (every (λ (v : Use). ltb v.0 b) us) q))
  where
    go :
        (o : Option ℕ) → first_face u.1 seen ≡ o → every (λ x. ltb x b) (each flat_join (joins_from (seen ++ (u ∷ [])) us)) ≡ true
        → every (λ x. ltb x b) (each flat_join (join_of u.0 o (joins_from (seen ++ (u ∷ [])) us))) ≡ true
    go none e r = r
    go (some j) e r =
        and_both (ltb u.0 b) (ltb j b && every (λ x. ltb x b) (each flat_join (joins_from (seen ++ (u ∷ [])) us)))
        (and_left (ltb u.0 b) (every (λ (v : Use). ltb v.0 b) us) q)
        (and_both (ltb j b) (every (λ x. ltb x b) (each flat_join (joins_from (seen ++ (u ∷ [])) us))) (lt-ltb j b (first_below b u.1 seen j p e)) r)

pub uses_below : (normals : Bool) (i : ℕ) (fs : List Ring) → every (λ (u : Use). ltb u.0 (i + length fs)) (uses_from normals i fs) ≡ true
uses_below normals i [] = refl
uses_below normals i (f ∷ fs) =
    every_append (λ (u : Use). ltb u.0 (i + suc (length fs))) (face_uses normals i f) (uses_from normals (suc i) fs)
    ∙ and_both (every (λ (u : Use). ltb u.0 (i + suc (length fs))) (face_uses normals i f)) (every (λ (u : Use). ltb u.0 (i + suc (length fs))) (uses_from normals (suc i) fs))
    (here (face_keys normals f))
    (subst (λ (b : ℕ). every (λ (u : Use). ltb u.0 b) (uses_from normals (suc i) fs) ≡ true)
    (let z : suc i + length fs ≡ i + suc (length fs) = omega arith in z) (uses_below normals (suc i) fs))
  where
    here : (ks : List Key) → every (λ (u : Use). ltb u.0 (i + suc (length fs))) (map (λ key. (i, key)) ks) ≡ true
    here [] = refl
    here (q ∷ ks) =
        and_both (ltb i (i + suc (length fs))) (every (λ (u : Use). ltb u.0 (i + suc (length fs))) (map (λ key. (i, key)) ks)) (lt-ltb i (i + suc (length fs)) (omega arith)) (here ks)

pub joins_few : (seen us : List Use) → length (flat_joins (joins_from seen us)) ≤ 2 * length us
unfolding flat_joins
joins_few seen [] = omega arith
joins_few seen (u ∷ us) = go (first_face u.1 seen) (joins_few (seen ++ (u ∷ [])) us)
  where
    go :
        (o : Option ℕ) → length (each flat_join (joins_from (seen ++ (u ∷ [])) us)) ≤ 2 * length us
        → length (each flat_join (join_of u.0 o (joins_from (seen ++ (u ∷ [])) us))) ≤ 2 * suc (length us)
    go none h = omega arith
    go (some j) h = omega arith
