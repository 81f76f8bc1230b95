-- Panels under either normals setting: corners that are changed so that equal positions and equal normals stay equal, and different
-- ones different, leave the very list of panels. So does compaction. Assumes nothing.
use mathlib.Core.Path.{◌≡◌, refl, sym, ap, ap₂, ◌∙◌}
use mathlib.Core.Logic.{⊎_elim}
use mathlib.Core.Bool.{Bool, true, false, cond, not, ◌&&◌, ◌||◌}
use mathlib.Core.List.{List, [], ◌∷◌, ◌++◌, map, map-append}
use Prim.Native.Nat.{ℕ, suc, ◌<◌}
use native.Mathlib.Omega.{arith}
use lib.Dec.{ltb, eqb}
use lib.ListN.{length-map}
use borrow.Author.Tests.{ltb-true, ltb-false, ne_eqb, eqb-false, not-true}
use Rattle.lists.specs.Lists.{has, every}
use Rattle.lists.proofs.Bools.{and_left, and_right, and_both, or_left, or_right}
use Rattle.lists.proofs.Cases.{iff}
use Rattle.lists.proofs.Counting.{or_either}
use Rattle.lists.proofs.Mapping.{every_map}
use Rattle.lists.proofs.Others.{has_every}
use Rattle.lists.proofs.Parts.{every_append, every_joined}
use Rattle.mesh.specs.Mesh.{Mesh, Corner, Ring, position, normal, corners_in, faces}
use Rattle.mesh.specs.Table.{mesh_number}
use Rattle.edges.specs.Edges.{ring_edges, same}
use Rattle.edges.proofs.SameEdge.{same_true, same_of}
use Rattle.keys.specs.Keys.{Key, key_of, same_key_lem, Use, uses_from}
use Rattle.searching.specs.Search.{panels_from}
use Rattle.panels.specs.Panels.{joins_from, joins, panels}
use Rattle.panels.proofs.Sharing.{same_key-true, same_key-refl}
use Rattle.unused.specs.Compaction.{renumbered, compacted}
use Rattle.unused.proofs.Laws.{face_order, faces_compacted, position_same, normal_same}
use Rattle.turning.proofs.Edgewise.{both, ring_changed, both_pass, ring_passes, rings_own}
use Rattle.renumbered.proofs.Joining.{keyed, joins_agree, numbered_passes}

-- ---- an edge's key, by what its two ends have: a position, and a normal or 0

abbrev End : Type 0
End = ℕ × ℕ

abbrev end_of : Bool → Corner → End
end_of normals c = (position c, cond normals (normal c) 0)

key_of_ends : End → End → Key
key_of_ends a b = cond (ltb a.0 b.0) (a.0, b.0, a.1, b.1) (b.0, a.0, b.1, a.1)

key_by_ends : (normals : Bool) (e : Corner × Corner) → key_of normals e ≡ key_of_ends (end_of normals e.0) (end_of normals e.1)
unfolding key_of key_of_ends
key_by_ends normals e = refl

-- two edges have one key where their ends are the same; or the other way round, if the positions of the ends differ
abbrev same_ends : End → End → End → End → Bool
same_ends a b c d = (same a c && same b d) || (not (eqb a.0 b.0) && (same a d && same b c))

module _ (a b : End) where
  turned_key : (a.0 ≡ b.0 → ⊥) → key_of_ends a b ≡ key_of_ends b a
  unfolding key_of_ends
  turned_key ne = go (ltb a.0 b.0) refl (ltb b.0 a.0) refl
    where
      go :
          (s : Bool) → ltb a.0 b.0 ≡ s → (t : Bool) → ltb b.0 a.0 ≡ t
          → ◌≡◌ {A = Key} (cond s (a.0, b.0, a.1, b.1) (b.0, a.0, b.1, a.1)) (cond t (b.0, a.0, b.1, a.1) (a.0, b.0, a.1, b.1))
      go true p true q = absurd (let x = ltb-true a.0 b.0 p in let y = ltb-true b.0 a.0 q in omega arith)
      go true p false q = refl
      go false p true q = refl
      go false p false q =
          absurd (let x = ltb-false a.0 b.0 p in let y = ltb-false b.0 a.0 q in ne (omega arith))

  module _ (c d : End) where
    straight : a ≡ c → b ≡ d → same_ends a b c d ≡ true
    straight p q =
        or_left (same a c && same b d) (not (eqb a.0 b.0) && (same a d && same b c)) (and_both (same a c) (same b d) (same_of a c p) (same_of b d q))

    crossed : (a.0 ≡ b.0 → ⊥) → a ≡ d → b ≡ c → same_ends a b c d ≡ true
    crossed ne p q =
        or_right (same a c && same b d) (not (eqb a.0 b.0) && (same a d && same b c))
        (and_both (not (eqb a.0 b.0)) (same a d && same b c) (ap not (ne_eqb a.0 b.0 ne)) (and_both (same a d) (same b c) (same_of a d p) (same_of b c q)))

    forth : same_key_lem (key_of_ends a b) (key_of_ends c d) ≡ true → same_ends a b c d ≡ true
    unfolding key_of_ends
    forth h = go (ltb a.0 b.0) refl (ltb c.0 d.0) refl (same_key-true (key_of_ends a b) (key_of_ends c d) h)
      where
        go :
            (s : Bool) → ltb a.0 b.0 ≡ s → (t : Bool) → ltb c.0 d.0 ≡ t
            → ◌≡◌ {A = Key} (cond s (a.0, b.0, a.1, b.1) (b.0, a.0, b.1, a.1)) (cond t (c.0, d.0, c.1, d.1) (d.0, c.0, d.1, c.1))
            → same_ends a b c d ≡ true
        go true p true q e = straight (λ i. ((e i).0, (e i).2)) (λ i. ((e i).1, (e i).3))
        go true p false q e =
            crossed (λ f. let x : a.0 < b.0 = ltb-true a.0 b.0 p in omega arith) (λ i. ((e i).0, (e i).2)) (λ i. ((e i).1, (e i).3))
        go false p true q e =
            crossed
            (λ f.
            let x : c.0 < d.0 = ltb-true c.0 d.0 q in
            let y : b.0 ≡ c.0 = λ i. (e i).0 in
            let z : a.0 ≡ d.0 = λ i. (e i).1 in
            omega arith)
            (λ i. ((e i).1, (e i).3)) (λ i. ((e i).0, (e i).2))
        go false p false q e = straight (λ i. ((e i).1, (e i).3)) (λ i. ((e i).0, (e i).2))

    one_key : key_of_ends a b ≡ key_of_ends c d → same_key_lem (key_of_ends a b) (key_of_ends c d) ≡ true
    one_key e = ap (same_key_lem (key_of_ends a b)) (sym e) ∙ same_key-refl (key_of_ends a b)

    back : same_ends a b c d ≡ true → same_key_lem (key_of_ends a b) (key_of_ends c d) ≡ true
    back h =
        ⊎_elim
        (λ p. one_key (ap₂ key_of_ends (same_true a c (and_left (same a c) (same b d) p)) (same_true b d (and_right (same a c) (same b d) p))))
        (λ p.
        let n = eqb-false a.0 b.0 (not-true (eqb a.0 b.0) (and_left (not (eqb a.0 b.0)) (same a d && same b c) p)) in
        let q = and_right (not (eqb a.0 b.0)) (same a d && same b c) p in
        one_key (turned_key n ∙ ap₂ key_of_ends (same_true b c (and_right (same a d) (same b c) q)) (same_true a d (and_left (same a d) (same b c) q))))
        (or_either (same a c && same b d) (not (eqb a.0 b.0) && (same a d && same b c)) h)

    same_by_ends : same_key_lem (key_of_ends a b) (key_of_ends c d) ≡ same_ends a b c d
    same_by_ends = iff (same_key_lem (key_of_ends a b) (key_of_ends c d)) (same_ends a b c d) forth back

-- ---- the edges of faces whose corners are changed

-- each edge of corners with the number of its face, in order
abbrev corner_edges : ℕ → List Ring → List (ℕ × (Corner × Corner))
corner_edges i [] = []
corner_edges i (r ∷ fs) = map (λ e. (i, e)) (ring_edges r) ++ corner_edges (suc i) fs

module _ (normals : Bool) (f : Corner → Corner) where
  face_uses :
      (i : ℕ) (l : List (Corner × Corner))
      → map (λ k. (i, k)) (map (key_of normals) (map (both f) l)) ≡ map (keyed (λ e. key_of normals (both f e))) (map (λ e. (i, e)) l)
  face_uses i [] = refl
  face_uses i (e ∷ l) = ap (λ (t : List Use). (i, key_of normals (both f e)) ∷ t) (face_uses i l)

  uses_changed : (i : ℕ) (fs : List Ring) → uses_from normals i (map (map f) fs) ≡ map (keyed (λ e. key_of normals (both f e))) (corner_edges i fs)
  uses_changed i [] = refl
  uses_changed i (r ∷ fs) =
      ap₂ (λ (a b : List Use). a ++ b)
      (ap (λ (l : List (Corner × Corner)). map (λ k. (i, k)) (map (key_of normals) l)) (ring_changed f r) ∙ face_uses i (ring_edges r))
      (uses_changed (suc i) fs)
      ∙ sym (map-append (keyed (λ e. key_of normals (both f e))) (map (λ e. (i, e)) (ring_edges r)) (corner_edges (suc i) fs))

numbered_pass : (p : Corner → Bool) (i : ℕ) (fs : List Ring) → every (every p) fs ≡ true → every (λ (u : ℕ × (Corner × Corner)). both_pass p u.1) (corner_edges i fs) ≡ true
numbered_pass p i [] h = refl
numbered_pass p i (r ∷ fs) h =
    let test : ℕ × (Corner × Corner) → Bool = λ u. both_pass p u.1 in
    every_append test (map (λ e. (i, e)) (ring_edges r)) (corner_edges (suc i) fs)
    ∙ and_both (every test (map (λ e. (i, e)) (ring_edges r))) (every test (corner_edges (suc i) fs))
    (numbered_passes (both_pass p) i (ring_edges r) (ring_passes p r (and_left (every p r) (every (every p) fs) h)))
    (numbered_pass p (suc i) fs (and_right (every p r) (every (every p) fs) h))

-- f changes corners; of corners that pass p it keeps which positions are equal, and which normals
module _ (f : Corner → Corner) (p : Corner → Bool)
    (same-position : (a b : Corner) → p a ≡ true → p b ≡ true → eqb (position (f a)) (position (f b)) ≡ eqb (position a) (position b))
    (same-normal : (a b : Corner) → p a ≡ true → p b ≡ true → eqb (normal (f a)) (normal (f b)) ≡ eqb (normal a) (normal b)) where
  same_end : (normals : Bool) (a b : Corner) → p a ≡ true → p b ≡ true → same (end_of normals (f a)) (end_of normals (f b)) ≡ same (end_of normals a) (end_of normals b)
  same_end true a b h k = ap₂ (λ (x y : Bool). x && y) (same-position a b h k) (same-normal a b h k)
  same_end false a b h k = ap (λ (x : Bool). x && true) (same-position a b h k)

  module _ (normals : Bool) where
    key_agrees :
        (d e : Corner × Corner) → both_pass p d ≡ true → both_pass p e ≡ true
        → same_key_lem (key_of normals (both f d)) (key_of normals (both f e)) ≡ same_key_lem (key_of normals d) (key_of normals e)
    key_agrees d e h k =
        let ha = and_left (p d.0) (p d.1) h in
        let hb = and_right (p d.0) (p d.1) h in
        let ka = and_left (p e.0) (p e.1) k in
        let kb = and_right (p e.0) (p e.1) k in
        ap₂ same_key_lem (key_by_ends normals (both f d)) (key_by_ends normals (both f e))
        ∙ same_by_ends (end_of normals (f d.0)) (end_of normals (f d.1)) (end_of normals (f e.0)) (end_of normals (f e.1))
        ∙ ap₂ (λ (x y : Bool). x || y)
        (ap₂ (λ (x y : Bool). x && y) (same_end normals d.0 e.0 ha ka) (same_end normals d.1 e.1 hb kb))
        (ap₂ (λ (x y : Bool). not x && y) (same-position d.0 d.1 ha hb)
        (ap₂ (λ (x y : Bool). x && y) (same_end normals d.0 e.1 ha kb) (same_end normals d.1 e.0 hb ka)))
        ∙ sym
        (ap₂ same_key_lem (key_by_ends normals d) (key_by_ends normals e)
        ∙ same_by_ends (end_of normals d.0) (end_of normals d.1) (end_of normals e.0) (end_of normals e.1))

    joins_changed : (fs : List Ring) → every (every p) fs ≡ true → joins normals (map (map f) fs) ≡ joins normals fs
    joins_changed fs h =
        ap (joins_from []) (uses_changed normals f 0 fs)
        ∙ joins_agree (λ e. key_of normals (both f e)) (key_of normals) (both_pass p) key_agrees [] (corner_edges 0 fs) refl (numbered_pass p 0 fs h)
        ∙ ap (joins_from []) (sym (uses_changed normals (λ c. c) 0 fs) ∙ ap (uses_from normals 0) (rings_own fs))

    pub panels_changed : (fs : List Ring) → every (every p) fs ≡ true → panels normals (map (map f) fs) ≡ panels normals fs
    unfolding panels
    panels_changed fs h =
        λ i. panels_from (length-map fs (map f) i) 0 (length-map fs (map f) i) (joins_changed fs h i) []

-- ---- compaction

every_two : {A : Type 0} (p q : A → Bool) (l : List A) → every p l ≡ true → every q l ≡ true → every (λ x. p x && q x) l ≡ true
every_two p q [] h k = refl
every_two p q (x ∷ l) h k =
    and_both (p x && q x) (every (λ y. p y && q y) l)
    (and_both (p x) (q x) (and_left (p x) (every p l) h) (and_left (q x) (every q l) k))
    (every_two p q l (and_right (p x) (every p l) h) (and_right (q x) (every q l) k))

module _ (m : Mesh) (z : mesh_number m ≡ 0) where
  abbrev in_column : (Corner → ℕ) → Corner → Bool
  in_column col c = has (col c) (map col (corners_in m.corners))

  own_column : (col : Corner → ℕ) → every (in_column col) (corners_in m.corners) ≡ true
  own_column col =
      sym (every_map col (λ x. has x (map col (corners_in m.corners))) (corners_in m.corners))
      ∙ has_every (λ x. has x (map col (corners_in m.corners))) (map col (corners_in m.corners)) (λ x h. h)

  abbrev in_use : Corner → Bool
  in_use c = in_column position c && in_column normal c

  all_in_use : every (every in_use) (faces m) ≡ true
  all_in_use =
      sym (every_joined in_use (faces m))
      ∙ ap (every in_use) (face_order m z)
      ∙ every_two (in_column position) (in_column normal) (corners_in m.corners) (own_column position) (own_column normal)

  pub compaction_keeps_panels : (normals : Bool) → panels normals (faces (compacted m)) ≡ panels normals (faces m)
  unfolding renumbered
  compaction_keeps_panels normals =
      ap (panels normals) (faces_compacted m z)
      ∙ panels_changed (renumbered m) in_use
      (λ a b h k. position_same m z (position a) (position b) (and_left (in_column position a) (in_column normal a) h) (and_left (in_column position b) (in_column normal b) k))
      (λ a b h k. normal_same m z (normal a) (normal b) (and_right (in_column position a) (in_column normal a) h) (and_right (in_column position b) (in_column normal b) k))
      normals (faces m) all_in_use
