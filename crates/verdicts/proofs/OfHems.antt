-- What a caller may count on of the hem edges: no more than corners, each one of the uses, both ends positions of corners; an accepted
-- mesh has them below its number of positions. (That their keys ascend, so that no two have one key, is `hems_asc` of HemUses.)
-- Assumes nothing.
use mathlib.Core.Path.{◌≡◌, refl, sym, ap, ◌∙◌, subst}
use mathlib.Core.Logic.{◌⊎◌, inl, inr, ⊎_elim}
use mathlib.Core.Bool.{Bool, true, false, cond, ◌||◌}
use mathlib.Core.List.{List, [], ◌∷◌, map}
use Prim.Native.Nat.{ℕ, suc, ◌/◌, ◌≤◌, ◌<◌}
use native.Mathlib.Omega.{arith}
use lib.ListN.{length, get_or, length-map, get_or-map}
use lib.Dec.{ltb}
use borrow.Author.Tests.{ltb-true}
use Rattle.lists.specs.Lists.{some, every, count}
use Rattle.lists.proofs.Bools.{by_cases, and_both, and_left, and_right, or_left, or_right}
use Rattle.lists.proofs.Buckets.{length_only}
use Rattle.lists.proofs.Counting.{clash, or_either, count_length, count_none}
use Rattle.lists.proofs.Parts.{every_at}
use Rattle.mesh.specs.Limits.{width}
use Rattle.mesh.specs.Mesh.{Mesh, rings, faces, position_count}
use Rattle.mesh.specs.Table.{mesh_number}
use Rattle.verdicts.specs.Edges.{Edge, same, key, before, insert, keys, uses, odd, last_or, hem_keys, hems, edges_of, mesh_edges_of, start, end}
use Rattle.mesh.specs.Edges.{Edged}
use Rattle.verdicts.proofs.SameEdge.{same_true, same_refl}
use Rattle.verdicts.specs.Promises.{HemsUsed, HemsWithin}
use Rattle.verdicts.proofs.OnlyHems.{is_hem, hems_member}
use Rattle.uses.proofs.Sides.{inside, length_uses, uses_inside}
use Rattle.mesh.proofs.Edges.{edged}

-- ---- no more than uses

length_insert : (k : Edge) (l : List Edge) → length (insert k l) ≤ suc (length l)
length_insert k [] = omega arith
length_insert k (x ∷ l) = go (before k x) (same k x) (length_insert k l)
  where
    go : (b c : Bool) → length (insert k l) ≤ suc (length l) → length (cond b (k ∷ x ∷ l) (cond c (x ∷ l) (x ∷ insert k l))) ≤ suc (suc (length l))
    go true c h = omega arith
    go false true h = omega arith
    go false false h = omega arith

length_keys : (es : List Edge) → length (keys es) ≤ length es
length_keys [] = omega arith
length_keys (e ∷ es) =
    let a : length (insert (key e) (keys es)) ≤ suc (length (keys es)) = length_insert (key e) (keys es) in
    let b : length (keys es) ≤ length es = length_keys es in
    omega arith

pub hems_few : (es : List Edge) → length (hems es) ≤ length es
unfolding hems
hems_few es =
    let a : length (map (λ k. last_or k k es) (hem_keys es)) ≡ length (hem_keys es) = length-map (hem_keys es) (λ k. last_or k k es) in
    let b : length (hem_keys es) ≡ count (λ k. odd (uses k es)) (keys es) = length_only (λ k. odd (uses k es)) (keys es) in
    let c : count (λ k. odd (uses k es)) (keys es) ≤ length (keys es) = count_length (λ k. odd (uses k es)) (keys es) in
    let d : length (keys es) ≤ length es = length_keys es in
    omega arith

-- ---- each is one of the uses

-- the last use of an edge is among the uses, where it has one
last_in : (k d : Edge) (es : List Edge) → (some (same (last_or k d es)) es ≡ true) ⊎ ((some (λ x. same k (key x)) es ≡ false) × (last_or k d es ≡ d))
last_in k d [] = inr (refl, refl)
last_in k d (x ∷ es) = go (same k (key x)) refl (last_in k x es) (last_in k d es)
  where
    In : Edge → Bool → Type 0
    In e b = (some (same e) (x ∷ es) ≡ true) ⊎ (((b || some (λ y. same k (key y)) es) ≡ false) × (e ≡ d))

    go :
        (b : Bool) → same k (key x) ≡ b
        → (some (same (last_or k x es)) es ≡ true) ⊎ ((some (λ y. same k (key y)) es ≡ false) × (last_or k x es ≡ x))
        → (some (same (last_or k d es)) es ≡ true) ⊎ ((some (λ y. same k (key y)) es ≡ false) × (last_or k d es ≡ d))
        → In (last_or k (cond b x d) es) b
    go true q p r =
        inl (⊎_elim
        (λ i. or_right (same (last_or k x es) x) (some (same (last_or k x es)) es) i)
        (λ i. or_left (same (last_or k x es) x) (some (same (last_or k x es)) es) (rw i.1 (same_refl x)))
        p)
    go false q p r = ⊎_elim (λ i. inl (or_right (same (last_or k d es) x) (some (same (last_or k d es)) es) i)) (λ i. inr i) r

odd_some : (p : Edge → Bool) (es : List Edge) → odd (count p es) ≡ true → some p es ≡ true
odd_some p es h = by_cases (some p es) (λ e. e) (λ e. clash h (ap odd (count_none p es e)))

pub hems_used : HemsUsed
hems_used es e h =
    let m : is_hem es e ≡ true = sym (hems_member es e) ∙ h in
    let o : odd (uses (key e) es) ≡ true = and_left (odd (uses (key e) es)) (same e (last_or (key e) (key e) es)) m in
    let q : e ≡ last_or (key e) (key e) es = same_true e (last_or (key e) (key e) es) (and_right (odd (uses (key e) es)) (same e (last_or (key e) (key e) es)) m) in
    ⊎_elim
    (λ i. subst (λ (x : Edge). some (same x) es ≡ true) (sym q) i)
    (λ i. clash (odd_some (λ x. same (key e) (key x)) es o) i.0)
    (last_in (key e) (key e) es)

-- what every edge of a list passes, every edge passes that is in it
every_in : (p : Edge → Bool) (e : Edge) (l : List Edge) → every p l ≡ true → some (same e) l ≡ true → p e ≡ true
every_in p e [] h m = clash m refl
every_in p e (x ∷ l) h m =
    ⊎_elim
    (λ q. subst (λ (y : Edge). p y ≡ true) (sym (same_true e x q)) (and_left (p x) (every p l) h))
    (λ q. every_in p e l (and_right (p x) (every p l) h) q)
    (or_either (same e x) (some (same e) l) m)

every_part : (p : Edge → Bool) (l m : List Edge) → every p m ≡ true → ((e : Edge) → some (same e) l ≡ true → some (same e) m ≡ true) → every p l ≡ true
every_part p [] m h f = refl
every_part p (x ∷ l) m h f =
    and_both (p x) (every p l)
    (every_in p x m h (f x (or_left (same x x) (some (same x) l) (same_refl x))))
    (every_part p l m h (λ e q. f e (or_right (same e x) (some (same e) l) q)))

-- what every use passes, every hem edge passes
pub hems_every : (p : Edge → Bool) (es : List Edge) → every p es ≡ true → every p (hems es) ≡ true
hems_every p es h = every_part p (hems es) es h (hems_used es)

-- ---- of corners and sizes

module _ (cs s : List ℕ) (n : ℕ) (e : Edged cs s n) where
  abbrev hems_in : List Edge
  hems_in = hems (edges_of (rings s cs))

  -- no more hem edges than corners
  pub hems_within : length hems_in ≤ length cs / width
  hems_within =
      let a : length (edges_of (rings s cs)) ≡ length cs / width = length_uses cs s e.sound in
      let b : length hems_in ≤ length (edges_of (rings s cs)) = hems_few (edges_of (rings s cs)) in
      omega arith

  -- both ends below the number of positions
  pub hems_inside : every (inside n) hems_in ≡ true
  hems_inside = hems_every (inside n) (edges_of (rings s cs)) (uses_inside cs s n e)

  pub starts_below : (k : ℕ) → k < length hems_in → get_or (map start hems_in) k 0 < n
  starts_below k h =
      let i : inside n (get_or hems_in k (0, 0)) ≡ true = every_at (inside n) (0, 0) hems_in k hems_inside h in
      rw (get_or-map start hems_in k (0, 0))
      (ltb-true (start (get_or hems_in k (0, 0))) n (and_left (ltb (start (get_or hems_in k (0, 0))) n) (ltb (end (get_or hems_in k (0, 0))) n) i))

  pub ends_below : (k : ℕ) → k < length hems_in → get_or (map end hems_in) k 0 < n
  ends_below k h =
      let i : inside n (get_or hems_in k (0, 0)) ≡ true = every_at (inside n) (0, 0) hems_in k hems_inside h in
      rw (get_or-map end hems_in k (0, 0))
      (ltb-true (end (get_or hems_in k (0, 0))) n (and_right (ltb (start (get_or hems_in k (0, 0))) n) (ltb (end (get_or hems_in k (0, 0))) n) i))

-- ---- of an accepted mesh

pub mesh_hems_inside : (m : Mesh) → mesh_number m ≡ 0 → every (inside (position_count m)) (hems (mesh_edges_of m)) ≡ true
unfolding faces
mesh_hems_inside m h = hems_inside m.corners m.sizes (position_count m) (edged m h)

pub mesh_hems_within : HemsWithin
unfolding faces
mesh_hems_within m h = hems_within m.corners m.sizes (position_count m) (edged m h)
