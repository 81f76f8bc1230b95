-- The same by places, as code has the uses: place i of face j is one of a row of all uses. The next edge is the one at the face's next
-- corner. Two places with one edge, without direction, are used against each other; and a place whose edge no other has is a hem
-- edge. Assumes nothing.
use mathlib.Core.Path.{◌≡◌, refl, sym, ap, ◌∙◌, subst}
use mathlib.Core.Logic.{⊎_elim}
use mathlib.Core.Bool.{Bool, true, false, cond}
use mathlib.Core.List.{List, [], ◌∷◌, ◌++◌}
use Prim.Native.Nat.{ℕ, zero, suc, ◌+◌, ◌-◌, ◌≤◌, ◌<◌}
use native.Mathlib.Nat.{zero-add}
use native.Mathlib.Omega.{arith}
use lib.Dec.{ltb}
use lib.ListN.{length, get_or, take, get_or-append, length-append}
use lib.Seq.{get_or-append-add, get_or-append_seam}
use borrow.Author.Tests.{ltb-true, ltb-false, eq-eqb, ne_eqb}
use Rattle.lists.specs.Lists.{count, some}
use Rattle.lists.proofs.Bools.{by_cases, or_left, or_right}
use Rattle.lists.proofs.Counting.{bump_plus, bump_up, some_counted}
use Rattle.edges.specs.Edges.{Edge, same, flip, key, uses, runs, run_edges, ring_edges, mesh_edges, thrice, alike, hems}
use Rattle.lists.specs.Numbers.{next_of}
use Rattle.edges.proofs.SameEdge.{same_true, same_refl, same_of}
use Rattle.edges.proofs.HemUses.{key_same}
use Rattle.mesh.proofs.Edges.{length_ring}
use Rattle.turning.specs.Rows.{nil, begin_of, place_count}
use Rattle.turning.specs.Turning.{Turn, turns, next_in, is_hem}
use Rattle.turning.proofs.Rounds.{In, Once}
use Rattle.turning.proofs.Next.{Has, same_turn, same_turn-refl, begins_runs, next_found}
use Rattle.turning.proofs.Crossing.{edges_once, hem_used}

-- ---- a ring by its places

module _ {A : Type 0} (d : A) where
  run_at : (a : A) (r : List A) (z : A) (i : ℕ) → i < suc (length r) → get_or (run_edges a r z) i (d, d) ≡ (get_or (a ∷ r) i d, get_or (r ++ (z ∷ [])) i d)
  run_at a [] z zero l = refl
  run_at a [] z (suc i) l = absurd (omega arith)
  run_at a (b ∷ r) z zero l = refl
  run_at a (b ∷ r) z (suc i) l = run_at b r z i (omega arith)

  shifted : (a : A) (r : List A) (i : ℕ) → i < suc (length r) → get_or (r ++ (a ∷ [])) i d ≡ get_or (a ∷ r) (next_of i (suc (length r))) d
  unfolding next_of
  shifted a r i l = go (ltb (i + 1) (suc (length r))) refl
    where
      go : (b : Bool) → ltb (i + 1) (suc (length r)) ≡ b → get_or (r ++ (a ∷ [])) i d ≡ get_or (a ∷ r) (cond b (i + 1) 0) d
      go true q =
          let k : i + 1 < suc (length r) = ltb-true (i + 1) (suc (length r)) q in
          let e : i + 1 ≡ suc i = omega arith in
          get_or-append r (a ∷ []) d i (omega arith) ∙ ap (λ n. get_or (a ∷ r) n d) (sym e)
      go false q =
          let k : suc (length r) ≤ i + 1 = ltb-false (i + 1) (suc (length r)) q in
          let e : i ≡ length r = omega arith in
          ap (λ n. get_or (r ++ (a ∷ [])) n d) e ∙ get_or-append_seam r a [] d

  ring_at : (l : List A) (i : ℕ) → i < length l → get_or (ring_edges l) i (d, d) ≡ (get_or l i d, get_or l (next_of i (length l)) d)
  ring_at [] i h = absurd (omega arith)
  ring_at (a ∷ r) i h = run_at a r a i h ∙ ap (λ (x : A). (get_or (a ∷ r) i d, x)) (shifted a r i h)

pub next_below : (i n : ℕ) → i < n → next_of i n < n
unfolding next_of
next_below i n h = go (ltb (i + 1) n) refl
  where
    go : (b : Bool) → ltb (i + 1) n ≡ b → cond b (i + 1) 0 < n
    go true e = ltb-true (i + 1) n e
    go false e = omega arith

-- ---- all faces by their places

turns_length : (fs : List (List ℕ)) → length (turns fs) ≡ length (mesh_edges fs)
turns_length [] = refl
turns_length (f ∷ fs) =
    let a : _ = length-append (ring_edges (ring_edges f)) (turns fs) in
    let b : _ = length-append (ring_edges f) (mesh_edges fs) in
    let c : _ = length_ring (ring_edges f) in
    let e : _ = turns_length fs in
    omega arith

pub place_below : (fs : List (List ℕ)) (j i : ℕ) → i < length (get_or fs j []) → begin_of fs j + i < length (mesh_edges fs)
place_below [] j i l = absurd (omega arith)
place_below (f ∷ fs) zero i l =
    let a : _ = length-append (ring_edges f) (mesh_edges fs) in let b : length (ring_edges f) ≡ length f = length_ring f in omega arith
place_below (f ∷ fs) (suc j) i l =
    let a : _ = length-append (ring_edges f) (mesh_edges fs) in
    let b : _ = length-append (ring_edges f) (mesh_edges (take j fs)) in
    let c : _ = place_below fs j i l in
    omega arith

turns_at :
    (fs : List (List ℕ)) (j i : ℕ) → i < length (get_or fs j [])
    → get_or (turns fs) (begin_of fs j + i) (nil, nil)
    ≡ (get_or (mesh_edges fs) (begin_of fs j + i) nil, get_or (mesh_edges fs) (begin_of fs j + next_of i (length (get_or fs j []))) nil)
turns_at [] j i l = absurd (omega arith)
turns_at (f ∷ fs) zero i l =
    let k : length (ring_edges f) ≡ length f = length_ring f in
    let k' : length (ring_edges (ring_edges f)) ≡ length (ring_edges f) = length_ring (ring_edges f) in
    let n : next_of i (length f) < length f = next_below i (length f) l in
    let a : get_or (turns (f ∷ fs)) i (nil, nil) ≡ get_or (ring_edges (ring_edges f)) i (nil, nil) =
    get_or-append (ring_edges (ring_edges f)) (turns fs) (nil, nil) i (omega arith) in
    let b : get_or (ring_edges (ring_edges f)) i (nil, nil) ≡ (get_or (ring_edges f) i nil, get_or (ring_edges f) (next_of i (length (ring_edges f))) nil) =
    ring_at nil (ring_edges f) i (omega arith) in
    let c : get_or (mesh_edges (f ∷ fs)) i nil ≡ get_or (ring_edges f) i nil = get_or-append (ring_edges f) (mesh_edges fs) nil i (omega arith) in
    let e : get_or (mesh_edges (f ∷ fs)) (next_of i (length f)) nil ≡ get_or (ring_edges f) (next_of i (length f)) nil =
    get_or-append (ring_edges f) (mesh_edges fs) nil (next_of i (length f)) (omega arith) in
    rw (zero-add i, zero-add (next_of i (length f)), a, b, c, e, k)
turns_at (f ∷ fs) (suc j) i l =
    let h : _ = turns_at fs j i l in
    at h
  where
    n : ℕ
    n = next_of i (length (get_or fs j []))

    over : {A : Type 0} (x : A) (a b : List A) (k m : ℕ) → length a ≡ k → get_or (a ++ b) (k + begin_of fs j + m) x ≡ get_or b (begin_of fs j + m) x
    over x a b k m e =
        ap (λ t. get_or (a ++ b) t x) (let z : k + begin_of fs j + m ≡ length a + (begin_of fs j + m) = omega arith in z)
        ∙ get_or-append-add a b (begin_of fs j + m) x

    at :
        get_or (turns fs) (begin_of fs j + i) (nil, nil) ≡ (get_or (mesh_edges fs) (begin_of fs j + i) nil, get_or (mesh_edges fs) (begin_of fs j + n) nil)
        → get_or (turns (f ∷ fs)) (begin_of (f ∷ fs) (suc j) + i) (nil, nil)
        ≡ (get_or (mesh_edges (f ∷ fs)) (begin_of (f ∷ fs) (suc j) + i) nil, get_or (mesh_edges (f ∷ fs)) (begin_of (f ∷ fs) (suc j) + n) nil)
    at h =
        rw (
          length-append (ring_edges f) (mesh_edges (take j fs)),
          over (nil, nil) (ring_edges (ring_edges f)) (turns fs) (length (ring_edges f)) i (length_ring (ring_edges f)),
          over nil (ring_edges f) (mesh_edges fs) (length (ring_edges f)) i refl,
          over nil (ring_edges f) (mesh_edges fs) (length (ring_edges f)) n refl,
        )
        h

has_at : (ts : List Turn) (k : ℕ) → k < length ts → Has (get_or ts k (nil, nil)) ts
has_at [] k l = absurd (omega arith)
has_at (t ∷ ts) zero l = or_left (same_turn t t) (some (same_turn t) ts) (same_turn-refl t)
has_at (t ∷ ts) (suc k) l =
    or_right (same_turn (get_or ts k (nil, nil)) t) (some (same_turn (get_or ts k (nil, nil))) ts) (has_at ts k (omega arith))

-- the next edge of the one at place i of face j stands at the face's next corner
pub next_place :
    (fs : List (List ℕ)) → Once (mesh_edges fs) → (j i : ℕ) → i < length (get_or fs j [])
    → next_in (turns fs) (get_or (mesh_edges fs) (begin_of fs j + i) nil) ≡ get_or (mesh_edges fs) (begin_of fs j + next_of i (length (get_or fs j []))) nil
next_place fs o j i l =
    let e : _ = turns_at fs j i l in
    let k : _ = turns_length fs in
    let m : Has (get_or (turns fs) (begin_of fs j + i) (nil, nil)) (turns fs) =
    has_at (turns fs) (begin_of fs j + i) (let b : _ = place_below fs j i l in omega arith) in
    let t : Turn = (get_or (mesh_edges fs) (begin_of fs j + i) nil, get_or (mesh_edges fs) (begin_of fs j + next_of i (length (get_or fs j []))) nil) in
    next_found (turns fs) t (rw (begins_runs fs t.0) (o t.0)) (subst (λ x. Has x (turns fs)) e m)

-- every place is one of a face's
pub place_of : (fs : List (List ℕ)) (u : ℕ) → u < place_count fs → (j : ℕ) × (i : ℕ) × (i < length (get_or fs j [])) × (begin_of fs j + i ≡ u)
place_of [] u l = absurd (omega arith)
place_of (f ∷ fs) u l =
    let a : length (mesh_edges (f ∷ fs)) ≡ length (ring_edges f) + length (mesh_edges fs) = length-append (ring_edges f) (mesh_edges fs) in
    let k : length (ring_edges f) ≡ length f = length_ring f in
    by_cases (ltb u (length f))
    (λ p. (0, u, ltb-true u (length f) p, zero-add u))
    (λ p.
    let g : length f ≤ u = ltb-false u (length f) p in
    let r : (j : ℕ) × (i : ℕ) × (i < length (get_or fs j [])) × (begin_of fs j + i ≡ u - length f) = place_of fs (u - length f) (omega arith) in
    let b : length (mesh_edges (take (suc r.0) (f ∷ fs))) ≡ length (ring_edges f) + begin_of fs r.0 =
    length-append (ring_edges f) (mesh_edges (take r.0 fs)) in
    let q : begin_of fs r.0 + r.1 ≡ u - length f = r.3 in
    (suc r.0, r.1, r.2, (let z : begin_of (f ∷ fs) (suc r.0) + r.1 ≡ u = omega arith in z)))

-- ---- the places of one edge

module _ {A : Type 0} (p : A → Bool) (d : A) where
  count_at : (l : List A) (k : ℕ) → k < length l → p (get_or l k d) ≡ true → 1 ≤ count p l
  count_at [] k h q = absurd (omega arith)
  count_at (x ∷ l) zero h q = rw q (omega arith)
  count_at (x ∷ l) (suc k) h q = bump_up (p x) (count p l) (count_at l k (omega arith) q)

  count_two : (l : List A) (j k : ℕ) → j < k → k < length l → p (get_or l j d) ≡ true → p (get_or l k d) ≡ true → 2 ≤ count p l
  count_two [] j k i h q r = absurd (omega arith)
  count_two (x ∷ l) j zero i h q r = absurd (omega arith)
  count_two (x ∷ l) zero (suc k) i h q r = let c : 1 ≤ count p l = count_at l k (omega arith) r in rw q (omega arith)
  count_two (x ∷ l) (suc j) (suc k) i h q r =
      let c : 2 ≤ count p l = count_two l j k (omega arith) (omega arith) q r in
      let b : _ = bump_plus (p x) (count p l) in
      omega arith

  count_nowhere : (l : List A) → ((k : ℕ) → k < length l → p (get_or l k d) ≡ false) → count p l ≡ 0
  count_nowhere [] h = refl
  count_nowhere (x ∷ l) h = rw (h 0 (omega arith)) (count_nowhere l (λ k i. h (suc k) (omega arith)))

  count_lone :
      (l : List A) (j : ℕ) → j < length l → p (get_or l j d) ≡ true → ((k : ℕ) → k < length l → (k ≡ j → ⊥) → p (get_or l k d) ≡ false)
      → count p l ≡ 1
  count_lone [] j i q h = absurd (omega arith)
  count_lone (x ∷ l) zero i q h = rw q (ap suc (count_nowhere l (λ k m. h (suc k) (omega arith) (λ e. omega arith))))
  count_lone (x ∷ l) (suc j) i q h =
      rw (h 0 (omega arith) (λ e. omega arith)) (count_lone l j (omega arith) q (λ k m n. h (suc k) (omega arith) (λ e. n (omega arith))))

module _ (es : List Edge) (ni : thrice es ≡ false) (nr : alike es ≡ false) where
  abbrev edge : ℕ → Edge
  edge u = get_or es u nil

  edge_in : (u : ℕ) → u < length es → In (edge u) es
  edge_in u l = some_counted (same (edge u)) es (count_at (same (edge u)) nil es u l (same_refl (edge u)))

  -- two places, the first of them told first
  twins : (u v : ℕ) → u < v → v < length es → key (edge u) ≡ key (edge v) → (flip (edge u) ≡ edge v) × (2 ≤ uses (key (edge u)) es)
  twins u v l h q = (
    ⊎_elim
        (λ k.
        let c : 2 ≤ runs (edge u) es = count_two (same (edge u)) nil es u v l h (same_refl (edge u)) (same_of (edge u) (edge v) k) in
        let o : runs (edge u) es ≤ 1 = edges_once es ni nr (edge u) in
        absurd (omega arith))
        (λ k. k)
        (key_same (edge u) (edge v) q),
    count_two (λ e. same (key (edge u)) (key e)) nil es u v l h (same_refl (key (edge u))) (same_of (key (edge u)) (key (edge v)) q),
  )

  -- the other place of an edge has it the other way
  pub twin_place : (u v : ℕ) → u < length es → v < length es → (u ≡ v → ⊥) → key (edge u) ≡ key (edge v) → edge v ≡ flip (edge u)
  twin_place u v l h n q =
      by_cases (ltb u v)
      (λ p. sym (twins u v (ltb-true u v p) h q).0)
      (λ p.
      let g : v ≤ u = ltb-false u v p in
      let i : v < u = omega arith in
      ap flip (twins v u i l (sym q)).0)

  -- and then neither is a hem edge
  pub inner_place : (u v : ℕ) → u < length es → v < length es → (u ≡ v → ⊥) → key (edge u) ≡ key (edge v) → is_hem (hems es) (edge u) ≡ false
  inner_place u v l h n q =
      hem_used es ni nr (edge u) (edge_in u l) ∙ ne_eqb 1 (uses (key (edge u)) es) (λ e. two (omega arith))
    where
      two : uses (key (edge u)) es < 2 → ⊥
      two k =
          by_cases (ltb u v)
          (λ p. let c : _ = (twins u v (ltb-true u v p) h q).1 in omega arith)
          (λ p.
          let g : v ≤ u = ltb-false u v p in
          let i : v < u = omega arith in
          let c : 2 ≤ uses (key (edge v)) es = (twins v u i l (sym q)).1 in
          let c' : 2 ≤ uses (key (edge u)) es = rw q c in
          omega arith)

  -- a place whose edge no other place has is one of a hem edge
  pub hem_place :
      (u : ℕ) → u < length es → ((v : ℕ) → v < length es → (v ≡ u → ⊥) → key (edge u) ≡ key (edge v) → ⊥) → is_hem (hems es) (edge u) ≡ true
  hem_place u l n =
      hem_used es ni nr (edge u) (edge_in u l)
      ∙ eq-eqb 1 (uses (key (edge u)) es)
      (sym
      (count_lone (λ e. same (key (edge u)) (key e)) nil es u l (same_refl (key (edge u)))
      (λ v h w.
      by_cases (same (key (edge u)) (key (edge v))) (λ p. absurd (n v h w (same_true (key (edge u)) (key (edge v)) p))) (λ p. p))))

-- an edge stands at one place, so that places may be compared for edges
pub place_one :
    (es : List Edge) → Once es → (u v : ℕ) → u < length es → v < length es → get_or es u nil ≡ get_or es v nil → u ≡ v
place_one es o u v l h q =
    by_cases (ltb u v)
    (λ p.
    let c : 2 ≤ runs (get_or es u nil) es =
    count_two (same (get_or es u nil)) nil es u v (ltb-true u v p) h (same_refl (get_or es u nil)) (same_of (get_or es u nil) (get_or es v nil) q) in
    let b : runs (get_or es u nil) es ≤ 1 = o (get_or es u nil) in
    absurd (omega arith))
    (λ p.
    by_cases (ltb v u)
    (λ p'.
    let c : 2 ≤ runs (get_or es v nil) es =
    count_two (same (get_or es v nil)) nil es v u (ltb-true v u p') l (same_refl (get_or es v nil)) (same_of (get_or es v nil) (get_or es u nil) (sym q)) in
    let b : runs (get_or es v nil) es ≤ 1 = o (get_or es v nil) in
    absurd (omega arith))
    (λ p'. let a : v ≤ u = ltb-false u v p in let b : u ≤ v = ltb-false v u p' in omega arith))
