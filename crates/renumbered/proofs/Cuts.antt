-- There is one way to cut edges into rings in which each edge is what follows the one before: two such cuts of the same edges, each
-- edge once, have the same rings, up to where each begins and in which order they stand. Assumes nothing.
use mathlib.Core.Path.{◌≡◌, refl, sym, ap, ◌∙◌}
use mathlib.Core.Logic.{⊎_elim}
use mathlib.Core.Bool.{Bool, true, false, not, ◌&&◌, ◌||◌}
use mathlib.Core.List.{List, [], ◌∷◌, ◌++◌, append-nil}
use Prim.Native.Nat.{suc, ◌+◌, ◌≤◌, ◌<◌}
use native.Mathlib.Omega.{arith}
use Rattle.lists.specs.Lists.{bump, count, some, every, joined}
use Rattle.lists.proofs.Bools.{by_cases, and_left, and_right, or_false_left, or_false_right}
use Rattle.lists.proofs.Counting.{clash, or_either, count_append, count_some, some_counted}
use Rattle.lists.proofs.Parts.{some_append, every_append}
use Rattle.edges.specs.Edges.{Edge, same, runs, run_edges, ring_edges, mesh_edges}
use Rattle.edges.proofs.SameEdge.{same_true, same_refl, same_of}
use Rattle.order.specs.Same.{Same, none, face, swap, then}
use Rattle.order.proofs.Turning.{Halves, halves, turned, turned_refl}
use Rattle.order.proofs.Matched.{same_refl as faces-refl, same_sym}
use Rattle.order.proofs.Counted.{same_count}
use Rattle.turning.proofs.Rounds.{In, Once}
use Rattle.turning.proofs.Closing.{follows}

-- ---- an edge of some ring, brought to the front

pub record Parted (e : Edge) (l : List Edge) : Type 0 where
  pub front : List Edge
  pub rear : List Edge
  pub is : l ≡ front ++ (e ∷ rear)

parted : (e : Edge) (l : List Edge) → In e l → Parted e l
parted e [] m = clash m refl
parted e (x ∷ l) m =
    ⊎_elim
    (λ p. record { front = []; rear = l; is = ap (λ (y : Edge). y ∷ l) (sym (same_true e x p)) })
    (λ p. let r : Parted e l = parted e l p in record { front = x ∷ r.front; rear = r.rear; is = ap (λ (t : List Edge). x ∷ t) r.is })
    (or_either (same e x) (some (same e) l) m)

pub record Front (e : Edge) (vs : List (List Edge)) : Type 0 where
  pub rest : List Edge
  pub others : List (List Edge)
  pub brought : Same vs ((e ∷ rest) ∷ others)

bring : (e : Edge) (vs : List (List Edge)) → In e (joined vs) → Front e vs
bring e [] m = clash m refl
bring e (v ∷ vs) m =
    ⊎_elim
    (λ p.
    let r : Parted e v = parted e v p in
    record {
      rest = r.rear ++ r.front;
      others = vs;
      brought =
          face (turned (record { front = r.front; rear = e ∷ r.rear; was = r.is; is = refl })) (faces-refl vs);
    })
    (λ p.
    let r : Front e vs = bring e vs p in
    record { rest = r.rest; others = v ∷ r.others; brought = then (face (turned_refl v) r.brought) swap })
    (or_either (some (same e) v) (some (same e) (joined vs)) (sym (some_append (same e) v (joined vs)) ∙ m))

-- ---- what rings keep that are begun elsewhere, and put in another order

joined_count : (p : Edge → Bool) {m n : List (List Edge)} → Same m n → count p (joined m) ≡ count p (joined n)
joined_count p none = refl
joined_count p (face {f = f} {g = g} {m = m} {n = n} t s) =
    let h : Halves f g = halves t in
    let a : count p (f ++ joined m) ≡ count p f + count p (joined m) = count_append p f (joined m) in
    let b : count p (g ++ joined n) ≡ count p g + count p (joined n) = count_append p g (joined n) in
    let c : count p f ≡ count p h.front + count p h.rear = ap (count p) h.was ∙ count_append p h.front h.rear in
    let d : count p g ≡ count p h.rear + count p h.front = ap (count p) h.is ∙ count_append p h.rear h.front in
    let k : count p (joined m) ≡ count p (joined n) = joined_count p s in
    omega arith
joined_count p swap = simp count_append (omega arith)
joined_count p (then s t) = joined_count p s ∙ joined_count p t

-- a ring that is not empty
abbrev pub full : {A : Type 0} → List A → Bool
full [] = false
full (x ∷ l) = true

full_append : (a b : List Edge) → full (a ++ b) ≡ (full a || full b)
full_append [] b = refl
full_append (x ∷ a) b = refl

or_swap : (a b : Bool) → (a || b) ≡ (b || a)
or_swap true true = refl
or_swap true false = refl
or_swap false true = refl
or_swap false false = refl

and_swap : (a b c : Bool) → (a && (b && c)) ≡ (b && (a && c))
and_swap true true c = refl
and_swap true false c = refl
and_swap false true c = refl
and_swap false false c = refl

same_full : {m n : List (List Edge)} → Same m n → every full m ≡ every full n
same_full none = refl
same_full (face {f = f} {g = g} {m = m} {n = n} t s) =
    let h : Halves f g = halves t in
    let e : full f ≡ full g =
    ap full h.was ∙ full_append h.front h.rear ∙ or_swap (full h.front) (full h.rear)
    ∙ sym (full_append h.rear h.front) ∙ sym (ap full h.is) in
    λ i. e i && same_full s i
same_full (swap {f = f} {g = g} {m = m}) = and_swap (full f) (full g) (every full m)
same_full (then s t) = same_full s ∙ same_full t

-- a test that every element passes fails nowhere
pub every_counted : {A : Type 0} (p : A → Bool) (l : List A) → every p l ≡ true → count (λ x. not (p x)) l ≡ 0
every_counted p [] h = refl
every_counted p (x ∷ l) h =
    ap (λ (b : Bool). bump (not b) (count (λ y. not (p y)) l)) (and_left (p x) (every p l) h)
    ∙ every_counted p l (and_right (p x) (every p l) h)

pub counted_every : {A : Type 0} (p : A → Bool) (l : List A) → count (λ x. not (p x)) l ≡ 0 → every p l ≡ true
counted_every p [] h = refl
counted_every p (x ∷ l) h = go (p x) h (counted_every p l)
  where
    go :
        (b : Bool) → bump (not b) (count (λ y. not (p y)) l) ≡ 0 → (count (λ y. not (p y)) l ≡ 0 → every p l ≡ true)
        → (b && every p l) ≡ true
    go true q ih = ih q
    go false q ih = absurd (omega arith)

same_every : {A : Type 0} (p : A × A → Bool) {m n : List (List A)} → Same m n → every p (mesh_edges m) ≡ true → every p (mesh_edges n) ≡ true
same_every p {m} {n} s h =
    counted_every p (mesh_edges n) (sym (same_count (λ x. not (p x)) s) ∙ every_counted p (mesh_edges m) h)

-- ---- one way to go round

module _ (on : Edge → Edge) where
  -- from two edges that are one to the first z: the same edges between
  run_same :
      (z a b : Edge) (r s : List Edge) → a ≡ b → some (same z) r ≡ false → some (same z) s ≡ false
      → every (follows on) (run_edges a r z) ≡ true → every (follows on) (run_edges b s z) ≡ true → r ≡ s
  run_same z a b [] [] q n k f g = refl
  run_same z a b [] (y ∷ s) q n k f g =
      let u : on a ≡ z = same_true (on a) z (and_left (same (on a) z) true f) in
      let v : on b ≡ y = same_true (on b) y (and_left (same (on b) y) (every (follows on) (run_edges y s z)) g) in
      clash (same_of z y (sym u ∙ ap on q ∙ v)) (or_false_left (same z y) (some (same z) s) k)
  run_same z a b (x ∷ r) [] q n k f g =
      let u : on a ≡ x = same_true (on a) x (and_left (same (on a) x) (every (follows on) (run_edges x r z)) f) in
      let v : on b ≡ z = same_true (on b) z (and_left (same (on b) z) true g) in
      clash (same_of z x (sym v ∙ ap on (sym q) ∙ u)) (or_false_left (same z x) (some (same z) r) n)
  run_same z a b (x ∷ r) (y ∷ s) q n k f g =
      let u : on a ≡ x = same_true (on a) x (and_left (same (on a) x) (every (follows on) (run_edges x r z)) f) in
      let v : on b ≡ y = same_true (on b) y (and_left (same (on b) y) (every (follows on) (run_edges y s z)) g) in
      let w : x ≡ y = sym u ∙ ap on q ∙ v in
      let t : r ≡ s =
      run_same z x y r s w (or_false_right (same z x) (some (same z) r) n) (or_false_right (same z y) (some (same z) s) k)
      (and_right (same (on a) x) (every (follows on) (run_edges x r z)) f)
      (and_right (same (on b) y) (every (follows on) (run_edges y s z)) g) in
      λ i. w i ∷ t i

  -- rings of edges, none of them empty, in which every edge is what follows the one before, and the first what follows the last
  pub record Cut (ws : List (List Edge)) : Type 0 where
    pub filled : every full ws ≡ true
    pub follow : every (follows on) (mesh_edges ws) ≡ true

  -- an edge that stands once stands nowhere behind itself
  head_once : (e : Edge) (r : List Edge) (ws : List (List Edge)) → Once (joined ((e ∷ r) ∷ ws)) → some (same e) r ≡ false
  head_once e r ws o =
      by_cases (some (same e) r)
      (λ p.
      let a : runs e (e ∷ r ++ joined ws) ≤ 1 = o e in
      let b : suc (runs e (r ++ joined ws)) ≤ 1 = rw (same_refl e) at a in
      let c : runs e (r ++ joined ws) ≡ runs e r + runs e (joined ws) = count_append (same e) r (joined ws) in
      let d : 0 < runs e r = count_some (same e) r p in
      absurd (omega arith))
      (λ p. p)

  pub cuts_same :
      (ws vs : List (List Edge)) → Cut ws → Cut vs → ((p : Edge → Bool) → count p (joined ws) ≡ count p (joined vs))
      → Once (joined ws) → Same ws vs
  cuts_same [] [] c d h o = none
  cuts_same [] ([] ∷ vs) c d h o = clash d.filled refl
  cuts_same [] ((x ∷ v) ∷ vs) c d h o =
      absurd (let z : 0 ≡ suc (count (λ y. true) (v ++ joined vs)) = h (λ y. true) in omega arith)
  cuts_same ([] ∷ ws) vs c d h o = clash c.filled refl
  cuts_same ((e ∷ r) ∷ ws) vs c d h o = go (cuts_same ws)
    where
      m : In e (joined vs)
      m =
          let k : bump (same e e) (runs e (r ++ joined ws)) ≡ runs e (joined vs) = h (same e) in
          let k' : suc (runs e (r ++ joined ws)) ≡ runs e (joined vs) = rw (same_refl e) at k in
          some_counted (same e) (joined vs) (omega arith)

      b : Front e vs
      b = bring e vs m

      rest : (p : Edge → Bool) → count p (joined ((e ∷ r) ∷ ws)) ≡ count p (joined ((e ∷ b.rest) ∷ b.others))
      rest p = h p ∙ joined_count p b.brought

      goes : every (follows on) (mesh_edges ((e ∷ b.rest) ∷ b.others)) ≡ true
      goes = same_every (follows on) b.brought d.follow

      parts : (l : List Edge) (ls : List (List Edge)) → every (follows on) (mesh_edges (l ∷ ls)) ≡ true
          → (every (follows on) (ring_edges l) && every (follows on) (mesh_edges ls)) ≡ true
      parts l ls q = sym (every_append (follows on) (ring_edges l) (mesh_edges ls)) ∙ q

      one : r ≡ b.rest
      one =
          run_same e e e r b.rest refl (head_once e r ws o)
          (head_once e b.rest b.others (λ x. rw (← rest (same x)) (o x)))
          (and_left (every (follows on) (ring_edges (e ∷ r))) (every (follows on) (mesh_edges ws)) (parts (e ∷ r) ws c.follow))
          (and_left (every (follows on) (ring_edges (e ∷ b.rest))) (every (follows on) (mesh_edges b.others)) (parts (e ∷ b.rest) b.others goes))

      left : (p : Edge → Bool) → count p (joined ws) ≡ count p (joined b.others)
      left p =
          let u : count p ((e ∷ r) ++ joined ws) ≡ count p (e ∷ r) + count p (joined ws) = count_append p (e ∷ r) (joined ws) in
          let v : count p ((e ∷ b.rest) ++ joined b.others) ≡ count p (e ∷ b.rest) + count p (joined b.others) =
          count_append p (e ∷ b.rest) (joined b.others) in
          let w : count p (e ∷ r) ≡ count p (e ∷ b.rest) = ap (λ (l : List Edge). count p (e ∷ l)) one in
          let x : count p ((e ∷ r) ++ joined ws) ≡ count p ((e ∷ b.rest) ++ joined b.others) = rest p in
          omega arith

      go :
          ((us : List (List Edge)) → Cut ws → Cut us → ((p : Edge → Bool) → count p (joined ws) ≡ count p (joined us))
          → Once (joined ws) → Same ws us)
          → Same ((e ∷ r) ∷ ws) vs
      go ih =
          then
          (face (turned (record { front = []; rear = e ∷ r; was = refl; is = ap (λ (l : List Edge). e ∷ l) (sym one ∙ sym (append-nil r)) }))
          (ih b.others
          (record {
            filled = c.filled;
            follow =
                and_right (every (follows on) (ring_edges (e ∷ r))) (every (follows on) (mesh_edges ws)) (parts (e ∷ r) ws c.follow);
          })
          (record {
            filled = sym (same_full b.brought) ∙ d.filled;
            follow =
                and_right (every (follows on) (ring_edges (e ∷ b.rest))) (every (follows on) (mesh_edges b.others))
                (parts (e ∷ b.rest) b.others goes);
          })
          left
          (λ x.
          let u : runs x ((e ∷ r) ++ joined ws) ≡ runs x (e ∷ r) + runs x (joined ws) = count_append (same x) (e ∷ r) (joined ws) in
          let v : runs x ((e ∷ r) ++ joined ws) ≤ 1 = o x in
          omega arith)))
          (same_sym b.brought)
