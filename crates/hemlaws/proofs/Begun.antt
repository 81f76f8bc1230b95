-- A ring begun elsewhere has the same edges, begun elsewhere: as many of them pass any test, and what is added up over them adds up to the
-- same. Assumes nothing.
use mathlib.Core.Path.{◌≡◌, sym, ap, ◌∙◌}
use mathlib.Core.Bool.{Bool}
use mathlib.Core.List.{List, [], ◌∷◌, ◌++◌, map, map-append, append_assoc, append-nil}
use Prim.Native.Nat.{ℕ, ◌+◌}
use native.Mathlib.Omega.{arith}
use lib.ListN.{length}
use Rattle.lists.specs.Lists.{count, sum}
use Rattle.lists.proofs.Counting.{count_append}
use Rattle.lists.proofs.Parts.{sum_append, sum_ones}
use Rattle.edges.specs.Edges.{run_edges, ring_edges}
use Rattle.edges.proofs.Rings.{run_snoc}
use Rattle.order.specs.Same.{Turned}
use Rattle.order.proofs.Turning.{Halves, halves, turn, turned_refl, turned_trans}

module _ {A : Type 0} where
  ring_next : (c : A) (r : List A) → Turned (ring_edges (c ∷ r)) (ring_edges (r ++ (c ∷ [])))
  ring_next c [] = turned_refl ((c, c) ∷ [])
  ring_next c (b ∷ r) = rw (run_snoc b r c b) (turn ((c, b) ∷ []) (run_edges b r c))

  ring_parts : (a b : List A) → Turned (ring_edges (a ++ b)) (ring_edges (b ++ a))
  ring_parts [] b = rw append-nil (turned_refl (ring_edges b))
  ring_parts (x ∷ a) b =
      turned_trans (ring_next x (a ++ b)) (rw (append_assoc a b (x ∷ [])) (rw (append_assoc b (x ∷ []) a) at (ring_parts a (b ++ (x ∷ [])))))

  halves_ring : {f g : List A} → Halves f g → Turned (ring_edges f) (ring_edges g)
  halves_ring h = rw (h.was, h.is) (ring_parts h.front h.rear)

  pub turned_ring : {f g : List A} → Turned f g → Turned (ring_edges f) (ring_edges g)
  turned_ring t = halves_ring (halves t)

  pub count_turned : (p : A → Bool) {l m : List A} → Turned l m → count p m ≡ count p l
  count_turned p {l} {m} t =
      let h : Halves l m = halves t in
      let a : count p m ≡ count p h.rear + count p h.front = ap (count p) h.is ∙ count_append p h.rear h.front in
      let b : count p l ≡ count p h.front + count p h.rear = ap (count p) h.was ∙ count_append p h.front h.rear in
      omega arith

module _ {A : Type 0} (f : A → ℕ) where
  sum_parts : (a b : List A) → sum (map f (a ++ b)) ≡ sum (map f a) + sum (map f b)
  sum_parts a b = ap sum (map-append f a b) ∙ sum_append (map f a) (map f b)

  pub sum_turned : {l m : List A} → Turned l m → sum (map f m) ≡ sum (map f l)
  sum_turned {l} {m} t =
      let h : Halves l m = halves t in
      let a : sum (map f m) ≡ sum (map f h.rear) + sum (map f h.front) =
      ap (λ (k : List A). sum (map f k)) h.is ∙ sum_parts h.rear h.front in
      let b : sum (map f l) ≡ sum (map f h.front) + sum (map f h.rear) =
      ap (λ (k : List A). sum (map f k)) h.was ∙ sum_parts h.front h.rear in
      omega arith

pub length_turned : {A : Type 0} {l m : List A} → Turned l m → length m ≡ length l
length_turned {A} {l} {m} t = sym (sum_ones m) ∙ sum_turned (λ x. 1) t ∙ sum_ones l
