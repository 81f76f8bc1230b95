-- House wires do not depend on the order of faces, nor on where a face begins: a ring begun elsewhere has the same turns, each as
-- often, and what is looked up in a list where each edge begins one turn does not depend on the list's order. Assumes nothing.
use mathlib.Core.Path.{◌≡◌, refl, sym, ◌∙◌, fun_ext}
use mathlib.Core.Bool.{true, false}
use mathlib.Core.List.{List, [], ◌∷◌, ◌++◌, map, append_assoc, append-nil}
use Prim.Native.Nat.{ℕ, ◌≤◌}
use lib.ListN.{length}
use Rattle.lists.specs.Lists.{some}
use Rattle.lists.proofs.Bools.{by_cases, or_false_left, or_false_right}
use Rattle.lists.proofs.Counting.{count_all}
use Rattle.lists.proofs.Alike.{Alike, some_alike, some_map}
use Rattle.edges.specs.Edges.{Edge, same, run_edges, ring_edges, mesh_edges, verdict, hems}
use Rattle.edges.proofs.HemUses.{not_irregular, not_regular}
use Rattle.edges.proofs.Reordered.{hems_alike}
use Rattle.edges.proofs.Rings.{run_snoc}
use Rattle.turning.specs.Promise.{Fit}
use Rattle.turning.specs.Turning.{Turn, turns, next_in, onward_in, onward, trails_in, house_wires}
use Rattle.turning.proofs.Next.{Has, same_turn, begins, next_found, next_has, begins_runs}
use Rattle.turning.proofs.Crossing.{edges_once}
use Rattle.turning.proofs.Promised.{fit_irregular, fit_regular}
use Rattle.order.specs.Same.{Turned, Same, none, face, swap, then}
use Rattle.order.proofs.Turning.{Halves, halves, turn, turned_refl, turned_trans}
use Rattle.order.proofs.Counted.{same_count}

-- ---- the edges of a ring that is begun elsewhere are its edges, begun elsewhere

module _ {A : Type 0} where
  ring_next : (c : A) (r : List A) → Turned (ring_edges (c ∷ r)) (ring_edges (r ++ (c ∷ [])))
  ring_next c [] = turned_refl ((c, c) ∷ [])
  ring_next c (b ∷ r) = rw (run_snoc b r c b) (turn ((c, b) ∷ []) (run_edges b r c))

  ring_turned : (a b : List A) → Turned (ring_edges (a ++ b)) (ring_edges (b ++ a))
  ring_turned [] b = rw append-nil (turned_refl (ring_edges b))
  ring_turned (x ∷ a) b =
      turned_trans (ring_next x (a ++ b)) (rw (append_assoc a b (x ∷ [])) (rw (append_assoc b (x ∷ []) a) at (ring_turned a (b ++ (x ∷ [])))))

  halves_ring : {f g : List A} → Halves f g → Turned (ring_edges f) (ring_edges g)
  halves_ring h = rw (h.was, h.is) (ring_turned h.front h.rear)

  turned_ring : {f g : List A} → Turned f g → Turned (ring_edges f) (ring_edges g)
  turned_ring t = halves_ring (halves t)

  same_rings : {m n : List (List A)} → Same m n → Same (map ring_edges m) (map ring_edges n)
  same_rings none = none
  same_rings (face t s) = face (turned_ring t) (same_rings s)
  same_rings swap = swap
  same_rings (then s t) = then (same_rings s) (same_rings t)

-- ---- looking up

next_none : (ts : List Turn) (e : Edge) → some (λ t. same e t.0) ts ≡ false → next_in ts e ≡ e
next_none [] e n = refl
next_none (t ∷ ts) e n =
    rw (or_false_left (same e t.0) (some (λ u. same e u.0) ts) n)
    (next_none ts e (or_false_right (same e t.0) (some (λ u. same e u.0) ts) n))

pub next_alike : {ts us : List Turn} → Alike ts us → ((e : Edge) → begins e ts ≤ 1) → next_in ts ≡ next_in us
next_alike {ts} {us} h o =
    fun_ext
    (λ e.
    by_cases (some (λ t. same e t.0) ts)
    (λ p.
    let m : Has (e, next_in ts e) ts = next_has ts e (some_map (same e) (λ t. t.0) ts ∙ p) in
    sym
    (next_found us (e, next_in ts e) (rw (← h.agree (λ t. same e t.0)) (o e))
    (sym (some_alike (same_turn (e, next_in ts e)) h) ∙ m)))
    (λ p. next_none ts e p ∙ sym (next_none us e (sym (some_alike (λ t. same e t.0) h) ∙ p))))

-- ---- wires

module _ {m n : List (List ℕ)} (s : Same m n) (v : Fit (verdict (mesh_edges m))) where
  edges_alike : Alike (mesh_edges m) (mesh_edges n)
  edges_alike = record { agree = λ p. same_count p s }

  turns_alike : Alike (turns m) (turns n)
  turns_alike = record { agree = λ p. same_count p (same_rings s) }

  same_next : next_in (turns m) ≡ next_in (turns n)
  same_next =
      let ni : _ = not_irregular (mesh_edges m) (fit_irregular (verdict (mesh_edges m)) v) in
      let nr : _ = not_regular (mesh_edges m) (fit_irregular (verdict (mesh_edges m)) v) (fit_regular (verdict (mesh_edges m)) v) in
      next_alike turns_alike (λ e. rw (begins_runs m e) (edges_once (mesh_edges m) ni nr e))

  same_hems : hems (mesh_edges m) ≡ hems (mesh_edges n)
  same_hems = hems_alike edges_alike (not_irregular (mesh_edges m) (fit_irregular (verdict (mesh_edges m)) v))

  same_length : length (mesh_edges m) ≡ length (mesh_edges n)
  same_length = sym (count_all (mesh_edges m)) ∙ edges_alike.agree (λ e. true) ∙ count_all (mesh_edges n)

  same_onward : onward m ≡ onward n
  unfolding onward
  same_onward = λ i. onward_in (same_next i) (same_hems i) (same_length i)

  -- the same wires in the same order
  pub same_house : house_wires m ≡ house_wires n
  unfolding house_wires
  same_house = λ i. trails_in (same_onward i) (length (same_hems i)) (length (same_hems i)) (same_hems i)
