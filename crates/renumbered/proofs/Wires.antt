-- The house wires of renumbered faces are the renumbered wires, up to where each begins and in which order they stand: the two are cuts of
-- the same edges by the same function, and there is one such cut. Assumes nothing.
use mathlib.Core.Path.{◌≡◌, refl, sym, ap, ◌∙◌, subst}
use mathlib.Core.Bool.{Bool, true, false, not}
use mathlib.Core.List.{List, [], ◌∷◌, map}
use Prim.Native.Nat.{ℕ}
use Rattle.lists.specs.Lists.{has, some, every, count, joined}
use Rattle.lists.proofs.Bools.{and_both, and_left, and_right, or_left, or_right}
use Rattle.lists.proofs.Counting.{count_map}
use Rattle.lists.proofs.Mapping.{every_map}
use Rattle.lists.proofs.Others.{has_every}
use Rattle.lists.proofs.Parts.{every_joined}
use Rattle.edges.specs.Edges.{Edge, same, ring_edges, mesh_edges, thrice, alike, verdict, hems}
use Rattle.edges.proofs.SameEdge.{same_true, same_refl, same_of}
use Rattle.edges.proofs.HemUses.{not_irregular, not_regular}
use Rattle.turning.specs.Turning.{Turn, turns, is_hem, onward, house_wires}
use Rattle.turning.specs.Promise.{Fit}
use Rattle.turning.proofs.Edgewise.{edges_changed, edges_pass}
use Rattle.turning.proofs.Rounds.{In}
use Rattle.turning.proofs.Next.{turns_firsts}
use Rattle.turning.proofs.Crossing.{hem_edge, hems_once}
use Rattle.turning.proofs.Closing.{follows, Used, turned_used}
use Rattle.turning.proofs.Promised.{fit_irregular, fit_regular}
use Rattle.order.specs.Same.{Same}
use Rattle.order.proofs.Matched.{same_map}
use Rattle.renumbered.specs.Renumbered.{OneToOne, moved}
use Rattle.renumbered.proofs.Moved.{between, verdict_moved}
use Rattle.renumbered.proofs.Hems.{every_member, hems_are_moved}
use Rattle.renumbered.proofs.Cuts.{cuts_same, every_counted, counted_every}
use Rattle.renumbered.proofs.Followed.{moved_turn, turns_moved, onward_moved}
use Rattle.renumbered.proofs.Filled.{full_wires, full_rings, full_map, joined_rings, starts}

-- ---- tests of members

every_of : (p : Edge → Bool) (l : List Edge) → ((e : Edge) → In e l → p e ≡ true) → every p l ≡ true
every_of p [] h = refl
every_of p (x ∷ l) h =
    and_both (p x) (every p l) (h x (or_left (same x x) (some (same x) l) (same_refl x)))
    (every_of p l (λ e m. h e (or_right (same e x) (some (same e) l) m)))

every_both : {A : Type 0} (p q r : A → Bool) → ((x : A) → p x ≡ true → q x ≡ true → r x ≡ true)
    → (l : List A) → every p l ≡ true → every q l ≡ true → every r l ≡ true
every_both p q r f [] h k = refl
every_both p q r f (x ∷ l) h k =
    and_both (r x) (every r l) (f x (and_left (p x) (every p l) h) (and_left (q x) (every q l) k))
    (every_both p q r f l (and_right (p x) (every p l) h) (and_right (q x) (every q l) k))

pub inside : (fs : List (List ℕ)) → every (every (λ x. has x (joined fs))) fs ≡ true
inside fs = sym (every_joined (λ x. has x (joined fs)) fs) ∙ has_every (λ x. has x (joined fs)) (joined fs) (λ x k. k)

module _ (g : ℕ → ℕ) (fs : List (List ℕ)) (one : OneToOne g (joined fs)) (v : Fit (verdict (mesh_edges fs))) where
  abbrev G : List (List ℕ)
  G = map (map (λ i. g i)) fs

  abbrev ps : List ℕ
  ps = joined fs

  abbrev H : List Edge
  H = hems (mesh_edges fs)

  used_between : every (between ps) (mesh_edges fs) ≡ true
  used_between = edges_pass (λ x. has x ps) fs (inside fs)

  pub one_verdict : verdict (mesh_edges G) ≡ verdict (mesh_edges fs)
  one_verdict = ap verdict (edges_changed (λ i. g i) fs) ∙ verdict_moved g ps one (mesh_edges fs) used_between

  fit : Fit (verdict (mesh_edges G))
  fit = subst Fit (sym one_verdict) v

  ni : thrice (mesh_edges fs) ≡ false
  ni = not_irregular (mesh_edges fs) (fit_irregular (verdict (mesh_edges fs)) v)

  nr : alike (mesh_edges fs) ≡ false
  nr = not_regular (mesh_edges fs) (fit_irregular (verdict (mesh_edges fs)) v) (fit_regular (verdict (mesh_edges fs)) v)

  ni' : thrice (mesh_edges G) ≡ false
  ni' = not_irregular (mesh_edges G) (fit_irregular (verdict (mesh_edges G)) fit)

  nr' : alike (mesh_edges G) ≡ false
  nr' = not_regular (mesh_edges G) (fit_irregular (verdict (mesh_edges G)) fit) (fit_regular (verdict (mesh_edges G)) fit)

  edge_between : (e : Edge) → In e (mesh_edges fs) → between ps e ≡ true
  edge_between e m = every_member (between ps) e (mesh_edges fs) used_between m

  pub hem_between : (e : Edge) → In e H → between ps e ≡ true
  hem_between e m = edge_between e (hem_edge (mesh_edges fs) ni nr e m)

  hems_alike : (p : Edge → Bool) → count p (map (moved g) H) ≡ count p (hems (mesh_edges G))
  hems_alike p =
      sym ((hems_are_moved g ps one (mesh_edges fs) used_between).agree p)
      ∙ ap (λ (es : List Edge). count p (hems es)) (sym (edges_changed (λ i. g i) fs))

  -- ---- the same wires

  abbrev ws : List (List ℕ)
  ws = house_wires fs

  abbrev xs : List (List ℕ)
  xs = map (map (λ i. g i)) ws

  used : Used (onward fs) H ws
  used = turned_used fs (fit_irregular (verdict (mesh_edges fs)) v) (fit_regular (verdict (mesh_edges fs)) v)

  used' : Used (onward G) (hems (mesh_edges G)) (house_wires G)
  used' = turned_used G (fit_irregular (verdict (mesh_edges G)) fit) (fit_regular (verdict (mesh_edges G)) fit)

  pub goes_on : (e : Edge) → In e H → onward G (moved g e) ≡ moved g (onward fs e)
  goes_on e m = onward_moved g ps one fs (inside fs) e (hem_between e m)

  -- the edges of the wires are hem edges
  of_hems : every (is_hem H) (mesh_edges ws) ≡ true
  of_hems =
      counted_every (is_hem H) (mesh_edges ws)
      (used.all (λ e. not (is_hem H e)) ∙ every_counted (is_hem H) H (every_of (is_hem H) H (λ e m. m)))

  pub wires_between : every (between ps) (mesh_edges ws) ≡ true
  wires_between =
      every_of (between ps) (mesh_edges ws) (λ e m. hem_between e (every_member (is_hem H) e (mesh_edges ws) of_hems m))

  firsts_hems : every (λ (t : Turn). is_hem H t.0) (turns ws) ≡ true
  firsts_hems =
      sym (every_map (λ (t : Turn). t.0) (is_hem H) (turns ws)) ∙ ap (every (is_hem H)) (turns_firsts ws) ∙ of_hems

  turns_follow : every (follows (onward G)) (turns xs) ≡ true
  turns_follow =
      ap (every (follows (onward G))) (turns_moved g ws)
      ∙ every_map (moved_turn g) (follows (onward G)) (turns ws)
      ∙ every_both (λ (t : Turn). is_hem H t.0) (follows (onward fs)) (λ (t : Turn). follows (onward G) (moved_turn g t))
      (λ t m q.
      same_of (onward G (moved g t.0)) (moved g t.1)
      (goes_on t.0 m ∙ ap (moved g) (same_true (onward fs t.0) t.1 q)))
      (turns ws) firsts_hems used.follow

  counted : (p : Edge → Bool) → count p (joined (map ring_edges xs)) ≡ count p (hems (mesh_edges G))
  counted p =
      ap (count p) (joined_rings xs ∙ edges_changed (λ i. g i) ws)
      ∙ count_map p (moved g) (mesh_edges ws)
      ∙ used.all (λ e. p (moved g e))
      ∙ sym (count_map p (moved g) H)
      ∙ hems_alike p

  pub wires_same : Same xs (house_wires G)
  wires_same =
      subst (λ l. Same l (house_wires G)) (starts xs)
      (subst (λ l. Same (map (map (λ (e : Edge). e.0)) (map ring_edges xs)) l) (starts (house_wires G))
      (same_map (λ (e : Edge). e.0)
      (cuts_same (onward G) (map ring_edges xs) (map ring_edges (house_wires G))
      (record { filled = full_rings xs (full_map g ws ∙ full_wires fs); follow = turns_follow })
      (record { filled = full_rings (house_wires G) (full_wires G); follow = used'.follow })
      (λ p. counted p ∙ sym (used'.all p) ∙ sym (ap (count p) (joined_rings (house_wires G))))
      (λ d. rw (counted (same d)) (hems_once (mesh_edges G) ni' nr' d)))))
