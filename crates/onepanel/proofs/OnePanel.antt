-- All edges of one wire lie in faces of one panel, without the normals setting: the next edge is in the same face, the edge that is
-- crossed has the same key on both sides, and so has an edge wherever it is used. Assumes nothing.
use mathlib.Core.Path.{◌≡◌, refl, sym, ap, ◌∙◌, subst}
use mathlib.Core.Logic.{⊎_elim}
use mathlib.Core.Bool.{Bool, true, false}
use mathlib.Core.List.{List, [], ◌∷◌, map}
use Prim.Native.Nat.{ℕ, zero, suc}
use lib.ListN.{get_or}
use Rattle.lists.specs.Lists.{some, every}
use Rattle.lists.proofs.Bools.{and_left, and_right, or_left, or_right}
use Rattle.lists.proofs.Counting.{clash, or_either, pos, some_count}
use Rattle.lists.proofs.Chains.{Reach, reach_one, reach_trans, reach_sym}
use Rattle.lists.proofs.Parts.{every_append, some_append}
use Rattle.mesh.specs.Mesh.{Ring, position}
use Rattle.edges.specs.Edges.{Edge, same, flip, run_edges, ring_edges, mesh_edges, edges_of, thrice, alike, verdict, hems}
use Rattle.edges.proofs.SameEdge.{same_true, same_refl}
use Rattle.edges.proofs.HemUses.{not_irregular, not_regular}
use Rattle.turning.specs.Promise.{Fit}
use Rattle.turning.specs.Turning.{Turn, turns, next_in, onward, house_wires_of}
use Rattle.turning.proofs.Rounds.{In}
use Rattle.turning.proofs.Next.{next_turn}
use Rattle.turning.proofs.Crossing.{hem_edge, twin}
use Rattle.turning.proofs.Onward.{Crossed, here, cross, next_in_lem, onward_crossed}
use Rattle.turning.proofs.Closing.{follows, every_hem_once, every_hem_follows}
use Rattle.turning.proofs.Promised.{fit_irregular, fit_regular}
use Rattle.panels.specs.Promises.{key_in, Share}
use Rattle.panels.proofs.Sharing.{key_below}
use Rattle.panels.proofs.Panelled.{share_together}
use Rattle.onepanel.specs.Promise.{Owns, OnePanel}
use Rattle.onepanel.proofs.Owning.{bare_key, bare_flip, owns_key, turn_owned}

-- ---- of all faces, and of one

some_face : (p : Edge → Bool) (ws : List (List ℕ)) (k : ℕ) → some p (ring_edges (get_or ws k [])) ≡ true → some p (mesh_edges ws) ≡ true
some_face p [] k m = clash m refl
some_face p (w ∷ ws) zero m = some_append p (ring_edges w) (mesh_edges ws) ∙ or_left (some p (ring_edges w)) (some p (mesh_edges ws)) m
some_face p (w ∷ ws) (suc k) m =
    some_append p (ring_edges w) (mesh_edges ws) ∙ or_right (some p (ring_edges w)) (some p (mesh_edges ws)) (some_face p ws k m)

every_face : (p : Turn → Bool) (ws : List (List ℕ)) (k : ℕ) → every p (turns ws) ≡ true → every p (ring_edges (ring_edges (get_or ws k []))) ≡ true
every_face p [] k h = refl
every_face p (w ∷ ws) zero h =
    and_left (every p (ring_edges (ring_edges w))) (every p (turns ws)) (sym (every_append p (ring_edges (ring_edges w)) (turns ws)) ∙ h)
every_face p (w ∷ ws) (suc k) h =
    every_face p ws k
    (and_right (every p (ring_edges (ring_edges w))) (every p (turns ws)) (sym (every_append p (ring_edges (ring_edges w)) (turns ws)) ∙ h))

-- ---- edges whose faces are connected

module _ (fs : List Ring) where
  -- wherever d is used and wherever e is, a chain of faces that share an edge leads from the one face to the other
  abbrev pub Near : Edge → Edge → Type 0
  Near d e = (x y : ℕ) → Owns fs x d → Owns fs y e → Reach (Share false fs) x y

  share_sym : (x y : ℕ) → Share false fs x y → Share false fs y x
  share_sym x y s = (s.0, s.2, s.1)

  near_self : (d : Edge) → Near d d
  near_self d x y p q = reach_one (bare_key d, owns_key fs x d p, owns_key fs y d q)

  near_flip : (d : Edge) → Near d (flip d)
  near_flip d x y p q = reach_one (bare_key d, owns_key fs x d p, ap (λ k. key_in false fs y k) (sym (bare_flip d)) ∙ owns_key fs y (flip d) q)

  near_sym : (d e : Edge) → Near d e → Near e d
  near_sym d e n x y p q = reach_sym share_sym (n y x q p)

  abbrev es : List Edge
  es = edges_of fs

  abbrev next : Edge → Edge
  next = next_in (turns (map (map position) fs))

  next_owned : (d : Edge) → In d es → (x : ℕ) × Owns fs x d × Owns fs x (next d)
  next_owned d m = turn_owned fs (d, next d) (next_turn (map (map position) fs) d m)

  near_trans : (a b c : Edge) → In b es → Near a b → Near b c → Near a c
  near_trans a b c m p q x y o o' =
      let z : (x : ℕ) × Owns fs x b × Owns fs x (next b) = next_owned b m in
      reach_trans (p x z.0 o z.1) (q z.0 y z.1 o')

  near_next : (d : Edge) → In d es → Near d (next d)
  near_next d m x y o o' =
      let z : (x : ℕ) × Owns fs x d × Owns fs x (next d) = next_owned d m in
      reach_trans (near_self d x z.0 o z.1) (near_self (next d) z.0 y z.2 o')

  module _ (v : Fit (verdict (edges_of fs))) where
    abbrev H : List Edge
    H = hems es

    ni : thrice es ≡ false
    ni = not_irregular es (fit_irregular (verdict es) v)

    nr : alike es ≡ false
    nr = not_regular es (fit_irregular (verdict es) v) (fit_regular (verdict es) v)

    crossed_near : {a c : Edge} → Crossed next H es a c → Near a c
    crossed_near {a} (here p) = subst (Near a) p (near_self a)
    crossed_near {a} {c} (cross {b = b} r q m p) =
        near_trans a b c m (crossed_near r)
        (subst (Near b) p
        (near_trans b (flip b) (next (flip b)) (twin es ni nr b m q) (near_flip b) (near_next (flip b) (twin es ni nr b m q))))

    pub onward_near : (e : Edge) → In e H → Near e (onward (map (map position) fs) e)
    onward_near e m =
        let k : In e es = hem_edge es ni nr e m in
        near_trans e (next e) (onward (map (map position) fs) e) (next_in_lem (map (map position) fs) ni nr e k) (near_next e k)
        (crossed_near (onward_crossed (map (map position) fs) ni nr e m))

    -- ---- along a wire

    abbrev ws : List (List ℕ)
    ws = house_wires_of fs

    -- from its first edge f to each of its edges
    along :
        (f a : Edge) (l : List Edge) (z : Edge) → Near f a → ((d : Edge) → In d (a ∷ l) → In d H)
        → every (follows (onward (map (map position) fs))) (run_edges a l z) ≡ true → (d : Edge) → In d (a ∷ l) → Near f d
    along f a [] z n i w d m =
        ⊎_elim (λ p. subst (Near f) (sym (same_true d a p)) n) (λ p. clash p refl) (or_either (same d a) false m)
    along f a (b ∷ l) z n i w d m =
        let o : Edge = onward (map (map position) fs) a in
        let h : In a H = i a (or_left (same a a) (some (same a) (b ∷ l)) (same_refl a)) in
        let q : o ≡ b = same_true o b (and_left (same o b) (every (follows (onward (map (map position) fs))) (run_edges b l z)) w) in
        let k : Near f b = near_trans f a b (hem_edge es ni nr a h) n (subst (Near a) q (onward_near a h)) in
        ⊎_elim
        (λ p. subst (Near f) (sym (same_true d a p)) n)
        (along f b l z k (λ c g. i c (or_right (same c a) (some (same c) (b ∷ l)) g))
        (and_right (same o b) (every (follows (onward (map (map position) fs))) (run_edges b l z)) w) d)
        (or_either (same d a) (some (same d) (b ∷ l)) m)

    around :
        (l : List Edge) → ((d : Edge) → In d l → In d H) → every (follows (onward (map (map position) fs))) (ring_edges l) ≡ true
        → (d e : Edge) → In d l → In e l → Near d e
    around [] i w d e m k = clash m refl
    around (f ∷ l) i w d e m k =
        let near : (c : Edge) → In c (f ∷ l) → Near f c = along f f l f (near_self f) i w in
        near_trans d f e (hem_edge es ni nr f (i f (or_left (same f f) (some (same f) l) (same_refl f))))
        (near_sym f d (near d m)) (near e k)

    -- wire k
    pub wire_hems : (k : ℕ) (d : Edge) → In d (ring_edges (get_or ws k [])) → In d H
    wire_hems k d m =
        some_count (same d) H
        ∙ ap pos (sym (every_hem_once (map (map position) fs) (fit_irregular (verdict es) v) (fit_regular (verdict es) v) (same d)))
        ∙ sym (some_count (same d) (mesh_edges ws))
        ∙ some_face (same d) ws k m

    wire_follows : (k : ℕ) → every (follows (onward (map (map position) fs))) (ring_edges (ring_edges (get_or ws k []))) ≡ true
    wire_follows k =
        every_face (follows (onward (map (map position) fs))) ws k
        (every_hem_follows (map (map position) fs) (fit_irregular (verdict es) v) (fit_regular (verdict es) v))

    -- wherever two edges of one wire are used, a chain of faces leads from the one to the other
    wire_near : (k : ℕ) (d e : Edge) → In d (ring_edges (get_or ws k [])) → In e (ring_edges (get_or ws k [])) → Near d e
    wire_near k = around (ring_edges (get_or ws k [])) (wire_hems k) (wire_follows k)

pub one_panel : OnePanel
one_panel fs v k d e m m' x y o o' =
    share_together false fs x y (key_below false fs x (bare_key d) (owns_key fs x d o)) (wire_near fs v k d e m m' x y o o')
