-- Two exports of one cover have the same hems on their lists. The wires of the one, renumbered, are the wires of the other, each begun
-- somewhere; and what the list says of a wire does not depend on where it begins, nor on the numbers. Assumes nothing.
use mathlib.Core.Path.{◌≡◌, refl, sym, ap, ap₂, ◌∙◌, subst}
use mathlib.Core.Bool.{Bool, true}
use mathlib.Core.List.{List, [], ◌∷◌, map}
use Prim.Native.Nat.{ℕ, suc, ◌+◌}
use lib.ListN.{length, length-map, get_or}
use Rattle.lists.specs.Lists.{bump, has, every, count, sum}
use Rattle.lists.proofs.Bools.{and_left, and_right}
use Rattle.lists.proofs.Counting.{bump_swap}
use Rattle.lists.proofs.Parts.{every_append}
use Rattle.mesh.specs.Mesh.{Ring, faces}
use Rattle.edges.specs.Edges.{Edge, ring_edges, mesh_edges, edges_of, verdict}
use Rattle.turning.specs.Turning.{house_wires_of}
use Rattle.turning.specs.Promise.{Fit}
use Rattle.turning.proofs.Edgewise.{ring_changed}
use Rattle.order.specs.Same.{Turned, Same, none, face, swap, then}
use Rattle.order.specs.Demand.{by_position}
use Rattle.order.proofs.Matched.{same_sym}
use Rattle.renumbered.specs.Renumbered.{positions_of, OneToOne, moved}
use Rattle.renumbered.proofs.Moved.{between}
use Rattle.renumbered.proofs.Wires.{wires_between}
use Rattle.exports.specs.Covers.{CoverKept}
use Rattle.exports.proofs.Covers.{covers_agree}
use Rattle.roots.specs.Distances.{Point, squared_distance}
use Rattle.roots.specs.Roots.{root_of}
use Rattle.hemlist.specs.HemList.{edge_length, hem_length, hem_panel, hem_panels, hem_edges, hem_lengths}
use Rattle.hemlaws.specs.Promises.{SameEntries}
use Rattle.hemlaws.specs.Exports.{beside, hem_pairs, hem_triples, KeepsPoints, ExportsHaveTheSameHems}
use Rattle.hemlaws.proofs.InPanels.{Steady, steady_turned, entries_turned, hem_steady}

-- ---- what the list says of one ring

abbrev pub pair_of : (ℕ → Point) → List ℕ → ℕ × ℕ
pair_of at w = (length (ring_edges w), hem_length at w)

abbrev pub triple_of : (ℕ → Point) → List Ring → List ℕ → ℕ × (ℕ × ℕ)
triple_of at fs w = (hem_panel fs w, pair_of at w)

beside_map : {A B C : Type 0} (f : A → B) (h : A → C) (l : List A) → beside (map f l) (map h l) ≡ map (λ x. (f x, h x)) l
beside_map f h [] = refl
beside_map f h (x ∷ l) = λ i. (f x, h x) ∷ beside_map f h l i

pairs_are : (at : ℕ → Point) (fs : List Ring) → hem_pairs at fs ≡ map (pair_of at) (house_wires_of fs)
unfolding hem_edges hem_lengths
pairs_are at fs = beside_map (λ (w : List ℕ). length (ring_edges w)) (hem_length at) (house_wires_of fs)

pub triples_are : (at : ℕ → Point) (fs : List Ring) → hem_triples at fs ≡ map (triple_of at fs) (house_wires_of fs)
unfolding hem_panels
triples_are at fs =
    ap (beside (hem_panels fs)) (pairs_are at fs) ∙ beside_map (hem_panel fs) (pair_of at) (house_wires_of fs)

-- ---- the same rings have the same entries

data All (fs : List Ring) : List (List ℕ) → Type 0 where
  end : All fs []
  more : {w : List ℕ} {ws : List (List ℕ)} → Steady fs w → All fs ws → All fs (w ∷ ws)

all_of : (fs : List Ring) (ws : List (List ℕ)) → ((k : ℕ) → Steady fs (get_or ws k [])) → All fs ws
all_of fs [] h = end
all_of fs (w ∷ ws) h = more (h 0) (all_of fs ws (λ k. h (suc k)))

same_steady : (fs : List Ring) {m n : List (List ℕ)} → Same m n → All fs m → All fs n
same_steady fs none a = a
same_steady fs (face t s) (more x a) = more (steady_turned fs t x) (same_steady fs s a)
same_steady fs swap (more x (more y a)) = more y (more x a)
same_steady fs (then s t) a = same_steady fs t (same_steady fs s a)

triple_turned : (at : ℕ → Point) (fs : List Ring) {v w : List ℕ} → Turned v w → Steady fs v → triple_of at fs v ≡ triple_of at fs w
triple_turned at fs {v} {w} t x =
    let e : SameEntries at fs v w = entries_turned fs t x at in λ i. (sym e.panel i, (sym e.edges i, sym e.long i))

same_triples :
    (at : ℕ → Point) (fs : List Ring) (p : ℕ × (ℕ × ℕ) → Bool) {m n : List (List ℕ)} → Same m n → All fs m
    → count p (map (triple_of at fs) m) ≡ count p (map (triple_of at fs) n)
same_triples at fs p none a = refl
same_triples at fs p (face t s) (more x a) =
    ap₂ (λ (l : ℕ × (ℕ × ℕ)) (k : ℕ). bump (p l) k) (triple_turned at fs t x) (same_triples at fs p s a)
same_triples at fs p (swap {f = f} {g = g} {m = m}) a =
    bump_swap (p (triple_of at fs f)) (p (triple_of at fs g)) (count p (map (triple_of at fs) m))
same_triples at fs p (then s t) a = same_triples at fs p s a ∙ same_triples at fs p t (same_steady fs s a)

-- so rings that are the hems of fs, each begun somewhere, in some order
pub hems_counted :
    (at : ℕ → Point) (fs : List Ring) → Fit (verdict (edges_of fs)) → (us : List (List ℕ)) → Same us (house_wires_of fs)
    → (p : ℕ × (ℕ × ℕ) → Bool) → count p (map (triple_of at fs) us) ≡ count p (map (triple_of at fs) (house_wires_of fs))
hems_counted at fs v us s p = sym (same_triples at fs p (same_sym s) (all_of fs (house_wires_of fs) (hem_steady fs v)))

-- ---- renumbered rings are as long

module _ (g : ℕ → ℕ) (fs : List Ring) (at at' : ℕ → Point) (keep : KeepsPoints g at at' fs) where
  abbrev ps : List ℕ
  ps = positions_of fs

  edge_moved : (e : Edge) → between ps e ≡ true → edge_length at' (moved g e) ≡ edge_length at e
  unfolding edge_length
  edge_moved e b =
      ap₂ (λ (x y : Point). root_of (squared_distance x y))
      (keep e.0 (and_left (has e.0 ps) (has e.1 ps) b)) (keep e.1 (and_right (has e.0 ps) (has e.1 ps) b))

  edges_long : (es : List Edge) → every (between ps) es ≡ true → sum (map (edge_length at') (map (moved g) es)) ≡ sum (map (edge_length at) es)
  edges_long [] h = refl
  edges_long (e ∷ es) h =
      ap₂ (λ (a b : ℕ). a + b) (edge_moved e (and_left (between ps e) (every (between ps) es) h))
      (edges_long es (and_right (between ps e) (every (between ps) es) h))

  pub pair_moved : (w : List ℕ) → every (between ps) (ring_edges w) ≡ true → pair_of at' (map (λ i. g i) w) ≡ pair_of at w
  pair_moved w h =
      let q : length (ring_edges (map (λ i. g i) w)) ≡ length (ring_edges w) =
      ap length (ring_changed (λ i. g i) w) ∙ length-map (ring_edges w) (moved g) in
      let s : hem_length at' (map (λ i. g i) w) ≡ hem_length at w =
      ap (λ (l : List Edge). sum (map (edge_length at') l)) (ring_changed (λ i. g i) w) ∙ edges_long (ring_edges w) h in
      λ i. (q i, s i)

  pairs_moved : (ws : List (List ℕ)) → every (between ps) (mesh_edges ws) ≡ true → map (pair_of at') (map (map (λ i. g i)) ws) ≡ map (pair_of at) ws
  pairs_moved [] h = refl
  pairs_moved (w ∷ ws) h =
      let k : _ = sym (every_append (between ps) (ring_edges w) (mesh_edges ws)) ∙ h in
      ap₂ (λ (l : ℕ × ℕ) (ls : List (ℕ × ℕ)). l ∷ ls)
      (pair_moved w (and_left (every (between ps) (ring_edges w)) (every (between ps) (mesh_edges ws)) k))
      (pairs_moved ws (and_right (every (between ps) (ring_edges w)) (every (between ps) (mesh_edges ws)) k))

  pub exported :
      (gs : List Ring) → OneToOne g (positions_of fs) → Fit (verdict (edges_of fs)) → Fit (verdict (edges_of gs))
      → Same (map (map (λ i. g i)) (house_wires_of fs)) (house_wires_of gs)
      → (p : ℕ × ℕ → Bool) → count p (hem_pairs at fs) ≡ count p (hem_pairs at' gs)
  exported gs one v v' s p =
      ap (count p) (pairs_are at fs ∙ sym (pairs_moved (house_wires_of fs) (wires_between g (by_position fs) one v)))
      ∙ sym (projected (map (map (λ i. g i)) (house_wires_of fs)))
      ∙ hems_counted at' gs v' (map (map (λ i. g i)) (house_wires_of fs)) s (λ t. p t.1)
      ∙ projected (house_wires_of gs)
      ∙ sym (ap (count p) (pairs_are at' gs))
    where
      projected : (ws : List (List ℕ)) → count (λ (t : ℕ × (ℕ × ℕ)). p t.1) (map (triple_of at' gs) ws) ≡ count p (map (pair_of at') ws)
      projected [] = refl
      projected (w ∷ ws) = ap (bump (p (pair_of at' w))) (projected ws)

pub exports_have_the_same_hems : ExportsHaveTheSameHems
exports_have_the_same_hems g m n y z c v at at' keep =
    let a : CoverKept g (faces m) (faces n) = covers_agree g m n y z c in
    record { agree = exported g (faces m) at at' keep (faces n) c.one_to_one v (subst Fit a.one_verdict v) (a.same_wires v) }
