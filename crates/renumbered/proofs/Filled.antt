-- No wire is empty; its edges, as a ring, start at its positions. Assumes nothing.
use mathlib.Core.Path.{◌≡◌, refl, ap, ap₂}
use mathlib.Core.Bool.{Bool, true, false, ◌&&◌}
use mathlib.Core.List.{List, [], ◌∷◌, ◌++◌, map}
use Prim.Native.Nat.{ℕ, zero, suc}
use lib.ListN.{length}
use Rattle.lists.specs.Lists.{every, joined}
use Rattle.lists.proofs.Bools.{and_both, and_left, and_right}
use Rattle.edges.specs.Edges.{Edge, same, ring_edges, mesh_edges, hems}
use Rattle.tracing.specs.Following.{Walk, longer, without}
use Rattle.turning.specs.Turning.{onward, least, trail, trails_in, house_wires}
use Rattle.turning.proofs.Next.{ring_firsts}
use Rattle.renumbered.proofs.Cuts.{full}

abbrev passed : Walk → Bool
passed w = full w.0

full_trail : (on : Edge → Edge) (n : ℕ) (f e : Edge) (h : List Edge) → full (trail on (suc n) f e h).0 ≡ true
unfolding trail
full_trail on n f e h = go (same f (on e))
  where
    go :
        (b : Bool)
        → passed (elim b [ true ↦ (e.0 ∷ [], without e h) | false ↦ longer e.0 (trail on n f (on e) (without e h)) ]) ≡ true
    go true = refl
    go false = refl

full_trails : (on : Edge → Edge) (n m : ℕ) (h : List Edge) → every full (trails_in on n (suc m) h) ≡ true
unfolding trails_in
full_trails on zero m h = refl
full_trails on (suc n) m [] = refl
full_trails on (suc n) m (e ∷ h) =
    and_both (full (trail on (suc m) (least e h) (least e h) (e ∷ h)).0)
    (every full (trails_in on n (suc m) (trail on (suc m) (least e h) (least e h) (e ∷ h)).1))
    (full_trail on m (least e h) (least e h) (e ∷ h))
    (full_trails on n m (trail on (suc m) (least e h) (least e h) (e ∷ h)).1)

full_all : (on : Edge → Edge) (n : ℕ) (h : List Edge) → every full (trails_in on n n h) ≡ true
unfolding trails_in
full_all on zero h = refl
full_all on (suc n) h = full_trails on (suc n) n h

pub full_wires : (fs : List (List ℕ)) → every full (house_wires fs) ≡ true
unfolding house_wires
full_wires fs = full_all (onward fs) (length (hems (mesh_edges fs))) (hems (mesh_edges fs))

full_ring : (l : List ℕ) → full l ≡ true → full (ring_edges l) ≡ true
full_ring [] h = h
full_ring (a ∷ []) h = refl
full_ring (a ∷ b ∷ r) h = refl

pub full_rings : (ws : List (List ℕ)) → every full ws ≡ true → every full (map ring_edges ws) ≡ true
full_rings [] h = refl
full_rings (w ∷ ws) h =
    and_both (full (ring_edges w)) (every full (map ring_edges ws)) (full_ring w (and_left (full w) (every full ws) h))
    (full_rings ws (and_right (full w) (every full ws) h))

full_moved : (g : ℕ → ℕ) (w : List ℕ) → full (map (λ i. g i) w) ≡ full w
full_moved g [] = refl
full_moved g (a ∷ r) = refl

pub full_map : (g : ℕ → ℕ) (ws : List (List ℕ)) → every full (map (map (λ i. g i)) ws) ≡ every full ws
full_map g [] = refl
full_map g (w ∷ ws) = ap₂ (λ (a b : Bool). a && b) (full_moved g w) (full_map g ws)

-- ---- the edges of wires, ring by ring

pub joined_rings : (ws : List (List ℕ)) → joined (map ring_edges ws) ≡ mesh_edges ws
joined_rings [] = refl
joined_rings (w ∷ ws) = ap (λ (l : List Edge). ring_edges w ++ l) (joined_rings ws)

pub starts : (ws : List (List ℕ)) → map (map (λ (e : Edge). e.0)) (map ring_edges ws) ≡ ws
starts [] = refl
starts (w ∷ ws) = ap₂ (λ (a : List ℕ) (b : List (List ℕ)). a ∷ b) (ring_firsts w) (starts ws)
