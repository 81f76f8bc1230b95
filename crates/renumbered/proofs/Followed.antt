-- What follows an edge through the cloth does not depend on how positions are numbered: of the renumbered edge the renumbered edge
-- follows. Assumes nothing.
use mathlib.Core.Path.{◌≡◌, refl, ap, ap₂, ◌∙◌}
use mathlib.Core.Bool.{Bool, true, false, cond}
use mathlib.Core.List.{List, [], ◌∷◌, map}
use Prim.Native.Nat.{ℕ, zero, suc}
use lib.ListN.{length, length-map}
use Rattle.lists.specs.Lists.{has, every}
use Rattle.lists.proofs.Bools.{and_both, and_left, and_right}
use Rattle.edges.specs.Edges.{Edge, same, flip, ring_edges, mesh_edges, hems}
use Rattle.turning.specs.Turning.{Turn, turns, next_in, is_hem, turn_from, onward_in, onward}
use Rattle.turning.proofs.Edgewise.{both, ring_changed, edges_changed, both_pass, ring_passes, edges_pass}
use Rattle.renumbered.specs.Renumbered.{OneToOne, moved}
use Rattle.renumbered.proofs.Moved.{between, between_flip, same_moved, hems_moved, cond_moved, cond_between}

-- ---- turns

abbrev pub moved_turn : (ℕ → ℕ) → Turn → Turn
moved_turn g = both (moved g)

rings_moved : (g : ℕ → ℕ) (fs : List (List ℕ)) → map ring_edges (map (map (λ i. g i)) fs) ≡ map (map (moved g)) (map ring_edges fs)
rings_moved g [] = refl
rings_moved g (f ∷ fs) = ap₂ (λ (a : List Edge) (b : List (List Edge)). a ∷ b) (ring_changed (λ i. g i) f) (rings_moved g fs)

pub turns_moved : (g : ℕ → ℕ) (fs : List (List ℕ)) → turns (map (map (λ i. g i)) fs) ≡ map (moved_turn g) (turns fs)
turns_moved g fs = ap mesh_edges (rings_moved g fs) ∙ edges_changed (moved g) (map ring_edges fs)

-- all positions of the faces are among ps
abbrev pub Inside : List ℕ → List (List ℕ) → Type 0
Inside ps fs = every (every (λ x. has x ps)) fs ≡ true

rings_between : (ps : List ℕ) (fs : List (List ℕ)) → Inside ps fs → every (every (between ps)) (map ring_edges fs) ≡ true
rings_between ps [] q = refl
rings_between ps (f ∷ fs) q =
    and_both (every (between ps) (ring_edges f)) (every (every (between ps)) (map ring_edges fs))
    (ring_passes (λ x. has x ps) f (and_left (every (λ x. has x ps) f) (every (every (λ x. has x ps)) fs) q))
    (rings_between ps fs (and_right (every (λ x. has x ps) f) (every (every (λ x. has x ps)) fs) q))

turns_between : (ps : List ℕ) (fs : List (List ℕ)) → Inside ps fs → every (both_pass (between ps)) (turns fs) ≡ true
turns_between ps fs q = edges_pass (between ps) (map ring_edges fs) (rings_between ps fs q)

module _ (g : ℕ → ℕ) (ps : List ℕ) (one : OneToOne g ps) where
  -- ---- the next edge of a face

  next_between :
      (ts : List Turn) → every (both_pass (between ps)) ts ≡ true → (e : Edge) → between ps e ≡ true → between ps (next_in ts e) ≡ true
  next_between [] q e h = h
  next_between (t ∷ ts) q e h =
      cond_between g ps one (same e t.0) t.1 (next_in ts e)
      (and_right (between ps t.0) (between ps t.1) (and_left (both_pass (between ps) t) (every (both_pass (between ps)) ts) q))
      (next_between ts (and_right (both_pass (between ps) t) (every (both_pass (between ps)) ts) q) e h)

  next_moved :
      (ts : List Turn) → every (both_pass (between ps)) ts ≡ true → (e : Edge) → between ps e ≡ true
      → next_in (map (moved_turn g) ts) (moved g e) ≡ moved g (next_in ts e)
  next_moved [] q e h = refl
  next_moved (t ∷ ts) q e h =
      ap₂ (λ (b : Bool) (x : Edge). cond b (moved g t.1) x)
      (same_moved g ps one e t.0 h
      (and_left (between ps t.0) (between ps t.1) (and_left (both_pass (between ps) t) (every (both_pass (between ps)) ts) q)))
      (next_moved ts (and_right (both_pass (between ps) t) (every (both_pass (between ps)) ts) q) e h)
      ∙ cond_moved g ps one (same e t.0) t.1 (next_in ts e)

  -- ---- turning

  module _ (next next' : Edge → Edge) (h h' : List Edge)
      (stays : (e : Edge) → between ps e ≡ true → between ps (next e) ≡ true)
      (goes : (e : Edge) → between ps e ≡ true → next' (moved g e) ≡ moved g (next e))
      (hem : (e : Edge) → between ps e ≡ true → is_hem h' (moved g e) ≡ is_hem h e) where
    turn_moved : (n : ℕ) (e : Edge) → between ps e ≡ true → turn_from next' h' n (moved g e) ≡ moved g (turn_from next h n e)
    unfolding turn_from
    turn_moved zero e k = refl
    turn_moved (suc n) e k =
        go (is_hem h e) (is_hem h' (moved g e)) (hem e k)
        (ap (turn_from next' h' n) (goes (flip e) (between_flip g ps one e k)) ∙ turn_moved n (next (flip e)) (stays (flip e) (between_flip g ps one e k)))
      where
        go :
            (a b : Bool) → b ≡ a → turn_from next' h' n (next' (flip (moved g e))) ≡ moved g (turn_from next h n (next (flip e)))
            → ◌≡◌ {A = Edge} (elim b [ true ↦ moved g e | false ↦ turn_from next' h' n (next' (flip (moved g e))) ])
            (moved g (elim a [ true ↦ e | false ↦ turn_from next h n (next (flip e)) ]))
        go true b q ih = rw q
        go false b q ih = rw q ih

    onward_in_moved : (n : ℕ) (e : Edge) → between ps e ≡ true → onward_in next' h' n (moved g e) ≡ moved g (onward_in next h n e)
    unfolding onward_in
    onward_in_moved n e k = ap (turn_from next' h' n) (goes e k) ∙ turn_moved n (next e) (stays e k)

  module _ (fs : List (List ℕ)) (inside : Inside ps fs) where
    abbrev G : List (List ℕ)
    G = map (map (λ i. g i)) fs

    next_of : (e : Edge) → between ps e ≡ true → next_in (turns G) (moved g e) ≡ moved g (next_in (turns fs) e)
    next_of e k =
        ap (λ (ts : List Turn). next_in ts (moved g e)) (turns_moved g fs) ∙ next_moved (turns fs) (turns_between ps fs inside) e k

    pub hem_of : (e : Edge) → between ps e ≡ true → is_hem (hems (mesh_edges G)) (moved g e) ≡ is_hem (hems (mesh_edges fs)) e
    hem_of e k =
        ap (λ (es : List Edge). is_hem (hems es) (moved g e)) (edges_changed (λ i. g i) fs)
        ∙ hems_moved g ps one (mesh_edges fs) (edges_pass (λ x. has x ps) fs inside) e k

    as_many : length (mesh_edges G) ≡ length (mesh_edges fs)
    as_many = ap length (edges_changed (λ i. g i) fs) ∙ length-map (mesh_edges fs) (moved g)

    -- what follows the renumbered edge
    pub onward_moved : (e : Edge) → between ps e ≡ true → onward G (moved g e) ≡ moved g (onward fs e)
    unfolding onward
    onward_moved e k =
        ap (λ (n : ℕ). onward_in (next_in (turns G)) (hems (mesh_edges G)) n (moved g e)) as_many
        ∙ onward_in_moved (next_in (turns fs)) (next_in (turns G)) (hems (mesh_edges fs)) (hems (mesh_edges G))
        (next_between (turns fs) (turns_between ps fs inside)) next_of hem_of (length (mesh_edges fs)) e k
