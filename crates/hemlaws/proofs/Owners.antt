-- The face that uses an edge, and the panel that has it. Assumes nothing.
use mathlib.Core.Path.{◌≡◌, sym, ◌∙◌}
use mathlib.Core.Logic.{⊎_elim}
use mathlib.Core.Bool.{Bool, true, false}
use mathlib.Core.List.{List, [], ◌∷◌, map}
use Prim.Native.Nat.{ℕ, ◌<◌}
use native.Mathlib.Omega.{arith}
use lib.Dec.{eqb}
use lib.ListN.{length, get_or}
use Rattle.lists.specs.Lists.{has, some, count, joined, together}
use Rattle.lists.proofs.Bools.{by_cases, or_left, or_right}
use Rattle.lists.proofs.Counting.{or_either, count_none, some_counted}
use Rattle.lists.proofs.Members.{In, Once}
use Rattle.lists.proofs.Parts.{some_append}
use Rattle.mesh.specs.Mesh.{Ring, position}
use Rattle.edges.specs.Edges.{Edge, same, ring_edges, edges_of}
use Rattle.turning.proofs.Rounds as rounds
use Rattle.panels.specs.Panels.{panels}
use Rattle.panels.proofs.Panelled.{panels_once, panels_inside}
use Rattle.onepanel.specs.Promise.{Owns}
use Rattle.hemlist.specs.HemList.{face_of, panel_of}
use Rattle.hemlaws.proofs.Places.{first_passes, first_below, placed, has_at, together_at, same_place}

-- ---- the face

face_some : (q : Edge → Bool) (fs : List Ring) → some q (edges_of fs) ≡ true → some (λ f. some q (ring_edges (map position f))) fs ≡ true
face_some q [] m = m
face_some q (f ∷ fs) m =
    ⊎_elim
    (or_left (some q (ring_edges (map position f))) (some (λ g. some q (ring_edges (map position g))) fs))
    (λ r. or_right (some q (ring_edges (map position f))) (some (λ g. some q (ring_edges (map position g))) fs) (face_some q fs r))
    (or_either (some q (ring_edges (map position f))) (some q (edges_of fs)) (sym (some_append q (ring_edges (map position f)) (edges_of fs)) ∙ m))

module _ (fs : List Ring) (d : Edge) (m : rounds.In d (edges_of fs)) where
  pub owner : Owns fs (face_of fs d) d
  unfolding face_of
  owner = first_passes (λ f. some (same d) (ring_edges (map position f))) [] fs (face_some (same d) fs m)

  pub owner_below : face_of fs d < length fs
  unfolding face_of
  owner_below = first_below (λ f. some (same d) (ring_edges (map position f))) fs (face_some (same d) fs m)

-- ---- the panel

module _ (fs : List Ring) where
  pub panels_apart : Once (joined (panels false fs))
  panels_apart x =
      by_cases
      (has x (joined (panels false fs)))
      (λ h. let e : count (eqb x) (joined (panels false fs)) ≡ 1 = panels_once false fs x (panels_inside false fs x h) in omega arith)
      (λ h. let e : count (eqb x) (joined (panels false fs)) ≡ 0 = count_none (eqb x) (joined (panels false fs)) h in omega arith)

  pub panels_placed : (x : ℕ) → x < length fs → In x (joined (panels false fs))
  panels_placed x l = some_counted (eqb x) (joined (panels false fs)) (let e : _ = panels_once false fs x l in omega arith)

  module _ (x : ℕ) (l : x < length fs) where
    pub panel_below : panel_of fs x < length (panels false fs)
    unfolding panel_of
    panel_below = first_below (has x) (panels false fs) (placed x (panels false fs) (panels_placed x l))

    pub panel_has : (y : ℕ) → has y (get_or (panels false fs) (panel_of fs x) []) ≡ together x y (panels false fs)
    unfolding panel_of
    panel_has y = has_at x y (panels false fs) panels_apart (panels_placed x l)

    pub panel_same : (y : ℕ) → y < length fs → eqb (panel_of fs x) (panel_of fs y) ≡ together x y (panels false fs)
    unfolding panel_of
    panel_same y k = same_place x y (panels false fs) panels_apart (panels_placed x l) (panels_placed y k)

  pub panel_together : (x y : ℕ) → together x y (panels false fs) ≡ true → panel_of fs x ≡ panel_of fs y
  unfolding panel_of
  panel_together x y t = together_at x y (panels false fs) panels_apart t
