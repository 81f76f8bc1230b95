-- One use more, for a loop over the uses: an edge that was used changes nothing, any other comes to stand behind all; and the
-- numbers given stay. Assumes nothing.
use mathlib.Core.Path.{◌≡◌, refl, sym, ap, ◌∙◌}
use mathlib.Core.Bool.{true, false, not, ◌&&◌, and-true}
use mathlib.Core.List.{List, [], ◌∷◌, ◌++◌, append-nil}
use Prim.Native.Nat.{suc}
use lib.ListN.{length}
use Rattle.lists.specs.Lists.{some, only, each}
use Rattle.lists.proofs.Bools.{by_cases, and_false_right, or_false_left, or_false_right}
use Rattle.lists.proofs.Counting.{clash}
use Rattle.lists.proofs.Parts.{each_append}
use Rattle.lists.proofs.Only.{only_append}
use Rattle.lists.proofs.Buckets.{only_cong, only_only}
use Rattle.mesh.specs.Mesh.{Ring}
use Rattle.verdicts.specs.Edges.{Edge, same}
use Rattle.verdicts.proofs.SameEdge.{same_refl}
use Rattle.smoothed.specs.Smoothed.{sides, first_uses, place}
use Rattle.smoothed.proofs.Proper.{same_swap, member_only}

-- ---- first uses

-- the edges other than k, and those of l that are new to us
abbrev others : Edge → List Edge → List Edge
others k l = only (λ j. not (same k j)) l

abbrev pub new_to : List Edge → List Edge → List Edge
new_to us l = only (λ j. not (some (same j) us)) l

new_behind : (k : Edge) (us : List Edge) (j : Edge) → (not (some (same j) us) && not (same k j)) ≡ not (some (same j) (k ∷ others k us))
new_behind k us j =
    by_cases
    (same j k)
    (λ e. rw (same_swap k j, e) (and_false_right (not (some (same j) us)) false refl))
    (λ e. rw (e, member_only (λ i. not (same k i)) j us, same_swap k j, e) (and-true (not (some (same j) us))))

others_new : (k : Edge) (us l : List Edge) → others k (us ++ new_to us l) ≡ others k us ++ new_to (k ∷ others k us) l
others_new k us l =
    only_append (λ j. not (same k j)) us (new_to us l)
    ∙ ap
    (λ (t : List Edge). others k us ++ t)
    (only_only (λ j. not (same k j)) (λ j. not (some (same j) us)) l
    ∙ only_cong (λ j. not (some (same j) us) && not (same k j)) (λ j. not (some (same j) (k ∷ others k us))) (new_behind k us) l)

new_to_none : (l : List Edge) → only (λ j. true) l ≡ l
new_to_none [] = refl
new_to_none (j ∷ l) = ap (λ (t : List Edge). j ∷ t) (new_to_none l)

-- of one list and then another: behind the first's, those of the other that are new
pub uses_append : (a b : List Edge) → first_uses (a ++ b) ≡ first_uses a ++ new_to (first_uses a) (first_uses b)
uses_append [] b = sym (new_to_none (first_uses b))
uses_append (k ∷ a) b =
    ap (λ (l : List Edge). k ∷ others k l) (uses_append a b)
    ∙ ap (λ (l : List Edge). k ∷ l) (others_new k (first_uses a) (first_uses b))

module _ (l : List Edge) (k : Edge) where
  pub uses_more_old : some (same k) (first_uses l) ≡ true → first_uses (l ++ (k ∷ [])) ≡ first_uses l
  uses_more_old h = uses_append l (k ∷ []) ∙ rw h (append-nil (first_uses l))

  pub uses_more_new : some (same k) (first_uses l) ≡ false → first_uses (l ++ (k ∷ [])) ≡ first_uses l ++ (k ∷ [])
  uses_more_new h = uses_append l (k ∷ []) ∙ rw h

-- one face more
pub sides_more : (fs : List Ring) (f : Ring) → each sides (fs ++ (f ∷ [])) ≡ each sides fs ++ sides f
sides_more fs f = each_append sides fs (f ∷ []) ∙ ap (λ (t : List Edge). each sides fs ++ t) (append-nil (sides f))

-- ---- numbers

-- more edges behind do not change the number of one that is there
pub place_append : (us vs : List Edge) (k : Edge) → some (same k) us ≡ true → place (us ++ vs) k ≡ place us k
unfolding place
place_append [] vs k h = clash h refl
place_append (j ∷ us) vs k h =
    by_cases (same k j) (λ e. rw e) (λ e. rw e (ap suc (place_append us vs k (rw e at h))))

-- one that is not there gets the next number
pub place_new : (us : List Edge) (k : Edge) → some (same k) us ≡ false → place (us ++ (k ∷ [])) k ≡ length us
unfolding place
place_new [] k h = rw (same_refl k)
place_new (j ∷ us) k h =
    rw (or_false_left (same k j) (some (same k) us) h) (ap suc (place_new us k (or_false_right (same k j) (some (same k) us) h)))
