-- One use more: an edge that is new comes to stand behind all, with one wing; one that is there gets a wing more at its place.
-- Assumes nothing.
use Rattle.std.proofs.Common.{◌≡◌, refl, sym, ap, ap₂, ◌∙◌, subst, Bool, true, false, List, [], ◌∷◌, ◌++◌, append-nil, map, ℕ, ◌+◌, ◌-◌, ◌≤◌, ◌<◌, arith, length, get_or, set, length-append}
use mathlib.Core.List.{map-append}
use lib.ListN.{length-map, get_or-append}
use lib.Seq.{set-get_or, get_or-append_seam}
use Rattle.lists.specs.Lists.{only, keep_if, some}
use Rattle.lists.proofs.Alike.{some_map}
use Rattle.lists.proofs.Bools.{by_cases, or_false_left, or_false_right}
use Rattle.lists.proofs.Buckets.{only_snoc, only_none, length_only}
use Rattle.lists.proofs.Changing.{map_at}
use Rattle.lists.proofs.Counting.{clash, count_some}
use Rattle.lists.proofs.Mapping.{map_keep, map_same}
use Rattle.lists.proofs.Only.{only_length}
use Rattle.lists.proofs.Parts.{some_true_at}
use Rattle.verdicts.specs.Edges.{Edge, same}
use Rattle.verdicts.proofs.SameEdge.{same_true, same_refl}
use Rattle.smoothed.specs.Smoothed.{first_uses, place}
use Rattle.smoothed.specs.Around.{Use}
use Rattle.smoothed.proofs.Limits.{uses_fewer}
use Rattle.smoothed.proofs.OneMore.{uses_more_old, uses_more_new, place_append, place_new}
use Rattle.smoothed.proofs.Places.{place_below, get_or-place}
use Rattle.smoothed.proofs.Proper.{same_swap, member_uses}
use Rattle.smoothed.proofs.Used.{Once, empty, front, once_uses}
use Rattle.numbering.specs.Steps.{edges_in, wings_in, each_edge, first_of, last_of, numbers_in, lowers_in, highers_in}

-- ---- a number for each edge, changed at one edge alone

module _ (g g' : Edge → ℕ) (k : Edge) (off : (j : Edge) → same j k ≡ false → g' j ≡ g j) where
  -- nowhere, where the edge is not there
  map_off : (ks : List Edge) → some (same k) ks ≡ false → map g' ks ≡ map g ks
  map_off [] h = refl
  map_off (j ∷ ks) h =
      ap₂ ◌∷◌ (off j (same_swap j k ∙ or_false_left (same k j) (some (same k) ks) h)) (map_off ks (or_false_right (same k j) (some (same k) ks) h))

  map_place : {ks : List Edge} → Once ks → some (same k) ks ≡ true → map g' ks ≡ set (map g ks) (place ks k) (g' k)
  unfolding place
  map_place empty h = clash h refl
  map_place (front {k = j} {ks = ks} n r) h =
      by_cases (same k j)
      (λ e.
      let q : k ≡ j = same_true k j e in
      rw e (ap₂ ◌∷◌ (ap g' (sym q)) (map_off ks (subst (λ (i : Edge). some (same i) ks ≡ false) (sym q) n))))
      (λ e. rw e (ap₂ ◌∷◌ (off j (same_swap j k ∙ e)) (map_place r (rw e at h))))

-- ---- the edges and their wings

abbrev edges : List Use → List Edge
edges us = map (λ (u : Use). u.0) us

pub edges_once : (us : List Use) → Once (edges_in us)
unfolding edges_in
edges_once us = once_uses (edges us)

-- no more edges than uses
pub edges_few : (us : List Use) → length (edges_in us) ≤ length us
unfolding edges_in
edges_few us = let l : length (edges us) ≡ length us = length-map us (λ (u : Use). u.0) in let f : _ = uses_fewer (edges us) in omega arith

-- an edge has a number where some use has it
pub edge_used : (us : List Use) (k : Edge) → some (same k) (edges_in us) ≡ some (λ (u : Use). same k u.0) us
unfolding edges_in
edge_used us k = member_uses k (edges us) ∙ some_map (same k) (λ (u : Use). u.0) us

-- as has each of the uses
pub use_known : (us : List Use) (d : Use) (i : ℕ) → i < length us → some (same (get_or us i d).0) (edges_in us) ≡ true
use_known us d i h =
    edge_used us (get_or us i d).0 ∙ some_true_at (λ (u : Use). same (get_or us i d).0 u.0) d us i h (same_refl (get_or us i d).0)

-- no more wings than uses
pub wings_few : (us : List Use) (k : Edge) → length (wings_in us k) ≤ length us
unfolding wings_in
wings_few us k =
    let p : Use → Bool = λ (u : Use). same k u.0 in
    let a : length (map (λ (u : Use). u.1) (only p us)) ≡ length (only p us) = length-map (only p us) (λ (u : Use). u.1) in
    let b : length (only p us) ≤ length us = only_length p us in
    omega arith

wings_none : (us : List Use) (k : Edge) → some (same k) (edges_in us) ≡ false → wings_in us k ≡ []
unfolding wings_in
wings_none us k h = ap (map (λ (u : Use). u.1)) (only_none (λ (u : Use). same k u.0) us (sym (edge_used us k) ∙ h))

wings_there : (us : List Use) (k : Edge) → some (same k) (edges_in us) ≡ true → 0 < length (wings_in us k)
unfolding wings_in
wings_there us k h =
    let p : Use → Bool = λ (u : Use). same k u.0 in
    omega (arith, length-map (only p us) (λ (u : Use). u.1), length_only p us, count_some p us (sym (edge_used us k) ∙ h))

-- ---- one use more

module _ (us : List Use) (u : Use) where
  -- the uses with it
  abbrev more : List Use
  more = us ++ (u ∷ [])

  wings_more : (j : Edge) → wings_in more j ≡ wings_in us j ++ keep_if (same j u.0) u.1 []
  unfolding wings_in
  wings_more j =
      let p : Use → Bool = λ (v : Use). same j v.0 in
      ap (map (λ (v : Use). v.1)) (only_snoc p us u)
      ∙ map-append (λ (v : Use). v.1) (only p us) (keep_if (same j u.0) u [])
      ∙ ap (λ (t : List ℕ). map (λ (v : Use). v.1) (only p us) ++ t) (map_keep (λ (v : Use). v.1) (same j u.0) u [])

  wings_off : (j : Edge) → same j u.0 ≡ false → wings_in more j ≡ wings_in us j
  wings_off j e = wings_more j ∙ rw e (append-nil (wings_in us j))

  wings_on : wings_in more u.0 ≡ wings_in us u.0 ++ (u.1 ∷ [])
  wings_on = wings_more u.0 ∙ rw (same_refl u.0)

  numbers_more :
      ((k : Edge) → some (same k) (edges_in us) ≡ true → place (edges_in more) k ≡ place (edges_in us) k)
      → numbers_in more ≡ numbers_in us ++ (place (edges_in more) u.0 ∷ [])
  unfolding numbers_in
  numbers_more f =
      map-append (λ (v : Use). place (edges_in more) v.0) us (u ∷ [])
      ∙ ap (λ (t : List ℕ). t ++ (place (edges_in more) u.0 ∷ []))
      (map_same (λ (v : Use). place (edges_in more) v.0) (λ (v : Use). place (edges_in us) v.0) ((0, 0), 0) us
      (λ i h. f (get_or us i ((0, 0), 0)).0 (use_known us ((0, 0), 0) i h)))

  -- a new edge
  module _ (h : some (same u.0) (edges_in us) ≡ false) where
    pub edges_new : edges_in more ≡ edges_in us ++ (u.0 ∷ [])
    unfolding edges_in
    edges_new = ap first_uses (map-append (λ (v : Use). v.0) us (u ∷ [])) ∙ uses_more_new (edges us) u.0 h

    pub numbers_new : numbers_in more ≡ numbers_in us ++ (length (edges_in us) ∷ [])
    numbers_new =
        numbers_more (λ k e. ap (λ (ks : List Edge). place ks k) edges_new ∙ place_append (edges_in us) (u.0 ∷ []) k e)
        ∙ ap (λ (n : ℕ). numbers_in us ++ (n ∷ [])) (ap (λ (ks : List Edge). place ks u.0) edges_new ∙ place_new (edges_in us) u.0 h)

    pub lowers_new : lowers_in more ≡ lowers_in us ++ (u.0.0 ∷ [])
    unfolding lowers_in
    lowers_new = ap (map (λ (k : Edge). k.0)) edges_new ∙ map-append (λ (k : Edge). k.0) (edges_in us) (u.0 ∷ [])

    pub highers_new : highers_in more ≡ highers_in us ++ (u.0.1 ∷ [])
    unfolding highers_in
    highers_new = ap (map (λ (k : Edge). k.1)) edges_new ∙ map-append (λ (k : Edge). k.1) (edges_in us) (u.0 ∷ [])

    -- it has one wing
    pub each_new : (f : List ℕ → ℕ) → each_edge f more ≡ each_edge f us ++ (f (u.1 ∷ []) ∷ [])
    each_new f =
        ap (map (λ k. f (wings_in more k))) edges_new
        ∙ map-append (λ k. f (wings_in more k)) (edges_in us) (u.0 ∷ [])
        ∙ ap₂ (λ (s : List ℕ) (v : ℕ). s ++ (v ∷ []))
        (map_off (λ k. f (wings_in us k)) (λ k. f (wings_in more k)) u.0 (λ j e. ap f (wings_off j e)) (edges_in us) h)
        (ap f (wings_on ∙ ap (λ (t : List ℕ). t ++ (u.1 ∷ [])) (wings_none us u.0 h)))

  -- one that is there
  module _ (h : some (same u.0) (edges_in us) ≡ true) where
    pub edges_old : edges_in more ≡ edges_in us
    unfolding edges_in
    edges_old = ap first_uses (map-append (λ (v : Use). v.0) us (u ∷ [])) ∙ uses_more_old (edges us) u.0 h

    pub numbers_old : numbers_in more ≡ numbers_in us ++ (place (edges_in us) u.0 ∷ [])
    numbers_old =
        numbers_more (λ k e. ap (λ (ks : List Edge). place ks k) edges_old)
        ∙ ap (λ (ks : List Edge). numbers_in us ++ (place ks u.0 ∷ [])) edges_old

    pub lowers_old : lowers_in more ≡ lowers_in us
    unfolding lowers_in
    lowers_old = ap (map (λ (k : Edge). k.0)) edges_old

    pub highers_old : highers_in more ≡ highers_in us
    unfolding highers_in
    highers_old = ap (map (λ (k : Edge). k.1)) edges_old

    -- it has one wing more, at its place
    each_old : (f : List ℕ → ℕ) → each_edge f more ≡ set (each_edge f us) (place (edges_in us) u.0) (f (wings_in us u.0 ++ (u.1 ∷ [])))
    each_old f =
        ap (map (λ k. f (wings_in more k))) edges_old
        ∙ map_place (λ k. f (wings_in us k)) (λ k. f (wings_in more k)) u.0 (λ j e. ap f (wings_off j e)) (edges_once us) h
        ∙ ap (set (each_edge f us) (place (edges_in us) u.0)) (ap f wings_on)

    -- what stood there
    pub each_at : (f : List ℕ → ℕ) → get_or (each_edge f us) (place (edges_in us) u.0) 0 ≡ f (wings_in us u.0)
    each_at f =
        map_at (λ k. f (wings_in us k)) (0, 0) 0 (edges_in us) (place (edges_in us) u.0) (place_below (edges_in us) u.0 h)
        ∙ ap (λ (k : Edge). f (wings_in us k)) (get_or-place (edges_in us) u.0 h)

    -- the first wing stays, the last one is new, and there is one more
    pub firsts_old : each_edge first_of more ≡ each_edge first_of us
    firsts_old =
        each_old first_of
        ∙ ap (set (each_edge first_of us) (place (edges_in us) u.0))
        (get_or-append (wings_in us u.0) (u.1 ∷ []) 0 0 (wings_there us u.0 h) ∙ sym (each_at first_of))
        ∙ set-get_or (each_edge first_of us) (place (edges_in us) u.0) 0

    pub lasts_old : each_edge last_of more ≡ set (each_edge last_of us) (place (edges_in us) u.0) u.1
    lasts_old = each_old last_of ∙ ap (set (each_edge last_of us) (place (edges_in us) u.0)) (last_of_lem (wings_in us u.0) u.1)
      where
        last_of_lem : (ws : List ℕ) (w : ℕ) → last_of (ws ++ (w ∷ [])) ≡ w
        last_of_lem ws w =
            let e : length (ws ++ (w ∷ [])) - 1 ≡ length ws = omega (arith, length-append ws (w ∷ [])) in
            ap (λ (i : ℕ). get_or (ws ++ (w ∷ [])) i 0) e ∙ get_or-append_seam ws w [] 0

    pub counts_old :
        each_edge length more ≡ set (each_edge length us) (place (edges_in us) u.0) (get_or (each_edge length us) (place (edges_in us) u.0) 0 + 1)
    counts_old =
        each_old length
        ∙ ap (set (each_edge length us) (place (edges_in us) u.0))
        (length-append (wings_in us u.0) (u.1 ∷ []) ∙ ap (λ (n : ℕ). n + 1) (sym (each_at length)))
