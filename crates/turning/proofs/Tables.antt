-- Turning over rows, place by place, is turning from edge to edge. Assumes nothing.
use mathlib.Core.Path.{◌≡◌, refl, sym, ap, ◌∙◌, subst}
use mathlib.Core.Bool.{Bool, true, false}
use mathlib.Core.List.{List, []}
use Prim.Native.Nat.{ℕ, zero, suc, ◌+◌, ◌<◌}
use lib.Dec.{eqb}
use lib.ListN.{length, get_or}
use borrow.Author.Tests.{eqb-true, eqb-false}
use Rattle.edges.specs.Edges.{Edge, mesh_edges, thrice, alike, hems}
use Rattle.lists.specs.Numbers.{next_of}
use Rattle.turning.specs.Rows.{edge_at, place_count, begin_of, Rows, place_from}
use Rattle.turning.specs.Turning.{turns, next_in, turn_from, onward_in, onward}
use Rattle.turning.proofs.Crossing.{edges_once}
use Rattle.turning.proofs.Steps.{turn_none, turn_here, turn_cross}
use Rattle.turning.proofs.Places.{next_below, place_below, place_of, next_place, twin_place, inner_place, hem_place}

module _ (fs : List (List ℕ)) (ni : thrice (mesh_edges fs) ≡ false) (nr : alike (mesh_edges fs) ≡ false) (after twins : List ℕ) (t : Rows fs after twins) where
  abbrev es : List Edge
  es = mesh_edges fs

  abbrev next : Edge → Edge
  next = next_in (turns fs)

  -- the next use
  pub after_is : (u : ℕ) → u < place_count fs → (get_or after u 0 < place_count fs) × (edge_at fs (get_or after u 0) ≡ next (edge_at fs u))
  after_is u l =
      let r : (j : ℕ) × (i : ℕ) × (i < length (get_or fs j [])) × (begin_of fs j + i ≡ u) = place_of fs u l in
      let n : ℕ = next_of r.1 (length (get_or fs r.0 [])) in
      let a : get_or after u 0 ≡ begin_of fs r.0 + next_of r.1 (length (get_or fs r.0 [])) =
      ap (λ v. get_or after v 0) (sym r.3) ∙ t.next_is r.0 r.1 r.2 in (
        subst (λ v. v < place_count fs) (sym a)
            (place_below fs r.0 (next_of r.1 (length (get_or fs r.0 []))) (next_below r.1 (length (get_or fs r.0 [])) r.2)),
        ap (edge_at fs) a ∙ sym (next_place fs (edges_once es ni nr) r.0 r.1 r.2) ∙ ap (λ v. next (edge_at fs v)) r.3,
      )

  pub turn_place : (n u : ℕ) → u < place_count fs → edge_at fs (place_from after twins n u) ≡ turn_from next (hems es) n (edge_at fs u)
  unfolding place_from
  turn_place zero u l = sym (turn_none next (hems es) (edge_at fs u))
  turn_place (suc n) u l = go (eqb (get_or twins u 0) u) refl (turn_place n (get_or after (get_or twins u 0) 0))
    where
      v : ℕ
      v = get_or twins u 0

      go :
          (b : Bool) → eqb v u ≡ b
          → (get_or after v 0 < place_count fs → edge_at fs (place_from after twins n (get_or after v 0)) ≡ turn_from next (hems es) n (edge_at fs (get_or after v 0)))
          → edge_at fs (elim b [ true ↦ u | false ↦ place_from after twins n (get_or after v 0) ]) ≡ turn_from next (hems es) (suc n) (edge_at fs u)
      go true q ih =
          sym
          (turn_here next (hems es) (suc n) (edge_at fs u)
          (hem_place es ni nr u l (λ w h ne k. t.twin_alone u w l h ne k (eqb-true v u q))))
      go false q ih =
          let ne : u ≡ v → ⊥ = λ e. eqb-false v u q (sym e) in
          let h : v < place_count fs = t.twin_below u l in
          let a : (get_or after v 0 < place_count fs) × (edge_at fs (get_or after v 0) ≡ next (edge_at fs v)) = after_is v h in
          ih a.0
          ∙ ap (turn_from next (hems es) n) (a.1 ∙ ap next (twin_place es ni nr u v l h ne (t.twin_key u l)))
          ∙ sym (turn_cross next (hems es) n (edge_at fs u) (inner_place es ni nr u v l h ne (t.twin_key u l)))

  -- the places stay within the row
  pub place_in : (n u : ℕ) → u < place_count fs → place_from after twins n u < place_count fs
  unfolding place_from
  place_in zero u l = l
  place_in (suc n) u l = go (eqb (get_or twins u 0) u) (place_in n (get_or after (get_or twins u 0) 0))
    where
      go :
          (b : Bool)
          → (get_or after (get_or twins u 0) 0 < place_count fs → place_from after twins n (get_or after (get_or twins u 0) 0) < place_count fs)
          → elim b [ true ↦ u | false ↦ place_from after twins n (get_or after (get_or twins u 0) 0) ] < place_count fs
      go true ih = l
      go false ih = ih (after_is (get_or twins u 0) (t.twin_below u l)).0

  -- from a place of a hem edge to the place of the hem edge that follows it
  pub onward_place :
      (u : ℕ) → u < place_count fs → edge_at fs (place_from after twins (place_count fs) (get_or after u 0)) ≡ onward fs (edge_at fs u)
  unfolding onward onward_in
  onward_place u l =
      let a : (get_or after u 0 < place_count fs) × (edge_at fs (get_or after u 0) ≡ next (edge_at fs u)) = after_is u l in
      turn_place (place_count fs) (get_or after u 0) a.0 ∙ ap (turn_from next (hems es) (place_count fs)) a.1
