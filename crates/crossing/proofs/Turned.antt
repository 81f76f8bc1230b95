-- The rows turn as the rule has it, where the verdict is Oriented or Closed: by the law of crate turning on such rows. Assumes nothing.
use mathlib.Core.Path.{◌≡◌, sym, ap, ◌∙◌, subst}
use mathlib.Core.Bool.{Bool, true, false, cond}
use mathlib.Core.List.{List}
use Prim.Native.Nat.{ℕ, ◌*◌, ◌<◌}
use native.Mathlib.Omega.{arith}
use lib.ListN.{length, get_or}
use borrow.Author.Tests.{eqb-true, eqb-false}
use Rattle.lists.proofs.Bools.{by_cases}
use Rattle.lists.proofs.Parts.{some_true_at}
use Rattle.mesh.specs.Limits.{width}
use Rattle.mesh.specs.Mesh.{rings}
use Rattle.mesh.specs.Edges.{Edge, same, mesh_edges, edges_of}
use Rattle.verdicts.specs.Edges.{thrice, alike, verdict, hems}
use Rattle.verdicts.proofs.SameEdge.{same_refl}
use Rattle.verdicts.proofs.HemUses.{not_irregular, not_regular}
use Rattle.turning.specs.Rows.{nil, edge_at, place_count, Rows, place_from}
use Rattle.turning.specs.Turning.{turns, next_in, is_hem, onward}
use Rattle.turning.specs.Promise.{Fit}
use Rattle.turning.proofs.Next.{next_start}
use Rattle.turning.proofs.Crossing.{edges_once}
use Rattle.turning.proofs.Onward.{onward_hem, onward_one}
use Rattle.turning.proofs.Places.{inner_place, hem_place, place_one}
use Rattle.turning.proofs.Tables.{after_is, place_in, onward_place}
use Rattle.turning.proofs.Promised.{fit_irregular, fit_regular}
use Rattle.crossing.specs.Crossing.{alone, follow_of, follow_row}
use Rattle.crossing.specs.Turned.{Rowed, faces_in, Ends, Turned, RowsTurn}
use Rattle.crossing.proofs.Follow.{follows_at}
use Rattle.crossing.proofs.Rowed.{rows_are, twins_length, after_place, place_begins}

module _
    (cs s : List ℕ) (n : ℕ) (l h d order old after twins : List ℕ) (r : Rowed cs s n l h d order old after twins) (v : Fit (verdict (edges_of (rings s cs))))
  where
    abbrev fs : List (List ℕ)
    fs = faces_in cs s

    abbrev es : List Edge
    es = mesh_edges fs

    rows : Rows fs after twins
    rows = rows_are cs s n l h d order old after twins r

    twins_long : length twins ≡ place_count fs
    twins_long = twins_length cs s n l h d order old after twins r

    next_inside : (u : ℕ) → u < place_count fs → get_or after u 0 < place_count fs
    next_inside = after_place cs s n l h d order old after twins r

    begins_at : (u : ℕ) → u < place_count fs → (edge_at fs u).0 ≡ get_or cs (width * u) 0
    begins_at = place_begins cs s n l h d order old after twins r

    ni : thrice es ≡ false
    ni = not_irregular es (fit_irregular (verdict es) v)

    nr : alike es ≡ false
    nr = not_regular es (fit_irregular (verdict es) v) (fit_regular (verdict es) v)

    next_place : (u : ℕ) → u < place_count fs → edge_at fs (get_or after u 0) ≡ next_in (turns fs) (edge_at fs u)
    next_place u k = (after_is fs ni nr after twins rows u k).1

    pub ends_are : Ends cs (faces_in cs s) after
    ends_are = record {
      begins = begins_at;
      ends = λ u k.
          sym (next_start fs (edge_at fs u) (some_true_at (same (edge_at fs u)) nil es u k (same_refl (edge_at fs u))))
          ∙ ap (λ (e : Edge). e.0) (sym (next_place u k))
          ∙ begins_at (get_or after u 0) (next_inside u k);
    }

    hem_at : (u : ℕ) → u < place_count fs → alone twins u ≡ is_hem (hems es) (edge_at fs u)
    hem_at u k =
        by_cases (alone twins u)
        (λ q. q ∙ sym (hem_place es ni nr u k (λ w m ne z. rows.twin_alone u w k m ne z (eqb-true (get_or twins u 0) u q))))
        (λ q.
        q
        ∙ sym
        (inner_place es ni nr u (get_or twins u 0) k (rows.twin_below u k) (λ z. eqb-false (get_or twins u 0) u q (sym z)) (rows.twin_key u k)))

    abbrev follow : ℕ → ℕ
    follow u = get_or (follow_row after twins) u 0

    follow_hem : (u : ℕ) → u < place_count fs → alone twins u ≡ true → follow u ≡ place_from after twins (place_count fs) (get_or after u 0)
    unfolding follow_of
    follow_hem u k q =
        follows_at after twins u (omega (arith, twins_long))
        ∙ ap (λ (b : Bool). cond b (place_from after twins (length twins) (get_or after u 0)) u) q
        ∙ ap (λ (m : ℕ). place_from after twins m (get_or after u 0)) twins_long

    follow_own : (u : ℕ) → u < place_count fs → alone twins u ≡ false → follow u ≡ u
    unfolding follow_of
    follow_own u k q =
        follows_at after twins u (omega (arith, twins_long)) ∙ ap (λ (b : Bool). cond b (place_from after twins (length twins) (get_or after u 0)) u) q

    follow_inside : (u : ℕ) → u < place_count fs → follow u < place_count fs
    follow_inside u k =
        by_cases (alone twins u)
        (λ q.
        subst (λ (w : ℕ). w < place_count fs) (sym (follow_hem u k q))
        (place_in fs ni nr after twins rows (place_count fs) (get_or after u 0) (next_inside u k)))
        (λ q. subst (λ (w : ℕ). w < place_count fs) (sym (follow_own u k q)) k)

    follow_onward : (u : ℕ) → u < place_count fs → alone twins u ≡ true → edge_at fs (follow u) ≡ onward fs (edge_at fs u)
    follow_onward u k q = ap (edge_at fs) (follow_hem u k q) ∙ onward_place fs ni nr after twins rows u k

    follow_reaches : (u : ℕ) → u < place_count fs → alone twins u ≡ true → alone twins (follow u) ≡ true
    follow_reaches u k q =
        hem_at (follow u) (follow_inside u k)
        ∙ ap (is_hem (hems es)) (follow_onward u k q)
        ∙ onward_hem fs ni nr (edge_at fs u) (sym (hem_at u k) ∙ q)

    follow_one :
        (u w : ℕ) → u < place_count fs → w < place_count fs → alone twins u ≡ true → alone twins w ≡ true → follow u ≡ follow w → u ≡ w
    follow_one u w k m p q z =
        place_one es (edges_once es ni nr) u w k m
        (onward_one fs ni nr (edge_at fs u) (edge_at fs w) (sym (hem_at u k) ∙ p) (sym (hem_at w m) ∙ q)
        (sym (follow_onward u k p) ∙ ap (edge_at fs) z ∙ follow_onward w m q))

    turned : Turned (faces_in cs s) twins (follow_row after twins)
    turned = record {
      hem_is = hem_at;
      inside = follow_inside;
      reaches = follow_reaches;
      onward_is = follow_onward;
      one_to_one = follow_one;
    }

pub rows_turn : RowsTurn
rows_turn cs s n l h d order old after twins r v = turned cs s n l h d order old after twins r v
