-- The steps one after the other: the order groups the uses edge by edge, so the two scans come to the verdict and to the hem edges.
-- Assumes nothing.
use mathlib.Core.Path.{◌≡◌, sym, ap, ◌∙◌, fun_ext}
use mathlib.Core.Bool.{false, cond}
use mathlib.Core.List.{List, map, map-map}
use Prim.Native.Nat.{ℕ}
use native.Mathlib.Nat.{zero-add}
use lib.ListN.{length, length-map}
use lib.Seq.{sets}
use Rattle.lists.specs.Lists.{each}
use Rattle.mesh.specs.Mesh.{rings}
use Rattle.uses.specs.Uses.{Gathered}
use Rattle.uses.proofs.Sides.{uses_inside}
use Rattle.uses.proofs.Reading.{use_at}
use Rattle.uses.proofs.Gathering.{uses_order}
use Rattle.verdicts.specs.Edges.{Edge, keys, edges_of, Irregular, Regular, Oriented, Closed, verdict, hems}
use Rattle.edges.specs.Answers.{verdict_of, start, end, Hemmed}
use Rattle.scans.specs.Runs.{Put, start_at, end_at, last_odd, tallied, tally_of}
use Rattle.edges.specs.Runs.{Edged, named}
use Rattle.edges.specs.declared.ShellCondition.{ShellCondition}
use Rattle.scans.specs.declared.Tally.{Tally}
use Rattle.edges.proofs.Grouped.{group_at, sorted_uses}
use Rattle.edges.proofs.Judging.{judged_uses}
use Rattle.edges.proofs.LastUses.{hem_uses, start_is, end_is}

module _ (cs s : List ℕ) (n : ℕ) (e : Edged cs s n) (l h d order : List ℕ) (g : Gathered n (edges_of (rings s cs)) l h d order) where
  abbrev es : List Edge
  es = edges_of (rings s cs)

  grouped_order : order ≡ each (group_at es) (keys es)
  grouped_order = uses_order cs s n e l h d order g ∙ sorted_uses es n (uses_inside cs s n e)

  -- the first scan comes to the verdict
  pub uses_verdict : (t : Tally) → t ≡ tallied l h d (tally_of 0 0 false false false) order → named t ≡ verdict es
  unfolding named verdict
  uses_verdict t q =
      ap (λ (x : Tally). cond x.thrice Irregular (cond x.alike Regular (cond x.once Oriented Closed)))
      (q
      ∙ (λ i. tallied (g.columns.lower i) (g.columns.higher i) (g.columns.down i) (tally_of 0 0 false false false) (grouped_order i))
      ∙ judged_uses es)

  -- the second to the hem edges
  hem_order : map (use_at es) (last_odd l h false order) ≡ hems es
  hem_order = (λ i. map (use_at es) (last_odd (g.columns.lower i) (g.columns.higher i) false (grouped_order i))) ∙ hem_uses es

  starts_are : map (start_at l h d) (last_odd l h false order) ≡ map start (hems es)
  starts_are =
      (λ i. map (start_at (g.columns.lower i) (g.columns.higher i) (g.columns.down i)) (last_odd l h false order))
      ∙ ap (λ (f : ℕ → ℕ). map f (last_odd l h false order)) (fun_ext (start_is es))
      ∙ sym (map-map start (use_at es) (last_odd l h false order))
      ∙ ap (map start) hem_order

  ends_are : map (end_at l h d) (last_odd l h false order) ≡ map end (hems es)
  ends_are =
      (λ i. map (end_at (g.columns.lower i) (g.columns.higher i) (g.columns.down i)) (last_odd l h false order))
      ∙ ap (λ (f : ℕ → ℕ). map f (last_odd l h false order)) (fun_ext (end_is es))
      ∙ sym (map-map end (use_at es) (last_odd l h false order))
      ∙ ap (map end) hem_order

  module _ (k : ℕ) (starts ends starts' ends' : List ℕ) (p : Put l h d (last_odd l h false order) 0 k starts ends starts' ends') where
    hem_total : k ≡ length (hems es)
    hem_total = p.behind ∙ zero-add (length (last_odd l h false order)) ∙ sym (length-map (last_odd l h false order) (use_at es)) ∙ ap length hem_order

    hem_starts : starts' ≡ sets starts 0 (map start (hems es))
    hem_starts = p.starting ∙ ap (sets starts 0) starts_are

    hem_ends : ends' ≡ sets ends 0 (map end (hems es))
    hem_ends = p.ending ∙ ap (sets ends 0) ends_are

  pub uses_hemmed :
      (starts ends starts' ends' : List ℕ) (k : ℕ) (v : ShellCondition) → verdict_of v ≡ verdict es → Put l h d (last_odd l h false order) 0 k starts ends starts' ends'
      → Hemmed es starts ends starts' ends' (record { count = k; verdict = v })
  uses_hemmed starts ends starts' ends' k v a p = record {
    count = hem_total k starts ends starts' ends' p;
    verdict = a;
    starting = hem_starts k starts ends starts' ends' p;
    ending = hem_ends k starts ends starts' ends' p;
  }
