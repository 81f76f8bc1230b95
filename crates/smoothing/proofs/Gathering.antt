-- Of the rows in which edges were numbered the fronts are those of the rules, and so are the counts of neighbours. Assumes nothing.
use Rattle.std.proofs.Common.{◌≡◌, sym, ap, ◌∙◌, List, ℕ, ◌/◌, ◌≤◌, arith, length, take, length-take-le}
use lib.ListN.{length-map}
use lib.Seq.{sets, length-sets}
use Rattle.lists.proofs.Copies.{take_written}
use Rattle.mesh.specs.Limits.{width}
use Rattle.mesh.specs.Mesh.{Ring}
use Rattle.verdicts.specs.Edges.{Edge}
use Rattle.smoothed.specs.Smoothed.{edges_by_use, Smoothable}
use Rattle.smoothed.specs.Around.{wings, first_wing, second_wing}
use Rattle.smoothed.specs.Columns.{triangles, Triangular, edge_numbers, edge_lowers, edge_highers, edge_firsts, edge_seconds, edge_wings, degrees}
use Rattle.smoothed.proofs.Limits.{edges_few}
use Rattle.smoothed.proofs.Triangles.{length_triangles}
use Rattle.numbering.specs.Numbering.{Rows, Long, Numbered}
use Rattle.around.specs.Rows.{edges_in, degrees_in, EdgeRows}
use Rattle.around.proofs.Rules.{degree_rows, degrees_come}

-- the triangles have no more edges than corners
pub edges_most : (cs : List ℕ) → length (edges_by_use (triangles cs)) ≤ length cs / width
edges_most cs = omega (arith, edges_few (triangles cs), length_triangles cs)

-- what stands at the front of the rows
pub record Fronts (fs : List Ring) (r : Rows) (k : ℕ) : Type 0 where
  pub numbers : r.numbers ≡ edge_numbers fs
  pub lowers : take k r.lowers ≡ edge_lowers fs
  pub highers : take k r.highers ≡ edge_highers fs
  pub firsts : take k r.firsts ≡ edge_firsts fs
  pub seconds : take k r.seconds ≡ edge_seconds fs
  pub wings : take k r.wings ≡ edge_wings fs

one_front : (l l' xs : List ℕ) (k u : ℕ) → l' ≡ sets l 0 xs → length l ≡ u → length xs ≡ k → k ≤ u → take k l' ≡ xs
one_front l l' xs k u e f g h = ap (take k) e ∙ take_written l xs k g (omega arith)

module _ (cs : List ℕ) (before after : Rows) (k : ℕ) (w : Long before (length cs / width)) (d : Numbered (triangles cs) before after k) where
  abbrev es : List Edge
  es = edges_by_use (triangles cs)

  pub count_most : k ≤ length cs / width
  count_most = omega (arith, d.count, edges_most cs)

  pub fronts : Fronts (triangles cs) after k
  unfolding edge_lowers edge_highers edge_firsts edge_seconds edge_wings
  fronts =
      let fs : List Ring = triangles cs in
      record {
        numbers = d.numbers;
        lowers = one_front _ _ _ k _ d.lowers w.lowers (length-map es (λ (e : Edge). e.0) ∙ sym d.count) count_most;
        highers = one_front _ _ _ k _ d.highers w.highers (length-map es (λ (e : Edge). e.1) ∙ sym d.count) count_most;
        firsts = one_front _ _ _ k _ d.firsts w.firsts (length-map es (first_wing fs) ∙ sym d.count) count_most;
        seconds = one_front _ _ _ k _ d.seconds w.seconds (length-map es (second_wing fs) ∙ sym d.count) count_most;
        wings = one_front _ _ _ k _ d.wings w.wings (length-map es (λ (e : Edge). length (wings fs e)) ∙ sym d.count) count_most;
      }

  row_cut : (l l' xs : List ℕ) → l' ≡ sets l 0 xs → length l ≡ length cs / width → (k ≤ length l') × (k ≡ length (take k l'))
  row_cut l l' xs e f =
      let fits : k ≤ length l' = omega (arith, count_most, ap length e, length-sets l 0 xs) in
      (fits, sym (length-take-le k l' fits))

  -- the rows can be cut there
  pub lowers_cut : (k ≤ length after.lowers) × (k ≡ length (take k after.lowers))
  lowers_cut = row_cut before.lowers after.lowers (edge_lowers (triangles cs)) d.lowers w.lowers

  pub highers_cut : (k ≤ length after.highers) × (k ≡ length (take k after.highers))
  highers_cut = row_cut before.highers after.highers (edge_highers (triangles cs)) d.highers w.highers

  pub firsts_cut : (k ≤ length after.firsts) × (k ≡ length (take k after.firsts))
  firsts_cut = row_cut before.firsts after.firsts (edge_firsts (triangles cs)) d.firsts w.firsts

  pub seconds_cut : (k ≤ length after.seconds) × (k ≡ length (take k after.seconds))
  seconds_cut = row_cut before.seconds after.seconds (edge_seconds (triangles cs)) d.seconds w.seconds

  pub wings_cut : (k ≤ length after.wings) × (k ≡ length (take k after.wings))
  wings_cut = row_cut before.wings after.wings (edge_wings (triangles cs)) d.wings w.wings

-- counting neighbours asks no more, and gives what the rules say
module _ (cs : List ℕ) (n : ℕ) (r : Rows) (k : ℕ) (t : Triangular cs n) (s : Smoothable n (triangles cs)) (f : Fronts (triangles cs) r k) where
  pub countable : (ds : List ℕ) → length ds ≡ n → EdgeRows (length ds) (take k r.lowers) (take k r.highers)
  countable ds e =
      degree_rows n (triangles cs) f.lowers f.highers s (omega (arith, edges_most cs, t.few)) ds e

  pub counted :
      (ds ds' : List ℕ) → length ds ≡ n → ds' ≡ degrees_in (edges_in (take k r.lowers) (take k r.highers)) (length ds)
      → ds' ≡ degrees (triangles cs) n
  counted ds ds' e h = degrees_come n (triangles cs) f.lowers f.highers ds' (length ds) e h
