-- What is gathered from the rows of the edges by first use is what the rules of smoothing say. Assumes nothing.
use Rattle.std.proofs.Common.{◌≡◌, sym, ap, ap₂, ◌∙◌, subst, List, ℕ, ◌*◌, ◌/◌, ◌≤◌, arith, length, Float}
use Rattle.mesh.specs.Limits.{point_width, corner_limit}
use Rattle.mesh.specs.Mesh.{Ring}
use Rattle.smoothed.specs.Smoothed.{edges_by_use, Smoothable}
use Rattle.smoothed.specs.Around.{neighbours}
use Rattle.smoothed.specs.Positions.{pull}
use Rattle.smoothed.specs.Columns.{edge_lowers, edge_highers, pulls}
use Rattle.around.specs.Rows.{edges_in, neighbours_in, EdgeRows}
use Rattle.around.proofs.Rules.{edges_are, edge_rows}
use Rattle.pulling.specs.Pulls.{pulls_in, PullRows}

pulls_are : (fs : List Ring) (ps : List Float) (n : ℕ) → pulls_in (edges_in (edge_lowers fs) (edge_highers fs)) ps n ≡ pulls fs ps n
unfolding pulls_in pulls pull neighbours_in neighbours
pulls_are fs ps n = ap (λ es. pulls_in es ps n) (edges_are fs)

module _
    (n : ℕ) (fs : List Ring) {ls hs : List ℕ} (low : ls ≡ edge_lowers fs) (high : hs ≡ edge_highers fs)
    (ps : List Float) (long : length ps ≡ point_width * n)
  where
    count : length ps / point_width ≡ n
    count = omega arith

    -- what the pass asks of the rows
    pub pull_rows : Smoothable n fs → length (edges_by_use fs) ≤ corner_limit → (sums : List Float) → length sums ≡ point_width * n → PullRows ps ls hs sums
    pull_rows s few sums e = record {
      whole = omega arith;
      edges = subst (λ (k : ℕ). EdgeRows k ls hs) (sym count) (edge_rows n fs low high s few);
      sums_long = e ∙ sym long;
    }

    -- and what comes of them
    pub pulls_come : (l : List Float) → l ≡ pulls_in (edges_in ls hs) ps (length ps / point_width) → l ≡ pulls fs ps n
    pulls_come l h =
        h ∙ ap (pulls_in (edges_in ls hs) ps) count ∙ ap₂ (λ (a b : List ℕ). pulls_in (edges_in a b) ps n) low high ∙ pulls_are fs ps n
