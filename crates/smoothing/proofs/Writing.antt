-- The result is written from the rows: what each step asks is there, and what they leave is what the rules say. Assumes nothing.
use Rattle.std.proofs.Common.{◌≡◌, sym, ap, ◌∙◌, false, List, ℕ, ◌*◌, ◌/◌, ◌≤◌, ◌<◌, arith, length, get_or, ltb, take, replicate, Float, ltb-false}
use lib.ListN.{length-map}
use lib.Seq.{sets, length-sets}
use Rattle.lists.proofs.Buckets.{length_front}
use Rattle.lists.specs.Lists.{some, joined, each}
use Rattle.lists.proofs.Parts.{some_false_at}
use Rattle.mesh.specs.Limits.{point_width, corner_limit, entry_limit, point_numbers}
use Rattle.mesh.specs.Mesh.{Ring}
use Rattle.verdicts.specs.Edges.{Edge}
use Rattle.smoothed.specs.Smoothed.{edges_by_use, smoothed_faces, used_in, all_used}
use Rattle.smoothed.specs.Around.{neighbours}
use Rattle.smoothed.specs.Positions.{smoothed_positions}
use Rattle.smoothed.specs.Columns.{triangles, edge_lowers, degrees, hem_neighbours, pulls}
use Rattle.smoothed.specs.Refusals.{cosine_count}
use Rattle.smoothed.proofs.Inside.{neighbours_some}
use Rattle.smoothed.proofs.Spans.{every_span_at}
use Rattle.numbering.specs.Numbering.{Rows}
use Rattle.around.specs.Rows.{edges_in, hems_in, HemRows, HemsAre}
use Rattle.around.proofs.Rules.{hem_rows, hems_come}
use Rattle.pulling.specs.Pulls.{pulls_in, PullRows}
use Rattle.pulling.proofs.Rules.{pull_rows, pulls_come}
use Rattle.moved.specs.Rows.{moved_list, middle_list, Movable, Halvable, Room}
use Rattle.moved.proofs.Conditions.{degrees_long, degree_at}
use Rattle.moved.proofs.Fitting.{movable, halvable, positions_written}
use Rattle.fourfold.specs.Working.{Given}
use Rattle.smoothing.specs.Working.{count, Writable}
use Rattle.smoothing.proofs.Gathering.{edges_most}

module _
    (ps : List Float) (cs : List ℕ) (ones twos : List Float) (r : Rows) (ds : List ℕ) (out : List Float) (corners : List ℕ)
    (w : Writable ps cs ones twos r ds out corners)
  where
    abbrev fs : List Ring
    fs = triangles cs

    abbrev n : ℕ
    n = count ps

    points : length ps ≡ point_width * n
    points = omega (arith, w.points)

    few : length (edges_by_use fs) ≤ corner_limit
    few = omega (arith, edges_most cs, w.triangular.few)

    long : length ds ≡ n
    long = ap length w.degrees_are ∙ degrees_long fs n

    lowers_long : length r.lowers ≡ length (edges_by_use fs)
    unfolding edge_lowers
    lowers_long = ap length w.lowers ∙ length-map (edges_by_use fs) (λ (k : Edge). k.0)

    -- each position has a neighbour, and no more than there are cosines
    least : (v : ℕ) → v < n → 1 ≤ length (neighbours fs v)
    unfolding all_used
    least v h = neighbours_some n fs w.smoothable v (every_span_at (used_in fs) n v w.used h)

    most : (v : ℕ) → v < n → length (neighbours fs v) ≤ cosine_count
    most v h =
        let d : some (ltb cosine_count) (degrees fs n) ≡ false = ap (some (ltb cosine_count)) (sym w.degrees_are) ∙ w.uncrowded in
        let here = get_or (degrees fs n) v 0 in
        omega (
          arith,
          ltb-false cosine_count here (some_false_at (ltb cosine_count) 0 (degrees fs n) v d (omega (arith, degrees_long fs n))),
          degree_at fs n v h,
        )

    -- the rows to work in, as they are made
    abbrev entries : List ℕ
    entries = take (length ds) (replicate entry_limit 0)

    abbrev sums : Float → List Float
    sums x = take (length ps) (replicate point_numbers x)

    pub entries_few : length ds ≤ entry_limit
    entries_few = omega (arith, long, w.triangular.entries)

    pub entries_long : length entries ≡ length ds
    entries_long = length_front 0 (length ds) entry_limit entries_few

    sums_long : (x : Float) → length (sums x) ≡ length ps
    sums_long x = length_front x (length ps) point_numbers (omega (arith, w.points, w.triangular.entries))

    pub hems_ask : HemRows r.lowers r.highers r.wings entries entries
    hems_ask =
        hem_rows n fs w.lowers w.highers w.smoothable few r.wings entries entries w.wings w.triangular.entries (entries_long ∙ long) (entries_long ∙ long)

    pub pulls_ask : (x : Float) → PullRows ps r.lowers r.highers (sums x)
    pulls_ask x = pull_rows n fs w.lowers w.highers ps points w.smoothable few (sums x) (sums_long x ∙ points)

    module _
        (first' second' : List ℕ) (sums' : List Float)
        (hems : HemsAre (length entries) (hems_in r.lowers r.highers r.wings) first' second')
        (pulled : sums' ≡ pulls_in (edges_in r.lowers r.highers) ps (length ps / point_width))
      where
        both : (first' ≡ hem_neighbours 0 fs n) × (second' ≡ hem_neighbours 1 fs n)
        both = hems_come n fs w.lowers w.highers r.wings first' second' (length entries) (entries_long ∙ long) w.wings hems

        sums_are : sums' ≡ pulls fs ps n
        sums_are = pulls_come n fs w.lowers w.highers ps points sums' pulled

        pub moved_asks : Movable ps ds first' second' sums' twos × Room out 0 (length ds)
        moved_asks = (
          rw (w.degrees_are, both.0, both.1, sums_are)
              (movable n fs w.smoothable w.triangular.entries ps twos points least (λ v h. omega (arith, most v h, w.twos_long))),
          omega (arith, long, w.room),
        )

        pub middles_ask :
            (out' : List Float) → out' ≡ sets out 0 (moved_list ps ds first' second' sums' twos)
            → Halvable ps r.lowers r.highers r.firsts r.seconds r.wings ds second' ones × Room out' (length ds) (length r.lowers)
        middles_ask out' e = (
          rw (w.lowers, w.highers, w.firsts, w.seconds, w.wings, w.degrees_are, both.1)
              (halvable n fs w.smoothable w.triangular.entries ps ones points least (λ v h. omega (arith, most v h, w.ones_long))),
          omega (arith, long, w.room, lowers_long, edges_most cs, ap length e, length-sets out 0 (moved_list ps ds first' second' sums' twos)),
        )

        pub both_written :
            (out' out'' : List Float)
            → out' ≡ sets out 0 (moved_list ps ds first' second' sums' twos)
            → out'' ≡ sets out' (point_width * length ds) (middle_list ps r.lowers r.highers r.firsts r.seconds r.wings ds second' ones)
            → out'' ≡ sets out 0 (smoothed_positions fs ps ones twos n)
        both_written out' out'' a b =
            rw (b, a, long, w.lowers, w.highers, w.firsts, w.seconds, w.wings, w.degrees_are, both.0, both.1, sums_are)
            (positions_written n fs w.smoothable w.triangular.entries ps ones twos out)

    pub faces_ask : Given cs r.numbers (length ds) corners
    faces_ask = rw long (record { triangular = w.triangular; numbers = w.numbers; room = w.corner_room })

    pub faces_written :
        (corners' : List ℕ) → corners' ≡ sets corners 0 (each joined (smoothed_faces (length ds) fs))
        → corners' ≡ sets corners 0 (each joined (smoothed_faces n fs))
    faces_written corners' h = h ∙ ap (λ (k : ℕ). sets corners 0 (each joined (smoothed_faces k fs))) long
