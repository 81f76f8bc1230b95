-- The rows of a mesh are as the code asks; and what it writes, both lists, is what smoothing gives. Assumes nothing.
use Rattle.std.proofs.Common.{◌≡◌, ℕ, zero, suc, ◌+◌, ◌-◌, ◌*◌, ◌<◌, ◌≤◌, List, [], ◌∷◌, map, length, get_or, sym, refl, ap, ◌∙◌, subst, le_of_suc-le-suc, not-suc-le-zero, arith, Float}
use lib.ListN.{length-map}
use lib.Seq.{sets}
use Rattle.lists.specs.Lists.{each, span}
use Rattle.lists.proofs.Buckets.{start}
use Rattle.lists.proofs.Writing.{sets_append}
use Rattle.mesh.specs.Limits.{point_width, entry_limit}
use Rattle.mesh.specs.Mesh.{Ring, missing}
use Rattle.verdicts.specs.Edges.{Edge}
use Rattle.smoothed.specs.Smoothed.{edges_by_use, Smoothable}
use Rattle.smoothed.specs.Around.{condition, neighbours, along_hem, wings, first_wing, second_wing}
use Rattle.smoothed.specs.Positions.{axes, pull, moved_by_lem, middle_of, smoothed_positions}
use Rattle.smoothed.specs.Columns.{edge_lowers, edge_highers, edge_firsts, edge_seconds, edge_wings, degrees, hem_neighbours, pulls}
use Rattle.smoothed.proofs.All.{All, none, more}
use Rattle.smoothed.proofs.Inside.{edges_below, all_at, wings_below, wings_some}
use Rattle.moved.specs.Rows.{moved_list, middle_list, Counted, Movable, PositionRow, Halvable}
use Rattle.moved.proofs.Filling.{begins_at}
use Rattle.moved.proofs.Conditions.{degrees_long, hems_long, degree_at, hem_at, hem_below}
use Rattle.moved.proofs.Moves.{moved_is}
use Rattle.moved.proofs.Middles.{edge_at, edge_known, lower_at, higher_at, first_at, second_at, middles_are}

-- what holds of each holds of the one at a place
at_place : {P : ℕ → Type 0} {l : List ℕ} → All P l → (i : ℕ) → i < length l → P (get_or l i 0)
at_place none i h = absurd (not-suc-le-zero h)
at_place (more p r) zero h = p
at_place (more p r) (suc i) h = at_place r i (le_of_suc-le-suc h)

-- a number that is not missing stands in the list
present : (l : List ℕ) (i : ℕ) → (get_or l i missing ≡ missing → ⊥) → i < length l
present [] i h = absurd (h refl)
present (x ∷ l) zero h = omega arith
present (x ∷ l) (suc i) h = let p : i < length l = present l i h in omega arith

module _ (n : ℕ) (fs : List Ring) (s : Smoothable n fs) (few : n ≤ entry_limit) where
  abbrev first : List ℕ
  first = hem_neighbours 0 fs n

  abbrev second : List ℕ
  second = hem_neighbours 1 fs n

  -- ---- what the code asks

  counted :
      (cosines : List Float)
      → ((v : ℕ) → v < n → 1 ≤ length (neighbours fs v)) → ((v : ℕ) → v < n → length (neighbours fs v) ≤ length cosines)
      → Counted (degrees fs n) second cosines
  counted cosines least most =
      let d : length (degrees fs n) ≡ n = degrees_long fs n in
      record {
        seconds = hems_long fs n 1 ∙ sym d;
        some = λ v h. let i : v < n = omega arith in subst (λ (k : ℕ). 1 ≤ k) (sym (degree_at fs n v i)) (least v i);
        few = λ v h. let i : v < n = omega arith in subst (λ (k : ℕ). k ≤ length cosines) (sym (degree_at fs n v i)) (most v i);
      }

  -- the hem neighbour number i, where there are two
  hem_row :
      (v i : ℕ) → i ≤ 1 → v < n → (get_or second v 0 ≡ missing → ⊥) → get_or (hem_neighbours i fs n) v 0 < length (degrees fs n)
  hem_row v i l h m =
      let p : 1 < length (along_hem fs v) = present (along_hem fs v) 1 (λ e. m (hem_at fs n v h 1 ∙ e)) in
      let b : get_or (along_hem fs v) i missing < n = hem_below n fs s v i (omega arith) in
      omega (arith, b, hem_at fs n v h i, degrees_long fs n)

  pub movable :
      (ps twos : List Float) → length ps ≡ point_width * n
      → ((v : ℕ) → v < n → 1 ≤ length (neighbours fs v)) → ((v : ℕ) → v < n → length (neighbours fs v) ≤ length twos)
      → Movable ps (degrees fs n) first second (pulls fs ps n) twos
  unfolding pulls start
  movable ps twos long least most =
      let d : length (degrees fs n) ≡ n = degrees_long fs n in
      record {
        counted = counted twos least most;
        points = omega arith;
        firsts = hems_long fs n 0 ∙ sym d;
        sums = begins_at (λ a v. pull fs ps a v) n ∙ ap (λ (k : ℕ). 3 * k) (sym d);
        first_below = λ v h m. hem_row v 0 (omega arith) (omega arith) m;
        second_below = λ v h m. hem_row v 1 (omega arith) (omega arith) m;
      }

  abbrev edges : ℕ
  edges = length (edges_by_use fs)

  abbrev at : ℕ → Edge
  at e = edge_at fs e

  -- a row with an entry for each edge
  rowed :
      (f : Edge → ℕ) (row : List ℕ) → length row ≡ edges → ((e : ℕ) → e < edges → get_or row e 0 ≡ f (at e))
      → ((e : ℕ) → e < edges → f (at e) < n) → PositionRow (length (edge_lowers fs)) (length (degrees fs n)) row
  unfolding edge_lowers
  rowed f row l is below =
      let d : length (degrees fs n) ≡ n = degrees_long fs n in
      let m : length (map (λ (k : Edge). k.0) (edges_by_use fs)) ≡ edges = length-map (edges_by_use fs) (λ (k : Edge). k.0) in
      record {
        long = l ∙ sym m;
        below = λ e h. let i : e < edges = omega arith in omega (arith, is e i, below e i);
      }

  pub halvable :
      (ps ones : List Float) → length ps ≡ point_width * n
      → ((v : ℕ) → v < n → 1 ≤ length (neighbours fs v)) → ((v : ℕ) → v < n → length (neighbours fs v) ≤ length ones)
      → Halvable ps (edge_lowers fs) (edge_highers fs) (edge_firsts fs) (edge_seconds fs) (edge_wings fs) (degrees fs n) second ones
  unfolding edge_lowers edge_highers edge_firsts edge_seconds edge_wings
  halvable ps ones long least most =
      let es = edges_by_use fs in
      record {
        counted = counted ones least most;
        points = omega (arith, degrees_long fs n);
        lower = rowed (λ (k : Edge). k.0) (edge_lowers fs) (length-map es (λ (k : Edge). k.0)) (λ e h. lower_at fs e h) (λ e h. (ends e h).0);
        higher = rowed (λ (k : Edge). k.1) (edge_highers fs) (length-map es (λ (k : Edge). k.1)) (λ e h. higher_at fs e h) (λ e h. (ends e h).1);
        first_wing_is = rowed (first_wing fs) (edge_firsts fs) (length-map es (first_wing fs)) (λ e h. first_at fs e h) (λ e h. first_below e h);
        second_wing_is = rowed (second_wing fs) (edge_seconds fs) (length-map es (second_wing fs)) (λ e h. second_at fs e h) (λ e h. second_below e h);
        counts = length-map es (λ (k : Edge). length (wings fs k)) ∙ sym (length-map es (λ (k : Edge). k.0));
      }
    where
      ends : (e : ℕ) → e < edges → ((at e).0 < n) × ((at e).1 < n)
      ends e h = all_at (edges_below n fs s) (at e) (edge_known fs e h)

      first_below : (e : ℕ) → e < edges → first_wing fs (at e) < n
      first_below e h = at_place (wings_below n fs s (at e)) 0 (wings_some fs (at e) (edge_known fs e h))

      second_below : (e : ℕ) → e < edges → second_wing fs (at e) < n
      second_below e h =
          at_place (wings_below n fs s (at e)) (length (wings fs (at e)) - 1) (omega (arith, wings_some fs (at e) (edge_known fs e h)))

  -- ---- what comes of it

  -- both lists, one behind the other, are the positions of the rules
  pub positions_written :
      (ps ones twos out : List Float)
      → sets
      (sets out 0 (moved_list ps (degrees fs n) first second (pulls fs ps n) twos))
      (point_width * n)
      (middle_list ps (edge_lowers fs) (edge_highers fs) (edge_firsts fs) (edge_seconds fs) (edge_wings fs) (degrees fs n) second ones)
      ≡ sets out 0 (smoothed_positions fs ps ones twos n)
  unfolding smoothed_positions start
  positions_written ps ones twos out =
      let old : List Float = each (λ v. axes (λ a. moved_by_lem fs ps ones twos (condition fs v) a v)) (span 0 n) in
      let new : List Float = each (λ k. axes (λ a. middle_of fs ps ones twos a k)) (edges_by_use fs) in
      let b : length old ≡ 3 * n = begins_at (λ a v. moved_by_lem fs ps ones twos (condition fs v) a v) n in
      let k : 3 * n ≡ 0 + length old = omega arith in
      rw (moved_is n fs s few ps ones twos, middles_are n fs s few ps ones twos)
      (ap (λ (j : ℕ). sets (sets out 0 old) j new) k ∙ sym (sets_append out 0 old new))
