-- What a mesh that is checked comes to: a refusal by a row that was left, or a result that is written. Assumes nothing.
use Rattle.std.proofs.Common.{◌≡◌, refl, sym, ap, ap₂, ◌∙◌, List, map, ℕ, ◌+◌, ◌*◌, ◌/◌, ◌≤◌, arith, length, take, replicate, Float}
use lib.Seq.{sets}
use Rattle.mesh.specs.Limits.{width, least_ring}
use Rattle.mesh.proofs.After.{after_refused}
use Rattle.smoothed.specs.Smoothed.{fold, edges_by_use, smoothed_faces}
use Rattle.smoothed.specs.Columns.{triangles, degrees}
use Rattle.smoothed.specs.Refusals.{Result, lists}
use Rattle.smoothed.proofs.Triangles.{length_triangles}
use Rattle.numbering.specs.Numbering.{Rows, rows}
use Rattle.moved.proofs.Conditions.{degrees_long}
use Rattle.fourfold.proofs.Fours.{sizes_are}
use Rattle.smoothing.specs.declared.Smoothed.{Smoothed}
use Rattle.smoothing.specs.Working.{count, refused_by, late_number, Checked, Done, Writable, Filled}
use Rattle.smoothing.proofs.Rows.{LatePassed, late_passed}
use Rattle.smoothing.proofs.Gathering.{Fronts}

module _
    (ps : List Float) (cs s : List ℕ) (ones twos : List Float) (c : Checked ps cs s ones twos)
    (ds : List ℕ) (d : ds ≡ degrees (triangles cs) (count ps))
  where
    long : length ds ≡ count ps
    long = ap length d ∙ degrees_long (triangles cs) (count ps)

    -- the number of the rows that are left
    number_is :
        (k : ℕ) (b : Result) → k ≡ late_number ds (length cs) (length s) (length b.positions) (length b.corners) (length b.sizes)
        → k
        ≡ late_number
        (degrees (triangles cs) (count ps))
        (length cs)
        (length s)
        (length b.positions)
        (length b.corners)
        (length b.sizes)
    number_is k b e =
        e
        ∙ ap
        (λ (l : List ℕ). late_number l (length cs) (length s) (length b.positions) (length b.corners) (length b.sizes))
        d

    pub done_refused :
        (b : Result) (answer : Smoothed) (k : ℕ)
        → k ≡ late_number ds (length cs) (length s) (length b.positions) (length b.corners) (length b.sizes)
        → (k ≡ 0 → ⊥) → answer ≡ refused_by k → Done ps cs s ones twos b b answer
    done_refused b answer k e h r = rw r (record {
      number = number_is k b e;
      position_count_is = sym (after_refused k _ 0 h);
      corner_count_is = sym (after_refused k _ 0 h);
      face_count = sym (after_refused k _ 0 h);
      positions = sym (after_refused k _ b.positions h);
      corners = sym (after_refused k _ b.corners h);
      sizes = sym (after_refused k _ b.sizes h);
    })

    -- no row is left: there is room
    module _ (b : Result) (z : 0 ≡ late_number ds (length cs) (length s) (length b.positions) (length b.corners) (length b.sizes)) where
      free : LatePassed ds (length cs) (length s) (length b.positions) (length b.corners) (length b.sizes)
      free = late_passed ds (length cs) (length s) (length b.positions) (length b.corners) (length b.sizes) (sym z)

      pub sizes_room : fold * length s ≤ length b.sizes
      sizes_room = free.sizes

      pub writable :
          (r : Rows) (k : ℕ) → Fronts (triangles cs) r k
          → Writable ps cs ones twos
          (rows r.numbers (take k r.lowers) (take k r.highers) (take k r.firsts) (take k r.seconds) (take k r.wings))
          ds b.positions b.corners
      writable r k f = record {
        triangular = c.triangular;
        points = c.points;
        smoothable = c.smoothable;
        used = c.used;
        ones_long = c.ones_long;
        twos_long = c.twos_long;
        numbers = f.numbers;
        lowers = f.lowers;
        highers = f.highers;
        firsts = f.firsts;
        seconds = f.seconds;
        wings = f.wings;
        degrees_are = d;
        uncrowded = free.uncrowded;
        room = omega (arith, free.positions, long);
        corner_room = free.corners;
      }

      new_sizes : replicate (fold * length s) least_ring ≡ map length (smoothed_faces (count ps) (triangles cs))
      new_sizes =
          let e : length s ≡ length (triangles cs) = omega (arith, c.faces, length_triangles cs) in
          ap (λ (k : ℕ). replicate (fold * k) least_ring) e ∙ sym (sizes_are (count ps) (triangles cs))

      pub done_written :
          (p : List Float) (q l : List ℕ) (answer : Smoothed) (k : ℕ) → k ≡ length (edges_by_use (triangles cs))
          → Filled ps cs ones twos b.positions p b.corners q → l ≡ sets b.sizes 0 (replicate (fold * length s) least_ring)
          → answer ≡ (record { number = 0; positions = length ds + k; corners = fold * (length cs / width); faces = fold * length s })
          → Done ps cs s ones twos b (lists p q l) answer
      done_written p q l answer k e f g a = rw a (record {
        number = number_is 0 b z;
        position_count_is = ap₂ (λ (x y : ℕ). x + y) long e;
        corner_count_is = refl;
        face_count = refl;
        positions = f.positions_are;
        corners = f.corners_are;
        sizes = g ∙ ap (sets b.sizes 0) new_sizes;
      })
