-- What the functions of the crate hand to one another; a caller needs none of it. Assumes nothing.
use Rattle.std.specs.Prelude.{◌≡◌, true, false, List, [], ◌∷◌, map, ℕ, ◌+◌, ◌*◌, ◌/◌, ◌%◌, ◌≤◌, length, ltb, Float}
use Rattle.std.proofs.lemmas.List.Edits.{sets}
use Rattle.lists.specs.Lists.{some, joined, each}
use Rattle.mesh.specs.Limits.{point_width, width, least_ring, entry_limit, face_limit, corner_numbers}
use Rattle.mesh.specs.Table.{when, first_of, lent, short, after}
use Rattle.smoothed.specs.Smoothed.{fold, smoothed_faces, smoothed_count, Smoothable, all_used}
use Rattle.smoothed.specs.Positions.{smoothed_positions}
use Rattle.smoothed.specs.Promise.{most_faces}
use Rattle.smoothed.specs.Refusals.{Result, cosine_count}
use Rattle.smoothed.specs.Columns.{triangles, Triangular, edge_numbers, edge_lowers, edge_highers, edge_firsts, edge_seconds, edge_wings, degrees}
use Rattle.numbering.specs.Numbering.{Rows, Long}
use Rattle.smoothing.specs.declared.Smoothed.{Smoothed}

-- a refusal: each count beside the number is 0
abbrev pub refused_by : ℕ → Smoothed
refused_by n = record { number = n; positions = 0; corners = 0; faces = 0 }

-- the rows that are left once it is known how many neighbours each position has (ds): c numbers of corners, f faces, and the room of
-- the three lists
unfoldable pub late_number : List ℕ → ℕ → ℕ → ℕ → ℕ → ℕ → ℕ
late_number ds c f p q s =
    first_of
    (when (some (ltb cosine_count) ds) 17
    ∷ when (ltb most_faces f) 1
    ∷ when (short (lent p (point_width * (length ds + c / width)) ∷ lent q (fold * c) ∷ lent s (fold * f) ∷ [])) 9
    ∷ [])

-- n positions, c numbers of corners and f faces within the limits
pub record Few (n c f : ℕ) : Type 0 where
  pub positions : n ≤ entry_limit
  pub corners : c ≤ corner_numbers
  pub faces : f ≤ face_limit

abbrev pub count : List Float → ℕ
count ps = length ps / point_width

-- triangles that can be smoothed, each position in one of them, and cosines
pub record Checked (ps : List Float) (cs s : List ℕ) (ones twos : List Float) : Type 0 where
  pub triangular : Triangular cs (count ps)
  pub points : length ps % point_width ≡ 0
  pub faces : length cs ≡ width * least_ring * length s
  pub few : length s ≤ face_limit
  pub smoothable : Smoothable (count ps) (triangles cs)
  pub used : all_used (count ps) (triangles cs) ≡ true
  pub ones_long : length ones ≡ cosine_count
  pub twos_long : length twos ≡ cosine_count

-- rows to work in: a number for each corner, and one for each position
pub record Room (ps : List Float) (cs : List ℕ) (r : Rows) (ds : List ℕ) : Type 0 where
  pub long : Long r (length cs / width)
  pub degrees_long : length ds ≡ count ps

-- what a mesh that is checked comes to
pub record Done
    (ps : List Float) (cs s : List ℕ) (ones twos : List Float) (before afterwards : Result) (answer : Smoothed) : Type 0 where
  pub number :
      answer.number
      ≡ late_number
      (degrees (triangles cs) (count ps))
      (length cs)
      (length s)
      (length before.positions)
      (length before.corners)
      (length before.sizes)
  pub position_count_is : answer.positions ≡ after answer.number (smoothed_count (count ps) (triangles cs)) 0
  pub corner_count_is : answer.corners ≡ after answer.number (fold * (length cs / width)) 0
  pub face_count : answer.faces ≡ after answer.number (fold * length s) 0
  pub positions :
      afterwards.positions
      ≡ after answer.number (sets before.positions 0 (smoothed_positions (triangles cs) ps ones twos (count ps))) before.positions
  pub corners :
      afterwards.corners
      ≡ after answer.number (sets before.corners 0 (each joined (smoothed_faces (count ps) (triangles cs)))) before.corners
  pub sizes :
      afterwards.sizes
      ≡ after answer.number (sets before.sizes 0 (map length (smoothed_faces (count ps) (triangles cs)))) before.sizes

-- the edges of the triangles and how many neighbours each position has are found, none has too many, and there is room
pub record Writable
    (ps : List Float) (cs : List ℕ) (ones twos : List Float) (r : Rows) (ds : List ℕ) (out : List Float) (corners : List ℕ)
    : Type 0 where
  pub triangular : Triangular cs (count ps)
  pub points : length ps % point_width ≡ 0
  pub smoothable : Smoothable (count ps) (triangles cs)
  pub used : all_used (count ps) (triangles cs) ≡ true
  pub ones_long : length ones ≡ cosine_count
  pub twos_long : length twos ≡ cosine_count
  pub numbers : r.numbers ≡ edge_numbers (triangles cs)
  pub lowers : r.lowers ≡ edge_lowers (triangles cs)
  pub highers : r.highers ≡ edge_highers (triangles cs)
  pub firsts : r.firsts ≡ edge_firsts (triangles cs)
  pub seconds : r.seconds ≡ edge_seconds (triangles cs)
  pub wings : r.wings ≡ edge_wings (triangles cs)
  pub degrees_are : ds ≡ degrees (triangles cs) (count ps)
  pub uncrowded : some (ltb cosine_count) ds ≡ false
  pub room : point_width * (count ps + length cs / width) ≤ length out
  pub corner_room : fold * length cs ≤ length corners

-- positions and corners are written
pub record Filled
    (ps : List Float) (cs : List ℕ) (ones twos : List Float) (out out' : List Float) (corners corners' : List ℕ) : Type 0 where
  pub positions_are : out' ≡ sets out 0 (smoothed_positions (triangles cs) ps ones twos (count ps))
  pub corners_are : corners' ≡ sets corners 0 (each joined (smoothed_faces (count ps) (triangles cs)))
