-- The call as a whole: the joins of an accepted mesh are divided into the panels of the rules. Assumes nothing.
use mathlib.Core.Path.{◌≡◌, refl, sym, ap, ◌∙◌, subst}
use mathlib.Core.Bool.{Bool, true}
use mathlib.Core.List.{List, [], ◌∷◌}
use Prim.Native.Nat.{ℕ, suc, ◌+◌, ◌*◌, ◌/◌, ◌≤◌, ◌<◌}
use native.Mathlib.Nat.{le_of_eq}
use native.Mathlib.Omega.{arith}
use lib.Dec.{ltb}
use lib.ListN.{length, get_or, take, replicate, length-replicate}
use lib.Seq.{length-take-le}
use borrow.Author.Tests.{ltb-true}
use Rattle.lists.specs.Lists.{sum}
use Rattle.lists.proofs.Parts.{every_at}
use Rattle.lists.specs.Putting.{Front, Written}
use Rattle.lists.proofs.Fronts.{front}
use Rattle.mesh.specs.Limits.{width, least_ring, corner_limit}
use Rattle.mesh.specs.Mesh.{Mesh, Ring, rings, faces}
use Rattle.mesh.specs.Listed.{listed_of}
use Rattle.mesh.specs.Table.{mesh_number}
use Rattle.mesh.proofs.Faces.{length_rings}
use Rattle.mesh.proofs.Accepted.{Accepted}
use Rattle.keys.specs.Keys.{uses_from}
use Rattle.keys.proofs.Valid.{keyable}
use Rattle.keys.proofs.Rows.{uses_few}
use Rattle.searching.specs.Search.{Join, panels_from}
use Rattle.searching.specs.Joins.{join_numbers, flat_joins}
use Rattle.searching.specs.Walk.{panels_below, Parted}
use Rattle.searching.specs.Rows.{Divisible}
use Rattle.searching.proofs.Nearby.{joins_back}
use Rattle.panels.specs.Panels.{joins, panels}
use Rattle.panels.specs.Contract.{PanelsAnswer}
use Rattle.panels.specs.Rows.{PanelRoom, JoinRoom}
use Rattle.panels.proofs.Joinable.{joins_below, uses_below, joins_few}
use Rattle.panels.proofs.Refusing.{number_0}

-- ---- the row of joins, and its panels

module _ (normals : Bool) (cs s flat lengths : List ℕ) (k : PanelRoom cs s flat lengths) where
  abbrev fs : List Ring
  fs = rings s cs

  abbrev flat_row : List ℕ
  flat_row = flat_joins (joins normals (rings s cs))

  row_few : length flat_row ≤ join_numbers
  row_few =
      let b : length flat_row ≤ 2 * length (uses_from normals 0 fs) = joins_few [] (uses_from normals 0 fs) in
      let c : length (uses_from normals 0 fs) ≤ corner_limit = uses_few normals cs s k.keyable in
      omega arith

  pub joins_room : (row : List ℕ) → join_numbers ≤ length row → JoinRoom cs s row
  joins_room row h = record { keyable = k.keyable; room = h }

  faces_count : length fs ≡ length s
  faces_count = length_rings s cs

  row_below : (e : ℕ) → e < length flat_row → get_or flat_row e 0 < length s
  row_below e i =
      let b : ltb (get_or flat_row e 0) (0 + length fs) ≡ true =
      every_at (λ x. ltb x (0 + length fs)) 0 flat_row e (joins_below (0 + length fs) [] (uses_from normals 0 fs) refl (uses_below normals 0 fs)) i in
      let c : get_or flat_row e 0 < 0 + length fs = ltb-true _ _ b in
      let d : length fs ≡ length s = faces_count in
      omega arith

  module _ (row row' : List ℕ) (n : ℕ) (w : Written flat_row row row' 0 n) (h : join_numbers ≤ length row) where
    row_within : n ≤ join_numbers
    row_within = let b : n ≡ 0 + length flat_row = w.next_is in let c : length flat_row ≤ join_numbers = row_few in omega arith

    pub row_inside : length row' ≡ length row → n ≤ length row'
    row_inside g = let b : n ≤ join_numbers = row_within in omega arith

    pub row_counts : length row' ≡ length row → n ≡ length (take n row')
    row_counts g = sym (length-take-le n row' (row_inside g))

    row_is : take n row' ≡ flat_row
    row_is =
        let f : Front row' flat_row n = front row w.is (omega (arith, w.next_is)) (omega (arith, w.next_is, row_few)) in
        f.is

    pub row_divides : Divisible (take n row') (length s) flat lengths
    row_divides =
        subst (λ (x : List ℕ). Divisible x (length s) flat lengths) (sym row_is)
        (record {
          whole = ap flat_joins (sym (joins_back (joins normals fs)));
          fits = row_few;
          below = row_below;
          small = k.keyable.sound.few;
          faces_room = k.faces_room;
          panels_room = k.panels_room;
        })

    panels_are : panels_below (length s) (length s) (take n row') ≡ panels normals fs
    unfolding panels
    panels_are =
        ap (λ (x : List ℕ). panels_below (length s) (length s) x) row_is
        ∙ ap (λ (js : List Join). panels_from (length s) 0 (length s) js []) (joins_back (joins normals fs))
        ∙ ap (λ (f : ℕ). panels_from f 0 f (joins normals fs) []) (sym faces_count)

    pub row_parted :
        (f p : ℕ) (flat' lengths' : List ℕ) → Parted (panels_below (length s) (length s) (take n row')) flat lengths flat' lengths' f p
        → Parted (panels normals fs) flat lengths flat' lengths' f p
    row_parted f p flat' lengths' r = subst (λ (ps : List (List ℕ)). Parted ps flat lengths flat' lengths' f p) panels_are r

-- a row of fixed length has room
pub whole_row : join_numbers ≤ length {A = ℕ} (replicate join_numbers 0)
whole_row = le_of_eq (sym (length-replicate {A = ℕ} join_numbers 0))

-- ---- an accepted mesh with room

pub sizes_count : (s : List ℕ) → ((k : ℕ) → k < length s → least_ring ≤ get_or s k 0) → length s ≤ sum s
sizes_count [] h = omega arith
sizes_count (n ∷ s) h =
    let a : least_ring ≤ n = h 0 (omega arith) in
    let b : length s ≤ sum s = sizes_count s (λ k u. h (suc k) (omega arith)) in
    omega arith

module _ (m : Mesh) (a : Accepted m) (flat lengths : List ℕ) (g : length m.corners / width ≤ length flat) (l : length m.corners / width ≤ length lengths) where
  -- there are at most as many faces as corners
  pub panels_room : PanelRoom m.corners m.sizes flat lengths
  panels_room =
      let s : length m.sizes ≤ sum m.sizes = sizes_count m.sizes a.least in
      let t : width * sum m.sizes ≡ length m.corners = a.sound.adds in
      record { keyable = keyable m a; faces_room = omega arith; panels_room = omega arith }

  pub answered :
      (normals : Bool) (k f p : ℕ) (flat' lengths' : List ℕ) → k ≡ mesh_number m → k ≡ 0
      → Parted (panels normals (rings m.sizes m.corners)) flat lengths flat' lengths' f p
      → PanelsAnswer m normals (listed_of flat lengths) (listed_of flat' lengths') (record { number = 0; faces = f; panels = p })
  unfolding faces
  answered normals k f p flat' lengths' e z r = record {
    number = number_0 m normals flat lengths (sym e ∙ z) g l;
    face_count = r.faces_are;
    panel_count = r.count_is;
    flat = r.flat_is;
    lengths = r.lengths_are;
  }
