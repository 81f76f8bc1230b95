-- What the list of hems comes to, for whoever sews along them: where the verdict is Oriented or Closed, of any points; and how long an edge
-- and a hem can be. Proved in proofs/. Assumes nothing.
use Rattle.std.specs.Prelude.{◌≡◌, true, false, List, [], ℕ, ◌*◌, ◌^◌, ◌≤◌, ◌<◌, length, get_or, ℤ}
use Rattle.lists.specs.Lists.{has, sum}
use Rattle.mesh.specs.Limits.{corner_limit}
use Rattle.mesh.specs.Mesh.{Mesh, Ring, faces}
use Rattle.mesh.specs.Table.{mesh_number}
use Rattle.edges.specs.Edges.{Edge, ring_edges, edges_of, verdict, hems}
use Rattle.turning.specs.Turning.{house_wires_of}
use Rattle.turning.specs.Promise.{Fit}
use Rattle.panels.specs.Panels.{panels}
use Rattle.onepanel.specs.Promise.{Along, Owns}
use Rattle.roots.specs.Roots.{Root}
use Rattle.roots.specs.Distances.{Point, squared_distance, Reached}
use Rattle.hemlist.specs.HemList.{point_of, edge_length, hem_length, face_of, hem_panel, hem_panels, hem_edges, hem_lengths, beyond_reach}
use Rattle.order.specs.Same.{Turned}

-- ---- the hems of one mesh

module _ (fs : List Ring) where
  -- how many hems there are; hem k, as its positions; the faces of the panel that the list names beside it
  abbrev pub hem_count : ℕ
  hem_count = length (house_wires_of fs)

  abbrev pub hem_at : ℕ → List ℕ
  hem_at k = get_or (house_wires_of fs) k []

  abbrev pub panel_at : ℕ → List ℕ
  panel_at k = get_or (panels false fs) (get_or (hem_panels fs) k 0) []

-- one entry for each hem in each of the three lists
pub record OneEntryEach (at : ℕ → Point) (fs : List Ring) : Type 0 where
  pub panels : length (hem_panels fs) ≡ hem_count fs
  pub edges : length (hem_edges fs) ≡ hem_count fs
  pub lengths : length (hem_lengths at fs) ≡ hem_count fs

-- entry k of each list is that of hem k
pub record EntriesOf (at : ℕ → Point) (fs : List Ring) (k : ℕ) : Type 0 where
  pub panel : get_or (hem_panels fs) k 0 ≡ hem_panel fs (hem_at fs k)
  pub edges : get_or (hem_edges fs) k 0 ≡ length (ring_edges (hem_at fs k))
  pub long : get_or (hem_lengths at fs) k 0 ≡ hem_length at (hem_at fs k)

-- the ring w has the same three entries as the ring v
pub record SameEntries (at : ℕ → Point) (fs : List Ring) (v w : List ℕ) : Type 0 where
  pub panel : hem_panel fs w ≡ hem_panel fs v
  pub edges : length (ring_edges w) ≡ length (ring_edges v)
  pub long : hem_length at w ≡ hem_length at v

pub record HemsOf (at : ℕ → Point) (fs : List Ring) : Type 0 where
  pub one_entry_each : OneEntryEach at fs
  pub in_order : (k : ℕ) → k < hem_count fs → EntriesOf at fs k
  -- the edge counts over all hems add up to the number of hem edges
  pub edges_add_up : sum (hem_edges fs) ≡ length (hems (edges_of fs))
  -- the number beside a hem is that of a panel
  pub a_panel : (k : ℕ) → k < hem_count fs → get_or (hem_panels fs) k 0 < length (panels false fs)
  -- all edges of a hem lie in it, without the normals setting: each is used by a face, and every face that uses one is in it
  pub of_a_face : (k : ℕ) (e : Edge) → Along fs k e → Owns fs (face_of fs e) e
  pub in_panel : (k : ℕ) (e : Edge) → Along fs k e → (x : ℕ) → Owns fs x e → has x (panel_at fs k) ≡ true
  -- where a hem begins changes nothing
  pub begun_anywhere : (k : ℕ) (w : List ℕ) → Turned (hem_at fs k) w → SameEntries at fs (hem_at fs k) w

abbrev pub HemsHold : Type 0
HemsHold = (at : ℕ → Point) (fs : List Ring) → Fit (verdict (edges_of fs)) → HemsOf at fs

-- ---- lengths

-- an edge's length is the root of its squared distance, cut to a whole number, and there is only one such number
pub record IsRoot (at : ℕ → Point) (e : Edge) : Type 0 where
  pub root : Root (squared_distance (at e.0) (at e.1)) (edge_length at e)
  pub only : (r : ℕ) → Root (squared_distance (at e.0) (at e.1)) r → r ≡ edge_length at e

abbrev pub EdgesAreRoots : Type 0
EdgesAreRoots = (at : ℕ → Point) (e : Edge) → IsRoot at e

-- the longest edge there can be: the whole root of three times 2,000,000 squared
abbrev pub longest_edge : ℕ
longest_edge = 3464101

-- no coordinate beyond reach: a hem is at most that many times as long as it has edges
abbrev pub NotTooLong : Type 0
NotTooLong = (at : ℕ → Point) → ((p : ℕ) → Reached (at p)) → (w : List ℕ) → hem_length at w ≤ longest_edge * length (ring_edges w)

-- of an accepted mesh all hems together are at most 14,188,957,696 long, and so is each: no length needs more than 64 bits, nor their sum
pub record LengthsFit (m : Mesh) (cs : List ℤ) : Type 0 where
  pub all : sum (hem_lengths (point_of cs) (faces m)) ≤ longest_edge * corner_limit
  pub each : (k : ℕ) → k < hem_count (faces m) → get_or (hem_lengths (point_of cs) (faces m)) k 0 ≤ longest_edge * corner_limit
  pub fit : longest_edge * corner_limit < 2 ^ 34

abbrev pub LengthsHaveRoom : Type 0
LengthsHaveRoom = (m : Mesh) (cs : List ℤ) → mesh_number m ≡ 0 → beyond_reach cs ≡ false → Fit (verdict (edges_of (faces m))) → LengthsFit m cs
