-- What the call promises: its number, how many hems there are, and each of the three lent lists, of any mesh, any triples and any room.
-- Assumes nothing.
use Rattle.std.specs.Prelude.{◌≡◌, List, ℕ, length, ℤ}
use Rattle.std.proofs.lemmas.List.Edits.{sets}
use Rattle.mesh.specs.Mesh.{Mesh, faces}
use Rattle.mesh.specs.Table.{after}
use Rattle.turning.specs.Turning.{house_wires_of}
use Rattle.hemlist.specs.HemList.{point_of, hem_panels, hem_edges, hem_lengths, hem_list_number}
use Rattle.hemlist.specs.declared.Listed.{Listed}

-- the three lent lists at one moment: of each hem its panel, its number of edges and its length
pub record HemLists : Type 0 where
  pub panels : List ℕ
  pub edges : List ℕ
  pub lengths : List ℕ

abbrev pub hem_lists_of : List ℕ → List ℕ → List ℕ → HemLists
hem_lists_of p e l = record { panels = p; edges = e; lengths = l }

-- the call: a mesh and its triples are given. On 0 each list has one entry for each hem from its beginning on, room past them unchanged, and
-- the count is that of the hems; on any other number nothing is written, and the count is 0
pub record HemsListed (m : Mesh) (cs : List ℤ) (before afterwards : HemLists) (answer : Listed) : Type 0 where
  pub number : answer.number ≡ hem_list_number m cs (length before.panels) (length before.edges) (length before.lengths)
  pub hem_count_is : answer.hems ≡ after answer.number (length (house_wires_of (faces m))) 0
  pub panels : afterwards.panels ≡ after answer.number (sets before.panels 0 (hem_panels (faces m))) before.panels
  pub edges : afterwards.edges ≡ after answer.number (sets before.edges 0 (hem_edges (faces m))) before.edges
  pub lengths : afterwards.lengths ≡ after answer.number (sets before.lengths 0 (hem_lengths (point_of cs) (faces m))) before.lengths
