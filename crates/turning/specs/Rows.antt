-- The turning over rows, as code may have it, and no rules of document 02: uses by their places in the row of all uses, one row with
-- the place of each one's next use in its face, and one with the place that has its edge the other way. proofs/Tables.antt has the
-- law by which it comes to the rules. Assumes nothing.
use Rattle.std.specs.Prelude.{◌≡◌, true, false, List, [], ℕ, zero, suc, ◌+◌, ◌<◌, eqb, length, get_or, take}
use Rattle.edges.specs.Edges.{Edge, key, mesh_edges}
use Rattle.lists.specs.Numbers.{next_of}

-- no edge
abbrev pub nil : Edge
nil = (0, 0)

module _ (fs : List (List ℕ)) where
  -- the edge at place u; how many places there are; where those of face j begin
  abbrev pub edge_at : ℕ → Edge
  edge_at u = get_or (mesh_edges fs) u nil

  abbrev pub place_count : ℕ
  place_count = length (mesh_edges fs)

  abbrev pub begin_of : ℕ → ℕ
  begin_of j = length (mesh_edges (take j fs))

-- the rows: a place whose edge no other place has is its own twin
pub record Rows (fs : List (List ℕ)) (after twins : List ℕ) : Type 0 where
  pub next_is : (j i : ℕ) → i < length (get_or fs j []) → get_or after (begin_of fs j + i) 0 ≡ begin_of fs j + next_of i (length (get_or fs j []))
  pub twin_below : (u : ℕ) → u < place_count fs → get_or twins u 0 < place_count fs
  pub twin_key : (u : ℕ) → u < place_count fs → key (edge_at fs u) ≡ key (edge_at fs (get_or twins u 0))
  pub twin_alone :
      (u v : ℕ) → u < place_count fs → v < place_count fs → (v ≡ u → ⊥) → key (edge_at fs u) ≡ key (edge_at fs v) → get_or twins u 0 ≡ u → ⊥

-- from place u: unless it is its own twin, on to the use behind its twin; n bounds the steps
unfoldable pub place_from : List ℕ → List ℕ → ℕ → ℕ → ℕ
place_from after twins zero u = u
place_from after twins (suc n) u =
    elim (eqb (get_or twins u 0) u) [ true ↦ u | false ↦ place_from after twins n (get_or after (get_or twins u 0) 0) ]
