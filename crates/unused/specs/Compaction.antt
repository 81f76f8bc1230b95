-- Compaction, as document 01 has it: first uses, the new numbers, the new lists. Assumes nothing.
use Rattle.std.specs.Prelude.{ℕ, ◌*◌, ◌≡◌, Bool, cond, not, List, [], ◌∷◌, map, length, take, drop, eqb, Float, Result as Outcome, Ok, Err}
use Rattle.std.proofs.lemmas.List.Edits.{sets}
use Rattle.lists.specs.Lists.{only, joined, each}
use Rattle.lists.specs.FirstUses.{first_uses, place}
use Rattle.mesh.specs.Limits.{point_width, texel_width}
use Rattle.mesh.specs.Mesh.{Mesh, mesh_of, Corner, position, texture, normal, mark, missing, corners_in, position_count, texture_count, normal_count}
use Rattle.mesh.specs.Table.{mesh_number, first_of, when, lent, short, after}
use Rattle.mesh.specs.Refusals.{number_of}
use Rattle.mesh.specs.declared.Entries.{Entries}
use Rattle.mesh.specs.declared.refusal.Refusal.{Refusal}

-- a missing index is no use
abbrev pub present : ℕ → Bool
present i = not (eqb i missing)

-- the indices that a column uses, each once, in the order of their first use
abbrev pub uses_of : List ℕ → List ℕ
uses_of l = first_uses (only present l)

-- an index is renumbered by first use, from 0; a missing index stays missing
unfoldable pub renumber : List ℕ → ℕ → ℕ
renumber us i = cond (eqb i missing) missing (place us i)

-- the entry i of a list, w numbers wide
abbrev pub entry_at : ℕ → List Float → ℕ → List Float
entry_at w l i = take w (drop (i * w) l)

-- the new list holds the old entries in the order of first use, bit for bit; unused entries go
unfoldable pub entries : ℕ → List Float → List ℕ → List Float
entries w l us = each (entry_at w l) us

-- corners are read in face order: the positions, then the texture points, then the normals that they use
unfoldable pub used_positions : Mesh → List ℕ
used_positions m = uses_of (map position (corners_in m.corners))

unfoldable pub used_textures : Mesh → List ℕ
used_textures m = uses_of (map texture (corners_in m.corners))

unfoldable pub used_normals : Mesh → List ℕ
used_normals m = uses_of (map normal (corners_in m.corners))

-- a corner, each of its indices renumbered by its own column; the mark is no index and stays with its corner
unfoldable pub renumbered : Mesh → Corner → Corner
renumbered m c =
    renumber (used_positions m) (position c)
    ∷ renumber (used_textures m) (texture c)
    ∷ renumber (used_normals m) (normal c)
    ∷ mark c
    ∷ []

-- the mesh that compaction gives; the sizes don't change
unfoldable pub compacted : Mesh → Mesh
compacted m =
    mesh_of
    (entries point_width m.positions (used_positions m))
    (entries texel_width m.textures (used_textures m))
    (entries point_width m.normals (used_normals m))
    (joined (map (renumbered m) (corners_in m.corners)))
    m.sizes

-- the lists that are lent for the result, at one moment
pub record Result : Type 0 where
  pub corners : List ℕ
  pub positions : List Float
  pub textures : List Float
  pub normals : List Float

abbrev pub result_of : List ℕ → List Float → List Float → List Float → Result
result_of c p t n = record { corners = c; positions = p; textures = t; normals = n }

-- stated room: the input's own lengths, of corners and the three attribute lists
unfoldable pub too_short : Mesh → Result → Bool
too_short m r =
    short
    (lent (length r.corners) (length m.corners)
    ∷ lent (length r.positions) (length m.positions)
    ∷ lent (length r.textures) (length m.textures)
    ∷ lent (length r.normals) (length m.normals)
    ∷ [])

-- the number returned: 1 to 5 of the mesh, else 9, else 0
unfoldable pub compaction_number : Mesh → Result → ℕ
compaction_number m r = first_of (mesh_number m ∷ when (too_short m r) 9 ∷ [])

-- the number returned, and how many positions, texture points and normals the new lists hold
pub record Compacted : Type 0 where
  pub number : ℕ
  pub positions : ℕ
  pub textures : ℕ
  pub normals : ℕ

-- what the call's result says: 0 and the counts, or a refusal with each count 0
abbrev pub compacted_of : Outcome Entries Refusal → Compacted
compacted_of (Ok kept) = record { number = 0; positions = kept.positions; textures = kept.textures; normals = kept.normals }
compacted_of (Err refusal) = record { number = number_of refusal; positions = 0; textures = 0; normals = 0 }

-- what the call answers, and what the lent lists hold before and after it: on 0 the compacted mesh from their beginning on, room
-- past it unchanged, and the counts of its entries; on any other number nothing is written, and each count is 0
pub record Compaction (m : Mesh) (before afterwards : Result) (answer : Compacted) : Type 0 where
  pub number : answer.number ≡ compaction_number m before
  pub position_count_is : answer.positions ≡ after answer.number (position_count (compacted m)) 0
  pub texture_count_is : answer.textures ≡ after answer.number (texture_count (compacted m)) 0
  pub normal_count_is : answer.normals ≡ after answer.number (normal_count (compacted m)) 0
  pub corners : afterwards.corners ≡ after answer.number (sets before.corners 0 (compacted m).corners) before.corners
  pub positions : afterwards.positions ≡ after answer.number (sets before.positions 0 (compacted m).positions) before.positions
  pub textures : afterwards.textures ≡ after answer.number (sets before.textures 0 (compacted m).textures) before.textures
  pub normals : afterwards.normals ≡ after answer.number (sets before.normals 0 (compacted m).normals) before.normals
