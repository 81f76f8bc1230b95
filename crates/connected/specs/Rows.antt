-- The steps of the code, and no rules of document 01: what the search rests on, and the rows that it uses. Assumes nothing.
use Rattle.std.specs.Prelude.{◌≡◌, List, ℕ, ◌≤◌, ◌<◌, length, get_or, replicate}
use Rattle.mesh.specs.Limits.{face_limit}
use Rattle.connected.specs.Joins.{join_numbers, flat_joins, joins_of}

-- joins of f faces, and room for the panels
pub record Divisible (joins : List ℕ) (f : ℕ) (flat lengths : List ℕ) : Type 0 where
  pub whole : joins ≡ flat_joins (joins_of joins)
  pub fits : length joins ≤ join_numbers
  pub below : (e : ℕ) → e < length joins → get_or joins e 0 < f
  pub small : f ≤ face_limit
  pub faces_room : f ≤ length flat
  pub panels_room : f ≤ length lengths

-- two rows of one number for each entry of the joins, and three of one for each face, the marks among them clear
pub record PartRows (joins entries order ends seen stack flat lengths : List ℕ) : Type 0 where
  pub divisible : Divisible joins (length ends) flat lengths
  pub entries_long : length entries ≡ length joins
  pub order_long : length order ≡ length joins
  pub unseen : seen ≡ replicate (length ends) 0
  pub stack_long : length stack ≡ length ends
