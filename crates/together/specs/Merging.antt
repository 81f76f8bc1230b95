-- `put_together_same_attrs`: the number, the pairs compared and the corners that document 01, 'Merging', gives a mesh at a tolerance.
-- Assumes nothing.
use Rattle.std.specs.Prelude.{◌≡◌, Bool, ◌||◌, List, [], ◌∷◌, map, ℕ, ◌/◌, eqb, length, Float}
use Rattle.std.proofs.lemmas.List.Edits.{sets}
use Rattle.lists.specs.Lists.{some, joined}
use Rattle.mesh.specs.Mesh.{Mesh, Corner, position, texture, normal, mark, missing, corners_in}
use Rattle.mesh.specs.Table.{mesh_number, first_of, when, lent, short, after}
use Rattle.floating.specs.Limits.{unfit, boundless, distant}
use Rattle.floating.specs.Scaling.{scaled_list}
use Rattle.nearby.specs.Pairs.{near_at, compared_pairs}
use Rattle.nearby.specs.Walk.{groups}
use Rattle.together.specs.Centre.{pick, sent_to}
use Rattle.together.specs.declared.Merged.{Merged}

-- ---- the number

-- 7: a coordinate is not finite, or its magnitude is above 2^60
unfoldable pub any_boundless : Mesh → Bool
any_boundless m = some boundless m.positions || some boundless m.textures || some boundless m.normals

-- 8: a texture or normal coordinate divided by the tolerance has magnitude 2^53 or more
unfoldable pub any_distant : Mesh → Float → Bool
any_distant m t = some (distant t) m.textures || some (distant t) m.normals

-- 0 to 9 in ascending order; the room is that of the lent list of corners, the stated room the corners' own length
unfoldable pub merge_number : Mesh → Float → ℕ → ℕ
merge_number m t room =
    first_of
    (mesh_number m
    ∷ when (unfit t) 6
    ∷ when (any_boundless m) 7
    ∷ when (any_distant m t) 8
    ∷ when (short (lent room (length m.corners) ∷ [])) 9
    ∷ [])

-- ---- one list

-- a point of the list s, of width w, becomes the representative of its group
unfoldable pub merged_to : Float → ℕ → List Float → ℕ → ℕ
unfolding sent_to groups
merged_to t w s i = sent_to w s (groups (near_at t w s) (length s / w)) i

-- ---- the mesh: positions are first scaled, texture points and normals are taken raw

-- how many pairs were compared in each list
unfoldable pub position_pairs : Mesh → Float → ℕ
unfolding compared_pairs scaled_list
position_pairs m t = compared_pairs t 3 (scaled_list m.positions)

unfoldable pub texture_pairs : Mesh → Float → ℕ
unfolding compared_pairs
texture_pairs m t = compared_pairs t 2 m.textures

unfoldable pub normal_pairs : Mesh → Float → ℕ
unfolding compared_pairs
normal_pairs m t = compared_pairs t 3 m.normals

-- a missing index stays missing
abbrev pub unless_missing : (ℕ → ℕ) → ℕ → ℕ
unless_missing f i = pick (eqb i missing) missing (f i)

-- indices in corners become the representative's; the mark stays
unfoldable pub merged_corner : Mesh → Float → Corner → Corner
unfolding merged_to scaled_list
merged_corner m t c =
    merged_to t 3 (scaled_list m.positions) (position c)
    ∷ unless_missing (merged_to t 2 m.textures) (texture c)
    ∷ unless_missing (merged_to t 3 m.normals) (normal c)
    ∷ mark c
    ∷ []

unfoldable pub merged_corners : Mesh → Float → List ℕ
unfolding merged_corner
merged_corners m t = joined (map (merged_corner m t) (corners_in m.corners))

-- what the call answers, and what the lent list of corners holds before and after it: on 0 the new corners from its beginning on, room
-- past them unchanged, and how many pairs were compared; on any other number nothing is written, and each count is 0
pub record PutTogether (m : Mesh) (t : Float) (before afterwards : List ℕ) (answer : Merged) : Type 0 where
  pub number : answer.number ≡ merge_number m t (length before)
  pub position_pairs_is : answer.positions ≡ after answer.number (position_pairs m t) 0
  pub texture_pairs_is : answer.textures ≡ after answer.number (texture_pairs m t) 0
  pub normal_pairs_is : answer.normals ≡ after answer.number (normal_pairs m t) 0
  pub corners : afterwards ≡ after answer.number (sets before 0 (merged_corners m t)) before
