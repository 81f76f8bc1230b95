-- What the functions of the crate ask of one column of one corner, and what they leave. Assumes nothing.
use Rattle.std.specs.Prelude.{ℕ, ◌+◌, ◌*◌, ◌≤◌, ◌<◌, ◌≡◌, cond, List, length, get_or, take, set, Float}
use Rattle.std.proofs.lemmas.List.Edits.{sets}
use Rattle.lists.specs.Lists.{has}
use Rattle.lists.specs.FirstUses.{place}
use Rattle.mesh.specs.Limits.{point_width, texel_width, width, entry_limit}
use Rattle.mesh.specs.Mesh.{missing}
use Rattle.unused.specs.Compaction.{uses_of, renumber, entries}
use Rattle.unused.specs.Working.{column, Pointed}

-- the index that corner k has in column q
abbrev pub index_at : List ℕ → ℕ → ℕ → ℕ
index_at cs k q = get_or cs (width * k + q) 0

-- what the first k corners use in column q
abbrev pub uses_to : ℕ → List ℕ → ℕ → List ℕ
uses_to q cs k = uses_of (take k (column q cs))

-- an entry of a list lies within it, w numbers wide
pub record Entry (l : List Float) (w i : ℕ) : Type 0 where
  pub least : texel_width ≤ w
  pub most : w ≤ point_width
  pub within : i * w + w ≤ length l

-- the map from old to new numbers, and the count of entries used, where us are the indices used so far
pub record Tables (us old2new : List ℕ) (used : ℕ) : Type 0 where
  pub counted : used ≡ length us
  pub wide : length old2new ≡ entry_limit
  pub mapped : (i : ℕ) → i < entry_limit → get_or old2new i 0 ≡ cond (has i us) (place us i) missing

-- before the turn of corner k in column q
pub record Before
    (attrs : List Float) (w : ℕ) (cs : List ℕ) (k q : ℕ) (old2new : List ℕ) (used : ℕ) (fresh : List Float)
    (out : List ℕ) : Type 0 where
  pub pointed : Pointed attrs w cs q
  pub corner : width * k + width ≤ length cs
  pub tables : Tables (uses_to q cs k) old2new used
  pub room : length attrs ≤ length fresh
  pub corners_room : length cs ≤ length out

-- and after it: one index more is used, its entry stands behind the others, and the corner has the new number
pub record Taken
    (attrs : List Float) (w : ℕ) (cs : List ℕ) (k q : ℕ) (old2new : List ℕ) (used : ℕ) (fresh fresh' : List Float)
    (out out' : List ℕ) : Type 0 where
  pub tables : Tables (uses_to q cs (k + 1)) old2new used
  pub grown :
      (l : List Float) → fresh ≡ sets l 0 (entries w attrs (uses_to q cs k))
      → fresh' ≡ sets l 0 (entries w attrs (uses_to q cs (k + 1)))
  pub numbered : out' ≡ set out (width * k + q) (renumber (uses_of (column q cs)) (index_at cs k q))
