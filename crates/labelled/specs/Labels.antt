-- The panel of each face as a list, and the steps of the code; the rule is `panel_of` of crate hemlist. Assumes nothing.
use Rattle.std.specs.Prelude.{◌≡◌, List, [], ◌∷◌, ℕ, suc, ◌≤◌, ◌<◌, length, get_or, set}
use Rattle.lists.specs.Lists.{sum}
use Rattle.mesh.specs.Limits.{face_limit}
use Rattle.mesh.specs.Mesh.{Ring}
use Rattle.keys.specs.Columns.{Keyable}
use Rattle.hemlist.specs.HemList.{panel_of}

-- one number for each face: its panel
pub record Labelled (fs : List Ring) (labels : List ℕ) : Type 0 where
  pub long : length labels ≡ length fs
  pub label : (x : ℕ) → x < length fs → get_or labels x 0 ≡ panel_of fs x

-- ---- the steps of the code

-- the label j at every place that the part names
abbrev pub marked : List ℕ → ℕ → List ℕ → List ℕ
marked [] j l = l
marked (x ∷ p) j l = marked p j (set l x j)

-- the labels j, j + 1, .. at the places that the parts name
abbrev pub labelled : ℕ → List (List ℕ) → List ℕ → List ℕ
labelled j [] l = l
labelled j (p ∷ ps) l = labelled (suc j) ps (marked p j l)

-- an accepted mesh, and room for one number for each face
pub record LabelRoom (cs s out : List ℕ) : Type 0 where
  pub keyable : Keyable cs s
  pub room : length out ≡ length s

-- and two rows of as many
pub record LabelRows (cs s flat lengths out : List ℕ) : Type 0 where
  pub keyable : Keyable cs s
  pub flat_long : length flat ≡ length s
  pub lengths_long : length lengths ≡ length s
  pub room : length out ≡ length s

-- places of a list
pub record PartRoom (part out : List ℕ) : Type 0 where
  pub few : length out ≤ face_limit
  pub named : (i : ℕ) → i < length part → get_or part i 0 < length out

-- and these in parts
pub record PartsRoom (flat lengths out : List ℕ) : Type 0 where
  pub few_parts : length lengths ≤ face_limit
  pub within : sum lengths ≤ length flat
  pub part : PartRoom flat out
