-- What is promised of representatives: in a mesh that is merged, every distance of a group's point to its centre is a finite number,
-- no point is nearer than the representative, and those before it in walk order are farther. Assumes nothing.
use Rattle.std.specs.Prelude.{◌≡◌, true, false, List, [], ◌∷◌, ◌++◌, ℕ, ◌/◌, ◌<◌, length, get_or, Float}
use Rattle.std.specs.Float.Ieee.{lt}
use Rattle.std.specs.Float.Ieee.Scale as scale
use Rattle.lists.specs.Lists.{has}
use Rattle.mesh.specs.Mesh.{Mesh}
use Rattle.floating.specs.Points.{row}
use Rattle.floating.specs.Near.{squared}
use Rattle.floating.specs.Scaling.{scaled_list}
use Rattle.floating.specs.Promises.{Doubles}
use Rattle.nearby.specs.Pairs.{near_at}
use Rattle.nearby.specs.Walk.{groups}
use Rattle.together.specs.Centre.{centre_of, representative}
use Rattle.together.specs.Merging.{merge_number}

-- the squared distance of point i to the centre of the group g
abbrev pub apart : ℕ → List Float → List ℕ → ℕ → Float
apart w s g i = squared (row w s i) (centre_of w s g)

pub record NearestFirst (w : ℕ) (s : List Float) (g : List ℕ) : Type 0 where
  pub before : List ℕ
  pub behind : List ℕ
  pub stands : g ≡ before ++ (representative w s g ∷ behind)
  pub finite : (i : ℕ) → has i g ≡ true → scale.finite (apart w s g i) ≡ true
  pub nearest : (i : ℕ) → has i g ≡ true → lt (apart w s g i) (apart w s g (representative w s g)) ≡ false
  pub first : (i : ℕ) → has i before ≡ true → lt (apart w s g (representative w s g)) (apart w s g i) ≡ true

-- each group of the points of the list s
abbrev pub InEachGroup : Float → ℕ → List Float → Type 0
InEachGroup t w s = (k : ℕ) → k < length (groups (near_at t w s) (length s / w)) → NearestFirst w s (get_or (groups (near_at t w s) (length s / w)) k [])

-- the representatives of a mesh that is merged: of its positions, scaled, of its texture points and of its normals
pub record NearestRepresentatives (m : Mesh) (t : Float) : Type 0 where
  pub positions : InEachGroup t 3 (scaled_list m.positions)
  pub textures : InEachGroup t 2 m.textures
  pub normals : InEachGroup t 3 m.normals

abbrev pub RepresentativesAreNearest : Type 0
RepresentativesAreNearest =
    (m : Mesh) (t : Float) (room : ℕ)
    → merge_number m t room ≡ 0
    → Doubles m.positions
    → Doubles m.textures
    → Doubles m.normals
    → NearestRepresentatives m t
