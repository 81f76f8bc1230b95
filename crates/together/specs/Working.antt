-- What the functions under the call ask and leave, for one list. Assumes nothing.
use Rattle.std.specs.Prelude.{◌≡◌, true, false, List, [], ◌∷◌, ℕ, ◌+◌, ◌*◌, ◌/◌, ◌%◌, ◌≤◌, ◌<◌, length, get_or, Float}
use Rattle.lists.specs.Lists.{some, has}
use Rattle.mesh.specs.Limits.{width, entry_limit, point_numbers, corner_numbers}
use Rattle.mesh.specs.Mesh.{Corner, position, texture, normal, mark, missing}
use Rattle.floating.specs.Limits.{unfit, boundless, distant}
use Rattle.nearby.specs.Engine.{Laid}
use Rattle.together.specs.Centre.{representative}
use Rattle.together.specs.Merging.{unless_missing}

-- n points of width w in the list s, and a group of them at the places from `from` to below `to` of `order`
pub record Grouped (w n : ℕ) (s : List Float) (order : List ℕ) (from to : ℕ) : Type 0 where
  pub least : 2 ≤ w
  pub most : w ≤ 3
  pub few : n ≤ entry_limit
  pub long : w * n ≡ length s
  pub some : from < to
  pub room : to ≤ length order
  pub within : (k : ℕ) → k < to → get_or order k 0 < n

-- n points of width w in the list s, in c groups that are laid out in `order`, with their ends
pub record InGroups (w n : ℕ) (s : List Float) (order ends : List ℕ) (c : ℕ) : Type 0 where
  pub least : 2 ≤ w
  pub most : w ≤ 3
  pub few : n ≤ entry_limit
  pub long : w * n ≡ length s
  pub order_room : n ≤ length order
  pub ends_room : n ≤ length ends
  pub laid : Laid n order ends c

-- each point of the group g is sent to its representative, and no other point elsewhere
pub record Sent (w n : ℕ) (s : List Float) (g : List ℕ) (map map' : List ℕ) : Type 0 where
  pub long : length map' ≡ length map
  pub own : (k : ℕ) → k < n → has k g ≡ true → get_or map' k 0 ≡ representative w s g
  pub others : (k : ℕ) → has k g ≡ false → get_or map' k 0 ≡ get_or map k 0
  pub small : representative w s g < n

-- n points of width w, of which every quotient is below 2^53, and room for a number each
pub record Mergeable (t : Float) (w n : ℕ) (s : List Float) (map : List ℕ) : Type 0 where
  pub least : 2 ≤ w
  pub most : w ≤ 3
  pub few : n ≤ entry_limit
  pub long : w * n ≡ length s
  pub near : some (distant t) s ≡ false
  pub room : n ≤ length map

-- each of n points is sent where `to` says
pub record Settled (n : ℕ) (to : ℕ → ℕ) (map map' : List ℕ) : Type 0 where
  pub long : length map' ≡ length map
  pub each : (k : ℕ) → k < n → get_or map' k 0 ≡ to k
  pub small : (k : ℕ) → k < n → get_or map' k 0 < n

-- positions that rows 1, 2 and 7 let through, with a tolerance that row 6 does
pub record Scalable (s : List Float) (t : Float) : Type 0 where
  pub few : length s ≤ point_numbers
  pub even : length s % 3 ≡ 0
  pub bounded : some boundless s ≡ false
  pub fit : unfit t ≡ false

-- a corner by the three maps, with its own mark
unfoldable pub sent_corner : List ℕ → List ℕ → List ℕ → Corner → Corner
sent_corner p t n c =
    get_or p (position c) 0 ∷ unless_missing (λ i. get_or t i 0) (texture c) ∷ unless_missing (λ i. get_or n i 0) (normal c) ∷ mark c ∷ []

-- corners whose indices the maps have
pub record Indexed (cs p t n out : List ℕ) : Type 0 where
  pub even : length cs % width ≡ 0
  pub few : length cs ≤ corner_numbers
  pub room : length cs ≤ length out
  pub positions : (k : ℕ) → k < length cs / width → get_or cs (width * k) 0 < length p
  pub textures : (k : ℕ) → k < length cs / width → (get_or cs (width * k + 1) 0 ≡ missing → ⊥) → get_or cs (width * k + 1) 0 < length t
  pub normals : (k : ℕ) → k < length cs / width → (get_or cs (width * k + 2) 0 ≡ missing → ⊥) → get_or cs (width * k + 2) 0 < length n
