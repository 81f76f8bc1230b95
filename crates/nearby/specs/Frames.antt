-- What the walk of a group asks. Assumes nothing.
use Rattle.std.specs.Prelude.{◌≡◌, Bool, true, false, List, ℕ, ◌≤◌, ◌<◌, length, get_or}
use Rattle.mesh.specs.Limits.{entry_limit}
use Rattle.nearby.specs.Engine.{Taken}
use Rattle.nearby.specs.declared.Frame.{Frame}

-- `start` is the lowest of n points that is left, and there is a frame for each of them
pub record Starts (n : ℕ) (order : List ℕ) (seen : List Bool) (frames : List Frame) (start done : ℕ) : Type 0 where
  pub few : n ≤ entry_limit
  pub taken : Taken n order seen done
  pub frame_room : n ≤ length frames
  pub inside : start < n
  pub new : get_or seen start false ≡ false
  pub lowest : (k : ℕ) → k < start → get_or seen k false ≡ true
