-- What merging comes to, of the points of a list s of width w at a tolerance t. Proved in proofs/. Assumes nothing.
use Rattle.std.specs.Prelude.{◌≡◌, List, ℕ, ◌/◌, ◌<◌, length, Float}
use Rattle.lists.proofs.Chains.{Reach}
use Rattle.nearby.specs.Pairs.{near_at}
use Rattle.nearby.specs.Promises.{Near}
use Rattle.together.specs.Merging.{merged_to}

-- points that a chain of near points connects become one
abbrev pub ChainedBecomeOne : Float → ℕ → List Float → Type 0
ChainedBecomeOne t w s =
    (i j : ℕ) → i < length s / w → Reach (Near (near_at t w s) (length s / w)) i j → merged_to t w s i ≡ merged_to t w s j

-- and no others do
abbrev pub OnlyChainedBecomeOne : Float → ℕ → List Float → Type 0
OnlyChainedBecomeOne t w s =
    (i j : ℕ) → i < length s / w → j < length s / w → merged_to t w s i ≡ merged_to t w s j
    → Reach (Near (near_at t w s) (length s / w)) i j
