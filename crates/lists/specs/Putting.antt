-- Lists that are written to a lent list from a place on, one behind the other, and what then stands at its front. Their laws stand in
-- proofs/Listing.antt and proofs/Fronts.antt. Assumes nothing.
use Rattle.std.specs.Prelude.{ℕ, ◌+◌, ◌≤◌, ◌≡◌, List, length, take}
use Rattle.std.proofs.lemmas.List.Edits.{sets}

-- there is room for xs in a lent list, from place `at` on
pub record Room {A : Type 0} (xs out : List A) (at : ℕ) : Type 0 where
  pub fits : at + length xs ≤ length out

-- xs is written from place `at` on, and `next` is the place behind it
pub record Written {A : Type 0} (xs out out' : List A) (at next : ℕ) : Type 0 where
  pub is : out' ≡ sets out at xs
  pub next_is : next ≡ at + length xs

-- the first k elements of l are xs, and there are so many
pub record Front {A : Type 0} (l xs : List A) (k : ℕ) : Type 0 where
  pub is : take k l ≡ xs
  pub within : k ≤ length l
  pub long : k ≡ length (take k l)
