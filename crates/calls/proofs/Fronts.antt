-- What a call that answers 0 leaves at the front of a lent list, and what it counts, are the result. Assumes nothing.
use mathlib.Core.Path.{◌≡◌, sym, ◌∙◌}
use mathlib.Core.List.{List}
use Prim.Native.Nat.{ℕ, ◌≤◌}
use native.Mathlib.Omega.{arith}
use lib.ListN.{length, take}
use lib.Seq.{sets}
use Rattle.lists.proofs.Fronts as fronts
use Rattle.mesh.specs.Table.{after}
use Rattle.mesh.proofs.After.{after_done}

pub front :
    {A : Type 0} (l l' vs : List A) (i j k : ℕ) → i ≡ 0 → l' ≡ after i (sets l 0 vs) l → k ≡ after i j 0 → j ≡ length vs
    → length vs ≤ length l
    → take k l' ≡ vs
front l l' vs i j k z e c n h =
    let w : k ≡ length vs = c ∙ after_done i j 0 z ∙ n in
    (fronts.front l (e ∙ after_done i (sets l 0 vs) l z) (sym w) (omega arith)).is

-- two counts are one where the counted are as many
pub as_many : (i i' j j' k k' : ℕ) → i ≡ 0 → i' ≡ 0 → k ≡ after i j 0 → k' ≡ after i' j' 0 → j ≡ j' → k ≡ k'
as_many i i' j j' k k' z z' c c' e = cc (after_done i j 0 z, after_done i' j' 0 z')
