-- What is written at the front of a list stands there: the front of that length is what was written. Assumes nothing.
use mathlib.Core.Path.{◌≡◌, sym, ap, ◌∙◌}
use mathlib.Core.List.{List}
use Prim.Native.Nat.{ℕ, ◌≤◌}
use native.Mathlib.Omega.{arith}
use lib.ListN.{length, take}
use lib.Seq.{sets, length-sets}
use Rattle.lists.specs.Putting.{Front}
use Rattle.lists.proofs.Copies.{take_written}

pub front : {A : Type 0} (l : List A) {l' xs : List A} {k : ℕ} → l' ≡ sets l 0 xs → length xs ≡ k → k ≤ length l → Front l' xs k
front l {l'} {xs} {k} e n h =
    let i : take k l' ≡ xs = ap (take k) e ∙ take_written l xs k n h in
    record { is = i; within = omega (arith, ap length e, length-sets l 0 xs); long = sym n ∙ ap length (sym i) }
