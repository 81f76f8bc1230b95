-- A row whose front became another, and then what is behind it. Assumes nothing.
use mathlib.Core.Path.{◌≡◌, ap, ap₂, ◌∙◌}
use mathlib.Core.List.{List, ◌++◌, append-nil}
use Prim.Native.Nat.{ℕ, ◌-◌}
use native.Mathlib.Omega.{arith}
use lib.ListN.{length, take, drop, length-append}
use lib.Seq.{take_at, drop_at, take-length, drop-length}

-- a row l whose first i became x; then what is behind them becomes y
module _ {A : Type 0} (l x : List A) (i : ℕ) (n : length x ≡ i) where
  abbrev row : List A
  row = x ++ drop i l

  front_same : take i row ≡ x
  front_same = take_at x (drop i l) i n

  rear_same : drop i row ≡ drop i l
  rear_same = drop_at x (drop i l) i n

  rear_length : length row - i ≡ length (drop i l)
  rear_length = (let s : _ = length-append x (drop i l) in omega arith)

  pub rear_part : take (length row - i) (drop i row) ≡ drop i l
  rear_part = ap₂ take rear_length rear_same ∙ take-length (drop i l)

  pub both_parts : (y : List A) → take i row ++ (y ++ drop (length row - i) (drop i row)) ≡ x ++ y
  both_parts y =
      ap₂ (λ (s t : List A). s ++ (y ++ t)) front_same (ap₂ drop rear_length rear_same ∙ drop-length (drop i l))
      ∙ ap (λ (t : List A). x ++ t) (append-nil y)
