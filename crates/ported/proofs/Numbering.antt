-- The loop that fills the first table, one edge after the other. Assumes nothing.
use mathlib.Core.Path.{◌≡◌}
use mathlib.Core.List.{List}
use Prim.Native.Nat.{ℕ, ◌≤◌}
use lib.ListN.{length, drop}
use Rattle.ported.specs.Keeping.{numbered}

pub record Numbering (starts firsts₀ firsts : List ℕ) (k : ℕ) : Type 0 where
  pub within : k ≤ length starts
  pub same : length firsts ≡ length firsts₀
  pub rest : numbered k firsts (drop k starts) ≡ numbered 0 firsts₀ starts
