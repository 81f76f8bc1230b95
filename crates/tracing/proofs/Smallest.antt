-- `least_start_lem` is what its name says: no edge that is there has a smaller one. Assumes nothing.
use mathlib.Core.Path.{◌≡◌, refl, ap}
use mathlib.Core.Logic.{⊎_elim}
use mathlib.Core.Bool.{true}
use mathlib.Core.Option.{Option, none}
use mathlib.Core.List.{List, [], ◌∷◌}
use Prim.Native.Nat.{ℕ, ◌≤◌, min}
use native.Mathlib.Omega.{arith}
use Rattle.lists.specs.Lists.{some}
use Rattle.lists.proofs.Counting.{clash, or_either}
use Rattle.edges.specs.Edges.{Edge, same}
use Rattle.edges.proofs.SameEdge.{same_true}
use Rattle.tracing.specs.Following.{lesser, least_start_lem}

-- there is a number, and it is at most n
abbrev pub AtMost : Option ℕ → ℕ → Type 0
AtMost o n = (e : ℕ) × (o ≡ Option.some e) × (e ≤ n)

-- the lesser of n and another is at most n, and at most what the other is
pub lesser_here : (n : ℕ) (o : Option ℕ) → AtMost (lesser n o) n
lesser_here n none = (n, refl, omega arith)
lesser_here n (Option.some m) = (min n m, refl, omega arith)

pub lesser_there : (n m : ℕ) (o : Option ℕ) → AtMost o m → AtMost (lesser n o) m
lesser_there n m o r = (min n r.0, ap (lesser n) r.1, let l : r.0 ≤ m = r.2 in omega arith)

pub start_least : (d : Edge) (h : List Edge) → some (same d) h ≡ true → AtMost (least_start_lem h) d.0
start_least d [] m = clash m refl
start_least d (x ∷ h) m =
    ⊎_elim
    (λ p. rw (same_true d x p) (lesser_here x.0 (least_start_lem h)))
    (λ p. lesser_there x.0 d.0 (least_start_lem h) (start_least d h p))
    (or_either (same d x) (some (same d) h) m)
