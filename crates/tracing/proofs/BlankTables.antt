-- From blank tables to all wires: what the two functions that fill the tables leave is what the tracer is given, and its wires are the
-- ported and the house wires. The sizes of the tables are numbers of no matter here. Assumes nothing.
use mathlib.Core.Path.{◌≡◌, subst}
use mathlib.Core.List.{List}
use Prim.Native.Nat.{ℕ, ◌≤◌, ◌<◌}
use native.Mathlib.Omega.{arith}
use lib.ListN.{length, get_or, length-replicate, get_or-replicate}
use Rattle.mesh.specs.Limits.{entry_limit, corner_limit}
use Rattle.tracing.specs.Hems.{EdgeLists, Written}
use Rattle.tracing.specs.Tables.{Startable, nobody, blank}

pub blank_length : (n : ℕ) → length (blank n) ≡ n
unfolding blank
blank_length n = length-replicate n nobody

pub blank_at : (n k : ℕ) → k < n → get_or (blank n) k 0 ≡ nobody
unfolding blank
blank_at n k h = get_or-replicate n k nobody 0 h

-- the same wires, by another name
pub written_as :
    {ws ws' : List (List ℕ)} {flat lengths flat' lengths' : List ℕ} {m k : ℕ} → ws ≡ ws'
    → Written ws flat lengths flat' lengths' m k → Written ws' flat lengths flat' lengths' m k
written_as {ws} {ws'} {flat} {lengths} {flat'} {lengths'} {m} {k} e w = subst (λ (v : List (List ℕ)). Written v flat lengths flat' lengths' m k) e w

-- ---- tables of any size that is enough

module _ (n m : ℕ) (small : n ≤ entry_limit) (wide : corner_limit ≤ m) (starts ends : List ℕ) (h : EdgeLists starts ends n) where
  pub startable : Startable starts (blank n)
  startable = record { few = h.few; from = λ k l. rw (blank_length n) (h.from k l) }

  pub room : length starts ≤ length (blank m)
  room = let e : length (blank m) ≡ m = blank_length m in omega (arith, h.few)

  pub free : (k : ℕ) → k < length starts → get_or (blank m) k 0 ≡ nobody
  free k l = blank_at m k (omega (arith, h.few))

-- positions and edges at the limits are
pub positions_few : entry_limit ≤ entry_limit
positions_few = omega arith

pub edges_many : corner_limit ≤ corner_limit
edges_many = omega arith
