-- The loop that puts the coordinates: it copies them from the list that the bytes say. Assumes nothing.
use mathlib.Core.Path.{◌≡◌, sym, ap, ◌∙◌}
use mathlib.Core.List.{List}
use Prim.Native.Nat.{ℕ, ◌+◌, ◌*◌, ◌≤◌, ◌<◌}
use native.Mathlib.Nat.{zero-add}
use native.Mathlib.Omega.{arith}
use lib.ListN.{length, get_or, set}
use lib.IntN.{ℤ, pos}
use Rattle.lists.proofs.Buckets.{length_table, table_at}
use Rattle.lists.proofs.Writing.{Copying, copy_turns, copy_ends}
use Rattle.lists.proofs.Copies.{sets_whole}
use Rattle.little.specs.Little.{word}
use Rattle.triples.specs.Triples.{coordinate_bytes, signed, coordinate_at, coordinates_in}

module _ (bytes : List ℕ) where
  pub coordinates_long : (n : ℕ) → length (coordinates_in bytes n) ≡ n
  unfolding coordinates_in
  coordinates_long n = length_table (coordinate_at bytes) n

  coordinates_at : (n k : ℕ) → k < n → get_or (coordinates_in bytes n) k (pos 0) ≡ signed (word bytes (coordinate_bytes * k))
  unfolding coordinates_in coordinate_at
  coordinates_at n k h = table_at (coordinate_at bytes) n k (pos 0) h

-- the first k coordinates are put
abbrev pub Putting : List ℕ → List ℤ → List ℤ → ℕ → Type 0
Putting bytes out out' k = Copying (coordinates_in bytes (length out)) out out' 0 k

module _ (bytes : List ℕ) (out : List ℤ) where
  pub putting_turns :
      (out' : List ℤ) (k w : ℕ) (z : ℤ) → k < length out' → w ≡ word bytes (coordinate_bytes * k) → z ≡ signed w → Putting bytes out out' k
      → Putting bytes out (set out' k z) (k + 1)
  putting_turns out' k w z h e f p =
      let inside : k < length out = omega (arith, p.long) in
      let is : get_or (coordinates_in bytes (length out)) k (pos 0) ≡ z = coordinates_at bytes (length out) k inside ∙ ap signed (sym e) ∙ sym f in
      let there : k < length (coordinates_in bytes (length out)) = omega (arith, coordinates_long bytes (length out)) in
      rw (is, zero-add k) at (copy_turns (pos 0) (coordinates_in bytes (length out)) out out' 0 k there p)

  pub putting_ends : (out' : List ℤ) (k : ℕ) → length out' ≤ k → Putting bytes out out' k → out' ≡ coordinates_in bytes (length out)
  putting_ends out' k h p =
      let cs = coordinates_in bytes (length out) in
      let long : length cs ≡ length out = coordinates_long bytes (length out) in
      copy_ends (pos 0) cs out out' 0 k (omega (arith, long, p.long)) p ∙ sets_whole out cs long
