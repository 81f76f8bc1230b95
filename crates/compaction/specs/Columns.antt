-- One column of the corners compacted: what is asked, and what is left. Assumes nothing.
use Rattle.std.specs.Prelude.{ℕ, zero, suc, ◌+◌, ◌*◌, ◌/◌, ◌≤◌, ◌≡◌, List, length, set, Float}
use Rattle.std.proofs.lemmas.List.Edits.{sets}
use Rattle.mesh.specs.Limits.{width}
use Rattle.unused.specs.Compaction.{uses_of, renumber, entries}
use Rattle.unused.specs.Working.{column, Pointed}
use Rattle.oneindex.specs.Working.{index_at}

-- a list with the new numbers that the first k corners have in column q, each where its corner stands; all else is as it was
unfoldable pub column_put : ℕ → List ℕ → ℕ → List ℕ → List ℕ
column_put q cs zero out = out
column_put q cs (suc k) out = set (column_put q cs k out) (width * k + q) (renumber (uses_of (column q cs)) (index_at cs k q))

-- a column that points into entries of width w, with room for what it uses and for the corners
pub record ColumnReady (attrs : List Float) (w : ℕ) (cs : List ℕ) (q : ℕ) (fresh : List Float) (out : List ℕ) : Type 0 where
  pub pointed : Pointed attrs w cs q
  pub room : length attrs ≤ length fresh
  pub corner_room : length cs ≤ length out

-- the entries that the column uses are written in the order of first use, and the corners have its new numbers
pub record ColumnDone
    (attrs : List Float) (w : ℕ) (cs : List ℕ) (q : ℕ) (fresh fresh' : List Float) (out out' : List ℕ) (used : ℕ) : Type 0 where
  pub count : used ≡ length (uses_of (column q cs))
  pub entries : fresh' ≡ sets fresh 0 (entries w attrs (uses_of (column q cs)))
  pub corners : out' ≡ column_put q cs (length cs / width) out
