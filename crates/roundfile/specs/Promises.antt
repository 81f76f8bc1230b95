-- What a caller may count on of a rounded file, beyond the contract. Proved in proofs/. Assumes nothing.
use Rattle.std.specs.Prelude.{ℕ, ◌≤◌, ◌≡◌, false, List, length, Float}
use Rattle.mesh.specs.Mesh.{Mesh}
use Rattle.little.specs.Little.{Bytes}
use Rattle.cleaning.specs.Cleaning.{cleaned}
use Rattle.reading.specs.Reading.{panel_mesh}
use Rattle.written.specs.Promises.{Reopens}
use Rattle.smoothed.specs.Promise.{Given, Promised}
use Rattle.smoothed.specs.Refusals.{positions_of, too_short}
use Rattle.roundfile.specs.declared.Rounded.{Rounded}
use Rattle.roundfile.specs.Rounding.{mesh_rounded, full_lists, opened_number, PanelRounded}

-- a file that is not refused: all that smoothing promises holds of the mesh that is left of it, the same verdict among it
abbrev pub LeftIsRounded : Type 0
LeftIsRounded =
    (file : List ℕ) (ones twos : List Float) → opened_number file ones twos ≡ 0
    → Promised (cleaned (panel_mesh file)) (positions_of (cleaned (panel_mesh file)) ones twos)

-- the rounded file is never longer than the buffer
abbrev pub RoundedFits : Type 0
RoundedFits =
    (file : List ℕ) (ones twos : List Float) (before afterwards : List ℕ) (answer : Rounded)
    → PanelRounded file ones twos before afterwards answer → answer.length ≤ length before

-- it is read again, into the mesh that was rounded, and written again byte for byte; so it can be rounded again
abbrev pub RoundedReopens : Type 0
RoundedReopens = (file : List ℕ) (ones twos : List Float) → Bytes file → opened_number file ones twos ≡ 0 → Reopens (mesh_rounded file ones twos)

-- lists at the full limits are room enough for every mesh that is not refused for its faces or for the limit: smoothing never answers 9 here
abbrev pub FullListsAreRoom : Type 0
FullListsAreRoom = (m : Mesh) → Given m → too_short m full_lists ≡ false
