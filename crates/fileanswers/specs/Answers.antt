-- What the calls on files answer, in the terms that a program in C has: the number returned, and counts written to places that the
-- caller lends. Each definition makes a call's own answer of these. Assumes nothing.
use Rattle.std.specs.Prelude.{ℕ}
use Rattle.reading.specs.declared.MeshRead.{MeshRead}
use Rattle.written.specs.declared.Saved.{Saved}
use Rattle.sheet.specs.declared.Answer.{Answer as Sheet}
use Rattle.cleanfile.specs.declared.Cleaned.{Cleaned}
use Rattle.hemfile.specs.declared.Answer.{Answer as HemSheet}

-- what the reader answers: the number returned, and the counts of positions, texture points, normals, corners and faces
abbrev pub read_by : ℕ → ℕ → ℕ → ℕ → ℕ → ℕ → MeshRead
read_by number p t n c f =
    record { number = number; positions = p; textures = t; normals = n; corners = c; faces = f }

-- what the writer answers: the number returned, and the file's length
abbrev pub saved_by : ℕ → ℕ → Saved
saved_by number n = record { number = number; length = n }

-- what the sheet answers: the number returned, and the sheet's length
abbrev pub printed_by : ℕ → ℕ → Sheet
printed_by number n = record { number = number; length = n }

-- what the cleaning of a file answers: the number returned, and the cleaned file's length
abbrev pub cleaned_by : ℕ → ℕ → Cleaned
cleaned_by number n = record { number = number; length = n }

-- what the hem sheet answers: the number returned, and the hem sheet's length
abbrev pub hems_printed_by : ℕ → ℕ → HemSheet
hems_printed_by number n = record { number = number; length = n }
