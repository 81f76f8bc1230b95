-- The refusals by name, each with its number in the table of numbers returned (document 01; document 02 for those from 14 on), and what a call
-- that may refuse answers, as a number: 0 where it does not. Assumes nothing.
use Rattle.std.specs.Prelude.{ℕ, Result, Ok, Err}
use Rattle.mesh.specs.declared.refusal.Refusal.{Refusal}
use Rattle.mesh.specs.declared.refusal.Refusal.TheVariants.{OverLimit, Misfit, FaceSize, Ungrouped, Index, Tolerance, Coordinate, Quotient, Room, NoHouseWires, FileCut, Record, AfterEnd, NotFinite, NotTriangle, FoldedOrUnused, UnfitCosines, Triples, TooFar}

abbrev pub number_of : Refusal → ℕ
number_of OverLimit = 1
number_of Misfit = 2
number_of FaceSize = 3
number_of Ungrouped = 4
number_of Index = 5
number_of Tolerance = 6
number_of Coordinate = 7
number_of Quotient = 8
number_of Room = 9
number_of NoHouseWires = 10
number_of FileCut = 11
number_of Record = 12
number_of AfterEnd = 13
number_of NotFinite = 14
number_of NotTriangle = 15
number_of FoldedOrUnused = 16
number_of UnfitCosines = 17
number_of Triples = 18
number_of TooFar = 19

-- the number of what is answered: 0 where it is no refusal
abbrev pub refused_number : {A : Type 0} → Result A Refusal → ℕ
refused_number (Ok a) = 0
refused_number (Err r) = number_of r
