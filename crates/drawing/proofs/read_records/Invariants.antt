-- `drawing::read_records` meets its contract: what is left to be read gives what the whole file gives; each record that is taken leaves fewer bytes. Assumes nothing.
use lib.ListN.{length}
use Rattle.mesh.specs.Mesh.{mesh_of}
use Rattle.drawing.proofs.Looping.{Underway, left}
use Rattle.drawing.proofs.read_records.Given as goal

abbrev pub invariant-records : goal.invariant-records
invariant-records l = Underway l.file l.x (mesh_of l.positions l.textures l.normals l.corners l.sizes)

abbrev pub decreases-records : goal.decreases-records
decreases-records l = left (length l.file) l.x
