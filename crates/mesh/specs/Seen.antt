-- The mesh that five lent lists are. Assumes nothing.
use Rattle.mesh.specs.Mesh.{Mesh as Lists, mesh_of}
use Rattle.mesh.specs.declared.Mesh.{Mesh}

abbrev pub seen : Mesh → Lists
seen m = mesh_of m.positions.now m.textures.now m.normals.now m.corners.now m.sizes.now
