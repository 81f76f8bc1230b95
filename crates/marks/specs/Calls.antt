-- The calls of cleaning on two meshes that differ in marks alone: any of them, one after the other, whatever was lent with the stated room, and
-- whatever they answer and write, as their contracts allow it. What two calls on edges and panels have in common stands in Order.antt. Proved in
-- proofs/. Assumes nothing.
use Rattle.std.specs.Prelude.{◌≡◌, List}
use Rattle.mesh.specs.Mesh.{Mesh}
use Rattle.mesh.specs.Table.{mesh_number}
use Rattle.anyorder.specs.Orders.{Step}
use Rattle.anyorder.specs.Calls.{RemovalCall, origins_written, Calls, answers}
use Rattle.marks.specs.Marks.{unmarked}

pub record CallsButForMarks (m n : Mesh) : Type 0 where
  -- the same steps answer the same numbers, and leave two meshes that differ in marks alone
  pub same_numbers : {ss : List Step} {o p : Mesh} (c : Calls m ss o) (d : Calls n ss p) → answers c ≡ answers d
  pub leave : {ss : List Step} {o p : Mesh} → Calls m ss o → Calls n ss p → unmarked o ≡ unmarked p
  -- and of each face that is left the same drawn face is told
  pub same_origins : (r : RemovalCall m) (q : RemovalCall n) → origins_written r ≡ origins_written q

abbrev pub MarksAloneOfTheCalls : Type 0
MarksAloneOfTheCalls = (m n : Mesh) → mesh_number m ≡ 0 → unmarked m ≡ unmarked n → CallsButForMarks m n
