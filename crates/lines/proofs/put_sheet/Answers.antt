-- `lines::put_sheet` meets its contract: 65,536 bytes are room for the four parts (`sheet_room_lem`), which are put one behind the other. Assumes nothing.
use Rattle.lines.proofs.Fitting.{Narrow, sheeted, sheet_room_lem, mesh_room, verdict_room, panels_room, hems_room, sheet_written}
use Rattle.lists.specs.Putting.{Room}
use Rattle.lines.specs.Lines.{sheet_text}
use Rattle.lines.specs.Working.{found_by}
use native.Mathlib.Omega.{arith}
use borrow.Author.Rules.{rules}
use Rattle.lines.proofs.put_sheet.Goals as goal

pub put_mesh-a-requires : goal.put_mesh-a-requires
put_mesh-a-requires c =
    let n : Narrow c.args.found = record { positions = search rules; textures = search rules; normals = search rules; faces = search rules; panels = search rules } in
    let whole : Room (sheet_text (found_by c.args.found c.args.flat.now c.args.lengths.now)) c.args.out.now 0 = sheet_room_lem _ _ _ _ n (λ i. omega (arith, c.type_inv.flat i)) c.requires in
    mesh_room _ _ _ _ whole

pub put_verdict-b-requires : goal.put_verdict-b-requires
put_verdict-b-requires c =
    let n : Narrow c.args.found = record { positions = search rules; textures = search rules; normals = search rules; faces = search rules; panels = search rules } in
    let whole : Room (sheet_text (found_by c.args.found c.args.flat.now c.args.lengths.now)) c.args.out.now 0 = sheet_room_lem _ _ _ _ n (λ i. omega (arith, c.type_inv.flat i)) c.requires in
    verdict_room _ _ _ _ _ _ whole c.put_mesh-a.ensures

pub put_panels-c-requires : goal.put_panels-c-requires
put_panels-c-requires c =
    let n : Narrow c.args.found = record { positions = search rules; textures = search rules; normals = search rules; faces = search rules; panels = search rules } in
    let whole : Room (sheet_text (found_by c.args.found c.args.flat.now c.args.lengths.now)) c.args.out.now 0 = sheet_room_lem _ _ _ _ n (λ i. omega (arith, c.type_inv.flat i)) c.requires in
    panels_room _ _ _ _ _ _ _ _ whole c.put_mesh-a.ensures c.put_verdict-b.ensures

pub put_wires-requires : goal.put_wires-requires
put_wires-requires c =
    let n : Narrow c.args.found = record { positions = search rules; textures = search rules; normals = search rules; faces = search rules; panels = search rules } in
    let whole : Room (sheet_text (found_by c.args.found c.args.flat.now c.args.lengths.now)) c.args.out.now 0 = sheet_room_lem _ _ _ _ n (λ i. omega (arith, c.type_inv.flat i)) c.requires in
    record {
      within = c.requires.within;
      room = hems_room _ _ _ _ _ _ _ _ _ _ whole c.put_mesh-a.ensures c.put_verdict-b.ensures c.put_panels-c.ensures;
    }

pub returns : goal.returns
returns c =
    let n : Narrow c.args.found = record { positions = search rules; textures = search rules; normals = search rules; faces = search rules; panels = search rules } in
    let whole : Room (sheet_text (found_by c.args.found c.args.flat.now c.args.lengths.now)) c.args.out.now 0 = sheet_room_lem _ _ _ _ n (λ i. omega (arith, c.type_inv.flat i)) c.requires in
    sheeted whole (sheet_written _ _ _ _ _ _ _ _ _ _ _ _ c.put_mesh-a.ensures c.put_verdict-b.ensures c.put_panels-c.ensures c.put_wires.ensures)
