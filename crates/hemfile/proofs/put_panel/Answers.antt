-- `put_panel` meets its contract: the sheet is the refusal of the panel file, or that of its mesh and the triples (`Reading`). Assumes nothing.
use mathlib.Core.List.{[]}
use Rattle.hemtext.proofs.Texts.{sheeted_as}
use Rattle.hemfile.proofs.Reading.{refused_text, kept, corners_few, printable, mesh_text}
use native.Mathlib.Omega.{arith}
use Rattle.hemfile.proofs.put_panel.Goals as goal

pub returns-then-number-ne0 : goal.returns-then-number-ne0
returns-then-number-ne0 c = sheeted_as (refused_text _ c.read_faces-read.ensures c.if-number-ne0.true) c.put_refusal.ensures

pub overflow_mul-c : goal.overflow_mul-c
overflow_mul-c c =
    let read = c.read_faces-read.ensures in
    omega (arith, corners_few [] read c.if-number-ne0.false)

pub slice_bounds-corners-end : goal.slice_bounds-corners-end
slice_bounds-corners-end c =
    let read = c.read_faces-read.ensures in
    (kept [] read c.if-number-ne0.false).corner_front.within

pub slice_bounds-put_mesh-end : goal.slice_bounds-put_mesh-end
slice_bounds-put_mesh-end c =
    let read = c.read_faces-read.ensures in
    (kept [] read c.if-number-ne0.false).corner_front.long

pub slice_bounds-sizes-end : goal.slice_bounds-sizes-end
slice_bounds-sizes-end c =
    let read = c.read_faces-read.ensures in
    (kept [] read c.if-number-ne0.false).size_front.within

pub slice_bounds-put_mesh-end-2 : goal.slice_bounds-put_mesh-end-2
slice_bounds-put_mesh-end-2 c =
    let read = c.read_faces-read.ensures in
    (kept [] read c.if-number-ne0.false).size_front.long

pub put_mesh-requires : goal.put_mesh-requires
put_mesh-requires c =
    let read = c.read_faces-read.ensures in
    printable [] read c.if-number-ne0.false c.requires

pub returns : goal.returns
returns c =
    let read = c.read_faces-read.ensures in
    sheeted_as (mesh_text _ read c.if-number-ne0.false) c.put_mesh.ensures
