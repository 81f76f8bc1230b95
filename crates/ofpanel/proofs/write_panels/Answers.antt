-- `ofpanel::write_panels` meets its contract: the panels of the first k hems are written. Assumes nothing.
use Prim.Native.Nat.{◌-◌}
use lib.ListN.{length}
use Rattle.lists.proofs.Writing.{Copying}
use Rattle.ofpanel.specs.Steps.{panels_by}
use Rattle.ofpanel.proofs.Whole.{write_turns, write_ends, face_below}
use Rattle.std.proofs.Common.{refl}
use native.Mathlib.Omega.{arith}
use Rattle.ofpanel.proofs.write_panels.Goals as goal

pub offset_bounds-faces-first : goal.offset_bounds-faces-first
offset_bounds-faces-first c =
    let used = c.requires.used c.loop-k.k (omega arith) in
    omega (arith, used, c.requires.split, c.requires.few)

pub bounds-faces-first : goal.bounds-faces-first
bounds-faces-first c =
    let used = c.requires.used c.loop-k.k (omega arith) in
    omega (arith, used)

pub offset_bounds-labels-face : goal.offset_bounds-labels-face
offset_bounds-labels-face c =
    let faced = c.requires.faced c.loop-k.k (omega arith) in
    let below = face_below c.args.firsts.now c.args.faces.now c.args.labels.now c.loop-k.k _ _ refl refl faced in
    omega (arith, below, c.requires.few_labels)

pub bounds-labels-face : goal.bounds-labels-face
bounds-labels-face c =
    let faced = c.requires.faced c.loop-k.k (omega arith) in
    face_below c.args.firsts.now c.args.faces.now c.args.labels.now c.loop-k.k _ _ refl refl faced

pub loop-k-preserved : goal.loop-k-preserved
loop-k-preserved c =
    write_turns _ _ _ _ _ _ _ _ (omega arith) refl refl c.loop-k.invariant

pub returns : goal.returns
returns c =
    write_ends _ _ _ _ _ _ (omega arith) c.loop-k.invariant
