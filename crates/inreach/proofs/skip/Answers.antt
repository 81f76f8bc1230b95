-- `inreach::skip` meets its contract, by the laws of `Skipping`. Assumes nothing.
use mathlib.Core.Path.{refl}
use Rattle.inreach.proofs.Skipping.{low_to, high_to, high_all, reached, here_two, here_three}
use native.Mathlib.Omega.{arith}
use Rattle.inreach.proofs.skip.Goals as goal

pub returns-then-u-x : goal.returns-then-u-x
returns-then-u-x c =
    let pre = c.requires in
    let entry = c.entry-j in
    let Cell-at = c.cell_at-x in
    let cell-at2 = c.cell_at-u in
    let if1 = c.if-u-x in
    let entry2 = c.entry in
    low_to pre.0 pre.1 pre.2 0 (omega (arith, pre.0.by_cell.points.least)) entry.ensures Cell-at.ensures.0 cell-at2.ensures.0
    1 _ (omega arith) if1.true entry2.ensures (pre.0.slab_ends.each _ pre.2)

pub returns-then-x-u : goal.returns-then-x-u
returns-then-x-u c =
    let pre = c.requires in
    let entry = c.entry-j in
    let Cell-at = c.cell_at-x in
    let cell-at2 = c.cell_at-u in
    let if2 = c.if-x-u in
    high_all pre.0 pre.1 pre.2 0 (omega (arith, pre.0.by_cell.points.least)) entry.ensures Cell-at.ensures.0 cell-at2.ensures.0
    refl if2.true

pub returns-then-v-y : goal.returns-then-v-y
returns-then-v-y c =
    let pre = c.requires in
    let entry = c.entry-j in
    let cell-at3 = c.cell_at-y in
    let cell-at4 = c.cell_at-v in
    let if3 = c.if-v-y in
    let entry3 = c.entry-then-v-y in
    low_to pre.0 pre.1 pre.2 1 (omega (arith, pre.0.by_cell.points.least)) entry.ensures cell-at3.ensures.0 cell-at4.ensures.0
    2 _ (omega arith) if3.true entry3.ensures (pre.0.row_ends.each _ pre.2)

pub returns-then-y-v : goal.returns-then-y-v
returns-then-y-v c =
    let pre = c.requires in
    let entry = c.entry-j in
    let cell-at3 = c.cell_at-y in
    let cell-at4 = c.cell_at-v in
    let if4 = c.if-y-v in
    let entry4 = c.entry-then-y-v in
    high_to pre.0 pre.1 pre.2 1 (omega (arith, pre.0.by_cell.points.least)) entry.ensures cell-at3.ensures.0 cell-at4.ensures.0
    _ if4.true entry4.ensures (pre.0.slab_ends.each _ pre.2)

pub returns-then-w-eq-TEXEL_WIDTH : goal.returns-then-w-eq-TEXEL_WIDTH
returns-then-w-eq-TEXEL_WIDTH c =
    let pre = c.requires in
    let if5 = c.if-w-eq-TEXEL_WIDTH in
    let entry = c.entry-j in
    let Cell-at = c.cell_at-x in
    let cell-at2 = c.cell_at-u in
    let if1 = c.if-u-x in
    let if2 = c.if-x-u in
    let cell-at3 = c.cell_at-y in
    let cell-at4 = c.cell_at-v in
    let if3 = c.if-v-y in
    let if4 = c.if-y-v in
    here_two pre.0 pre.1 pre.2 if5.true
    (reached pre.0 pre.1 pre.2 0 (omega (arith, pre.0.by_cell.points.least)) entry.ensures Cell-at.ensures.0 cell-at2.ensures.0 if1.false if2.false)
    (reached pre.0 pre.1 pre.2 1 (omega (arith, pre.0.by_cell.points.least)) entry.ensures cell-at3.ensures.0 cell-at4.ensures.0 if3.false if4.false)

pub returns-then-t-z : goal.returns-then-t-z
returns-then-t-z c =
    let pre = c.requires in
    let if5 = c.if-w-eq-TEXEL_WIDTH in
    let entry = c.entry-j in
    let cell-at5 = c.cell_at-z in
    let cell-at6 = c.cell_at-t in
    let if6 = c.if-t-z in
    let entry5 = c.entry-then-t-z in
    low_to pre.0 pre.1 pre.2 2 (omega (arith, pre.0.by_cell.points.least, if5.false)) entry.ensures cell-at5.ensures.0 cell-at6.ensures.0
    _ _ (omega (arith, pre.0.by_cell.points.least, if5.false)) if6.true entry5.ensures (pre.0.run_ends.each _ pre.2)

pub returns-then-z-t : goal.returns-then-z-t
returns-then-z-t c =
    let pre = c.requires in
    let if5 = c.if-w-eq-TEXEL_WIDTH in
    let entry = c.entry-j in
    let cell-at5 = c.cell_at-z in
    let cell-at6 = c.cell_at-t in
    let if7 = c.if-z-t in
    let entry6 = c.entry-then-z-t in
    high_to pre.0 pre.1 pre.2 2 (omega (arith, pre.0.by_cell.points.least, if5.false)) entry.ensures cell-at5.ensures.0 cell-at6.ensures.0
    _ if7.true entry6.ensures (pre.0.row_ends.each _ pre.2)

pub returns : goal.returns
returns c =
    let pre = c.requires in
    let if5 = c.if-w-eq-TEXEL_WIDTH in
    let entry = c.entry-j in
    let Cell-at = c.cell_at-x in
    let cell-at2 = c.cell_at-u in
    let if1 = c.if-u-x in
    let if2 = c.if-x-u in
    let cell-at3 = c.cell_at-y in
    let cell-at4 = c.cell_at-v in
    let if3 = c.if-v-y in
    let if4 = c.if-y-v in
    let cell-at5 = c.cell_at-z in
    let cell-at6 = c.cell_at-t in
    let if6 = c.if-t-z in
    let if7 = c.if-z-t in
    here_three pre.0 pre.1 pre.2 if5.false
    (reached pre.0 pre.1 pre.2 0 (omega (arith, pre.0.by_cell.points.least)) entry.ensures Cell-at.ensures.0 cell-at2.ensures.0 if1.false if2.false)
    (reached pre.0 pre.1 pre.2 1 (omega (arith, pre.0.by_cell.points.least)) entry.ensures cell-at3.ensures.0 cell-at4.ensures.0 if3.false if4.false)
    (reached pre.0 pre.1 pre.2 2 (omega (arith, pre.0.by_cell.points.least, if5.false)) entry.ensures cell-at5.ensures.0 cell-at6.ensures.0 if6.false if7.false)
