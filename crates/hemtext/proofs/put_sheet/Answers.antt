-- `put_sheet` meets its contract: its three ways out (`Texts`). Assumes nothing.
use mathlib.Core.Path.{refl}
use Rattle.hemtext.proofs.Texts.{sheeted_as, far_text, unwired_text, listable, panel_front, edge_front, length_front, beside, listed_text}
use native.Mathlib.Omega.{arith}
use Rattle.hemtext.proofs.put_sheet.Goals as goal

pub put_refusal-requires : goal.put_refusal-requires
put_refusal-requires c = omega (arith, c.requires.room)

pub returns-then-beyond_reach : goal.returns-then-beyond_reach
returns-then-beyond_reach c = sheeted_as (far_text _ _ c.beyond_reach.ensures c.if-beyond_reach.true) c.put_refusal.ensures

pub list_of-listed-requires : goal.list_of-listed-requires
list_of-listed-requires c = listable c.requires c.beyond_reach.ensures c.if-beyond_reach.false refl refl refl

pub put_refusal-requires-then-number-ne0 : goal.put_refusal-requires-then-number-ne0
put_refusal-requires-then-number-ne0 c = omega (arith, c.requires.room)

pub returns-then-number-ne0 : goal.returns-then-number-ne0
returns-then-number-ne0 c =
    sheeted_as (unwired_text _ _ _ c.beyond_reach.ensures c.if-beyond_reach.false c.list_of-listed.ensures.number c.if-number-ne0.true)
    c.put_refusal-then-number-ne0.ensures

pub slice_bounds-panels-end : goal.slice_bounds-panels-end
slice_bounds-panels-end c = (panel_front c.requires c.beyond_reach.ensures c.if-beyond_reach.false refl refl refl c.list_of-listed.ensures c.if-number-ne0.false).within

pub slice_bounds-put_hems-end : goal.slice_bounds-put_hems-end
slice_bounds-put_hems-end c = (panel_front c.requires c.beyond_reach.ensures c.if-beyond_reach.false refl refl refl c.list_of-listed.ensures c.if-number-ne0.false).long

pub slice_bounds-edges-end : goal.slice_bounds-edges-end
slice_bounds-edges-end c = (edge_front c.requires c.beyond_reach.ensures c.if-beyond_reach.false refl refl refl c.list_of-listed.ensures c.if-number-ne0.false).within

pub slice_bounds-put_hems-end-2 : goal.slice_bounds-put_hems-end-2
slice_bounds-put_hems-end-2 c = (edge_front c.requires c.beyond_reach.ensures c.if-beyond_reach.false refl refl refl c.list_of-listed.ensures c.if-number-ne0.false).long

pub slice_bounds-lengths-end : goal.slice_bounds-lengths-end
slice_bounds-lengths-end c = (length_front c.requires c.beyond_reach.ensures c.if-beyond_reach.false refl refl refl c.list_of-listed.ensures c.if-number-ne0.false).within

pub slice_bounds-put_hems-end-3 : goal.slice_bounds-put_hems-end-3
slice_bounds-put_hems-end-3 c = (length_front c.requires c.beyond_reach.ensures c.if-beyond_reach.false refl refl refl c.list_of-listed.ensures c.if-number-ne0.false).long

pub put_hems-requires : goal.put_hems-requires
put_hems-requires c = beside c.requires c.beyond_reach.ensures c.if-beyond_reach.false refl refl refl c.list_of-listed.ensures c.if-number-ne0.false

pub returns : goal.returns
returns c =
    listed_text c.requires c.beyond_reach.ensures c.if-beyond_reach.false refl refl refl c.list_of-listed.ensures c.if-number-ne0.false c.put_hems.ensures
