-- The face on top is one of the faces, and its part of the row stands for its neighbours. Assumes nothing.
use Rattle.std.proofs.Common.{refl, arith}
use Rattle.connected.proofs.Popping.{top_below, pop_looks, pop_steps}
use Rattle.searching.proofs.search.pop.Goals as goal

pub begin_of-from-requires : goal.begin_of-from-requires
begin_of-from-requires c =
    omega (arith, top_below _ _ _ c.requires.adjacent _ _ _ _ _ c.requires.listing c.requires.some)

pub bounds-ends-x : goal.bounds-ends-x
bounds-ends-x c =
    omega (arith, top_below _ _ _ c.requires.adjacent _ _ _ _ _ c.requires.listing c.requires.some)

pub look-requires : goal.look-requires
look-requires c =
    pop_looks _ _ _ c.requires.adjacent _ _ _ _ _ c.requires.listing c.requires.some _ _ refl refl

pub returns : goal.returns
returns c =
    pop_steps _ _ _ c.requires.adjacent _ _ _ _ _ c.requires.listing c.requires.some _ _ _ _ _ _ _ _ refl c.begin_of-from.ensures refl
    c.look.ensures
