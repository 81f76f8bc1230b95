-- `moved::share` meets its contract, by the laws of `Edgewise`. Assumes nothing.
use Rattle.moved.proofs.Edgewise.{share_first, share_second, share_inner}
use Rattle.moved.proofs.share.Goals as goal

pub returns-then-second-v : goal.returns-then-second-v
returns-then-second-v c =
    share_first _ c.args.second.now _ _ c.args.w _ _ c.if-second-v.true c.cosine_of.ensures c.rest_of.ensures

pub returns-then-second-w : goal.returns-then-second-w
returns-then-second-w c =
    share_second _ c.args.second.now _ _ _ _ _ c.if-second-v.false c.if-second-w.true c.cosine_of-then-second-w.ensures c.spread_of.ensures

pub returns : goal.returns
returns c =
    share_inner c.args.degrees.now c.args.second.now c.args.ones.now _ _ c.if-second-v.false c.if-second-w.false
