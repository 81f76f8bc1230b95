-- `hemming::keep_hem` meets its contract by its test: the place and its start, or none. Assumes nothing.
use Rattle.std.proofs.Common.{refl}
use Rattle.hemming.proofs.Kept.{keep_none, keep_one}
use Rattle.hemming.proofs.keep_hem.Goals as goal

pub returns-then-twins-u : goal.returns-then-twins-u
returns-then-twins-u c =
    keep_none c.args.corners.now c.args.twins.now c.args.place c.args.starts.now c.args.kept.now c.args.m _ refl c.if-twins-u.true

pub returns : goal.returns
returns c =
    keep_one c.args.corners.now c.args.twins.now c.args.place c.args.starts.now c.args.kept.now c.args.m _ refl c.if-twins-u.false
