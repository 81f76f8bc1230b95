-- the first entry is missing, or the second alone, or neither
use Rattle.around.proofs.Hemmed.{given_first, given_second, given_neither}
use Rattle.around.proofs.give.Goals as goal

pub returns-then-first-v : goal.returns-then-first-v
returns-then-first-v c = given_first c.args.first.now c.args.second.now c.args.v c.args.w c.if-first-v.true

pub returns-then-second-v : goal.returns-then-second-v
returns-then-second-v c = given_second c.args.first.now c.args.second.now c.args.v c.args.w c.if-first-v.false c.if-second-v.true

pub returns-else-second-v : goal.returns-else-second-v
returns-else-second-v c = given_neither c.args.first.now c.args.second.now c.args.v c.args.w c.if-first-v.false c.if-second-v.false
