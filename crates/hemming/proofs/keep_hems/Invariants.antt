-- The hem places among the places passed are kept. Assumes nothing.
use Rattle.hemming.proofs.Kept.{Keeping}
use Rattle.hemming.proofs.keep_hems.Given as goal

abbrev pub invariant-loop-place : goal.invariant-loop-place
invariant-loop-place l = Keeping l.corners l.twins l.order l.initial.starts l.initial.kept l.starts l.kept l.m l.place-index
