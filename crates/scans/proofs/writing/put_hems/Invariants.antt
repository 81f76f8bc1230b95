-- The hem edges among the first i uses are written. Assumes nothing.
use Rattle.scans.proofs.Hemming.{Hemming}
use Rattle.scans.proofs.writing.put_hems.Given as goal

abbrev pub invariant-loop-i : goal.invariant-loop-i
invariant-loop-i l = Hemming l.lowers l.highers l.downs l.order l.initial.starts l.initial.ends l.starts l.ends l.p l.i
