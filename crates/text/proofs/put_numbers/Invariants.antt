-- The first numbers are put, each behind a space. Assumes nothing.
use Rattle.lists.proofs.Listing.{Listing}
use Rattle.text.proofs.Putting.{number_text}
use Rattle.text.proofs.put_numbers.Given as goal

abbrev pub invariant-loop-n : goal.invariant-loop-n
invariant-loop-n l = Listing number_text l.ns l.initial.out l.out l.initial.to l.to l.n-index
