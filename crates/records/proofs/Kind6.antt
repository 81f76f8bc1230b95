-- Kind 6 by its bytes. Assumes nothing.
use mathlib.Core.Path.{◌≡◌, ap, ◌∙◌}
use mathlib.Core.Bool.{true, false, not}
use mathlib.Core.List.{List, []}
use Prim.Native.Nat.{ℕ, ◌+◌, ◌*◌, ◌<◌}
use native.Mathlib.Omega.{arith}
use borrow.Author.Tests.{eq-eqb, ne_eqb}
use Rattle.lists.proofs.Parts.{some_none, some_true_at}
use Rattle.little.specs.Little.{word}
use Rattle.records.specs.Records.{ring_from, has_mark, any_mark}
use Rattle.records.specs.Kind6.{CornerIn6, BareBytes, TakenBytes, ManyBytes}
use Rattle.records.proofs.Ringing.{ring_at, ring_length}
use Rattle.records.proofs.Numbered.{bare_in_6, taken_in_6, many_in_6}

pub corner_in_6 : CornerIn6
corner_in_6 s n a k h = ring_at true s k n a h

all_bare : (s : List ℕ) (n a : ℕ) → ((k : ℕ) → k < n → word s (a + 16 * k + 12) ≡ 0) → any_mark (ring_from true s n a) ≡ false
unfolding any_mark
all_bare s n a f =
    some_none has_mark [] (ring_from true s n a)
    (λ k h. let g : k < n = omega (arith, h, ring_length true s n a) in ap has_mark (corner_in_6 s n a k g) ∙ ap not (eq-eqb (word s (a + 16 * k + 12)) 0 (f k g)))

one_marked : (s : List ℕ) (n a k : ℕ) → k < n → (word s (a + 16 * k + 12) ≡ 0 → ⊥) → any_mark (ring_from true s n a) ≡ true
unfolding any_mark
one_marked s n a k h u =
    some_true_at has_mark [] (ring_from true s n a) k (omega (arith, h, ring_length true s n a))
    (ap has_mark (corner_in_6 s n a k h) ∙ ap not (ne_eqb (word s (a + 16 * k + 12)) 0 u))

pub bare_bytes : BareBytes
bare_bytes s at n h e f = bare_in_6 s at n h e (all_bare s n (at + 6) f)

pub taken_bytes : TakenBytes
taken_bytes s at n k h e l u = taken_in_6 s at n h e (one_marked s n (at + 6) k l u)

pub many_bytes : ManyBytes
many_bytes s at n k h e l u = many_in_6 s at n h e (one_marked s n (at + 6) k l u)
