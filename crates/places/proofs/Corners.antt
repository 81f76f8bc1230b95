-- The places of a face of n corners, 0 to n - 1, each of which has its corner. Assumes nothing.
use mathlib.Core.Path.{◌≡◌, refl}
use mathlib.Core.Bool.{Bool, true}
use mathlib.Core.List.{List, [], ◌∷◌}
use Prim.Native.Nat.{ℕ, zero, suc, ◌+◌, ◌*◌, ◌≤◌, ◌<◌}
use native.Mathlib.Omega.{arith}
use lib.ListN.{length}
use lib.Dec.{ltb}
use borrow.Author.Tests.{ltb-true, lt-ltb}
use Rattle.lists.specs.Lists.{every, span}
use Rattle.lists.proofs.Bools.{and_left, and_right, and_both}
use Rattle.mesh.specs.Limits.{width}
use Rattle.places.specs.Working.{is_place, Places}

-- below n
abbrev pub under : ℕ → ℕ → Bool
under n i = ltb i n

every_span_from : (a k n : ℕ) → a + k ≤ n → every (under n) (span a k) ≡ true
every_span_from a zero n h = refl
every_span_from a (suc k) n h =
    and_both (under n a) (every (under n) (span (suc a) k)) (lt-ltb a n (omega arith)) (every_span_from (suc a) k n (omega arith))

pub every_span : (n : ℕ) → every (under n) (span 0 n) ≡ true
every_span n = every_span_from 0 n n (omega arith)

every_weaker : {A : Type 0} (p q : A → Bool) → ((a : A) → p a ≡ true → q a ≡ true) → (l : List A) → every p l ≡ true → every q l ≡ true
every_weaker p q f [] h = refl
every_weaker p q f (x ∷ l) h =
    and_both (q x) (every q l) (f x (and_left (p x) (every p l) h)) (every_weaker p q f l (and_right (p x) (every p l) h))

-- each place of a face of n corners
pub places_span : (face : List ℕ) (n : ℕ) → length face ≡ width * n → Places face (span 0 n)
places_span face n e =
    every_weaker (under n) (is_place face) (λ i h. lt-ltb (width * i) (length face) (let l : i < n = ltb-true i n h in omega arith)) (span 0 n) (every_span n)
