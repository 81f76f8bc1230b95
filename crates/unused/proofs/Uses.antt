-- The indices that a column uses: those that are not missing, in the order of their first use. Assumes nothing.
use mathlib.Core.Path.{◌≡◌, refl, sym, ap, ◌∙◌}
use mathlib.Core.Bool.{true, false, not, ◌&&◌}
use mathlib.Core.List.{List, [], ◌∷◌, ◌++◌, append-nil}
use Prim.Native.Nat.{ℕ, ◌≤◌}
use lib.ListN.{length}
use lib.Dec.{ltb, eqb, leb}
use borrow.Author.Tests.{lt-ltb, leb-false}
use Rattle.lists.specs.Lists.{some, every, only, has}
use Rattle.lists.specs.FirstUses.{first_uses}
use Rattle.lists.proofs.Bools.{by_cases, and_both, or_false_left, or_false_right}
use Rattle.lists.proofs.Only.{only_append}
use Rattle.lists.proofs.Buckets.{only_snoc}
use Rattle.lists.proofs.Members.{Once}
use Rattle.lists.proofs.Others.{has_only}
use Rattle.lists.proofs.FirstUses.{has-first_uses, first_uses-once, first_uses-every, first_uses-few, new_to, first_uses-append, first_uses-old, first_uses-new}
use Rattle.mesh.specs.Mesh.{missing}
use Rattle.mesh.specs.Table.{beyond_unless_missing}
use Rattle.unused.specs.Compaction.{present, uses_of}

-- what is used: what stands in the column and is not missing
pub has_uses : (x : ℕ) (l : List ℕ) → has x (uses_of l) ≡ (not (eqb x missing) && has x l)
has_uses x l = has-first_uses x (only present l) ∙ has_only present x l

-- each is used once
pub uses_once : (l : List ℕ) → Once (uses_of l)
uses_once l = first_uses-once (only present l)

-- the uses of one column and then another: behind the first's, those of the other that are new
pub uses_append : (a b : List ℕ) → uses_of (a ++ b) ≡ uses_of a ++ new_to (uses_of a) (uses_of b)
uses_append a b = ap first_uses (only_append present a b) ∙ first_uses-append (only present a) (only present b)

-- one index more: a missing one changes nothing, nor does one that was used; any other comes to stand behind all
module _ (l : List ℕ) (i : ℕ) where
  pub uses_more_missing : eqb i missing ≡ true → uses_of (l ++ (i ∷ [])) ≡ uses_of l
  uses_more_missing m = ap first_uses (only_snoc present l i ∙ rw m (append-nil (only present l)))

  one_more : eqb i missing ≡ false → uses_of (l ++ (i ∷ [])) ≡ first_uses (only present l ++ (i ∷ []))
  one_more m = ap first_uses (only_snoc present l i ∙ rw m)

  pub uses_more_old : eqb i missing ≡ false → has i (uses_of l) ≡ true → uses_of (l ++ (i ∷ [])) ≡ uses_of l
  uses_more_old m h = one_more m ∙ first_uses-old (only present l) i (sym (has-first_uses i (only present l)) ∙ h)

  pub uses_more_new : eqb i missing ≡ false → has i (uses_of l) ≡ false → uses_of (l ++ (i ∷ [])) ≡ uses_of l ++ (i ∷ [])
  uses_more_new m h = one_more m ∙ first_uses-new (only present l) i (sym (has-first_uses i (only present l)) ∙ h)

-- where each index is missing or below the count, the uses are below it, and no more than it
present_below : (n : ℕ) (l : List ℕ) → some (beyond_unless_missing n) l ≡ false → every (λ (x : ℕ). ltb x n) (only present l) ≡ true
present_below n [] h = refl
present_below n (i ∷ l) h =
    let g : every (λ (x : ℕ). ltb x n) (only present l) ≡ true =
    present_below n l (or_false_right (beyond_unless_missing n i) (some (beyond_unless_missing n) l) h) in
    by_cases (eqb i missing)
    (λ m. rw m g)
    (λ m.
    let b : leb n i ≡ false = rw m at (or_false_left (beyond_unless_missing n i) (some (beyond_unless_missing n) l) h) in
    rw m (and_both (ltb i n) (every (λ (x : ℕ). ltb x n) (only present l)) (lt-ltb i n (leb-false n i b)) g))

pub uses_below : (n : ℕ) (l : List ℕ) → some (beyond_unless_missing n) l ≡ false → every (λ (x : ℕ). ltb x n) (uses_of l) ≡ true
uses_below n l h = first_uses-every (λ (x : ℕ). ltb x n) (only present l) (present_below n l h)

pub uses_few : (n : ℕ) (l : List ℕ) → some (beyond_unless_missing n) l ≡ false → length (uses_of l) ≤ n
uses_few n l h = first_uses-few n (only present l) (present_below n l h)
