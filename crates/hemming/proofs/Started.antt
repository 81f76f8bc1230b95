-- The row of starts where it is written: each place that was given has the position of its corner. And a sort looks at the keys of the
-- numbers it sorts alone. Assumes nothing.
use mathlib.Core.Path.{◌≡◌, refl, sym, ap, ◌∙◌}
use mathlib.Core.Logic.{⊎_elim}
use mathlib.Core.List.{List, [], ◌∷◌, ◌++◌}
use Prim.Native.Nat.{ℕ, ◌<◌}
use native.Mathlib.Omega.{arith}
use lib.Dec.{eqb}
use lib.ListN.{length, get_or, set, length-set}
use lib.Seq.{get_or-set_same, get_or-set_other}
use borrow.Author.Tests.{eqb-true, eqb-false}
use Rattle.lists.specs.Lists.{only, span}
use Rattle.lists.proofs.Bools.{by_cases}
use Rattle.lists.proofs.Members.{In, in_cases}
use Rattle.lists.proofs.Buckets.{each_cong}
use Rattle.lists.proofs.Changing.{only_same}
use Rattle.sorting.specs.Sorting.{key_is, sorted_by}
use Rattle.hemming.specs.Rows.{start_at, started}

module _ (cs : List ℕ) where
  pub length_started : (us l : List ℕ) → length (started cs us l) ≡ length l
  unfolding started
  length_started [] l = refl
  length_started (u ∷ us) l = length_started us (set l u (start_at cs u)) ∙ length-set l u (start_at cs u)

  pub started_append : (us vs l : List ℕ) → started cs (us ++ vs) l ≡ started cs vs (started cs us l)
  unfolding started
  started_append [] vs l = refl
  started_append (u ∷ us) vs l = started_append us vs (set l u (start_at cs u))

  -- what a place has is written there once more, if at all
  keeps_start : (u : ℕ) (us l : List ℕ) → u < length l → get_or l u 0 ≡ start_at cs u → get_or (started cs us l) u 0 ≡ start_at cs u
  unfolding started
  keeps_start u [] l h e = e
  keeps_start u (v ∷ us) l h e =
      keeps_start u us (set l v (start_at cs v)) (omega (arith, length-set l v (start_at cs v)))
      (by_cases (eqb u v)
      (λ q.
      let z : u ≡ v = eqb-true u v q in
      ap (λ (x : ℕ). get_or (set l v (start_at cs v)) x 0) z
      ∙ get_or-set_same l v (start_at cs v) 0 (omega arith)
      ∙ ap (λ (x : ℕ). start_at cs x) (sym z))
      (λ q. get_or-set_other l v u (start_at cs v) 0 (eqb-false u v q) ∙ e))

  pub started_at : (u : ℕ) (us l : List ℕ) → In u us → u < length l → get_or (started cs us l) u 0 ≡ start_at cs u
  unfolding started
  started_at u [] l i h = Rattle.lists.proofs.Counting.clash i refl
  started_at u (v ∷ us) l i h =
      let k : u < length (set l v (start_at cs v)) = omega (arith, length-set l v (start_at cs v)) in
      ⊎_elim
      (λ z.
      keeps_start u us (set l v (start_at cs v)) k
      (ap (λ (x : ℕ). get_or (set l v (start_at cs v)) x 0) z
      ∙ get_or-set_same l v (start_at cs v) 0 (omega arith)
      ∙ ap (λ (x : ℕ). start_at cs x) (sym z)))
      (λ j. started_at u us (set l v (start_at cs v)) j k)
      (in_cases u v us i)

-- rows that agree at the numbers of the list sort it alike
pub sorted_agree : (n : ℕ) (a b l : List ℕ) → ((x : ℕ) → In x l → get_or a x 0 ≡ get_or b x 0) → sorted_by n a l ≡ sorted_by n b l
unfolding sorted_by
sorted_agree n a b l h =
    each_cong (λ k. only (key_is a k) l) (λ k. only (key_is b k) l)
    (λ k. only_same (key_is a k) (key_is b k) l (λ x i. ap (λ (y : ℕ). eqb y k) (h x i))) (span 0 n)
