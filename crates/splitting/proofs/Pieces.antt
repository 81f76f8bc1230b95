-- What is known of the pieces of a ring: each has three elements or more, together they have no more than the ring, each of their
-- elements is one of the ring's, and the ring's split has each element of the ring as often as the ring has it. Assumes nothing.
use mathlib.Core.Path.{◌≡◌, refl, ap, ◌∙◌}
use mathlib.Core.Bool.{Bool, true, false}
use mathlib.Core.List.{List, [], ◌∷◌, ◌++◌, map, map-append, append-nil}
use Prim.Native.Nat.{ℕ, ◌+◌, ◌*◌, ◌-◌, ◌≤◌, ◌<◌}
use native.Mathlib.Omega.{arith}
use lib.ListN.{length, take, drop, take-append-drop}
use lib.Seq.{drop-drop}
use borrow.Author.Tests.{leb-true, le-leb, lt-leb}
use Rattle.lists.specs.Lists.{every, only, sum, count, joined}
use Rattle.lists.proofs.Bools.{by_cases, and_left, and_right, and_both}
use Rattle.lists.proofs.Parts.{sum_append, joined_append, every_append, every_take, every_drop}
use Rattle.lists.proofs.Only.{only_append, every_self, every_only}
use Rattle.lists.proofs.Counting.{count_append}
use Rattle.splitting.specs.Splitting.{folded_by, first_by, second_by, between, around, split_by, pieces_by, is_piece}
use Rattle.splitting.proofs.Search.{Pair, folded_pair}
use Rattle.splitting.proofs.Splitting.{one, two, length_between, length_around, split_whole, split_cut, split_all}

module _ {A : Type 0} where
  sum_only : (p : List A → Bool) (ps : List (List A)) → sum (map length (only p ps)) ≤ sum (map length ps)
  sum_only p [] = omega arith
  sum_only p (r ∷ ps) =
      let h : sum (map length (only p ps)) ≤ sum (map length ps) = sum_only p ps in
      by_cases (p r) (λ e. rw e (omega arith)) (λ e. rw e (omega arith))

  -- no more pieces than a third of their elements
  pub third : (ps : List (List A)) → every is_piece ps ≡ true → 3 * length ps ≤ sum (map length ps)
  third [] e = omega arith
  third (p ∷ ps) e =
      let a : 3 ≤ length p = leb-true 3 (length p) (and_left (is_piece p) (every is_piece ps) e) in
      let b : 3 * length ps ≤ sum (map length ps) = third ps (and_right (is_piece p) (every is_piece ps) e) in
      omega arith

module _ {A : Type 0} (key : A → ℕ) where
  -- a ring that is not folded stays or vanishes, a folded one gives the pieces of its two rings
  pub pieces_stay : (r : List A) → folded_by key r ≡ false → 3 ≤ length r → pieces_by key r ≡ r ∷ []
  unfolding pieces_by
  pieces_stay r e h = ap (only is_piece) (split_whole key r e) ∙ rw (le-leb 3 (length r) h)

  pub pieces_vanish : (r : List A) → folded_by key r ≡ false → length r < 3 → pieces_by key r ≡ []
  unfolding pieces_by
  pieces_vanish r e h = ap (only is_piece) (split_whole key r e) ∙ rw (lt-leb 3 (length r) h)

  pub pieces_cut : (r : List A) → folded_by key r ≡ true → pieces_by key r ≡ pieces_by key (one key r) ++ pieces_by key (two key r)
  unfolding pieces_by
  pieces_cut r e = ap (only is_piece) (split_cut key r e) ∙ only_append is_piece (split_by key (one key r)) (split_by key (two key r))

  -- as many elements as the ring has
  pub split_length : (r : List A) → sum (map length (split_by key r)) ≡ length r
  split_length =
      split_all key
      (λ r ps. sum (map length ps) ≡ length r)
      (λ r e. omega arith)
      (λ r e a b h k.
      let s : sum (map length (a ++ b)) ≡ sum (map length a) + sum (map length b) = ap sum (map-append length a b) ∙ sum_append (map length a) (map length b) in
      let p = folded_pair key r e in
      let x : length (one key r) ≡ second_by key r - first_by key r = length_between r (first_by key r) (second_by key r) p in
      let y : length (two key r) ≡ length r - (second_by key r - first_by key r) = length_around r (first_by key r) (second_by key r) p in
      omega (arith, s, h, k, x, y, p.ordered, p.within))

  pub pieces_all : (r : List A) → every is_piece (pieces_by key r) ≡ true
  unfolding pieces_by
  pieces_all r = every_self is_piece (split_by key r)

  pub pieces_fewer : (r : List A) → sum (map length (pieces_by key r)) ≤ length r
  unfolding pieces_by
  pieces_fewer r = let a : _ = sum_only is_piece (split_by key r) in let b : _ = split_length r in omega arith

  -- what every element of the ring passes, every element of its pieces passes
  every_both : {B : Type 0} (p : B → Bool) (a b : List B) → every p a ≡ true → every p b ≡ true → every p (a ++ b) ≡ true
  every_both p a b e f = every_append p a b ∙ and_both (every p a) (every p b) e f

  pub split_every : (p : A → Bool) (r : List A) → every p r ≡ true → every (every p) (split_by key r) ≡ true
  split_every p =
      split_all key
      (λ r ps. every p r ≡ true → every (every p) ps ≡ true)
      (λ r e c. and_both (every p r) true c refl)
      (λ r e a b h k c.
      every_both (every p) a b
      (h (every_take p (second_by key r - first_by key r) (drop (first_by key r) r) (every_drop p (first_by key r) r c)))
      (k (every_both p (drop (second_by key r) r) (take (first_by key r) r) (every_drop p (second_by key r) r c) (every_take p (first_by key r) r c))))

  pub pieces_every : (p : A → Bool) (r : List A) → every p r ≡ true → every (every p) (pieces_by key r) ≡ true
  unfolding pieces_by
  pieces_every p r c = every_only is_piece (every p) (split_by key r) (split_every p r c)

  -- each element of the ring goes to one ring of the split: none is lost and none stands in two
  cut_count : (p : A → Bool) (r : List A) (i j : ℕ) → Pair r i j → count p (between r i j) + count p (around r i j) ≡ count p r
  cut_count p r i j q =
      let n : i + (j - i) ≡ j = omega (arith, q.ordered) in
      let a : count p (take i r ++ drop i r) ≡ count p (take i r) + count p (drop i r) = count_append p (take i r) (drop i r) in
      let b : count p (take (j - i) (drop i r) ++ drop (j - i) (drop i r)) ≡ count p (take (j - i) (drop i r)) + count p (drop (j - i) (drop i r)) =
      count_append p (take (j - i) (drop i r)) (drop (j - i) (drop i r)) in
      let c : count p (drop j r ++ take i r) ≡ count p (drop j r) + count p (take i r) = count_append p (drop j r) (take i r) in
      let d : count p (take i r ++ drop i r) ≡ count p r = ap (count p) (take-append-drop i r) in
      let e : count p (take (j - i) (drop i r) ++ drop (j - i) (drop i r)) ≡ count p (drop i r) = ap (count p) (take-append-drop (j - i) (drop i r)) in
      let f : count p (drop (j - i) (drop i r)) ≡ count p (drop j r) = ap (count p) (drop-drop (j - i) i r ∙ ap (λ (k : ℕ). drop k r) n) in
      omega arith

  pub split_count : (p : A → Bool) (r : List A) → count p (joined (split_by key r)) ≡ count p r
  split_count p =
      split_all key
      (λ r ps. count p (joined ps) ≡ count p r)
      (λ r e. ap (count p) (append-nil r))
      (λ r e a b h k.
      let s : count p (joined (a ++ b)) ≡ count p (joined a) + count p (joined b) = ap (count p) (joined_append a b) ∙ count_append p (joined a) (joined b) in
      omega (arith, s, h, k, cut_count p r (first_by key r) (second_by key r) (folded_pair key r e)))

  -- so a piece has no element oftener than the ring
  pub pieces_count : (p : A → Bool) (r : List A) → count p (joined (pieces_by key r)) ≤ count p r
  unfolding pieces_by
  pieces_count p r = let a : count p (joined (split_by key r)) ≡ count p r = split_count p r in let b : _ = fewer (split_by key r) in omega arith
    where
      fewer : (ps : List (List A)) → count p (joined (only is_piece ps)) ≤ count p (joined ps)
      fewer [] = omega arith
      fewer (q ∷ ps) =
          let h : count p (joined (only is_piece ps)) ≤ count p (joined ps) = fewer ps in
          let s : count p (q ++ joined ps) ≡ count p q + count p (joined ps) = count_append p q (joined ps) in
          by_cases (is_piece q)
          (λ e. rw e (let u : count p (q ++ joined (only is_piece ps)) ≡ count p q + count p (joined (only is_piece ps)) = count_append p q (joined (only is_piece ps)) in omega arith))
          (λ e. rw e (omega arith))
