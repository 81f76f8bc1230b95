-- Each point of a group is sent to the representative, one after the other. Assumes nothing.
use mathlib.Core.Path.{◌≡◌, sym, ap, ◌∙◌}
use mathlib.Core.Bool.{Bool, true, false, ◌||◌, or-false}
use mathlib.Core.List.{List, [], ◌∷◌, ◌++◌}
use Prim.Native.Nat.{ℕ, ◌+◌, ◌≤◌, ◌<◌}
use native.Mathlib.Omega.{arith}
use native.Mathlib.Numerals.{add-one}
use lib.Dec.{eqb}
use lib.ListN.{length, get_or, set, take, drop, length-set}
use lib.Seq.{slice, take-suc, drop-append-le, length-take-le, get_or-set_same, get_or-set_other}
use lib.Ieee.{Float}
use borrow.Author.Tests.{eqb-true, eqb-false}
use Rattle.lists.specs.Lists.{has}
use Rattle.lists.proofs.Bools.{by_cases, or_false_left, or_false_right}
use Rattle.lists.proofs.Parts.{some_append}
use Rattle.together.specs.Working.{Grouped}

slice_snoc : (l : List ℕ) (f k : ℕ) → f ≤ k → k < length l → slice f (k + 1) l ≡ slice f k l ++ (get_or l k 0 ∷ [])
slice_snoc l f k a b =
    ap (λ (j : ℕ). drop f (take j l)) (add-one k)
    ∙ ap (drop f) (take-suc l k 0 b)
    ∙ drop-append-le f (take k l) (get_or l k 0 ∷ []) (let e : length (take k l) ≡ k = length-take-le k l (omega arith) in omega arith)

pub record Sending (n : ℕ) (order : List ℕ) (from to rep : ℕ) (map map' : List ℕ) (k : ℕ) : Type 0 where
  pub least : from ≤ k
  pub upto : k ≤ to
  pub long : length map' ≡ length map
  pub own : (j : ℕ) → j < n → has j (slice from k order) ≡ true → get_or map' j 0 ≡ rep
  pub others : (j : ℕ) → has j (slice from k order) ≡ false → get_or map' j 0 ≡ get_or map j 0

module _ (w n : ℕ) (s : List Float) (order : List ℕ) (from to : ℕ) (g : Grouped w n s order from to) (rep : ℕ) (map : List ℕ) (room : n ≤ length map) where
  module _ (map' : List ℕ) (k : ℕ) (h : k < to) (i : Sending n order from to rep map map' k) where
    abbrev here : ℕ
    here = get_or order k 0

    one_more : (j : ℕ) → has j (slice from (k + 1) order) ≡ (has j (slice from k order) || (eqb j here || false))
    one_more j = ap (has j) (slice_snoc order from k i.least (omega (arith, g.room))) ∙ some_append (eqb j) (slice from k order) (here ∷ [])

    inside : here < length map'
    inside = omega (arith, g.within k h, i.long)

    own_more : (j : ℕ) → j < n → has j (slice from (k + 1) order) ≡ true → get_or (set map' here rep) j 0 ≡ rep
    own_more j l e =
        by_cases (eqb j here)
        (λ t. ap (λ (x : ℕ). get_or (set map' here rep) x 0) (eqb-true j here t) ∙ get_or-set_same map' here rep 0 inside)
        (λ t.
        let before = has j (slice from k order) in
        let still : before ≡ true = sym (ap (λ (b : Bool). before || (b || false)) t ∙ or-false before) ∙ sym (one_more j) ∙ e in
        get_or-set_other map' here j rep 0 (eqb-false j here t) ∙ i.own j l still)

    others_more : (j : ℕ) → has j (slice from (k + 1) order) ≡ false → get_or (set map' here rep) j 0 ≡ get_or map j 0
    others_more j e =
        let f : (has j (slice from k order) || (eqb j here || false)) ≡ false = sym (one_more j) ∙ e in
        get_or-set_other map' here j rep 0 (eqb-false j here (or_false_left (eqb j here) false (or_false_right (has j (slice from k order)) (eqb j here || false) f)))
        ∙ i.others j (or_false_left (has j (slice from k order)) (eqb j here || false) f)

    pub send_turns : Sending n order from to rep map (set map' here rep) (k + 1)
    send_turns = record {
      least = omega (arith, i.least);
      upto = omega arith;
      long = length-set map' here rep ∙ i.long;
      own = own_more;
      others = others_more;
    }
