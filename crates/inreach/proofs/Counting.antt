-- Counting by runs, and the pairs of an order, place by place. Assumes nothing.
use mathlib.Core.Path.{◌≡◌, sym, ap, ◌∙◌}
use mathlib.Core.Bool.{Bool, true, false}
use mathlib.Core.List.{List, [], ◌∷◌}
use Prim.Native.Nat.{ℕ, zero, suc, ◌+◌, ◌-◌, ◌*◌, ◌≤◌, ◌<◌}
use native.Mathlib.Omega.{arith}
use lib.ListN.{length, get_or, take, drop, take-append-drop}
use lib.Seq.{take-suc, take-length, drop-cons, drop-length}
use Rattle.lists.specs.Lists.{bump, count}
use Rattle.lists.proofs.Counting.{count_append}
use Rattle.mesh.specs.Limits.{entry_limit}
use Rattle.nearby.specs.Engine.{beside_at}
use Rattle.paired.specs.Counted.{pairs_in}
use Rattle.inreach.specs.Reach.{Skipped, Run}

-- ---- the points of an order up to a place

module _ (b : ℕ → Bool) (order : List ℕ) where
  -- how many up to the place q pass
  abbrev upto : ℕ → ℕ
  upto q = count b (take q order)

  one_more : (q : ℕ) → q < length order → upto (suc q) ≡ upto q + bump (b (get_or order q 0)) 0
  one_more q h = ap (count b) (take-suc order q 0 h) ∙ count_append b (take q order) (get_or order q 0 ∷ [])

  pub upto_none : (m q : ℕ) → q + m ≤ length order → ((k : ℕ) → q ≤ k → k < q + m → b (get_or order k 0) ≡ false) → upto (q + m) ≡ upto q
  upto_none zero q h f = ap upto (let e : q + 0 ≡ q = omega arith in e)
  upto_none (suc m) q h f =
      let e : q + suc m ≡ suc (q + m) = omega arith in
      let a : upto (suc (q + m)) ≡ upto (q + m) + bump (b (get_or order (q + m) 0)) 0 = one_more (q + m) (omega arith) in
      let c : bump (b (get_or order (q + m) 0)) 0 ≡ 0 = ap (λ (t : Bool). bump t 0) (f (q + m) (omega arith) (omega arith)) in
      let d : upto (q + m) ≡ upto q = upto_none m q (omega arith) (λ k u v. f k u (let z : k < q + m = v in omega arith)) in
      ap upto e ∙ (let z : upto (suc (q + m)) ≡ upto q = omega arith in z)

  pub upto_all : (m q : ℕ) → q + m ≤ length order → ((k : ℕ) → q ≤ k → k < q + m → b (get_or order k 0) ≡ true) → upto (q + m) ≡ upto q + m
  upto_all zero q h f = ap upto (let e : q + 0 ≡ q = omega arith in e) ∙ (let z : upto q ≡ upto q + 0 = omega arith in z)
  upto_all (suc m) q h f =
      let e : q + suc m ≡ suc (q + m) = omega arith in
      let a : upto (suc (q + m)) ≡ upto (q + m) + bump (b (get_or order (q + m) 0)) 0 = one_more (q + m) (omega arith) in
      let c : bump (b (get_or order (q + m) 0)) 0 ≡ 1 = ap (λ (t : Bool). bump t 0) (f (q + m) (omega arith) (omega arith)) in
      let d : upto (q + m) ≡ upto q + m = upto_all m q (omega arith) (λ k u v. f k u (let z : k < q + m = v in omega arith)) in
      ap upto e ∙ (let z : upto (suc (q + m)) ≡ upto q + suc m = omega arith in z)

-- of the places behind p and before q, `found` have points that pass
pub record Behind (b : ℕ → Bool) (n : ℕ) (order : List ℕ) (p found q : ℕ) : Type 0 where
  pub from : p < q
  pub within : q ≤ n
  pub is : count b (take (p + 1) order) + found ≡ count b (take q order)
  pub few : found + p < q

module _ {b : ℕ → Bool} {n : ℕ} {order : List ℕ} {p : ℕ} (long : length order ≡ n) where
  pub behind_none :
      {found q : ℕ} (r : ℕ) → q ≤ r → r ≤ n → ((k : ℕ) → q ≤ k → k < r → b (get_or order k 0) ≡ false) → Behind b n order p found q → Behind b n order p found r
  behind_none {found} {q} r h l f g =
      let e : q + (r - q) ≡ r = omega arith in
      let a : count b (take (q + (r - q)) order) ≡ count b (take q order) =
      upto_none b order (r - q) q (omega arith) (λ k u v. f k u (let z : k < q + (r - q) = v in omega arith)) in
      let c : count b (take (q + (r - q)) order) ≡ count b (take r order) = ap (λ (k : ℕ). count b (take k order)) e in
      record { from = omega (arith, g.from); within = l; is = omega (arith, g.is); few = omega (arith, g.few) }

  pub behind_run :
      {found q : ℕ} (r : ℕ) → q ≤ r → r ≤ n → ((k : ℕ) → q ≤ k → k < r → b (get_or order k 0) ≡ true) → Behind b n order p found q
      → Behind b n order p (found + (r - q)) r
  behind_run {found} {q} r h l f g =
      let e : q + (r - q) ≡ r = omega arith in
      let a : count b (take (q + (r - q)) order) ≡ count b (take q order) + (r - q) =
      upto_all b order (r - q) q (omega arith) (λ k u v. f k u (let z : k < q + (r - q) = v in omega arith)) in
      let c : count b (take (q + (r - q)) order) ≡ count b (take r order) = ap (λ (k : ℕ). count b (take k order)) e in
      record { from = omega (arith, g.from); within = l; is = omega (arith, g.is); few = omega (arith, g.few) }

  pub behind_ends : {found q : ℕ} → n ≤ q → Behind b n order p found q → (found ≡ count b (drop (p + 1) order)) × (found ≤ n)
  behind_ends {found} {q} h g =
      let e : q ≡ length order = omega (arith, g.within) in
      let a : count b (take q order) ≡ count b order = ap (λ (k : ℕ). count b (take k order)) e ∙ ap (count b) (take-length order) in
      let c : count b order ≡ count b (take (p + 1) order) + count b (drop (p + 1) order) =
      ap (count b) (sym (take-append-drop (p + 1) order)) ∙ count_append b (take (p + 1) order) (drop (p + 1) order) in
      (omega (arith, g.is), omega (arith, g.few, g.within))

-- the same of what is passed over, and of a run
module _ (w : ℕ) {n : ℕ} (cells : List ℕ) {order : List ℕ} {p : ℕ} (long : length order ≡ n) {i : ℕ} (e : i ≡ get_or order p 0) where
  pub behind_skips :
      {found q : ℕ} (r : ℕ) → Skipped (beside_at w cells i) order n q r → Behind (beside_at w cells (get_or order p 0)) n order p found q
      → Behind (beside_at w cells (get_or order p 0)) n order p found r
  behind_skips r s g = behind_none long r s.onward s.inside (λ k u v. ap (λ (j : ℕ). beside_at w cells j (get_or order k 0)) (sym e) ∙ s.none k u v) g

  pub behind_takes :
      {found q : ℕ} (r : ℕ) → Run w n cells order i q r → Behind (beside_at w cells (get_or order p 0)) n order p found q
      → Behind (beside_at w cells (get_or order p 0)) n order p (found + (r - q)) r
  behind_takes r s g = behind_run long r s.rise s.inside (λ k u v. ap (λ (j : ℕ). beside_at w cells j (get_or order k 0)) (sym e) ∙ s.beside k u v) g

-- ---- the pairs

-- the pairs from the places before p are counted
pub record Paired (r : ℕ → ℕ → Bool) (n : ℕ) (order : List ℕ) (found p : ℕ) : Type 0 where
  pub within : p ≤ n
  pub is : found + pairs_in r (drop p order) ≡ pairs_in r order
  pub few : found ≤ entry_limit * p

module _ {r : ℕ → ℕ → Bool} {n : ℕ} {order : List ℕ} (long : length order ≡ n) where
  pub paired_turns :
      {found p : ℕ} (c : ℕ) → n ≤ entry_limit → p < n → c ≡ count (r (get_or order p 0)) (drop (p + 1) order) → c ≤ n
      → Paired r n order found p → Paired r n order (found + c) (p + 1)
  unfolding pairs_in
  paired_turns {found} {p} c s h e l g =
      let d : pairs_in r (drop p order) ≡ count (r (get_or order p 0)) (drop (suc p) order) + pairs_in r (drop (suc p) order) =
      ap (pairs_in r) (drop-cons order p 0 (omega arith)) in
      let f : suc p ≡ p + 1 = omega arith in
      let i : pairs_in r (drop (suc p) order) ≡ pairs_in r (drop (p + 1) order) = ap (λ (k : ℕ). pairs_in r (drop k order)) f in
      let j : count (r (get_or order p 0)) (drop (suc p) order) ≡ count (r (get_or order p 0)) (drop (p + 1) order) = ap (λ (k : ℕ). count (r (get_or order p 0)) (drop k order)) f in
      record { within = omega arith; is = omega (arith, g.is); few = omega (arith, g.few) }

  pub paired_ends : {found p : ℕ} → n ≤ p → Paired r n order found p → found ≡ pairs_in r order
  unfolding pairs_in
  paired_ends {found} {p} h g =
      let e : p ≡ length order = omega (arith, g.within) in
      let a : drop p order ≡ [] = ap (λ (k : ℕ). drop k order) e ∙ drop-length order in
      let c : pairs_in r (drop p order) ≡ 0 = ap (pairs_in r) a in
      omega (arith, g.is)
