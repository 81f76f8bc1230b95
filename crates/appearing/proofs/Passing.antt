-- The pass over the marks: those before x are numbered. Assumes nothing.
use mathlib.Core.Path.{◌≡◌, refl, sym, ap, ◌∙◌}
use mathlib.Core.Bool.{Bool, true, false, cond}
use mathlib.Core.List.{List, [], ◌∷◌, ◌++◌}
use Prim.Native.Nat.{ℕ, ◌+◌, ◌≤◌, ◌<◌}
use native.Mathlib.Omega.{arith}
use lib.Dec.{eqb}
use lib.ListN.{length, get_or, length-set, length-append}
use lib.Seq.{get_or-set_same, get_or-set_other}
use borrow.Author.Tests.{eqb-true, eqb-false, eq-eqb, ne_eqb}
use Rattle.lists.specs.Lists.{has}
use Rattle.lists.specs.FirstUses.{first_uses, place}
use Rattle.lists.proofs.Bools.{by_cases}
use Rattle.lists.proofs.Places.{place_append, place_new}
use Rattle.lists.proofs.FirstUses.{has-first_uses}
use Rattle.matching.specs.Marks.{FirstBy, MarkedBy}
use Rattle.scanned.specs.Seen.{upto, seen}
use Rattle.appearing.specs.Steps.{Marks, NumberedBy, Taken}
use Rattle.scanned.proofs.Prefixes.{has_upto, has_seen, has_none, seen_old, seen_new}

-- the keys before x have their numbers
pub record Passed (key : ℕ → ℕ) (numbers : List ℕ) (x found : ℕ) : Type 0 where
  pub count : found ≡ length (seen key x)
  pub number : (y : ℕ) → y < x → get_or numbers y 0 ≡ place (seen key x) (key y)

-- and the others their marks
pub record Passing (marks numbers : List ℕ) (x found : ℕ) : Type 0 where
  pub within : x ≤ length marks
  pub long : length numbers ≡ length marks
  pub counted : found ≤ x
  pub left : (y : ℕ) → x ≤ y → get_or numbers y 0 ≡ get_or marks y 0
  pub passed : (key : ℕ → ℕ) → MarkedBy key (length marks) marks → Passed key numbers x found

none_seen : (key : ℕ → ℕ) → 0 ≡ length (seen key 0)
unfolding first_uses
none_seen key = refl

pub pass_begins : (marks : List ℕ) → Passing marks marks 0 0
pass_begins marks = record {
  within = omega arith;
  long = refl;
  counted = omega arith;
  left = λ y h. refl;
  passed = λ key m. record { count = none_seen key; number = λ y h. absurd (omega arith) };
}

module _ (marks : List ℕ) (m : Marks marks) (numbers : List ℕ) (x found : ℕ) (p : Passing marks numbers x found) where
  module _ (h : x < length numbers) (numbers' : List ℕ) (r : ℕ) (t : Taken x found numbers numbers' r) where
    at_x : get_or numbers' x 0 ≡ cond (eqb (get_or numbers x 0) x) found (get_or numbers (get_or numbers x 0) 0)
    at_x = ap (λ (l : List ℕ). get_or l x 0) t.is ∙ get_or-set_same numbers x _ 0 h

    off_x : (y : ℕ) → (y ≡ x → ⊥) → get_or numbers' y 0 ≡ get_or numbers y 0
    off_x y ne = ap (λ (l : List ℕ). get_or l y 0) t.is ∙ get_or-set_other numbers x y _ 0 ne

    few : r ≤ x + 1
    few =
        by_cases (eqb (get_or numbers x 0) x)
        (λ e. let c : r ≡ found + 1 = t.count ∙ ap (λ (b : Bool). cond b (found + 1) found) e in omega (arith, p.counted))
        (λ e. let c : r ≡ found = t.count ∙ ap (λ (b : Bool). cond b (found + 1) found) e in omega (arith, p.counted))

    module _ (key : ℕ → ℕ) (k : MarkedBy key (length marks) marks) where
      done : Passed key numbers x found
      done = p.passed key k

      first : FirstBy key x (get_or numbers x 0)
      first =
          let e : get_or numbers x 0 ≡ get_or marks x 0 = p.left x (omega arith) in
          rw e (k.first x (omega (arith, p.long)))

      -- a first one
      pass_new : get_or numbers x 0 ≡ x → Passed key numbers' (x + 1) r
      pass_new e =
          let b : eqb (get_or numbers x 0) x ≡ true = eq-eqb (get_or numbers x 0) x e in
          let n : has (key x) (upto key x) ≡ false = has_none key x (key x) (λ y l q. first.none y (omega arith) q) in
          let s : seen key (x + 1) ≡ seen key x ++ (key x ∷ []) = seen_new key x n in
          let a : length (seen key x ++ (key x ∷ [])) ≡ length (seen key x) + 1 = length-append (seen key x) (key x ∷ []) in
          let c : r ≡ found + 1 = t.count ∙ ap (λ (d : Bool). cond d (found + 1) found) b in
          record {
            count = c ∙ ap (λ (i : ℕ). i + 1) done.count ∙ sym a ∙ ap length (sym s);
            number = λ y l.
                by_cases (eqb y x)
                (λ q.
                let z : y ≡ x = eqb-true y x q in
                ap (λ (i : ℕ). get_or numbers' i 0) z
                ∙ at_x
                ∙ ap (λ (d : Bool). cond d found (get_or numbers (get_or numbers x 0) 0)) b
                ∙ done.count
                ∙ sym (place_new (seen key x) (key x) (has-first_uses (key x) (upto key x) ∙ n))
                ∙ ap (λ (i : ℕ). place (seen key x ++ (key x ∷ [])) (key i)) (sym z)
                ∙ ap (λ (l : List ℕ). place l (key y)) (sym s))
                (λ q.
                let ne : y ≡ x → ⊥ = eqb-false y x q in
                let i : y < x = omega arith in
                off_x y ne
                ∙ done.number y i
                ∙ sym (place_append (seen key x) (key x ∷ []) (key y) (has_seen key x y i))
                ∙ ap (λ (l : List ℕ). place l (key y)) (sym s));
          }

      -- one whose key was seen
      pass_old : get_or numbers x 0 < x → Passed key numbers' (x + 1) r
      pass_old l =
          let b : eqb (get_or numbers x 0) x ≡ false = ne_eqb (get_or numbers x 0) x (λ e. omega arith) in
          let q : key x ≡ key (get_or numbers x 0) = first.same in
          let n : has (key x) (upto key x) ≡ true = ap (λ (i : ℕ). has i (upto key x)) q ∙ has_upto key x (get_or numbers x 0) l in
          let s : seen key (x + 1) ≡ seen key x = seen_old key x n in
          record {
            count = t.count ∙ ap (λ (d : Bool). cond d (found + 1) found) b ∙ done.count ∙ ap length (sym s);
            number = λ y i.
                by_cases (eqb y x)
                (λ w.
                let z : y ≡ x = eqb-true y x w in
                ap (λ (i : ℕ). get_or numbers' i 0) z
                ∙ at_x
                ∙ ap (λ (d : Bool). cond d found (get_or numbers (get_or numbers x 0) 0)) b
                ∙ done.number (get_or numbers x 0) l
                ∙ ap (place (seen key x)) (sym q ∙ ap key (sym z))
                ∙ ap (λ (l : List ℕ). place l (key y)) (sym s))
                (λ w.
                let ne : y ≡ x → ⊥ = eqb-false y x w in
                off_x y ne ∙ done.number y (omega arith) ∙ ap (λ (l : List ℕ). place l (key y)) (sym s));
          }

    pub pass_turns : Passing marks numbers' (x + 1) r
    pass_turns = record {
      within = omega (arith, p.long);
      long = ap length t.is ∙ length-set numbers x _ ∙ p.long;
      counted = few;
      left = λ y l. off_x y (λ e. omega arith) ∙ p.left y (omega arith);
      passed = λ key k.
          by_cases (eqb (get_or numbers x 0) x)
          (λ e. pass_new key k (eqb-true (get_or numbers x 0) x e))
          (λ e.
          let ne : get_or numbers x 0 ≡ x → ⊥ = eqb-false (get_or numbers x 0) x e in
          let u : get_or numbers x 0 ≤ x = (first key k).upto in
          pass_old key k (omega arith));
    }

  pub pass_ends : length numbers ≤ x → NumberedBy marks numbers found
  pass_ends h = record {
    numbered = λ key k.
        let e : x ≡ length marks = omega (arith, p.long, p.within) in
        let d = p.passed key k in
        record {
          long = p.long;
          count = d.count ∙ ap (λ (n : ℕ). length (seen key n)) e;
          number = λ y l. d.number y (omega arith) ∙ ap (λ (n : ℕ). place (seen key n) (key y)) e;
        };
  }

-- ---- one mark, and what the functions hand on
