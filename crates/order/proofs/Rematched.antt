-- Faces that are matched one to one are the same faces in another order: so the relation is just that there is a matching.
-- The first face's match is taken out of the other list, and the rest are matched as before. Assumes nothing.
use mathlib.Core.Path.{◌≡◌, refl, sym, ap, ◌∙◌, subst}
use mathlib.Core.List.{List, [], ◌∷◌}
use Prim.Native.Nat.{ℕ, zero, suc, ◌<◌, pred}
use native.Mathlib.Omega.{arith}
use lib.ListN.{length, get_or}
use Rattle.order.specs.Same.{Turned, Same, none, face, swap, then, Matching}
use Rattle.order.proofs.Turning.{turned_refl}
use Rattle.order.proofs.Matched.{same_refl}

-- ---- a list without its element j

module _ {A : Type 0} where
  abbrev less : ℕ → List A → List A
  less j [] = []
  less zero (x ∷ l) = l
  less (suc j) (x ∷ l) = x ∷ less j l

  length_less : (j : ℕ) (l : List A) → j < length l → suc (length (less j l)) ≡ length l
  length_less j [] h = absurd (omega arith)
  length_less zero (x ∷ l) h = refl
  length_less (suc j) (x ∷ l) h = ap suc (length_less j l (omega arith))

-- the number that c had, before j was taken out; the number that t has then
abbrev was : ℕ → ℕ → ℕ
was zero c = suc c
was (suc j) zero = zero
was (suc j) (suc c) = suc (was j c)

abbrev gets : ℕ → ℕ → ℕ
gets j zero = zero
gets zero (suc t) = t
gets (suc j) (suc t) = suc (gets j t)

get_or-less : {A : Type 0} (j : ℕ) (l : List A) (c : ℕ) (d : A) → get_or (less j l) c d ≡ get_or l (was j c) d
get_or-less j [] c d = refl
get_or-less zero (x ∷ l) c d = refl
get_or-less (suc j) (x ∷ l) zero d = refl
get_or-less (suc j) (x ∷ l) (suc c) d = get_or-less j l c d

gets_was : (j c : ℕ) → gets j (was j c) ≡ c
gets_was zero c = refl
gets_was (suc j) zero = refl
gets_was (suc j) (suc c) = ap suc (gets_was j c)

was_gets : (j t : ℕ) → (t ≡ j → ⊥) → was j (gets j t) ≡ t
was_gets zero zero n = absurd (n refl)
was_gets (suc j) zero n = refl
was_gets zero (suc t) n = refl
was_gets (suc j) (suc t) n = ap suc (was_gets j t (λ e. n (ap suc e)))

was_other : (j c : ℕ) → was j c ≡ j → ⊥
was_other zero c e = omega arith
was_other (suc j) zero e = omega arith
was_other (suc j) (suc c) e = was_other j c (let f : was j c ≡ j = omega arith in f)

was_below : (j c n : ℕ) → c < n → was j c < suc n
was_below zero c n h = omega arith
was_below (suc j) zero n h = omega arith
was_below (suc j) (suc c) zero h = absurd (omega arith)
was_below (suc j) (suc c) (suc n) h = let r : was j c < suc n = was_below j c n (omega arith) in omega arith

gets_below : (j t n : ℕ) → (t ≡ j → ⊥) → j < suc n → t < suc n → gets j t < n
gets_below zero zero n e h k = absurd (e refl)
gets_below (suc j) zero n e h k = omega arith
gets_below zero (suc t) n e h k = omega arith
gets_below (suc j) (suc t) zero e h k = absurd (omega arith)
gets_below (suc j) (suc t) (suc n) e h k =
    let r : gets j t < n = gets_below j t n (λ q. e (ap suc q)) (omega arith) (omega arith) in omega arith

-- ---- and put in front

module _ {A : Type 0} where
  same_moved : (j : ℕ) (n : List (List A)) → j < length n → Same (get_or n j [] ∷ less j n) n
  same_moved j [] h = absurd (omega arith)
  same_moved zero (x ∷ n) h = same_refl (x ∷ n)
  same_moved (suc j) (x ∷ n) h = then swap (face (turned_refl x) (same_moved j n (omega arith)))

  -- ---- the rest of a matching

  matched_rest : {f : List A} {m n : List (List A)} → (r : Matching (f ∷ m) n) → Matching m (less (r.to 0) n)
  matched_rest {f} {m} {n} r = record {
    to = λ k. gets (r.to 0) (r.to (suc k));
    back = λ c. pred (r.back (was (r.to 0) c));
    to_face = λ k h.
        gets_below
        (r.to 0)
        (r.to (suc k))
        (length (less (r.to 0) n))
        (other k h)
        (omega (arith, long, first))
        (inside k h);
    back_face = back_inside;
    back_to = λ k h. ap (λ t. pred (r.back t)) (there k h) ∙ ap pred (r.back_to (suc k) (omega arith));
    to_back = round;
    turned = λ k h.
        subst
        (Turned (get_or m k []))
        (sym (get_or-less (r.to 0) n (gets (r.to 0) (r.to (suc k))) [] ∙ ap (λ t. get_or n t []) (there k h)))
        (r.turned (suc k) (omega arith));
  }
    where
      first : r.to 0 < length n
      first = r.to_face 0 (omega arith)

      long : suc (length (less (r.to 0) n)) ≡ length n
      long = length_less (r.to 0) n first

      inside : (k : ℕ) → k < length m → r.to (suc k) < suc (length (less (r.to 0) n))
      inside k h = let l : r.to (suc k) < length n = r.to_face (suc k) (omega arith) in omega (arith, long)

      -- no other face has the first one's match
      other : (k : ℕ) → k < length m → r.to (suc k) ≡ r.to 0 → ⊥
      other k h e =
          let a : r.back (r.to (suc k)) ≡ suc k = r.back_to (suc k) (omega arith) in
          let b : r.back (r.to 0) ≡ 0 = r.back_to 0 (omega arith) in
          let c : r.back (r.to (suc k)) ≡ r.back (r.to 0) = ap r.back e in
          omega arith

      there : (k : ℕ) → k < length m → was (r.to 0) (gets (r.to 0) (r.to (suc k))) ≡ r.to (suc k)
      there k h = was_gets (r.to 0) (r.to (suc k)) (other k h)

      was_inside : (c : ℕ) → c < length (less (r.to 0) n) → was (r.to 0) c < length n
      was_inside c h =
          let l : was (r.to 0) c < suc (length (less (r.to 0) n)) = was_below (r.to 0) c (length (less (r.to 0) n)) h in
          omega (arith, long)

      -- nor does it come back to the first
      not_first : (c : ℕ) → c < length (less (r.to 0) n) → 0 < r.back (was (r.to 0) c)
      not_first c h = go (r.back (was (r.to 0) c)) refl
        where
          go : (b : ℕ) → r.back (was (r.to 0) c) ≡ b → 0 < b
          go zero e = absurd (was_other (r.to 0) c (sym (r.to_back (was (r.to 0) c) (was_inside c h)) ∙ ap r.to e))
          go (suc b) e = omega arith

      back_inside : (c : ℕ) → c < length (less (r.to 0) n) → pred (r.back (was (r.to 0) c)) < length m
      back_inside c h =
          let l : r.back (was (r.to 0) c) < suc (length m) = r.back_face (was (r.to 0) c) (was_inside c h) in
          let p : 0 < r.back (was (r.to 0) c) = not_first c h in
          omega arith

      round : (c : ℕ) → c < length (less (r.to 0) n) → gets (r.to 0) (r.to (suc (pred (r.back (was (r.to 0) c))))) ≡ c
      round c h =
          let p : 0 < r.back (was (r.to 0) c) = not_first c h in
          let s : suc (pred (r.back (was (r.to 0) c))) ≡ r.back (was (r.to 0) c) = omega arith in
          ap (λ k. gets (r.to 0) (r.to k)) s
          ∙ ap (gets (r.to 0)) (r.to_back (was (r.to 0) c) (was_inside c h))
          ∙ gets_was (r.to 0) c

  pub matched_same : (m n : List (List A)) → Matching m n → Same m n
  matched_same [] [] r = none
  matched_same [] (g ∷ n) r = absurd (let h : r.back 0 < 0 = r.back_face 0 (omega arith) in omega arith)
  matched_same (f ∷ m) n r =
      then
      (face (r.turned 0 (omega arith)) (matched_same m (less (r.to 0) n) (matched_rest r)))
      (same_moved (r.to 0) n (r.to_face 0 (omega arith)))
