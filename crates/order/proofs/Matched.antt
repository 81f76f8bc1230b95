-- The same faces in another order are the faces matched one to one, and the other way round. Assumes nothing.
use mathlib.Core.Path.{◌≡◌, refl, ap, ◌∙◌, subst}
use mathlib.Core.List.{List, [], ◌∷◌, map}
use Prim.Native.Nat.{ℕ, zero, suc, ◌<◌}
use native.Mathlib.Omega.{arith}
use lib.ListN.{length, get_or, length-map, get_or-map}
use Rattle.order.specs.Same.{Turned, Same, none, face, swap, then, Matching}
use Rattle.order.proofs.Turning.{turned_refl, turned_sym, turned_trans, turned_map}

-- ---- the relation goes both ways, and holds by position where it holds by corner

module _ {A : Type 0} where
  pub same_refl : (m : List (List A)) → Same m m
  same_refl [] = none
  same_refl (f ∷ m) = face (turned_refl f) (same_refl m)

  pub same_sym : {m n : List (List A)} → Same m n → Same n m
  same_sym none = none
  same_sym (face t s) = face (turned_sym t) (same_sym s)
  same_sym swap = swap
  same_sym (then s t) = then (same_sym t) (same_sym s)

pub same_map : {A B : Type 0} (c : A → B) {m n : List (List A)} → Same m n → Same (map (map c) m) (map (map c) n)
same_map c none = none
same_map c (face t s) = face (turned_map c t) (same_map c s)
same_map c swap = swap
same_map c (then s t) = then (same_map c s) (same_map c t)

-- ---- the same faces are matched

-- the first face to the first, the others as p says
abbrev behind : (ℕ → ℕ) → ℕ → ℕ
behind p zero = zero
behind p (suc k) = suc (p k)

-- the first and the second exchanged
abbrev exchange : ℕ → ℕ
exchange zero = suc zero
exchange (suc zero) = zero
exchange (suc (suc k)) = suc (suc k)

module _ {A : Type 0} where
  match_none : Matching {A = A} [] []
  match_none = record {
    to = λ k. k;
    back = λ k. k;
    to_face = λ k l. l;
    back_face = λ k l. l;
    back_to = λ k l. refl;
    to_back = λ k l. refl;
    turned = λ k l. turned_refl [];
  }

  match_face : {f g : List A} {m n : List (List A)} → Turned f g → Matching m n → Matching (f ∷ m) (g ∷ n)
  match_face {f} {g} {m} {n} t r = record {
    to = behind r.to;
    back = behind r.back;
    to_face = inside;
    back_face = inside_back;
    back_to = there;
    to_back = there_back;
    turned = faces;
  }
    where
      inside : (k : ℕ) → k < length (f ∷ m) → behind r.to k < length (g ∷ n)
      inside zero l = omega arith
      inside (suc k) l = let h : r.to k < length n = r.to_face k (omega arith) in omega arith

      inside_back : (k : ℕ) → k < length (g ∷ n) → behind r.back k < length (f ∷ m)
      inside_back zero l = omega arith
      inside_back (suc k) l = let h : r.back k < length m = r.back_face k (omega arith) in omega arith

      there : (k : ℕ) → k < length (f ∷ m) → behind r.back (behind r.to k) ≡ k
      there zero l = refl
      there (suc k) l = ap suc (r.back_to k (omega arith))

      there_back : (k : ℕ) → k < length (g ∷ n) → behind r.to (behind r.back k) ≡ k
      there_back zero l = refl
      there_back (suc k) l = ap suc (r.to_back k (omega arith))

      faces : (k : ℕ) → k < length (f ∷ m) → Turned (get_or (f ∷ m) k []) (get_or (g ∷ n) (behind r.to k) [])
      faces zero l = t
      faces (suc k) l = r.turned k (omega arith)

  match_swap : {f g : List A} {m : List (List A)} → Matching (f ∷ g ∷ m) (g ∷ f ∷ m)
  match_swap {f} {g} {m} = record {
    to = exchange;
    back = exchange;
    to_face = inside;
    back_face = inside;
    back_to = λ k l. twice k;
    to_back = λ k l. twice k;
    turned = faces;
  }
    where
      inside : (k : ℕ) → k < suc (suc (length m)) → exchange k < suc (suc (length m))
      inside zero l = omega arith
      inside (suc zero) l = omega arith
      inside (suc (suc k)) l = l

      twice : (k : ℕ) → exchange (exchange k) ≡ k
      twice zero = refl
      twice (suc zero) = refl
      twice (suc (suc k)) = refl

      faces : (k : ℕ) → k < length (f ∷ g ∷ m) → Turned (get_or (f ∷ g ∷ m) k []) (get_or (g ∷ f ∷ m) (exchange k) [])
      faces zero l = turned_refl f
      faces (suc zero) l = turned_refl g
      faces (suc (suc k)) l = turned_refl (get_or m k [])

  match_then : {l m n : List (List A)} → Matching l m → Matching m n → Matching l n
  match_then r s = record {
    to = λ k. s.to (r.to k);
    back = λ k. r.back (s.back k);
    to_face = λ k h. s.to_face (r.to k) (r.to_face k h);
    back_face = λ k h. r.back_face (s.back k) (s.back_face k h);
    back_to = λ k h. ap r.back (s.back_to (r.to k) (r.to_face k h)) ∙ r.back_to k h;
    to_back = λ k h. ap s.to (r.to_back (s.back k) (s.back_face k h)) ∙ s.to_back k h;
    turned = λ k h. turned_trans (r.turned k h) (s.turned (r.to k) (r.to_face k h));
  }

  pub same_matched : {m n : List (List A)} → Same m n → Matching m n
  same_matched none = match_none
  same_matched (face t s) = match_face t (same_matched s)
  same_matched swap = match_swap
  same_matched (then s t) = match_then (same_matched s) (same_matched t)

  -- read from the other mesh
  pub matched_back : {m n : List (List A)} → Matching m n → Matching n m
  matched_back {m} {n} r = record {
    to = r.back;
    back = r.to;
    to_face = r.back_face;
    back_face = r.to_face;
    back_to = r.to_back;
    to_back = r.back_to;
    turned = λ k h.
        turned_sym
        (subst (λ j. Turned (get_or m (r.back k) []) (get_or n j [])) (r.to_back k h) (r.turned (r.back k) (r.back_face k h)));
  }

-- ---- a matching by corners is one by what each corner becomes

module _ {A B : Type 0} (c : A → B) where
  pub faces_map : (m n : List (List A)) (a b : ℕ) → Turned (get_or m a []) (get_or n b []) → Turned (get_or (map (map c) m) a []) (get_or (map (map c) n) b [])
  faces_map m n a b t = rw (get_or-map (map c) m a [], get_or-map (map c) n b []) (turned_map c t)

  pub matched_map : {m n : List (List A)} → Matching m n → Matching (map (map c) m) (map (map c) n)
  matched_map {m} {n} r =
      let lm : length (map (map c) m) ≡ length m = length-map m (map c) in
      let ln : length (map (map c) n) ≡ length n = length-map n (map c) in
      record {
        to = r.to;
        back = r.back;
        to_face = λ k h. let l : r.to k < length n = r.to_face k (omega arith) in omega arith;
        back_face = λ k h. let l : r.back k < length m = r.back_face k (omega arith) in omega arith;
        back_to = λ k h. r.back_to k (omega arith);
        to_back = λ k h. r.to_back k (omega arith);
        turned = λ k h. faces_map m n k (r.to k) (r.turned k (omega arith));
      }
