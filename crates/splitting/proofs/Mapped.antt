-- Where the elements of a ring come from does not matter to the split: it commutes with a map, and two keys that agree on which
-- elements are equal give the same pieces. So the pieces of a ring are the ring, read at the places that the split of its places
-- 0, 1, .. gives. Assumes nothing.
use mathlib.Core.Path.{◌≡◌, refl, sym, ap, ap₂, ◌∙◌, fun_ext}
use mathlib.Core.Bool.{Bool, true, ◌||◌}
use mathlib.Core.List.{List, [], ◌∷◌, ◌++◌, map, map-append, map-map}
use Prim.Native.Nat.{ℕ, ◌+◌, ◌-◌, ◌≤◌, ◌<◌}
use native.Mathlib.Nat.{not-suc-le-zero}
use native.Mathlib.Omega.{arith}
use lib.ListN.{length, get_or, take, drop, length-map}
use lib.Dec.{ltb, leb, eqb}
use Rattle.lists.specs.Lists.{has, every, only, span}
use Rattle.lists.specs.Numbers.{seek}
use Rattle.lists.proofs.Bools.{and_left, and_right, and_both}
use Rattle.lists.proofs.Changing.{map_at, map_drop, seek_same}
use Rattle.lists.proofs.Copies.{map_take}
use Rattle.lists.proofs.Mapping.{only_map, map_span}
use Rattle.lists.proofs.Parts.{every_append, every_at, every_take, every_drop}
use Rattle.splitting.specs.Splitting.{twice, mate_of, first_mated, between, around, folded_by, first_by, second_by, split_by, pieces_by, is_piece}
use Rattle.splitting.proofs.Splitting.{one, two, split_whole, split_cut, split_all}

-- ---- a map

module _ {A B : Type 0} (f : A → B) where
  map_between : (l : List A) (i j : ℕ) → between (map f l) i j ≡ map f (between l i j)
  map_between l i j = ap (take (j - i)) (sym (map_drop f i l)) ∙ sym (map_take f (j - i) (drop i l))

  map_around : (l : List A) (i j : ℕ) → around (map f l) i j ≡ map f (around l i j)
  map_around l i j =
      ap₂ (λ (a b : List B). a ++ b) (sym (map_drop f j l)) (sym (map_take f i l)) ∙ sym (map-append f (drop j l) (take i l))

  module _ (key : B → ℕ) where
    abbrev under : A → ℕ
    under a = key (f a)

    keys : (l : List A) → map key (map f l) ≡ map under l
    keys l = map-map key f l

    pub folded_map : (l : List A) → folded_by key (map f l) ≡ folded_by under l
    unfolding folded_by
    folded_map l = ap twice (keys l)

    first_map : (l : List A) → first_by key (map f l) ≡ first_by under l
    first_map l = ap first_mated (keys l)

    second_map : (l : List A) → second_by key (map f l) ≡ second_by under l
    second_map l = ap₂ mate_of (keys l) (first_map l)

    one_map : (l : List A) → one key (map f l) ≡ map f (one under l)
    one_map l = ap₂ (between (map f l)) (first_map l) (second_map l) ∙ map_between l (first_by under l) (second_by under l)

    two_map : (l : List A) → two key (map f l) ≡ map f (two under l)
    two_map l = ap₂ (around (map f l)) (first_map l) (second_map l) ∙ map_around l (first_by under l) (second_by under l)

    pub split_map : (l : List A) → split_by key (map f l) ≡ map (map f) (split_by (λ a. key (f a)) l)
    split_map =
        split_all under
        (λ r ps. split_by key (map f r) ≡ map (map f) ps)
        (λ r e. split_whole key (map f r) (folded_map r ∙ e))
        (λ r e a b g h.
        split_cut key (map f r) (folded_map r ∙ e)
        ∙ ap₂ (λ (s t : List (List B)). s ++ t) (ap (split_by key) (one_map r) ∙ g) (ap (split_by key) (two_map r) ∙ h)
        ∙ sym (map-append (map f) a b))

    pub pieces_map : (l : List A) → pieces_by key (map f l) ≡ map (map f) (pieces_by (λ a. key (f a)) l)
    unfolding pieces_by
    pieces_map l =
        ap (only is_piece) (split_map l)
        ∙ only_map (map f) is_piece (split_by under l)
        ∙ ap (λ (t : List A → Bool). map (map f) (only t (split_by under l))) (fun_ext (λ (q : List A). ap (leb 3) (length-map q f)))

-- ---- two keys that agree on which elements are equal, among those that pass a test

module _ {A : Type 0} (k k' : A → ℕ) (p : A → Bool)
    (agree : (a b : A) → p a ≡ true → p b ≡ true → eqb (k a) (k b) ≡ eqb (k' a) (k' b)) where
  has_same : (x : A) (l : List A) → p x ≡ true → every p l ≡ true → has (k x) (map k l) ≡ has (k' x) (map k' l)
  has_same x [] h g = refl
  has_same x (y ∷ l) h g =
      ap₂ (λ (a b : Bool). a || b)
      (agree x y h (and_left (p y) (every p l) g))
      (has_same x l h (and_right (p y) (every p l) g))

  twice_same : (l : List A) → every p l ≡ true → twice (map k l) ≡ twice (map k' l)
  twice_same [] g = refl
  twice_same (x ∷ l) g =
      let h = and_right (p x) (every p l) g in
      ap₂ (λ (a b : Bool). a || b) (has_same x l (and_left (p x) (every p l) g) h) (twice_same l h)

  at_same : (l : List A) → every p l ≡ true → (i j : ℕ) → i < length l → j < length l
      → eqb (get_or (map k l) i 0) (get_or (map k l) j 0) ≡ eqb (get_or (map k' l) i 0) (get_or (map k' l) j 0)
  at_same [] g i j a b = absurd (not-suc-le-zero a)
  at_same (x ∷ l) g i j a b =
      let r = x ∷ l in
      ap₂ eqb (map_at k x 0 r i a) (map_at k x 0 r j b)
      ∙ agree (get_or r i x) (get_or r j x) (every_at p x r i g a) (every_at p x r j g b)
      ∙ sym (ap₂ eqb (map_at k' x 0 r i a) (map_at k' x 0 r j b))

  as_long : (l : List A) → length (map k l) ≡ length (map k' l)
  as_long l = length-map l k ∙ sym (length-map l k')

  mate_same : (l : List A) → every p l ≡ true → (i : ℕ) → mate_of (map k l) i ≡ mate_of (map k' l) i
  unfolding mate_of
  mate_same l g i =
      let n : length (map k l) ≡ length l = length-map l k in
      let m : length (map k' l) ≡ length l = length-map l k' in
      ap (λ (c : ℕ). seek (λ j. eqb (get_or (map k l) i 0) (get_or (map k l) j 0)) (c - (i + 1)) (i + 1)) (as_long l)
      ∙ seek_same (λ j. eqb (get_or (map k l) i 0) (get_or (map k l) j 0)) (λ j. eqb (get_or (map k' l) i 0) (get_or (map k' l) j 0)) (length (map k' l) - (i + 1)) (i + 1)
      (λ j a b.
      let a' : i + 1 ≤ j = a in
      let b' : j < (i + 1) + (length (map k' l) - (i + 1)) = b in
      at_same l g i j (omega arith) (omega arith))

  first_same : (l : List A) → every p l ≡ true → first_mated (map k l) ≡ first_mated (map k' l)
  unfolding first_mated
  first_same l g =
      ap (λ (c : ℕ). seek (λ i. ltb (mate_of (map k l) i) c) c 0) (as_long l)
      ∙ seek_same (λ i. ltb (mate_of (map k l) i) (length (map k' l))) (λ i. ltb (mate_of (map k' l) i) (length (map k' l))) (length (map k' l)) 0
      (λ i a b. ap (λ (m : ℕ). ltb m (length (map k' l))) (mate_same l g i))

  second_same : (l : List A) → every p l ≡ true → second_by k l ≡ second_by k' l
  second_same l g = mate_same l g (first_by k l) ∙ ap (mate_of (map k' l)) (first_same l g)

  pub folded_same : (l : List A) → every p l ≡ true → folded_by k l ≡ folded_by k' l
  unfolding folded_by
  folded_same l g = twice_same l g

  pub split_same : (l : List A) → every p l ≡ true → split_by k l ≡ split_by k' l
  split_same =
      split_all k'
      (λ r ps. every p r ≡ true → split_by k r ≡ ps)
      (λ r e g. split_whole k r (folded_same r g ∙ e))
      (λ r e a b x y g.
      split_cut k r (folded_same r g ∙ e)
      ∙ ap₂ (λ (s t : List (List A)). s ++ t)
      (ap (split_by k) (ap₂ (between r) (first_same r g) (second_same r g))
      ∙ x (every_take p (second_by k' r - first_by k' r) (drop (first_by k' r) r) (every_drop p (first_by k' r) r g)))
      (ap (split_by k) (ap₂ (around r) (first_same r g) (second_same r g))
      ∙ y (every_append p (drop (second_by k' r) r) (take (first_by k' r) r)
      ∙ and_both (every p (drop (second_by k' r) r)) (every p (take (first_by k' r) r)) (every_drop p (second_by k' r) r g) (every_take p (first_by k' r) r g))))

  pub pieces_same : (l : List A) → every p l ≡ true → pieces_by k l ≡ pieces_by k' l
  unfolding pieces_by
  pieces_same l g = ap (only is_piece) (split_same l g)

-- ---- a ring, read at its places

module _ {A : Type 0} (key : A → ℕ) (d : A) (r : List A) where
  abbrev at : ℕ → A
  at i = get_or r i d

  pub pieces_places : pieces_by key r ≡ map (map at) (pieces_by (λ i. key (at i)) (span 0 (length r)))
  pieces_places = ap (pieces_by key) (sym (map_span d r)) ∙ pieces_map at key (span 0 (length r))
