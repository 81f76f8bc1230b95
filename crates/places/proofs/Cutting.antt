-- The row that is cut: where the search finds no pair its ring is not folded; where it finds one, the row that begins at the first holds
-- the two rings one behind the other, the pieces are those of the two, and there is room for both. Assumes nothing.
use mathlib.Core.Path.{◌≡◌, sym, ap, ap₂, ◌∙◌}
use mathlib.Core.Bool.{true, false}
use mathlib.Core.List.{List, ◌++◌, map}
use Prim.Native.Nat.{ℕ, ◌+◌, ◌-◌, ◌≤◌, ◌<◌}
use native.Mathlib.Omega.{arith}
use lib.ListN.{length, take, drop, length-append, length-drop}
use lib.Seq.{length-take-le, take-append-le, drop-append-le, drop-drop}
use Rattle.lists.specs.Lists.{every, joined}
use Rattle.lists.proofs.Bools.{and_both}
use Rattle.lists.proofs.Parts.{joined_append, every_append, every_take, every_drop}
use Rattle.splitting.specs.Splitting.{folded_by, first_mated, mate_of, first_by, second_by, between, around, split_by, pieces_by}
use Rattle.splitting.proofs.Search.{Pair, folded_found, folded_missing}
use Rattle.splitting.proofs.Splitting.{split_cut}
use Rattle.splitting.proofs.Pieces.{pieces_cut}
use Rattle.places.specs.Working.{is_place, Places, Found, Room, Taken, Parted}
use Rattle.places.proofs.Parting.{rear_part, both_parts}
use Rattle.places.proofs.Taking.{taken_both, room_less, room_left}

-- ---- the row that begins at i

module _ {A : Type 0} (r t : List A) (i j : ℕ) (p : Pair r i j) (e : t ≡ drop i r ++ take i r) where
  rear : length (drop i r) ≡ length r - i
  rear = length-drop i r

  pub turned_length : length t ≡ length r
  turned_length =
      let b : length (take i r) ≡ i = length-take-le i r (omega arith) in
      ap length e ∙ length-append (drop i r) (take i r) ∙ (omega (arith, rear))

  pub turned_one : take (j - i) t ≡ between r i j
  turned_one = ap (take (j - i)) e ∙ take-append-le (j - i) (drop i r) (take i r) (omega (arith, rear))

  pub turned_two : drop (j - i) t ≡ around r i j
  turned_two =
      ap (drop (j - i)) e
      ∙ drop-append-le (j - i) (drop i r) (take i r) (omega (arith, rear))
      ∙ ap (λ (x : List A). x ++ take i r) (drop-drop (j - i) i r ∙ ap (λ (k : ℕ). drop k r) (let z : i + (j - i) ≡ j = omega arith in z))

-- each is a place still
pub places_turned : (face r t : List ℕ) (i : ℕ) → t ≡ drop i r ++ take i r → Places face r → Places face t
places_turned face r t i e h =
    ap (every (is_place face)) e
    ∙ every_append (is_place face) (drop i r) (take i r)
    ∙ and_both (every (is_place face) (drop i r)) (every (is_place face) (take i r)) (every_drop (is_place face) i r h) (every_take (is_place face) i r h)

-- ---- a row with what the search gives

pub not_folded : (key : ℕ → ℕ) (r : List ℕ) (i : ℕ) → i ≡ first_mated (map key r) → length r ≤ i → folded_by key r ≡ false
not_folded key r i e h = folded_missing key r (omega arith)

module _ {key : ℕ → ℕ} {r : List ℕ} {i j : ℕ} (s : Found key r i j) where
  is_folded : folded_by key r ≡ true
  is_folded = folded_found key r (omega (arith, s.first, s.ordered, s.within))

  second : j ≡ mate_of (map key r) (first_mated (map key r))
  second = s.second ∙ ap (mate_of (map key r)) s.first

  pub cut : Pair r i j
  cut = record { ordered = s.ordered; within = s.within }

  -- t is the row that begins at i
  module _ {t : List ℕ} (e : t ≡ drop i r ++ take i r) where
    -- its two parts are the two rings
    first_ring : between r (first_by key r) (second_by key r) ≡ take (j - i) t
    first_ring = ap₂ (between r) (sym s.first) (sym second) ∙ sym (turned_one r t i j cut e)

    second_ring : around r (first_by key r) (second_by key r) ≡ drop (j - i) t
    second_ring = ap₂ (around r) (sym s.first) (sym second) ∙ sym (turned_two r t i j cut e)

    pub cut_split : split_by key r ≡ split_by key (take (j - i) t) ++ split_by key (drop (j - i) t)
    cut_split = split_cut key r is_folded ∙ ap₂ (λ (a b : List ℕ). split_by key a ++ split_by key b) first_ring second_ring

    pub cut_pieces : pieces_by key r ≡ pieces_by key (take (j - i) t) ++ pieces_by key (drop (j - i) t)
    cut_pieces = pieces_cut key r is_folded ∙ ap₂ (λ (a b : List ℕ). pieces_by key a ++ pieces_by key b) first_ring second_ring

    pub long : length t ≡ length r
    long = turned_length r t i j cut e

    -- the first ring's part of the row
    pub length_one : length (take (j - i) t) ≡ j - i
    length_one = length-take-le (j - i) t (omega (arith, cut.within, long))

    pub shorter_one : length (take (j - i) t) < length r
    shorter_one = omega (arith, cut.within, length_one)

    pub places_one : (face : List ℕ) → Places face r → Places face (take (j - i) t)
    places_one face h = every_take (is_place face) (j - i) t (places_turned face r t i e h)

    pub room_one : (o l : List ℕ) (c f : ℕ) → Room (length r) o l c f → Room (length (take (j - i) t)) o l c f
    room_one o l c f = room_less (length r) (length (take (j - i) t)) o l c f (omega (arith, shorter_one))

    -- when that part has become ys, whatever that is, the rest of the row is the second ring still
    module _ (ys : List ℕ) (same : length ys ≡ length (take (j - i) t)) where
      abbrev row : List ℕ
      row = ys ++ drop (j - i) t

      abbrev rest : List ℕ
      rest = take (length row - (j - i)) (drop (j - i) row)

      rest_two : rest ≡ drop (j - i) t
      rest_two = rear_part t ys (j - i) (same ∙ length_one)

      -- when the rest has become zs, the row has the rings of both
      pub cut_row :
          (zs z : List ℕ) → ys ≡ joined (split_by key (take (j - i) t)) → zs ≡ joined (split_by key rest)
          → z ≡ take (j - i) row ++ (zs ++ drop (length row - (j - i)) (drop (j - i) row)) → z ≡ joined (split_by key r)
      cut_row zs z a b w =
          w
          ∙ both_parts t ys (j - i) (same ∙ length_one) zs
          ∙ ap₂ (λ (x y : List ℕ). x ++ y) a (b ∙ ap (λ (x : List ℕ). joined (split_by key x)) rest_two)
          ∙ sym (joined_append (split_by key (take (j - i) t)) (split_by key (drop (j - i) t)))
          ∙ ap joined (sym cut_split)

      length_two : length rest ≡ length r - length (take (j - i) t)
      length_two = ap length rest_two ∙ (omega (arith, length-drop (j - i) t, length_one, long))

      pub shorter_two : length rest < length r
      shorter_two = omega (arith, length_two, length_one, cut.ordered, cut.within)

      pub places_two : (face : List ℕ) → Places face r → Places face rest
      places_two face h = ap (every (is_place face)) rest_two ∙ every_drop (is_place face) (j - i) t (places_turned face r t i e h)

      module _ (o o1 l l1 : List ℕ) (c f c1 f1 : ℕ) (a : Taken (pieces_by key (take (j - i) t)) o o1 l l1 c f c1 f1) where
        pub room_two : Room (length r) o l c f → length o1 ≡ length o → length l1 ≡ length l → Room (length rest) o1 l1 c1 f1
        room_two h x y =
            rw length_two (room_left key (take (j - i) t) (length r) o o1 l l1 c f c1 f1 (omega (arith, shorter_one)) h a x y)

        pub cut_parted :
            (zs z o2 l2 : List ℕ) (c2 f2 : ℕ) → ys ≡ joined (split_by key (take (j - i) t)) → Parted key rest zs o1 o2 l1 l2 c1 f1 c2 f2
            → z ≡ take (j - i) row ++ (zs ++ drop (length row - (j - i)) (drop (j - i) row)) → Parted key r z o o2 l l2 c f c2 f2
        cut_parted zs z o2 l2 c2 f2 y b w = record {
          rings = cut_row zs z y b.rings w;
          taken =
              rw cut_pieces
              (taken_both (pieces_by key (take (j - i) t)) (pieces_by key (drop (j - i) t)) o o1 o2 l l1 l2 c f c1 f1 c2 f2 a (rw rest_two at b.taken));
        }
