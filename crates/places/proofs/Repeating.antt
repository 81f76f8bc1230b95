-- A row that begins with places of equal keys: each but the last is a ring by itself, so that the rings are these and the rings of the rest,
-- and the pieces are those of the rest. Assumes nothing.
use mathlib.Core.Path.{◌≡◌, refl, sym, ap, ◌∙◌}
use mathlib.Core.Bool.{true, false}
use mathlib.Core.Logic.{⊎_elim}
use mathlib.Core.List.{List, [], ◌∷◌, ◌++◌, map, append-nil}
use Prim.Native.Nat.{ℕ, zero, suc, ◌-◌, ◌≤◌, ◌<◌}
use native.Mathlib.Nat.{eq-or-lt_of_le}
use native.Mathlib.Omega.{arith}
use lib.ListN.{length, get_or, take, drop, length-map, length-drop, drop_of_length-le}
use lib.Seq.{take_all}
use lib.Dec.{eqb}
use borrow.Author.Tests.{eq-eqb}
use Rattle.lists.specs.Lists.{joined, every}
use Rattle.lists.proofs.Bools.{true_false}
use Rattle.lists.proofs.Changing.{map_at}
use Rattle.lists.proofs.Parts.{every_drop}
use Rattle.splitting.specs.Splitting.{mate_of, first_mated, folded_by, split_by, pieces_by}
use Rattle.splitting.proofs.Search.{mate_after, mate_first, first_first}
use Rattle.splitting.proofs.Splitting.{split_whole}
use Rattle.splitting.proofs.Pieces.{pieces_vanish}
use Rattle.places.specs.Working.{is_place, Places, Found, Repeats, Room, Parted}
use Rattle.places.proofs.Taking.{room_less}
use Rattle.places.proofs.Cutting.{cut_split, cut_pieces}

-- ---- one place

-- where the first two keys are equal the search finds them
found_first : (key : ℕ → ℕ) (r : List ℕ) → 1 < length r → key (get_or r 0 0) ≡ key (get_or r 1 0) → Found key r 0 1
found_first key r h e =
    let ks = map key r in
    let n : length ks ≡ length r = length-map r key in
    let same : eqb (get_or ks 0 0) (get_or ks 1 0) ≡ true =
    eq-eqb _ _ (map_at key 0 0 r 0 (omega (arith, h)) ∙ e ∙ sym (map_at key 0 0 r 1 h)) in
    let mate : 1 ≡ mate_of ks 0 =
    ⊎_elim (λ q. q) (λ l. true_false (sym same ∙ mate_first ks 0 1 (omega arith) l)) (eq-or-lt_of_le (mate_after ks 0)) in
    record {
      first =
          ⊎_elim (λ q. q) (λ l. absurd (let u : length ks ≤ mate_of ks 0 = first_first ks 0 l in omega (arith, u, mate, n, h)))
          (eq-or-lt_of_le (let u : 0 ≤ first_mated ks = omega arith in u));
      second = mate;
      ordered = omega arith;
      within = h;
    }

alone : (key : ℕ → ℕ) (x : ℕ) → folded_by key (x ∷ []) ≡ false
unfolding folded_by
alone key x = refl

module _ (key : ℕ → ℕ) (x : ℕ) (l : List ℕ) (f : Found key (x ∷ l) 0 1) where
  first_goes : split_by key (x ∷ l) ≡ (x ∷ []) ∷ split_by key l
  first_goes =
      cut_split f (sym (append-nil (x ∷ l)))
      ∙ ap (λ (rs : List (List ℕ)). rs ++ split_by key l) (split_whole key (x ∷ []) (alone key x))

  first_gives_none : pieces_by key (x ∷ l) ≡ pieces_by key l
  first_gives_none =
      cut_pieces f (sym (append-nil (x ∷ l)))
      ∙ ap (λ (rs : List (List ℕ)). rs ++ pieces_by key l) (pieces_vanish key (x ∷ []) (alone key x) (omega arith))

-- ---- as many as are equal

fewer : (key : ℕ → ℕ) (x : ℕ) (l : List ℕ) (k : ℕ) → Repeats key (x ∷ l) (suc k) → Repeats key l k
fewer key x l k r = record {
  within = λ i h. let u : suc (suc i) < suc (length l) = r.within (suc i) (omega (arith, h)) in omega (arith, u);
  equal = λ i h. r.equal (suc i) (omega (arith, h));
}

begins : (key : ℕ → ℕ) (x : ℕ) (l : List ℕ) (k : ℕ) → Repeats key (x ∷ l) (suc k) → Found key (x ∷ l) 0 1
begins key x l k r = found_first key (x ∷ l) (r.within 0 (omega arith)) (r.equal 0 (omega arith))

split_repeats : (key : ℕ → ℕ) (k : ℕ) (r : List ℕ) → Repeats key r k → joined (split_by key r) ≡ take k r ++ joined (split_by key (drop k r))
split_repeats key zero r p = refl
split_repeats key (suc k) [] p = let u : 1 < 0 = p.within 0 (omega arith) in absurd (omega (arith, u))
split_repeats key (suc k) (x ∷ l) p =
    ap joined (first_goes key x l (begins key x l k p)) ∙ ap (λ (t : List ℕ). x ∷ t) (split_repeats key k l (fewer key x l k p))

pieces_repeats : (key : ℕ → ℕ) (k : ℕ) (r : List ℕ) → Repeats key r k → pieces_by key r ≡ pieces_by key (drop k r)
pieces_repeats key zero r p = refl
pieces_repeats key (suc k) [] p = let u : 1 < 0 = p.within 0 (omega arith) in absurd (omega (arith, u))
pieces_repeats key (suc k) (x ∷ l) p = first_gives_none key x l (begins key x l k p) ∙ pieces_repeats key k l (fewer key x l k p)

-- ---- the rest of the row, and the row when the rest has become zs

module _ {key : ℕ → ℕ} {r : List ℕ} {k : ℕ} (p : Repeats key r k) (some : 0 < k) where
  abbrev pub passed : List ℕ
  passed = take (length r - k) (drop k r)

  passed_is : passed ≡ drop k r
  passed_is = take_all (length r - k) (drop k r) (omega (arith, length-drop k r))

  pub passed_within : k ≤ length r
  passed_within = let u : suc (k - 1) < length r = p.within (k - 1) (omega (arith, some)) in omega (arith, u)

  pub passed_shorter : length passed < length r
  passed_shorter = omega (arith, ap length passed_is, length-drop k r, some, passed_within)

  pub passed_places : (face : List ℕ) → Places face r → Places face passed
  passed_places face h = ap (every (is_place face)) passed_is ∙ every_drop (is_place face) k r h

  pub passed_room : (o l : List ℕ) (c f : ℕ) → Room (length r) o l c f → Room (length passed) o l c f
  passed_room o l c f = room_less (length r) (length passed) o l c f (omega (arith, passed_shorter))

  pub passed_parted :
      (zs z o o' l l' : List ℕ) (c f c' f' : ℕ) → Parted key passed zs o o' l l' c f c' f' → length zs ≡ length passed
      → z ≡ take k r ++ (zs ++ drop (length r - k) (drop k r)) → Parted key r z o o' l l' c f c' f'
  passed_parted zs z o o' l l' c f c' f' d same w = record {
    rings =
        w
        ∙ ap (λ (t : List ℕ). take k r ++ t)
        (ap (λ (t : List ℕ). zs ++ t) (drop_of_length-le (drop k r) {i = length r - k} (omega (arith, length-drop k r))) ∙ append-nil zs
        ∙ d.rings ∙ ap (λ (t : List ℕ). joined (split_by key t)) passed_is)
        ∙ sym (split_repeats key k r p);
    taken = rw (pieces_repeats key k r p, sym passed_is) d.taken;
  }
