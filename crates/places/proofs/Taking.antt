-- Pieces that are written behind others, and the room that they leave; and a ring that is not folded. Assumes nothing.
use mathlib.Core.Path.{◌≡◌, refl, sym, ap, ap₂, ◌∙◌}
use mathlib.Core.Bool.{false}
use mathlib.Core.List.{List, [], ◌∷◌, ◌++◌, map, map-append, append-nil}
use Prim.Native.Nat.{ℕ, ◌+◌, ◌*◌, ◌-◌, ◌≤◌, ◌<◌}
use native.Mathlib.Omega.{arith}
use lib.ListN.{length, set, length-map, length-append}
use lib.Seq.{sets}
use Rattle.lists.specs.Lists.{joined, sum}
use Rattle.lists.proofs.Parts.{sum_append, joined_append, length_joined}
use Rattle.lists.proofs.Writing.{sets_append}
use Rattle.splitting.specs.Splitting.{folded_by, pieces_by}
use Rattle.splitting.proofs.Splitting.{split_whole}
use Rattle.splitting.proofs.Pieces.{third, pieces_stay, pieces_vanish, pieces_all, pieces_fewer}
use Rattle.places.specs.Working.{Room, Taken, Parted}

-- ---- what is written

pub taken_none : (o l : List ℕ) (c f : ℕ) → Taken [] o o l l c f c f
taken_none o l c f = record { places = refl; sizes = refl; more = omega arith; most = omega arith }

pub taken_one : (r o o' l : List ℕ) (c f : ℕ) → o' ≡ sets o c r → Taken (r ∷ []) o o' l (set l f (length r)) c f (c + length r) (f + 1)
taken_one r o o' l c f e = record {
  places = e ∙ ap (sets o c) (sym (append-nil r));
  sizes = refl;
  more = omega arith;
  most = refl;
}

pub taken_both : (a b : List (List ℕ)) (o o1 o2 l l1 l2 : List ℕ) (c f c1 f1 c2 f2 : ℕ) → Taken a o o1 l l1 c f c1 f1 → Taken b o1 o2 l1 l2 c1 f1 c2 f2
    → Taken (a ++ b) o o2 l l2 c f c2 f2
taken_both a b o o1 o2 l l1 l2 c f c1 f1 c2 f2 x y =
    let s : sum (map length (a ++ b)) ≡ sum (map length a) + sum (map length b) = ap sum (map-append length a b) ∙ sum_append (map length a) (map length b) in
    let n : length (a ++ b) ≡ length a + length b = length-append a b in
    let p : c1 ≡ c + length (joined a) = x.more ∙ ap (λ (k : ℕ). c + k) (sym (length_joined a)) in
    let q : f1 ≡ f + length (map length a) = x.most ∙ ap (λ (k : ℕ). f + k) (sym (length-map a length)) in
    record {
      places =
          y.places
          ∙ ap₂ (λ (t : List ℕ) (k : ℕ). sets t k (joined b)) x.places p
          ∙ sym (sets_append o c (joined a) (joined b))
          ∙ ap (sets o c) (sym (joined_append a b));
      sizes =
          y.sizes
          ∙ ap₂ (λ (t : List ℕ) (k : ℕ). sets t k (map length b)) x.sizes q
          ∙ sym (sets_append l f (map length a) (map length b))
          ∙ ap (sets l f) (sym (map-append length a b));
      more = omega (arith, x.more, y.more, s);
      most = omega (arith, x.most, y.most, n);
    }

module _ (key : ℕ → ℕ) (row : List ℕ) (e : folded_by key row ≡ false) (o l : List ℕ) (c f : ℕ) where
  pub piece_none : length row < 3 → Taken (pieces_by key row) o o l l c f c f
  piece_none h = rw (pieces_vanish key row e h) (taken_none o l c f)

  pub piece_put : (o' : List ℕ) → 3 ≤ length row → o' ≡ sets o c row → Taken (pieces_by key row) o o' l (set l f (length row)) c f (c + length row) (f + 1)
  piece_put o' h w = rw (pieces_stay key row e h) (taken_one row o o' l c f w)

-- ---- a ring that is not folded

pub whole_parted :
    (key : ℕ → ℕ) (r : List ℕ) (o o' l l' : List ℕ) (c f c' f' : ℕ) → folded_by key r ≡ false → Taken (pieces_by key r) o o' l l' c f c' f'
    → Parted key r r o o' l l' c f c' f'
whole_parted key r o o' l l' c f c' f' e t = record { rings = sym (ap joined (split_whole key r e) ∙ append-nil r); taken = t }

-- ---- room

pub room_less : (n m : ℕ) (o l : List ℕ) (c f : ℕ) → m ≤ n → Room n o l c f → Room m o l c f
room_less n m o l c f h r = record { small = omega (arith, r.small); places = omega (arith, r.places); sizes = omega (arith, r.sizes) }

-- behind the pieces of m of the n places there is room for those of the others
pub room_left : (key : ℕ → ℕ) (s : List ℕ) (n : ℕ) (o o' l l' : List ℕ) (c f c' f' : ℕ) → length s ≤ n → Room n o l c f
    → Taken (pieces_by key s) o o' l l' c f c' f' → length o' ≡ length o → length l' ≡ length l → Room (n - length s) o' l' c' f'
room_left key s n o o' l l' c f c' f' h r t x y =
    let a : 3 * length (pieces_by key s) ≤ sum (map length (pieces_by key s)) = third (pieces_by key s) (pieces_all key s) in
    let b : sum (map length (pieces_by key s)) ≤ length s = pieces_fewer key s in
    record {
      small = omega (arith, r.small);
      places = omega (arith, r.places, t.more);
      sizes = omega (arith, r.sizes, t.most);
    }
