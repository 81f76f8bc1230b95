-- The pass that puts positions: those of the points before x stand there. Assumes nothing.
use mathlib.Core.Path.{◌≡◌, refl, sym, ap, ◌∙◌}
use mathlib.Core.Bool.{Bool, true, false, cond}
use mathlib.Core.List.{List, [], ◌∷◌, ◌++◌, append-nil}
use Prim.Native.Nat.{ℕ, ◌+◌, ◌*◌, ◌≤◌, ◌<◌}
use native.Mathlib.Omega.{arith}
use lib.Dec.{eqb}
use lib.ListN.{length, get_or, length-append}
use lib.Seq.{sets, length-sets}
use lib.Ieee.{Float}
use borrow.Author.Tests.{eq-eqb, ne_eqb}
use Rattle.lists.specs.Lists.{has, each}
use Rattle.lists.specs.FirstUses.{first_uses, place}
use Rattle.lists.proofs.Bools.{by_cases}
use Rattle.lists.proofs.Parts.{each_append}
use Rattle.lists.proofs.Places.{place_below}
use Rattle.scanned.specs.Scan.{point_place, point_from, point_at, coordinates_of}
use Rattle.scanned.specs.Seen.{upto, seen}
use Rattle.scanned.proofs.Prefixes.{has_seen, seen_old, seen_new, number_old, number_new}
use Rattle.handing.specs.Handing.{PositionRoom}
use Rattle.handing.specs.Steps.{NewRoom, NewPut}
use Rattle.scanned.proofs.Pieces.{length_positions}
use Rattle.handing.proofs.Growth.{piece_behind}

pub record Putting (key : ℕ → ℕ) (u : ℕ) (before now : List Float) (x found : ℕ) : Type 0 where
  pub within : x ≤ u
  pub counted : found ≤ x
  pub count : found ≡ length (seen key x)
  pub put : now ≡ sets before 0 (each coordinates_of (seen key x))
  pub long : length now ≡ length before

pub putting_begins : (key : ℕ → ℕ) (u : ℕ) (p : List Float) → Putting key u p p 0 0
unfolding first_uses
putting_begins key u p = record { within = omega arith; counted = omega arith; count = refl; put = refl; long = refl }

module _ (file numbers : List ℕ) (p₀ : List Float) (r : PositionRoom file numbers p₀) (p : List Float) (x found : ℕ)
    (s : Putting (point_at file) (length numbers) p₀ p x found) (h : x < length numbers) (number : ℕ) (e : number ≡ get_or numbers x 0) where
  is_place : number ≡ place (seen (point_at file) (length numbers)) (point_at file x)
  is_place = e ∙ r.numbered.number x h

  below : number < length (seen (point_at file) (length numbers))
  below =
      let b : place (seen (point_at file) (length numbers)) (point_at file x) < length (seen (point_at file) (length numbers)) =
      place_below (seen (point_at file) (length numbers)) (point_at file x) (has_seen (point_at file) (length numbers) x h) in
      omega (arith, is_place)

  pub new_room : NewRoom file x number found p
  new_room = record {
    few = omega (arith, r.rows.few);
    inside = r.rows.inside x h;
    counted = s.counted;
    room = λ q.
        omega (arith, below, r.numbered.count, r.room, s.long);
  }

  module _ (p' : List Float) (found' : ℕ) (w : NewPut (point_at file x) number found p p' found') where
    -- a new point
    put_new : has (point_at file x) (upto (point_at file) x) ≡ false → Putting (point_at file) (length numbers) p₀ p' (x + 1) found'
    put_new n =
        let q : number ≡ found = is_place ∙ number_new (point_at file) x (length numbers) h n ∙ sym s.count in
        let b : eqb number found ≡ true = eq-eqb number found q in
        let m : seen (point_at file) (x + 1) ≡ seen (point_at file) x ++ (point_at file x ∷ []) = seen_new (point_at file) x n in
        let a : length (seen (point_at file) x ++ (point_at file x ∷ [])) ≡ length (seen (point_at file) x) + 1 =
        length-append (seen (point_at file) x) (point_at file x ∷ []) in
        let c : found' ≡ found + 1 = w.count ∙ ap (λ (d : Bool). cond d (found + 1) found) b in
        let i : p' ≡ sets p (3 * found) (coordinates_of (point_at file x)) =
        w.is ∙ ap (λ (d : Bool). cond d (sets p (3 * found) (coordinates_of (point_at file x))) p) b in
        let o : 3 * found ≡ length (each coordinates_of (seen (point_at file) x)) =
        ap (λ (j : ℕ). 3 * j) s.count ∙ sym (length_positions (seen (point_at file) x)) in
        record {
          within = omega arith;
          counted = omega (arith, s.counted);
          count = c ∙ ap (λ (j : ℕ). j + 1) s.count ∙ sym a ∙ ap length (sym m);
          put =
              piece_behind p₀ p p' (each coordinates_of (seen (point_at file) x)) (coordinates_of (point_at file x)) (3 * found) s.put o i
              ∙ ap (λ (t : List Float). sets p₀ 0 (each coordinates_of (seen (point_at file) x) ++ t)) (sym (append-nil (coordinates_of (point_at file x))))
              ∙ ap (sets p₀ 0) (sym (each_append coordinates_of (seen (point_at file) x) (point_at file x ∷ [])))
              ∙ ap (λ (l : List ℕ). sets p₀ 0 (each coordinates_of l)) (sym m);
          long = ap length i ∙ length-sets p (3 * found) (coordinates_of (point_at file x)) ∙ s.long;
        }

    -- one that was there
    put_old : has (point_at file x) (upto (point_at file) x) ≡ true → Putting (point_at file) (length numbers) p₀ p' (x + 1) found'
    put_old n =
        let l : place (seen (point_at file) (length numbers)) (point_at file x) < length (seen (point_at file) x) =
        number_old (point_at file) x (length numbers) h n in
        let b : eqb number found ≡ false = ne_eqb number found (λ q. omega (arith, is_place, s.count)) in
        let m : seen (point_at file) (x + 1) ≡ seen (point_at file) x = seen_old (point_at file) x n in
        let c : found' ≡ found = w.count ∙ ap (λ (d : Bool). cond d (found + 1) found) b in
        let i : p' ≡ p = w.is ∙ ap (λ (d : Bool). cond d (sets p (3 * found) (coordinates_of (point_at file x))) p) b in
        record {
          within = omega arith;
          counted = omega (arith, s.counted);
          count = c ∙ s.count ∙ ap length (sym m);
          put = i ∙ s.put ∙ ap (λ (l : List ℕ). sets p₀ 0 (each coordinates_of l)) (sym m);
          long = ap length i ∙ s.long;
        }

    pub putting_turns : Putting (point_at file) (length numbers) p₀ p' (x + 1) found'
    putting_turns = by_cases (has (point_at file x) (upto (point_at file) x)) put_old put_new

-- one point: passed over, or put
module _ (file : List ℕ) (x number found : ℕ) (p : List Float) where
  pub new_put :
      (q : number ≡ found) (i : ℕ) (cs p' : List Float) → i ≡ point_place x → cs ≡ coordinates_of (point_from file i)
      → p' ≡ sets p (3 * found) cs → NewPut (point_at file x) number found p p' (found + 1)
  unfolding point_at
  new_put q i cs p' e f g = record {
    is = g ∙ ap (sets p (3 * found)) (f ∙ ap (λ (j : ℕ). coordinates_of (point_from file j)) e) ∙ rw (eq-eqb number found q);
    count = rw (eq-eqb number found q);
  }
