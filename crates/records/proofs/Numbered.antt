-- The number of each face record of the wrong size, by the rows of one record. Assumes nothing.
use mathlib.Core.Path.{◌≡◌, refl, sym, ap, ◌∙◌}
use mathlib.Core.Bool.{Bool, true, false, not, ◌&&◌}
use mathlib.Core.List.{List}
use Prim.Native.Nat.{ℕ, ◌+◌, ◌*◌, ◌%◌, ◌≤◌, ◌<◌}
use native.Mathlib.Omega.{arith}
use lib.Dec.{leb}
use borrow.Author.Tests.{eq-eqb, le-leb, lt-leb, leb-true, leb-false}
use Rattle.lists.proofs.Bools.{by_cases, and_both}
use Rattle.little.specs.Little.{byte, half}
use Rattle.records.specs.declared.Record.TheVariants.{Face, Refused}
use Rattle.records.specs.Lengths.{header_length, corner_length, marked_length, wide_face_length, marked_face_length, wide_least, marked_least, byte_count, wide_count, last_kind}
use Rattle.records.specs.Records.{length_fits, ring_from, any_mark, lacks_marks, counted, face_from, wide_face_from, marked_face_from, body_from, record_from}
use Rattle.records.specs.Promises.{Header, Whole, KindOver6, FewIn5, FewIn6, ManyIn4, ManyIn5, ManyIn6, BareIn6, TakenIn6}
use Rattle.records.proofs.Recorded.{kind_unknown, length_wrong, body_whole, face_bare, face_many, face_good}

pub kind_over_6 : KindOver6
kind_over_6 s at n k h l = sym (kind_unknown s at n k h.whole (sym h.bytes) (sym h.kinded) l)

-- a length that does not fit, and one that does
misfit : (s : List ℕ) (at n k : ℕ) → Header s at n k → k ≤ last_kind → length_fits k n ≡ false → record_from s at ≡ Refused 12
misfit s at n k h l w = sym (length_wrong s at n k h.whole (sym h.bytes) (sym h.kinded) l (ap not w))

fitting : (s : List ℕ) (at n k : ℕ) → Whole s at n k → k ≤ last_kind → length_fits k n ≡ true → record_from s at ≡ body_from s (at + header_length) n k
fitting s at n k h l w =
    sym (body_whole s at n k h.header.whole (sym h.header.bytes) (sym h.header.kinded) l (ap not w) h.body)

short_length : (least n : ℕ) (b : Bool) → n < least → (leb least n && b) ≡ false
short_length least n b h = rw (lt-leb least n h)

pub few_in_5 : FewIn5
unfolding length_fits
few_in_5 s at n h l = misfit s at (2 + 12 * n) 5 h (omega arith) (short_length (wide_face_length wide_least) (2 + 12 * n) _ (omega arith))

pub few_in_6 : FewIn6
unfolding length_fits
few_in_6 s at n h l = misfit s at (2 + 16 * n) 6 h (omega arith) (short_length (marked_face_length marked_least) (2 + 16 * n) _ (omega arith))

-- ---- a body with the length of its count

module _ (s : List ℕ) (b n : ℕ) where
  byte_length : n ≤ 255 → length_fits 4 (1 + 12 * n) ≡ true
  unfolding length_fits
  byte_length h =
      let e : (1 + 12 * n) % corner_length ≡ byte_count = omega arith in
      and_both _ _ (le-leb (1 + 12 * n) 3061 (omega arith)) (eq-eqb ((1 + 12 * n) % corner_length) byte_count e)

  wide_length : 33 ≤ n → length_fits 5 (2 + 12 * n) ≡ true
  unfolding length_fits
  wide_length h =
      let e : (2 + 12 * n) % corner_length ≡ wide_count = omega arith in
      and_both _ _ (le-leb (wide_face_length wide_least) (2 + 12 * n) (omega arith)) (eq-eqb ((2 + 12 * n) % corner_length) wide_count e)

  marked_length_lem : 3 ≤ n → length_fits 6 (2 + 16 * n) ≡ true
  unfolding length_fits
  marked_length_lem h =
      let e : (2 + 16 * n) % marked_length ≡ wide_count = omega arith in
      and_both _ _ (le-leb (marked_face_length marked_least) (2 + 16 * n) (omega arith)) (eq-eqb ((2 + 16 * n) % marked_length) wide_count e)

  byte_body : byte s b ≡ n → body_from s b (1 + 12 * n) 4 ≡ counted false s 1 32 n (b + 1) (1 + 12 * n)
  unfolding body_from face_from
  byte_body e = ap (λ (c : ℕ). counted false s 1 32 c (b + 1) (1 + 12 * n)) e

  wide_body : half s b ≡ n → body_from s b (2 + 12 * n) 5 ≡ counted false s 2 300 n (b + 2) (2 + 12 * n)
  unfolding body_from wide_face_from
  wide_body e = ap (λ (c : ℕ). counted false s 2 300 c (b + 2) (2 + 12 * n)) e

  marked_body : half s b ≡ n → body_from s b (2 + 16 * n) 6 ≡ counted true s 2 300 n (b + 2) (2 + 16 * n)
  unfolding body_from marked_face_from
  marked_body e = ap (λ (c : ℕ). counted true s 2 300 c (b + 2) (2 + 16 * n)) e

pub many_in_4 : ManyIn4
many_in_4 s at n h e w l =
    fitting s at (1 + 12 * n) 4 h (omega arith) (byte_length s at n w)
    ∙ byte_body s (at + 4) n e
    ∙ sym (face_many false s 1 32 n (at + 4 + 1) (1 + 12 * n) refl refl l)

pub many_in_5 : ManyIn5
many_in_5 s at n h e l =
    fitting s at (2 + 12 * n) 5 h (omega arith) (wide_length s at n (omega arith))
    ∙ wide_body s (at + 4) n e
    ∙ sym (face_many false s 2 300 n (at + 4 + 2) (2 + 12 * n) refl refl l)

-- ---- kind 6, from three corners on

module _ (s : List ℕ) (at n : ℕ) (h : Whole s at (2 + 16 * n) 6) (e : half s (at + 4) ≡ n) where
  abbrev place : ℕ
  place = at + 4 + 2

  there : place ≡ at + 6
  there = omega arith

  marked : (b : Bool) → any_mark (ring_from true s n (at + 6)) ≡ b → lacks_marks true (ring_from true s n place) ≡ not b
  marked b m = ap (λ (i : ℕ). not (any_mark (ring_from true s n i))) there ∙ ap not m

  from_3 : 3 ≤ n → record_from s at ≡ counted true s 2 300 n place (2 + 16 * n)
  from_3 l = fitting s at (2 + 16 * n) 6 h (omega arith) (marked_length_lem s at n l) ∙ marked_body s (at + 4) n e

pub many_in_6 : ManyIn6
many_in_6 s at n h e m l =
    from_3 s at n h e (omega arith) ∙ sym (face_many true s 2 300 n (at + 4 + 2) (2 + 16 * n) refl (marked s at n h e true m) l)

pub bare_in_6 : BareIn6
bare_in_6 s at n h e m =
    by_cases (leb 3 n)
    (λ t. from_3 s at n h e (leb-true 3 n t) ∙ sym (face_bare true s 2 300 n (at + 4 + 2) (2 + 16 * n) refl (marked s at n h e false m)))
    (λ f. few_in_6 s at n h.header (leb-false 3 n f))

pub taken_in_6 : TakenIn6
taken_in_6 s at n h e m l u =
    from_3 s at n h e l
    ∙ sym (face_good true s 2 300 n (at + 4 + 2) (2 + 16 * n) refl (marked s at n h e true m) u)
    ∙ ap (λ (i : ℕ). Face i n true) (there s at n h e)
