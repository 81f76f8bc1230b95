-- What the loops over the sizes and over the corners keep, and what their ends say of the table's rows. Assumes nothing.
use Rattle.std.proofs.Common.{◌≡◌, ℕ, suc, ◌+◌, ◌*◌, ◌/◌, ◌<◌, ◌≤◌, Bool, true, false, not, ◌||◌, eqb, ltb, List, [], ◌∷◌, map, length, get_or, drop, sym, refl, ap, ◌∙◌, subst, add-one, arith, drop-cons, le-ltb, eqb-true, le-leb}
use mathlib.Core.Bool.{or_assoc, or-false}
use lib.Seq.{drop-length}
use borrow.Author.Tests.{eqb-false}
use Rattle.lists.proofs.Bools.{by_cases, or_left}
use Rattle.lists.proofs.Parts.{sum_step, some_true_at, Gathering, gather_begins, gather_turns, gather_ends}
use Rattle.mesh.specs.Limits.{width, largest}
use Rattle.mesh.specs.Mesh.{Mesh, Corner, position, texture, normal, corners_in, corner_at, position_count, texture_count, normal_count}
use Rattle.mesh.specs.Table.{kind, falls, beyond, beyond_unless_missing, astray, astray_at}
use Rattle.mesh.specs.Face.{offset_of}
use Rattle.mesh.proofs.Corners.{length-corners_in, get_or-corners_in}

-- ---- the sizes before face i are added up to t

pub record Adding (s : List ℕ) (k t i : ℕ) : Type 0 where
  pub within : i ≤ k
  pub adds : t ≡ offset_of s i
  pub small : t ≤ largest * i

pub adding_turns : (s : List ℕ) (k t i : ℕ) → i < k → k ≤ length s → get_or s i 0 ≤ largest → Adding s k t i → Adding s k (t + get_or s i 0) (i + 1)
adding_turns s k t i h l f a = record {
  within = omega arith;
  adds = let e : offset_of s (i + 1) ≡ offset_of s i + get_or s i 0 = sum_step s i (omega arith) in omega (arith, a.adds);
  small = omega (arith, a.small);
}

pub adding_ends : (s : List ℕ) (k t i : ℕ) → k ≤ i → Adding s k t i → t ≡ offset_of s k
adding_ends s k t i h a = let e : i ≡ k = omega (arith, a.within) in a.adds ∙ ap (offset_of s) e

-- ---- whether a size among the first k is of a smaller kind than the one before it; `last` is the kind of the last of them

pub record Grouping (s : List ℕ) (fallen : Bool) (last k : ℕ) : Type 0 where
  pub within : k ≤ length s
  pub rest : falls (map kind s) ≡ (fallen || falls (last ∷ map kind (drop k s)))

from_none : (l : List ℕ) → falls l ≡ falls (0 ∷ l)
from_none [] = refl
from_none (n ∷ l) = rw (le-ltb n 0 (omega arith))

pub grouping_begins : (s : List ℕ) → Grouping s false 0 0
grouping_begins s = record { within = omega arith; rest = from_none (map kind s) }

-- the next size is looked at
pub grouping_turns : (s : List ℕ) (fallen : Bool) (last k : ℕ) → k < length s → Grouping s fallen last k → Grouping s (fallen || ltb (kind (get_or s k 0)) last) (kind (get_or s k 0)) (k + 1)
grouping_turns s fallen last k h g = record {
  within = omega arith;
  rest =
      let next = kind (get_or s k 0) in
      g.rest
      ∙ ap (λ (l : List ℕ). fallen || falls (last ∷ map kind l)) (drop-cons s k 0 h)
      ∙ sym (or_assoc fallen (ltb next last) (falls (next ∷ map kind (drop (suc k) s))))
      ∙ rw (add-one k);
}

pub grouping_ends : (s : List ℕ) (fallen : Bool) (last k : ℕ) → length s ≤ k → Grouping s fallen last k → fallen ≡ falls (map kind s)
grouping_ends s fallen last k h g =
    let e : k ≡ length s = omega (arith, g.within) in
    sym (g.rest
    ∙ ap (λ (n : ℕ). fallen || falls (last ∷ map kind (drop n s))) e
    ∙ ap (λ (l : List ℕ). fallen || falls (last ∷ map kind l)) (drop-length s)
    ∙ or-false fallen)

-- ---- whether a corner among the first k is astray

module _ (m : Mesh) where
  abbrev pub Straying : Bool → ℕ → Type 0
  Straying found k = Gathering (astray_at m) (corners_in m.corners) found k

  abbrev count : ℕ
  count = length m.corners / width

  pub straying_begins : Straying false 0
  straying_begins = gather_begins (astray_at m) [] (corners_in m.corners)

  pub straying_turns : (found : Bool) (k : ℕ) → k < count → Straying found k → Straying (found || astray_at m (corner_at m.corners k)) (k + 1)
  straying_turns found k h s =
      subst (λ (c : Corner). Straying (found || astray_at m c) (k + 1)) (get_or-corners_in m.corners k h)
      (gather_turns (astray_at m) [] (corners_in m.corners) found k (rw (length-corners_in m.corners) h) s)

  pub straying_ends : (found : Bool) (k : ℕ) → count ≤ k → Straying found k → found ≡ astray m
  unfolding astray
  straying_ends found k h s = gather_ends (astray_at m) [] (corners_in m.corners) found k (rw (length-corners_in m.corners) h) s

  -- with no positions every corner is astray
  all_astray : position_count m ≡ 0 → (c : Corner) → astray_at m c ≡ true
  all_astray h c =
      let a = beyond (position_count m) (position c) in
      let b = beyond_unless_missing (texture_count m) (texture c) in
      or_left (a || b) (beyond_unless_missing (normal_count m) (normal c)) (or_left a b (le-leb (position_count m) (position c) (omega (arith, h))))

  pub straying_all : position_count m ≡ 0 → not (eqb count 0) ≡ astray m
  unfolding astray
  straying_all h =
      by_cases (eqb count 0)
      (λ e. rw e (straying_ends false 0 (omega (arith, eqb-true count 0 e)) straying_begins))
      (λ e.
      let f : count ≡ 0 → ⊥ = eqb-false count 0 e in
      let t = corners_in m.corners in
      rw e (sym (some_true_at (astray_at m) [] t 0 (rw (length-corners_in m.corners) (omega (arith, f))) (all_astray h (get_or t 0 [])))))
