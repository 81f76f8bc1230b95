-- The labels that are put panel by panel are the panels of the faces, since each face stands in one panel. Assumes nothing.
use mathlib.Core.Path.{◌≡◌, refl, sym, ap, ◌∙◌, subst}
use mathlib.Core.Logic.{⊎_elim}
use mathlib.Core.Bool.{Bool, true, false, cond, ◌||◌}
use mathlib.Core.List.{List, [], ◌∷◌, ◌++◌, map}
use Prim.Native.Nat.{ℕ, suc, ◌+◌, ◌-◌, ◌≤◌, ◌<◌}
use native.Mathlib.Nat.{add-zero, zero-add}
use native.Mathlib.Numerals.{add-one}
use native.Mathlib.Omega.{arith}
use lib.Dec.{eqb}
use lib.ListN.{length, get_or, take, drop, set, length-set, length-map, drop_of_length-le}
use lib.Seq.{length-sets, length-take-le, drop-cons, get_or-set_same, get_or-set_other}
use borrow.Author.Tests.{eqb-true, eqb-false}
use Rattle.lists.specs.Lists.{has, count, sum, joined}
use Rattle.lists.specs.Cutting.{parts}
use Rattle.lists.proofs.Bools.{by_cases, or_false_left, or_false_right}
use Rattle.lists.proofs.Counting.{clash, count_append, count_some, some_counted}
use Rattle.lists.proofs.Copies.{part_at, length_part, take_written, sets_whole}
use Rattle.lists.proofs.Cutting.{parts_at, parts_back, length_parts}
use Rattle.lists.proofs.Members.{in_append}
use Rattle.lists.proofs.Parts.{sum_at, sum_step, some_append, length_joined}
use Rattle.lists.proofs.Places.{has_get_d}
use Rattle.mesh.specs.Mesh.{Ring, rings}
use Rattle.mesh.proofs.Faces.{length_rings}
use Rattle.searching.specs.Walk.{Parted}
use Rattle.panels.specs.Panels.{panels}
use Rattle.panels.proofs.Panelled.{panels_once, panels_inside, panels_length, panels_count}
use Rattle.hemlist.specs.HemList.{first_at, panel_of}
use Rattle.labelled.specs.Labels.{Labelled, LabelRows, PartRoom, PartsRoom, marked, labelled}

-- ---- one panel

pub marked_long : (p : List ℕ) (j : ℕ) (l : List ℕ) → length (marked p j l) ≡ length l
marked_long [] j l = refl
marked_long (x ∷ p) j l = marked_long p j (set l x j) ∙ length-set l x j

marked_out : (y : ℕ) (p : List ℕ) (j : ℕ) (l : List ℕ) → has y p ≡ false → get_or (marked p j l) y 0 ≡ get_or l y 0
marked_out y [] j l h = refl
marked_out y (x ∷ p) j l h = go (eqb y x) refl h (marked_out y p j (set l x j))
  where
    go :
        (b : Bool) → eqb y x ≡ b → (b || has y p) ≡ false → (has y p ≡ false → get_or (marked p j (set l x j)) y 0 ≡ get_or (set l x j) y 0)
        → get_or (marked p j (set l x j)) y 0 ≡ get_or l y 0
    go true q h ih = clash refl h
    go false q h ih = ih h ∙ get_or-set_other l x y j 0 (eqb-false y x q)

marked_in : (y : ℕ) (p : List ℕ) (j : ℕ) (l : List ℕ) → y < length l → has y p ≡ true → get_or (marked p j l) y 0 ≡ j
marked_in y [] j l i h = clash h refl
marked_in y (x ∷ p) j l i h =
    by_cases (has y p)
    (λ m. marked_in y p j (set l x j) (let e : length (set l x j) ≡ length l = length-set l x j in omega arith) m)
    (λ m. marked_out y p j (set l x j) m ∙ go (eqb y x) refl h m)
  where
    go : (b : Bool) → eqb y x ≡ b → (b || has y p) ≡ true → has y p ≡ false → get_or (set l x j) y 0 ≡ j
    go true q h m =
        let e : y ≡ x = eqb-true y x q in
        ap (λ (k : ℕ). get_or (set l x j) k 0) e ∙ get_or-set_same l x j 0 (omega arith)
    go false q h m = clash h m

-- ---- panel after panel

labelled_out : (y : ℕ) (ps : List (List ℕ)) (j : ℕ) (l : List ℕ) → has y (joined ps) ≡ false → get_or (labelled j ps l) y 0 ≡ get_or l y 0
labelled_out y [] j l h = refl
labelled_out y (p ∷ ps) j l h =
    let e : (has y p || has y (joined ps)) ≡ false = sym (some_append (eqb y) p (joined ps)) ∙ h in
    labelled_out y ps (suc j) (marked p j l) (or_false_right (has y p) (has y (joined ps)) e)
    ∙ marked_out y p j l (or_false_left (has y p) (has y (joined ps)) e)

-- a number that stands in the lists at most once
abbrev pub Lone : ℕ → List (List ℕ) → Type 0
Lone a ps = count (eqb a) (joined ps) ≤ 1

pub lone_rest : (a : ℕ) (p : List ℕ) (ps : List (List ℕ)) → Lone a (p ∷ ps) → Lone a ps
lone_rest a p ps o =
    let e : count (eqb a) (p ++ joined ps) ≡ count (eqb a) p + count (eqb a) (joined ps) = count_append (eqb a) p (joined ps) in
    let l : count (eqb a) (p ++ joined ps) ≤ 1 = o in
    omega arith

-- not in the first and in a later one
pub lone_apart : {A : Type 0} (a : ℕ) (p : List ℕ) (ps : List (List ℕ)) → Lone a (p ∷ ps) → has a p ≡ true → has a (joined ps) ≡ true → A
lone_apart a p ps o h k =
    let e : count (eqb a) (p ++ joined ps) ≡ count (eqb a) p + count (eqb a) (joined ps) = count_append (eqb a) p (joined ps) in
    let l : count (eqb a) (p ++ joined ps) ≤ 1 = o in
    let m : 0 < count (eqb a) p = count_some (eqb a) p h in
    let n : 0 < count (eqb a) (joined ps) = count_some (eqb a) (joined ps) k in
    absurd (omega arith)

label_at :
    (y : ℕ) (ps : List (List ℕ)) (j : ℕ) (l : List ℕ) → y < length l → Lone y ps → has y (joined ps) ≡ true
    → get_or (labelled j ps l) y 0 ≡ j + first_at (has y) ps
label_at y [] j l i o h = clash h refl
label_at y (p ∷ ps) j l i o h =
    go (has y p) refl
    (label_at y ps (suc j) (marked p j l) (let e : length (marked p j l) ≡ length l = marked_long p j l in omega arith) (lone_rest y p ps o))
  where
    go :
        (b : Bool) → has y p ≡ b
        → (has y (joined ps) ≡ true → get_or (labelled (suc j) ps (marked p j l)) y 0 ≡ suc j + first_at (has y) ps)
        → get_or (labelled (suc j) ps (marked p j l)) y 0 ≡ j + cond b 0 (suc (first_at (has y) ps))
    go true q ih =
        by_cases (has y (joined ps)) (λ m. lone_apart y p ps o q m)
        (λ m. labelled_out y ps (suc j) (marked p j l) m ∙ marked_in y p j l i q ∙ sym (add-zero j))
    go false q ih =
        let r : get_or (labelled (suc j) ps (marked p j l)) y 0 ≡ suc j + first_at (has y) ps =
        ih (⊎_elim (λ m. clash m q) (λ m. m) (in_append y p (joined ps) h)) in
        omega arith

pub labelled_long : (ps : List (List ℕ)) (j : ℕ) (l : List ℕ) → length (labelled j ps l) ≡ length l
labelled_long [] j l = refl
labelled_long (p ∷ ps) j l = labelled_long ps (suc j) (marked p j l) ∙ marked_long p j l

-- ---- the loops

-- the first i faces of a panel are labelled: what is left to label leads to the same as at the beginning
pub record Marking (part : List ℕ) (j : ℕ) (out₀ out : List ℕ) (i : ℕ) : Type 0 where
  pub rest : marked (drop i part) j out ≡ marked part j out₀
  pub long : length out ≡ length out₀

module _ (part : List ℕ) (j : ℕ) (out₀ : List ℕ) where
  pub mark_begins : Marking part j out₀ out₀ 0
  mark_begins = record { rest = refl; long = refl }

-- the first j panels are labelled, and panel j starts at `from`
pub record Labelling (flat lengths out₀ out : List ℕ) (from j : ℕ) : Type 0 where
  pub offset : from ≡ sum (take j lengths)
  pub rest : labelled j (drop j (parts lengths flat)) out ≡ labelled 0 (parts lengths flat) out₀
  pub long : length out ≡ length out₀

module _ (flat lengths out₀ : List ℕ) where
  pub label_begins : Labelling flat lengths out₀ out₀ 0 0
  label_begins = record { offset = refl; rest = refl; long = refl }

  module _ (room : PartsRoom flat lengths out₀) (out : List ℕ) (from j : ℕ) (h : j < length lengths) (n : Labelling flat lengths out₀ out from j) where
    pub label_within : from + get_or lengths j 0 ≤ length flat
    label_within = omega (arith, room.within, n.offset, sum_at lengths j h)

    abbrev here : List ℕ
    here = take (from + get_or lengths j 0 - from) (drop from flat)

    size : from + get_or lengths j 0 - from ≡ get_or lengths j 0
    size = omega arith

    pub label_room : PartRoom here out
    label_room = record {
      few = let a : _ = room.part.few in let b : _ = n.long in omega arith;
      named = λ i l.
          let w : _ = label_within in
          let e : length here ≡ from + get_or lengths j 0 - from = length_part flat from (from + get_or lengths j 0 - from) (omega (arith, size)) in
          let v : get_or here i 0 ≡ get_or flat (from + i) 0 = part_at 0 flat from (from + get_or lengths j 0 - from) i (omega arith) in
          let b : get_or flat (from + i) 0 < length out₀ = room.part.named (from + i) (omega (arith, size)) in
          omega (arith, n.long);
    }

    is_part : here ≡ get_or (parts lengths flat) j []
    is_part =
        rw size (ap (λ (i : ℕ). take (get_or lengths j 0) (drop i flat)) n.offset ∙ sym (parts_at lengths flat j h))

    pub label_turns :
        (out' : List ℕ) (end : ℕ) → end ≡ from + get_or lengths j 0 → out' ≡ marked here j out → Labelling flat lengths out₀ out' end (j + 1)
    label_turns out' end e w = record {
      offset = omega (arith, e, n.offset, sum_step lengths j h);
      rest =
          ap (λ (k : ℕ). labelled k (drop k (parts lengths flat)) out') (add-one j)
          ∙ ap (labelled (suc j) (drop (suc j) (parts lengths flat))) (w ∙ ap (λ (p : List ℕ). marked p j out) is_part)
          ∙ ap (λ (ps : List (List ℕ)). labelled j ps out) (sym (drop-cons (parts lengths flat) j [] (rw (length_parts lengths flat) h)))
          ∙ n.rest;
      long = ap length w ∙ marked_long here j out ∙ n.long;
    }

  pub label_ends :
      (out : List ℕ) (from j : ℕ) → length lengths ≤ j → Labelling flat lengths out₀ out from j → out ≡ labelled 0 (parts lengths flat) out₀
  label_ends out from j h n =
      let l : length (parts lengths flat) ≤ j = rw (length_parts lengths flat) h in
      ap (λ (ps : List (List ℕ)). labelled j ps out) (sym (drop_of_length-le (parts lengths flat) l))
      ∙ n.rest

-- ---- the panels of a mesh

module _ (cs s flat lengths out flat' lengths' : List ℕ) (faces count : ℕ)
    (r : LabelRows cs s flat lengths out) (p : Parted (panels false (rings s cs)) flat lengths flat' lengths' faces count) where
  abbrev fs : List Ring
  fs = rings s cs

  abbrev ps : List (List ℕ)
  ps = panels false fs

  faces_long : length fs ≡ length s
  faces_long = length_rings s cs

  flat_all : flat' ≡ joined ps
  flat_all = p.flat_is ∙ sets_whole flat (joined ps) (panels_length false fs ∙ faces_long ∙ sym r.flat_long)

  pub count_within : count ≤ length lengths'
  count_within =
      let a : length lengths' ≡ length lengths = ap length p.lengths_are ∙ length-sets lengths 0 (map length ps) in
      omega (arith, p.count_is, panels_count false fs, faces_long, r.lengths_long)

  pub count_taken : count ≡ length (take count lengths')
  count_taken = sym (length-take-le count lengths' count_within)

  lengths_all : take count lengths' ≡ map length ps
  lengths_all =
      let l : length (map length ps) ≡ length ps = length-map ps length in
      ap (take count) p.lengths_are
      ∙ take_written lengths (map length ps) count (l ∙ sym p.count_is)
      (omega (arith, p.count_is, panels_count false fs, faces_long, r.lengths_long))

  pub panels_room : PartsRoom flat' (take count lengths') out
  panels_room = record {
    few_parts =
        let l : length (take count lengths') ≡ length ps = ap length lengths_all ∙ length-map ps length in
        omega (arith, panels_count false fs, faces_long, r.keyable.sound.few);
    within =
        let a : sum (take count lengths') ≡ length (joined ps) = ap sum lengths_all ∙ sym (length_joined ps) in
        let b : length flat' ≡ length (joined ps) = ap length flat_all in
        omega arith;
    part = record {
      few = omega (arith, r.room, r.keyable.sound.few);
      named = λ i h.
          let b : get_or (joined ps) i 0 < length fs =
          panels_inside false fs (get_or (joined ps) i 0) (has_get_d (joined ps) i (subst (λ (l : List ℕ). i < length l) flat_all h)) in
          let e : get_or flat' i 0 ≡ get_or (joined ps) i 0 = ap (λ (l : List ℕ). get_or l i 0) flat_all in
          omega (arith, faces_long, r.room);
    };
  }

  pub labels_done : (out' : List ℕ) → out' ≡ labelled 0 (parts (take count lengths') flat') out → Labelled fs out'
  unfolding panel_of
  labels_done out' w =
      let e : out' ≡ labelled 0 ps out =
      w
      ∙ ap (λ (l : List ℕ). labelled 0 (parts l flat') out) lengths_all
      ∙ ap (λ (l : List ℕ). labelled 0 (parts (map length ps) l) out) flat_all
      ∙ ap (λ (q : List (List ℕ)). labelled 0 q out) (parts_back ps) in
      record {
        long = ap length e ∙ labelled_long ps 0 out ∙ r.room ∙ sym faces_long;
        label = λ x h.
            let once : Rattle.lists.specs.Lists.count (eqb x) (joined ps) ≡ 1 = panels_once false fs x h in
            let a : get_or (labelled 0 ps out) x 0 ≡ 0 + first_at (has x) ps =
            label_at x ps 0 out (omega (arith, faces_long, r.room)) (omega arith) (some_counted (eqb x) (joined ps) (omega arith)) in
            ap (λ (l : List ℕ). get_or l x 0) e ∙ a ∙ zero-add (first_at (has x) ps);
      }

-- ---- the fronts of rows of fixed length
