-- The reading, record by record: what is left to be read of the file is what the whole reading gives. Assumes nothing.
use mathlib.Core.Path.{◌≡◌, refl, sym, ap, ◌∙◌}
use mathlib.Core.Bool.{Bool, true, false, not, ◌&&◌}
use mathlib.Core.List.{List}
use Prim.Native.Nat.{ℕ, zero, suc, ◌+◌, ◌-◌, ◌<◌}
use native.Mathlib.Omega.{arith}
use lib.ListN.{length}
use lib.Dec.{eqb}
use borrow.Author.Tests.{eqb-true, not-true, eq-eqb, ne_eqb}
use Rattle.lists.proofs.Bools.{and_left, and_right, and_both}
use Rattle.mesh.specs.Mesh.{Mesh}
use Rattle.records.specs.Records.{record_from}
use Rattle.steps.specs.declared.Progress.{Progress}
use Rattle.reading.specs.Reading.{Reader, reader, nothing, take_record, going, read_from, read_all}
use Rattle.steps.specs.Working.{Within, Long, Holds, Stepped}
use Rattle.drawing.specs.Working.{Drawing}
use Rattle.reading.proofs.Sane.{read_on, read_off}

abbrev pub going_on : Progress → Bool
going_on x = not x.ended && eqb x.number 0

pub record Underway (file : List ℕ) (x : Progress) (l : Mesh) : Type 0 where
  pub within : Within (length file) x
  pub long : Long l
  pub fuel : ℕ
  pub now' : Reader
  pub enough : going_on x ≡ true → length file < x.at + fuel
  pub whole : read_all file ≡ read_from fuel file now'
  pub holds : Holds now' x l

-- what falls: the bytes that are left, while the reading goes on
abbrev pub left_at : Bool → ℕ → ℕ → ℕ
left_at true size at = suc (size - at)
left_at false size at = 0

abbrev pub left : ℕ → Progress → ℕ
left size x = left_at (going_on x) size x.at

abbrev start : Progress
start = record { at = 0; number = 0; ended = false; positions = 0; textures = 0; normals = 0; corners = 0; faces = 0 }

pub reading_begins : (file : List ℕ) (l : Mesh) → Long l → Underway file start l
unfolding read_all
reading_begins file l long = record {
  within = record {
    positions = omega arith;
    textures = omega arith;
    normals = omega arith;
    corners = omega arith;
    faces = omega arith;
    place = omega arith;
  };
  long = long;
  fuel = suc (length file);
  now' = reader 0 0 false nothing;
  enough = λ e. omega arith;
  whole = refl;
  holds = record {
    place = refl;
    refusal = refl;
    end = refl;
    positions = refl;
    textures = refl;
    normals = refl;
    corners = refl;
    sizes = refl;
    counted = refl;
  };
}

-- a reading that goes on has met neither a refusal nor the end
pub unrefused : (x : Progress) → going_on x ≡ true → x.number ≡ 0
unrefused x e = eqb-true x.number 0 (and_right (not x.ended) (eqb x.number 0) e)

pub unended : (x : Progress) → going_on x ≡ true → x.ended ≡ false
unended x e = not-true x.ended (and_left (not x.ended) (eqb x.number 0) e)

goes_on : (x : Progress) → not x.ended ≡ true → x.number ≡ 0 → going_on x ≡ true
goes_on x e f = and_both (not x.ended) (eqb x.number 0) e (eq-eqb x.number 0 f)

pub is_ended : (x : Progress) → not x.ended ≡ false → going_on x ≡ false
is_ended x e = ap (λ (b : Bool). b && eqb x.number 0) e

pub is_refused : (x : Progress) → not x.ended ≡ true → (x.number ≡ 0 → ⊥) → going_on x ≡ false
is_refused x e f = ap (λ (b : Bool). b && eqb x.number 0) e ∙ ne_eqb x.number 0 f

same_going : (z : Reader) (x : Progress) (l : Mesh) → Holds z x l → going z ≡ going_on x
same_going z x l h =
    ap (λ (b : Bool). not b && eqb z.number 0) (sym h.end) ∙ ap (λ (k : ℕ). not x.ended && eqb k 0) (sym h.refusal)

-- there is a record more to be read
one_more :
    (f : ℕ) (file : List ℕ) (z : Reader) → 0 < f → going z ≡ true
    → (g : ℕ) × (f ≡ suc g) × (read_from f file z ≡ read_from g file (take_record file z (record_from file z.at)))
one_more zero file z h e = absurd (let k : 0 < 0 = h in omega arith)
one_more (suc g) file z h e = (g, refl, read_on g file z e)

pub reading_turns :
    (file : List ℕ) (x y : Progress) (l l' : Mesh) → not x.ended ≡ true → x.number ≡ 0
    → Underway file x l → Stepped file (record_from file x.at) x y l l' → Long l' → Underway file y l'
reading_turns file x y l l' a b u st long =
    let z = u.now' in
    let e : going_on x ≡ true = goes_on x a b in
    let m = one_more u.fuel file z (omega (arith, u.enough e, u.within.place)) (same_going z x l u.holds ∙ e) in
    let k : Holds (take_record file z (record_from file x.at)) y l' = st.taken z u.holds in
    record {
      within = st.within;
      long = long;
      fuel = m.0;
      now' = take_record file z (record_from file z.at);
      enough = λ o. omega (arith, u.enough e, m.1, st.moved (unrefused y o) (unended y o));
      whole = u.whole ∙ m.2;
      holds = rw u.holds.place at k;
    }

pub reading_ends : (file : List ℕ) (x : Progress) (l : Mesh) → going_on x ≡ false → Underway file x l → Drawing file x l
reading_ends file x l e u =
    let z = u.now' in
    let o : going z ≡ false = same_going z x l u.holds ∙ e in
    record { within = u.within; long = u.long; holds = rw (u.whole ∙ read_off u.fuel file z o) u.holds }
