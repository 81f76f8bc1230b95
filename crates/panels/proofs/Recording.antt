-- The joins that are recorded: one more use, and that the marks of first uses give the joins of the rules. Assumes nothing.
use mathlib.Core.Path.{◌≡◌, refl, sym, ap, ap₂, ◌∙◌, subst}
use mathlib.Core.Logic.{⊎_elim}
use mathlib.Core.Bool.{true, false}
use mathlib.Core.Option.{Option, none, some}
use mathlib.Core.List.{List, [], ◌∷◌, ◌++◌, append-nil, append_assoc, map}
use Prim.Native.Nat.{ℕ, zero, suc, ◌+◌, ◌*◌, ◌≤◌, ◌<◌}
use native.Mathlib.Nat.{not-suc-le-zero, le_of_suc-le-suc, eq-or-lt_of_le}
use native.Mathlib.Numerals.{add-one}
use native.Mathlib.Omega.{arith}
use lib.Dec.{eqb}
use lib.ListN.{length, get_or, take, set, get_or-map}
use lib.Seq.{take-suc, take-length, get_or-take, length-take-le}
use borrow.Author.Tests.{eq-eqb, ne_eqb, eqb-true, eqb-false}
use Rattle.lists.specs.Lists.{each}
use Rattle.lists.specs.Putting.{Written}
use Rattle.lists.proofs.Bools.{by_cases}
use Rattle.lists.proofs.Parts.{each_append}
use Rattle.lists.proofs.Listing.{written_none, written_then, written_as, written_long}
use Rattle.lists.proofs.Buckets.{each_span_snoc, each_span_suc}
use Rattle.keys.specs.Keys.{Key, same_key_lem, Use, no_use, FirstUses}
use Rattle.searching.specs.Search.{Join}
use Rattle.panels.specs.Panels.{first_face, join_of, joins_from}
use Rattle.searching.specs.Joins.{flat_join, flat_joins}
use Rattle.panels.specs.Joins.{join_at, joins_by}

-- ---- one use more

module _ (faces firsts : List ℕ) where
  -- a use that is the first of its key has no join; another has one
  pub join_none : (u : ℕ) → get_or firsts u 0 ≡ u → join_at faces firsts u ≡ []
  unfolding join_at
  join_none u e = rw (eq-eqb (get_or firsts u 0) u e)

  pub join_one : (u : ℕ) → (get_or firsts u 0 ≡ u → ⊥) → join_at faces firsts u ≡ get_or faces u 0 ∷ get_or faces (get_or firsts u 0) 0 ∷ []
  unfolding join_at
  join_one u ne = rw (ne_eqb (get_or firsts u 0) u ne)

  pub join_few : (u : ℕ) → length (join_at faces firsts u) ≤ 2
  join_few u =
      by_cases (eqb (get_or firsts u 0) u)
      (λ t. rw (join_none u (eqb-true (get_or firsts u 0) u t)) (omega arith))
      (λ t. rw (join_one u (eqb-false (get_or firsts u 0) u t)) (omega arith))

  pub wrote_none : (u : ℕ) (out : List ℕ) (m f : ℕ) → f ≡ get_or firsts u 0 → f ≡ u → Written (join_at faces firsts u) out out m m
  wrote_none u out m f e h =
      written_as (join_none u (sym e ∙ h)) (written_none out m)

  pub wrote_one :
      (u : ℕ) (out : List ℕ) (m f : ℕ) → f ≡ get_or firsts u 0 → (f ≡ u → ⊥)
      → Written (join_at faces firsts u) out (set (set out m (get_or faces u 0)) (m + 1) (get_or faces f 0)) m (m + 2)
  wrote_one u out m f e ne =
      written_as (join_one u (λ h. ne (e ∙ h)))
      (record {
        is = ap₂ (λ (i g : ℕ). set (set out m (get_or faces u 0)) i (get_or faces g 0)) (add-one m) e;
        next_is = refl;
      })

  -- the joins of the first u uses are written
  pub record Recording (out₀ out : List ℕ) (m u : ℕ) : Type 0 where
    pub within : u ≤ length firsts
    pub put : Written (joins_by faces firsts u) out₀ out 0 m
    pub few : m ≤ 2 * u
    pub long : length out ≡ length out₀

  pub record_begins : (out : List ℕ) → Recording out out 0 0
  unfolding joins_by
  record_begins out = record { within = omega arith; put = written_none out 0; few = omega arith; long = refl }

  pub record_turns :
      (out₀ out out' : List ℕ) (m m' u : ℕ) → u < length firsts → Written (join_at faces firsts u) out out' m m'
      → Recording out₀ out m u → Recording out₀ out' m' (u + 1)
  unfolding joins_by
  record_turns out₀ out out' m m' u h w r =
      let e : joins_by faces firsts (u + 1) ≡ joins_by faces firsts u ++ join_at faces firsts u = each_span_snoc (join_at faces firsts) u in
      record {
        within = omega arith;
        put = written_as e (written_then (joins_by faces firsts u) (join_at faces firsts u) out₀ out out' 0 m m' r.put w);
        few = omega (arith, w.next_is, r.few, join_few u);
        long = written_long (join_at faces firsts u) out out' m m' w ∙ r.long;
      }

  pub record_ends : (out₀ out : List ℕ) (m u : ℕ) → length firsts ≤ u → Recording out₀ out m u → Written (joins_by faces firsts (length firsts)) out₀ out 0 m
  record_ends out₀ out m u h r =
      subst (λ (k : ℕ). Written (joins_by faces firsts k) out₀ out 0 m) (let e : u ≡ length firsts = omega (arith, r.within) in e) r.put

-- ---- the marks of first uses give the joins of the rules

-- one more use of the rules' joins
join_append : (i : ℕ) (o : Option ℕ) (l t : List Join) → join_of i o (l ++ t) ≡ join_of i o l ++ t
join_append i none l t = refl
join_append i (some j) l t = refl

joins_snoc : (seen us : List Use) (u : Use) → joins_from seen (us ++ (u ∷ [])) ≡ joins_from seen us ++ join_of u.0 (first_face u.1 (seen ++ us)) []
joins_snoc seen [] u = ap (λ (l : List Use). join_of u.0 (first_face u.1 l) []) (sym (append-nil seen))
joins_snoc seen (v ∷ us) u =
    ap (join_of v.0 (first_face v.1 seen)) (joins_snoc (seen ++ (v ∷ [])) us u)
    ∙ join_append v.0 (first_face v.1 seen) (joins_from (seen ++ (v ∷ [])) us) (join_of u.0 (first_face u.1 ((seen ++ (v ∷ [])) ++ us)) [])
    ∙ ap (λ (l : List Use). join_of v.0 (first_face v.1 seen) (joins_from (seen ++ (v ∷ [])) us) ++ join_of u.0 (first_face u.1 l) []) (append_assoc seen (v ∷ []) us)

-- the first face that had a key, by where it is
first_none : (k : Key) (us : List Use) → ((y : ℕ) → y < length us → same_key_lem k (get_or us y no_use).1 ≡ false) → first_face k us ≡ none
first_none k [] f = refl
first_none k (u ∷ us) f = rw (f 0 (omega arith)) (first_none k us (λ y h. f (suc y) (omega arith)))

first_some :
    (k : Key) (us : List Use) (j : ℕ) → j < length us → same_key_lem k (get_or us j no_use).1 ≡ true
    → ((y : ℕ) → y < j → same_key_lem k (get_or us y no_use).1 ≡ false)
    → first_face k us ≡ some (get_or us j no_use).0
first_some k [] j l s f = absurd (not-suc-le-zero l)
first_some k (u ∷ us) zero l s f = rw s
first_some k (u ∷ us) (suc j) l s f = rw (f 0 (omega arith)) (first_some k us j (le_of_suc-le-suc l) s (λ y h. f (suc y) (omega arith)))

module _ (us : List Use) (firsts : List ℕ) (mk : FirstUses us firsts) where
  abbrev faces : List ℕ
  faces = map (λ (u : Use). u.0) us

  face_at : (x : ℕ) → get_or (map (λ (u : Use). u.0) us) x 0 ≡ (get_or us x no_use).0
  face_at x = get_or-map (λ (u : Use). u.0) us x no_use

  none_before : (u y : ℕ) → u < length us → y < get_or firsts u 0 → same_key_lem (get_or us u no_use).1 (get_or us y no_use).1 ≡ false
  none_before u y h l = (mk.first u h).none y l

  front_at : (u y : ℕ) → y < u → get_or (take u us) y no_use ≡ get_or us y no_use
  front_at u y h = get_or-take u us y no_use h

  -- one use: its join, by the mark and by the rule
  join_is : (u : ℕ) → u < length us → join_at faces firsts u ≡ flat_joins (join_of (get_or us u no_use).0 (first_face (get_or us u no_use).1 (take u us)) [])
  unfolding flat_joins
  join_is u h =
      let l : length (take u us) ≡ u = length-take-le u us (omega arith) in
      let f : get_or firsts u 0 ≤ u = (mk.first u h).upto in
      ⊎_elim
      (λ e.
      join_none faces firsts u e
      ∙ sym (ap (λ (o : Option ℕ). each flat_join (join_of (get_or us u no_use).0 o []))
      (first_none (get_or us u no_use).1 (take u us)
      (λ y i. ap (λ (v : Use). same_key_lem (get_or us u no_use).1 v.1) (front_at u y (omega arith)) ∙ none_before u y h (omega arith)))))
      (λ i.
      join_one faces firsts u (omega arith)
      ∙ ap₂ (λ (a b : ℕ). a ∷ b ∷ []) (face_at u) (face_at (get_or firsts u 0))
      ∙ ap (λ (v : Use). (get_or us u no_use).0 ∷ v.0 ∷ []) (sym (front_at u (get_or firsts u 0) i))
      ∙ sym (ap (λ (o : Option ℕ). each flat_join (join_of (get_or us u no_use).0 o []))
      (first_some (get_or us u no_use).1 (take u us) (get_or firsts u 0) (omega arith)
      (ap (λ (v : Use). same_key_lem (get_or us u no_use).1 v.1) (front_at u (get_or firsts u 0) i) ∙ (mk.first u h).same)
      (λ y k. ap (λ (v : Use). same_key_lem (get_or us u no_use).1 v.1) (front_at u y (omega arith)) ∙ none_before u y h k))))
      (eq-or-lt_of_le f)

  joins_upto : (u : ℕ) → u ≤ length us → joins_by faces firsts u ≡ flat_joins (joins_from [] (take u us))
  unfolding joins_by flat_joins
  joins_upto zero h = refl
  joins_upto (suc u) h =
      each_span_suc (join_at faces firsts) u
      ∙ ap₂ ◌++◌ (joins_upto u (omega arith)) (join_is u h)
      ∙ sym (each_append flat_join (joins_from [] (take u us)) (join_of (get_or us u no_use).0 (first_face (get_or us u no_use).1 (take u us)) []))
      ∙ ap (each flat_join) (sym (joins_snoc [] (take u us) (get_or us u no_use)))
      ∙ ap (λ (l : List Use). each flat_join (joins_from [] l)) (sym (take-suc us u no_use h))

  pub joins_are : joins_by faces firsts (length us) ≡ flat_joins (joins_from [] us)
  joins_are = joins_upto (length us) (omega arith) ∙ ap (λ (l : List Use). flat_joins (joins_from [] l)) (take-length us)
