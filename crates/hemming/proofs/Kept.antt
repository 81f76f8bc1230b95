-- The hem places while they are kept: those of the first i places of the order stand in front, with their starts. Assumes nothing.
use mathlib.Core.Path.{◌≡◌, refl, sym, ap, ap₂, ◌∙◌, subst}
use mathlib.Core.Bool.{Bool}
use mathlib.Core.List.{List, [], ◌∷◌, ◌++◌}
use Prim.Native.Nat.{ℕ, ◌+◌, ◌*◌, ◌≤◌, ◌<◌}
use native.Mathlib.Nat.{add-zero}
use native.Mathlib.Omega.{arith}
use lib.ListN.{length, get_or, set, take, length-append}
use lib.Seq.{sets, length-sets, length-take-le}
use borrow.Author.Tests.{eq-eqb, ne_eqb}
use Rattle.lists.specs.Lists.{keep_if, only}
use Rattle.lists.proofs.Only.{only_step, only_length}
use Rattle.lists.proofs.Writing.{sets_append}
use Rattle.mesh.specs.Limits.{width}
use Rattle.crossing.specs.Crossing.{alone}
use Rattle.hemming.specs.Rows.{hem_places, started, KeepRoom, KeepAt, Kept}
use Rattle.hemming.proofs.Started.{length_started, started_append}

-- ---- one place

module _ (cs twins : List ℕ) (u : ℕ) (starts kept : List ℕ) (m : ℕ) where
  none : Kept cs [] starts kept m starts kept m
  unfolding started
  none = record { count_is = sym (add-zero m); places_are = refl; starts_are = refl }

  one : Kept cs (u ∷ []) starts kept m (set starts u (get_or cs (width * u) 0)) (set kept m u) (m + 1)
  unfolding started
  one = record { count_is = refl; places_are = refl; starts_are = refl }

  -- v is u, read as a place
  pub keep_none : (v : ℕ) → v ≡ u → (get_or twins v 0 ≡ u → ⊥) → Kept cs (hem_places twins (u ∷ [])) starts kept m starts kept m
  unfolding hem_places
  keep_none v z n =
      subst (λ (b : Bool). Kept cs (keep_if b u []) starts kept m starts kept m)
      (sym (ne_eqb (get_or twins u 0) u (λ e. n (ap (λ (x : ℕ). get_or twins x 0) z ∙ e)))) none

  pub keep_one :
      (v : ℕ) → v ≡ u → get_or twins v 0 ≡ u
      → Kept cs (hem_places twins (u ∷ [])) starts kept m (set starts v (get_or cs (width * v) 0)) (set kept m u) (m + 1)
  unfolding hem_places
  keep_one v z e =
      subst (λ (x : ℕ). Kept cs (keep_if (alone twins u) u []) starts kept m (set starts x (get_or cs (width * x) 0)) (set kept m u) (m + 1)) (sym z)
      (subst (λ (b : Bool). Kept cs (keep_if b u []) starts kept m (set starts u (get_or cs (width * u) 0)) (set kept m u) (m + 1))
      (sym (eq-eqb (get_or twins u 0) u (ap (λ (x : ℕ). get_or twins x 0) (sym z) ∙ e))) one)

-- ---- the loop

-- places behind places
kept_joins :
    {cs a b starts kept starts' kept' starts'' kept'' : List ℕ} {m r q : ℕ} → Kept cs a starts kept m starts' kept' r → Kept cs b starts' kept' r starts'' kept'' q
    → Kept cs (a ++ b) starts kept m starts'' kept'' q
kept_joins {cs} {a} {b} {starts} {kept} {starts'} {kept'} {starts''} {kept''} {m} {r} {q} x y = record {
  count_is = let n : length (a ++ b) ≡ length a + length b = length-append a b in omega (arith, x.count_is, y.count_is);
  places_are = y.places_are ∙ ap₂ (λ (l : List ℕ) (k : ℕ). sets l k b) x.places_are x.count_is ∙ sym (sets_append kept m a b);
  starts_are = y.starts_are ∙ ap (started cs b) x.starts_are ∙ sym (started_append cs a b starts);
}

pub record Keeping (cs twins order starts₀ kept₀ starts kept : List ℕ) (m i : ℕ) : Type 0 where
  pub within : i ≤ length order
  pub kept_are : Kept cs (hem_places twins (take i order)) starts₀ kept₀ 0 starts kept m

module _ {cs twins order starts₀ kept₀ : List ℕ} where
  pub keep_begins : Keeping cs twins order starts₀ kept₀ starts₀ kept₀ 0 0
  unfolding hem_places started
  keep_begins = record { within = omega arith; kept_are = record { count_is = refl; places_are = refl; starts_are = refl } }

  module _ {starts kept : List ℕ} {m i : ℕ} (k : Keeping cs twins order starts₀ kept₀ starts kept m i) where
    pub keep_starts_long : length starts ≡ length starts₀
    keep_starts_long = ap length k.kept_are.starts_are ∙ length_started cs (hem_places twins (take i order)) starts₀

    pub keep_long : length kept ≡ length kept₀
    keep_long = ap length k.kept_are.places_are ∙ length-sets kept₀ 0 (hem_places twins (take i order))

    keep_few : m ≤ i
    unfolding hem_places
    keep_few =
        let a : length (only (alone twins) (take i order)) ≤ length (take i order) = only_length (alone twins) (take i order) in
        let b : length (take i order) ≡ i = length-take-le i order k.within in
        omega (arith, k.kept_are.count_is)

    module _ (p : KeepRoom cs twins order starts₀ kept₀) (h : i < length order) where
      pub keep_ready : KeepAt cs twins (get_or order i 0) starts kept m
      keep_ready = record {
        cornered = p.cornered;
        startable = keep_starts_long ∙ p.startable;
        known = p.known i h;
        room = omega (arith, keep_few, keep_long, p.room);
      }

      pub keep_turns :
          {starts' kept' : List ℕ} {r : ℕ} → Kept cs (hem_places twins (get_or order i 0 ∷ [])) starts kept m starts' kept' r
          → Keeping cs twins order starts₀ kept₀ starts' kept' r (i + 1)
      unfolding hem_places
      keep_turns {starts'} {kept'} {r} w = record {
        within = omega arith;
        kept_are =
            subst (λ (l : List ℕ). Kept cs l starts₀ kept₀ 0 starts' kept' r) (sym (only_step (alone twins) 0 order i h)) (kept_joins k.kept_are w);
      }
