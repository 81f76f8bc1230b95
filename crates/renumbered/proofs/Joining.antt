-- How faces are joined goes by which edges have the same key, and by nothing else of the keys. Assumes nothing.
use mathlib.Core.Path.{◌≡◌, refl, sym, ap, ap₂, ◌∙◌}
use mathlib.Core.Bool.{Bool, true, cond}
use mathlib.Core.Option.{Option}
use mathlib.Core.List.{List, [], ◌∷◌, ◌++◌, map, map-append}
use Prim.Native.Nat.{ℕ}
use Rattle.lists.specs.Lists.{every}
use Rattle.lists.proofs.Bools.{and_left, and_right, and_both}
use Rattle.lists.proofs.Parts.{every_append}
use Rattle.keys.specs.Keys.{Key, same_key_lem, Use}
use Rattle.panels.specs.Panels.{first_face, join_of, joins_from}

-- an edge of a face, by the face's number, with a key for it
abbrev pub keyed : {E : Type 0} → (E → Key) → ℕ × E → Use
keyed k u = (u.0, k u.1)

-- ---- two ways to give keys that agree on which are the same

module _ {E : Type 0} (k k' : E → Key) (p : E → Bool) (agree : (d e : E) → p d ≡ true → p e ≡ true → same_key_lem (k d) (k e) ≡ same_key_lem (k' d) (k' e)) where
  abbrev passes : ℕ × E → Bool
  passes u = p u.1

  first_agrees : (d : E) (us : List (ℕ × E)) → p d ≡ true → every passes us ≡ true → first_face (k d) (map (keyed k) us) ≡ first_face (k' d) (map (keyed k') us)
  first_agrees d [] h g = refl
  first_agrees d (u ∷ us) h g =
      ap₂ (λ (b : Bool) (o : Option ℕ). cond b (Option.some u.0) o)
      (agree d u.1 h (and_left (passes u) (every passes us) g))
      (first_agrees d us h (and_right (passes u) (every passes us) g))

  pub joins_agree : (seen us : List (ℕ × E)) → every passes seen ≡ true → every passes us ≡ true
      → joins_from (map (keyed k) seen) (map (keyed k) us) ≡ joins_from (map (keyed k') seen) (map (keyed k') us)
  joins_agree seen [] g h = refl
  joins_agree seen (u ∷ us) g h =
      let a = and_left (passes u) (every passes us) h in
      let b = and_right (passes u) (every passes us) h in
      ap₂ (join_of u.0)
      (first_agrees u.1 seen a g)
      (ap (λ (l : List Use). joins_from l (map (keyed k) us)) (sym (map-append (keyed k) seen (u ∷ [])))
      ∙ joins_agree (seen ++ (u ∷ [])) us (every_append passes seen (u ∷ []) ∙ and_both (every passes seen) (every passes (u ∷ [])) g (and_both (passes u) true a refl)) b
      ∙ ap (λ (l : List Use). joins_from l (map (keyed k') us)) (map-append (keyed k') seen (u ∷ [])))

-- the edges of one face, with its number
pub numbered_passes : {E : Type 0} (p : E → Bool) (i : ℕ) (l : List E) → every p l ≡ true → every (λ (u : ℕ × E). p u.1) (map (λ e. (i, e)) l) ≡ true
numbered_passes {E} p i [] h = refl
numbered_passes {E} p i (e ∷ l) h =
    and_both (p e) (every (λ (u : ℕ × E). p u.1) (map (λ (x : E). (i, x)) l)) (and_left (p e) (every p l) h) (numbered_passes p i l (and_right (p e) (every p l) h))
