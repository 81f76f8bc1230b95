-- The panels are the connected sets of faces, as lists of numbers that `Classes` has of any relation; and there are no more panels than
-- faces. Assumes nothing.
use mathlib.Core.Path.{◌≡◌, refl, subst}
use mathlib.Core.Bool.{Bool, true, false}
use mathlib.Core.List.{List, [], ◌∷◌, ◌++◌}
use Prim.Native.Nat.{ℕ, zero, suc, ◌+◌, ◌≤◌, ◌<◌}
use native.Mathlib.Omega.{arith}
use lib.ListN.{length, length-append}
use Rattle.lists.specs.Lists.{has, joined}
use Rattle.lists.proofs.Classes.{Parted, parted_none, parted_same, parted_more}
use Rattle.connected.specs.Search.{Join, search_from, panels_from}
use Rattle.connected.proofs.Looking.{Beside, beside_sym, searched}

-- ---- the panels of the faces below i, and then of all

module _ (js : List Join) (m : ℕ) (bound : (x y : ℕ) → Beside js x y → y < m) where
  parted_from : (d i : ℕ) (ps : List (List ℕ)) → i + d ≡ m → Parted (Beside js) m i ps → Parted (Beside js) m m (panels_from d i m js ps)
  unfolding panels_from
  parted_from zero i ps e r = subst (λ k. Parted (Beside js) m k ps) (omega arith) r
  parted_from (suc d) i ps e r =
      go
      (has i (joined ps))
      refl
      (parted_from d (suc i) ps (omega arith))
      (parted_from d (suc i) (ps ++ (search_from m js (joined ps) (i ∷ []) (i ∷ []) ∷ [])) (omega arith))
    where
      p : List ℕ
      p = search_from m js (joined ps) (i ∷ []) (i ∷ [])

      go :
          (b : Bool) → has i (joined ps) ≡ b
          → (Parted (Beside js) m (suc i) ps → Parted (Beside js) m m (panels_from d (suc i) m js ps))
          → (Parted (Beside js) m (suc i) (ps ++ (p ∷ [])) → Parted (Beside js) m m (panels_from d (suc i) m js (ps ++ (p ∷ []))))
          → Parted (Beside js) m m (elim b [ true ↦ panels_from d (suc i) m js ps | false ↦ panels_from d (suc i) m js (ps ++ (p ∷ [])) ])
      go true h k q = k (parted_same (Beside js) m i ps r h)
      go false h k q =
          q
          (parted_more
          (Beside js)
          m
          (beside_sym js)
          bound
          i
          ps
          (omega arith)
          r
          p
          (searched js m bound (joined ps) i h (omega arith)))

  pub parted : Parted (Beside js) m m (panels_from m 0 m js [])
  parted = parted_from m 0 [] (omega arith) (parted_none (Beside js) m)

-- ---- at most one panel for each face looked at

pub panels_few : (d i n : ℕ) (js : List Join) (ps : List (List ℕ)) → length (panels_from d i n js ps) ≤ length ps + d
unfolding panels_from
panels_few zero i n js ps = omega arith
panels_few (suc d) i n js ps =
    go
    (has i (joined ps))
    (panels_few d (suc i) n js ps)
    (panels_few d (suc i) n js (ps ++ (search_from n js (joined ps) (i ∷ []) (i ∷ []) ∷ [])))
  where
    p : List ℕ
    p = search_from n js (joined ps) (i ∷ []) (i ∷ [])

    go :
        (b : Bool)
        → length (panels_from d (suc i) n js ps) ≤ length ps + d
        → length (panels_from d (suc i) n js (ps ++ (p ∷ []))) ≤ length (ps ++ (p ∷ [])) + d
        → length {A = List ℕ} (elim b [ true ↦ panels_from d (suc i) n js ps | false ↦ panels_from d (suc i) n js (ps ++ (p ∷ [])) ])
        ≤ length ps + suc d
    go true k q = omega arith
    go false k q = let e : length (ps ++ (p ∷ [])) ≡ length ps + 1 = length-append ps (p ∷ []) in omega arith
