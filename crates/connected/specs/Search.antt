-- The panels that joins between faces make, listed as document 01 has them. Assumes nothing.
use Rattle.std.specs.Prelude.{true, false, cond, ◌||◌, List, [], ◌∷◌, ◌++◌, ℕ, zero, suc, eqb}
use Rattle.lists.specs.Lists.{has, joined, keep_if}

-- a join of two faces: that of a later use of a key, and the first face that had the key
abbrev pub Join : Type 0
Join = ℕ × ℕ

-- the neighbours of a face, in the order they were recorded
abbrev pub neighbours : ℕ → List Join → List ℕ
neighbours f [] = []
neighbours f (j ∷ js) = keep_if (eqb f j.0) j.1 (keep_if (eqb f j.1) j.0 (neighbours f js))

-- a stack, its top first, and the faces listed, in the order they were
abbrev pub Search : Type 0
Search = List ℕ × List ℕ

-- go through neighbours: one that is in no panel before and is not listed yet is listed and pushed when first seen
abbrev pub look : List ℕ → List ℕ → Search → Search
look old [] s = s
look old (x ∷ l) s = look old l (cond (has x old || has x s.1) s (x ∷ s.0, s.1 ++ (x ∷ [])))

-- pop from the stack, go through the neighbours, until it is empty. The first argument bounds the pops: the number of faces is
-- enough.
unfoldable pub search_from : ℕ → List Join → List ℕ → List ℕ → List ℕ → List ℕ
search_from zero js old stack seen = seen
search_from (suc n) js old [] seen = seen
search_from (suc n) js old (x ∷ stack) seen =
    let s : Search = look old (neighbours x js) (stack, seen) in search_from n js old s.0 s.1

-- start at the lowest face left: the panels of the faces from i on, d of them, beside those that stand
unfoldable pub panels_from : ℕ → ℕ → ℕ → List Join → List (List ℕ) → List (List ℕ)
panels_from zero i n js ps = ps
panels_from (suc d) i n js ps =
    elim (has i (joined ps)) [
      | true ↦ panels_from d (suc i) n js ps
      | false ↦ panels_from d (suc i) n js (ps ++ (search_from n js (joined ps) (i ∷ []) (i ∷ []) ∷ []))
    ]
