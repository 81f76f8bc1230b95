-- Each panel begins with its lowest face, and panels ascend by it: a search starts at the lowest face that no panel has, keeps it in
-- front, and finds no face below it, since those stand in panels before. Assumes nothing.
use mathlib.Core.Path.{◌≡◌, refl, sym, ap, subst}
use mathlib.Core.Bool.{Bool, true, false, cond, ◌||◌}
use mathlib.Core.List.{List, [], ◌∷◌, ◌++◌}
use Prim.Native.Nat.{ℕ, zero, suc, ◌+◌, ◌≤◌, ◌<◌}
use native.Mathlib.Omega.{arith}
use lib.Dec.{eqb, ltb}
use lib.ListN.{length}
use borrow.Author.Tests.{ltb-true, ltb-false, eqb-false}
use Rattle.lists.specs.Lists.{bump, count, has, joined}
use Rattle.lists.proofs.Bools.{by_cases}
use Rattle.lists.proofs.Counting.{clash, count_some}
use Rattle.lists.proofs.Classes.{Ended, Parted, parted_none, parted_same, parted_more}
use Rattle.lists.proofs.Members.{In, in_tail, Once}
use Rattle.searching.specs.Search.{Join, Search, neighbours, look, search_from, panels_from}
use Rattle.panels.specs.Panels.{joins, panels}
use Rattle.panels.specs.Promises.{Ascend, ended, begins, LowestFirst}
use Rattle.searching.proofs.Looking.{Beside, beside_sym, searched}
use Rattle.panels.proofs.Sharing.{beside_below}

-- ---- what is listed first stays first

-- a list that begins with a
abbrev Heads : ℕ → List ℕ → Type 0
Heads a l = (rest : List ℕ) × (l ≡ a ∷ rest)

look_first : (old l : List ℕ) (s : Search) (a : ℕ) → Heads a s.1 → Heads a (look old l s).1
look_first old [] s a h = h
look_first old (x ∷ l) s a h =
    look_first old l (cond (has x old || has x s.1) s (x ∷ s.0, s.1 ++ (x ∷ []))) a (go (has x old || has x s.1))
  where
    go : (b : Bool) → Heads a (cond b s (x ∷ s.0, s.1 ++ (x ∷ []))).1
    go true = h
    go false = (h.0 ++ (x ∷ []), ap (λ (m : List ℕ). m ++ (x ∷ [])) h.1)

search_first : (n : ℕ) (js : List Join) (old stack seen : List ℕ) (a : ℕ) → Heads a seen → Heads a (search_from n js old stack seen)
unfolding search_from
search_first zero js old stack seen a h = h
search_first (suc n) js old [] seen a h = h
search_first (suc n) js old (x ∷ stack) seen a h =
    search_first n js old (look old (neighbours x js) (stack, seen)).0 (look old (neighbours x js) (stack, seen)).1 a
    (look_first old (neighbours x js) (stack, seen) a h)

-- ---- panels ascend

-- room above
ascend_more : {i k : ℕ} {ps : List (List ℕ)} → Ascend i k ps → Ascend i (suc k) ps
ascend_more {i} {k} (ended l) = ended {i = i} {k = suc k} (omega arith)
ascend_more (begins f rest l low a) = begins f rest l low (ascend_more a)

-- the next panel begins at k
ascend_snoc :
    {i k : ℕ} {ps : List (List ℕ)} (rest : List ℕ) → Ascend i k ps → ((x : ℕ) → has x rest ≡ true → k < x)
    → Ascend i (suc k) (ps ++ ((k ∷ rest) ∷ []))
ascend_snoc {k = k} rest (ended l) low = begins k rest l low (ended {i = suc k} {k = suc k} (omega arith))
ascend_snoc rest (begins f r l w a) low = begins f r l w (ascend_snoc rest a low)

-- of a list that begins with i, where nothing stands twice and nothing lies below i, the rest lies above it
rest_above : (i : ℕ) (rest : List ℕ) → Once (i ∷ rest) → ((x : ℕ) → In x (i ∷ rest) → i ≤ x) → (x : ℕ) → In x rest → i < x
rest_above i rest o low x h =
    by_cases (eqb x i)
    (λ p.
    absurd
    (let c : 0 < count (eqb x) rest = count_some (eqb x) rest h in
    let d : bump (eqb x i) (count (eqb x) rest) ≤ 1 = o x in
    let e : bump (eqb x i) (count (eqb x) rest) ≡ suc (count (eqb x) rest) = ap (λ (b : Bool). bump b (count (eqb x) rest)) p in
    omega arith))
    (λ p. let n : x ≡ i → ⊥ = eqb-false x i p in let l : i ≤ x = low x (in_tail x i rest h) in omega arith)

module _ (js : List Join) (m : ℕ) (bound : (x y : ℕ) → Beside js x y → y < m) where
  ascend_from :
      (d i : ℕ) (ps : List (List ℕ)) → i + d ≡ m → Parted (Beside js) m i ps → Ascend 0 i ps → Ascend 0 m (panels_from d i m js ps)
  unfolding panels_from
  ascend_from zero i ps e r a = subst (λ k. Ascend 0 k ps) (omega arith) a
  ascend_from (suc d) i ps e r a =
      go
      (has i (joined ps))
      refl
      (ascend_from d (suc i) ps (omega arith))
      (ascend_from d (suc i) (ps ++ (p ∷ [])) (omega arith))
    where
      p : List ℕ
      p = search_from m js (joined ps) (i ∷ []) (i ∷ [])

      new : has i (joined ps) ≡ false → Ended (Beside js) (joined ps) i p
      new h = searched js m bound (joined ps) i h (omega arith)

      first : Heads i p
      first = search_first m js (joined ps) (i ∷ []) (i ∷ []) i ([], refl)

      -- what lies below i stands in panels before
      low : has i (joined ps) ≡ false → (x : ℕ) → In x p → i ≤ x
      low h x q = by_cases (ltb x i) (λ t. clash (r.placed x (ltb-true x i t)) ((new h).fresh x q)) (λ t. ltb-false x i t)

      above : has i (joined ps) ≡ false → (x : ℕ) → In x first.0 → i < x
      above h =
          rest_above i first.0 (subst Once first.1 (new h).once)
          (subst (λ (l : List ℕ). (x : ℕ) → In x l → i ≤ x) first.1 (low h))

      go :
          (b : Bool) → has i (joined ps) ≡ b
          → (Parted (Beside js) m (suc i) ps → Ascend 0 (suc i) ps → Ascend 0 m (panels_from d (suc i) m js ps))
          → (Parted (Beside js) m (suc i) (ps ++ (p ∷ [])) → Ascend 0 (suc i) (ps ++ (p ∷ [])) → Ascend 0 m (panels_from d (suc i) m js (ps ++ (p ∷ []))))
          → Ascend 0 m (elim b [ true ↦ panels_from d (suc i) m js ps | false ↦ panels_from d (suc i) m js (ps ++ (p ∷ [])) ])
      go true h k q = k (parted_same (Beside js) m i ps r h) (ascend_more a)
      go false h k q =
          q
          (parted_more (Beside js) m (beside_sym js) bound i ps (omega arith) r p (new h))
          (subst (λ (l : List ℕ). Ascend 0 (suc i) (ps ++ (l ∷ []))) (sym first.1) (ascend_snoc first.0 a (above h)))

pub lowest_first : LowestFirst
unfolding panels
lowest_first normals fs =
    ascend_from (joins normals fs) (length fs) (beside_below normals fs) (length fs) 0 [] (omega arith)
    (parted_none (Beside (joins normals fs)) (length fs)) (ended {i = 0} {k = 0} (omega arith))
