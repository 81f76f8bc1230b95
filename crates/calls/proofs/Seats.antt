-- As many panels: where faces that stand apart in the one list of panels stand apart in the other, the other has no fewer. Each panel
-- of the one goes to the panel of the other that has its first face, and no two go to the same. Assumes nothing.
use mathlib.Core.Path.{◌≡◌, refl, sym, ap₂, ◌∙◌}
use mathlib.Core.Logic.{⊎_elim}
use mathlib.Core.Bool.{Bool, true, false, cond, ◌&&◌, ◌||◌}
use mathlib.Core.List.{List, [], ◌∷◌, ◌++◌, map}
use Prim.Native.Nat.{ℕ, zero, suc, ◌+◌, ◌≤◌, ◌<◌}
use native.Mathlib.Omega.{arith}
use lib.Dec.{eqb}
use lib.ListN.{length, get_or, length-append, length-map}
use borrow.Author.Tests.{ne_eqb}
use Rattle.lists.specs.Lists.{count, has, joined, together}
use Rattle.lists.proofs.Bools.{by_cases, or_neither}
use Rattle.lists.proofs.Cases.{and_parts}
use Rattle.lists.proofs.Counting.{clash, or_either, count_none, some_counted}
use Rattle.lists.proofs.Members.{In, in_cases, in_head, in_tail, in_left, in_right, in_append, Once, once_apart, once_rear, once_cons, free, once_free}
use Rattle.mesh.specs.Mesh.{Ring}
use Rattle.searching.specs.Search.{Join, Search, neighbours, look, search_from, panels_from}
use Rattle.panels.specs.Panels.{joins, panels}
use Rattle.panels.proofs.Panelled.{panels_once, panels_inside}
use Rattle.order.specs.Same.{Matching}
use Rattle.order.specs.Demand.{SameTogether}

-- ---- the panel that has a face

seat : ℕ → List (List ℕ) → ℕ
seat x [] = 0
seat x (q ∷ qs) = cond (has x q) 0 (suc (seat x qs))

seat_below : (x : ℕ) (qs : List (List ℕ)) → In x (joined qs) → seat x qs < length qs
unfolding seat
seat_below x [] h = clash h refl
seat_below x (q ∷ qs) h =
    by_cases
    (has x q)
    (λ e. rw e (omega arith))
    (λ e. rw e (let r : seat x qs < length qs = seat_below x qs (⊎_elim (λ p. clash p e) (λ p. p) (in_append x q (joined qs) h)) in omega arith))

-- two faces with one seat are together
seat_together : (x y : ℕ) (qs : List (List ℕ)) → In x (joined qs) → In y (joined qs) → seat x qs ≡ seat y qs → together x y qs ≡ true
unfolding seat
seat_together x y [] h k e = clash h refl
seat_together x y (q ∷ qs) h k e = go (has x q) refl (has y q) refl e (seat_together x y qs)
  where
    go :
        (a : Bool) → has x q ≡ a → (b : Bool) → has y q ≡ b → cond a 0 (suc (seat x qs)) ≡ cond b 0 (suc (seat y qs))
        → (In x (joined qs) → In y (joined qs) → seat x qs ≡ seat y qs → together x y qs ≡ true)
        → ((a && b) || together x y qs) ≡ true
    go true p true r s ih = refl
    go true p false r s ih = absurd (omega arith)
    go false p true r s ih = absurd (omega arith)
    go false p false r s ih =
        ih (⊎_elim (λ t. clash t p) (λ t. t) (in_append x q (joined qs) h)) (⊎_elim (λ t. clash t r) (λ t. t) (in_append y q (joined qs) k)) (omega arith)

together_in : (a b : ℕ) (ps : List (List ℕ)) → together a b ps ≡ true → In a (joined ps)
together_in a b [] h = clash h refl
together_in a b (p ∷ ps) h =
    ⊎_elim
    (λ e. in_left a p (joined ps) (and_parts (has a p) (has b p) e).0)
    (λ e. in_right a p (joined ps) (together_in a b ps e))
    (or_either (has a p && has b p) (together a b ps) h)

-- ---- each panel has a face

abbrev Filled : List (List ℕ) → Type 0
Filled [] = Unit {0}
Filled (p ∷ ps) = (0 < length p) × Filled ps

abbrev first : List ℕ → ℕ
first p = get_or p 0 0

first_in : (p : List ℕ) → 0 < length p → In (first p) p
first_in [] h = absurd (omega arith)
first_in (x ∷ p) h = in_head x p

firsts_in : (b : ℕ) (ps : List (List ℕ)) → Filled ps → In b (map first ps) → In b (joined ps)
firsts_in b [] f h = clash h refl
firsts_in b (p ∷ ps) f h =
    ⊎_elim
    (λ e. in_left b p (joined ps) (rw e (first_in p f.0)))
    (λ e. in_right b p (joined ps) (firsts_in b ps f.1 e))
    (in_cases b (first p) (map first ps) h)

-- ---- no two go to the same

absent : (g : ℕ → ℕ) (a : ℕ) (l : List ℕ) → ((b : ℕ) → In b l → g a ≡ g b → ⊥) → has (g a) (map g l) ≡ false
absent g a [] h = refl
absent g a (b ∷ l) h =
    or_neither (eqb (g a) (g b)) (has (g a) (map g l)) (ne_eqb (g a) (g b) (h b (in_head b l))) (absent g a l (λ c i. h c (in_tail c b l i)))

-- faces that go to the same stand together
abbrev Parts : (ℕ → ℕ) → List (List ℕ) → Type 0
Parts g ps = (a b : ℕ) → In a (joined ps) → In b (joined ps) → g a ≡ g b → together a b ps ≡ true

seats_once : (g : ℕ → ℕ) (ps : List (List ℕ)) → Filled ps → Once (joined ps) → Parts g ps → Once (map g (map first ps))
seats_once g [] f o h = λ x. omega arith
seats_once g (p ∷ ps) f o h =
    once_cons (g (first p)) (map g (map first ps)) (absent g (first p) (map first ps) apart) (seats_once g ps f.1 (once_rear p (joined ps) o) rest)
  where
    here : In (first p) p
    here = first_in p f.0

    apart : (b : ℕ) → In b (map first ps) → g (first p) ≡ g b → ⊥
    apart b i e =
        let k : In b (joined ps) = firsts_in b ps f.1 i in
        ⊎_elim
        (λ t. once_apart b p (joined ps) o (and_parts (has (first p) p) (has b p) t).1 k)
        (λ t. once_apart (first p) p (joined ps) o here (together_in (first p) b ps t))
        (or_either (has (first p) p && has b p) (together (first p) b ps) (h (first p) b (in_left (first p) p (joined ps) here) (in_right b p (joined ps) k) e))

    rest : Parts g ps
    rest a b i j e =
        ⊎_elim
        (λ t. once_apart a p (joined ps) o (and_parts (has a p) (has b p) t).0 i)
        (λ t. t)
        (or_either (has a p && has b p) (together a b ps) (h a b (in_right a p (joined ps) i) (in_right b p (joined ps) j) e))

mapped_below : (g : ℕ → ℕ) (n : ℕ) (l : List ℕ) → ((a : ℕ) → In a l → g a < n) → (x : ℕ) → In x (map g l) → x < n
mapped_below g n [] h x i = clash i refl
mapped_below g n (a ∷ l) h x i =
    ⊎_elim
    (λ e. rw e (h a (in_head a l)))
    (λ e. mapped_below g n l (λ b j. h b (in_tail b a l j)) x e)
    (in_cases x (g a) (map g l) i)

no_fewer :
    (f : ℕ → ℕ) (ps qs : List (List ℕ)) → Filled ps → Once (joined ps) → ((a : ℕ) → In a (joined ps) → In (f a) (joined qs))
    → ((a b : ℕ) → In a (joined ps) → In b (joined ps) → together (f a) (f b) qs ≡ true → together a b ps ≡ true)
    → length ps ≤ length qs
no_fewer f ps qs full once there back =
    let o : Once (map (λ a. seat (f a) qs) (map first ps)) =
    seats_once (λ a. seat (f a) qs) ps full once (λ a b i j e. back a b i j (seat_together (f a) (f b) qs (there a i) (there b j) e)) in
    let e : length (map (λ a. seat (f a) qs) (map first ps)) + free (length qs) (map (λ a. seat (f a) qs) (map first ps)) ≡ length qs =
    once_free (length qs) (map (λ a. seat (f a) qs) (map first ps)) o
    (mapped_below (λ a. seat (f a) qs) (length qs) (map first ps) (λ a i. seat_below (f a) qs (there a (firsts_in a ps full i)))) in
    omega (arith, length-map (map first ps) (λ a. seat (f a) qs), length-map ps first)

-- ---- the panels of a mesh: none is empty

look_longer : (old l : List ℕ) (s : Search) → length s.1 ≤ length (look old l s).1
look_longer old [] s = omega arith
look_longer old (x ∷ l) s = go (has x old || has x s.1) (look_longer old l s) (look_longer old l (x ∷ s.0, s.1 ++ (x ∷ [])))
  where
    go :
        (b : Bool) → length s.1 ≤ length (look old l s).1
        → length (s.1 ++ (x ∷ [])) ≤ length (look old l (x ∷ s.0, s.1 ++ (x ∷ []))).1
        → length s.1 ≤ length (look old l (cond b s (x ∷ s.0, s.1 ++ (x ∷ [])))).1
    go true h k = h
    go false h k = omega (arith, length-append s.1 (x ∷ []))

search_longer : (n : ℕ) (js : List Join) (old stack seen : List ℕ) → length seen ≤ length (search_from n js old stack seen)
unfolding search_from
search_longer zero js old stack seen = omega arith
search_longer (suc n) js old [] seen = omega arith
search_longer (suc n) js old (x ∷ stack) seen =
    let a : length seen ≤ length (look old (neighbours x js) (stack, seen)).1 = look_longer old (neighbours x js) (stack, seen) in
    let b : _ = search_longer n js old (look old (neighbours x js) (stack, seen)).0 (look old (neighbours x js) (stack, seen)).1 in
    omega arith

filled_snoc : (ps : List (List ℕ)) (p : List ℕ) → Filled ps → 0 < length p → Filled (ps ++ (p ∷ []))
filled_snoc [] p f h = (h, tt)
filled_snoc (q ∷ ps) p f h = (f.0, filled_snoc ps p f.1 h)

filled_from : (d i n : ℕ) (js : List Join) (ps : List (List ℕ)) → Filled ps → Filled (panels_from d i n js ps)
unfolding panels_from
filled_from zero i n js ps f = f
filled_from (suc d) i n js ps f =
    go
    (has i (joined ps))
    (filled_from d (suc i) n js ps f)
    (filled_from d (suc i) n js (ps ++ (p ∷ [])) (filled_snoc ps p f (let k : 1 ≤ length p = search_longer n js (joined ps) (i ∷ []) (i ∷ []) in omega arith)))
  where
    p : List ℕ
    p = search_from n js (joined ps) (i ∷ []) (i ∷ [])

    go :
        (b : Bool) → Filled (panels_from d (suc i) n js ps) → Filled (panels_from d (suc i) n js (ps ++ (p ∷ [])))
        → Filled (elim b [ true ↦ panels_from d (suc i) n js ps | false ↦ panels_from d (suc i) n js (ps ++ (p ∷ [])) ])
    go true k q = k
    go false k q = q

module _ (normals : Bool) (fs : List Ring) where
  panels_filled : Filled (panels normals fs)
  unfolding panels
  panels_filled = filled_from (length fs) 0 (length fs) (joins normals fs) [] tt

  panels_apart : Once (joined (panels normals fs))
  panels_apart x =
      by_cases
      (has x (joined (panels normals fs)))
      (λ h. let e : count (eqb x) (joined (panels normals fs)) ≡ 1 = panels_once normals fs x (panels_inside normals fs x h) in omega arith)
      (λ h. let e : count (eqb x) (joined (panels normals fs)) ≡ 0 = count_none (eqb x) (joined (panels normals fs)) h in omega arith)

  panels_placed : (x : ℕ) → x < length fs → In x (joined (panels normals fs))
  panels_placed x l = some_counted (eqb x) (joined (panels normals fs)) (let e : _ = panels_once normals fs x l in omega arith)

-- ---- as many panels

-- where the faces of m and n have as many rings, which are matched, and the same are together
pub as_many_panels :
    {A : Type 0} {fs gs : List (List A)} (r : Matching fs gs) (normals : Bool) (m n : List Ring) → length fs ≡ length m → length gs ≡ length n
    → SameTogether r normals m n
    → length (panels normals m) ≡ length (panels normals n)
as_many_panels {A} {fs} {gs} r normals m n lf lg d =
    let a : length (panels normals m) ≤ length (panels normals n) =
    no_fewer r.to (panels normals m) (panels normals n) (panels_filled normals m) (panels_apart normals m) forth forth_together in
    let b : length (panels normals n) ≤ length (panels normals m) =
    no_fewer r.back (panels normals n) (panels normals m) (panels_filled normals n) (panels_apart normals n) back back_together in
    omega arith
  where
    inside : (x : ℕ) → In x (joined (panels normals m)) → x < length fs
    inside x i = omega (arith, lf, panels_inside normals m x i)

    inside_back : (x : ℕ) → In x (joined (panels normals n)) → x < length gs
    inside_back x i = omega (arith, lg, panels_inside normals n x i)

    forth : (x : ℕ) → In x (joined (panels normals m)) → In (r.to x) (joined (panels normals n))
    forth x i = panels_placed normals n (r.to x) (omega (arith, lg, r.to_face x (inside x i)))

    forth_together :
        (x y : ℕ) → In x (joined (panels normals m)) → In y (joined (panels normals m))
        → together (r.to x) (r.to y) (panels normals n) ≡ true
        → together x y (panels normals m) ≡ true
    forth_together x y i j h = d.matched x y (inside x i) (inside y j) ∙ h

    back : (x : ℕ) → In x (joined (panels normals n)) → In (r.back x) (joined (panels normals m))
    back x i = panels_placed normals m (r.back x) (omega (arith, lf, r.back_face x (inside_back x i)))

    back_together :
        (x y : ℕ) → In x (joined (panels normals n)) → In y (joined (panels normals n))
        → together (r.back x) (r.back y) (panels normals m) ≡ true
        → together x y (panels normals n) ≡ true
    back_together x y i j h =
        let lx : x < length gs = inside_back x i in
        let ly : y < length gs = inside_back y j in
        sym (ap₂ (λ (a b : ℕ). together a b (panels normals n)) (r.to_back x lx) (r.to_back y ly))
        ∙ sym (d.matched (r.back x) (r.back y) (r.back_face x lx) (r.back_face y ly))
        ∙ h
