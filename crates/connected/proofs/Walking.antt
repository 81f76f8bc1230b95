-- One face seen, and a look through a part of the row of neighbours. What is listed stands at the front of the flat list, a mark
-- says so of each face, and the stack holds no more faces than are listed. Assumes nothing.
use mathlib.Core.Path.{◌≡◌, refl, sym, ap, ap₂, ◌∙◌, subst}
use mathlib.Core.Logic.{⊎_elim}
use mathlib.Core.Bool.{Bool, true, false, cond, ◌||◌}
use mathlib.Core.List.{List, [], ◌∷◌, ◌++◌, map}
use Prim.Native.Nat.{ℕ, zero, suc, ◌+◌, ◌-◌, ◌%◌, ◌≤◌, ◌<◌}
use native.Mathlib.Numerals.{add-one}
use native.Mathlib.Omega.{arith}
use lib.Dec.{eqb}
use lib.ListN.{length, get_or, take, drop, set, length-set}
use lib.Seq.{slice-cons, length-take-le, take-suc-set, drop-set-lt, drop-drop, get_or-set_same, get_or-set_other}
use borrow.Author.Tests.{eq-eqb, ne_eqb, eqb-true, eqb-false}
use Rattle.lists.specs.Lists.{count, has}
use Rattle.lists.proofs.Bools.{by_cases}
use Rattle.lists.proofs.Members.{In, in_cases, in_snoc, has_snoc, once_snoc, free, free_snoc, once_free}
use Rattle.connected.specs.Search.{Search, look}
use Rattle.connected.specs.Walk.{other_end, begin_of, near_between, stack_of, state_of, mark_of, Listing, Stepped}

-- ---- one entry

pub other_even : (joins : List ℕ) (e : ℕ) → e % 2 ≡ 0 → get_or joins (e + 1) 0 ≡ other_end joins e
unfolding other_end
other_even joins e h = rw (eq-eqb (e % 2) 0 h)

pub other_odd : (joins : List ℕ) (e : ℕ) → (e % 2 ≡ 0 → ⊥) → get_or joins (e - 1) 0 ≡ other_end joins e
unfolding other_end
other_odd joins e h = rw (ne_eqb (e % 2) 0 h)

pub begin_zero : (ends : List ℕ) (x : ℕ) → x ≡ 0 → 0 ≡ begin_of ends x
unfolding begin_of
begin_zero ends x e = sym (ap (begin_of ends) e)

pub begin_suc : (ends : List ℕ) (x r : ℕ) → (x ≡ 0 → ⊥) → r ≡ get_or ends (x - 1) 0 → r ≡ begin_of ends x
unfolding begin_of
begin_suc ends zero r ne e = absurd (ne refl)
begin_suc ends (suc x) r ne e = e ∙ ap (λ (i : ℕ). get_or ends i 0) (let z : suc x - 1 ≡ x = omega arith in z)

-- ---- one face

stack_set : (l : List ℕ) (t k x : ℕ) → k ≤ t → stack_of (set l t x) k ≡ stack_of l k
stack_set l t zero x h = refl
stack_set l t (suc k) x h = ap₂ ◌∷◌ (get_or-set_other l t k x 0 (omega arith)) (stack_set l t k x (omega arith))

pub length_stack : (l : List ℕ) (k : ℕ) → length (stack_of l k) ≡ k
length_stack l zero = refl
length_stack l (suc k) = ap suc (length_stack l k)

module _ (f x : ℕ) (seen stack flat : List ℕ) (top n : ℕ) (l : Listing f seen stack flat top n) (h : x < f) where
  marked_seen : (b : Bool) → has x (take n flat) ≡ b → get_or seen x 0 ≡ mark_of b
  marked_seen b e = l.marked x h ∙ ap mark_of e

  pub not_seen : get_or seen x 0 ≡ 0 → has x (take n flat) ≡ false
  not_seen e = by_cases (has x (take n flat)) (λ t. absurd (let z : get_or seen x 0 ≡ 1 = marked_seen true t in omega arith)) (λ t. t)

  listed_long : length (take n flat) ≡ n
  listed_long = length-take-le n flat (let a : n ≤ f = l.few in let b : f ≤ length flat = l.room in omega arith)

  -- one that is not leaves room for itself
  pub visit_room : get_or seen x 0 ≡ 0 → n < f
  visit_room e =
      let a : length (take n flat) + free f (take n flat) ≡ f = once_free f (take n flat) l.once l.below in
      let b : free f (take n flat) ≡ suc (free f (take n flat ++ (x ∷ []))) = free_snoc f x (take n flat) h (not_seen e) in
      let c : length (take n flat) ≡ n = listed_long in
      omega arith

  module _ (e : get_or seen x 0 ≡ 0) where
    pub visit_fits : (n < length flat) × (top < length stack)
    visit_fits =
        let a : n < f = visit_room e in
        let b : f ≤ length flat = l.room in
        let c : length stack ≡ f = l.stack_long in
        let d : top ≤ n = l.under in
        (omega arith, omega arith)

    front : take (n + 1) (set flat n x) ≡ take n flat ++ (x ∷ [])
    front = ap (λ (k : ℕ). take k (set flat n x)) (add-one n) ∙ take-suc-set flat n x visit_fits.0

    onto : stack_of (set stack top x) (top + 1) ≡ x ∷ stack_of stack top
    onto =
        ap (stack_of (set stack top x)) (add-one top)
        ∙ ap₂ ◌∷◌ (get_or-set_same stack top x 0 visit_fits.1) (stack_set stack top top x (omega arith))

    marked_new : (y : ℕ) → y < f → get_or (set seen x 1) y 0 ≡ mark_of (has y (take n flat ++ (x ∷ [])))
    marked_new y k =
        by_cases (eqb y x)
        (λ t.
        let q : y ≡ x = eqb-true y x t in
        ap (λ (z : ℕ). get_or (set seen x 1) z 0) q
        ∙ get_or-set_same seen x 1 0 (let s : length seen ≡ f = l.seen_long in omega arith)
        ∙ ap (λ (b : Bool). mark_of (b || has y (take n flat))) (sym t)
        ∙ ap mark_of (sym (has_snoc y x (take n flat))))
        (λ t.
        get_or-set_other seen x y 1 0 (eqb-false y x t)
        ∙ l.marked y k
        ∙ ap (λ (b : Bool). mark_of (b || has y (take n flat))) (sym t)
        ∙ ap mark_of (sym (has_snoc y x (take n flat))))

    -- a face that is not listed is listed and pushed
    pub visit_pushes : Stepped f (look [] (x ∷ []) (state_of stack top flat n)) flat n (set seen x 1) (set stack top x) (set flat n x) (top + 1) (n + 1)
    visit_pushes = record {
      state =
          ap₂ (λ (a b : List ℕ). (a, b)) onto front
          ∙ ap (λ (b : Bool). cond b (state_of stack top flat n) (x ∷ stack_of stack top, take n flat ++ (x ∷ []))) (sym (not_seen e));
      listing = record {
        small = l.small;
        seen_long = length-set seen x 1 ∙ l.seen_long;
        stack_long = length-set stack top x ∙ l.stack_long;
        room = let a : length (set flat n x) ≡ length flat = length-set flat n x in let b : f ≤ length flat = l.room in omega arith;
        few = let r : n < f = visit_room e in omega arith;
        under = let u : top ≤ n = l.under in omega arith;
        marked = λ y k. marked_new y k ∙ ap (λ (s : List ℕ). mark_of (has y s)) (sym front);
        once = λ y. subst (λ (s : List ℕ). count (eqb y) s ≤ 1) (sym front) (once_snoc (take n flat) x l.once (not_seen e) y);
        below = λ y p. ⊎_elim (λ q. l.below y q) (λ q. subst (λ (z : ℕ). z < f) (sym q) h) (in_snoc y x (take n flat) (subst (In y) front p));
        stacked = λ y p. ⊎_elim (λ q. subst (λ (z : ℕ). z < f) (sym q) h) (λ q. l.stacked y q) (in_cases y x (stack_of stack top) (subst (In y) onto p));
      };
      more = omega arith;
      rest = drop-set-lt (n + 1) flat n x (omega arith);
    }

  pub fits_at : (i : ℕ) → i ≡ x → get_or seen i 0 ≡ 0 → (n < length flat) × (top < length stack)
  fits_at i q e = visit_fits (ap (λ (j : ℕ). get_or seen j 0) (sym q) ∙ e)

  pub pushes_at :
      (i : ℕ) → i ≡ x → get_or seen i 0 ≡ 0
      → Stepped f (look [] (x ∷ []) (state_of stack top flat n)) flat n (set seen i 1) (set stack top x) (set flat n x) (top + 1) (n + 1)
  pushes_at i q e =
      subst
      (λ (j : ℕ). Stepped f (look [] (x ∷ []) (state_of stack top flat n)) flat n (set seen j 1) (set stack top x) (set flat n x) (top + 1) (n + 1))
      (sym q)
      (visit_pushes (ap (λ (j : ℕ). get_or seen j 0) (sym q) ∙ e))

-- ---- one step after another

pub drop_further : (a b : List ℕ) (n m : ℕ) → n ≤ m → drop n a ≡ drop n b → drop m a ≡ drop m b
drop_further a b n m h e =
    let q : n + (m - n) ≡ m = omega arith in
    ap (λ (k : ℕ). drop k a) (sym q)
    ∙ sym (drop-drop (m - n) n a)
    ∙ ap (drop (m - n)) e
    ∙ drop-drop (m - n) n b
    ∙ ap (λ (k : ℕ). drop k b) q

-- ---- a look through a part of the row

-- faces are counted by the marks
pub relisted : (f : ℕ) (seen stack flat : List ℕ) (top n : ℕ) → Listing f seen stack flat top n → Listing (length seen) seen stack flat top n
relisted f seen stack flat top n l = subst (λ (g : ℕ). Listing g seen stack flat top n) (sym l.seen_long) l

pub restepped :
    (f g : ℕ) (s : Search) (flat : List ℕ) (n : ℕ) (seen' stack' flat' : List ℕ) (top' n' : ℕ) → g ≡ f
    → Stepped g s flat n seen' stack' flat' top' n' → Stepped f s flat n seen' stack' flat' top' n'
restepped f g s flat n seen' stack' flat' top' n' e r = subst (λ (h : ℕ). Stepped h s flat n seen' stack' flat' top' n') e r

-- the other end of an entry of whole joins is one of the faces
pub other_below : (f : ℕ) (joins : List ℕ) (e : ℕ) → length joins % 2 ≡ 0 → ((k : ℕ) → k < length joins → get_or joins k 0 < f) → e < length joins → other_end joins e < f
other_below f joins e w b h =
    by_cases (eqb (e % 2) 0)
    (λ t.
    let z : e % 2 ≡ 0 = eqb-true (e % 2) 0 t in
    subst (λ (x : ℕ). x < f) (other_even joins e z) (b (e + 1) (omega arith)))
    (λ t.
    let z : e % 2 ≡ 0 → ⊥ = eqb-false (e % 2) 0 t in
    subst (λ (x : ℕ). x < f) (other_odd joins e z) (b (e - 1) (omega arith)))

near_cons : (joins order : List ℕ) (p to : ℕ) → p < to → to ≤ length order → near_between joins order p to ≡ other_end joins (get_or order p 0) ∷ near_between joins order (p + 1) to
near_cons joins order p to h l =
    ap (map (other_end joins)) (slice-cons p to order 0 h l)
    ∙ ap (λ (k : ℕ). other_end joins (get_or order p 0) ∷ near_between joins order k to) (sym (add-one p))

-- the look through the entries before p has led to this state, and what is left leads where the whole does
pub record LookingOn (f : ℕ) (joins order : List ℕ) (from to : ℕ) (s : Search) (flat₀ : List ℕ) (n₀ : ℕ) (seen stack flat : List ℕ) (top n p : ℕ) : Type 0 where
  pub listing : Listing f seen stack flat top n
  pub left : look [] (near_between joins order p to) (state_of stack top flat n) ≡ look [] (near_between joins order from to) s
  pub more : n₀ ≤ n
  pub rest : drop n flat ≡ drop n flat₀
  pub long : length flat ≡ length flat₀

module _ (f : ℕ) (joins order : List ℕ) (from to : ℕ) where
  module _ (s : Search) (flat₀ : List ℕ) (n₀ : ℕ) (seen stack flat : List ℕ) (top n p : ℕ) (r : LookingOn f joins order from to s flat₀ n₀ seen stack flat top n p) where
    pub look_turns :
        (x : ℕ) (seen' stack' flat' : List ℕ) (top' n' : ℕ) → p < to → to ≤ length order → x ≡ other_end joins (get_or order p 0)
        → Stepped (length seen) (look [] (x ∷ []) (state_of stack top flat n)) flat n seen' stack' flat' top' n' → length flat' ≡ length flat
        → LookingOn f joins order from to s flat₀ n₀ seen' stack' flat' top' n' (p + 1)
    look_turns x seen' stack' flat' top' n' h l e v g =
        let w : Stepped f (look [] (x ∷ []) (state_of stack top flat n)) flat n seen' stack' flat' top' n' =
        restepped f (length seen) (look [] (x ∷ []) (state_of stack top flat n)) flat n seen' stack' flat' top' n' r.listing.seen_long v in
        record {
          listing = w.listing;
          left =
              ap (look [] (near_between joins order (p + 1) to)) w.state
              ∙ ap (λ (y : ℕ). look [] (y ∷ near_between joins order (p + 1) to) (state_of stack top flat n)) e
              ∙ ap (λ (t : List ℕ). look [] t (state_of stack top flat n)) (sym (near_cons joins order p to h l))
              ∙ r.left;
          more = let a : n₀ ≤ n = r.more in let b : n ≤ n' = w.more in omega arith;
          rest = w.rest ∙ drop_further flat flat₀ n n' w.more r.rest;
          long = g ∙ r.long;
        }
