-- The search from a face, pop after pop: what is left on the stack leads where the whole leads, with one pop less to go. Of f faces
-- those that are listed and those that are not are f; so the stack and those not listed bound the pops. Assumes nothing.
use mathlib.Core.Path.{◌≡◌, refl, sym, ap, ap₂, ◌∙◌, subst}
use mathlib.Core.Bool.{Bool, true, false, cond, ◌||◌}
use mathlib.Core.List.{List, [], ◌∷◌, ◌++◌, append_assoc, map}
use Prim.Native.Nat.{ℕ, zero, suc, ◌+◌, ◌-◌, ◌≤◌, ◌<◌}
use native.Mathlib.Omega.{arith}
use lib.Dec.{eqb}
use lib.ListN.{length, get_or, take, drop, length-drop}
use lib.Seq.{slice, length-take-le, get_or-take, get_or-drop}
use borrow.Author.Tests.{eqb-true}
use Rattle.lists.specs.Lists.{has}
use Rattle.lists.proofs.Bools.{by_cases}
use Rattle.lists.proofs.Parts.{some_append}
use Rattle.lists.proofs.Counting.{clash}
use Rattle.lists.proofs.Members.{In, in_head, in_tail, free, once_free}
use Rattle.sorting.specs.Sorting.{All}
use Rattle.sorting.proofs.Laws.{all_head, all_tail}
use Rattle.connected.specs.Search.{Join, Search, neighbours, look, search_from}
use Rattle.connected.specs.Joins.{joins_of}
use Rattle.connected.specs.Walk.{other_end, near_between, begin_of, Adjacent, stack_of, state_of, Listing, Lookable, Stepped, Searched}
use Rattle.connected.proofs.Looking.{Looked, looked}
use Rattle.connected.proofs.Walking.{length_stack, other_below, relisted, restepped, drop_further}
use Rattle.connected.proofs.Nearby.{adjacent_entries, adjacent_even, adjacent_end, neighbours_are}

-- ---- one list of all that are listed, and a list of this panel beside those before

pub flat_look :
    (old l st ls : List ℕ)
    → ◌≡◌ {A = Search} (look [] l (st, old ++ ls)) ((look old l (st, ls)).0, old ++ (look old l (st, ls)).1)
flat_look old [] st ls = refl
flat_look old (x ∷ l) st ls =
    go (has x old || has x ls) (some_append (eqb x) old ls) (flat_look old l st ls) (flat_look old l (x ∷ st) (ls ++ (x ∷ [])))
  where
    go :
        (b : Bool) → has x (old ++ ls) ≡ b
        → ◌≡◌ {A = Search} (look [] l (st, old ++ ls)) ((look old l (st, ls)).0, old ++ (look old l (st, ls)).1)
        → ◌≡◌ {A = Search} (look [] l (x ∷ st, old ++ (ls ++ (x ∷ [])))) ((look old l (x ∷ st, ls ++ (x ∷ []))).0, old ++ (look old l (x ∷ st, ls ++ (x ∷ []))).1)
        → ◌≡◌ {A = Search} (look [] (x ∷ l) (st, old ++ ls))
        ((look old l (cond b (st, ls) (x ∷ st, ls ++ (x ∷ [])))).0, old ++ (look old l (cond b (st, ls) (x ∷ st, ls ++ (x ∷ [])))).1)
    go true e ih jh = rw e ih
    go false e ih jh = rw (e, append_assoc old ls (x ∷ [])) jh

pub flat_search : (n : ℕ) (js : List Join) (old st ls : List ℕ) → search_from n js [] st (old ++ ls) ≡ old ++ search_from n js old st ls
unfolding search_from
flat_search zero js old st ls = refl
flat_search (suc n) js old [] ls = refl
flat_search (suc n) js old (x ∷ st) ls =
    ap (λ (s : Search). search_from n js [] s.0 s.1) (flat_look old (neighbours x js) st ls)
    ∙ flat_search n js old (look old (neighbours x js) (st, ls)).0 (look old (neighbours x js) (st, ls)).1

-- ---- a listing of f faces

module _ (f : ℕ) (seen stack flat : List ℕ) (top n : ℕ) (l : Listing f seen stack flat top n) where
  -- those listed and those not listed
  pub listed_free : n + free f (take n flat) ≡ f
  listed_free =
      let a : length (take n flat) + free f (take n flat) ≡ f = once_free f (take n flat) l.once l.below in
      let b : length (take n flat) ≡ n = length-take-le n flat (let p : n ≤ f = l.few in let q : f ≤ length flat = l.room in omega arith) in
      omega arith

-- one face less on the stack
pub listing_pops : (f : ℕ) (seen stack flat : List ℕ) (t n : ℕ) → Listing f seen stack flat (suc t) n → Listing f seen stack flat t n
listing_pops f seen stack flat t n l = record {
  small = l.small;
  seen_long = l.seen_long;
  stack_long = l.stack_long;
  room = l.room;
  few = l.few;
  under = let u : suc t ≤ n = l.under in omega arith;
  marked = l.marked;
  once = l.once;
  below = l.below;
  stacked = λ x h. l.stacked x (in_tail x (get_or stack t 0) (stack_of stack t) h);
}

in_map_below : (f : ℕ) (g : ℕ → ℕ) (l : List ℕ) → All (λ e. g e < f) l → (x : ℕ) → In x (map g l) → x < f
in_map_below f g [] h x p = clash p refl
in_map_below f g (e ∷ l) h x p =
    by_cases (eqb x (g e))
    (λ t. subst (λ (y : ℕ). y < f) (sym (eqb-true x (g e) t)) (all_head (λ k. g k < f) e l h))
    (λ t. in_map_below f g l (all_tail (λ k. g k < f) e l h) x (rw t at p))

module _ (joins order ends : List ℕ) (a : Adjacent joins order ends) where
  -- neighbours are faces
  pub neighbours_below : (x : ℕ) → x < length ends → (y : ℕ) → In y (neighbours x (joins_of joins)) → y < length ends
  neighbours_below x h y p =
      in_map_below (length ends) (other_end joins) (slice (begin_of ends x) (get_or ends x 0) order) part y (subst (In y) (sym (neighbours_are joins order ends a x h)) p)
    where
      part : All (λ e. other_end joins e < length ends) (slice (begin_of ends x) (get_or ends x 0) order)
      part t k =
          let i : get_or ends x 0 ≤ length order = adjacent_end joins order ends a x h in
          let lt : length (take (get_or ends x 0) order) ≡ get_or ends x 0 = length-take-le (get_or ends x 0) order i in
          let ld : length (slice (begin_of ends x) (get_or ends x 0) order) ≡ length (take (get_or ends x 0) order) - begin_of ends x = length-drop (begin_of ends x) (take (get_or ends x 0) order) in
          let q : begin_of ends x + t < get_or ends x 0 = omega arith in
          let e : get_or (slice (begin_of ends x) (get_or ends x 0) order) t 0 ≡ get_or order (begin_of ends x + t) 0 =
          get_or-drop (begin_of ends x) (take (get_or ends x 0) order) t 0 ∙ get_or-take (get_or ends x 0) order (begin_of ends x + t) 0 q in
          subst (λ (z : ℕ). other_end joins z < length ends) (sym e)
          (other_below (length ends) joins (get_or order (begin_of ends x + t) 0) (adjacent_even joins order ends a) a.below (adjacent_entries joins order ends a (begin_of ends x + t) (omega arith)))

  module _ (seen stack flat : List ℕ) (top n : ℕ) (l : Listing (length ends) seen stack flat top n) (h : 0 < top) where
    top_is : top ≡ suc (top - 1)
    top_is = omega arith

    pub popped : Listing (length ends) seen stack flat (top - 1) n
    popped = listing_pops (length ends) seen stack flat (top - 1) n (subst (λ (t : ℕ). Listing (length ends) seen stack flat t n) top_is l)

    pub top_below : get_or stack (top - 1) 0 < length ends
    top_below =
        l.stacked (get_or stack (top - 1) 0)
        (subst (λ (t : ℕ). In (get_or stack (top - 1) 0) (stack_of stack t)) (sym top_is) (in_head (get_or stack (top - 1) 0) (stack_of stack (top - 1))))

    pub pop_looks : (to x : ℕ) → x ≡ get_or stack (top - 1) 0 → to ≡ get_or ends x 0 → Lookable (length seen) joins order to seen stack flat (top - 1) n
    pop_looks to x ex e = record {
      whole = adjacent_even joins order ends a;
      fits = a.fits;
      below = λ k u. let b : get_or joins k 0 < length ends = a.below k u in let s : length seen ≡ length ends = l.seen_long in omega arith;
      entries = adjacent_entries joins order ends a;
      within = let i : get_or ends x 0 ≤ length order = adjacent_end joins order ends a x (let t : get_or stack (top - 1) 0 < length ends = top_below in omega arith) in omega arith;
      listing = relisted (length ends) seen stack flat (top - 1) n popped;
    }

    pub pop_steps :
        (from to x : ℕ) (seen' stack' flat' : List ℕ) (top' n' : ℕ) → x ≡ get_or stack (top - 1) 0 → from ≡ begin_of ends x → to ≡ get_or ends x 0
        → Stepped (length seen) (look [] (near_between joins order from to) (state_of stack (top - 1) flat n)) flat n seen' stack' flat' top' n'
        → Stepped (length ends) (look [] (neighbours (get_or stack (top - 1) 0) (joins_of joins)) (state_of stack (top - 1) flat n)) flat n seen' stack' flat' top' n'
    pop_steps from to x seen' stack' flat' top' n' ex ef et s =
        subst
        (λ (t : List ℕ). Stepped (length ends) (look [] t (state_of stack (top - 1) flat n)) flat n seen' stack' flat' top' n')
        (ap₂ (near_between joins order) ef et
        ∙ neighbours_are joins order ends a x (let t : get_or stack (top - 1) 0 < length ends = top_below in omega arith)
        ∙ ap (λ (y : ℕ). neighbours y (joins_of joins)) ex)
        (restepped (length ends) (length seen) (look [] (near_between joins order from to) (state_of stack (top - 1) flat n)) flat n seen' stack' flat' top' n' l.seen_long s)

-- ---- the search

pub record SeekingOn (f : ℕ) (js : List Join) (target flat₀ : List ℕ) (n₀ : ℕ) (seen stack flat : List ℕ) (top n : ℕ) : Type 0 where
  pub listing : Listing f seen stack flat top n
  pub fuel : ℕ
  pub enough : top + free f (take n flat) ≤ fuel
  pub left : search_from fuel js [] (stack_of stack top) (take n flat) ≡ target
  pub more : n₀ ≤ n
  pub rest : drop n flat ≡ drop n flat₀
  pub long : length flat ≡ length flat₀

pub seek_begins :
    (f : ℕ) (js : List Join) (seen stack flat : List ℕ) (top n : ℕ) → Listing f seen stack flat top n
    → SeekingOn f js (search_from f js [] (stack_of stack top) (take n flat)) flat n seen stack flat top n
seek_begins f js seen stack flat top n l = record {
  listing = l;
  fuel = f;
  enough = let a : n + free f (take n flat) ≡ f = listed_free f seen stack flat top n l in let b : top ≤ n = l.under in omega arith;
  left = refl;
  more = omega arith;
  rest = refl;
  long = refl;
}

search_none : (k : ℕ) (js : List Join) (ls : List ℕ) → search_from k js [] [] ls ≡ ls
unfolding search_from
search_none zero js ls = refl
search_none (suc k) js ls = refl

search_one :
    (k : ℕ) (js : List Join) (x : ℕ) (st ls : List ℕ)
    → search_from (suc k) js [] (x ∷ st) ls ≡ search_from k js [] (look [] (neighbours x js) (st, ls)).0 (look [] (neighbours x js) (st, ls)).1
unfolding search_from
search_one k js x st ls = refl

pub seek_ends :
    (f : ℕ) (js : List Join) (target flat₀ : List ℕ) (n₀ : ℕ) (seen stack flat : List ℕ) (top n : ℕ) → top ≤ 0
    → SeekingOn f js target flat₀ n₀ seen stack flat top n → take n flat ≡ target
seek_ends f js target flat₀ n₀ seen stack flat top n h r =
    sym (search_none r.fuel js (take n flat))
    ∙ ap (λ (t : ℕ). search_from r.fuel js [] (stack_of stack t) (take n flat)) (let e : 0 ≡ top = omega arith in e)
    ∙ r.left

module _ (joins order ends : List ℕ) (a : Adjacent joins order ends) (target flat₀ : List ℕ) (n₀ : ℕ) (seen stack flat : List ℕ) (top n : ℕ)
    (r : SeekingOn (length ends) (joins_of joins) target flat₀ n₀ seen stack flat top n) (h : 0 < top)
    (seen' stack' flat' : List ℕ) (top' n' : ℕ)
    (s : Stepped (length ends) (look [] (neighbours (get_or stack (top - 1) 0) (joins_of joins)) (state_of stack (top - 1) flat n)) flat n seen' stack' flat' top' n') where
  -- a pop takes one face from the stack, and each face that is pushed is listed
  spent : top' + free (length ends) (take n' flat') ≡ (top - 1) + free (length ends) (take n flat)
  spent =
      let x : ℕ = get_or stack (top - 1) 0 in
      let w : Looked (length ends) [] (neighbours x (joins_of joins)) (stack_of stack (top - 1)) (take n flat)
      (look [] (neighbours x (joins_of joins)) (state_of stack (top - 1) flat n)).0
      (look [] (neighbours x (joins_of joins)) (state_of stack (top - 1) flat n)).1 =
      looked (length ends) [] (neighbours x (joins_of joins)) (stack_of stack (top - 1)) (take n flat)
      (neighbours_below joins order ends a x (top_below joins order ends a seen stack flat top n r.listing h)) in
      let e : length (stack_of stack' top') + free (length ends) (take n' flat') ≡ length (stack_of stack (top - 1)) + free (length ends) (take n flat) =
      ap (λ (t : Search). length t.0 + free (length ends) t.1) s.state ∙ w.spent in
      let p : length (stack_of stack' top') ≡ top' = length_stack stack' top' in
      let q : length (stack_of stack (top - 1)) ≡ top - 1 = length_stack stack (top - 1) in
      omega arith

  pub seek_falls : top' + (length ends - n') < top + (length ends - n)
  seek_falls =
      let e : _ = spent in
      let p : n + free (length ends) (take n flat) ≡ length ends = listed_free (length ends) seen stack flat top n r.listing in
      let q : n' + free (length ends) (take n' flat') ≡ length ends = listed_free (length ends) seen' stack' flat' top' n' s.listing in
      omega arith

  pub seek_turns : length flat' ≡ length flat → SeekingOn (length ends) (joins_of joins) target flat₀ n₀ seen' stack' flat' top' n'
  seek_turns g = go r.fuel r.enough r.left
    where
      go :
          (k : ℕ) → top + free (length ends) (take n flat) ≤ k → search_from k (joins_of joins) [] (stack_of stack top) (take n flat) ≡ target
          → SeekingOn (length ends) (joins_of joins) target flat₀ n₀ seen' stack' flat' top' n'
      go zero e l = absurd (omega arith)
      go (suc k) e l = record {
        listing = s.listing;
        fuel = k;
        enough = let w : _ = spent in omega arith;
        left =
            ap (λ (t : Search). search_from k (joins_of joins) [] t.0 t.1) s.state
            ∙ sym (search_one k (joins_of joins) (get_or stack (top - 1) 0) (stack_of stack (top - 1)) (take n flat))
            ∙ ap (λ (t : ℕ). search_from (suc k) (joins_of joins) [] (stack_of stack t) (take n flat)) (let z : suc (top - 1) ≡ top = omega arith in z)
            ∙ l;
        more = let p : n₀ ≤ n = r.more in let q : n ≤ n' = s.more in omega arith;
        rest = s.rest ∙ drop_further flat flat₀ n n' s.more r.rest;
        long = g ∙ r.long;
      }

-- the first face is listed and pushed; then the search
pub search_finds :
    (f : ℕ) (js : List Join) (face : ℕ) (flat : List ℕ) (n : ℕ) (stack stack₁ flat₁ seen₁ : List ℕ) (top₁ n₁ : ℕ) (seen' stack' flat' : List ℕ) (top' n' : ℕ)
    → has face (take n flat) ≡ false
    → Stepped f (look [] (face ∷ []) (state_of stack 0 flat n)) flat n seen₁ stack₁ flat₁ top₁ n₁
    → SeekingOn f js (search_from f js [] (stack_of stack₁ top₁) (take n₁ flat₁)) flat₁ n₁ seen' stack' flat' top' n'
    → top' ≤ 0
    → Searched f (search_from f js (take n flat) (face ∷ []) (face ∷ [])) flat n seen' stack' flat' n'
search_finds f js face flat n stack stack₁ flat₁ seen₁ top₁ n₁ seen' stack' flat' top' n' new v r h = record {
  listed =
      seek_ends f js (search_from f js [] (stack_of stack₁ top₁) (take n₁ flat₁)) flat₁ n₁ seen' stack' flat' top' n' h r
      ∙ ap (λ (t : Search). search_from f js [] t.0 t.1) (v.state ∙ ap (λ (b : Bool). cond b (state_of stack 0 flat n) (face ∷ [], take n flat ++ (face ∷ []))) new)
      ∙ flat_search f js (take n flat) (face ∷ []) (face ∷ []);
  listing = subst (λ (t : ℕ). Listing f seen' stack' flat' t n') (let e : top' ≡ 0 = omega arith in e) r.listing;
  more = let p : n ≤ n₁ = v.more in let q : n₁ ≤ n' = r.more in omega arith;
  rest = r.rest ∙ drop_further flat₁ flat n₁ n' r.more v.rest;
}
