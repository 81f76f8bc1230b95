-- The search from a face lists exactly the faces that are connected to it, each once. What is on the stack and what is not seen
-- yet together bound the pops that are left. Assumes nothing.
use mathlib.Core.Path.{◌≡◌, refl, sym, ap, ◌∙◌, subst}
use mathlib.Core.Logic.{◌⊎◌, inl, inr, ⊎_elim}
use mathlib.Core.Bool.{Bool, true, false, cond, ◌||◌, ◌&&◌, and_comm}
use mathlib.Core.List.{List, [], ◌∷◌, ◌++◌}
use Prim.Native.Nat.{ℕ, zero, suc, ◌+◌, ◌≤◌, ◌<◌}
use native.Mathlib.Omega.{arith}
use lib.Dec.{eqb}
use lib.ListN.{length}
use Rattle.lists.specs.Lists.{has, keep_if}
use Rattle.lists.proofs.Cases.{or_parts, or_swap}
use Rattle.lists.proofs.Chains.{Reach, here, reach_trans, reach_one}
use Rattle.lists.proofs.Classes.{Ended}
use Rattle.lists.proofs.Counting.{clash, or_either}
use Rattle.lists.proofs.Members.{In, in_cases, in_head, in_tail, in_left, in_one, in_snoc, in_last, has_keep, Once, once_one, once_snoc, free, free_none, free_snoc}
use Rattle.connected.specs.Search.{Join, neighbours, look, search_from}

-- ---- faces that a recorded join makes neighbours

abbrev pub Beside : List Join → ℕ → ℕ → Type 0
Beside js x y = In y (neighbours x js)

pub has_neighbours :
    (x y : ℕ) (j : Join) (js : List Join)
    → has y (neighbours x (j ∷ js)) ≡ ((eqb x j.0 && eqb y j.1) || ((eqb x j.1 && eqb y j.0) || has y (neighbours x js)))
has_neighbours x y j js =
    has_keep y j.1 (eqb x j.0) (keep_if (eqb x j.1) j.0 (neighbours x js))
    ∙ ap (λ b. (eqb x j.0 && eqb y j.1) || b) (has_keep y j.0 (eqb x j.1) (neighbours x js))

-- a join counts both ways
pub beside_both : (x y : ℕ) (js : List Join) → has y (neighbours x js) ≡ has x (neighbours y js)
beside_both x y [] = refl
beside_both x y (j ∷ js) =
    has_neighbours x y j js
    ∙ ap (λ b. (eqb x j.0 && eqb y j.1) || ((eqb x j.1 && eqb y j.0) || b)) (beside_both x y js)
    ∙ turn (eqb x j.0) (eqb y j.1) (eqb x j.1) (eqb y j.0) (has x (neighbours y js))
    ∙ sym (has_neighbours y x j js)
  where
    turn : (a b c d e : Bool) → ((a && b) || ((c && d) || e)) ≡ ((d && c) || ((b && a) || e))
    turn a b c d e = or_swap (a && b) (c && d) e ∙ rw (and_comm a b, and_comm c d)

pub beside_sym : (js : List Join) (x y : ℕ) → Beside js x y → Beside js y x
beside_sym js x y h = sym (beside_both x y js) ∙ h

-- ---- one look through neighbours

-- what a look through l makes of a stack and a list of faces seen
pub record Looked (m : ℕ) (old l stack seen stack' seen' : List ℕ) : Type 0 where
  pub keep_seen : (x : ℕ) → In x seen → In x seen'
  pub keep_stack : (x : ℕ) → In x stack → In x stack'
  pub met : (x : ℕ) → In x l → In x old ⊎ In x seen'
  pub new : (x : ℕ) → In x seen' → In x seen ⊎ (In x stack' × In x l × (has x old ≡ false))
  pub stacked : (x : ℕ) → In x stack' → In x stack ⊎ In x seen'
  pub once : Once seen → Once seen'
  pub spent : length stack' + free m seen' ≡ length stack + free m seen

pub looked :
    (m : ℕ) (old l stack seen : List ℕ)
    → ((x : ℕ) → In x l → x < m)
    → Looked m old l stack seen (look old l (stack, seen)).0 (look old l (stack, seen)).1
looked m old [] stack seen b = record {
  keep_seen = λ x h. h;
  keep_stack = λ x h. h;
  met = λ x h. clash h refl;
  new = λ x h. inl h;
  stacked = λ x h. inl h;
  once = λ o. o;
  spent = refl;
}
looked m old (y ∷ l) stack seen b =
    go
    (has y old || has y seen)
    refl
    (looked m old l stack seen (λ x h. b x (in_tail x y l h)))
    (looked m old l (y ∷ stack) (seen ++ (y ∷ [])) (λ x h. b x (in_tail x y l h)))
  where
    go :
        (t : Bool) → (has y old || has y seen) ≡ t
        → Looked m old l stack seen (look old l (stack, seen)).0 (look old l (stack, seen)).1
        → Looked m old l (y ∷ stack) (seen ++ (y ∷ []))
        (look old l (y ∷ stack, seen ++ (y ∷ []))).0
        (look old l (y ∷ stack, seen ++ (y ∷ []))).1
        → Looked m old (y ∷ l) stack seen
        (look old l (cond t (stack, seen) (y ∷ stack, seen ++ (y ∷ [])))).0
        (look old l (cond t (stack, seen) (y ∷ stack, seen ++ (y ∷ [])))).1
    go true e r q = record {
      keep_seen = r.keep_seen;
      keep_stack = r.keep_stack;
      met = λ x h.
          ⊎_elim
          (λ p. ⊎_elim (λ o. inl (rw p o)) (λ o. inr (r.keep_seen x (rw p o))) (or_either (has y old) (has y seen) e))
          (λ p. r.met x p)
          (in_cases x y l h);
      new = λ x h. ⊎_elim inl (λ p. inr (p.0, in_tail x y l p.1, p.2)) (r.new x h);
      stacked = r.stacked;
      once = r.once;
      spent = r.spent;
    }
    go false e r q =
        let f : (has y old ≡ false) × (has y seen ≡ false) = or_parts _ _ e in
        let s : free m seen ≡ suc (free m (seen ++ (y ∷ []))) = free_snoc m y seen (b y (in_head y l)) f.1 in
        record {
          keep_seen = λ x h. q.keep_seen x (in_left x seen (y ∷ []) h);
          keep_stack = λ x h. q.keep_stack x (in_tail x y stack h);
          met = λ x h. ⊎_elim (λ p. inr (rw p (q.keep_seen y (in_last y seen)))) (λ p. q.met x p) (in_cases x y l h);
          new = λ x h.
              ⊎_elim
              (λ p.
              ⊎_elim
              inl
              (λ z.
              inr (
                q.keep_stack x (subst (λ (w : ℕ). In w (y ∷ stack)) (sym z) (in_head y stack)),
                subst (λ (w : ℕ). In w (y ∷ l)) (sym z) (in_head y l),
                rw z f.0,
              ))
              (in_snoc x y seen p))
              (λ p. inr (p.0, in_tail x y l p.1, p.2))
              (q.new x h);
          stacked = λ x h.
              ⊎_elim
              (λ p. ⊎_elim (λ z. inr (rw z (q.keep_seen y (in_last y seen)))) inl (in_cases x y stack p))
              inr
              (q.stacked x h);
          once = λ o. q.once (once_snoc seen y o f.1);
          spent = let w : _ = q.spent in omega arith;
        }

-- ---- the search under way

-- from i on, beside the faces of the panels before: what is seen is connected to i, and is done with or on the stack
pub record Searching (js : List Join) (old : List ℕ) (i : ℕ) (stack seen : List ℕ) : Type 0 where
  pub start : In i seen
  pub connected : (x : ℕ) → In x seen → Reach (Beside js) i x
  pub fresh : (x : ℕ) → In x seen → has x old ≡ false
  pub listed : (x : ℕ) → In x stack → In x seen
  pub once : Once seen
  pub closed : (x : ℕ) → In x seen → In x stack ⊎ ((y : ℕ) → Beside js x y → In y old ⊎ In y seen)

module _ (js : List Join) (m : ℕ) (bound : (x y : ℕ) → Beside js x y → y < m) (old : List ℕ) (i : ℕ) where
  search_turns :
      (x : ℕ) (stack seen stack' seen' : List ℕ)
      → Searching js old i (x ∷ stack) seen
      → Looked m old (neighbours x js) stack seen stack' seen'
      → Searching js old i stack' seen'
  search_turns x stack seen stack' seen' v r =
      let xl : In x seen = v.listed x (in_head x stack) in
      record {
        start = r.keep_seen i v.start;
        connected = λ z h.
            ⊎_elim (λ p. v.connected z p) (λ p. reach_trans (v.connected x xl) (reach_one p.1)) (r.new z h);
        fresh = λ z h. ⊎_elim (λ p. v.fresh z p) (λ p. p.2) (r.new z h);
        listed = λ z h. ⊎_elim (λ p. r.keep_seen z (v.listed z (in_tail z x stack p))) (λ p. p) (r.stacked z h);
        once = r.once v.once;
        closed = λ z h.
            ⊎_elim
            (λ p.
            ⊎_elim
            (λ q.
            ⊎_elim
            (λ e. inr (λ y a. r.met y (subst (λ w. In y (neighbours w js)) e a)))
            (λ s. inl (r.keep_stack z s))
            (in_cases z x stack q))
            (λ q. inr (λ y a. ⊎_elim inl (λ s. inr (r.keep_seen y s)) (q y a)))
            (v.closed z p))
            (λ p. inl p.0)
            (r.new z h);
      }

  search_runs :
      (n : ℕ) (stack seen : List ℕ)
      → Searching js old i stack seen
      → length stack + free m seen ≤ n
      → Searching js old i [] (search_from n js old stack seen)
  unfolding search_from
  search_runs zero [] seen v f = v
  search_runs zero (x ∷ stack) seen v f = absurd (omega arith)
  search_runs (suc n) [] seen v f = v
  search_runs (suc n) (x ∷ stack) seen v f =
      let r : Looked m old (neighbours x js) stack seen
      (look old (neighbours x js) (stack, seen)).0
      (look old (neighbours x js) (stack, seen)).1 =
      looked m old (neighbours x js) stack seen (λ y h. bound x y h) in
      search_runs
      n
      (look old (neighbours x js) (stack, seen)).0
      (look old (neighbours x js) (stack, seen)).1
      (search_turns x stack seen _ _ v r)
      (let w : _ = r.spent in omega arith)

  -- it has ended: no panel before has i
  pub searched : has i old ≡ false → i < m → Ended (Beside js) old i (search_from m js old (i ∷ []) (i ∷ []))
  searched out l =
      let f : free m [] ≡ suc (free m ([] ++ (i ∷ []))) = free_snoc m i [] l refl in
      let g : free m [] ≡ m = free_none m in
      let v : Searching js old i [] (search_from m js old (i ∷ []) (i ∷ [])) = search_runs m (i ∷ []) (i ∷ []) begun (omega arith) in
      record {
        start = v.start;
        connected = v.connected;
        fresh = v.fresh;
        once = v.once;
        closed = λ x y h a. ⊎_elim (λ p. clash p refl) (λ p. p y a) (v.closed x h);
      }
    where
      begun : Searching js old i (i ∷ []) (i ∷ [])
      begun = record {
        start = in_head i [];
        connected = λ z h. here (sym (in_one z i h));
        fresh = λ z h. rw (in_one z i h) out;
        listed = λ z h. h;
        once = once_one i;
        closed = λ z h. inl h;
      }
