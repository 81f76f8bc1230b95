-- The first two neighbours of each position along a hem, one edge more at a time. Assumes nothing.
use Rattle.std.proofs.Common.{◌≡◌, refl, sym, ap, ap₂, ◌∙◌, subst, Bool, true, false, cond, List, [], ◌∷◌, ◌++◌, ℕ, ◌+◌, ◌≤◌, ◌<◌, arith, eqb, length, get_or, set, replicate, length-set}
use Rattle.std.proofs.Common.{get_or-set_same, get_or-set_other, eq-eqb, ne_eqb}
use lib.ListN.{length-replicate, get_or-replicate}
use Rattle.std.proofs.lemmas.List.{set-get_or}
use Rattle.lists.proofs.Buckets.{table_ext}
use Rattle.mesh.specs.Limits.{entry_limit}
use Rattle.mesh.specs.Mesh.{missing}
use Rattle.verdicts.specs.Edges.{Edge}
use Rattle.smoothed.specs.Around.{ends, across}
use Rattle.smoothed.proofs.All.{All, none, more, all_map, all_append}
use Rattle.smoothed.proofs.Inside.{all_only, all_mapped}
use Rattle.around.specs.Rows.{edge_at, hems_to, hems_in, neighbours_in, chosen_in, EdgeRows, HemsAre}
use Rattle.around.specs.Steps.{Hems, filled, second_filled, given, given_both, given_at}
use Rattle.around.proofs.Gathering.{steps, Gathered, Visited, gather_begins, gather_turns, Joins}
use Rattle.around.proofs.Edges.{hems_more, hems_same, joins}

-- ---- one entry

pub fill_missing : (x w : ℕ) → x ≡ missing → w ≡ filled x w
unfolding filled
fill_missing x w e = rw (eq-eqb x missing e)

pub fill_there : (x w : ℕ) → (x ≡ missing → ⊥) → x ≡ filled x w
unfolding filled
fill_there x w d = rw (ne_eqb x missing d)

pub second_missing : (x y w : ℕ) → x ≡ missing → y ≡ second_filled x y w
unfolding second_filled
second_missing x y w e = rw (eq-eqb x missing e)

pub second_there : (x y w r : ℕ) → (x ≡ missing → ⊥) → r ≡ filled y w → r ≡ second_filled x y w
unfolding second_filled
second_there x y w r d e = rw (ne_eqb x missing d) e

-- ---- all that come to one position

abbrev Pair : Type 0
Pair = ℕ × ℕ

abbrev pub hem_step : ℕ → ℕ → Pair → Pair
hem_step v w p = (filled p.0 w, second_filled p.0 p.1 w)

abbrev There : ℕ → Type 0
There w = w ≡ missing → ⊥

-- a third one and all behind it are left out
two_stay : (v a b : ℕ) → There a → There b → (ws : List ℕ) → steps (hem_step v) (a, b) ws ≡ (a, b)
two_stay v a b p q [] = refl
two_stay v a b p q (w ∷ ws) =
    ap₂ (λ (x y : ℕ). steps (hem_step v) (x, y) ws) (sym (fill_there a w p)) (sym (second_there a b w b p (fill_there b w q)))
    ∙ two_stay v a b p q ws

then_second : (v a : ℕ) → There a → {ws : List ℕ} → All There ws → steps (hem_step v) (a, missing) ws ≡ (a, get_or ws 0 missing)
then_second v a p none = refl
then_second v a p (more {x = w} {l = ws} q r) =
    ap₂ (λ (x y : ℕ). steps (hem_step v) (x, y) ws) (sym (fill_there a w p)) (sym (second_there a missing w w p (fill_missing missing w refl)))
    ∙ two_stay v a w p q ws

first_two : (v : ℕ) {ws : List ℕ} → All There ws → steps (hem_step v) (missing, missing) ws ≡ (get_or ws 0 missing, get_or ws 1 missing)
first_two v none = refl
first_two v (more {x = w} {l = ws} q r) =
    ap₂ (λ (x y : ℕ). steps (hem_step v) (x, y) ws) (sym (fill_missing missing w refl)) (sym (second_missing missing missing w refl))
    ∙ then_second v w q r

-- ---- two lists

module _ (first second : List ℕ) (v w : ℕ) where
  pub given_is :
      (x y : ℕ) → x ≡ filled (get_or first v 0) w → y ≡ second_filled (get_or first v 0) (get_or second v 0) w
      → ◌≡◌ {A = Hems} (set first v x, set second v y) (given v w (first, second))
  given_is x y p q = ap₂ (λ (a b : ℕ). (set first v a, set second v b)) p q

  -- the first entry is missing, or the second alone, or neither
  pub given_first : get_or first v 0 ≡ missing → ◌≡◌ {A = Hems} (set first v w, second) (given v w (first, second))
  given_first e =
      ap (λ (s : List ℕ). (set first v w, s)) (sym (set-get_or second v 0))
      ∙ given_is w (get_or second v 0) (fill_missing _ w e) (second_missing _ _ w e)

  module _ (there : get_or first v 0 ≡ missing → ⊥) where
    pub given_second : get_or second v 0 ≡ missing → ◌≡◌ {A = Hems} (first, set second v w) (given v w (first, second))
    given_second e =
        ap (λ (f : List ℕ). (f, set second v w)) (sym (set-get_or first v 0))
        ∙ given_is (get_or first v 0) w (fill_there _ w there) (second_there _ _ w w there (fill_missing _ w e))

    pub given_neither : (get_or second v 0 ≡ missing → ⊥) → ◌≡◌ {A = Hems} (first, second) (given v w (first, second))
    given_neither d =
        ap₂ (λ (f s : List ℕ). (f, s)) (sym (set-get_or first v 0)) (sym (set-get_or second v 0))
        ∙ given_is (get_or first v 0) (get_or second v 0) (fill_there _ w there) (second_there _ _ w _ there (fill_there _ w d))

abbrev entries : Hems → ℕ → Pair
entries h u = (get_or h.0 u 0, get_or h.1 u 0)

record Long (n : ℕ) (h : Hems) : Type 0 where
  first_long : length h.0 ≡ n
  second_long : length h.1 ≡ n

given_long : (n v w : ℕ) (h : Hems) → Long n h → Long n (given v w h)
given_long n v w h l = record {
  first_long = length-set h.0 v (filled (get_or h.0 v 0) w) ∙ l.first_long;
  second_long = length-set h.1 v (second_filled (get_or h.0 v 0) (get_or h.1 v 0) w) ∙ l.second_long;
}

given_visited : (n v w : ℕ) (h : Hems) → v < n → Long n h → Visited hem_step v w (entries h) (entries (given v w h))
given_visited n v w h b l =
    let x = filled (get_or h.0 v 0) w in
    let y = second_filled (get_or h.0 v 0) (get_or h.1 v 0) w in
    record {
      here =
          ap₂ (λ (a c : ℕ). (a, c))
          (get_or-set_same h.0 v x 0 (omega (arith, l.first_long)))
          (get_or-set_same h.1 v y 0 (omega (arith, l.second_long)));
      there = λ u q. ap₂ (λ (a c : ℕ). (a, c)) (get_or-set_other h.0 v u x 0 q) (get_or-set_other h.1 v u y 0 q);
    }

-- ---- one edge

module _ (ls hs ws : List ℕ) (e : ℕ) where
  pub edge_given :
      (h h₁ h₂ : Hems) (v u : ℕ) → get_or ws e 0 ≡ 1 → v ≡ get_or ls e 0 → u ≡ get_or hs e 0 → h₁ ≡ given v (get_or hs e 0) h → h₂ ≡ given u (get_or ls e 0) h₁
      → h₂ ≡ given_at ls hs ws e h
  unfolding given_at
  edge_given h h₁ h₂ v u t p q a b =
      let f : h₁ ≡ given (get_or ls e 0) (get_or hs e 0) h = a ∙ ap (λ (x : ℕ). given x (get_or hs e 0) h) p in
      rw (eq-eqb 1 (get_or ws e 0) (sym t))
      (b ∙ ap₂ (λ (x : ℕ) (g : Hems). given x (get_or ls e 0) g) q f)

  pub edge_left : (h : Hems) → (get_or ws e 0 ≡ 1 → ⊥) → h ≡ given_at ls hs ws e h
  unfolding given_at
  edge_left h t = rw (ne_eqb 1 (get_or ws e 0) (λ q. t (sym q)))

-- ---- the pass

-- the first e edges are passed
pub record Hemmed (n : ℕ) (ls hs ws : List ℕ) (h : Hems) (e : ℕ) : Type 0 where
  pub within : e ≤ length ls
  pub first_long : length h.0 ≡ n
  pub second_long : length h.1 ≡ n
  pub inside : All (Joins n) (hems_to ls hs ws e)
  pub gathered : Gathered hem_step (missing, missing) n (hems_to ls hs ws e) (entries h)

module _ (n : ℕ) (ls hs ws : List ℕ) where
  pub hem_begins : (first second : List ℕ) → first ≡ replicate n missing → second ≡ replicate n missing → Hemmed n ls hs ws (first, second) 0
  unfolding hems_to
  hem_begins first second p q = record {
    within = omega arith;
    first_long = ap length p ∙ length-replicate n missing;
    second_long = ap length q ∙ length-replicate n missing;
    inside = none;
    gathered =
        gather_begins hem_step (missing, missing) n (entries (first, second))
        (λ v b. ap₂ (λ (f s : List ℕ). entries (f, s) v) p q ∙ ap (λ (x : ℕ). (x, x)) (get_or-replicate n v missing 0 b));
  }

  -- an edge with one wing, and another
  more_turns :
      (h : Hems) (e : ℕ) → EdgeRows n ls hs → e < length ls → eqb 1 (get_or ws e 0) ≡ true → Hemmed n ls hs ws h e
      → Hemmed n ls hs ws (given_both (edge_at ls hs e) h) (e + 1)
  more_turns h e r b t c =
      let k : Edge = edge_at ls hs e in
      let j : Joins n k = joins ls hs n e r b in
      let q : hems_to ls hs ws (e + 1) ≡ hems_to ls hs ws e ++ (k ∷ []) = hems_more ls hs ws e t in
      let l : Long n h = record { first_long = c.first_long; second_long = c.second_long } in
      let m : Long n (given k.0 k.1 h) = given_long n k.0 k.1 h l in
      let o : Long n (given_both k h) = given_long n k.1 k.0 (given k.0 k.1 h) m in
      record {
        within = omega arith;
        first_long = o.first_long;
        second_long = o.second_long;
        inside = subst (All (Joins n)) (sym q) (all_append c.inside (more j none));
        gathered =
            subst (λ (es : List Edge). Gathered hem_step (missing, missing) n es (entries (given_both k h))) (sym q)
            (gather_turns hem_step (missing, missing) n k j.apart
            (given_visited n k.0 k.1 h j.lower_below l)
            (given_visited n k.1 k.0 (given k.0 k.1 h) j.higher_below m)
            c.gathered);
      }

  same_turns : (h : Hems) (e : ℕ) → e < length ls → eqb 1 (get_or ws e 0) ≡ false → Hemmed n ls hs ws h e → Hemmed n ls hs ws h (e + 1)
  same_turns h e b t c =
      let q : hems_to ls hs ws (e + 1) ≡ hems_to ls hs ws e = hems_same ls hs ws e t in
      record {
        within = omega arith;
        first_long = c.first_long;
        second_long = c.second_long;
        inside = subst (All (Joins n)) (sym q) c.inside;
        gathered = subst (λ (es : List Edge). Gathered hem_step (missing, missing) n es (entries h)) (sym q) c.gathered;
      }

  pub hem_turns :
      (h h' : Hems) (e : ℕ) → EdgeRows n ls hs → e < length ls → h' ≡ given_at ls hs ws e h → Hemmed n ls hs ws h e → Hemmed n ls hs ws h' (e + 1)
  unfolding given_at
  hem_turns h h' e r b q c = subst (λ (g : Hems). Hemmed n ls hs ws g (e + 1)) (sym q) (go (eqb 1 (get_or ws e 0)) refl)
    where
      go : (t : Bool) → eqb 1 (get_or ws e 0) ≡ t → Hemmed n ls hs ws (cond t (given_both (edge_at ls hs e) h) h) (e + 1)
      go true t = more_turns h e r b t c
      go false t = same_turns h e b t c

  -- a neighbour is one of n positions, and so not missing
  all_there : n ≤ entry_limit → {es : List Edge} → All (Joins n) es → (v : ℕ) → All There (neighbours_in es v)
  unfolding neighbours_in
  all_there f a v = all_mapped (across v) (all_only (ends v) (all_map (λ k j. go k j (eqb v k.0)) a))
    where
      go : (k : Edge) → Joins n k → (b : Bool) → There (cond b k.1 k.0)
      go k j true q = let z : k.1 < n = j.higher_below in omega arith
      go k j false q = let z : k.0 < n = j.lower_below in omega arith

  pub hem_ends :
      (first second : List ℕ) (e : ℕ) → n ≤ entry_limit → length ls ≤ e → Hemmed n ls hs ws (first, second) e
      → HemsAre n (hems_in ls hs ws) first second
  unfolding chosen_in
  hem_ends first second e f b c =
      let z : e ≡ length ls = omega (arith, c.within) in
      let at : (v : ℕ) → v < n → entries (first, second) v ≡ (get_or (neighbours_in (hems_in ls hs ws) v) 0 missing, get_or (neighbours_in (hems_in ls hs ws) v) 1 missing) =
      λ v u.
      c.gathered.at v u
      ∙ first_two v (all_there f c.inside v)
      ∙ ap (λ (m : ℕ). (get_or (neighbours_in (hems_to ls hs ws m) v) 0 missing, get_or (neighbours_in (hems_to ls hs ws m) v) 1 missing)) z in
      record {
        first_is = table_ext (λ v. get_or (neighbours_in (hems_in ls hs ws) v) 0 missing) n 0 first c.first_long (λ v u. ap (λ (p : Pair). p.0) (at v u));
        second_is = table_ext (λ v. get_or (neighbours_in (hems_in ls hs ws) v) 1 missing) n 0 second c.second_long (λ v u. ap (λ (p : Pair). p.1) (at v u));
      }
