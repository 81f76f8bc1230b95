-- The panels of the faces below i, one face more, and all of them. Assumes nothing.
use mathlib.Core.Path.{◌≡◌, refl, sym, ap, ap₂, ◌∙◌, subst}
use mathlib.Core.Bool.{true, false}
use mathlib.Core.List.{List, [], ◌∷◌, ◌++◌, map, map-append}
use Prim.Native.Nat.{ℕ, zero, suc, ◌+◌, ◌-◌, ◌≤◌, ◌<◌}
use native.Mathlib.Nat.{add-zero, zero-add}
use native.Mathlib.Numerals.{add-one}
use native.Mathlib.Omega.{arith}
use lib.ListN.{length, get_or, take, drop, set, length-append, length-map, length-replicate, get_or-replicate, take-append-drop}
use lib.Seq.{sets, length-take-le, take-suc-set, drop-set-lt}
use Rattle.lists.specs.Lists.{has, joined}
use Rattle.lists.proofs.Bools.{by_cases}
use Rattle.lists.proofs.Counting.{clash}
use Rattle.lists.proofs.Parts.{joined_snoc}
use Rattle.lists.proofs.Writing.{sets_front}
use Rattle.connected.specs.Search.{Join, search_from, panels_from}
use Rattle.connected.specs.Joins.{joins_of}
use Rattle.connected.specs.Walk.{mark_of, Searched, panels_below, Panelling, PanelledMore, Partable, Parted}
use Rattle.connected.proofs.Walking.{not_seen, drop_further}

-- ---- one face more

-- by the first face: it is in a panel, or its panel comes behind
from_listed : (d i n : ℕ) (js : List Join) (ps : List (List ℕ)) → has i (joined ps) ≡ true → panels_from (suc d) i n js ps ≡ panels_from d (suc i) n js ps
unfolding panels_from
from_listed d i n js ps h = rw (h, panels_from)

from_new :
    (d i n : ℕ) (js : List Join) (ps : List (List ℕ)) → has i (joined ps) ≡ false
    → panels_from (suc d) i n js ps ≡ panels_from d (suc i) n js (ps ++ (search_from n js (joined ps) (i ∷ []) (i ∷ []) ∷ []))
unfolding panels_from
from_new d i n js ps h = rw (h, panels_from)

from_none : (i n : ℕ) (js : List Join) (ps : List (List ℕ)) → panels_from 0 i n js ps ≡ ps
unfolding panels_from
from_none i n js ps = refl

-- by the last face
pub panels_stay :
    (d i n : ℕ) (js : List Join) (ps : List (List ℕ)) → has (i + d) (joined (panels_from d i n js ps)) ≡ true
    → panels_from (suc d) i n js ps ≡ panels_from d i n js ps
panels_stay zero i n js ps h =
    from_listed 0 i n js ps (ap (λ (k : ℕ). has k (joined ps)) (sym (add-zero i)) ∙ ap (λ (l : List (List ℕ)). has (i + 0) (joined l)) (sym (from_none i n js ps)) ∙ h)
    ∙ from_none (suc i) n js ps
    ∙ sym (from_none i n js ps)
panels_stay (suc d) i n js ps h =
    let e : suc i + d ≡ i + suc d = omega arith in
    by_cases (has i (joined ps))
    (λ t.
    from_listed (suc d) i n js ps t
    ∙ panels_stay d (suc i) n js ps (ap₂ (λ (k : ℕ) (l : List (List ℕ)). has k (joined l)) e (sym (from_listed d i n js ps t)) ∙ h)
    ∙ sym (from_listed d i n js ps t))
    (λ t.
    from_new (suc d) i n js ps t
    ∙ panels_stay d (suc i) n js (ps ++ (search_from n js (joined ps) (i ∷ []) (i ∷ []) ∷ []))
    (ap₂ (λ (k : ℕ) (l : List (List ℕ)). has k (joined l)) e (sym (from_new d i n js ps t)) ∙ h)
    ∙ sym (from_new d i n js ps t))

abbrev panel_of : ℕ → ℕ → List Join → List (List ℕ) → List ℕ
panel_of i n js ps = search_from n js (joined ps) (i ∷ []) (i ∷ [])

pub panels_grow :
    (d i n : ℕ) (js : List Join) (ps : List (List ℕ)) → has (i + d) (joined (panels_from d i n js ps)) ≡ false
    → panels_from (suc d) i n js ps ≡ panels_from d i n js ps ++ (panel_of (i + d) n js (panels_from d i n js ps) ∷ [])
panels_grow zero i n js ps h =
    from_new 0 i n js ps (ap (λ (k : ℕ). has k (joined ps)) (sym (add-zero i)) ∙ ap (λ (l : List (List ℕ)). has (i + 0) (joined l)) (sym (from_none i n js ps)) ∙ h)
    ∙ from_none (suc i) n js (ps ++ (panel_of i n js ps ∷ []))
    ∙ ap₂ (λ (l : List (List ℕ)) (k : ℕ). l ++ (panel_of k n js l ∷ [])) (sym (from_none i n js ps)) (sym (add-zero i))
panels_grow (suc d) i n js ps h =
    let e : suc i + d ≡ i + suc d = omega arith in
    by_cases (has i (joined ps))
    (λ t.
    from_listed (suc d) i n js ps t
    ∙ panels_grow d (suc i) n js ps (ap₂ (λ (k : ℕ) (l : List (List ℕ)). has k (joined l)) e (sym (from_listed d i n js ps t)) ∙ h)
    ∙ ap₂ (λ (l : List (List ℕ)) (k : ℕ). l ++ (panel_of k n js l ∷ [])) (sym (from_listed d i n js ps t)) e)
    (λ t.
    from_new (suc d) i n js ps t
    ∙ panels_grow d (suc i) n js (ps ++ (panel_of i n js ps ∷ []))
    (ap₂ (λ (k : ℕ) (l : List (List ℕ)). has k (joined l)) e (sym (from_new d i n js ps t)) ∙ h)
    ∙ ap₂ (λ (l : List (List ℕ)) (k : ℕ). l ++ (panel_of k n js l ∷ [])) (sym (from_new d i n js ps t)) e)

-- the same from face 0 on
module _ (i f : ℕ) (joins : List ℕ) where
  below_stay : has i (joined (panels_below i f joins)) ≡ true → panels_below (i + 1) f joins ≡ panels_below i f joins
  below_stay h =
      ap (λ (k : ℕ). panels_below k f joins) (add-one i)
      ∙ panels_stay i 0 f (joins_of joins) [] (ap (λ (k : ℕ). has k (joined (panels_below i f joins))) (zero-add i) ∙ h)

  below_grow :
      has i (joined (panels_below i f joins)) ≡ false
      → panels_below (i + 1) f joins ≡ panels_below i f joins ++ (panel_of i f (joins_of joins) (panels_below i f joins) ∷ [])
  below_grow h =
      ap (λ (k : ℕ). panels_below k f joins) (add-one i)
      ∙ panels_grow i 0 f (joins_of joins) [] (ap (λ (k : ℕ). has k (joined (panels_below i f joins))) (zero-add i) ∙ h)
      ∙ ap (λ (k : ℕ). panels_below i f joins ++ (panel_of k f (joins_of joins) (panels_below i f joins) ∷ [])) (zero-add i)

module _ (i : ℕ) (joins ends seen stack flat lengths : List ℕ) (n k : ℕ) (r : Panelling i joins ends seen stack flat lengths n k) (h : i < length ends) where
  listed_is : has i (joined (panels_below i (length ends) joins)) ≡ has i (take n flat)
  listed_is = ap (has i) (sym r.faces)

  -- face i is in a panel
  pub panel_stays : (get_or seen i 0 ≡ 0 → ⊥) → PanelledMore (i + 1) joins ends flat lengths n k seen stack flat lengths n k
  panel_stays ne =
      let t : has i (take n flat) ≡ true =
      by_cases (has i (take n flat)) (λ b. b) (λ b. absurd (ne (r.listing.marked i h ∙ ap mark_of b))) in
      let e : panels_below (i + 1) (length ends) joins ≡ panels_below i (length ends) joins = below_stay i (length ends) joins (listed_is ∙ t) in
      record {
        panelling = record {
          listing = r.listing;
          faces = r.faces ∙ ap joined (sym e);
          sizes = r.sizes ∙ ap (map length) (sym e);
          few = let a : k ≤ i = r.few in omega arith;
          room = r.room;
        };
        more_faces = omega arith;
        more_panels = omega arith;
        rest_faces = refl;
        rest_panels = refl;
      }

  pub panel_new : get_or seen i 0 ≡ 0 → has i (take n flat) ≡ false
  panel_new e = not_seen (length ends) i seen stack flat 0 n r.listing h e

  pub panel_room : k < length lengths
  panel_room = let a : k ≤ i = r.few in let b : length ends ≤ length lengths = r.room in omega arith

  -- it is in none: its panel comes behind
  pub panel_grows :
      (seen' stack' flat' : List ℕ) (m : ℕ) → get_or seen i 0 ≡ 0
      → Searched (length ends) (search_from (length ends) (joins_of joins) (take n flat) (i ∷ []) (i ∷ [])) flat n seen' stack' flat' m
      → PanelledMore (i + 1) joins ends flat lengths n k seen' stack' flat' (set lengths k (m - n)) m (k + 1)
  panel_grows seen' stack' flat' m z s = record {
    panelling = record {
      listing = s.listing;
      faces =
          s.listed
          ∙ ap₂ (λ (l p : List ℕ). l ++ p) r.faces (ap (λ (l : List ℕ). search_from (length ends) (joins_of joins) l (i ∷ []) (i ∷ [])) r.faces)
          ∙ sym (joined_snoc (panels_below i (length ends) joins) (panel_of i (length ends) (joins_of joins) (panels_below i (length ends) joins)))
          ∙ ap joined (sym grown);
      sizes =
          ap (λ (j : ℕ). take j (set lengths k (m - n))) (add-one k)
          ∙ take-suc-set lengths k (m - n) panel_room
          ∙ ap₂ (λ (l : List ℕ) (v : ℕ). l ++ (v ∷ [])) r.sizes size
          ∙ sym (map-append length (panels_below i (length ends) joins) (panel_of i (length ends) (joins_of joins) (panels_below i (length ends) joins) ∷ []))
          ∙ ap (map length) (sym grown);
      few = let a : k ≤ i = r.few in omega arith;
      room = let a : length (set lengths k (m - n)) ≡ length lengths = lib.ListN.length-set lengths k (m - n) in let b : length ends ≤ length lengths = r.room in omega arith;
    };
    more_faces = s.more;
    more_panels = omega arith;
    rest_faces = s.rest;
    rest_panels = drop-set-lt (k + 1) lengths k (m - n) (omega arith);
  }
    where
      grown : panels_below (i + 1) (length ends) joins ≡ panels_below i (length ends) joins ++ (panel_of i (length ends) (joins_of joins) (panels_below i (length ends) joins) ∷ [])
      grown = below_grow i (length ends) joins (listed_is ∙ panel_new z)

      size : m - n ≡ length (panel_of i (length ends) (joins_of joins) (panels_below i (length ends) joins))
      size =
          let p : List ℕ = search_from (length ends) (joins_of joins) (take n flat) (i ∷ []) (i ∷ []) in
          let a : length (take m flat') ≡ m = length-take-le m flat' (let x : m ≤ length ends = s.listing.few in let y : length ends ≤ length flat' = s.listing.room in omega arith) in
          let b : length (take n flat) ≡ n = length-take-le n flat (let x : n ≤ length ends = r.listing.few in let y : length ends ≤ length flat = r.listing.room in omega arith) in
          let c : length (take m flat') ≡ length (take n flat) + length p = ap length s.listed ∙ length-append (take n flat) p in
          let d : length p ≡ length (panel_of i (length ends) (joins_of joins) (panels_below i (length ends) joins)) =
          ap (λ (l : List ℕ). length (search_from (length ends) (joins_of joins) l (i ∷ []) (i ∷ []))) r.faces in
          omega arith

-- ---- all faces

pub record PanellingOn (joins ends flat₀ lengths₀ seen stack flat lengths : List ℕ) (n k i : ℕ) : Type 0 where
  pub within : i ≤ length ends
  pub on : PanelledMore i joins ends flat₀ lengths₀ 0 0 seen stack flat lengths n k
  pub flat_long : length flat ≡ length flat₀
  pub lengths_long : length lengths ≡ length lengths₀

pub list_begins : (joins order ends seen stack flat lengths : List ℕ) → Partable joins order ends seen stack flat lengths → PanellingOn joins ends flat lengths seen stack flat lengths 0 0 0
list_begins joins order ends seen stack flat lengths p = record {
  within = omega arith;
  on = record {
    panelling = record {
      listing = record {
        small = p.small;
        seen_long = ap length p.unseen ∙ length-replicate (length ends) 0;
        stack_long = p.stack_long;
        room = p.faces_room;
        few = omega arith;
        under = omega arith;
        marked = λ x h. ap (λ (l : List ℕ). get_or l x 0) p.unseen ∙ get_or-replicate (length ends) x 0 0 h;
        once = λ x. omega arith;
        below = λ x h. clash h refl;
        stacked = λ x h. clash h refl;
      };
      faces = ap joined (sym (from_none 0 (length ends) (joins_of joins) []));
      sizes = ap (map length) (sym (from_none 0 (length ends) (joins_of joins) []));
      few = omega arith;
      room = p.panels_room;
    };
    more_faces = omega arith;
    more_panels = omega arith;
    rest_faces = refl;
    rest_panels = refl;
  };
  flat_long = refl;
  lengths_long = refl;
}

pub list_turns :
    (joins ends flat₀ lengths₀ seen stack flat lengths seen' stack' flat' lengths' : List ℕ) (n k i n' k' : ℕ) → i < length ends
    → length flat' ≡ length flat → length lengths' ≡ length lengths
    → PanelledMore (i + 1) joins ends flat lengths n k seen' stack' flat' lengths' n' k'
    → PanellingOn joins ends flat₀ lengths₀ seen stack flat lengths n k i
    → PanellingOn joins ends flat₀ lengths₀ seen' stack' flat' lengths' n' k' (i + 1)
list_turns joins ends flat₀ lengths₀ seen stack flat lengths seen' stack' flat' lengths' n k i n' k' h g l m r = record {
  within = omega arith;
  on = record {
    panelling = m.panelling;
    more_faces = omega arith;
    more_panels = omega arith;
    rest_faces = m.rest_faces ∙ drop_further flat flat₀ n n' m.more_faces r.on.rest_faces;
    rest_panels = m.rest_panels ∙ drop_further lengths lengths₀ k k' m.more_panels r.on.rest_panels;
  };
  flat_long = g ∙ r.flat_long;
  lengths_long = l ∙ r.lengths_long;
}

-- a list whose front is known and whose rest is as it was
front_rest : (l l₀ vs : List ℕ) (n : ℕ) → length l ≡ length l₀ → n ≤ length l → take n l ≡ vs → drop n l ≡ drop n l₀ → (n ≡ length vs) × (l ≡ sets l₀ 0 vs)
front_rest l l₀ vs n g h t d =
    let a : length (take n l) ≡ n = length-take-le n l h in
    let b : length (take n l) ≡ length vs = ap length t in
    let e : n ≡ length vs = omega arith in (
      e,
      sym (take-append-drop n l) ∙ ap₂ (λ (x y : List ℕ). x ++ y) t (d ∙ ap (λ (k : ℕ). drop k l₀) e) ∙ sym (sets_front l₀ vs (omega arith)),
    )

pub list_ends :
    (joins ends flat₀ lengths₀ seen stack flat lengths : List ℕ) (n k i : ℕ) → length ends ≤ i
    → PanellingOn joins ends flat₀ lengths₀ seen stack flat lengths n k i
    → Parted (panels_below (length ends) (length ends) joins) flat₀ lengths₀ flat lengths n k
list_ends joins ends flat₀ lengths₀ seen stack flat lengths n k i h r =
    let e : i ≡ length ends = omega (arith, r.within) in
    let p : Panelling (length ends) joins ends seen stack flat lengths n k =
    subst (λ (j : ℕ). Panelling j joins ends seen stack flat lengths n k) e r.on.panelling in
    let f : (n ≡ length (joined (panels_below (length ends) (length ends) joins))) × (flat ≡ sets flat₀ 0 (joined (panels_below (length ends) (length ends) joins))) =
    front_rest flat flat₀ (joined (panels_below (length ends) (length ends) joins)) n r.flat_long
    (let x : n ≤ length ends = p.listing.few in let y : length ends ≤ length flat = p.listing.room in omega arith)
    p.faces r.on.rest_faces in
    let s : (k ≡ length (map length (panels_below (length ends) (length ends) joins))) × (lengths ≡ sets lengths₀ 0 (map length (panels_below (length ends) (length ends) joins))) =
    front_rest lengths lengths₀ (map length (panels_below (length ends) (length ends) joins)) k r.lengths_long
    (let x : k ≤ length ends = p.few in let y : length ends ≤ length lengths = p.room in omega arith)
    p.sizes r.on.rest_panels in
    record {
      faces_are = f.0;
      count_is = s.0 ∙ length-map (panels_below (length ends) (length ends) joins) length;
      flat_is = f.1;
      lengths_are = s.1;
    }
