-- What the functions are given, of a mesh that is accepted and whose verdict allows wires; and that the wires by the rows are the house
-- wires. Assumes nothing.
use mathlib.Core.Path.{◌≡◌, refl, sym, ap, ◌∙◌, subst}
use mathlib.Core.Bool.{true, false}
use mathlib.Core.List.{List, map}
use Prim.Native.Nat.{ℕ, ◌*◌, ◌≤◌, ◌<◌}
use native.Mathlib.Omega.{arith}
use lib.ListN.{length, get_or, length-map}
use Rattle.lists.specs.Lists.{only, has}
use Rattle.lists.proofs.Bools.{and_both}
use Rattle.lists.proofs.Counting.{count_all}
use Rattle.lists.proofs.Alike.{Alike, some_alike}
use Rattle.lists.proofs.Members.{In}
use Rattle.lists.proofs.Only.{only_length, only_all, every_self}
use Rattle.lists.proofs.Others.{has_only}
use Rattle.lists.proofs.Places.{in_at, has_get_d}
use Rattle.sorting.specs.Sorting.{All}
use Rattle.sorting.proofs.Laws.{all_only, sorted_only}
use Rattle.mesh.specs.Limits.{width, corner_limit}
use Rattle.mesh.specs.Mesh.{rings}
use Rattle.edges.specs.Edges.{Edge, same, edges_of, thrice, alike, verdict, hems}
use Rattle.edges.proofs.HemUses.{not_irregular, not_regular}
use Rattle.edges.proofs.OfHems.{hems_within}
use Rattle.uses.specs.Uses.{lower_of, higher_of, down_of}
use Rattle.uses.proofs.Gathering.{uses_room, order_row}
use Rattle.tracing.specs.Answers.{corner_count}
use Rattle.tracing.specs.Hems.{Written}
use Rattle.tracing.specs.Tracing.{Room}
use Rattle.turning.specs.Rows.{edge_at, place_count}
use Rattle.turning.specs.Turning.{onward, house_wires, house_wires_of}
use Rattle.turning.specs.Promise.{Fit, HemsTurn}
use Rattle.turning.proofs.Crossing.{edges_once}
use Rattle.turning.proofs.Places.{place_one}
use Rattle.turning.proofs.Onward.{onward_round, onward_start}
use Rattle.turning.proofs.Listed.{trails_alike}
use Rattle.turning.proofs.Promised.{fit_irregular, fit_regular, hems_turn}
use Rattle.crossing.specs.Crossing.{after_row, follow_row, alone}
use Rattle.crossing.specs.Turned.{Rowed, faces_in, Turned}
use Rattle.crossing.proofs.Follow.{length_follows}
use Rattle.crossing.proofs.Rowed.{after_room, twin_room, crossable, twins_length, place_begins}
use Rattle.crossing.proofs.Turned.{rows_turn}
use Rattle.trailing.specs.Trailing.{wires_by, AllLeft}
use Rattle.hemming.specs.Rows.{Hemmable, twins_of, Turnable, TurnedBy, hem_places, by_start, wires_from, Beginning, starts_in, wires_in, Traceable}
use Rattle.hemming.proofs.Started.{length_started, started_at, sorted_agree}
use Rattle.hemming.proofs.Trails.{left_at, Goes, Rising, Below, rising_only, wires_are}
use Rattle.hemming.proofs.HemPlaces.{hems_alike}
use Rattle.hemming.proofs.Ascending.{start_row, all_by_start, uses_count, start_at, start_below, sorted_row, sorted_all, sorted_rises}

-- ---- the rows as they are when the hems are traced: A has each place's next, T its twin

module _
    (cs s : List ℕ) (n : ℕ) (l h d order old A T : List ℕ) (r : Rowed cs s n l h d order old A T) (fit : Fit (verdict (edges_of (rings s cs))))
    (starts : List ℕ) (start-room : length starts ≡ corner_count cs) where
  abbrev fs : List (List ℕ)
  fs = faces_in cs s

  abbrev es : List Edge
  es = edges_of (rings s cs)

  abbrev edge : ℕ → Edge
  edge = edge_at (faces_in cs s)

  abbrev F : List ℕ
  F = follow_row A T

  -- the hem places, their starts, and all places by start
  abbrev P : List ℕ
  P = hem_places T order

  abbrev S : List ℕ
  S = starts_in cs order starts T

  abbrev Q : List ℕ
  Q = all_by_start cs n order

  count_is : place_count fs ≡ corner_count cs
  count_is = uses_count cs s n r.edged l h d order r.gathered

  T_long : length T ≡ place_count fs
  T_long = twins_length cs s n l h d order old A T r

  S_long : length S ≡ place_count fs
  S_long = length_started cs P starts ∙ start-room ∙ sym count_is

  few : place_count fs ≤ corner_limit
  few = omega (arith, count_is, r.edged.sound.fits)

  ni : thrice es ≡ false
  ni = not_irregular es (fit_irregular (verdict es) fit)

  nr : alike es ≡ false
  nr = not_regular es (fit_irregular (verdict es) fit) (fit_regular (verdict es) fit)

  turned : Turned fs T F
  turned = rows_turn cs s n l h d order old A T r fit

  begins : (u : ℕ) → u < place_count fs → (edge u).0 ≡ get_or cs (width * u) 0
  begins = place_begins cs s n l h d order old A T r

  -- ---- the hem places

  ordered : All (λ x. x < place_count fs) order
  ordered = (order_row cs s n r.edged l h d order r.gathered).below

  known : All (λ x. x < place_count fs) P
  unfolding hem_places
  known = all_only (λ x. x < place_count fs) (alone T) order ordered

  hems_few : length P ≤ length order
  unfolding hem_places
  hems_few = only_length (alone T) order

  hem_below : (x : ℕ) → In x P → x < place_count fs
  hem_below x i = let q : (k : ℕ) × (k < length P) × (get_or P k 0 ≡ x) = in_at x P i in subst (λ (y : ℕ). y < place_count fs) q.2 (known q.0 q.1)

  hem_in : (u : ℕ) → u < place_count fs → alone T u ≡ true → In u P
  unfolding hem_places
  hem_in u k q = has_only (alone T) u order ∙ and_both (alone T u) (has u order) q ((order_row cs s n r.edged l h d order r.gathered).all u k)

  -- each has its start
  start_is : (x : ℕ) → In x P → get_or S x 0 ≡ get_or cs (width * x) 0
  start_is x i = started_at cs x P starts i (let k : x < place_count fs = hem_below x i in omega (arith, start-room, count_is))

  begins_row : (u : ℕ) → u < place_count fs → alone T u ≡ true → (edge u).0 ≡ get_or S u 0
  begins_row u k q = begins u k ∙ sym (start_is u (hem_in u k q))

  -- sorted by start they are those of all places sorted by start
  hems_sorted : by_start n S P ≡ only (alone T) Q
  unfolding by_start hem_places all_by_start
  hems_sorted =
      sorted_agree n S (start_row cs (corner_count cs)) P
      (λ x i. start_is x i ∙ sym (start_at cs s n r.edged l h d order r.gathered x (hem_below x i)))
      ∙ sym (sorted_only (alone T) n (start_row cs (corner_count cs)) order)

  -- so they ascend by their edges
  rises : Rising edge (only (alone T) Q)
  rises =
      rising_only edge (alone T) Q
      (sorted_rises cs s n r.edged l h d order r.gathered begins (λ u v a b z. place_one es (edges_once es ni nr) u v a b z))

  all_below : All (λ x. x < place_count fs) (only (alone T) Q)
  all_below = all_only (λ x. x < place_count fs) (alone T) Q (sorted_row cs s n r.edged l h d order r.gathered).below

  below : Below (place_count fs) (only (alone T) Q)
  below x i =
      let q : (k : ℕ) × (k < length (only (alone T) Q)) × (get_or (only (alone T) Q) k 0 ≡ x) = in_at x (only (alone T) Q) i in
      subst (λ (y : ℕ). y < place_count fs) q.2 (all_below q.0 q.1)

  -- ---- the edges that are left at the beginning are the hem edges

  abbrev H : List Edge
  H = left_at edge T (only (alone T) Q)

  hems_are : Alike (hems es) H
  hems_are =
      subst (λ (k : List ℕ). Alike (hems es) (map edge k)) (sym (only_all (alone T) (only (alone T) Q) (every_self (alone T) Q)))
      (hems_alike fs ni nr T turned.hem_is Q (sorted_all cs s n r.edged l h d order r.gathered))

  hems_long : length H ≡ length (hems es)
  hems_long = sym (count_all H) ∙ sym (hems_are.agree (λ x. true)) ∙ count_all (hems es)

  goes : Goes (onward fs) (length (hems es)) (length (hems es)) H
  goes = record {
    wires = omega (arith, hems_long);
    steps = omega (arith, hems_long);
    round = λ x. sym (hems_are.agree (λ y. same x (onward fs y))) ∙ onward_round fs ni nr x ∙ hems_are.agree (same x);
    joint = λ x i. onward_start fs ni nr x (some_alike (same x) hems_are ∙ i);
  }

  -- so the wires by the rows are the house wires
  pub house_are : wires_in cs n order starts (follow_row A T) T ≡ house_wires_of (rings s cs)
  unfolding wires_from house_wires
  house_are =
      ap (λ (k : List ℕ). wires_by S F k T) hems_sorted
      ∙ wires_are fs ni nr S F T turned few begins_row (only (alone T) Q) rises below (length (hems es)) (length (hems es)) T
      (record { long = T_long; fewer = λ u k z. z }) goes
      ∙ sym (trails_alike (onward fs) (length (hems es)) (length (hems es)) (hems es) H hems_are)

  -- ---- room for them

  module _ {flat lengths : List ℕ} (numbers : corner_count cs ≤ length flat) (wires : corner_count cs ≤ length lengths) where
    house_room : Room (house_wires_of (rings s cs)) flat lengths
    house_room =
        let t : HemsTurn fs = hems_turn fs fit in
        let w : length (hems es) ≤ corner_count cs = hems_within cs s n r.edged in
        record { numbers = omega (arith, t.edges_add_up); wires = omega (arith, t.wires_few) }

    all_left : AllLeft S F T (by_start n S P) flat lengths
    unfolding wires_from
    all_left = record {
      rows = record {
        few = omega (arith, few, T_long);
        started = S_long ∙ sym T_long;
        followed = length_follows A T;
        inside = λ u k. subst (λ (m : ℕ). get_or F u 0 < m) (sym T_long) (turned.inside u (omega (arith, T_long)));
      };
      known =
          subst (λ (k : List ℕ). (i : ℕ) → i < length k → get_or k i 0 < length T) (sym hems_sorted)
          (λ i k. subst (λ (m : ℕ). get_or (only (alone T) Q) i 0 < m) (sym T_long) (all_below i k));
      room = subst (λ (ws : List (List ℕ)). Room ws flat lengths) (sym house_are) house_room;
    }

    beginning : (out : List ℕ) → length out ≡ length P → Beginning n S P out F T flat lengths
    beginning out w = record {
      sortable = record {
        few = omega (arith, r.edged.few);
        keyed = record {
          fits = let o : length order ≡ corner_count cs = uses_room cs s n r.edged l h d order r.gathered in omega (arith, hems_few, few, count_is);
          named = λ t k. subst (λ (m : ℕ). get_or P t 0 < m) (sym S_long) (known t k);
          below = λ t k.
              subst (λ (x : ℕ). x < n)
              (start_at cs s n r.edged l h d order r.gathered (get_or P t 0) (known t k) ∙ sym (start_is (get_or P t 0) (has_get_d P t k)))
              (start_below cs s n r.edged l h d order r.gathered (get_or P t 0) (known t k));
        };
        room = omega (arith, w);
      };
      whole = w;
      all_left = all_left;
    }

    pub traceable :
        (sorted kept : List ℕ) → length sorted ≡ corner_count cs → length kept ≡ corner_count cs
        → Traceable cs n order starts sorted kept (follow_row A T) T flat lengths
    traceable sorted kept a b =
        let o : length order ≡ corner_count cs = uses_room cs s n r.edged l h d order r.gathered in
        record {
          keeping = record {
            cornered = sym count_is ∙ sym T_long;
            startable = start-room ∙ sym count_is ∙ sym T_long;
            known = λ i k. subst (λ (m : ℕ). get_or order i 0 < m) (sym T_long) (ordered i k);
            room = omega (arith, b);
          };
          room = omega (arith, a);
          beginning = beginning;
        }

-- ---- the same of the functions' own rows

module _
    {cs s : List ℕ} {n : ℕ} {l h d first order twins flat lengths : List ℕ} (p : Hemmable cs s n l h d first order twins flat lengths) where
  uses_are : length (edges_of (rings s cs)) ≡ corner_count cs
  uses_are = uses_count cs s n p.edged l h d order p.gathered

  lower_long : length l ≡ corner_count cs
  lower_long = ap length p.gathered.columns.lower ∙ length-map (edges_of (rings s cs)) lower_of ∙ uses_are

  higher_long : length h ≡ corner_count cs
  higher_long = ap length p.gathered.columns.higher ∙ length-map (edges_of (rings s cs)) higher_of ∙ uses_are

  rowed : (A T : List ℕ) → A ≡ after_row s → T ≡ twins_of l h order twins → Rowed cs s n l h d order twins A T
  rowed A T a t =
      record { edged = p.edged; gathered = p.gathered; room = p.twin_room ∙ sym lower_long; after_is = a; twins_are = t }

  pub rows_turnable : Turnable s l h d order first twins
  rows_turnable =
      let r : Rowed cs s n l h d order twins (after_row s) (twins_of l h order twins) = rowed (after_row s) (twins_of l h order twins) refl refl in
      record {
        next_room = after_room cs s first p.edged.sound p.next_room;
        twin_room = twin_room cs s n l h d order twins p.edged p.gathered (p.twin_room ∙ sym lower_long);
        crossable = crossable cs s n l h d order twins (after_row s) (twins_of l h order twins) r;
        follow_room =
            ap length p.gathered.columns.down
            ∙ length-map (edges_of (rings s cs)) down_of
            ∙ sym (twins_length cs s n l h d order twins (after_row s) (twins_of l h order twins) r);
      }

  module _ {d' A T : List ℕ} (t : TurnedBy s l h order twins d' A T) where
    r : Rowed cs s n l h d order twins A T
    r = rowed A T t.after_is t.twins_are

    follows_are : d' ≡ follow_row A T
    follows_are = t.follows_are ∙ sym (λ i. follow_row (t.after_is i) (t.twins_are i))

    after_long : length A ≡ corner_count cs
    after_long =
        (crossable cs s n l h d order twins A T r).long
        ∙ twins_length cs s n l h d order twins A T r
        ∙ uses_are

    pub rows_traceable : Traceable cs n order l h A d' T flat lengths
    rows_traceable =
        subst (λ (f : List ℕ). Traceable cs n order l h A f T flat lengths) (sym follows_are)
        (traceable cs s n l h d order twins A T r p.fit l lower_long p.numbers p.wires h A higher_long after_long)

    pub rows_wired :
        {flat' lengths' : List ℕ} {numbers wires : ℕ} → Written (wires_in cs n order l d' T) flat lengths flat' lengths' numbers wires
        → Written (house_wires_of (rings s cs)) flat lengths flat' lengths' numbers wires
    rows_wired {flat'} {lengths'} {numbers} {wires} w =
        subst (λ (ws : List (List ℕ)). Written ws flat lengths flat' lengths' numbers wires)
        (ap (λ (f : List ℕ). wires_in cs n order l f T) follows_are ∙ house_are cs s n l h d order twins A T r p.fit l lower_long)
        w
