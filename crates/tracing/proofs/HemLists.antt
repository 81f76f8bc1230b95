-- The hem edges of a mesh as two lists: how many there are, and that they stand in the two lists that `hems_of` fills. Assumes nothing.
use mathlib.Core.Path.{◌≡◌, sym, ap, ap₂, ◌∙◌}
use mathlib.Core.Bool.{true}
use mathlib.Core.List.{List}
use Prim.Native.Nat.{ℕ, ◌/◌, ◌≤◌, ◌<◌}
use native.Mathlib.Omega.{arith}
use lib.Dec.{ltb}
use lib.ListN.{length, get_or, take, replicate, length-map, length-replicate, get_or-map}
use borrow.Author.Tests.{ltb-true}
use Rattle.lists.specs.Lists.{every}
use Rattle.lists.proofs.Bools.{and_left, and_right}
use Rattle.lists.specs.Putting.{Front}
use Rattle.lists.proofs.Fronts.{front}
use Rattle.lists.proofs.Parts.{every_at}
use Rattle.mesh.specs.Limits.{width, entry_limit, corner_limit}
use Rattle.mesh.specs.Mesh.{rings}
use Rattle.edges.specs.Edges.{Edge, edges_of, hems}
use Rattle.tracing.specs.Hems.{pairs, EdgeLists}
use Rattle.edges.specs.Runs.{Edged}
use Rattle.edges.specs.Answers.{Hemmed}
use Rattle.edges.specs.declared.Hems.{Hems}
use Rattle.edges.proofs.OfHems.{hems_few, hems_every}
use Rattle.uses.proofs.Sides.{inside, length_uses, uses_inside}
use Rattle.tracing.specs.Answers.{corner_count}
use Rattle.tracing.proofs.Tables.{starts_of, ends_of, pairs_of}

-- ---- the hem edges as lists of starts and ends

pub edge_lists : (n : ℕ) (h : List Edge) → n ≤ entry_limit → length h ≤ corner_limit → every (inside n) h ≡ true → EdgeLists (starts_of h) (ends_of h) entry_limit
edge_lists n h small few q =
    let a : length (starts_of h) ≡ length h = length-map h (λ (e : Edge). e.0) in
    let b : length (ends_of h) ≡ length h = length-map h (λ (e : Edge). e.1) in
    record {
      paired = a ∙ sym b;
      few = omega arith;
      from =
          λ k l.
          let z : get_or (starts_of h) k 0 ≡ (get_or h k (0, 0)).0 = get_or-map (λ (e : Edge). e.0) h k (0, 0) in
          let t : inside n (get_or h k (0, 0)) ≡ true = every_at (inside n) (0, 0) h k q (omega arith) in
          let m : (get_or h k (0, 0)).0 < n = ltb-true (get_or h k (0, 0)).0 n (and_left (ltb (get_or h k (0, 0)).0 n) (ltb (get_or h k (0, 0)).1 n) t) in
          omega arith;
      into =
          λ k l.
          let z : get_or (ends_of h) k 0 ≡ (get_or h k (0, 0)).1 = get_or-map (λ (e : Edge). e.1) h k (0, 0) in
          let t : inside n (get_or h k (0, 0)) ≡ true = every_at (inside n) (0, 0) h k q (omega arith) in
          let m : (get_or h k (0, 0)).1 < n = ltb-true (get_or h k (0, 0)).1 n (and_right (ltb (get_or h k (0, 0)).0 n) (ltb (get_or h k (0, 0)).1 n) t) in
          omega arith;
    }

-- the hem edges of a mesh that is accepted: one per corner at most, between its positions
module _ {cs s : List ℕ} {n : ℕ} (e : Edged cs s n) where
  pub hem_count_is : length (hems (edges_of (rings s cs))) ≤ corner_count cs
  hem_count_is =
      let a : length (hems (edges_of (rings s cs))) ≤ length (edges_of (rings s cs)) = hems_few (edges_of (rings s cs)) in
      let b : length (edges_of (rings s cs)) ≡ length cs / width = length_uses cs s e.sound in
      omega arith

  hem_few : length (hems (edges_of (rings s cs))) ≤ corner_limit
  hem_few = omega (arith, hem_count_is, e.sound.fits)

  pub hem_lists : EdgeLists (starts_of (hems (edges_of (rings s cs)))) (ends_of (hems (edges_of (rings s cs)))) entry_limit
  hem_lists =
      edge_lists n (hems (edges_of (rings s cs))) e.few hem_few (hems_every (inside n) (edges_of (rings s cs)) (uses_inside cs s n e))

-- ---- the two lists that hold them, each with a number for every corner that a mesh may have

module _
    {cs s : List ℕ} {n : ℕ} (e : Edged cs s n) {starts₀ ends₀ starts' ends' : List ℕ} {r : Hems}
    (starts-blank : starts₀ ≡ replicate corner_limit 0) (ends-blank : ends₀ ≡ replicate corner_limit 0)
    (g : Hemmed (edges_of (rings s cs)) starts₀ ends₀ starts' ends' r) where
  abbrev h : List Edge
  h = hems (edges_of (rings s cs))

  starts_count : length (starts_of h) ≡ length h
  starts_count = length-map h (λ (x : Edge). x.0)

  ends_count : length (ends_of h) ≡ length h
  ends_count = length-map h (λ (x : Edge). x.1)

  starts_front : Front starts' (starts_of h) r.count
  starts_front =
      let a : length starts₀ ≡ corner_limit = ap length starts-blank ∙ length-replicate {A = ℕ} corner_limit 0 in
      front starts₀ g.starting (starts_count ∙ sym g.count) (omega (arith, g.count, hem_few e))

  ends_front : Front ends' (ends_of h) r.count
  ends_front =
      let a : length ends₀ ≡ corner_limit = ap length ends-blank ∙ length-replicate {A = ℕ} corner_limit 0 in
      front ends₀ g.ending (ends_count ∙ sym g.count) (omega (arith, g.count, hem_few e))

  pub starts_fit : r.count ≤ length starts'
  starts_fit = starts_front.within

  pub starts_counted : r.count ≡ length (take r.count starts')
  starts_counted = starts_front.long

  pub starts_are : take r.count starts' ≡ starts_of h
  starts_are = starts_front.is

  pub ends_fit : r.count ≤ length ends'
  ends_fit = ends_front.within

  pub ends_counted : r.count ≡ length (take r.count ends')
  ends_counted = ends_front.long

  pub ends_are : take r.count ends' ≡ ends_of h
  ends_are = ends_front.is

-- the wires of the two lists are those of the hem edges
pub same_wires : (f : List Edge → List (List ℕ)) (h : List Edge) {ss zs : List ℕ} → ss ≡ starts_of h → zs ≡ ends_of h → f (pairs ss zs) ≡ f h
same_wires f h a b = ap f (ap₂ pairs a b ∙ pairs_of h)
