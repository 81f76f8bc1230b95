-- Two calls of `house_wires`, and two of `extract_boundaries`, on meshes with the same faces. Assumes nothing.
use mathlib.Core.Path.{◌≡◌, refl, sym, ap, ◌∙◌}
use mathlib.Core.Logic.{◌⊎◌, inl, inr}
use mathlib.Core.Bool.{Bool, true, false, cond, not}
use mathlib.Core.List.{List, [], ◌∷◌, map}
use Prim.Native.Nat.{ℕ, suc, ◌+◌, ◌≤◌}
use native.Mathlib.Omega.{arith}
use lib.Dec.{ltb, eqb}
use lib.ListN.{length, take, length-map}
use Rattle.lists.specs.Lists.{joined}
use Rattle.mesh.specs.Mesh.{Mesh, position, faces}
use Rattle.mesh.specs.Listed.{Listed}
use Rattle.mesh.specs.Table.{mesh_number, when}
use Rattle.edges.specs.Edges.{Edge, Verdict, Irregular, Regular, Oriented, Closed, verdict, hems}
use Rattle.edges.specs.Answers.{mesh_edges_of, verdict_of}
use Rattle.edges.specs.declared.ShellCondition.{ShellCondition}
use Rattle.edges.proofs.OfHems.{mesh_hems_within}
use Rattle.house.specs.Answers.{wired, house_number}
use Rattle.ported.specs.Answers.{ported_number}
use Rattle.tracing.specs.Answers.{Answered}
use Rattle.turning.specs.Turning.{onward, house_wires_of}
use Rattle.ported.specs.Ported.{put, fill, ported_wires}
use Rattle.tracing.specs.Tracing.{traces}
use Rattle.ported.proofs.Answering.{ported_done}
use Rattle.house.proofs.Answering.{house_verdict}
use Rattle.turning.proofs.Closing.{Used, turned_used}
use Rattle.tracing.proofs.Entries.{traces_enough, Roomy, traces_roomy}
use Rattle.order.specs.Demand.{SameEdges}
use Rattle.calls.specs.Calls.{corners_of, VerdictCall, Says, WiresLeft, HouseCall, PortedCall}
use Rattle.calls.specs.Order.{SameWires, Wired, SameHouse}
use Rattle.calls.proofs.Fronts.{front, as_many}
use Rattle.calls.proofs.Verdicts.{said, unsaid}

-- ---- two calls that answer 0, with the same wires

-- there is room for the wires
record Fits (ws : List (List ℕ)) (lists : Listed) : Type 0 where
  numbers : length (joined ws) ≤ length lists.flat
  wires : length ws ≤ length lists.lengths

-- a call with the number i and the wires ws, as its contract has it
abbrev Answers : ℕ → List (List ℕ) → Listed → WiresLeft → Type 0
Answers i ws before r = Answered i ws before r.lists r.answer

module _ {i : ℕ} {ws : List (List ℕ)} {before : Listed} (r : WiresLeft) (c : Answers i ws before r) (z : i ≡ 0) (f : Fits ws before) where
  flat_front : take r.answer.flat r.lists.flat ≡ joined ws
  flat_front =
      front before.flat r.lists.flat (joined ws) i (length (joined ws)) r.answer.flat z c.flat_is c.flat_count refl f.numbers

  lengths_front : take r.answer.wires r.lists.lengths ≡ map length ws
  lengths_front =
      let k : length (map (length {A = ℕ}) ws) ≡ length ws = length-map ws (length {A = ℕ}) in
      front before.lengths r.lists.lengths (map length ws) i (length ws) r.answer.wires z c.lengths_is c.wire_count (sym k)
      (omega (arith, f.wires))

wires_agree :
    {i j : ℕ} {ws us : List (List ℕ)} {before before₂ : Listed} (r q : WiresLeft)
    → Answers i ws before r → Answers j us before₂ q → i ≡ 0 → j ≡ 0 → Fits ws before → Fits us before₂
    → ws ≡ us
    → SameWires r q
wires_agree {i} {j} {ws} {us} r q c d z y f g e = record {
  done = (c.number_is ∙ z, d.number_is ∙ y);
  as_many_numbers =
      as_many i j (length (joined ws)) (length (joined us)) r.answer.flat q.answer.flat z y c.flat_count d.flat_count
      (ap (λ (l : List (List ℕ)). length (joined l)) e);
  as_many_wires =
      as_many i j (length ws) (length us) r.answer.wires q.answer.wires z y c.wire_count d.wire_count (ap length e);
  same_flat = flat_front r c z f ∙ ap joined e ∙ sym (flat_front q d y g);
  same_lengths = lengths_front r c z f ∙ ap (map length) e ∙ sym (lengths_front q d y g);
}

-- ---- house wires

-- where the verdict is Oriented or Closed there is a number for each hem edge, and so room for them
wired_fits :
    (m : Mesh) → mesh_number m ≡ 0 → (verdict (mesh_edges_of m) ≡ Irregular → ⊥) → (verdict (mesh_edges_of m) ≡ Regular → ⊥)
    → (lists : Listed) → corners_of m ≤ length lists.flat → corners_of m ≤ length lists.lengths
    → Fits (house_wires_of (faces m)) lists
wired_fits m z n r lists g h =
    let u : Used (onward (map (map position) (faces m))) (hems (mesh_edges_of m)) (house_wires_of (faces m)) =
    turned_used (map (map position) (faces m)) n r in
    record {
      numbers = omega (arith, u.numbers, mesh_hems_within m z);
      wires = omega (arith, u.wires, mesh_hems_within m z);
    }

-- the number by the verdict
ten : Verdict → ℕ
ten v = when (not (wired v)) 10

wired_zero : (v : Verdict) → (v ≡ Oriented) ⊎ (v ≡ Closed) → ten v ≡ 0
unfolding ten
wired_zero v (inl e) = ap ten e
wired_zero v (inr e) = ap ten e

unwired_ten : (v : Verdict) → (v ≡ Oriented → ⊥) → (v ≡ Closed → ⊥) → ten v ≡ 10
unfolding ten
unwired_ten Irregular o c = refl
unwired_ten Regular o c = refl
unwired_ten Oriented o c = absurd (o refl)
unwired_ten Closed o c = absurd (c refl)

-- Oriented or Closed is neither Irregular nor Regular
not_irregular : (v : Verdict) → ten v ≡ 0 → v ≡ Irregular → ⊥
unfolding ten
not_irregular v e q = let k : ten v ≡ 10 = ap ten q in omega arith

not_regular : (v : Verdict) → ten v ≡ 0 → v ≡ Regular → ⊥
unfolding ten
not_regular v e q = let k : ten v ≡ 10 = ap ten q in omega arith

module _ (m : Mesh) (z : mesh_number m ≡ 0) (r : HouseCall m) where
  house_number_is : house_number m (length r.before.flat) (length r.before.lengths) ≡ ten (verdict (mesh_edges_of m))
  unfolding ten
  house_number_is = house_verdict m (length r.before.flat) (length r.before.lengths) z r.flat_room r.lengths_room

  house_fits : ten (verdict (mesh_edges_of m)) ≡ 0 → Fits (house_wires_of (faces m)) r.before
  house_fits e =
      wired_fits m z (not_irregular (verdict (mesh_edges_of m)) e) (not_regular (verdict (mesh_edges_of m)) e) r.before
      r.flat_room r.lengths_room

  house_ten : ten (verdict (mesh_edges_of m)) ≡ 10 → r.left.answer.number ≡ 10
  house_ten e = r.contract.number_is ∙ house_number_is ∙ e

module _ (m n : Mesh) (a : mesh_number m ≡ 0) (b : mesh_number n ≡ 0) (d : SameEdges (faces m) (faces n)) (v : VerdictCall m) where
  verdict_wired : Wired v → (verdict (mesh_edges_of m) ≡ Oriented) ⊎ (verdict (mesh_edges_of m) ≡ Closed)
  unfolding verdict_of
  verdict_wired (inl e) = inl (said m a v ShellCondition.Oriented e)
  verdict_wired (inr e) = inr (said m a v ShellCondition.Closed e)

  pub house_agree : (r : HouseCall m) (q : HouseCall n) → SameHouse v r q
  house_agree r q = record {
    same_wires = λ w.
        let e : ten (verdict (mesh_edges_of m)) ≡ 0 = wired_zero (verdict (mesh_edges_of m)) (verdict_wired w) in
        let f : ten (verdict (mesh_edges_of n)) ≡ 0 = sym (ap ten d.one_verdict) ∙ e in
        wires_agree r.left q.left r.contract q.contract (house_number_is m a r ∙ e) (house_number_is n b q ∙ f)
        (house_fits m a r e) (house_fits n b q f)
        (d.same_wires (verdict_wired w));
    refused = λ w.
        let e : ten (verdict (mesh_edges_of m)) ≡ 10 =
        unwired_ten (verdict (mesh_edges_of m)) (unsaid m a v Oriented (λ s. w (inl s))) (unsaid m a v Closed (λ s. w (inr s))) in
        (house_ten m a r e, house_ten n b q (sym (ap ten d.one_verdict) ∙ e));
  }

-- ---- ported wires

put_length : (e : Edge) (t : List Edge) → length (put e t) ≤ suc (length t)
put_length e [] = omega arith
put_length e (x ∷ t) = go (ltb e.0 x.0) (eqb e.0 x.0) (put_length e t)
  where
    go : (b c : Bool) → length (put e t) ≤ suc (length t) → length (cond b (e ∷ x ∷ t) (cond c (e ∷ t) (x ∷ put e t))) ≤ suc (suc (length t))
    go true c h = omega arith
    go false true h = omega arith
    go false false h = omega arith

fill_length : (t h : List Edge) → length (fill t h) ≤ length t + length h
fill_length t [] = omega arith
fill_length t (e ∷ h) =
    let a : length (fill (put e t) h) ≤ length (put e t) + length h = fill_length (put e t) h in
    let b : length (put e t) ≤ suc (length t) = put_length e t in
    omega arith

-- two numbers and one wire for each hem edge
ported_roomy : (h : List Edge) → Roomy h (ported_wires h)
unfolding ported_wires traces
ported_roomy h =
    let l : length (fill [] h) ≤ length h = omega (arith, fill_length [] h) in
    let e : ported_wires h ≡ traces (fill [] h) =
    traces_enough (length h) (length (fill [] h)) (length h) (length (fill [] h)) (fill [] h) l (omega arith) l (omega arith) in
    let r : Roomy (fill [] h) (traces (fill [] h)) = traces_roomy (fill [] h) in
    rw e (record { numbers = omega (arith, r.numbers); wires = omega (arith, r.wires) })

module _ (m : Mesh) (z : mesh_number m ≡ 0) (r : PortedCall m) where
  ported_zero : ported_number m (length r.before.flat) (length r.before.lengths) ≡ 0
  ported_zero = ported_done m (length r.before.flat) (length r.before.lengths) z r.flat_room r.lengths_room

  ported_fits : Fits (ported_wires (hems (mesh_edges_of m))) r.before
  ported_fits =
      let p : Roomy (hems (mesh_edges_of m)) (ported_wires (hems (mesh_edges_of m))) = ported_roomy (hems (mesh_edges_of m)) in
      record {
        numbers = omega (arith, p.numbers, mesh_hems_within m z, r.flat_room);
        wires = omega (arith, p.wires, mesh_hems_within m z, r.lengths_room);
      }

pub ported_agree :
    (m n : Mesh) → mesh_number m ≡ 0 → mesh_number n ≡ 0 → SameEdges (faces m) (faces n)
    → (v : VerdictCall m) (r : PortedCall m) (q : PortedCall n) → (Says v ShellCondition.Irregular → ⊥) → SameWires r.left q.left
ported_agree m n a b d v r q h =
    wires_agree r.left q.left r.contract q.contract (ported_zero m a r) (ported_zero n b q) (ported_fits m a r) (ported_fits n b q)
    (d.same_ported (unsaid m a v Irregular h))
