-- Where no two hem edges start at one position, the map of the ported wires takes up every hem edge and none takes another's place: at
-- each start it has the one edge that the list has, which is what turning through the cloth leads to. So both kinds of wires are one.
-- Assumes nothing.
use mathlib.Core.Path.{◌≡◌, refl, sym, ap, ◌∙◌}
use mathlib.Core.Bool.{Bool, true, false, cond}
use mathlib.Core.List.{List, [], ◌∷◌, ◌++◌, append-nil, append_assoc}
use Prim.Native.Nat.{ℕ, suc, ◌+◌, ◌≤◌}
use native.Mathlib.Omega.{arith}
use lib.Dec.{ltb, eqb}
use lib.ListN.{length, length-append}
use borrow.Author.Tests.{eqb-true, eq-eqb}
use Rattle.lists.specs.Lists.{bump, keep_if}
use Rattle.lists.proofs.Counting.{bump_plus}
use Rattle.edges.specs.Edges.{Edge, mesh_edges, verdict, hems}
use Rattle.edges.proofs.HemUses.{not_irregular, not_regular}
use Rattle.tracing.specs.Hems.{outs}
use Rattle.tracing.specs.Tracing.{traces}
use Rattle.tracing.proofs.Twins.{from, Twin, outs_from, twin_traces}
use Rattle.turning.specs.Turning.{onward, house_wires}
use Rattle.turning.specs.Promise.{Fit}
use Rattle.turning.proofs.Onward.{onward_round, onward_start}
use Rattle.turning.proofs.Promised.{fit_irregular, fit_regular}
use Rattle.ported.specs.Ported.{put, fill, ported_wires}
use Rattle.wires.specs.Promises.{OneEach, PortedIsHouse}
use Rattle.wires.proofs.OnlyEdge.{traces_trails}

none_from : (s : ℕ) (t : List Edge) → outs s t ≡ 0 → from s t ≡ []
none_from s t o = go (from s t) (sym (outs_from s t) ∙ o)
  where
    go : (l : List Edge) → length l ≡ 0 → l ≡ []
    go [] e = refl
    go (x ∷ l) e = absurd (omega arith)

from_cons : (s : ℕ) (e : Edge) (h : List Edge) → from s (e ∷ h) ≡ from s (e ∷ []) ++ from s h
from_cons s e h = go (eqb s e.0)
  where
    go : (b : Bool) → keep_if b e (from s h) ≡ keep_if b e [] ++ from s h
    go true = refl
    go false = refl

-- an edge whose start is new to the map comes behind those with its start, of which there are none
put_from : (s : ℕ) (d : Edge) (t : List Edge) → outs d.0 t ≡ 0 → from s (put d t) ≡ from s t ++ from s (d ∷ [])
put_from s d [] o = refl
put_from s d (e ∷ t) o =
    go (ltb d.0 e.0) (eqb d.0 e.0) refl (put_from s d t (omega (arith, o, bump_plus (eqb d.0 e.0) (outs d.0 t))))
  where
    front : (b : Bool) → eqb s d.0 ≡ b → keep_if b d (from s (e ∷ t)) ≡ from s (e ∷ t) ++ keep_if b d []
    front true q =
        let z : from s (e ∷ t) ≡ [] = none_from s (e ∷ t) (ap (λ (v : ℕ). outs v (e ∷ t)) (eqb-true s d.0 q) ∙ o) in
        ap (λ (l : List Edge). d ∷ l) z ∙ sym (ap (λ (l : List Edge). l ++ (d ∷ [])) z)
    front false q = sym (append-nil (from s (e ∷ t)))

    behind : (b : Bool) → from s (put d t) ≡ from s t ++ from s (d ∷ []) → keep_if b e (from s (put d t)) ≡ keep_if b e (from s t) ++ from s (d ∷ [])
    behind true h = ap (λ (l : List Edge). e ∷ l) h
    behind false h = h

    go :
        (b c : Bool) → eqb d.0 e.0 ≡ c → from s (put d t) ≡ from s t ++ from s (d ∷ [])
        → from s (cond b (d ∷ e ∷ t) (cond c (d ∷ t) (e ∷ put d t))) ≡ from s (e ∷ t) ++ from s (d ∷ [])
    go true c q h = front (eqb s d.0) refl
    go false true q h =
        let z : bump (eqb d.0 e.0) (outs d.0 t) ≡ 0 = o in
        let y : bump true (outs d.0 t) ≡ 0 = sym (ap (λ (b : Bool). bump b (outs d.0 t)) q) ∙ z in
        absurd (omega arith)
    go false false q h = behind (eqb s e.0) h

-- the whole map, where every start is new when its edge comes
fill_from :
    (t h : List Edge) → ((s : ℕ) → outs s t + outs s h ≤ 1) → (s : ℕ) → from s (fill t h) ≡ from s t ++ from s h
fill_from t [] u s = sym (append-nil (from s t))
fill_from t (e ∷ h) u s =
    fill_from (put e t) h single s
    ∙ ap (λ (l : List Edge). l ++ from s h) (put_from s e t new)
    ∙ append_assoc (from s t) (from s (e ∷ [])) (from s h)
    ∙ ap (λ (l : List Edge). from s t ++ l) (sym (from_cons s e h))
  where
    new : outs e.0 t ≡ 0
    new =
        let a : outs e.0 t + bump (eqb e.0 e.0) (outs e.0 h) ≤ 1 = u e.0 in
        let b : bump (eqb e.0 e.0) (outs e.0 h) ≡ suc (outs e.0 h) = ap (λ (b : Bool). bump b (outs e.0 h)) (eq-eqb e.0 e.0 refl) in
        omega arith

    single : (v : ℕ) → outs v (put e t) + outs v h ≤ 1
    single v =
        let a : outs v t + bump (eqb v e.0) (outs v h) ≤ 1 = u v in
        let b : outs v (put e t) ≡ length (from v t ++ from v (e ∷ [])) = outs_from v (put e t) ∙ ap length (put_from v e t new) in
        let c : length (from v t ++ from v (e ∷ [])) ≡ length (from v t) + length (from v (e ∷ [])) = length-append (from v t) (from v (e ∷ [])) in
        let d : outs v t ≡ length (from v t) = outs_from v t in
        let f : bump (eqb v e.0) 0 ≡ length (from v (e ∷ [])) = outs_from v (e ∷ []) in
        let g : bump (eqb v e.0) (outs v h) ≡ outs v h + bump (eqb v e.0) 0 = bump_plus (eqb v e.0) (outs v h) in
        omega arith

-- the ported wires are followed in the very list of edges
ported_traced : (h : List Edge) → OneEach h → ported_wires h ≡ traces h
unfolding ported_wires traces
ported_traced h u =
    let t : Twin (fill [] h) h = record { at = fill_from [] h (λ s. let one : outs s h ≤ 1 = u s in omega arith) } in
    twin_traces (length h) (suc (length h)) t

-- and so are the house wires
house_traced : (fs : List (List ℕ)) → Fit (verdict (mesh_edges fs)) → OneEach (hems (mesh_edges fs)) → traces (hems (mesh_edges fs)) ≡ house_wires fs
unfolding traces house_wires
house_traced fs v u =
    let h : List Edge = hems (mesh_edges fs) in
    let i : _ = fit_irregular (verdict (mesh_edges fs)) v in
    let ni : _ = not_irregular (mesh_edges fs) i in
    let nr : _ = not_regular (mesh_edges fs) i (fit_regular (verdict (mesh_edges fs)) v) in
    traces_trails (onward fs) (length h) (suc (length h)) (length h) h (omega arith) (omega arith) (onward_round fs ni nr) (onward_start fs ni nr) u

pub ported_is_house : PortedIsHouse
ported_is_house fs v u = ported_traced (hems (mesh_edges fs)) u ∙ house_traced fs v u
