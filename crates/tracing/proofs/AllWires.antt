-- All wires: those that are written, and before them those that are still to come, are the whole; below the position that the loop has
-- come to no edge is left. Assumes nothing.
use mathlib.Core.Path.{◌≡◌, sym, ap, ap₂, ◌∙◌, subst}
use mathlib.Core.Bool.{Bool, true, false}
use mathlib.Core.Option.{some}
use mathlib.Core.List.{List, [], ◌∷◌, ◌++◌, append_assoc, append-nil, map, map-append}
use Prim.Native.Nat.{ℕ, suc, ◌+◌, ◌≤◌, ◌<◌}
use native.Mathlib.Omega.{arith}
use lib.Dec.{leb, ltb}
use lib.ListN.{length, get_or, set, length-set, length-append, length-map}
use lib.Seq.{sets, length-sets}
use borrow.Author.Tests.{ltb-true, ltb-false}
use Rattle.lists.specs.Lists.{joined, keep_if}
use Rattle.lists.proofs.Bools.{by_cases}
use Rattle.lists.proofs.Parts.{joined_append}
use Rattle.lists.proofs.Writing.{sets_append, sets_snoc}
use Rattle.mesh.specs.Limits.{corner_limit}
use Rattle.edges.specs.Edges.{Edge}
use Rattle.tracing.specs.Hems.{Written, outs, pairs}
use Rattle.tracing.specs.Following.{least_start_lem, Walk, entry}
use Rattle.tracing.specs.Tables.{left_from, left, Stands}
use Rattle.tracing.specs.Tracing.{trace, traces, Unwritten, OneMore, Room}
use Rattle.tracing.proofs.Entries.{entry_none, entry_outs, trace_kept, trace_outs, start_traced, traces_step, traces_end}
use Rattle.tracing.proofs.Tables.{length_pairs, none_left, entry_left, least_left, left_none}

-- ---- what is left is no more than there was, so that a wire's length is a small number

pub left_few : (firsts : List ℕ) (i : ℕ) (h : List Edge) → length (left_from firsts i h) ≤ length h
left_few firsts i [] = omega arith
left_few firsts i (e ∷ h) = go (leb (get_or firsts e.0 0) i) (left_few firsts (suc i) h)
  where
    go : (b : Bool) → length (left_from firsts (suc i) h) ≤ length h → length (keep_if b e (left_from firsts (suc i) h)) ≤ suc (length h)
    go true l = omega arith
    go false l = omega arith

pub left_length : {starts ends nexts firsts : List ℕ} → Stands starts ends nexts firsts → length (left starts ends firsts) ≤ length starts
unfolding left
left_length {starts} {ends} {nexts} {firsts} s =
    let a : length (left_from firsts 0 (pairs starts ends)) ≤ length (pairs starts ends) = left_few firsts 0 (pairs starts ends) in
    let b : length (pairs starts ends) ≡ length starts = length_pairs starts ends s.edges.paired in
    omega arith

pub wire_small : {starts ends nexts firsts : List ℕ} → Stands starts ends nexts firsts → (f c : ℕ) → length (trace f c (left starts ends firsts)).0 ≤ 4097
wire_small {starts} {ends} {nexts} {firsts} s f c =
    let a : length (left starts ends firsts) ≤ length starts = left_length s in
    let b : length starts ≤ corner_limit = s.edges.few in
    omega (arith, (trace_kept f c (left starts ends firsts)).long)

-- ---- one wire more behind those that are written

written_more :
    {done : List (List ℕ)} {flat₀ lengths₀ flat lengths flat' lengths' : List ℕ} {m k m' k' : ℕ} (w : List ℕ)
    → Written done flat₀ lengths₀ flat lengths m k → flat' ≡ sets flat m w → lengths' ≡ set lengths k (length w) → m' ≡ m + length w → k' ≡ k + 1
    → Written (done ++ (w ∷ [])) flat₀ lengths₀ flat' lengths' m' k'
written_more {done} {flat₀} {lengths₀} {flat} {lengths} {flat'} {lengths'} {m} {k} {m'} {k'} w r a b c d =
    let j : joined (done ++ (w ∷ [])) ≡ joined done ++ w = joined_append done (w ∷ []) ∙ ap (λ (l : List ℕ). joined done ++ l) (append-nil w) in
    let l : length (joined (done ++ (w ∷ []))) ≡ length (joined done) + length w = ap length j ∙ length-append (joined done) w in
    let n : length (done ++ (w ∷ [])) ≡ length done + 1 = length-append done (w ∷ []) in
    let lm : length (map length done) ≡ length done = length-map done length in
    record {
      flat_is =
          a ∙ ap₂ (λ (x : List ℕ) (y : ℕ). sets x y w) r.flat_is (r.numbers_is ∙ omega arith)
          ∙ sym (sets_append flat₀ 0 (joined done) w) ∙ ap (sets flat₀ 0) (sym j);
      lengths_is =
          b ∙ ap₂ (λ (x : List ℕ) (y : ℕ). set x y (length w)) r.lengths_is (r.wires_is ∙ omega arith)
          ∙ sym (sets_snoc lengths₀ 0 (map length done) (length w)) ∙ ap (sets lengths₀ 0) (sym (map-append length done (w ∷ [])));
      numbers_is = omega (arith, r.numbers_is);
      wires_is = omega (arith, r.wires_is);
    }

-- ---- the loop

pub record Gathering (starts ends nexts firsts₀ flat₀ lengths₀ firsts flat lengths : List ℕ) (m k p : ℕ) : Type 0 where
  pub stands : Stands starts ends nexts firsts
  pub same : length firsts ≡ length firsts₀
  pub flat_same : length flat ≡ length flat₀
  pub lengths_same : length lengths ≡ length lengths₀
  pub upto : p ≤ length firsts
  pub passed : (s : ℕ) → s < p → length starts ≤ get_or firsts s 0
  pub done : List (List ℕ)
  pub whole : traces (left starts ends firsts₀) ≡ done ++ traces (left starts ends firsts)
  pub written : Written done flat₀ lengths₀ flat lengths m k
  pub room : Room (traces (left starts ends firsts₀)) flat₀ lengths₀

module _
    {starts ends nexts firsts₀ flat₀ lengths₀ firsts flat lengths : List ℕ} {m k p : ℕ}
    (t : Gathering starts ends nexts firsts₀ flat₀ lengths₀ firsts flat lengths m k p) (inside : p < length firsts) where
  -- an edge at p: a wire begins there
  module _ (h : get_or firsts p 0 < length starts) where
    abbrev g : List Edge
    g = left starts ends firsts

    abbrev w : Walk
    w = trace p p g

    least : least_start_lem g ≡ some p
    least = least_left starts ends nexts firsts t.stands.edges t.stands.linked p inside t.passed h

    opened : traces (left starts ends firsts₀) ≡ t.done ++ (w.0 ∷ traces w.1)
    opened = t.whole ∙ ap (λ (ws : List (List ℕ)). t.done ++ ws) (traces_step g p least)

    pub gather_ready : Unwritten starts ends nexts firsts p flat lengths m k
    gather_ready =
        let a : length (joined (traces (left starts ends firsts₀))) ≡ length (joined t.done) + length (w.0 ++ joined (traces w.1)) =
        ap (λ (l : List (List ℕ)). length (joined l)) opened
        ∙ ap length (joined_append t.done (w.0 ∷ traces w.1))
        ∙ length-append (joined t.done) (w.0 ++ joined (traces w.1)) in
        let b : length (w.0 ++ joined (traces w.1)) ≡ length w.0 + length (joined (traces w.1)) = length-append w.0 (joined (traces w.1)) in
        let c : length (traces (left starts ends firsts₀)) ≡ length t.done + suc (length (traces w.1)) =
        ap length opened ∙ length-append t.done (w.0 ∷ traces w.1) in
        record {
          begun = record { stands = t.stands; inside = inside; room = omega (arith, t.room.numbers, t.written.numbers_is, t.flat_same) };
          slot = omega (arith, t.room.wires, t.written.wires_is, t.lengths_same);
        }

    fewer : length w.1 < length g
    unfolding trace
    fewer = (start_traced (length g) p g least).fewer

    module _
        {firsts' flat' lengths' : List ℕ} {m' k' : ℕ} (r : OneMore starts ends nexts w flat lengths m k firsts' flat' lengths' m' k')
        (same_length : length firsts' ≡ length firsts) where
      abbrev g' : List Edge
      g' = left starts ends firsts'

      -- the wire takes away, so that below p no edge is left
      still_passed : (s : ℕ) → s < p → length starts ≤ get_or firsts' s 0
      still_passed s l =
          by_cases (ltb (get_or firsts' s 0) (length starts))
          (λ q.
          let st : Stands starts ends nexts firsts' = r.ended.stands in
          let e : entry s g' ≡ some (s, get_or ends (get_or firsts' s 0) 0) =
          entry_left starts ends nexts firsts' st.edges st.linked s (omega arith) (ltb-true (get_or firsts' s 0) (length starts) q) in
          let a : 0 < outs s g' = entry_outs s g' (s, get_or ends (get_or firsts' s 0) 0) e in
          let b : outs s g' ≡ outs s w.1 = ap (outs s) r.ended.left_is in
          let c : outs s w.1 ≤ outs s g = trace_outs s p p g in
          let d : outs s g ≡ 0 =
          entry_none s g (none_left starts ends nexts firsts t.stands.edges t.stands.linked s (omega arith) (t.passed s l)) in
          absurd (omega arith))
          (λ q. ltb-false (get_or firsts' s 0) (length starts) q)

      pub gather_less : length g' < length g
      gather_less = let a : length g' ≡ length w.1 = ap length r.ended.left_is in let b : length w.1 < length g = fewer in omega arith

      pub gather_turns : Gathering starts ends nexts firsts₀ flat₀ lengths₀ firsts' flat' lengths' m' k' p
      gather_turns =
          record {
            stands = r.ended.stands;
            same = same_length ∙ t.same;
            flat_same = ap length r.ended.flat_is ∙ length-sets flat m w.0 ∙ t.flat_same;
            lengths_same = ap length r.lengths_is ∙ length-set lengths k (length w.0) ∙ t.lengths_same;
            upto = omega (arith, t.upto);
            passed = still_passed;
            done = t.done ++ (w.0 ∷ []);
            whole =
                opened
                ∙ sym (append_assoc t.done (w.0 ∷ []) (traces w.1))
                ∙ ap (λ (l : List Edge). (t.done ++ (w.0 ∷ [])) ++ traces l) (sym r.ended.left_is);
            written = written_more w.0 t.written r.ended.flat_is r.lengths_is r.ended.end_is r.wires_is;
            room = t.room;
          }

-- at the last position nothing is left
pub gather_ends :
    {starts ends nexts firsts₀ flat₀ lengths₀ firsts flat lengths : List ℕ} {m k p : ℕ}
    → Gathering starts ends nexts firsts₀ flat₀ lengths₀ firsts flat lengths m k p → length firsts ≤ p
    → Written (traces (left starts ends firsts₀)) flat₀ lengths₀ flat lengths m k
gather_ends {starts} {ends} {nexts} {firsts₀} {flat₀} {lengths₀} {firsts} {flat} {lengths} {m} {k} {p} t h =
    let e : left starts ends firsts ≡ [] = left_none starts ends nexts firsts t.stands.edges t.stands.linked (λ s l. t.passed s (omega arith)) in
    let a : traces (left starts ends firsts₀) ≡ t.done =
    t.whole ∙ ap (λ (ws : List (List ℕ)). t.done ++ ws) (traces_end (left starts ends firsts) e) ∙ append-nil t.done in
    subst (λ (ws : List (List ℕ)). Written ws flat₀ lengths₀ flat lengths m k) (sym a) t.written
