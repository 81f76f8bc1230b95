-- Following a wire: what was passed, and before it what is still to come, is the whole wire. Assumes nothing.
use mathlib.Core.Path.{◌≡◌, refl, sym, ap, ap₂, ◌∙◌}
use mathlib.Core.List.{List, [], ◌∷◌, ◌++◌, append_assoc, append-nil}
use Prim.Native.Nat.{ℕ, suc, ◌+◌, ◌≤◌, ◌<◌}
use native.Mathlib.Nat.{add-zero}
use native.Mathlib.Omega.{arith}
use lib.ListN.{length, set, length-set, length-append}
use lib.Seq.{sets}
use Rattle.lists.proofs.Writing.{sets_snoc}
use Rattle.edges.specs.Edges.{Edge}
use Rattle.tracing.specs.Following.{Walk, longer}
use Rattle.tracing.specs.Tables.{left}
use Rattle.tracing.specs.Tracing.{trace, trace_on, Underway, StepTaken, Begun, Ended}
use Rattle.tracing.proofs.Entries.{trace_step, trace_home, trace_away}

pub record Following (starts ends nexts firsts₀ : List ℕ) (f : ℕ) (flat₀ : List ℕ) (at : ℕ) (firsts flat : List ℕ) (m c : ℕ) : Type 0 where
  pub underway : Underway starts ends nexts firsts f c
  pub same : length firsts ≡ length firsts₀
  pub passed : List ℕ
  pub wire : (trace f f (left starts ends firsts₀)).0 ≡ passed ++ (trace f c (left starts ends firsts)).0
  pub rest : (trace f f (left starts ends firsts₀)).1 ≡ (trace f c (left starts ends firsts)).1
  pub flat_is : flat ≡ sets flat₀ at passed
  pub long : length flat ≡ length flat₀
  pub place : m ≡ at + length passed
  pub here : m < length flat
  pub room : at + length (trace f f (left starts ends firsts₀)).0 ≤ length flat₀

-- a wire is not empty
trace_some : (f c : ℕ) (g : List Edge) → 0 < length (trace f c g).0
trace_some f c g = rw (trace_step f c g) (omega arith)

pub follow_begins :
    (starts ends nexts firsts : List ℕ) (f : ℕ) (flat : List ℕ) (at : ℕ) → Begun starts ends nexts firsts f flat at
    → Following starts ends nexts firsts f flat at firsts flat at f
follow_begins starts ends nexts firsts f flat at b =
    record {
      underway = record { stands = b.stands; home = b.inside; inside = b.inside };
      same = refl;
      passed = [];
      wire = refl;
      rest = refl;
      flat_is = refl;
      long = refl;
      place = sym (add-zero at);
      here = omega (arith, trace_some f f (left starts ends firsts), b.room);
      room = b.room;
    }

-- the wire from c on is c and the wire from where its entry leads
unrolled :
    {starts ends nexts : List ℕ} {f c : ℕ} {firsts firsts' : List ℕ} {r : ℕ} → StepTaken starts ends nexts f c firsts firsts' r
    → trace f c (left starts ends firsts) ≡ longer c (trace_on f r (left starts ends firsts'))
unrolled {starts} {ends} {nexts} {f} {c} {firsts} {firsts'} {r} o =
    trace_step f c (left starts ends firsts)
    ∙ ap₂ (λ (d : ℕ) (g : List Edge). longer c (trace_on f d g)) (sym o.leads) (sym o.left_is)

module _
    {starts ends nexts firsts₀ : List ℕ} {f : ℕ} {flat₀ : List ℕ} {at : ℕ} {firsts flat : List ℕ} {m c : ℕ}
    (w : Following starts ends nexts firsts₀ f flat₀ at firsts flat m c)
    {firsts' : List ℕ} {r : ℕ} (o : StepTaken starts ends nexts f c firsts firsts' r) (same_length : length firsts' ≡ length firsts) where
  -- the whole wire, and what is left of the edges
  abbrev whole : Walk
  whole = trace f f (left starts ends firsts₀)

  abbrev g' : List Edge
  g' = left starts ends firsts'

  abbrev passed' : List ℕ
  passed' = w.passed ++ (c ∷ [])

  wire_on : whole.0 ≡ passed' ++ (trace_on f r g').0
  wire_on =
      w.wire ∙ ap (λ (v : Walk). w.passed ++ v.0) (unrolled o)
      ∙ sym (append_assoc w.passed (c ∷ []) (trace_on f r g').0)

  rest_on : whole.1 ≡ (trace_on f r g').1
  rest_on = w.rest ∙ ap (λ (v : Walk). v.1) (unrolled o)

  flat_on : set flat m c ≡ sets flat₀ at passed'
  flat_on = ap₂ (λ (l : List ℕ) (n : ℕ). set l n c) w.flat_is w.place ∙ sym (sets_snoc flat₀ at w.passed c)

  place_on : m + 1 ≡ at + length passed'
  place_on = let e : length passed' ≡ length w.passed + 1 = length-append w.passed (c ∷ []) in omega (arith, w.place)

  pub follow_turns : (r ≡ f → ⊥) → Following starts ends nexts firsts₀ f flat₀ at firsts' (set flat m c) (m + 1) r
  follow_turns n =
      let a : trace_on f r g' ≡ trace f r g' = trace_away f r g' n in
      let e : whole.0 ≡ passed' ++ (trace f r g').0 = wire_on ∙ ap (λ (v : Walk). passed' ++ v.0) a in
      let k : length whole.0 ≡ length passed' + length (trace f r g').0 = ap length e ∙ length-append passed' (trace f r g').0 in
      record {
        underway = record {
          stands = o.stands;
          home = rw same_length w.underway.home;
          inside = rw same_length o.inside;
        };
        same = same_length ∙ w.same;
        passed = passed';
        wire = e;
        rest = rest_on ∙ ap (λ (v : Walk). v.1) a;
        flat_is = flat_on;
        long = length-set flat m c ∙ w.long;
        place = place_on;
        here = omega (arith, place_on, w.room, w.long, length-set flat m c, trace_some f r g');
        room = w.room;
      }

  pub follow_less : (r ≡ f → ⊥) → length (trace f r g').0 < length (trace f c (left starts ends firsts)).0
  follow_less n =
      let a : trace f c (left starts ends firsts) ≡ longer c (trace f r g') = unrolled o ∙ ap (longer c) (trace_away f r g' n) in
      let l : length (trace f c (left starts ends firsts)).0 ≡ suc (length (trace f r g').0) = ap (λ (v : Walk). length v.0) a in
      omega arith

  pub follow_ends : r ≡ f → Ended starts ends nexts whole flat₀ at firsts' (set flat m c) (m + 1)
  follow_ends e =
      let a : trace_on f r g' ≡ ([], g') = ap (λ (d : ℕ). trace_on f d g') e ∙ trace_home f g' in
      let b : whole.0 ≡ passed' = wire_on ∙ ap (λ (v : Walk). passed' ++ v.0) a ∙ append-nil passed' in
      record {
        stands = o.stands;
        left_is = sym (rest_on ∙ ap (λ (v : Walk). v.1) a);
        flat_is = flat_on ∙ ap (sets flat₀ at) (sym b);
        end_is = place_on ∙ ap (λ (l : List ℕ). at + length l) (sym b);
      }
