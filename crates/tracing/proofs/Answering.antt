-- What a call on wires answers and leaves: a refusal, a result. Assumes nothing.
use mathlib.Core.Path.{◌≡◌, sym, ap, ◌∙◌, subst}
use mathlib.Core.List.{List, map}
use Prim.Native.Nat.{ℕ}
use lib.ListN.{length}
use lib.Seq.{sets}
use Rattle.lists.specs.Lists.{joined}
use Rattle.mesh.specs.Listed.{Listed, listed_of}
use Rattle.mesh.proofs.After.{after_refused, after_done}
use Rattle.tracing.specs.Hems.{Written}
use Rattle.tracing.specs.Answers.{Answered, refused_by}
use Rattle.tracing.specs.declared.Wires.{Wires}

pub refusal :
    {n k : ℕ} {ws : List (List ℕ)} (flat lengths : List ℕ) {answer : Wires} → n ≡ k → (k ≡ 0 → ⊥) → answer ≡ refused_by k
    → Answered n ws (listed_of flat lengths) (listed_of flat lengths) answer
refusal {n} {k} {ws} flat lengths e h r =
    let z : n ≡ 0 → ⊥ = λ q. h (sym e ∙ q) in
    record {
      number_is = ap (λ (a : Wires). a.number) r ∙ sym e;
      flat_count = ap (λ (a : Wires). a.flat) r ∙ sym (after_refused n (length (joined ws)) 0 z);
      wire_count = ap (λ (a : Wires). a.wires) r ∙ sym (after_refused n (length ws) 0 z);
      flat_is = sym (after_refused n (sets flat 0 (joined ws)) flat z);
      lengths_is = sym (after_refused n (sets lengths 0 (map length ws)) lengths z);
    }

pub result :
    {n : ℕ} {ws : List (List ℕ)} {flat lengths flat' lengths' : List ℕ} {numbers wires : ℕ} → n ≡ 0
    → Written ws flat lengths flat' lengths' numbers wires
    → Answered n ws (listed_of flat lengths) (listed_of flat' lengths') (record { number = 0; flat = numbers; wires = wires })
result {n} {ws} {flat} {lengths} z w =
    record {
      number_is = sym z;
      flat_count = w.numbers_is ∙ sym (after_done n (length (joined ws)) 0 z);
      wire_count = w.wires_is ∙ sym (after_done n (length ws) 0 z);
      flat_is = w.flat_is ∙ sym (after_done n (sets flat 0 (joined ws)) flat z);
      lengths_is = w.lengths_is ∙ sym (after_done n (sets lengths 0 (map length ws)) lengths z);
    }

-- the same answer, under another name of its number
pub renumbered :
    {n k : ℕ} {ws : List (List ℕ)} {before afterwards : Listed} {answer : Wires} → k ≡ n
    → Answered n ws before afterwards answer → Answered k ws before afterwards answer
renumbered {n} {k} {ws} {before} {afterwards} {answer} e a = subst (λ (i : ℕ). Answered i ws before afterwards answer) (sym e) a
