-- From blank tables to ported wires: what `keep_last` leaves is what the tracer is given, and its wires are the ported wires. Assumes nothing.
use mathlib.Core.Path.{◌≡◌, sym, ap, ◌∙◌, subst}
use mathlib.Core.List.{List}
use Prim.Native.Nat.{ℕ, ◌≤◌}
use native.Mathlib.Omega.{arith}
use lib.ListN.{length}
use Rattle.mesh.specs.Limits.{entry_limit, corner_limit}
use Rattle.tracing.specs.Hems.{pairs, EdgeLists}
use Rattle.tracing.specs.Tables.{left, Stands, Startable, blank}
use Rattle.tracing.specs.Tracing.{traces, AllLeft}
use Rattle.tracing.proofs.Entries.{Roomy, traces_roomy}
use Rattle.tracing.proofs.AllWires.{left_length}
use Rattle.tracing.proofs.BlankTables.{startable, room, free, positions_few, edges_many}
use Rattle.ported.specs.Ported.{ported_wires}
use Rattle.ported.specs.Keeping.{numbered, PortedIn}
use Rattle.ported.proofs.Lasts.{last_stands, ported_are}

-- ---- tables of any size that is enough

module _ (n m : ℕ) (small : n ≤ entry_limit) (wide : corner_limit ≤ m) (starts ends : List ℕ) (h : EdgeLists starts ends n) where
  last_fit : Stands starts ends (blank m) (numbered 0 (blank n) starts)
  unfolding blank
  last_fit = last_stands starts ends (blank m) n small h (room n m small wide starts ends h) (free n m small wide starts ends h)

  last_wires : ported_wires (pairs starts ends) ≡ traces (left starts ends (numbered 0 (blank n) starts))
  unfolding blank
  last_wires = ported_are starts ends (blank m) n small h (room n m small wide starts ends h) (free n m small wide starts ends h)

-- ---- the tables of the code

module _ {starts ends nexts firsts flat lengths : List ℕ} (p : PortedIn starts ends nexts firsts flat lengths) where
  pub ported_startable : Startable starts firsts
  ported_startable =
      subst (λ (l : List ℕ). Startable starts l) (sym p.tables.firsts_is) (startable entry_limit corner_limit positions_few edges_many starts ends p.given.edges)

  module _ {firsts' : List ℕ} (e : firsts' ≡ numbered 0 firsts starts) where
    as_numbered : firsts' ≡ numbered 0 (blank entry_limit) starts
    as_numbered = e ∙ ap (λ (l : List ℕ). numbered 0 l starts) p.tables.firsts_is

    ported_stands : Stands starts ends nexts firsts'
    ported_stands =
        let s : Stands starts ends (blank corner_limit) (numbered 0 (blank entry_limit) starts) = last_fit entry_limit corner_limit positions_few edges_many starts ends p.given.edges in
        rw (as_numbered, p.tables.nexts_is) s

    pub ported_left : AllLeft starts ends nexts firsts' flat lengths
    ported_left =
        let r : Roomy (left starts ends firsts') (traces (left starts ends firsts')) = traces_roomy (left starts ends firsts') in
        let l : length (left starts ends firsts') ≤ length starts = left_length ported_stands in
        record {
          stands = ported_stands;
          room = record { numbers = omega (arith, r.numbers, p.given.numbers); wires = omega (arith, r.wires, p.given.wires) };
        }

    pub ported_traced : traces (left starts ends firsts') ≡ ported_wires (pairs starts ends)
    ported_traced =
        ap (λ (l : List ℕ). traces (left starts ends l)) as_numbered
        ∙ sym (last_wires entry_limit corner_limit positions_few edges_many starts ends p.given.edges)
