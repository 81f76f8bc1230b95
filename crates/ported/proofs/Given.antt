-- The hem edges of a mesh as two lists are what `trace_ported` is given. Assumes nothing.
use mathlib.Core.Path.{◌≡◌, ap}
use mathlib.Core.List.{List}
use Prim.Native.Nat.{ℕ}
use native.Mathlib.Omega.{arith}
use lib.ListN.{length, length-map}
use Rattle.mesh.specs.Mesh.{rings}
use Rattle.edges.specs.Edges.{Edge, edges_of, hems}
use Rattle.tracing.proofs.Tables.{starts_of, ends_of}
use Rattle.tracing.proofs.HemLists.{hem_count_is, hem_lists}
use Rattle.ported.specs.Answers.{PortedOf}
use Rattle.ported.specs.Keeping.{Portable}

module _ {cs s : List ℕ} {n : ℕ} {flat lengths ss zs : List ℕ} where
  pub portable :
      PortedOf cs s n flat lengths → ss ≡ starts_of (hems (edges_of (rings s cs))) → zs ≡ ends_of (hems (edges_of (rings s cs)))
      → Portable ss zs flat lengths
  portable p a b =
      let l : length (starts_of (hems (edges_of (rings s cs)))) ≡ length (hems (edges_of (rings s cs))) = length-map (hems (edges_of (rings s cs))) (λ (x : Edge). x.0) in
      let k : length ss ≡ length (starts_of (hems (edges_of (rings s cs)))) = ap length a in
      record {
        edges = rw (a, b) (hem_lists p.edged);
        numbers = omega (arith, hem_count_is p.edged, p.numbers);
        wires = omega (arith, hem_count_is p.edged, p.wires);
      }
