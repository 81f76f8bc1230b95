-- The numbers are those that are asked for, and a refused call writes nothing. Assumes nothing.
use mathlib.Core.Path.{◌≡◌, refl, ap, ◌∙◌}
use Prim.Native.Nat.{ℕ, suc}
use Rattle.mesh.specs.Mesh.{faces}
use Rattle.mesh.specs.Table.{over_limits, uneven, misfit, ungrouped, astray, shape_number, mesh_number, short, after}
use Rattle.edges.specs.Edges.{key, verdict, hems}
use Rattle.turning.specs.Turning.{turn_from, onward_in, onward, trail, trails_in, house_wires}
use Rattle.keys.specs.Keys.{key_of}
use Rattle.searching.specs.Search.{search_from, panels_from}
use Rattle.panels.specs.Panels.{panels}
use Rattle.roots.specs.Roots.{root_of}
use Rattle.hemlist.specs.HemList.{edge_length, face_of, panel_of, hem_panel, hem_panels, hem_edges, hem_lengths}
use Rattle.hemlist.specs.HemList.{unmatched, beyond_reach, list_short, hem_list_number}
use Rattle.hemlaws.specs.Numbers.{NumbersAsAsked, RefusedWritesNothing, OneEdge, NoFace, Cut}

pub numbers_as_asked : NumbersAsAsked
unfolding mesh_number shape_number over_limits uneven misfit ungrouped astray short faces key verdict unmatched beyond_reach list_short hem_list_number
numbers_as_asked = record {
  triple_too_few = refl;
  cut = refl;
  one_more = refl;
  farthest = (refl, refl);
  beyond = (refl, refl);
  room_enough = refl;
  room_missing = (refl, refl, refl);
  irregular = refl;
  regular = refl;
  five_first = refl;
  then_18 = refl;
  then_19 = refl;
  then_9 = refl;
}

-- a number that is not 0 leaves what was
kept : {A : Type 0} (k n : ℕ) (new old : A) → k ≡ suc n → after k new old ≡ old
kept k n new old e = ap (λ (i : ℕ). after i new old) e

pub refused_writes_nothing : RefusedWritesNothing
refused_writes_nothing m cs b a r c n e = record {
  panels = c.panels ∙ kept r.number n _ b.panels e;
  edges = c.edges ∙ kept r.number n _ b.edges e;
  lengths = c.lengths ∙ kept r.number n _ b.lengths e;
  no_hem = c.hem_count_is ∙ kept r.number n _ 0 e;
}

pub one_edge : OneEdge
unfolding mesh_number shape_number over_limits uneven misfit ungrouped astray short faces key verdict unmatched beyond_reach list_short hem_list_number
    hems turn_from onward_in onward trail trails_in house_wires key_of search_from panels_from panels root_of edge_length face_of panel_of hem_panel
    hem_panels hem_edges hem_lengths
one_edge = record { is_accepted = refl; one_hem = refl; its_panel = refl; its_edges = refl; its_length = refl }

pub no_face : NoFace
unfolding mesh_number shape_number over_limits uneven misfit ungrouped astray short faces key verdict unmatched beyond_reach list_short hem_list_number
    hems turn_from onward_in onward trail trails_in house_wires hem_edges
no_face = record { is_accepted = refl; each_its_triple = refl; used_or_not = refl; no_hem = refl }

pub cut : Cut
unfolding faces key hems turn_from onward_in onward trail trails_in house_wires root_of edge_length hem_lengths
cut = record { edges = refl; hem = refl }
