-- No rule of the list of hems tests the mark of a corner (document 02, CR 11): whatever becomes of the marks, the number and the three lists
-- are what they were. Assumes nothing.
use Rattle.std.specs.Prelude.{List, ℕ, ℤ}
use Rattle.mesh.specs.Mesh.{faces}
use Rattle.marks.specs.Marks.{Unread}
use Rattle.roots.specs.Distances.{Point}
use Rattle.hemlist.specs.HemList.{hem_panels, hem_edges, hem_lengths, hem_list_number}

pub record ListUnread : Type 0 where
  pub number : (cs : List ℤ) (panels edges lengths : ℕ) → Unread (λ m. hem_list_number m cs panels edges lengths)
  pub panels : Unread (λ m. hem_panels (faces m))
  pub edges : Unread (λ m. hem_edges (faces m))
  pub lengths : (at : ℕ → Point) → Unread (λ m. hem_lengths at (faces m))
