-- The rows of the call: columns of an accepted mesh can be sorted, and the marks of a scan over them are the first uses of the rules.
-- Assumes nothing.
use mathlib.Core.Path.{◌≡◌, refl, sym, ap₂, ◌∙◌, subst}
use mathlib.Core.Bool.{Bool, true, false}
use mathlib.Core.List.{List, [], ◌∷◌, ◌++◌, map, map-map, map-append}
use Prim.Native.Nat.{ℕ, suc, ◌/◌, ◌≤◌}
use native.Mathlib.Omega.{arith}
use lib.ListN.{length, get_or, take, replicate}
use Rattle.lists.specs.Lists.{every}
use Rattle.lists.proofs.Buckets.{length_front}
use Rattle.mesh.specs.Limits.{width, corner_limit, corner_numbers}
use Rattle.mesh.specs.Mesh.{Ring, rings}
use Rattle.mesh.specs.Edges.{ring_edges}
use Rattle.columns.specs.Keys.{key_of, face_keys, Use, uses_from, use_faces, FirstUses}
use Rattle.columns.specs.Columns.{Keyable, chosen, entry_of, column, face_uses, Digits}
use Rattle.keys.specs.Firsts.{KeyColumns, Plain, TwoRows, Marked}
use Rattle.keys.proofs.Valid.{good_key, uses_good, faces_good, key_columns, key_plain, same_key, uses_corners}

-- ---- the first uses of a mesh

module _ (normals : Bool) (cs s : List ℕ) (k : Keyable cs s) where
  abbrev uses : List Use
  uses = uses_from normals 0 (rings s cs)

  good : every (λ (u : Use). good_key u.1) uses ≡ true
  good = uses_good normals 0 (rings s cs) (faces_good cs s k)

  long : length uses ≡ length cs / width
  long = uses_corners normals s cs k.sound.adds

  pub uses_few : length uses ≤ corner_limit
  uses_few = let a : length uses ≡ length cs / width = long in let b : length cs ≤ corner_numbers = k.sound.fits in omega arith

  module _ (lower higher n m : List ℕ) (d : Digits normals (rings s cs) lower higher n m) where
    columns_uses : KeyColumns lower higher n m (length uses)
    unfolding column
    columns_uses =
        subst (λ (l : List ℕ). KeyColumns l higher n m (length uses)) (sym d.lower_is)
        (subst (λ (l : List ℕ). KeyColumns (map (entry_of 0) uses) l n m (length uses)) (sym d.higher_is)
        (subst (λ (l : List ℕ). KeyColumns (map (entry_of 0) uses) (map (entry_of 1) uses) l m (length uses)) (sym d.n_is)
        (subst
        (λ (l : List ℕ). KeyColumns (map (entry_of 0) uses) (map (entry_of 1) uses) (map (entry_of 2) uses) l (length uses))
        (sym d.m_is)
        (key_columns uses good uses_few))))

    pub columns_row : (row : List ℕ) → length row ≡ length cs / width → KeyColumns lower higher n m (length row)
    columns_row row l = subst (KeyColumns lower higher n m) (long ∙ sym l) columns_uses

    plain_uses : Plain normals n m (length uses)
    unfolding column
    plain_uses =
        subst (λ (l : List ℕ). Plain normals l m (length uses)) (sym d.n_is)
        (subst (λ (l : List ℕ). Plain normals (map (entry_of 2) uses) l (length uses)) (sym d.m_is) (key_plain normals (rings s cs)))

    pub rows_ready :
        (order spare : List ℕ) → length order ≡ length cs / width → length spare ≡ length cs / width
        → TwoRows normals lower higher n m order spare
    rows_ready order spare l w = record {
      columns = columns_row order l;
      plain = subst (Plain normals n m) (long ∙ sym l) plain_uses;
      spare_long = w ∙ sym l;
    }

    module _ (order firsts : List ℕ) (l : length order ≡ length cs / width) (r : Marked lower higher n m (length order) firsts) where
      marked_uses : Marked (map (entry_of 0) uses) (map (entry_of 1) uses) (map (entry_of 2) uses) (map (entry_of 3) uses) (length uses) firsts
      unfolding column
      marked_uses =
          subst (λ (t : List ℕ). Marked t (map (entry_of 1) uses) (map (entry_of 2) uses) (map (entry_of 3) uses) (length uses) firsts) d.lower_is
          (subst (λ (t : List ℕ). Marked lower t (map (entry_of 2) uses) (map (entry_of 3) uses) (length uses) firsts) d.higher_is
          (subst (λ (t : List ℕ). Marked lower higher t (map (entry_of 3) uses) (length uses) firsts) d.n_is
          (subst (λ (t : List ℕ). Marked lower higher n t (length uses) firsts) d.m_is
          (subst (λ (u : ℕ). Marked lower higher n m u firsts) (l ∙ sym long) r))))

      -- so they are the first uses of the rules
      pub firsts_done : FirstUses (uses_from normals 0 (rings s cs)) firsts
      firsts_done = record {
        long = marked_uses.long;
        first = λ x h.
            let f : get_or firsts x 0 ≤ x = (marked_uses.first x h).upto in
            record {
              upto = f;
              same = sym (same_key uses good x (get_or firsts x 0) h (omega arith)) ∙ (marked_uses.first x h).same;
              none = λ y l. sym (same_key uses good x y h (omega arith)) ∙ (marked_uses.first x h).none y l;
            };
      }

-- ---- the faces of uses

faces_again : (a b : Bool) (i : ℕ) (fs : List Ring) → map (λ (u : Use). u.0) (uses_from a i fs) ≡ map (λ (u : Use). u.0) (uses_from b i fs)
faces_again a b i [] = refl
faces_again a b i (f ∷ fs) =
    map-append (λ (u : Use). u.0) (face_uses a i f) (uses_from a (suc i) fs)
    ∙ ap₂ ◌++◌ (one a ∙ sym (one b)) (faces_again a b (suc i) fs)
    ∙ sym (map-append (λ (u : Use). u.0) (face_uses b i f) (uses_from b (suc i) fs))
  where
    one : (n : Bool) → map (λ (u : Use). u.0) (face_uses n i f) ≡ map (λ e. i) (ring_edges f)
    one n = map-map (λ (u : Use). u.0) (λ k. (i, k)) (face_keys n f) ∙ map-map (λ k. i) (key_of n) (ring_edges f)

-- under either normals setting
pub use_faces_lem : (normals : Bool) (fs : List Ring) → use_faces fs ≡ map (λ (u : Use). u.0) (uses_from normals 0 fs)
unfolding use_faces
use_faces_lem normals fs = faces_again false normals 0 fs

pub faces_column : (fs : List Ring) → column false 4 fs ≡ use_faces fs
unfolding column use_faces chosen
faces_column fs = refl

-- ---- the fronts of rows of fixed length

pub corner_row : (cs s : List ℕ) → Keyable cs s → length (take {A = ℕ} (length cs / width) (replicate corner_limit 0)) ≡ length cs / width
corner_row cs s k = length_front 0 (length cs / width) corner_limit (let a : length cs ≤ corner_numbers = k.sound.fits in omega arith)
