-- Under the normals setting panels are cut further and never joined: faces that are together there are together without it too.
-- Assumes nothing.
use mathlib.Core.Path.{◌≡◌, refl, sym, ap, ◌∙◌}
use mathlib.Core.Logic.{⊎_elim}
use mathlib.Core.Bool.{Bool, true, false, cond}
use mathlib.Core.List.{List, [], ◌∷◌, map}
use lib.Dec.{ltb}
use lib.ListN.{get_or}
use Rattle.lists.specs.Lists.{some}
use Rattle.lists.proofs.Bools.{or_left, or_right}
use Rattle.lists.proofs.Counting.{clash, or_either}
use Rattle.lists.proofs.Chains.{reach_one, reach_bind}
use Rattle.mesh.specs.Mesh.{Corner, position}
use Rattle.edges.specs.Edges.{ring_edges}
use Rattle.keys.specs.Keys.{Key, pair_key, key_of, same_key_lem}
use Rattle.panels.specs.Promises.{NormalsFiner}
use Rattle.panels.proofs.Sharing.{same_key-true, same_key-refl}
use Rattle.panels.proofs.Panelled.{together_share, share_together}

-- the key without the normals setting
abbrev coarse : Key → Key
coarse k = (k.0, k.1, 0, 0)

key_coarse : (e : Corner × Corner) → coarse (key_of true e) ≡ key_of false e
unfolding key_of
key_coarse e = go (ltb (position e.0) (position e.1))
  where
    go :
        (b : Bool)
        → coarse (cond b (pair_key true e.0 e.1) (pair_key true e.1 e.0)) ≡ cond b (pair_key false e.0 e.1) (pair_key false e.1 e.0)
    go true = refl
    go false = refl

some_coarse :
    (k : Key) (es : List (Corner × Corner)) → some (same_key_lem k) (map (key_of true) es) ≡ true
    → some (same_key_lem (coarse k)) (map (key_of false) es) ≡ true
some_coarse k [] h = clash h refl
some_coarse k (e ∷ es) h =
    ⊎_elim
    (λ p.
    or_left
    (same_key_lem (coarse k) (key_of false e))
    (some (same_key_lem (coarse k)) (map (key_of false) es))
    (ap (same_key_lem (coarse k)) (sym (ap coarse (same_key-true k (key_of true e) p) ∙ key_coarse e)) ∙ same_key-refl (coarse k)))
    (λ p. or_right (same_key_lem (coarse k) (key_of false e)) (some (same_key_lem (coarse k)) (map (key_of false) es)) (some_coarse k es p))
    (or_either _ _ h)

pub normals_finer : NormalsFiner
normals_finer fs a b l t =
    share_together false fs a b l
    (reach_bind
    (λ x y s. reach_one (coarse s.0, some_coarse s.0 (ring_edges (get_or fs x [])) s.1, some_coarse s.0 (ring_edges (get_or fs y [])) s.2))
    (together_share true fs a b t))
