-- Panels do not depend on the order: a chain of faces, each sharing an edge key with the next, is one of the matched faces too.
-- Assumes nothing.
use mathlib.Core.Path.{◌≡◌, sym, ◌∙◌, subst}
use mathlib.Core.Bool.{Bool, true}
use mathlib.Core.List.{List, [], ◌∷◌}
use Prim.Native.Nat.{ℕ, ◌<◌}
use native.Mathlib.Omega.{arith}
use lib.ListN.{length, get_or}
use Rattle.lists.specs.Lists.{some, together}
use Rattle.lists.proofs.Bools.{or_left}
use Rattle.lists.proofs.Cases.{iff}
use Rattle.lists.proofs.Alike.{some_alike, some_map}
use Rattle.mesh.specs.Mesh.{Ring}
use Rattle.edges.specs.Edges.{ring_edges}
use Rattle.keys.specs.Keys.{Key, same_key_lem, key_of, face_keys}
use Rattle.panels.specs.Panels.{panels}
use Rattle.lists.proofs.Chains.{Reach, here, step, reach_one}
use Rattle.panels.specs.Promises.{key_in, Share}
use Rattle.panels.proofs.Sharing.{same_key-refl, key_below}
use Rattle.panels.proofs.Panelled.{together_share, share_together}
use Rattle.order.specs.Same.{Turned, Matching}
use Rattle.order.proofs.Turning.{turned_sym, turned_alike}
use Rattle.order.proofs.Matched.{matched_back}

-- a face begun elsewhere has the same edge keys
turned_keys :
    (normals : Bool) {f g : Ring} (k : Key)
    → Turned f g
    → some (same_key_lem k) (face_keys normals f) ≡ some (same_key_lem k) (face_keys normals g)
turned_keys normals {f} {g} k t =
    some_map (same_key_lem k) (key_of normals) (ring_edges f)
    ∙ some_alike (λ e. same_key_lem k (key_of normals e)) (turned_alike t)
    ∙ sym (some_map (same_key_lem k) (key_of normals) (ring_edges g))

-- every face has a corner, and so a key
abbrev pub Full : List Ring → Type 0
Full fs = (x : ℕ) → x < length fs → 0 < length (get_or fs x [])

full_key : (normals : Bool) (f : Ring) → 0 < length f → (k : Key) × (some (same_key_lem k) (face_keys normals f) ≡ true)
full_key normals [] l = absurd (omega arith)
full_key normals (a ∷ []) l = (key_of normals (a, a), or_left _ _ (same_key-refl (key_of normals (a, a))))
full_key normals (a ∷ b ∷ f) l = (key_of normals (a, b), or_left _ _ (same_key-refl (key_of normals (a, b))))

module _ (normals : Bool) {m n : List Ring} (r : Matching m n) (full : Full m) where
  carry :
      {a b : ℕ} (c d : ℕ) → a < length m
      → Turned (get_or m a []) (get_or n c [])
      → Turned (get_or m b []) (get_or n d [])
      → Reach (Share normals m) a b
      → Reach (Share normals n) c d
  carry {a} {b} c d l s t (here p) =
      let k : (k : Key) × (key_in normals m a k ≡ true) = full_key normals (get_or m a []) (full a l) in
      reach_one (
        k.0,
        sym (turned_keys normals k.0 s) ∙ k.1,
        sym (turned_keys normals k.0 t) ∙ subst (λ z. key_in normals m z k.0 ≡ true) p k.1,
      )
  carry {a} {b} c d l s t (step {b = e} h q) =
      let le : e < length m = key_below normals m e h.0 h.2 in
      step (
        h.0,
        sym (turned_keys normals h.0 s) ∙ h.1,
        sym (turned_keys normals h.0 (r.turned e le)) ∙ h.2,
      )
      (carry (r.to e) d le (r.turned e le) t q)

-- a and b of the one mesh stand together where c and d, the same two faces of the other, do
pub panels_matched :
    (normals : Bool) {m n : List Ring}
    → Matching m n
    → Full m
    → Full n
    → (a b c d : ℕ) → a < length m → c < length n
    → Turned (get_or m a []) (get_or n c [])
    → Turned (get_or m b []) (get_or n d [])
    → together a b (panels normals m) ≡ together c d (panels normals n)
panels_matched normals {m} {n} r f g a b c d la lc s t =
    iff
    (together a b (panels normals m))
    (together c d (panels normals n))
    (λ h. share_together normals n c d lc (carry normals r f c d la s t (together_share normals m a b h)))
    (λ h.
    share_together
    normals
    m
    a
    b
    la
    (carry normals (matched_back r) g a b lc (turned_sym s) (turned_sym t) (together_share normals n c d h)))
