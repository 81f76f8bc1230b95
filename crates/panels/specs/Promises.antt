-- What the rules of panels come to, for whoever cuts them. Proved in proofs/. Assumes nothing.
use Rattle.std.specs.Prelude.{◌≡◌, Bool, true, false, List, [], ◌∷◌, ℕ, suc, ◌≤◌, ◌<◌, eqb, length, get_or}
use Rattle.lists.specs.Lists.{has, some, joined, count, together}
use Rattle.lists.proofs.Chains.{Reach}
use Rattle.mesh.specs.Mesh.{Ring}
use Rattle.keys.specs.Keys.{Key, same_key_lem, face_keys}
use Rattle.panels.specs.Panels.{panels}

-- each face stands in exactly one panel, once
abbrev pub EachFaceOnce : Bool → List Ring → Type 0
EachFaceOnce normals fs = (x : ℕ) → x < length fs → count (eqb x) (joined (panels normals fs)) ≡ 1

-- face x has the key k; two faces share a key
abbrev pub key_in : Bool → List Ring → ℕ → Key → Bool
key_in normals fs x k = some (same_key_lem k) (face_keys normals (get_or fs x []))

abbrev pub Share : Bool → List Ring → ℕ → ℕ → Type 0
Share normals fs x y = (k : Key) × (key_in normals fs x k ≡ true) × (key_in normals fs y k ≡ true)

-- two faces stand in one panel exactly where a chain of faces, each sharing an edge key with the next, leads from the one to the other
abbrev pub OnlyByChains : Bool → List Ring → Type 0
OnlyByChains normals fs = (a b : ℕ) → together a b (panels normals fs) ≡ true → Reach (Share normals fs) a b

abbrev pub WhereverChains : Bool → List Ring → Type 0
WhereverChains normals fs = (a b : ℕ) → a < length fs → Reach (Share normals fs) a b → together a b (panels normals fs) ≡ true

-- the normals setting cuts panels further and never joins them: faces that are together with it are together without it too
abbrev pub NormalsFiner : Type 0
NormalsFiner =
    (fs : List Ring) (a b : ℕ) → a < length fs → together a b (panels true fs) ≡ true → together a b (panels false fs) ≡ true

-- panels whose first faces lie from i on and below k: each begins with its lowest face, and they ascend by it
pub data Ascend : ℕ → ℕ → List (List ℕ) → Type 0 where
  ended : {i k : ℕ} → i ≤ k → Ascend i k []
  begins :
      {i k : ℕ} {ps : List (List ℕ)} (f : ℕ) (rest : List ℕ) → i ≤ f → ((x : ℕ) → has x rest ≡ true → f < x) → Ascend (suc f) k ps
      → Ascend i k ((f ∷ rest) ∷ ps)

abbrev pub LowestFirst : Type 0
LowestFirst = (normals : Bool) (fs : List Ring) → Ascend 0 (length fs) (panels normals fs)
