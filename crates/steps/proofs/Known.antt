-- The steps over the record at the reader's place, as a function that took it apart knows it. Assumes nothing.
use mathlib.Core.Path.{◌≡◌}
use mathlib.Core.Bool.{Bool}
use mathlib.Core.List.{List, [], ◌∷◌}
use Prim.Native.Nat.{ℕ, ◌*◌, ◌≤◌, ◌<◌}
use lib.ListN.{length}
use lib.Seq.{sets}
use lib.Ieee.{Float}
use Rattle.mesh.specs.Limits.{entry_limit}
use Rattle.mesh.specs.Mesh.{Mesh, mesh_of}
use Rattle.floating.specs.declared.Point.{Point}
use Rattle.floating.specs.declared.Texel.{Texel}
use Rattle.floating.specs.Points.{coordinates}
use Rattle.records.specs.declared.Record.{Record}
use Rattle.records.specs.declared.Record.TheVariants.{Position, Texture, Normal, Face, End, Refused}
use Rattle.records.specs.Records.{record_from}
use Rattle.records.proofs.Fitting.{Fitted, record_fits}
use Rattle.steps.specs.declared.Progress.{Progress}
use Rattle.steps.specs.Working.{stopped_with, Able, Ready, Stepped}
use Rattle.steps.proofs.Positions.{at_position, position_over, position_taken}
use Rattle.steps.proofs.Textures.{at_texture, texture_over, texture_taken}
use Rattle.steps.proofs.Normals.{at_normal, normal_over, normal_taken}
use Rattle.steps.proofs.Ends.{at_end, end_taken, refusal_taken}

module _ (file : List ℕ) (x : Progress) (l : Mesh) (w : Ready (length file) x l) where
  -- a reader that goes on is able to take the record at its place
  pub able : (r : Record) → r ≡ record_from file x.at → Able (length file) r x
  able r e =
      let f : Fitted (length file) x.at r = rw e (record_fits file x.at w.within.place) in
      record { within = w.within; unrefused = w.unrefused; unended = w.unended; fits = f.fits; placed = f.placed }

  abbrev At : Progress → Mesh → Type 0
  At y l' = Stepped file (record_from file x.at) x y l l'

  pub face_at : (i m : ℕ) (b : Bool) (y : Progress) (l' : Mesh) → Face i m b ≡ record_from file x.at → Stepped file (Face i m b) x y l l' → At y l'
  face_at i m b y l' e h = rw (← e) h

  pub end_at : End ≡ record_from file x.at → At (at_end x) l
  end_at e = rw (← e) (end_taken file x l (able End e))

  pub refusal_at : (k : ℕ) (y : Progress) → Refused k ≡ record_from file x.at → y ≡ stopped_with x k → At y l
  refusal_at k y e f = rw (← e, f) (refusal_taken file x k l (able (Refused k) e))

  module _ (pt : Point) (e : Position pt ≡ record_from file x.at) where
    pub position_stop : entry_limit ≤ x.positions → (y : Progress) → y ≡ stopped_with x 1 → At y l
    position_stop h y f = rw (← e, f) (position_over file x pt l (able (Position pt) e) w.long.positions h)

    pub position_step :
        x.positions < entry_limit → (p : List Float) → p ≡ sets l.positions (3 * x.positions) (coordinates pt)
        → At (at_position x) (mesh_of p l.textures l.normals l.corners l.sizes)
    position_step h p f = rw (← e, f) (position_taken file x pt l (able (Position pt) e) w.long.positions h)

  module _ (tx : Texel) (e : Texture tx ≡ record_from file x.at) where
    pub texture_stop : entry_limit ≤ x.textures → (y : Progress) → y ≡ stopped_with x 1 → At y l
    texture_stop h y f = rw (← e, f) (texture_over file x tx l (able (Texture tx) e) w.long.textures h)

    pub texture_step :
        x.textures < entry_limit → (t : List Float) → t ≡ sets l.textures (2 * x.textures) (tx.u ∷ tx.v ∷ [])
        → At (at_texture x) (mesh_of l.positions t l.normals l.corners l.sizes)
    texture_step h t f = rw (← e, f) (texture_taken file x tx l (able (Texture tx) e) w.long.textures h)

  module _ (pt : Point) (e : Normal pt ≡ record_from file x.at) where
    pub normal_stop : entry_limit ≤ x.normals → (y : Progress) → y ≡ stopped_with x 1 → At y l
    normal_stop h y f = rw (← e, f) (normal_over file x pt l (able (Normal pt) e) w.long.normals h)

    pub normal_step :
        x.normals < entry_limit → (n : List Float) → n ≡ sets l.normals (3 * x.normals) (coordinates pt)
        → At (at_normal x) (mesh_of l.positions l.textures n l.corners l.sizes)
    normal_step h n f = rw (← e, f) (normal_taken file x pt l (able (Normal pt) e) w.long.normals h)
