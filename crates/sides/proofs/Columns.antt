-- The columns, one face more at a time, and in the end all of them; and that they hold positions. Assumes nothing.
use Rattle.std.proofs.Common.{◌≡◌, refl, sym, ap, ◌∙◌, subst, List, [], ◌∷◌, map, ℕ, ◌+◌, ◌*◌, ◌/◌, ◌≤◌, ◌<◌, zero-add, arith, min, max, leb, length, set, leb-true, leb-false}
use mathlib.Core.List.{map-append}
use Rattle.lists.proofs.Bools.{by_cases}
use lib.ListN.{length-map}
use lib.Seq.{sets, length-sets}
use Rattle.lists.specs.Lists.{each, span}
use Rattle.lists.proofs.Buckets.{each_span_snoc}
use Rattle.lists.proofs.Copies.{sets_whole}
use Rattle.lists.proofs.Stores.{three_stores}
use Rattle.lists.proofs.Writing.{sets_append}
use Rattle.mesh.specs.Limits.{width, least_ring}
use Rattle.verdicts.specs.Edges.{key}
use Rattle.smoothed.specs.Around.{Use, uses_of}
use Rattle.smoothed.specs.Columns.{triangles}
use Rattle.sides.specs.Sides.{lower_of, higher_of, wing_of, SideRoom, Sides}
use Rattle.sides.specs.Steps.{position_at_lem, uses_by, uses_at, FaceRoom, FaceSides, UseWritten}
use Rattle.sides.proofs.Triangles.{triangle_count, triangle_uses, length_uses}

-- ---- one use

-- the key of an edge has the lower of its two positions, and the higher
module _ (p q : ℕ) where
  key_min : min p q ≡ (key (p, q)).0
  unfolding key
  key_min = by_cases (leb p q) (λ h. let l : p ≤ q = leb-true p q h in rw h (omega arith)) (λ h. let l : q < p = leb-false p q h in rw h (omega arith))

  key_max : max p q ≡ (key (p, q)).1
  unfolding key
  key_max = by_cases (leb p q) (λ h. let l : p ≤ q = leb-true p q h in rw h (omega arith)) (λ h. let l : q < p = leb-false p q h in rw h (omega arith))

  pub use_written :
      (r at x y : ℕ) (l h w : List ℕ) → x ≡ min p q → y ≡ max p q
      → UseWritten (key (p, q), r) at l h w (set l at x) (set h at y) (set w at r)
  use_written r at x y l h w e f = record { lower_is = ap (set l at) (e ∙ key_min); higher_is = ap (set h at) (f ∙ key_max); wing_is = refl }

-- ---- one face

-- three uses written one after the other are the uses of a face
pub face_written :
    (cs : List ℕ) (k a b c : ℕ) (l h w l₁ h₁ w₁ l₂ h₂ w₂ l₃ h₃ w₃ : List ℕ)
    → a ≡ position_at_lem cs (least_ring * k) → b ≡ position_at_lem cs (least_ring * k + 1) → c ≡ position_at_lem cs (least_ring * k + 2)
    → UseWritten (key (b, c), a) (least_ring * k) l h w l₁ h₁ w₁
    → UseWritten (key (c, a), b) (least_ring * k + 1) l₁ h₁ w₁ l₂ h₂ w₂
    → UseWritten (key (a, b), c) (least_ring * k + 2) l₂ h₂ w₂ l₃ h₃ w₃
    → FaceSides (uses_at cs k) (least_ring * k) l h w l₃ h₃ w₃
unfolding uses_at
face_written cs k a b c l h w l₁ h₁ w₁ l₂ h₂ w₂ l₃ h₃ w₃ p q r x y z =
    subst (λ (us : List Use). FaceSides us (least_ring * k) l h w l₃ h₃ w₃) (λ i. uses_by (p i) (q i) (r i)) (record {
      lower_is = three l l₁ l₂ l₃ _ _ _ x.lower_is y.lower_is z.lower_is;
      higher_is = three h h₁ h₂ h₃ _ _ _ x.higher_is y.higher_is z.higher_is;
      wing_is = three w w₁ w₂ w₃ _ _ _ x.wing_is y.wing_is z.wing_is;
    })
  where
    three :
        (m m₁ m₂ m₃ : List ℕ) (d e f : ℕ) → m₁ ≡ set m (least_ring * k) d → m₂ ≡ set m₁ (least_ring * k + 1) e
        → m₃ ≡ set m₂ (least_ring * k + 2) f → m₃ ≡ sets m (least_ring * k) (d ∷ e ∷ f ∷ [])
    three m m₁ m₂ m₃ d e f s t u =
        u
        ∙ ap (λ (n : List ℕ). set n (least_ring * k + 2) f) (t ∙ ap (λ (n : List ℕ). set n (least_ring * k + 1) e) s)
        ∙ three_stores m (least_ring * k) d e f

-- ---- all faces

-- the uses of the first k faces
abbrev uses_upto : List ℕ → ℕ → List Use
uses_upto cs k = each (uses_at cs) (span 0 k)

-- their columns are written
pub record Filling (cs lower₀ higher₀ wing₀ lower higher wing : List ℕ) (k : ℕ) : Type 0 where
  pub within : k ≤ triangle_count cs
  pub lower_is : lower ≡ sets lower₀ 0 (map lower_of (uses_upto cs k))
  pub higher_is : higher ≡ sets higher₀ 0 (map higher_of (uses_upto cs k))
  pub wing_is : wing ≡ sets wing₀ 0 (map wing_of (uses_upto cs k))

module _ (cs : List ℕ) where
  as_long : (f : Use → ℕ) (out₀ out : List ℕ) (k : ℕ) → out ≡ sets out₀ 0 (map f (uses_upto cs k)) → length out ≡ length out₀
  as_long f out₀ out k e = ap length e ∙ length-sets out₀ 0 (map f (uses_upto cs k))

  -- one column, one face further
  one_more :
      (f : Use → ℕ) (out₀ out out' : List ℕ) (k : ℕ) → out ≡ sets out₀ 0 (map f (uses_upto cs k))
      → out' ≡ sets out (least_ring * k) (map f (uses_at cs k)) → out' ≡ sets out₀ 0 (map f (uses_upto cs (k + 1)))
  one_more f out₀ out out' k e w =
      let n : 0 + length (map f (uses_upto cs k)) ≡ least_ring * k =
      zero-add (length (map f (uses_upto cs k))) ∙ length-map (uses_upto cs k) f ∙ length_uses cs k in
      w
      ∙ ap (λ (l : List ℕ). sets l (least_ring * k) (map f (uses_at cs k))) e
      ∙ ap (λ (i : ℕ). sets (sets out₀ 0 (map f (uses_upto cs k))) i (map f (uses_at cs k))) (sym n)
      ∙ sym (sets_append out₀ 0 (map f (uses_upto cs k)) (map f (uses_at cs k)))
      ∙ ap (sets out₀ 0) (sym (map-append f (uses_upto cs k) (uses_at cs k)))
      ∙ ap (λ (us : List Use). sets out₀ 0 (map f us)) (sym (each_span_snoc (uses_at cs) k))

  -- one column in the end
  all_of :
      (f : Use → ℕ) (out₀ out : List ℕ) → length out₀ ≡ least_ring * triangle_count cs
      → out ≡ sets out₀ 0 (map f (uses_upto cs (triangle_count cs))) → out ≡ map f (each uses_of (triangles cs))
  all_of f out₀ out l e =
      let us : List Use = uses_upto cs (triangle_count cs) in
      e
      ∙ sets_whole out₀ (map f us) (length-map us f ∙ length_uses cs (triangle_count cs) ∙ sym l)
      ∙ ap (map f) (sym (triangle_uses cs))

  module _ (lower₀ higher₀ wing₀ : List ℕ) where
    module _ (room : SideRoom cs lower₀ higher₀ wing₀) where
      whole : (m : ℕ) → m ≡ length cs / width → m ≡ least_ring * triangle_count cs
      whole m e = omega (arith, room.triangular.whole)

      module _ (lower higher wing : List ℕ) (k : ℕ) (r : Filling cs lower₀ higher₀ wing₀ lower higher wing k) where
        lower_long : length lower ≡ least_ring * triangle_count cs
        lower_long = as_long lower_of lower₀ lower k r.lower_is ∙ whole (length lower₀) room.lower_long

        higher_long : length higher ≡ least_ring * triangle_count cs
        higher_long = as_long higher_of higher₀ higher k r.higher_is ∙ whole (length higher₀) room.higher_long

        wing_long : length wing ≡ least_ring * triangle_count cs
        wing_long = as_long wing_of wing₀ wing k r.wing_is ∙ whole (length wing₀) room.wing_long

        pub fill_room : k < triangle_count cs → FaceRoom cs k lower higher wing
        fill_room h = record {
          few = room.triangular.few;
          inside = omega arith;
          lower_room = omega (arith, lower_long);
          higher_long = higher_long ∙ sym lower_long;
          wing_long = wing_long ∙ sym lower_long;
        }

        pub fill_turns :
            (lower' higher' wing' : List ℕ) → k < triangle_count cs
            → FaceSides (uses_at cs k) (least_ring * k) lower higher wing lower' higher' wing'
            → Filling cs lower₀ higher₀ wing₀ lower' higher' wing' (k + 1)
        fill_turns lower' higher' wing' h s = record {
          within = omega arith;
          lower_is = one_more lower_of lower₀ lower lower' k r.lower_is s.lower_is;
          higher_is = one_more higher_of higher₀ higher higher' k r.higher_is s.higher_is;
          wing_is = one_more wing_of wing₀ wing wing' k r.wing_is s.wing_is;
        }

        pub fill_ends : triangle_count cs ≤ k → Sides (triangles cs) lower higher wing
        fill_ends h =
            let e : k ≡ triangle_count cs = omega (arith, r.within) in
            record {
              lower_is = all_of lower_of lower₀ lower (whole (length lower₀) room.lower_long) (r.lower_is ∙ ap (λ (n : ℕ). sets lower₀ 0 (map lower_of (uses_upto cs n))) e);
              higher_is = all_of higher_of higher₀ higher (whole (length higher₀) room.higher_long) (r.higher_is ∙ ap (λ (n : ℕ). sets higher₀ 0 (map higher_of (uses_upto cs n))) e);
              wing_is = all_of wing_of wing₀ wing (whole (length wing₀) room.wing_long) (r.wing_is ∙ ap (λ (n : ℕ). sets wing₀ 0 (map wing_of (uses_upto cs n))) e);
            }
