-- A ring begun elsewhere: there and back, once and again, corner by corner, and with the same edges. Assumes nothing.
use mathlib.Core.Path.{◌≡◌, refl, sym, ap, ◌∙◌}
use mathlib.Core.Logic.{◌⊎◌, inl, inr, ⊎_elim}
use mathlib.Core.List.{List, [], ◌∷◌, ◌++◌, map, append_assoc, append-nil, map-append, head-eq_of_cons-eq, tail-eq_of_cons-eq}
use lib.ListN.{length, take, drop, take-append-drop}
use lib.Seq.{take-append_seam, drop-append_seam}
use Rattle.lists.specs.Lists.{count}
use Rattle.lists.proofs.Alike.{Alike}
use Rattle.edges.specs.Edges.{ring_edges}
use Rattle.edges.proofs.Rings.{ring_turn}
use Rattle.order.specs.Same.{Turned}

module _ {A : Type 0} where
  -- f is a and b, g is b and a
  pub record Halves (f g : List A) : Type 0 where
    pub front : List A
    pub rear : List A
    pub was : f ≡ front ++ rear
    pub is : g ≡ rear ++ front

  pub halves : {f g : List A} → Turned f g → Halves f g
  halves {f} t = record { front = take t.0 f; rear = drop t.0 f; was = sym (take-append-drop t.0 f); is = t.1 }

  pub turn : (a b : List A) → Turned (a ++ b) (b ++ a)
  turn a b = (length a, λ i. sym (drop-append_seam a b) i ++ sym (take-append_seam a b) i)

  pub turned : {f g : List A} → Halves f g → Turned f g
  turned {f} {g} h = rw (h.was, h.is) (turn h.front h.rear)

  pub turned_refl : (f : List A) → Turned f f
  turned_refl f = (0, sym (append-nil f))

  pub turned_sym : {f g : List A} → Turned f g → Turned g f
  turned_sym {f} {g} t =
      let h : Halves f g = halves t in turned (record { front = h.rear; rear = h.front; was = h.is; is = h.was })

  -- two ways to part a list: the first cut is not behind the second, or the second is not behind the first
  cuts :
      (b a c d : List A) → b ++ a ≡ c ++ d
      → ((e : List A) × (b ≡ c ++ e) × (d ≡ e ++ a)) ⊎ ((e : List A) × (c ≡ b ++ e) × (a ≡ e ++ d))
  cuts [] a c d p = inr (c, refl, p)
  cuts (x ∷ b) a [] d p = inl (x ∷ b, refl, sym p)
  cuts (x ∷ b) a (y ∷ c) d p =
      let h : x ≡ y = head-eq_of_cons-eq p in
      ⊎_elim
      (λ q. inl (q.0, (λ i. h i ∷ q.1 i), q.2))
      (λ q. inr (q.0, (λ i. sym h i ∷ q.1 i), q.2))
      (cuts b a c d (tail-eq_of_cons-eq p))

  pub turned_trans : {f g h : List A} → Turned f g → Turned g h → Turned f h
  turned_trans {f} {g} {h} s t =
      let x : Halves f g = halves s in
      let y : Halves g h = halves t in
      ⊎_elim
      (λ q.
      turned (record {
        front = x.front ++ y.front;
        rear = q.0;
        was = x.was ∙ ap (λ l. x.front ++ l) q.1 ∙ sym (append_assoc x.front y.front q.0);
        is = y.is ∙ ap (λ l. l ++ y.front) q.2 ∙ append_assoc q.0 x.front y.front;
      }))
      (λ q.
      turned (record {
        front = q.0;
        rear = y.rear ++ x.rear;
        was = x.was ∙ ap (λ l. l ++ x.rear) q.2 ∙ append_assoc q.0 y.rear x.rear;
        is = y.is ∙ ap (λ l. y.rear ++ l) q.1 ∙ sym (append_assoc y.rear x.rear q.0);
      }))
      (cuts x.rear x.front y.front y.rear (sym x.is ∙ y.was))

  -- the same edges, each as often
  pub turned_alike : {f g : List A} → Turned f g → Alike (ring_edges f) (ring_edges g)
  turned_alike {f} {g} t =
      let h : Halves f g = halves t in
      record {
        agree = λ p.
            ap (λ l. count p (ring_edges l)) h.was
            ∙ ring_turn p h.front h.rear
            ∙ sym (ap (λ l. count p (ring_edges l)) h.is);
      }

module _ {A B : Type 0} (c : A → B) where
  pub turned_map : {f g : List A} → Turned f g → Turned (map c f) (map c g)
  turned_map {f} {g} t =
      let h : Halves f g = halves t in
      turned (record {
        front = map c h.front;
        rear = map c h.rear;
        was = ap (map c) h.was ∙ map-append c h.front h.rear;
        is = ap (map c) h.is ∙ map-append c h.rear h.front;
      })
