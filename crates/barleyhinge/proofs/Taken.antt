-- What a call promises of its answer holds of what the answer was taken apart into. Assumes nothing.
use mathlib.Core.Path.{◌≡◌, sym, subst}

pub taken : {A : Type 0} (P : A → Type 0) (a b : A) → b ≡ a → P a → P b
taken P a b e h = subst P (sym e) h
