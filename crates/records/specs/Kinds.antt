-- The kinds of records by their numbers, as document 01, 'The panel file and the sheet', has them. Assumes nothing.
use Rattle.std.specs.Prelude.{ℕ, ◌<◌, ◌≡◌, Result, MatchResult}
use Rattle.records.specs.Lengths.{byte_kind, wide_kind, marked_kind, last_kind}
use Rattle.records.specs.declared.Kind.{Kind}
use Rattle.records.specs.declared.Kind.TheVariants.{End, Position, Texture, Normal, Face, WideFace, MarkedFace}
use Rattle.records.specs.declared.UnknownKind.{UnknownKind}

-- the number that stands for a kind
abbrev pub number_of_kind : Kind → ℕ
number_of_kind End = 0
number_of_kind Position = 1
number_of_kind Texture = 2
number_of_kind Normal = 3
number_of_kind Face = byte_kind
number_of_kind WideFace = wide_kind
number_of_kind MarkedFace = marked_kind

-- the kind of a number, or an error where it is over the last
abbrev pub Decodes : ℕ → Result Kind UnknownKind → Type 0
Decodes number r = MatchResult r (λ kind. number_of_kind kind ≡ number) (λ e. last_kind < number)
