-- What a page holds for those who read it.
use Rattle.std.specs.Prelude.{ℕ, ◌≡◌, List, [], Option, Some, None, ⊤}
use Rattle.std.specs.Io.KnownBytes.{Appends}
use Rattle.std.specs.Option.{option_map}
use Rattle.zb_base.specs.Outside.{AppendsFront}

-- a page that is handed out: nothing is left on it
abbrev pub cleared : Option (List ℕ) → Option (List ℕ)
cleared page = option_map (λ text. []) page

-- a sink took all that stands on a page; one that nobody reads gives it nothing
abbrev pub Takes : Option (List ℕ) → Option (List ℕ) → Option (List ℕ) → Type 0
Takes None before after = after ≡ before
Takes (Some text) before after = Appends before after text

-- a sink failed after a prefix of what stands on a page; one that nobody reads never lets it fail
abbrev pub TakesFront : Option (List ℕ) → Option (List ℕ) → Option (List ℕ) → Type 0
TakesFront None before after = ⊥
TakesFront (Some text) before after = AppendsFront before after text

-- nothing stands on a page
abbrev pub IsClear : Option (List ℕ) → Type 0
IsClear None = ⊤
IsClear (Some text) = text ≡ []

-- a page for a sink that took these bytes: one that nobody reads is for a sink that tells nothing of what it takes
abbrev pub IsFor : Option (List ℕ) → Option (List ℕ) → Type 0
IsFor None taken = taken ≡ None
IsFor (Some text) taken = ⊤
