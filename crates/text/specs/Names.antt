-- What a word names.
use Rattle.std.specs.Prelude.{◌≡◌, Some, None, Option, Result, MatchResult}
use Rattle.text.specs.declared.words.UnknownWord.{UnknownWord}

-- the result is what the word names, or an error where it names nothing
abbrev pub Names : {A : Type 0} → Option A → Result A UnknownWord → Type 0
Names o r = MatchResult r (λ x. o ≡ Some x) (λ _. o ≡ None)
