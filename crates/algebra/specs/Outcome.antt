-- What a call writes that answers or refuses.
use Rattle.std.specs.Prelude.{ℕ, List, Ok, Err, Result}

-- what a slice ends as: the new content where the call answers, the old where it refuses
abbrev pub unless_refused : {A E : Type 0} → Result A E → List ℕ → List ℕ → List ℕ
unless_refused (Ok a) new old = new
unless_refused (Err e) new old = old
