-- What a step of the reader gave against the format.
use Rattle.std.specs.Prelude.{◌≡◌, ℕ, List, ◌++◌, Some, None, Ok, Err, Result}
use Rattle.std.specs.Option.{option_map}
use Rattle.text.specs.Lines.{Lines}
use Rattle.text.specs.declared.stop.Stop.{Stop}
use Rattle.text.specs.declared.stop.Stop.TheVariants.{Malformed, OutOfMemory}
use Rattle.text.specs.declared.fault.Fault.{Fault}
use Rattle.requests.specs.declared.fault.Expected.{Expected}
use Rattle.requests.specs.Format.{Reading, read, fails, fault, and_then}
use Rattle.requests.specs.Numbers.{exactly}
use Rattle.requests.specs.declared.fault.Expected.TheVariants.{Row}

-- the numbers of a reading, preceded by others
abbrev pub preceded : List ℕ → Reading (List ℕ) → Reading (List ℕ)
preceded xs r = and_then r (λ ys rest. read (xs ++ ys) rest)

-- a step of the reader gave what the format has, and left the lines after it; nothing is said where memory ran out
abbrev pub Gives : {A X : Type 0} → (X → A) → Reading A → Result X (Stop (Fault Expected)) → Lines → Type 0
Gives f r (Ok x) rest = r ≡ read (f x) rest
Gives f r (Err (Malformed g)) rest = r ≡ fails g
Gives f r (Err (OutOfMemory e)) rest = Unit {0}

-- the numbers of a row were added to a list, or the words of the line are no row; nothing is said where memory ran out
abbrev pub Adds : List ℕ → List ℕ → ℕ → ℕ → List (List ℕ) → Result (Unit {0}) (Stop (Fault Expected)) → Type 0
Adds xs ys n columns ws (Ok x) = option_map (λ ns. xs ++ ns) (exactly columns ws) ≡ Some ys
Adds xs ys n columns ws (Err (Malformed g)) = (exactly columns ws ≡ None) × (g ≡ fault n (Row columns))
Adds xs ys n columns ws (Err (OutOfMemory e)) = Unit {0}
