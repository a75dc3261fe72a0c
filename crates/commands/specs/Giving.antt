-- What a line gave against the format.
use Rattle.std.specs.Prelude.{◌≡◌, Ok, Err, Result}
use Rattle.text.specs.declared.stop.Stop.{Stop}
use Rattle.text.specs.declared.stop.Stop.TheVariants.{Malformed, OutOfMemory}
use Rattle.commands.specs.declared.fault.Expected.{Expected}
use Rattle.commands.specs.declared.words.Said.{Said}
use Rattle.commands.specs.declared.words.Said.TheVariants as said
use Rattle.commands.specs.Format.{Saying, names, does}
use Rattle.commands.specs.Steps.{step_of}

abbrev pub saying_of : Said → Saying
saying_of (said.Field f) = names f
saying_of (said.Command c) = does (step_of c)

-- what was read, seen as the format sees it, is what the format has; nothing is said where memory ran out
abbrev pub Gives : {A B : Type 0} → (B → A) → Result A Expected → Result B (Stop Expected) → Type 0
Gives seen r (Ok x) = r ≡ Ok (seen x)
Gives seen r (Err (Malformed e)) = r ≡ Err e
Gives seen r (Err (OutOfMemory e)) = Unit {0}
