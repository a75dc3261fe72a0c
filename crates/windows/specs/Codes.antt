-- Refusing the first number that is no code.
use Rattle.std.specs.Prelude.{ℕ, Some, None, Err, Option, Result}
use Rattle.windows.specs.declared.refusal.Refusal.{Refusal}
use Rattle.windows.specs.declared.refusal.Refusal.TheVariants.{Code}

-- the window and the position of the first number that is no code, if there is one; else what follows
abbrev pub unless_outside : {A : Type 0} → ℕ → Option ℕ → Result A Refusal → Result A Refusal
unless_outside window None rest = rest
unless_outside window (Some position) rest = Err (Code window position)
