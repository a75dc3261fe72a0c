-- The names of fields.
use Rattle.std.specs.Prelude.{ℕ, cond, List, Some, None, codes, Option}
use Rattle.std.specs.Str.{bytes_eq}
use Rattle.commands.specs.declared.command.FieldName.{FieldName}
use Rattle.commands.specs.declared.command.FieldName.TheVariants.{Residues, Octets, OctetsByShifts}

-- the field of a name
abbrev pub field_named : List ℕ → Option FieldName
field_named w =
    cond (bytes_eq w (codes "residues")) (Some Residues)
    (cond (bytes_eq w (codes "octets")) (Some Octets)
    (cond (bytes_eq w (codes "octets-by-shifts")) (Some OctetsByShifts)
    None))
