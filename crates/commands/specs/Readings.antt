-- The reading that a parsed text is.
use Rattle.std.specs.Prelude.{map, vec_items}
use Rattle.commands.specs.declared.reading.Parsed.{Parsed}
use Rattle.commands.specs.Format.{Reading}
use Rattle.commands.specs.Steps.{step_of}

abbrev pub reading_of : Parsed → Reading
reading_of p = record { field = p.field; steps = map step_of (vec_items p.commands); fault = p.fault }
