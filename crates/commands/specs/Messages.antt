-- What was expected where a text does not fit.
use Rattle.std.specs.Prelude.{ℕ, List, ◌++◌, codes}
use Rattle.commands.specs.declared.fault.Expected.{Expected}
use Rattle.commands.specs.declared.fault.Expected.TheVariants.{FieldOrUnknowns, Unknowns, Collecting, Published, FieldName, Equation, Number, Nothing}
use Rattle.commands.specs.Keywords.{keyword_text}

abbrev pub expected_text : Expected → List ℕ
expected_text FieldOrUnknowns = codes "the command `field NAME` or `unknowns N`"
expected_text Unknowns = codes "the command `unknowns N`"
expected_text Collecting = codes "`offer`, `rank`, `publish` or `unknowns`"
expected_text Published = codes "`solution`, `kernel K`, `symbol J`, `report` or `unknowns N`"
expected_text FieldName = codes "one field after `field`: residues, octets or octets-by-shifts"
expected_text Equation = codes "whole numbers below 2^32, `|` and one whole number after `offer`"
expected_text (Number k) = codes "one whole number below 2^32 after `" ++ (keyword_text k ++ codes "`")
expected_text (Nothing k) = codes "nothing after `" ++ (keyword_text k ++ codes "`")
