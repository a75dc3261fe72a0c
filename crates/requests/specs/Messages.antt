-- What the message of a fault says was expected.
use Rattle.std.specs.Prelude.{ℕ, cond, List, ◌++◌, codes, decimal, ◌==◌}
use Rattle.requests.specs.declared.fault.Expected.{Expected}
use Rattle.requests.specs.declared.fault.Expected.TheVariants.{Command, Ring, Sides, Row}

abbrev pub row_text : ℕ → List ℕ
row_text columns =
    cond (columns == 1) (codes "a row of one whole number below 2^32")
    (codes "a row of " ++ (decimal columns ++ codes " whole numbers below 2^32"))

abbrev pub expected_text : Expected → List ℕ
expected_text Command = codes "the command `product RING`"
expected_text Ring = codes "one ring after `product`: words, residues, octets or octets-by-shifts"
expected_text Sides = codes "the rows and the columns of a matrix, two whole numbers below 2^32"
expected_text (Row columns) = row_text columns
