-- What is left of a text at a cursor, and the line that comes next.
use Rattle.std.specs.Prelude.{◌≡◌, Ok, Err, Result}
use Rattle.text.specs.Text.{lines, words}
use Rattle.text.specs.Lines.{Lines, end, line, meaningful}
use Rattle.text.specs.declared.cursor.Cursor.{Cursor}
use Rattle.text.specs.declared.lines.End.{End}
use Rattle.text.specs.declared.lines.Line.{Line}

-- the lines of meaning that are left
abbrev pub left : Cursor → Lines
left c = meaningful c.line (lines c.rest.now)

-- the next line of meaning, and the lines after it
abbrev pub Nexts : Lines → Result Line End → Lines → Type 0
Nexts ls (Ok l) rest = ls ≡ line l.number (words l.text.now) rest
Nexts ls (Err e) rest = (ls ≡ end e.number) × (rest ≡ end e.number)
