use Rattle.std.proofs.Common.{◌≡◌, ◌++◌, drop, string_bytes}
use Rattle.answers.specs.ReportText.{status_texts}
use Rattle.answers.proofs.report.push_statuses.Given as goal

-- the lines of the symbols that are left complete the text
abbrev pub invariant-loop-j : goal.invariant-loop-j
invariant-loop-j l = string_bytes l.text ++ status_texts l.j (drop l.j l.symbols) ≡ string_bytes l.initial.text ++ status_texts 0 l.symbols
