use Rattle.std.proofs.Common.{string_bytes, rules}
use Rattle.text.proofs.Spacing.{numbers_pushed}
use Rattle.text.proofs.writing.push_numbers.Goals as goal

pub returns-clause-ok : goal.returns-clause-ok
returns-clause-ok c =
    numbers_pushed c.push_str.result (string_bytes c.args.text.now) (string_bytes c.in_ok-line.line) (string_bytes c.push_str.new.self)
    c.args.numbers.now c.in-Some.first.now c.in-Some.others.now (search rules) (search rules) (search rules)
