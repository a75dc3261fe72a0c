use Rattle.std.proofs.Common.{◌≡◌, ◌-◌, ◌++◌, string_bytes}
use Rattle.std.specs.List.{flat_map}
use Rattle.requests.specs.Asked.{matrix_of}
use Rattle.requests.specs.Written.{row_words}
use Rattle.text.specs.Canonical.{line_of}
use Rattle.replies.specs.ReplyText.{product_text}
use Rattle.replies.proofs.rendering.render_product.Given as goal

-- the rows that are left complete the text
abbrev pub invariant-loop : goal.invariant-loop
invariant-loop l =
    string_bytes l.text ++ flat_map line_of (row_words (l.table.rows - l.counter) l.table.columns l.rest) ≡ product_text (matrix_of l.table)
