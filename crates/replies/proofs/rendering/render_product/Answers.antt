-- With a row written, one row less is left.
use Rattle.std.proofs.Common.{◌≡◌, ℕ, suc, ◌+◌, ◌-◌, ◌<◌, List, ◌++◌, map, take, drop, decimal, ap, ◌∙◌, append_assoc, arith}
use Rattle.std.specs.List.{flat_map}
use Rattle.std.proofs.lemmas.List.{take_min, drop_min}
use Rattle.requests.specs.Written.{row_words}
use Rattle.text.specs.Canonical.{line_of}
use Rattle.replies.proofs.rendering.render_product.Goals as goal

row_written : (before cells : List ℕ) (columns rows i : ℕ) → i < rows
    → (before ++ line_of (map decimal (take columns cells))) ++ flat_map line_of (row_words (rows - (i + 1)) columns (drop columns cells)) ≡ before ++ flat_map line_of (row_words (rows - i) columns cells)
row_written before cells columns rows i h =
    let one : suc (rows - (i + 1)) ≡ rows - i = omega arith in
    append_assoc before (line_of (map decimal (take columns cells))) (flat_map line_of (row_words (rows - (i + 1)) columns (drop columns cells)))
    ∙ ap (λ n. before ++ flat_map line_of (row_words n columns cells)) one

pub loop-preserved : goal.loop-preserved
loop-preserved c =
    rw (c.in_ok-push_row.ensures, c.split_at.ensures.front, c.split_at.ensures.back, c.min.ensures, take_min, drop_min)
    (row_written _ _ _ _ _ c.loop-test.true ∙ c.loop.invariant)
