-- The text of a reply: lines of words, as in the text of requests.
use Rattle.std.specs.Prelude.{ℕ, List, [], ◌∷◌, ◌++◌, Ok, Err, codes, Result}
use Rattle.std.specs.List.{flat_map}
use Rattle.algebra.specs.Matrix.{Matrix}
use Rattle.requests.specs.Written.{row_words}
use Rattle.text.specs.Canonical.{line_of}
use Rattle.windows.specs.Refusals.{refusal_text}
use Rattle.windows.specs.declared.refusal.Refusal.{Refusal}

-- a product: `product` and the rows
abbrev pub product_text : Matrix → List ℕ
product_text m = line_of (codes "product" ∷ []) ++ flat_map line_of (row_words m.rows m.columns m.cells)

-- a refusal stands on a line of its own
abbrev pub reply_text : Result Matrix Refusal → List ℕ
reply_text (Ok m) = product_text m
reply_text (Err r) = refusal_text r ++ (10 ∷ [])
