-- The line that each call is answered with.
use Rattle.std.specs.Prelude.{ℕ, List, [], ◌∷◌, ◌++◌, Ok, Err, codes, decimal, Result}
use Rattle.std.specs.List.{concat, flat_map}
use Rattle.logs.specs.declared.answer.Answer.{Answer}
use Rattle.logs.specs.declared.answer.Answer.TheVariants.{Kept, Implied, Contradiction}
use Rattle.logs.specs.declared.answer.Symbol.{Symbol}
use Rattle.logs.specs.declared.refusal.Refusal.{Refusal}
use Rattle.logs.specs.Texts as texts
use Rattle.text.specs.Writing.{after_blank}

-- a refusal as a line
abbrev pub refusal_text : Refusal → List ℕ
refusal_text r = texts.refusal_text r ++ codes "\n"

-- the text of an answer, or that of the refusal
abbrev pub or_refusal : {A : Type 0} → (A → List ℕ) → Result A Refusal → List ℕ
or_refusal text (Ok a) = text a
or_refusal text (Err r) = refusal_text r

-- a line that goes on with numbers, each after a blank
abbrev pub numbers_text : List ℕ → List ℕ → List ℕ
numbers_text head numbers = concat (head ∷ flat_map after_blank numbers ∷ codes "\n" ∷ [])

-- an answer with its weights
abbrev pub weights_text : Answer → List ℕ → List ℕ
weights_text a weights = numbers_text (texts.answer_text a ++ codes " weights") weights

-- the answer to an offer: how many equations were kept before it, or the weights
abbrev pub answer_text : List ℕ → Answer → List ℕ
answer_text weights (Kept before) = texts.answer_text (Kept before) ++ codes "\n"
answer_text weights Implied = weights_text Implied weights
answer_text weights Contradiction = weights_text Contradiction weights

abbrev pub rank_text : ℕ → List ℕ
rank_text rank = concat (codes "rank " ∷ decimal rank ∷ codes "\n" ∷ [])

-- the rank, and how many unknowns are free
abbrev pub published_text : ℕ → ℕ → List ℕ
published_text rank free = concat (codes "published rank " ∷ decimal rank ∷ codes " free " ∷ decimal free ∷ codes "\n" ∷ [])

abbrev pub solution_text : List ℕ → List ℕ
solution_text entries = numbers_text (codes "solution") entries

-- the k-th kernel vector
abbrev pub kernel_text : ℕ → List ℕ → List ℕ
kernel_text k entries = numbers_text (concat (codes "kernel " ∷ decimal k ∷ codes ":" ∷ [])) entries

-- the j-th symbol: its code, or the number of the first kernel vector that is not 0 there
abbrev pub symbol_text : ℕ → Symbol → List ℕ
symbol_text j symbol = concat (codes "symbol " ∷ decimal j ∷ codes " " ∷ texts.symbol_text symbol ∷ codes "\n" ∷ [])
