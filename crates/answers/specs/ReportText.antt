-- The report on the symbols of a block, for a person.
use Rattle.std.specs.Prelude.{ℕ, suc, Bool, true, false, cond, List, [], ◌∷◌, ◌++◌, length, codes, decimal, count_by, ◌==◌}
use Rattle.std.specs.List.{concat}
use Rattle.logs.specs.declared.answer.Symbol.{Symbol}
use Rattle.logs.specs.declared.answer.Symbol.TheVariants.{Known, Open}
use Rattle.answers.specs.Plural.{ending, verb}

abbrev pub is_open : Symbol → Bool
is_open (Known code) = false
is_open (Open k) = true

abbrev pub open_count : List Symbol → ℕ
open_count symbols = count_by is_open symbols

-- n symbols, of which o are open
abbrev pub heading_text : ℕ → ℕ → List ℕ
heading_text n o = concat (codes "report: " ∷ decimal n ∷ codes " symbol" ∷ ending n ∷ codes ", " ∷ decimal o ∷ codes " open\n" ∷ [])

-- the j-th symbol: its code, or a kernel vector that is not 0 there
abbrev pub status_text : ℕ → Symbol → List ℕ
status_text j (Known code) = concat (codes "  symbol " ∷ decimal j ∷ codes ": " ∷ decimal code ∷ codes "\n" ∷ [])
status_text j (Open k) = concat (codes "  symbol " ∷ decimal j ∷ codes ": open, kernel vector " ∷ decimal k ∷ codes " moves it\n" ∷ [])

-- a line for each symbol, numbered from j
abbrev pub status_texts : ℕ → List Symbol → List ℕ
status_texts j [] = []
status_texts j (symbol ∷ symbols) = status_text j symbol ++ status_texts (suc j) symbols

abbrev pub booking_text : ℕ → List ℕ
booking_text o = concat (codes "book the antenna: " ∷ decimal o ∷ codes " symbol" ∷ ending o ∷ codes " " ∷ verb o ∷ codes " open\n" ∷ [])

-- the antenna is booked once more where symbols are open
abbrev pub advice_text : ℕ → List ℕ
advice_text o = cond (o == 0) (codes "do not book the antenna: every symbol is known\n") (booking_text o)

abbrev pub report_text : List Symbol → List ℕ
report_text symbols =
    (heading_text (length symbols) (open_count symbols) ++ status_texts 0 symbols) ++ advice_text (open_count symbols)
