-- The words that commands begin with.
use Rattle.std.specs.Prelude.{ℕ, cond, List, Some, None, codes, Option}
use Rattle.std.specs.Str.{bytes_eq}
use Rattle.commands.specs.declared.keyword.Keyword.{Keyword}
use Rattle.commands.specs.declared.keyword.Keyword.TheVariants.{Field, Unknowns, Offer, Rank, Publish, Solution, Kernel, Symbol, Report}
use Rattle.commands.specs.Steps.{Step, unknowns, offer, rank, publish, solution, kernel, symbol, report}

abbrev pub keyword_text : Keyword → List ℕ
keyword_text Field = codes "field"
keyword_text Unknowns = codes "unknowns"
keyword_text Offer = codes "offer"
keyword_text Rank = codes "rank"
keyword_text Publish = codes "publish"
keyword_text Solution = codes "solution"
keyword_text Kernel = codes "kernel"
keyword_text Symbol = codes "symbol"
keyword_text Report = codes "report"

abbrev pub keyword_named : List ℕ → Option Keyword
keyword_named w =
    cond (bytes_eq w (codes "field")) (Some Field)
    (cond (bytes_eq w (codes "unknowns")) (Some Unknowns)
    (cond (bytes_eq w (codes "offer")) (Some Offer)
    (cond (bytes_eq w (codes "rank")) (Some Rank)
    (cond (bytes_eq w (codes "publish")) (Some Publish)
    (cond (bytes_eq w (codes "solution")) (Some Solution)
    (cond (bytes_eq w (codes "kernel")) (Some Kernel)
    (cond (bytes_eq w (codes "symbol")) (Some Symbol)
    (cond (bytes_eq w (codes "report")) (Some Report)
    None))))))))

-- the word that a step's command begins with
abbrev pub keyword_of : Step → Keyword
keyword_of (unknowns n) = Unknowns
keyword_of (offer cs v) = Offer
keyword_of rank = Rank
keyword_of publish = Publish
keyword_of solution = Solution
keyword_of (kernel k) = Kernel
keyword_of (symbol j) = Symbol
keyword_of report = Report
