-- The field and the steps that a canonical text was written from are read back.
use Rattle.std.proofs.Common.{◌≡◌, ℕ, suc, true, false, cond, List, [], ◌∷◌, ◌++◌, map, Some, None, Ok, Err, codes, decimal, sym, refl, ap, ◌∙◌, ⊎_elim, arith}
use Rattle.std.proofs.ByRecursion.{All-append}
use Rattle.std.proofs.lemmas.Slice.Eq.{bytes_eq-Decides}
use Rattle.std.proofs.lemmas.Bool.{cases_Bool}
use Rattle.std.specs.Option.{option_map, ok_or}
use Rattle.std.specs.List.{AllByRecursion}
use Rattle.std.specs.Str.{bytes_eq}
use Rattle.text.specs.Numbers.{number}
use Rattle.text.specs.Text.{blank}
use Rattle.text.proofs.Numerals.{plain_decimal, plain_decimals, number_back}
use Rattle.text.proofs.Spelling.{plain, PlainWord, PlainLine, numbered, page_back}
use Rattle.commands.specs.declared.command.FieldName.{FieldName}
use Rattle.commands.specs.declared.command.FieldName.TheVariants.{Residues, Octets, OctetsByShifts}
use Rattle.commands.specs.declared.fault.Expected.TheVariants as expected
use Rattle.commands.specs.declared.keyword.Keyword.{Keyword}
use Rattle.commands.specs.declared.keyword.Keyword.TheVariants.{Field, Unknowns, Offer, Rank, Publish, Solution, Kernel, Symbol, Report}
use Rattle.commands.specs.declared.state.State.{State}
use Rattle.commands.specs.declared.state.State.TheVariants.{Start, Named}
use Rattle.commands.specs.Format.{does, names, equation, offer_of, arguments, said_by, said, Reading, goes_on, preceded, read_from, reading}
use Rattle.commands.specs.Keywords.{keyword_of, keyword_text}
use Rattle.commands.specs.Lawful.{InOrder, Small, Fits, Lawful}
use Rattle.commands.specs.Order.{after, allowed, expected_in}
use Rattle.commands.specs.Steps.{Step, unknowns, offer, rank, publish, solution, kernel, symbol, report}
use Rattle.commands.specs.Written.{field_text, argument_words, step_words, field_words, written, ReadBack}
use Rattle.commands.proofs.Naming.{named_back}
use Rattle.commands.proofs.Ordering.{opens}

-- a numeral is not the word `|`
no_bar : (n : ℕ) → Small n → bytes_eq (decimal n) (codes "|") ≡ false
no_bar n h =
    ⊎_elim
    (λ (t : bytes_eq (decimal n) (codes "|") ≡ true).
    let bar : decimal n ≡ codes "|" = (bytes_eq-Decides (decimal n) (codes "|")).0 t in
    let both : None ≡ Some n = ap number (sym bar) ∙ number_back n h in
    absurd (let z : ◌≡◌ {A = ℕ} 0 1 = cc in omega arith))
    (λ (t : bytes_eq (decimal n) (codes "|") ≡ false). t)
    (cases_Bool (bytes_eq (decimal n) (codes "|")))

equation_back : (xs : List ℕ) (v : ℕ) → AllByRecursion Small xs → Small v → equation (map decimal xs ++ (codes "|" ∷ decimal v ∷ [])) ≡ Some (xs, v)
equation_back [] v h small = ap (option_map (λ n. ([], n))) (number_back v small)
equation_back (x ∷ xs) v h small = rw (no_bar x h.0, number_back x h.0, equation_back xs v h.1 small) refl

arguments_back : (c : Step) → Fits c → arguments (keyword_of c) (argument_words c) ≡ Ok (does c)
arguments_back (unknowns n) h = ap (λ o. ok_or (option_map (λ m. does (unknowns m)) o) (expected.Number Unknowns)) (number_back n h)
arguments_back (offer xs v) h = ap (λ o. ok_or (option_map (λ e. does (offer_of e)) o) expected.Equation) (equation_back xs v h.0 h.1)
arguments_back rank h = refl
arguments_back publish h = refl
arguments_back solution h = refl
arguments_back (kernel k) h = ap (λ o. ok_or (option_map (λ m. does (kernel m)) o) (expected.Number Kernel)) (number_back k h)
arguments_back (symbol j) h = ap (λ o. ok_or (option_map (λ m. does (symbol m)) o) (expected.Number Symbol)) (number_back j h)
arguments_back report h = refl

step_back : (s : State) (c : Step) → allowed (keyword_of c) s ≡ true → Fits c → said s (step_words c) ≡ Ok (does c)
step_back s c may h =
    ap (λ o. said_by s o (argument_words c)) (named_back (keyword_of c))
    ∙ (ap (λ t. cond t (arguments (keyword_of c) (argument_words c)) (Err (expected_in s))) may ∙ arguments_back c h)

field_back : (f : FieldName) → said Start (field_words f) ≡ Ok (names f)
field_back Residues = refl
field_back Octets = refl
field_back OctetsByShifts = refl

steps_back : (s : State) (f : FieldName) (n : ℕ) (cs : List Step) → InOrder s cs → AllByRecursion Fits cs → read_from s f (numbered n (map step_words cs)) ≡ record { field = f; steps = cs; fault = None }
steps_back s f n [] order fit = refl
steps_back s f n (c ∷ cs) order fit =
    ap (goes_on f n (λ t g. read_from t g (numbered (suc n) (map step_words cs)))) (step_back s c order.0 fit.0)
    ∙ ap (preceded c) (steps_back (after c) f (suc n) cs order.1 fit.1)

-- every line of a canonical text is plain
keyword_plain : (k : Keyword) → PlainWord (keyword_text k)
unfolding plain blank
keyword_plain Field = (omega arith, refl)
keyword_plain Unknowns = (omega arith, refl)
keyword_plain Offer = (omega arith, refl)
keyword_plain Rank = (omega arith, refl)
keyword_plain Publish = (omega arith, refl)
keyword_plain Solution = (omega arith, refl)
keyword_plain Kernel = (omega arith, refl)
keyword_plain Symbol = (omega arith, refl)
keyword_plain Report = (omega arith, refl)

name_plain : (f : FieldName) → PlainWord (field_text f)
unfolding plain blank
name_plain Residues = (omega arith, refl)
name_plain Octets = (omega arith, refl)
name_plain OctetsByShifts = (omega arith, refl)

bar_plain : PlainWord (codes "|")
unfolding plain blank
bar_plain = (omega arith, refl)

arguments_plain : (c : Step) → Fits c → AllByRecursion PlainWord (argument_words c)
arguments_plain (unknowns n) h = (plain_decimal n h, tt)
arguments_plain (offer xs v) h = All-append _ (map decimal xs) (codes "|" ∷ decimal v ∷ []) (plain_decimals xs h.0) (bar_plain, (plain_decimal v h.1, tt))
arguments_plain rank h = tt
arguments_plain publish h = tt
arguments_plain solution h = tt
arguments_plain (kernel k) h = (plain_decimal k h, tt)
arguments_plain (symbol j) h = (plain_decimal j h, tt)
arguments_plain report h = tt

steps_plain : (cs : List Step) → AllByRecursion Fits cs → AllByRecursion PlainLine (map step_words cs)
steps_plain [] h = tt
steps_plain (c ∷ cs) h = ((omega arith, (keyword_plain (keyword_of c), arguments_plain c h.0)), steps_plain cs h.1)

written_read : (f : FieldName) (cs : List Step) → Lawful cs → reading (written f cs) ≡ record { field = f; steps = cs; fault = None }
written_read f cs h =
    ap (read_from Start Residues) (page_back 1 (field_words f ∷ map step_words cs) ((omega arith, (keyword_plain Field, (name_plain f, tt))), steps_plain cs h.1))
    ∙ (ap (goes_on Residues 1 (λ t g. read_from t g (numbered 2 (map step_words cs)))) (field_back f)
    ∙ steps_back Named f 2 cs (opens Start Named cs refl refl h.0) h.1)

pub read_back : (text : List ℕ) (r : Reading) → r ≡ reading text → ReadBack text r
read_back text r e f cs h same = e ∙ (ap reading same ∙ written_read f cs h)
