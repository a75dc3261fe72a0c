-- The steps of a reading are lawful.
use Rattle.std.proofs.Common.{◌≡◌, ℕ, true, false, List, [], ◌∷◌, Some, None, Ok, Err, codes, Option, Result, sym, refl, ap, ◌∙◌, subst, ⊎_elim, arith}
use Rattle.std.proofs.lemmas.Bool.{cases_Bool}
use Rattle.std.specs.Option.{option_map, ok_or}
use Rattle.std.specs.List.{AllByRecursion}
use Rattle.std.specs.Str.{bytes_eq}
use Rattle.text.specs.Lines.{Lines, end, line, meaningful}
use Rattle.text.specs.Numbers.{number}
use Rattle.text.specs.Text.{lines, only}
use Rattle.text.proofs.Valued.{number_small}
use Rattle.commands.specs.declared.command.FieldName.{FieldName}
use Rattle.commands.specs.declared.command.FieldName.TheVariants.{Residues}
use Rattle.commands.specs.declared.fault.Expected.{Expected}
use Rattle.commands.specs.declared.keyword.Keyword.{Keyword}
use Rattle.commands.specs.declared.keyword.Keyword.TheVariants.{Field, Unknowns, Offer, Rank, Publish, Solution, Kernel, Symbol, Report}
use Rattle.commands.specs.declared.state.State.{State}
use Rattle.commands.specs.declared.state.State.TheVariants.{Start, Named}
use Rattle.commands.specs.Format.{Saying, names, does, with_first, equation, bare, counted, arguments, said_by, said, Reading, goes_on, read_from, reading}
use Rattle.commands.specs.Keywords.{keyword_of, keyword_named}
use Rattle.commands.specs.Lawful.{InOrder, Small, Fits, Lawful}
use Rattle.commands.specs.Order.{after, allowed, is_collecting, is_published}
use Rattle.commands.specs.Steps.{Step, unknowns, offer, rank, publish, solution, kernel, symbol, report}

only_small : (ws : List (List ℕ)) (n : ℕ) → only number ws ≡ Some n → Small n
only_small [] n e = absurd (let z : ◌≡◌ {A = ℕ} 0 1 = cc in omega arith)
only_small (w ∷ []) n e = number_small w n e
only_small (w ∷ v ∷ ws) n e = absurd (let z : ◌≡◌ {A = ℕ} 0 1 = cc in omega arith)

-- what an option gave
given : {A : Type 0} (g : A → Saying) (o : Option A) (e : Expected) (x : Saying) → ok_or (option_map g o) e ≡ Ok x → (a : A) × (o ≡ Some a) × (g a ≡ x)
given g None e x h = absurd (let z : ◌≡◌ {A = ℕ} 0 1 = cc in omega arith)
given g (Some a) e x h = (a, refl, cc)

-- the numbers of an equation are small
abbrev FitsEquation : List ℕ × ℕ → Type 0
FitsEquation e = AllByRecursion Small e.0 × Small e.1

first_fits : (w : List ℕ) (m : Option ℕ) (o : Option (List ℕ × ℕ)) (e : List ℕ × ℕ) → number w ≡ m → ((d : List ℕ × ℕ) → o ≡ Some d → FitsEquation d) → with_first m o ≡ Some e → FitsEquation e
first_fits w None o e h fit g = absurd (let z : ◌≡◌ {A = ℕ} 0 1 = cc in omega arith)
first_fits w (Some n) None e h fit g = absurd (let z : ◌≡◌ {A = ℕ} 0 1 = cc in omega arith)
first_fits w (Some n) (Some d) e h fit g =
    let rest = fit d refl in
    let same : (n ∷ d.0, d.1) ≡ e = cc in
    subst FitsEquation same ((number_small w n h, rest.0), rest.1)

value_fits : (ws : List (List ℕ)) (o : Option ℕ) (e : List ℕ × ℕ) → only number ws ≡ o → option_map (λ v. ([], v)) o ≡ Some e → FitsEquation e
value_fits ws None e h g = absurd (let z : ◌≡◌ {A = ℕ} 0 1 = cc in omega arith)
value_fits ws (Some v) e h g = let same : ([], v) ≡ e = cc in subst FitsEquation same (tt, only_small ws v h)

equation_fits : (ws : List (List ℕ)) (e : List ℕ × ℕ) → equation ws ≡ Some e → FitsEquation e
equation_fits [] e h = absurd (let z : ◌≡◌ {A = ℕ} 0 1 = cc in omega arith)
equation_fits (w ∷ ws) e h =
    ⊎_elim
    (λ (t : bytes_eq w (codes "|") ≡ true). value_fits ws (only number ws) e refl (rw t at h))
    (λ (t : bytes_eq w (codes "|") ≡ false). first_fits w (number w) (equation ws) e refl (equation_fits ws) (rw t at h))
    (cases_Bool (bytes_eq w (codes "|")))

-- a step stands under its keyword, and fits
abbrev Under : Keyword → Step → Type 0
Under k c = (keyword_of c ≡ k) × Fits c

bare_under : (k : Keyword) (d c : Step) (ws : List (List ℕ)) → Under k d → bare k d ws ≡ Ok (does c) → Under k c
bare_under k d c [] u e = let same : d ≡ c = cc in subst (Under k) same u
bare_under k d c (w ∷ ws) u e = absurd (let z : ◌≡◌ {A = ℕ} 0 1 = cc in omega arith)

counted_under : (k : Keyword) (d : ℕ → Step) (c : Step) (ws : List (List ℕ)) → ((n : ℕ) → Small n → Under k (d n)) → counted k d ws ≡ Ok (does c) → Under k c
counted_under k d c ws u e =
    let p = given (λ n. does (d n)) (only number ws) _ _ e in
    let same : d p.0 ≡ c = cc p.2 in
    subst (Under k) same (u p.0 (only_small ws p.0 p.1))

arguments_under : (k : Keyword) (ws : List (List ℕ)) (c : Step) → arguments k ws ≡ Ok (does c) → Under k c
arguments_under Field ws c e =
    let p = given names _ _ _ e in
    absurd (let z : ◌≡◌ {A = ℕ} 0 1 = cc p.2 in omega arith)
arguments_under Unknowns ws c e = counted_under Unknowns unknowns c ws (λ n h. (refl, h)) e
arguments_under Offer ws c e =
    let p = given (λ d. does (offer d.0 d.1)) (equation ws) _ _ e in
    let same : offer p.0.0 p.0.1 ≡ c = cc p.2 in
    subst (Under Offer) same (refl, equation_fits ws p.0 p.1)
arguments_under Rank ws c e = bare_under Rank rank c ws (refl, tt) e
arguments_under Publish ws c e = bare_under Publish publish c ws (refl, tt) e
arguments_under Solution ws c e = bare_under Solution solution c ws (refl, tt) e
arguments_under Kernel ws c e = counted_under Kernel kernel c ws (λ n h. (refl, h)) e
arguments_under Symbol ws c e = counted_under Symbol symbol c ws (λ n h. (refl, h)) e
arguments_under Report ws c e = bare_under Report report c ws (refl, tt) e

-- a step that a line says is allowed there, and fits
abbrev Stands : State → Step → Type 0
Stands s c = (allowed (keyword_of c) s ≡ true) × Fits c

keyword_stands : (s : State) (o : Option Keyword) (ws : List (List ℕ)) (c : Step) → said_by s o ws ≡ Ok (does c) → Stands s c
keyword_stands s None ws c e = absurd (let z : ◌≡◌ {A = ℕ} 0 1 = cc in omega arith)
keyword_stands s (Some k) ws c e =
    ⊎_elim
    (λ (t : allowed k s ≡ true).
    let u = arguments_under k ws c (rw t at e) in
    (ap (λ j. allowed j s) u.0 ∙ t, u.1))
    (λ (t : allowed k s ≡ false).
    absurd (let no = rw t at e in let z : ◌≡◌ {A = ℕ} 0 1 = cc in omega arith))
    (cases_Bool (allowed k s))

step_stands : (s : State) (ws : List (List ℕ)) (c : Step) → said s ws ≡ Ok (does c) → Stands s c
step_stands s [] c e = absurd (let z : ◌≡◌ {A = ℕ} 0 1 = cc in omega arith)
step_stands s (w ∷ ws) c e = keyword_stands s (keyword_named w) ws c e

-- before the first block only a block may be opened, which may be done anywhere
pub opens : (s t : State) (cs : List Step) → is_collecting s ≡ false → is_published s ≡ false → InOrder s cs → InOrder t cs
opens s t [] no-offers no-questions h = tt
opens s t (unknowns n ∷ cs) no-offers no-questions h = (refl, h.1)
opens s t (offer xs v ∷ cs) no-offers no-questions h = absurd (let z : ◌≡◌ {A = ℕ} 0 1 = cc h.0 in omega arith)
opens s t (rank ∷ cs) no-offers no-questions h = absurd (let z : ◌≡◌ {A = ℕ} 0 1 = cc h.0 in omega arith)
opens s t (publish ∷ cs) no-offers no-questions h = absurd (let z : ◌≡◌ {A = ℕ} 0 1 = cc h.0 in omega arith)
opens s t (solution ∷ cs) no-offers no-questions h = absurd (let z : ◌≡◌ {A = ℕ} 0 1 = cc h.0 in omega arith)
opens s t (kernel k ∷ cs) no-offers no-questions h = absurd (let z : ◌≡◌ {A = ℕ} 0 1 = cc h.0 in omega arith)
opens s t (symbol j ∷ cs) no-offers no-questions h = absurd (let z : ◌≡◌ {A = ℕ} 0 1 = cc h.0 in omega arith)
opens s t (report ∷ cs) no-offers no-questions h = absurd (let z : ◌≡◌ {A = ℕ} 0 1 = cc h.0 in omega arith)

abbrev LawfulFrom : State → List Step → Type 0
LawfulFrom s cs = InOrder s cs × AllByRecursion Fits cs

goes_on_lawful : (s : State) (f : FieldName) (n : ℕ) (rest : State → FieldName → Reading) (o : Result Saying Expected) → ((t : State) (g : FieldName) → LawfulFrom t (rest t g).steps) → ((c : Step) → o ≡ Ok (does c) → Stands s c) → LawfulFrom s (goes_on f n rest o).steps
goes_on_lawful s f n rest (Ok (names g)) more here = let h = more Named g in (opens Named s (rest Named g).steps refl refl h.0, h.1)
goes_on_lawful s f n rest (Ok (does c)) more here =
    let h = more (after c) f in
    let u = here c refl in
    ((u.0, h.0), (u.1, h.1))
goes_on_lawful s f n rest (Err e) more here = (tt, tt)

read_lawful : (s : State) (f : FieldName) (ls : Lines) → LawfulFrom s (read_from s f ls).steps
read_lawful s f (end n) = (tt, tt)
read_lawful s f (line n ws ls) = goes_on_lawful s f n (λ t g. read_from t g ls) (said s ws) (λ t g. read_lawful t g ls) (step_stands s ws)

pub lawful : (text : List ℕ) (r : Reading) → r ≡ reading text → Lawful r.steps
lawful text r e = subst (λ q. Lawful q.steps) (sym e) (read_lawful Start Residues (meaningful 1 (lines text)))
