-- The runs of the table hold: offers by witnesses and weights, replies by reduced forms, and the numbers by computation.
use Rattle.std.proofs.Common.{◌≡◌, ℕ, true, List, [], ◌∷◌, length, Ok, refl, lit<, lit≤}
use Rattle.algebra.specs.Vectors.{Equation}
use Rattle.linear.specs.Field.{FieldLaws}
use Rattle.logs.specs.declared.answer.Symbol.TheVariants.{Known, Open}
use Rattle.logs.specs.Offers.{Log, kept}
use Rattle.logs.specs.Logs.{Made, opened}
use Rattle.logs.specs.Questions.{kernel_checked}
use Rattle.logs.specs.Reduced.{ReducedForm, Reduction}
use Rattle.rings.specs.Modulo.{residues}
use Rattle.rings.specs.Octets.{octet_product, octets}
use Rattle.rings.specs.ModuloLaws.{modulo_laws}
use Rattle.rings.specs.OctetFields.{laws as octet-ring, has_inverses as octet-inverses}
use Rattle.rings.specs.OctetTests.{tests}
use Rattle.rings.specs.Primes.{prime, has_inverses}
use Rattle.runs.specs.declared.run.Asked.TheVariants.{Solution}
use Rattle.runs.specs.Runs.{log_after, Replied}
use Rattle.runs.specs.Table.{residue_pair, octet_pair, first_order, second_order, asked_of_either, no_coefficient, AllHold, runs}
use Rattle.runs.proofs.Steps.{kept_by, implied_by, contradiction_by}
use Rattle.runs.proofs.Tests.{form_by}
use Rattle.runs.proofs.Replies.{is_basis, solution_replied, kernel_replied, unknown_replied}

residue_laws : FieldLaws residues
residue_laws = record { ring = modulo_laws 65521 (lit≤ tt) (lit≤ tt); inverses = has_inverses 65521 prime }

octet_laws : FieldLaws octets
octet_laws = record { ring = octet-ring tests; inverses = octet-inverses tests }

abbrev equals : List ℕ → ℕ → Equation
equals coefficients value = record { coefficients = coefficients; value = value }

-- The offers. A kept one is shown by a possible vector that satisfies it and one that does not, the others by their weights.
pair_made : Made residues 2 (log_after 2 [] residue_pair)
pair_made =
    let first = kept_by residues residue_laws 2 (lit< tt) opened refl (3 ∷ 0 ∷ []) (0 ∷ 0 ∷ []) refl refl in
    let second = implied_by residues residue_laws 2 (lit< tt) first refl refl in
    let third = contradiction_by residues residue_laws 2 (lit< tt) second refl refl in
    kept_by residues residue_laws 2 (lit< tt) third refl (2 ∷ 1 ∷ []) (3 ∷ 0 ∷ []) refl refl

first_made : Made residues 3 (log_after 3 [] first_order)
first_made =
    let first = kept_by residues residue_laws 3 (lit< tt) opened refl (5 ∷ 0 ∷ 0 ∷ []) (0 ∷ 0 ∷ 0 ∷ []) refl refl in
    kept_by residues residue_laws 3 (lit< tt) first refl (5 ∷ 0 ∷ 4 ∷ []) (5 ∷ 0 ∷ 0 ∷ []) refl refl

second_made : Made residues 3 (log_after 3 [] second_order)
second_made =
    let first = kept_by residues residue_laws 3 (lit< tt) opened refl (0 ∷ 0 ∷ 4 ∷ []) (0 ∷ 0 ∷ 0 ∷ []) refl refl in
    kept_by residues residue_laws 3 (lit< tt) first refl (5 ∷ 0 ∷ 4 ∷ []) (0 ∷ 0 ∷ 4 ∷ []) refl refl

none_made : Made residues 1 (log_after 1 [] no_coefficient)
none_made =
    let first = implied_by residues residue_laws 1 (lit< tt) opened refl refl in
    contradiction_by residues residue_laws 1 (lit< tt) first refl refl

octet_pair_made : Made octets 2 (log_after 2 [] octet_pair)
unfolding octet_product
octet_pair_made =
    let first = kept_by octets octet_laws 2 (lit< tt) opened refl (3 ∷ 0 ∷ []) (0 ∷ 0 ∷ []) refl refl in
    let second = implied_by octets octet_laws 2 (lit< tt) first refl refl in
    contradiction_by octets octet_laws 2 (lit< tt) second refl refl

octet_none_made : Made octets 1 (log_after 1 [] no_coefficient)
unfolding octet_product
octet_none_made =
    let first = implied_by octets octet_laws 1 (lit< tt) opened refl refl in
    contradiction_by octets octet_laws 1 (lit< tt) first refl refl

-- The questions, by the reduced form of the kept equations, with the weights that build it and those that build them from it.
pair_replied : Replied residues 2 (log_after 2 [] residue_pair) (Solution (2 ∷ 1 ∷ []) ∷ [])
pair_replied =
    let log = log_after 2 [] residue_pair in
    let rows = equals (1 ∷ 0 ∷ []) 2 ∷ equals (0 ∷ 1 ∷ []) 1 ∷ [] in
    let form = form_by residues 2 (kept log) rows (0 ∷ 1 ∷ []) ((1 ∷ 65520 ∷ []) ∷ (0 ∷ 1 ∷ []) ∷ []) ((1 ∷ 1 ∷ []) ∷ (0 ∷ 1 ∷ []) ∷ []) refl in
    (solution_replied residues 2 log (record { rows = rows; pivots = 0 ∷ 1 ∷ []; form = form }) (2 ∷ 1 ∷ []) [] refl (0 ∷ 0 ∷ []) refl, tt)

abbrev either_rows : List Equation
either_rows = equals (1 ∷ 1 ∷ 0 ∷ []) 5 ∷ equals (0 ∷ 0 ∷ 1 ∷ []) 4 ∷ []

module _ (log : Log) (md : Made residues 3 log) (form : ReducedForm residues 3 (kept log) either_rows (0 ∷ 2 ∷ [])) where
  abbrev reduction : Reduction residues 3 (kept log)
  reduction = record { rows = either_rows; pivots = 0 ∷ 2 ∷ []; form = form }

  abbrev v : List ℕ
  v = 5 ∷ 0 ∷ 4 ∷ []

  abbrev us : List (List ℕ)
  us = (65520 ∷ 1 ∷ 0 ∷ []) ∷ []

  either_replied : kernel_checked 3 (length (kept log)) 0 3 ≡ Ok tt → is_basis residues 3 log reduction v us ≡ true → Replied residues 3 log asked_of_either
  either_replied e t =
      let said = unknown_replied residues 3 log reduction v us t residue_laws md in (
        solution_replied residues 3 log reduction v us t (0 ∷ 0 ∷ 0 ∷ []) refl,
        (kernel_replied residues 3 log reduction v us t 0 (lit< tt) (0 ∷ 0 ∷ 0 ∷ []) e, (said 2 refl (Known 4) refl, (said 0 refl (Open 0) refl, tt))),
      )

first_replied : Replied residues 3 (log_after 3 [] first_order) asked_of_either
first_replied =
    let log = log_after 3 [] first_order in
    let weights = (1 ∷ 0 ∷ 0 ∷ []) ∷ (0 ∷ 1 ∷ 0 ∷ []) ∷ [] in
    either_replied log first_made (form_by residues 3 (kept log) either_rows (0 ∷ 2 ∷ []) weights weights refl) refl refl

second_replied : Replied residues 3 (log_after 3 [] second_order) asked_of_either
second_replied =
    let log = log_after 3 [] second_order in
    let weights = (0 ∷ 1 ∷ 0 ∷ []) ∷ (1 ∷ 0 ∷ 0 ∷ []) ∷ [] in
    either_replied log second_made (form_by residues 3 (kept log) either_rows (0 ∷ 2 ∷ []) weights weights refl) refl refl

pub runs_hold : AllHold runs
runs_hold = (
  (pair_made, pair_replied),
  ((first_made, first_replied), ((second_made, second_replied), ((none_made, tt), ((octet_pair_made, tt), ((octet_none_made, tt), tt))))),
)
