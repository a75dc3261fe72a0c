-- How the answer to an offer is shown: two vectors for one that is kept, weights for the others.
use Rattle.std.proofs.Common.{◌≡◌, ℕ, ◌<◌, true, not, ◌&&◌, eqb, List, ◌∷◌, length, replicate, Ok, sym, refl, ap, ◌∙◌}
use Rattle.std.proofs.lemmas.Bool.{and_parts, not-true, eqb-true, eqb-false}
use Rattle.algebra.specs.Meaning.{Meaning}
use Rattle.algebra.specs.Operations.{operations, dot}
use Rattle.algebra.specs.Vectors.{entries}
use Rattle.algebra.specs.Combinations.{Builds, value_sum}
use Rattle.linear.specs.Field.{FieldLaws}
use Rattle.linear.proofs.Codes.{code, code_same, vec, field}
use Rattle.linear.proofs.Systems.{coef, value_of, dot_vec, meets_to, column_code, value_code}
use Rattle.linear.proofs.Weights.{built_sat}
use Rattle.logs.specs.declared.answer.Answer.TheVariants.{Kept, Implied, Contradiction}
use Rattle.logs.specs.Offers.{Offer, equation, checked, Log, offered, kept, accepted, PossibleAfter}
use Rattle.logs.specs.Logs.{Made, offering}
use Rattle.logs.proofs.Checking.{checked_sound}
use Rattle.logs.proofs.Histories.{made_sounds, possible_kept}
use Rattle.runs.proofs.Tests.{is_possible, possible_by, satisfies, builds, builds_by}

module _ (m : Meaning) (laws : FieldLaws m) (n : ℕ) (pos : 0 < n) {log : Log} (md : Made m n log) where
  -- weights that build the coefficients from the kept equations give what each possible vector makes of them
  weighed : (o : Offer) → checked m.order n o ≡ Ok tt → (ws : List ℕ) → Builds m n (kept log) ws o.coefficients → (v : List ℕ) → PossibleAfter m n log v
      → dot (operations m) (length v) (entries o.coefficients) (entries v) ≡ value_sum m ws (kept log)
  weighed o passed ws b v p =
      let es = kept log in
      let s = made_sounds md in
      let t = dot_vec m laws n o.coefficients v (checked_sound m n o passed).0.coefficients.codes p.vector in
      let u = value_code m laws n ws es b.codes s in
      code_same m laws _ _ t.0 u.0
      (t.1
      ∙ built_sat (field m laws) n (length es) (λ q. vec m laws ws) (coef m laws n es) (λ q. vec m laws o.coefficients) (value_of m laws n es)
      (λ q. code m laws (value_sum m ws es))
      (λ q lq j l. sym (column_code m laws n ws es b.codes s j).1 ∙ ap (code m laws) (b.columns j l)) (λ q lq. sym u.1) (vec m laws v)
      (meets_to m laws n es v s ((possible_kept md v).0 p)) 0 pos)

  pub kept_by : {o : Offer} → checked m.order n o ≡ Ok tt → (met broken : List ℕ)
      → (is_possible m n (accepted log) met && satisfies m n met (equation o)) ≡ true
      → (is_possible m n (accepted log) broken && not (satisfies m n broken (equation o))) ≡ true
      → Made m n (offered o (Ok (Kept (length (kept log)))) (replicate n 0) ∷ log)
  kept_by passed met broken t u =
      let h = and_parts _ _ t in
      let k = and_parts _ _ u in
      offering md (
        passed,
        (
          refl,
          refl,
          (met, possible_by m n (accepted log) met h.0, eqb-true _ _ h.1),
          (broken, possible_by m n (accepted log) broken k.0, eqb-false _ _ (not-true _ k.1)),
        ),
      )

  pub implied_by : {o : Offer} {ws : List ℕ} → checked m.order n o ≡ Ok tt
      → (builds m n (kept log) ws o.coefficients && eqb (value_sum m ws (kept log)) o.value) ≡ true
      → Made m n (offered o (Ok Implied) ws ∷ log)
  implied_by {o} {ws} passed t =
      let h = and_parts _ _ t in
      let b = builds_by m n (kept log) ws o.coefficients h.0 in
      let e = eqb-true _ _ h.1 in
      offering md (passed, ((λ v p. weighed o passed ws b v p ∙ e), b, e))

  pub contradiction_by : {o : Offer} {ws : List ℕ} → checked m.order n o ≡ Ok tt
      → (builds m n (kept log) ws o.coefficients && not (eqb (value_sum m ws (kept log)) o.value)) ≡ true
      → Made m n (offered o (Ok Contradiction) ws ∷ log)
  contradiction_by {o} {ws} passed t =
      let h = and_parts _ _ t in
      let b = builds_by m n (kept log) ws o.coefficients h.0 in
      let ne = eqb-false _ _ (not-true _ h.1) in
      offering md (passed, ((λ v p s. ne (sym (weighed o passed ws b v p) ∙ s)), b, ne))
