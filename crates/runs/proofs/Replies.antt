-- How replies after publication are shown: by a reduced form, the solution and the kernel vectors.
use Rattle.std.proofs.Common.{◌≡◌, ℕ, ◌<◌, Bool, true, not, ◌&&◌, ◌||◌, eqb, ltb, List, [], length, get_or, Ok, sym, ap, ◌∙◌, subst, arith}
use Rattle.std.proofs.lemmas.Bool.{and_parts, not-true, eqb-true, eqb-false, ltb-true, cond-true}
use Rattle.algebra.specs.Meaning.{Meaning}
use Rattle.algebra.specs.Operations.{operations, dot}
use Rattle.algebra.specs.Vectors.{row, entries}
use Rattle.linear.specs.Field.{FieldLaws}
use Rattle.linear.proofs.Codes.{same_code, field}
use Rattle.linear.proofs.Systems.{tabulated}
use Rattle.linear.proofs.Tables.{Tabled}
use Rattle.logs.specs.declared.answer.Symbol.{Symbol}
use Rattle.logs.specs.declared.answer.Symbol.TheVariants.{Known, Open}
use Rattle.logs.specs.Offers.{Log, kept, accepted}
use Rattle.logs.specs.Reduced.{Reduction}
use Rattle.logs.specs.Questions.{free, Solution, Kernel, solution, kernel, unknown, wrote, said, solution_checked, kernel_checked, Answers}
use Rattle.logs.specs.Logs.{Made}
use Rattle.logs.proofs.Histories.{made_sounds, made_tabled}
use Rattle.logs.proofs.Reductions.{free_of, kern_of, free_same, solution_is, kernel_is}
use Rattle.logs.proofs.Replying.{Shows, shows_tells}
use Rattle.rings.specs.Computed.{below}
use Rattle.runs.proofs.Tests.{passes, zero_or, is_vector, vector_by, is_possible, possible_by}

-- the solution v and the kernel vectors us, by the reduced form p
module _ (m : Meaning) (n : ℕ) (log : Log) (p : Reduction m n (kept log)) (v : List ℕ) (us : List (List ℕ)) where
  abbrev frees : List ℕ
  frees = free n p.pivots

  abbrev at : ℕ → ℕ → ℕ
  at x = entries (get_or us x [])

  abbrev is_solution : Bool
  is_solution = is_possible m n (accepted log) v && below (λ k. eqb (entries v (get_or frees k 0)) 0) (length frees)

  abbrev zero_row : ℕ → ℕ → Bool
  zero_row x i = eqb (dot (operations m) (length (get_or us x [])) (entries (row p.rows i).coefficients) (at x)) 0

  abbrev is_kernel : ℕ → Bool
  is_kernel x =
      is_vector m n (get_or us x [])
      && (eqb (at x (get_or frees x 0)) 1
      && (below (λ i. eqb i x || eqb (at x (get_or frees i 0)) 0) (length frees) && below (zero_row x) (length p.rows)))

  abbrev pub is_basis : Bool
  is_basis = is_solution && below is_kernel (length frees)

  -- what they tell of an unknown
  abbrev pub shows : ℕ → Symbol → Bool
  shows j (Known c) = eqb (entries v j) c && below (λ x. eqb (at x j) 0) (length frees)
  shows j (Open k) = ltb k (length frees) && (not (eqb (at k j) 0) && below (λ x. eqb (at x j) 0) k)

  module _ (t : is_basis ≡ true) where
    solution_by : Solution m n log p v
    solution_by =
        let h = and_parts _ _ (and_parts _ _ t).0 in
        record {
          possible = possible_by m n (accepted log) v h.0;
          zeros = λ k l. eqb-true _ _ (passes (λ k. eqb (entries v (get_or frees k 0)) 0) (length frees) h.1 k l);
        }

    kernel_by_lem : (x : ℕ) → x < length frees → Kernel m n log p x (get_or us x [])
    kernel_by_lem x lx =
        let h = and_parts _ _ (passes is_kernel (length frees) (and_parts _ _ t).1 x lx) in
        let k = and_parts _ _ h.1 in
        let j = and_parts _ _ k.1 in
        record {
          vector = vector_by m n (get_or us x []) h.0;
          one = eqb-true _ _ k.0;
          zeros = λ i l ne. zero_or i x _ (passes (λ i. eqb i x || eqb (at x (get_or frees i 0)) 0) (length frees) j.0 i l) ne;
          rows = λ i l. eqb-true _ _ (passes (zero_row x) (length p.rows) j.1 i l);
        }

    pub solution_replied : (s : List ℕ) → solution_checked n (length s) ≡ Ok tt → Answers m n log (solution s) (wrote (Ok tt) v)
    solution_replied s e = (p, (e, solution_by))

    pub kernel_replied : (k : ℕ) → k < length frees → (s : List ℕ) → kernel_checked n (length (kept log)) k (length s) ≡ Ok tt
        → Answers m n log (kernel k s) (wrote (Ok tt) (get_or us k []))
    kernel_replied k l s e = (p, (e, kernel_by_lem k l))

    module _ (laws : FieldLaws m) (md : Made m n log) (j : ℕ) (lj : ltb j n ≡ true) where
      open (field m laws).ring.ops use {𝟘}

      abbrev table : Tabled m laws n (kept log)
      table = made_tabled m laws n md

      abbrev kern : ℕ → ℕ
      kern x = (kern_of m laws n (kept log) table x j).0

      inside : (x : ℕ) → x < length frees → x < length (free_of m laws n (kept log) table)
      inside x = subst (λ fs. x < length fs) (free_same m laws n (kept log) table (made_sounds md) p)

      value_at : (table.val_of j).0 ≡ entries v j
      value_at = sym (ap (λ u. entries u j) (solution_is m laws n log md table p v solution_by) ∙ tabulated (λ i. (table.val_of i).0) n j (ltb-true j n lj))

      kern_at : (x : ℕ) → x < length frees → kern x ≡ at x j
      kern_at x l =
          sym (ap (λ u. entries u j) (kernel_is m laws n log md table p x (inside x l) (get_or us x []) (kernel_by_lem x l))
          ∙ tabulated (λ i. (kern_of m laws n (kept log) table x i).0) n j (ltb-true j n lj))

      zero_at : (k x : ℕ) → below (λ x. eqb (at x j) 0) k ≡ true → x < k → x < length frees → kern_of m laws n (kept log) table x j ≡ 𝟘
      zero_at k x z l lx = same_code m _ _ (kern_at x lx ∙ eqb-true _ _ (passes (λ x. eqb (at x j) 0) k z x l))

      shown : (s : Symbol) → shows j s ≡ true → Shows m laws n (kept log) table j s
      shown (Known c) t =
          let h = and_parts _ _ t in
          let same = free_same m laws n (kept log) table (made_sounds md) p in
          (value_at ∙ eqb-true _ _ h.0, λ x l. let b = subst (λ fs. x < length fs) (sym same) l in zero_at (length frees) x h.1 b b)
      shown (Open k) t =
          let h = and_parts _ _ t in
          let q = and_parts _ _ h.1 in
          let b = ltb-true k (length frees) h.0 in
          (inside k b, (λ e. eqb-false _ _ (not-true _ q.0) (sym (kern_at k b) ∙ ap (λ c. c.0) e)), λ x l. zero_at k x q.1 l (omega arith))

      pub unknown_replied : (s : Symbol) → shows j s ≡ true → Answers m n log (unknown j) (said (Ok s))
      unknown_replied s e = (p, (cond-true (ltb j n) _ _ lj, shows_tells m laws n log md table p j (ltb-true j n lj) s (shown s e)))
