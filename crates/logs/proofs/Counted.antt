-- How many vectors a log leaves possible.
use Rattle.std.proofs.Common.{◌≡◌, ℕ, ◌-◌, ◌^◌, ◌≤◌, List, [], ◌∷◌, map, length, get_or, sym, ◌∙◌, subst, ap₂, arith}
use lib.ListN.{length-map}
use Rattle.std.proofs.lemmas.List.{get_or-map}
use Rattle.std.proofs.lemmas.List.FromFn.{length-map-range_with_len, fill_by_all}
use Rattle.algebra.specs.Matrix.{tabulate}
use Rattle.algebra.specs.Meaning.{Meaning}
use Rattle.algebra.specs.Vectors.{Equation, Vector, Sounds, Possible}
use Rattle.linear.specs.Field.{FieldOn, FieldLaws}
use Rattle.linear.specs.Choices.{In}
use Rattle.linear.specs.Solutions.{solutions}
use Rattle.linear.proofs.Sums.{dot_cong}
use Rattle.linear.proofs.Choices.{in_map, map_in, apart_map}
use Rattle.linear.proofs.Enumeration.{tab_at, solutions_length, solutions_sat, solutions_apart, solutions_all}
use Rattle.linear.proofs.Counting.{in_at, at_in, apart_at, all_codes, codes_many, codes_each, codes_apart, plain, plain_same}
use Rattle.linear.proofs.Codes.{Code, vec, field}
use Rattle.linear.proofs.Systems.{meets_to, listed, listed_vector, listed_at, listed_possible, vectors_same}
use Rattle.linear.proofs.Tables.{Tabled, tabled_few, tabled_to}
use Rattle.logs.specs.Offers.{Log, ranked, kept, PossibleAfter}
use Rattle.logs.specs.Logs.{Made}
use Rattle.logs.specs.Promises.{Counted}
use Rattle.logs.proofs.Histories.{made_ranked, made_sounds, made_tabled, possible_kept}

module _ (m : Meaning) (laws : FieldLaws m) (n : ℕ) where
  open (field m laws).ring.ops use {𝟘}

  abbrev Fd : FieldOn (Code m)
  Fd = field m laws

  plain_listed : (s : List (Code m)) → length s ≡ n → plain m laws s ≡ listed m laws n (λ i. get_or s i 𝟘)
  plain_listed s e =
      fill_by_all (λ i. (get_or s i 𝟘).0) (plain m laws s) n 0 (length-map s (λ c. c.0) ∙ e)
      (λ i l. get_or-map (λ (c : Code m). c.0) s i 𝟘 0 (omega arith))

  plain_vector : (v : List ℕ) → Vector m n v → plain m laws (tabulate n (vec m laws v)) ≡ v
  plain_vector v hv =
      let s = tabulate n (vec m laws v) in
      let w = λ (i : ℕ). get_or s i 𝟘 in
      plain_listed s (length-map-range_with_len (vec m laws v) 0 n)
      ∙ vectors_same m laws n (listed m laws n w) v (listed_vector m laws n w) hv (λ i l. listed_at m laws n w i l ∙ tab_at 𝟘 n (vec m laws v) i l)

  module _ (es : List Equation) (sd : Sounds m n es) (t : Tabled m laws n es) where
    abbrev sols : List (List (Code m))
    sols = solutions Fd t.row_of n t.val_of (all_codes m laws)

    solution_possible : (s : List (Code m)) → In s sols → Possible m n es (plain m laws s)
    solution_possible s h =
        let u = solutions_sat Fd n t.row_of t.val_of (all_codes m laws) t.reduced s h in
        subst (Possible m n es) (sym (plain_listed s u.0)) (listed_possible m laws n es _ sd (t.back (λ i. get_or s i 𝟘) u.1))

    possible_solution : (v : List ℕ) → Possible m n es v → In v (map (plain m laws) sols)
    possible_solution v p =
        subst (λ x. In x (map (plain m laws) sols)) (plain_vector v p.vector)
        (map_in (plain m laws) sols (tabulate n (vec m laws v))
        (solutions_all Fd n t.row_of t.val_of (all_codes m laws) t.reduced (codes_each m laws) (tabulate n (vec m laws v))
        (length-map-range_with_len (vec m laws v) 0 n)
        (λ q l. dot_cong Fd.ring n (t.row_of q) _ (vec m laws v) (tab_at 𝟘 n (vec m laws v)) ∙ tabled_to m laws n es t _ (meets_to m laws n es v sd p) q l)))

    possible_counted : Counted (Possible m n es) (m.order ^ (n - length es))
    possible_counted = record {
      all = map (plain m laws) sols;
      many =
          length-map sols (plain m laws) ∙ solutions_length Fd n t.row_of t.val_of (all_codes m laws)
          ∙ ap₂ ◌^◌ (codes_many m laws) (let f = t.few in omega arith);
      only = λ i l.
          let u = in_map (plain m laws) sols _ (in_at [] (map (plain m laws) sols) i l) in
          subst (Possible m n es) (sym u.2) (solution_possible u.0 u.1);
      each = λ v p. at_in [] (map (plain m laws) sols) v (possible_solution v p);
      once =
          apart_at [] (map (plain m laws) sols)
          (apart_map (plain m laws) sols (λ a b _ _ e. plain_same m laws a b e)
          (solutions_apart Fd n t.row_of t.val_of (all_codes m laws) t.reduced (codes_apart m laws)));
    }

  -- the number of possible vectors is the order to the power of n less the rank
  pub log_counted : (log : Log) → Made m n log → (r : ℕ) → Made m n (ranked r ∷ log)
      → (r ≤ n) × Counted (PossibleAfter m n log) (m.order ^ (n - r))
  log_counted log md r mr = subst (λ x. (x ≤ n) × Counted (PossibleAfter m n log) (m.order ^ (n - x))) (sym (made_ranked mr)) (
    tabled_few m laws n (kept log) t,
    record {
      all = c.all;
      many = c.many;
      only = λ i l. (possible_kept md _).1 (c.only i l);
      each = λ v p. c.each v ((possible_kept md v).0 p);
      once = c.once;
    },
  )
    where
      t : Tabled m laws n (kept log)
      t = made_tabled m laws n md

      c : Counted (Possible m n (kept log)) (m.order ^ (n - length (kept log)))
      c = possible_counted (kept log) (made_sounds md) t
