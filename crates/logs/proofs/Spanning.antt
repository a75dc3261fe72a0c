-- The published solution and kernel vectors reach the possible vectors, each by one choice of weights.
use Rattle.std.proofs.Common.{◌≡◌, ℕ, zero, suc, ◌+◌, ◌-◌, ◌<◌, false, eqb, ltb, List, [], length, get_or, Ok, sym, refl, ap, ◌∙◌, subst, ap₂, zero-add, arith}
use native.Mathlib.Decide.{ℕ_discrete}
use Rattle.std.proofs.lemmas.List.FromFn.{length-map-range_with_len, fill_by_all}
use Rattle.std.proofs.lemmas.Bool.{cond-true, true≢false, eq-eqb, lt-ltb}
use Rattle.algebra.specs.Matrix.{tabulate}
use Rattle.algebra.specs.Meaning.{Meaning}
use Rattle.algebra.specs.Operations.{operations, sum, dot}
use Rattle.algebra.specs.Vectors.{Equation, entries, Codes, Vector}
use Rattle.algebra.proofs.Sums.{sum_cong}
use Rattle.linear.specs.Field.{FieldOn, FieldLaws}
use Rattle.linear.specs.Table.{Sat, kern}
use Rattle.linear.proofs.Identities.{*-zero, *-one, +-zero, zero-+}
use Rattle.linear.proofs.Sums.{sum_zero, sum_single, dot_add, dot_comm, dot_rows}
use Rattle.linear.proofs.Solving.{spanned, kern_pivot, val_sat}
use Rattle.linear.proofs.Among.{sum_among}
use Rattle.linear.proofs.Enumeration.{tab_at}
use Rattle.linear.proofs.Codes.{Code, code_is, codes_at, vec, field, code_ops}
use Rattle.linear.proofs.Systems.{tabulated, meets_to, listed, listed_vector, listed_at, listed_possible, vectors_same}
use Rattle.linear.proofs.Tables.{Tabled, tabled_to}
use Rattle.logs.specs.Offers.{Log, kept, PossibleAfter}
use Rattle.logs.specs.Reduced.{Reduction}
use Rattle.logs.specs.Questions.{solution_checked, kernel_checked, Kernel}
use Rattle.logs.specs.Logs.{Made}
use Rattle.logs.specs.Promises.{Basis, reached}
use Rattle.logs.proofs.Histories.{made_sounds, made_tabled, possible_kept}
use Rattle.logs.proofs.Forming.{pivot_at, tabled_reduction}
use Rattle.logs.proofs.Reductions.{empty, free_of, free_column, solution_of, kern_of, kernel_of, empty_is, free_many, free_column_lem}
use Rattle.logs.proofs.Reductions.{kern_here, kern_there, kern_flat, solution_is, is_solution_lem, kernel_is, is_kernel_lem}

-- a question that passes its checks
pub solution_passes : (n l : ℕ) → l ≡ n → solution_checked n l ≡ Ok tt
solution_passes n l e = cond-true (eqb l n) _ _ (eq-eqb l n e)

pub kernel_passes : (n rank k l : ℕ) → k < n - rank → l ≡ n → kernel_checked n rank k l ≡ Ok tt
kernel_passes n rank k l h e = cond-true (ltb k (n - rank)) _ _ (lt-ltb k (n - rank) h) ∙ solution_passes n l e

-- the numbers in a sum of codes
plain_sum : (m : Meaning) (laws : FieldLaws m) (k : ℕ) (f : ℕ → Code m) → (sum (code_ops m laws) k f).0 ≡ sum (operations m) k (λ i. (f i).0)
plain_sum m laws zero f = refl
plain_sum m laws (suc k) f = ap (λ x. m.sum x (f k).0) (plain_sum m laws k f)

-- the values of a table plus weighted kernel vectors
module _ (m : Meaning) (laws : FieldLaws m) (n : ℕ) (es : List Equation) (t : Tabled m laws n es) where
  open (field m laws).ring.ops use {𝟘, ◌⊕◌, ◌⊗◌}

  abbrev Fd : FieldOn (Code m)
  Fd = field m laws

  abbrev many : ℕ
  many = length (free_of m laws n es t)

  abbrev fr : ℕ → ℕ
  fr = free_column m laws n es t

  abbrev kv : ℕ → ℕ → Code m
  kv = kern_of m laws n es t

  abbrev pub span : (ℕ → Code m) → ℕ → Code m
  span w j = t.val_of j ⊕ dot (code_ops m laws) (length (free_of m laws n es t)) w (λ x. kern_of m laws n es t x j)

  -- they satisfy the table
  pub span_sat : (w : ℕ → Code m) → Sat (field m laws) n t.row_of t.val_of (span w)
  span_sat w q l =
      dot_add Fd.ring n (t.row_of q) t.val_of (λ j. dot (code_ops m laws) many w (λ x. kv x j))
      ∙ ap₂ ◌⊕◌ (val_sat Fd n t.row_of t.val_of t.reduced q l)
      (dot_comm Fd.ring n (t.row_of q) (λ j. dot (code_ops m laws) many w (λ x. kv x j))
      ∙ dot_rows Fd.ring n many w kv (t.row_of q)
      ∙ sum_zero Fd.ring many _
      (λ x h. ap (λ y. w x ⊗ y) (dot_comm Fd.ring n (kv x) (t.row_of q) ∙ kern_flat m laws n es t x h q l) ∙ *-zero Fd.ring (w x)))
      ∙ +-zero Fd.ring (t.val_of q)

  -- what satisfies it is reached by its own entries at the free columns
  pub sat_span : (v : ℕ → Code m) → Sat (field m laws) n t.row_of t.val_of v → (j : ℕ) → j < n → v j ≡ span (λ x. v (free_column m laws n es t x)) j
  sat_span v s j l =
      spanned Fd n t.row_of t.val_of t.reduced v s j l
      ∙ ap (λ x. t.val_of j ⊕ x)
      (sum_cong (code_ops m laws) n _ (λ i. term (0 + i)) (λ i h. ap term (sym (zero-add i)))
      ∙ sum_among Fd (empty m laws n es t) term 0 n
      (λ f h k e. let lf : f < n = omega arith in ap (λ x. v f ⊗ x) (flat f lf e) ∙ *-zero Fd.ring (v f)))
    where
      term : ℕ → Code m
      term f = v f ⊗ kern Fd t.row_of f j

      flat : (f : ℕ) → f < n → empty m laws n es t f ≡ false → kern Fd t.row_of f j ≡ 𝟘
      flat f lf e =
          kern_pivot Fd n t.row_of t.val_of t.reduced f
          (pivot_at m laws n es t f lf (λ z. true≢false (sym ((empty_is m laws n es t f).1 z) ∙ e))) j l (ℕ_discrete j f)

  -- and the weights are what is reached at the free columns
  pub span_at : (w : ℕ → Code m) (y : ℕ) → y < length (free_of m laws n es t) → span w (free_column m laws n es t y) ≡ w y
  span_at w y l =
      ap₂ ◌⊕◌ (free_column_lem m laws n es t y l).1.value
      (sum_single Fd.ring many _ y l
      (λ x h ne. ap (λ z. w x ⊗ z) (kern_there m laws n es t x y h l (λ e. ne (sym e))) ∙ *-zero Fd.ring (w x))
      ∙ ap (λ z. w y ⊗ z) (kern_here m laws n es t y l) ∙ *-one Fd.ring (w y))
      ∙ zero-+ Fd.ring (w y)

module _ (m : Meaning) (laws : FieldLaws m) (n : ℕ) (log : Log) (md : Made m n log) where
  open (field m laws).ring.ops use {◌⊕◌, ◌⊗◌}

  abbrev es : List Equation
  es = kept log

  abbrev table : Tabled m laws n (kept log)
  table = made_tabled m laws n md

  -- how many kernel vectors there are
  abbrev size : ℕ
  size = n - length (kept log)

  counts : length (free_of m laws n es table) ≡ size
  counts = let c = free_many m laws n es table in omega arith

  place : (x : ℕ) → x < size → x < length (free_of m laws n es table)
  place x l = let c = counts in omega arith

  -- what weights reach over the field
  abbrev reach : (ℕ → Code m) → ℕ → Code m
  reach = span m laws n es table

  -- weights that are the same where they count
  reach_cong : (u w : ℕ → Code m) → ((x : ℕ) → x < size → u x ≡ w x) → (j : ℕ) → reach u j ≡ reach w j
  reach_cong u w h j =
      ap (λ y. table.val_of j ⊕ y)
      (sum_cong (code_ops m laws) (length (free_of m laws n es table)) _ _
      (λ x l. ap (λ y. y ⊗ kern_of m laws n es table x j) (h x (let c = counts in omega arith))))

  pub log_basis : Basis m n log
  log_basis = record {
    out = solution_of m laws n es table;
    start = solution_of m laws n es table;
    kernels = tabulate size (kernel_of m laws n es table);
    many = length-map-range_with_len (kernel_of m laws n es table) 0 size;
    solves = (reduction, (solution_passes n (length (solution_of m laws n es table)) long, is_solution_lem m laws n log md table reduction));
    spans = λ k l.
        let h : k < size = rw (length-map-range_with_len (kernel_of m laws n es table) 0 size) at l in (
          reduction,
          (
            kernel_passes n (length es) k (length (solution_of m laws n es table)) h long,
            subst (Kernel m n log reduction k) (sym (tab_at [] size (kernel_of m laws n es table) k h))
                (is_kernel_lem m laws n log md table reduction k (place k h)),
          ),
        );
  }
    where
      reduction : Reduction m n (kept log)
      reduction = tabled_reduction m laws n es table (made_sounds md)

      long : length (solution_of m laws n es table) ≡ n
      long = (listed_vector m laws n table.val_of).long

  module _ (b : Basis m n log) where
    start_at : (j : ℕ) → j < n → entries b.start j ≡ (table.val_of j).0
    start_at j l =
        ap (λ v. entries v j) (solution_is m laws n log md table b.solves.0 b.start b.solves.1.1)
        ∙ tabulated (λ i. (table.val_of i).0) n j l

    kernel_at : (x : ℕ) → x < length (free_of m laws n es table) → (j : ℕ) → j < n
        → entries (get_or b.kernels x []) j ≡ (kern_of m laws n es table x j).0
    kernel_at x h j l =
        let s = b.spans x (let e = b.many in let c = counts in omega arith) in
        ap (λ v. entries v j) (kernel_is m laws n log md table s.0 x h (get_or b.kernels x []) s.1.1)
        ∙ tabulated (λ i. (kern_of m laws n es table x i).0) n j l

    -- a basis reaches what its weights do over the field
    reached_is : (ws : List ℕ) → Codes m ws → reached m n log b ws ≡ listed m laws n (reach (vec m laws ws))
    reached_is ws cw =
        fill_by_all (λ j. (reach (vec m laws ws) j).0) (reached m n log b ws) n 0 (length-map-range_with_len _ 0 n) (λ j l. tabulated _ n j l ∙ entry j l)
      where
        entry : (j : ℕ) → j < n
            → m.sum (entries b.start j) (dot (operations m) (length b.kernels) (entries ws) (λ x. entries (get_or b.kernels x []) j))
            ≡ (reach (vec m laws ws) j).0
        entry j l =
            ap₂ m.sum (start_at j l)
            (ap (λ k. dot (operations m) k (entries ws) (λ x. entries (get_or b.kernels x []) j)) (b.many ∙ sym counts)
            ∙ sum_cong (operations m) (length (free_of m laws n es table)) _ _
            (λ x h. ap₂ m.product (sym (code_is m laws (entries ws x) (codes_at m laws ws cw x))) (kernel_at x h j l))
            ∙ sym (plain_sum m laws (length (free_of m laws n es table)) (λ x. vec m laws ws x ⊗ kern_of m laws n es table x j)))

    pub log_only : (ws : List ℕ) → Vector m (n - length (kept log)) ws → PossibleAfter m n log (reached m n log b ws)
    log_only ws hw =
        subst (PossibleAfter m n log) (sym (reached_is ws hw.codes))
        ((possible_kept md _).1
        (listed_possible m laws n es (reach (vec m laws ws)) (made_sounds md)
        (table.back (reach (vec m laws ws)) (span_sat m laws n es table (vec m laws ws)))))

    module _ (v : List ℕ) (pv : PossibleAfter m n log v) where
      -- the entries at the free columns
      abbrev at_free : ℕ → Code m
      at_free x = vec m laws v (free_column m laws n es table x)

      abbrev weights : List ℕ
      weights = listed m laws size at_free

      reach_own : (u : ℕ → Code m) → ((x : ℕ) → x < size → u x ≡ at_free x) → listed m laws n (reach u) ≡ v
      reach_own u h =
          vectors_same m laws n (listed m laws n (reach u)) v (listed_vector m laws n (reach u)) pv.vector
          (λ j l. listed_at m laws n (reach u) j l ∙ reach_cong u at_free h j ∙ sym (sat_span m laws n es table (vec m laws v) sat j l))
        where
          sat : Sat (field m laws) n table.row_of table.val_of (vec m laws v)
          sat = tabled_to m laws n es table (vec m laws v) (meets_to m laws n es v (made_sounds md) ((possible_kept md v).0 pv))

      others : (us : List ℕ) → Vector m size us → reached m n log b us ≡ v → us ≡ weights
      others us hu e =
          vectors_same m laws size us weights hu (listed_vector m laws size at_free)
          (λ x l.
          sym (span_at m laws n es table (vec m laws us) x (place x l))
          ∙ sym (listed_at m laws n (reach (vec m laws us)) (free_column m laws n es table x) (free_column_lem m laws n es table x (place x l)).0)
          ∙ ap (λ u. vec m laws u (free_column m laws n es table x)) (sym (reached_is us hu.codes) ∙ e)
          ∙ sym (listed_at m laws size at_free x l))

      pub log_each : (ws : List ℕ) × Vector m (n - length (kept log)) ws × (reached m n log b ws ≡ v)
          × ((us : List ℕ) → Vector m (n - length (kept log)) us → reached m n log b us ≡ v → us ≡ ws)
      log_each =
          let hw = listed_vector m laws size at_free in (
            weights,
            hw,
            reached_is weights hw.codes ∙ reach_own (vec m laws weights) (listed_at m laws size at_free),
            others,
          )
