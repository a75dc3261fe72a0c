-- The step that takes one equation more into a reduced table.
use Rattle.std.proofs.Common.{◌≡◌, ℕ, ◌<◌, ◌⊎◌, sym, ap, ◌∙◌, ap₂, inl, inr, arith}
use native.Mathlib.Decide.{ℕ_discrete, dec_lt}
use Rattle.linear.specs.Field.{FieldOn, ops}
use Rattle.algebra.specs.Operations.{sum, dot}
use Rattle.linear.specs.Table.{unit_same, unit_other, Free, Pivot, Reduced, Sat, res, resv, kern}
use Rattle.linear.proofs.Identities.{units, rings, zero-+, *-zero, one-*, *-comm, *-assoc, dist_r, neg-*, cancel, +_comm}
use Rattle.algebra.proofs.Sums.{sum_cong}
use Rattle.linear.proofs.Sums.{sum_add, sum_neg, sum_mul, dot_rows}
use Rattle.linear.proofs.Solving.{res_pivot, row_zero}

module _ {K : Type 0} (F : FieldOn K) (n : ℕ) (R : ℕ → ℕ → K) (val : ℕ → K) (c : ℕ → K) (b : K) where
  open F.ring.ops use {𝟘, 𝟙, ◌⊕◌ as ◌+◌, ◌⊗◌ as ◌*◌, ⊖}
  open F use {inv, ⊗-inv}

  infixl 65 ◌+◌
  infixl 70 ◌*◌
  -- the residual's dot
  pub res_dot : (v : ℕ → K) → Sat F n R val v → dot (ops F) n (res F n R c) v ≡ dot (ops F) n c v + ⊖ (sum (ops F) n (λ p. c p * val p))
  res_dot v s =
      sum_cong (ops F) n _ (λ i. c i * v i + ⊖ (sum (ops F) n (λ p. c p * R p i) * v i)) (λ i k. simp (dist_r, neg-*))
      ∙ sum_add F.ring n (λ i. c i * v i) (λ i. ⊖ (sum (ops F) n (λ p. c p * R p i) * v i))
      ∙ ap (λ x. dot (ops F) n c v + x)
      (sum_neg F.ring n (λ i. sum (ops F) n (λ p. c p * R p i) * v i)
      ∙ ap ⊖ (dot_rows F.ring n n c R v ∙ sum_cong (ops F) n _ _ (λ p k. ap (λ x. c p * x) (s p k))))

  -- the row that goes into the slot q, and the table with it
  module _ (q : ℕ) where
    abbrev pub norm : ℕ → K
    norm i = inv (res F n R c q) * res F n R c i

    abbrev pub normv : K
    normv = inv (res F n R c q) * resv F n val c b

    abbrev pub rows : ℕ → ℕ → K
    rows p i = R p i + kern F R q p * norm i

    abbrev pub vals : ℕ → K
    vals p = val p + kern F R q p * normv

    module _ (red : Reduced F n R val) (lq : q < n) (nz : ¬ (res F n R c q ≡ 𝟘)) (first : (i : ℕ) → i < q → res F n R c i ≡ 𝟘) where
      pub q_free : Free F n R val q
      q_free = go (red q lq)
        where
          go : Free F n R val q ⊎ Pivot F n R q → Free F n R val q
          go (inl fr) = fr
          go (inr pv) = absurd (nz (res_pivot F n R val red c q lq pv))

      pub norm_q : norm q ≡ 𝟙
      norm_q = *-comm F.ring (inv (res F n R c q)) (res F n R c q) ∙ ⊗-inv (res F n R c q) nz

      pub norm_zero : (i : ℕ) → res F n R c i ≡ 𝟘 → norm i ≡ 𝟘
      norm_zero i e = ap (λ x. inv (res F n R c q) * x) e ∙ *-zero F.ring (inv (res F n R c q))

      kern_q : kern F R q q ≡ 𝟙
      kern_q = ap₂ (λ x y. x + ⊖ y) (unit_same (ops F) q) (q_free.row q lq) ∙ simp units

      kern_zero : (p : ℕ) → ¬ (p ≡ q) → R p q ≡ 𝟘 → kern F R q p ≡ 𝟘
      kern_zero p ne e = ap₂ (λ x y. x + ⊖ y) (unit_other (ops F) q p ne) e ∙ simp units

      one_step : (a k m : K) → a ≡ 𝟘 → k ≡ 𝟘 → a + k * m ≡ 𝟘
      one_step a k m ea ek = rw (ea, ek) (simp units)

      two_step : (a k m x : K) → a ≡ x → m ≡ 𝟘 → a + k * m ≡ x
      two_step a k m x ea em = rw (ea, em) (simp units)

      -- the slot q holds the new row
      pub rows_q : (i : ℕ) → i < n → rows q i ≡ norm i
      rows_q i l = ap₂ (λ x y. x + y * norm i) (q_free.row i l) kern_q ∙ simp units

      pub vals_q : vals q ≡ normv
      vals_q = ap₂ (λ x y. x + y * normv) q_free.value kern_q ∙ simp units

      -- each other row is cleared at q
      pub rows_other : (p : ℕ) → ¬ (p ≡ q) → (i : ℕ) → rows p i ≡ R p i + ⊖ (R p q * norm i)
      rows_other p ne i =
          ap (λ x. R p i + (x + ⊖ (R p q)) * norm i) (unit_other (ops F) q p ne) ∙ ap (λ x. R p i + x) (ap (λ x. x * norm i) (zero-+ F.ring (⊖ (R p q))) ∙ neg-* F.ring (R p q) (norm i))

      pub step_reduced : Reduced F n rows vals
      step_reduced p l = go (ℕ_discrete p q) (red p l)
        where
          clear : (p' : ℕ) → ¬ (p' ≡ q) → rows p' q ≡ 𝟘
          clear p' ne = rows_other p' ne q ∙ ap (λ x. R p' q + ⊖ (R p' q * x)) norm_q ∙ simp units

          at_q : Pivot F n rows q
          at_q = record {
            lead = rows_q q lq ∙ norm_q;
            before = λ i k. rows_q i (omega arith) ∙ norm_zero i (first i k);
            others = λ p' k ne. clear p' ne;
          }

          early : (i : ℕ) → i < p → ¬ (p ≡ q) → Pivot F n R p → Dec (i < q) → rows p i ≡ 𝟘
          early i k ne pv (yes a) = two_step (R p i) (kern F R q p) (norm i) 𝟘 (pv.before i k) (norm_zero i (first i a))
          early i k ne pv (no a) =
              one_step (R p i) (kern F R q p) (norm i) (pv.before i k) (kern_zero p ne (pv.before q (omega arith)))

          go : Dec (p ≡ q) → Free F n R val p ⊎ Pivot F n R p → Free F n rows vals p ⊎ Pivot F n rows p
          go (yes e) h = inr (rw e at_q)
          go (no ne) (inl fr) = inl (record {
            row = λ i k. one_step (R p i) (kern F R q p) (norm i) (fr.row i k) (kern_zero p ne (fr.row q lq));
            value = one_step (val p) (kern F R q p) normv fr.value (kern_zero p ne (fr.row q lq));
          })
          go (no ne) (inr pv) = inr (record {
            lead = two_step (R p p) (kern F R q p) (norm p) 𝟙 pv.lead z;
            before = λ i k. early i k ne pv (dec_lt i q);
            others = λ p' k ne'. two_step (R p' p) (kern F R q p') (norm p) 𝟘 (pv.others p' k ne') z;
          })
            where
              z : norm p ≡ 𝟘
              z = norm_zero p (res_pivot F n R val red c p l pv)

      -- what a new row gives
      rows_dot : (v : ℕ → K) (p : ℕ) → dot (ops F) n (rows p) v ≡ dot (ops F) n (R p) v + kern F R q p * (inv (res F n R c q) * dot (ops F) n (res F n R c) v)
      rows_dot v p =
          sum_cong (ops F) n _ (λ i. R p i * v i + kern F R q p * (inv (res F n R c q) * (res F n R c i * v i))) (λ i k. shape (R p i) (kern F R q p) (inv (res F n R c q)) (res F n R c i) (v i))
          ∙ sum_add F.ring n (λ i. R p i * v i) (λ i. kern F R q p * (inv (res F n R c q) * (res F n R c i * v i)))
          ∙ ap (λ x. dot (ops F) n (R p) v + x)
          (sum_mul F.ring n (kern F R q p) (λ i. inv (res F n R c q) * (res F n R c i * v i))
          ∙ ap (λ x. kern F R q p * x) (sum_mul F.ring n (inv (res F n R c q)) (λ i. res F n R c i * v i)))
        where
          shape : (a k u r x : K) → (a + k * (u * r)) * x ≡ a * x + k * (u * (r * x))
          shape a k u r x = simp rings

      -- what satisfies the new table satisfies the old one and the new equation
      pub sat_step : (v : ℕ → K) → Sat F n rows vals v → Sat F n R val v × (dot (ops F) n c v ≡ b)
      sat_step v s = (old, end)
        where
          u : K
          u = inv (res F n R c q)

          r : K
          r = dot (ops F) n (res F n R c) v

          at_q : u * r ≡ normv
          at_q = sym (ap₂ (λ x y. x + y * (u * r)) (row_zero F n R val red v q q_free) kern_q ∙ simp units) ∙ sym (rows_dot v q) ∙ s q lq ∙ vals_q

          old : Sat F n R val v
          old p l =
              cancel F.ring (kern F R q p * normv) (dot (ops F) n (R p) v) (val p)
              (+_comm F.ring (kern F R q p * normv) (dot (ops F) n (R p) v)
              ∙ ap (λ x. dot (ops F) n (R p) v + kern F R q p * x) (sym at_q)
              ∙ sym (rows_dot v p) ∙ s p l ∙ +_comm F.ring (val p) (kern F R q p * normv))

          undo : (x : K) → res F n R c q * (u * x) ≡ x
          undo x = sym (*-assoc F.ring (res F n R c q) u x) ∙ ap (λ y. y * x) (⊗-inv (res F n R c q) nz) ∙ one-* F.ring x

          m : K
          m = ⊖ (sum (ops F) n (λ p. c p * val p))

          end : dot (ops F) n c v ≡ b
          end =
              cancel F.ring m (dot (ops F) n c v) b
              (+_comm F.ring m (dot (ops F) n c v) ∙ sym (res_dot v old)
              ∙ sym (undo r) ∙ ap (λ x. res F n R c q * x) at_q ∙ undo (b + m) ∙ +_comm F.ring b m)
