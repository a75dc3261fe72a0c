-- What a reduced table leaves: its solution, its kernel vectors, and what an equation gives at the vectors that satisfy it.
use Rattle.std.proofs.Common.{◌≡◌, ℕ, ◌<◌, ◌⊎◌, sym, ap, ◌∙◌, ap₂, inl, inr}
use Rattle.linear.specs.Field.{FieldOn, ops}
use Rattle.algebra.specs.Operations.{sum, dot}
use Rattle.linear.specs.Table.{unit, unit_same, unit_other, Free, Pivot, Reduced, Sat, res, resv, kern}
use Rattle.linear.proofs.Identities.{rings, +-zero, zero-*, *-zero, one-*, *-one, *-comm, *-assoc, dist_l, dist_r, neg-*, *-neg, +-neg, cancel, far1}
use Rattle.algebra.proofs.Sums.{sum_cong}
use Rattle.linear.proofs.Sums.{sum_zero, sum_add, sum_neg, sum_single, dot_add, dot_neg, dot_mul, dot_cong, dot_unit, dot_rows}

module _ {K : Type 0} (F : FieldOn K) (n : ℕ) (R : ℕ → ℕ → K) (val : ℕ → K) where
  open F.ring.ops use {𝟘, 𝟙, ◌⊕◌ as ◌+◌, ◌⊗◌ as ◌*◌, ⊖}
  open F use {inv, ⊗-inv, one_ne}

  infixl 65 ◌+◌
  infixl 70 ◌*◌
  -- the vector x0 + Σ t f · kern f
  abbrev pub point : (ℕ → K) → ℕ → K
  point t c = val c + (t c + ⊖ (dot (ops F) n (R c) t))

  pub point_kern : (t : ℕ → K) (c : ℕ) → c < n → point t c ≡ val c + sum (ops F) n (λ f. t f * kern F R f c)
  point_kern t c l =
      ap (λ x. val c + x)
      (sym
      (sum_cong (ops F) n _ (λ f. t f * unit (ops F) f c + ⊖ (R c f * t f)) (λ f k. simp (dist_l, *-neg, *-comm F.ring (t f) (R c f)))
      ∙ sum_add F.ring n (λ f. t f * unit (ops F) f c) (λ f. ⊖ (R c f * t f))
      ∙ ap₂ ◌+◌
      (sum_single F.ring n (λ f. t f * unit (ops F) f c) c l (λ i k ne. ap (λ x. t i * x) (unit_other (ops F) i c (λ e. ne (sym e))) ∙ *-zero F.ring (t i))
      ∙ ap (λ x. t c * x) (unit_same (ops F) c) ∙ *-one F.ring (t c))
      (sum_neg F.ring n (λ f. R c f * t f))))

  module _ (red : Reduced F n R val) where
    -- the rows leave a vector as it is that is 0 at each free column
    pub fixed : (w : ℕ → K) → ((c : ℕ) → c < n → Free F n R val c → w c ≡ 𝟘) → (p : ℕ) → p < n → dot (ops F) n (R p) w ≡ w p
    fixed w z p l = go (red p l)
      where
        term : (c : ℕ) → c < n → ¬ (c ≡ p) → Free F n R val c ⊎ Pivot F n R c → R p c * w c ≡ 𝟘
        term c k ne (inl fr) = ap (λ x. R p c * x) (z c k fr) ∙ *-zero F.ring (R p c)
        term c k ne (inr pv) = ap (λ x. x * w c) (pv.others p l (λ e. ne (sym e))) ∙ zero-* F.ring (w c)

        go : Free F n R val p ⊎ Pivot F n R p → dot (ops F) n (R p) w ≡ w p
        go (inl fr) =
            sum_zero F.ring n (λ c. R p c * w c) (λ c k. ap (λ x. x * w c) (fr.row c k) ∙ zero-* F.ring (w c)) ∙ sym (z p l fr)
        go (inr pv) =
            sum_single F.ring n (λ c. R p c * w c) p l (λ c k ne. term c k ne (red c k))
            ∙ ap (λ x. x * w p) pv.lead ∙ one-* F.ring (w p)

    -- x0 satisfies the rows
    pub val_sat : Sat F n R val val
    val_sat = fixed val (λ c k fr. fr.value)

    pub row_zero : (t : ℕ → K) (c : ℕ) → Free F n R val c → dot (ops F) n (R c) t ≡ 𝟘
    row_zero t c fr = sum_zero F.ring n (λ i. R c i * t i) (λ i k. ap (λ x. x * t i) (fr.row i k) ∙ zero-* F.ring (t i))

    -- kern is in the kernel, and 0 for a pivot
    pub kern_sat : (f : ℕ) → f < n → (p : ℕ) → p < n → dot (ops F) n (R p) (kern F R f) ≡ 𝟘
    kern_sat f lf p l =
        dot_add F.ring n (R p) (unit (ops F) f) (λ c. ⊖ (R c f))
        ∙ ap₂ ◌+◌ (dot_unit F.ring n (R p) f lf)
        (dot_neg F.ring n (R p) (λ c. R c f) ∙ ap ⊖ (fixed (λ c. R c f) (λ c k fr. fr.row f lf) p l))
        ∙ +-neg F.ring (R p f)

    pub kern_pivot : (f : ℕ) → Pivot F n R f → (c : ℕ) → c < n → Dec (c ≡ f) → kern F R f c ≡ 𝟘
    kern_pivot f pv c l (yes e) = rw e (ap₂ (λ x y. x + ⊖ y) (unit_same (ops F) f) pv.lead ∙ +-neg F.ring 𝟙)
    kern_pivot f pv c l (no ne) = ap₂ (λ x y. x + ⊖ y) (unit_other (ops F) f c ne) (pv.others c l ne) ∙ +-neg F.ring 𝟘

    pub point_sat : (t : ℕ → K) → Sat F n R val (point t)
    point_sat t p l =
        dot_add F.ring n (R p) val (λ c. t c + ⊖ (dot (ops F) n (R c) t))
        ∙ ap₂ ◌+◌ (val_sat p l)
        (dot_add F.ring n (R p) t (λ c. ⊖ (dot (ops F) n (R c) t))
        ∙ ap (λ x. dot (ops F) n (R p) t + x)
        (dot_neg F.ring n (R p) (λ c. dot (ops F) n (R c) t)
        ∙ ap ⊖ (fixed (λ c. dot (ops F) n (R c) t) (λ c k fr. row_zero t c fr) p l))
        ∙ +-neg F.ring (dot (ops F) n (R p) t))
        ∙ +-zero F.ring (val p)

    -- each satisfying vector is the point of itself
    pub sat_point : (v : ℕ → K) → Sat F n R val v → (c : ℕ) → c < n → v c ≡ point v c
    sat_point v s c l = sym (ap (λ x. val c + (v c + ⊖ x)) (s c l) ∙ far1 F.ring (val c) (v c))

    -- a residual is 0 at each pivot
    pub res_pivot : (c : ℕ → K) (q : ℕ) → q < n → Pivot F n R q → res F n R c q ≡ 𝟘
    res_pivot c q l pv =
        ap (λ x. c q + ⊖ x)
        (sum_single F.ring n (λ p. c p * R p q) q l (λ p k ne. ap (λ x. c p * x) (pv.others p k ne) ∙ *-zero F.ring (c p))
        ∙ ap (λ x. c q * x) pv.lead ∙ *-one F.ring (c q))
        ∙ +-neg F.ring (c q)

    -- what a row gives at a point
    pub dot_point : (c t : ℕ → K) → dot (ops F) n c (point t) ≡ dot (ops F) n c val + dot (ops F) n (res F n R c) t
    dot_point c t =
        dot_add F.ring n c val (λ i. t i + ⊖ (dot (ops F) n (R i) t))
        ∙ ap (λ x. dot (ops F) n c val + x)
        (dot_add F.ring n c t (λ i. ⊖ (dot (ops F) n (R i) t))
        ∙ ap (λ x. dot (ops F) n c t + x) (dot_neg F.ring n c (λ i. dot (ops F) n (R i) t) ∙ ap ⊖ (sym (dot_rows F.ring n n c R t)))
        ∙ sym
        (sum_cong (ops F) n _ (λ i. c i * t i + ⊖ (sum (ops F) n (λ p. c p * R p i) * t i)) (λ i k. simp (dist_r, neg-*))
        ∙ sum_add F.ring n (λ i. c i * t i) (λ i. ⊖ (sum (ops F) n (λ p. c p * R p i) * t i))
        ∙ ap (λ x. dot (ops F) n c t + x) (sum_neg F.ring n (λ i. sum (ops F) n (λ p. c p * R p i) * t i))))

    -- a row whose residual is 0 has one value at each satisfying vector
    pub determined : (c : ℕ → K) (b : K) → ((q : ℕ) → q < n → res F n R c q ≡ 𝟘) → (v : ℕ → K) → Sat F n R val v
        → dot (ops F) n c v ≡ b + ⊖ (resv F n val c b)
    determined c b z v s =
        dot_cong F.ring n c v (point v) (sat_point v s)
        ∙ dot_point c v
        ∙ ap (λ x. dot (ops F) n c val + x) (sum_zero F.ring n (λ i. res F n R c i * v i) (λ i k. ap (λ x. x * v i) (z i k) ∙ zero-* F.ring (v i)))
        ∙ back b (dot (ops F) n c val)
      where
        back : (b x : K) → x + 𝟘 ≡ b + ⊖ (b + ⊖ x)
        back b x = simp rings

    -- and any other takes each value
    pub takes : (c : ℕ → K) (q : ℕ) → q < n → ¬ (res F n R c q ≡ 𝟘) → (b : K) → (v : ℕ → K) × Sat F n R val v × (dot (ops F) n c v ≡ b)
    takes c q l ne b = (
      point t,
      point_sat t,
      dot_point c t
          ∙ ap (λ x. dot (ops F) n c val + x) (dot_mul F.ring n a (res F n R c) (unit (ops F) q) ∙ ap (λ x. a * x) (dot_unit F.ring n (res F n R c) q l))
          ∙ there (dot (ops F) n c val) (res F n R c q) ne,
    )
      where
        a : K
        a = (b + ⊖ (dot (ops F) n c val)) * inv (res F n R c q)

        t : ℕ → K
        t i = a * unit (ops F) q i

        there : (x r : K) → ¬ (r ≡ 𝟘) → x + (b + ⊖ x) * inv r * r ≡ b
        there x r nz = rw (*-assoc F.ring (b + ⊖ x) (inv r) r, *-comm F.ring (inv r) r, ⊗-inv r nz) (simp rings)

    -- both a vector that keeps the equation c · v = b and one that breaks it
    pub open_row : (c : ℕ → K) (q : ℕ) → q < n → ¬ (res F n R c q ≡ 𝟘) → (b : K)
        → ((v : ℕ → K) × Sat F n R val v × (dot (ops F) n c v ≡ b)) × ((v : ℕ → K) × Sat F n R val v × ¬ (dot (ops F) n c v ≡ b))
    open_row c q l ne b = (
      takes c q l ne b,
      (
        (takes c q l ne (b + 𝟙)).0,
        (takes c q l ne (b + 𝟙)).1,
        λ e. one_ne (cancel F.ring b 𝟙 𝟘 (sym (takes c q l ne (b + 𝟙)).2 ∙ e ∙ sym (+-zero F.ring b))),
      ),
    )

    -- a vector that satisfies the rows is the solution plus its entries times the kernel vectors, which are 0 for a pivot
    pub spanned : (v : ℕ → K) → Sat F n R val v → (c : ℕ) → c < n → v c ≡ val c + sum (ops F) n (λ f. v f * kern F R f c)
    spanned v s c l = sat_point v s c l ∙ point_kern v c l
