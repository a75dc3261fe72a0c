-- Two reduced tables with the same satisfying vectors are equal.
use Rattle.std.proofs.Common.{◌≡◌, ℕ, ◌<◌, ◌⊎◌, sym, ap, ◌∙◌, ap₂, inl, inr, arith}
use native.Mathlib.Decide.{dec_lt}
use Rattle.linear.specs.Field.{FieldOn, ops}
use Rattle.algebra.specs.Operations.{dot}
use Rattle.linear.specs.Table.{unit, unit_same, unit_other, Free, Pivot, Reduced, Sat}
use Rattle.linear.proofs.Identities.{units, +-zero, zero-*, *-zero, one-*, +-neg, cancel, +_comm}
use Rattle.linear.proofs.Sums.{sum_single, dot_add, dot_neg, dot_cong, dot_unit}
use Rattle.linear.proofs.Solving.{point, point_sat, fixed, val_sat, row_zero}

module _ {K : Type 0} (F : FieldOn K) (n : ℕ) where
  open F.ring.ops use {𝟘, 𝟙, ◌⊕◌ as ◌+◌, ◌⊗◌ as ◌*◌, ⊖}
  open F use {one_ne}

  infixl 65 ◌+◌
  infixl 70 ◌*◌
  -- two satisfying vectors that agree after a pivot agree at it
  pub at_pivot : (R : ℕ → ℕ → K) (val : ℕ → K) (j : ℕ) → j < n → Pivot F n R j → (v w : ℕ → K)
      → Sat F n R val v → Sat F n R val w → ((c : ℕ) → c < n → j < c → v c ≡ w c) → v j ≡ w j
  at_pivot R val j l pv v w sv sw after = lone v w h
    where
      -- the difference has only the term at j
      d : ℕ → K
      d c = v c + ⊖ (w c)

      off : (c : ℕ) → c < n → ¬ (c ≡ j) → Dec (c < j) → R j c * d c ≡ 𝟘
      off c k ne (yes b) = ap (λ x. x * d c) (pv.before c b) ∙ zero-* F.ring (d c)
      off c k ne (no b) =
          ap (λ x. R j c * x) (ap (λ x. x + ⊖ (w c)) (after c k (omega arith)) ∙ +-neg F.ring (w c)) ∙ *-zero F.ring (R j c)

      h : d j ≡ 𝟘
      h = sym (one-* F.ring (d j)) ∙ ap (λ x. x * d j) (sym pv.lead)
          ∙ sym (sum_single F.ring n (λ c. R j c * d c) j l (λ c k ne. off c k ne (dec_lt c j)))
          ∙ dot_add F.ring n (R j) v (λ c. ⊖ (w c))
          ∙ ap₂ ◌+◌ (sv j l) (dot_neg F.ring n (R j) w ∙ ap ⊖ (sw j l))
          ∙ +-neg F.ring (val j)

      lone : (v w : ℕ → K) → v j + ⊖ (w j) ≡ 𝟘 → v j ≡ w j
      lone v w e = cancel F.ring (⊖ (w j)) (v j) (w j) (+_comm F.ring (⊖ (w j)) (v j) ∙ e ∙ sym (+-neg F.ring (w j)) ∙ +_comm F.ring (w j) (⊖ (w j)))

  module _ (R S : ℕ → ℕ → K) (val wal : ℕ → K) (redR : Reduced F n R val) (redS : Reduced F n S wal)
      (to : (v : ℕ → K) → Sat F n R val v → Sat F n S wal v) where
    -- a free column of the one is free in the other
    pub no_clash : (j : ℕ) → j < n → Free F n R val j → Pivot F n S j → ⊥
    no_clash j l fr pv = one_ne (sym (e1 ∙ e2))
      where
        t : ℕ → K
        t = unit (ops F) j

        after : (c : ℕ) → c < n → j < c → Free F n R val c ⊎ Pivot F n R c → R c j ≡ 𝟘
        after c k b (inl f) = f.row j l
        after c k b (inr p) = p.before j b

        agree : (c : ℕ) → c < n → j < c → val c ≡ point F n R val t c
        agree c k b =
            sym
            (ap₂ (λ x y. val c + (x + ⊖ y)) (unit_other (ops F) j c (omega arith)) (dot_unit F.ring n (R c) j l ∙ after c k b (redR c k))
            ∙ simp units)

        same : val j ≡ point F n R val t j
        same = at_pivot S wal j l pv val (point F n R val t) (to val (val_sat F n R val redR))
            (to (point F n R val t) (point_sat F n R val redR t)) agree

        e1 : 𝟘 ≡ point F n R val t j
        e1 = sym fr.value ∙ same

        e2 : point F n R val t j ≡ 𝟙
        e2 =
            ap₂ (λ x y. x + y) fr.value (ap₂ (λ x y. x + ⊖ y) (unit_same (ops F) j) (row_zero F n R val redR t j fr))
            ∙ simp units

    pub free_too : (j : ℕ) → j < n → Free F n R val j → Free F n S wal j
    free_too j l fr = go (redS j l)
      where
        go : Free F n S wal j ⊎ Pivot F n S j → Free F n S wal j
        go (inl f) = f
        go (inr pv) = absurd (no_clash j l fr pv)

  -- two reduced tables with the same satisfying vectors are the same
  module _ (R S : ℕ → ℕ → K) (val wal : ℕ → K) (redR : Reduced F n R val) (redS : Reduced F n S wal)
      (to : (v : ℕ → K) → Sat F n R val v → Sat F n S wal v) (back : (v : ℕ → K) → Sat F n S wal v → Sat F n R val v) where
    pub same_val : (p : ℕ) → p < n → val p ≡ wal p
    same_val p l =
        sym (back wal (val_sat F n S wal redS) p l)
        ∙ fixed F n R val redR wal (λ c k fr. (free_too R S val wal redR redS to c k fr).value) p l

    pub same_row : (p : ℕ) → p < n → (f : ℕ) → f < n → R p f ≡ S p f
    same_row p l f lf = end (val p) (R p f) (S p f) sat
      where
        t : ℕ → K
        t = unit (ops F) f

        col : (c : ℕ) → c < n → dot (ops F) n (S c) t ≡ S c f
        col c k = dot_unit F.ring n (S c) f lf

        sat : val p + (R p f + ⊖ (S p f)) ≡ val p
        sat = sym
            (sym (back (point F n S wal t) (point_sat F n S wal redS t) p l)
            ∙ dot_add F.ring n (R p) wal (λ c. t c + ⊖ (dot (ops F) n (S c) t))
            ∙ ap₂ ◌+◌ (back wal (val_sat F n S wal redS) p l)
            (dot_add F.ring n (R p) t (λ c. ⊖ (dot (ops F) n (S c) t))
            ∙ ap₂ ◌+◌ (dot_unit F.ring n (R p) f lf)
            (dot_neg F.ring n (R p) (λ c. dot (ops F) n (S c) t)
            ∙ ap ⊖
            (dot_cong F.ring n (R p) (λ c. dot (ops F) n (S c) t) (λ c. S c f) col
            ∙ fixed F n R val redR (λ c. S c f) (λ c k fr. (free_too R S val wal redR redS to c k fr).row f lf) p l))))

        end : (v r s : K) → v + (r + ⊖ s) ≡ v → r ≡ s
        end v r s e =
            cancel F.ring (⊖ s) r s
            (+_comm F.ring (⊖ s) r ∙ cancel F.ring v (r + ⊖ s) 𝟘 (e ∙ sym (+-zero F.ring v)) ∙ sym (+-neg F.ring s) ∙ +_comm F.ring s (⊖ s))
