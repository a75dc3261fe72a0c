-- The solutions of a reduced table, listed: each satisfies it, each that does is there, none twice.
use Rattle.std.proofs.Common.{◌≡◌, ℕ, zero, suc, ◌+◌, ◌*◌, ◌^◌, ◌<◌, ◌⊎◌, List, [], ◌∷◌, map, length, get_or, sym, refl, ap, ◌∙◌, subst, ap₂, inl, inr, mul_comm, one-mul, pow-suc, arith, ext_get_or}
use native.Mathlib.Decide.{ℕ_discrete}
use native.Mathlib.Nat.{pow-zero}
use lib.ListN.{length-map}
use Rattle.std.specs.List.{range_with_len}
use Rattle.std.proofs.lemmas.List.FromFn.{get_or-map-range_with_len, length-map-range_with_len, fill_by_all}
use Rattle.linear.specs.Field.{FieldOn, ops}
use Rattle.linear.specs.Table.{Free, Pivot, Reduced, Sat, kern}
use Rattle.algebra.specs.Matrix.{tabulate}
use Rattle.linear.specs.Choices.{In, Apart, choices, Each, sizes}
use Rattle.linear.specs.Solutions.{by, frees, cell, vector, solutions}
use Rattle.linear.proofs.Identities.{units, *-zero}
use Rattle.algebra.proofs.Sums.{sum_cong}
use Rattle.linear.proofs.Sums.{dot_cong}
use Rattle.linear.proofs.Solving.{point, point_sat, sat_point, point_kern, row_zero, kern_pivot}
use Rattle.linear.proofs.Choices.{in_map, map_in, apart_map, apart_choices, in_choices, choices_each, length_choices}

module _ {A : Type 0} (d : A) where
  pub tab_at : (n : ℕ) (f : ℕ → A) (i : ℕ) → i < n → get_or (tabulate n f) i d ≡ f i
  tab_at n f i l = get_or-map-range_with_len f 0 n i i d l (omega arith)

  pub each_length : (xss : List (List A)) (w : List A) → Each w xss → length w ≡ length xss
  each_length [] [] h = refl
  each_length [] (a ∷ w) h = absurd h
  each_length (xs ∷ xss) [] h = absurd h
  each_length (xs ∷ xss) (a ∷ w) h = ap suc (each_length xss w h.1)

  pub each_at : (xss : List (List A)) (w : List A) → Each w xss → (i : ℕ) → i < length xss → In (get_or w i d) (get_or xss i [])
  each_at [] w h i l = absurd (omega arith)
  each_at (xs ∷ xss) [] h i l = absurd h
  each_at (xs ∷ xss) (a ∷ w) h zero l = h.0
  each_at (xs ∷ xss) (a ∷ w) h (suc i) l = each_at xss w h.1 i (omega arith)

  pub at_each : (xss : List (List A)) (w : List A) → length w ≡ length xss
      → ((i : ℕ) → i < length xss → In (get_or w i d) (get_or xss i [])) → Each w xss
  at_each [] [] e h = tt
  at_each [] (a ∷ w) e h = absurd (omega arith)
  at_each (xs ∷ xss) [] e h = absurd (omega arith)
  at_each (xs ∷ xss) (a ∷ w) e h = (h 0 (omega arith), at_each xss w (omega arith) (λ i l. h (suc i) (omega arith)))

module _ {K : Type 0} (F : FieldOn K) (n : ℕ) (R : ℕ → ℕ → K) (val : ℕ → K) (all : List K) where
  open F.ring.ops use {𝟘, 𝟙, ◌⊕◌, ⊖}
  open F use {dec, one_ne}

  at : List K → ℕ → K
  at w i = get_or w i 𝟘

  cells : List (List K)
  cells = tabulate n (cell F R all)

  pub how_many : (a m : ℕ) → sizes (map (cell F R all) (range_with_len a m)) ≡ length all ^ frees F R a m
  how_many a zero = sym (pow-zero (length all))
  how_many a (suc m) = go (dec (R a a) 𝟘) (how_many (a + 1) m)
    where
      go : (t : Dec (R a a ≡ 𝟘)) → sizes (map (cell F R all) (range_with_len (a + 1) m)) ≡ length all ^ frees F R (a + 1) m
          → length (by t all (𝟘 ∷ [])) * sizes (map (cell F R all) (range_with_len (a + 1) m))
          ≡ length all ^ by t (suc (frees F R (a + 1) m)) (frees F R (a + 1) m)
      go (yes e) ih = ap (λ x. length all * x) ih ∙ mul_comm (length all) _ ∙ sym (pow-suc (length all) (frees F R (a + 1) m))
      go (no ne) ih = one-mul _ ∙ ih

  -- N to the number of free columns
  pub solutions_length : length (solutions F R n val all) ≡ length all ^ frees F R 0 n
  solutions_length = length-map (choices (tabulate n (cell F R all))) (vector F R n val) ∙ length_choices (tabulate n (cell F R all)) ∙ how_many 0 n

  module _ (red : Reduced F n R val) where
    is_free : (p : ℕ) → p < n → R p p ≡ 𝟘 → Free F n R val p
    is_free p l e = go (red p l)
      where
        go : Free F n R val p ⊎ Pivot F n R p → Free F n R val p
        go (inl fr) = fr
        go (inr pv) = absurd (one_ne (sym pv.lead ∙ e))

    is_pivot : (p : ℕ) → p < n → ¬ (R p p ≡ 𝟘) → Pivot F n R p
    is_pivot p l ne = go (red p l)
      where
        go : Free F n R val p ⊎ Pivot F n R p → Pivot F n R p
        go (inl fr) = absurd (ne (fr.row p l))
        go (inr pv) = pv

    at_free : (t : ℕ → K) (p : ℕ) → p < n → Free F n R val p → point F n R val t p ≡ t p
    at_free t p l fr = ap₂ (λ x y. x ⊕ (t p ⊕ ⊖ y)) fr.value (row_zero F n R val red t p fr) ∙ simp units

    vector_at : (w : List K) (i : ℕ) → i < n → get_or (vector F R n val w) i 𝟘 ≡ point F n R val (λ k. get_or w k 𝟘) i
    vector_at w i l = tab_at 𝟘 n (point F n R val (λ k. get_or w k 𝟘)) i l

    -- each listed vector satisfies the rows
    pub solutions_sat : (s : List K) → In s (solutions F R n val all) → (length s ≡ n) × Sat F n R val (λ i. get_or s i 𝟘)
    solutions_sat s h = (
      ap length t.2 ∙ length-map-range_with_len (point F n R val (λ k. get_or t.0 k 𝟘)) 0 n,
      λ p l.
          dot_cong F.ring n (R p) (λ i. get_or s i 𝟘) (point F n R val (λ k. get_or t.0 k 𝟘)) (λ i k. ap (λ z. get_or z i 𝟘) t.2 ∙ vector_at t.0 i k)
          ∙ point_sat F n R val red (λ k. get_or t.0 k 𝟘) p l,
    )
      where
        t : (w : List K) × In w (choices (tabulate n (cell F R all))) × (s ≡ vector F R n val w)
        t = in_map (vector F R n val) (choices (tabulate n (cell F R all))) s h

    len_cells : length (tabulate n (cell F R all)) ≡ n
    len_cells = length-map-range_with_len (cell F R all) 0 n

    in_cell : (w : List K) → In w (choices (tabulate n (cell F R all))) → (i : ℕ) → i < n → In (get_or w i 𝟘) (cell F R all i)
    in_cell w h i l =
        subst (λ z. In (get_or w i 𝟘) z) (tab_at [] n (cell F R all) i l)
        (each_at 𝟘 (tabulate n (cell F R all)) w (choices_each (tabulate n (cell F R all)) w h) i (rw len_cells l))

    len_in : (w : List K) → In w (choices (tabulate n (cell F R all))) → length w ≡ n
    len_in w h = each_length 𝟘 (tabulate n (cell F R all)) w (choices_each (tabulate n (cell F R all)) w h) ∙ len_cells

    one_one : (v w : List K) → In v (choices (tabulate n (cell F R all))) → In w (choices (tabulate n (cell F R all)))
        → vector F R n val v ≡ vector F R n val w → v ≡ w
    one_one v w hv hw e = ext_get_or 𝟘 v w (len_in v hv ∙ sym (len_in w hw)) (λ i k. here i (rw (len_in v hv) at k))
      where
        zeros : (i : ℕ) → i < n → (t : Dec (R i i ≡ 𝟘)) → In (get_or v i 𝟘) (by t all (𝟘 ∷ [])) → In (get_or w i 𝟘) (by t all (𝟘 ∷ []))
            → get_or v i 𝟘 ≡ get_or w i 𝟘
        zeros i l (yes z) a b =
            sym (at_free (λ k. get_or v k 𝟘) i l (is_free i l z)) ∙ sym (vector_at v i l)
            ∙ ap (λ x. get_or x i 𝟘) e ∙ vector_at w i l ∙ at_free (λ k. get_or w k 𝟘) i l (is_free i l z)
        zeros i l (no nz) (inl a) (inl b) = a ∙ sym b
        zeros i l (no nz) (inl a) (inr b) = absurd b
        zeros i l (no nz) (inr a) b = absurd a

        here : (i : ℕ) → i < n → get_or v i 𝟘 ≡ get_or w i 𝟘
        here i l = zeros i l (dec (R i i) 𝟘) (in_cell v hv i l) (in_cell w hw i l)

    -- no vector is listed twice
    pub solutions_apart : Apart all → Apart (solutions F R n val all)
    solutions_apart ha =
        apart_map (vector F R n val) (choices (tabulate n (cell F R all))) one_one
        (apart_choices (tabulate n (cell F R all)) (λ l m. let t = in_map (cell F R all) (range_with_len 0 n) l m in rw t.2 (go (dec (R t.0 t.0) 𝟘))))
      where
        go : {A : Type 0} (t : Dec A) → Apart (by t all (𝟘 ∷ []))
        go (yes e) = ha
        go (no e) = ((λ m. m), tt)

    -- and each that satisfies the rows is listed
    pub solutions_all : ((a : K) → In a all) → (v : List K) → length v ≡ n → Sat F n R val (λ i. get_or v i 𝟘) → In v (solutions F R n val all)
    solutions_all each v lv s = rw whole (map_in (vector F R n val) (choices (tabulate n (cell F R all))) w inside)
      where
        mask : ℕ → K
        mask i = by (dec (R i i) 𝟘) (get_or v i 𝟘) 𝟘

        w : List K
        w = tabulate n mask

        w_at : (i : ℕ) → i < n → get_or w i 𝟘 ≡ mask i
        w_at i l = tab_at 𝟘 n mask i l

        fits : (x : K) (i : ℕ) (t : Dec (R i i ≡ 𝟘)) → In (by t x 𝟘) (by t all (𝟘 ∷ []))
        fits x i (yes e) = each x
        fits x i (no e) = inl refl

        inside : In w (choices (tabulate n (cell F R all)))
        inside =
            in_choices (tabulate n (cell F R all)) w
            (at_each 𝟘 (tabulate n (cell F R all)) w (length-map-range_with_len mask 0 n ∙ sym len_cells)
            (λ i k.
            let l : i < n = rw len_cells at k in
            rw (w_at i l, tab_at [] n (cell F R all) i l) (fits (get_or v i 𝟘) i (dec (R i i) 𝟘))))

        term : (c : ℕ) → c < n → (f : ℕ) → f < n → (t : Dec (R f f ≡ 𝟘)) → F.ring.ops.◌⊗◌ (by t (get_or v f 𝟘) 𝟘) (kern F R f c) ≡ F.ring.ops.◌⊗◌ (get_or v f 𝟘) (kern F R f c)
        term c l f k (yes e) = refl
        term c l f k (no ne) =
            ap (λ x. F.ring.ops.◌⊗◌ 𝟘 x) z ∙ *-zero F.ring 𝟘 ∙ sym (ap (λ x. F.ring.ops.◌⊗◌ (get_or v f 𝟘) x) z ∙ *-zero F.ring (get_or v f 𝟘))
          where
            z : kern F R f c ≡ 𝟘
            z = kern_pivot F n R val red f (is_pivot f k ne) c l (ℕ_discrete c f)

        same : (c : ℕ) → c < n → get_or v c 𝟘 ≡ point F n R val (λ i. get_or w i 𝟘) c
        same c l =
            sat_point F n R val red (λ i. get_or v i 𝟘) s c l
            ∙ point_kern F n R val (λ i. get_or v i 𝟘) c l
            ∙ ap (λ x. val c ⊕ x)
            (sym (sum_cong (ops F) n _ _ (λ f k. ap (λ x. F.ring.ops.◌⊗◌ x (kern F R f c)) (w_at f k) ∙ term c l f k (dec (R f f) 𝟘))))
            ∙ sym (point_kern F n R val (λ i. get_or w i 𝟘) c l)

        whole : v ≡ vector F R n val w
        whole = fill_by_all (point F n R val (λ i. get_or w i 𝟘)) v n 𝟘 lv same
