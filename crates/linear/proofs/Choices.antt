-- Lists of choices: what stands in them, that nothing stands twice, and how long they are.
use Rattle.std.proofs.Common.{◌≡◌, ◌+◌, ◌*◌, ◌⊎◌, List, [], ◌∷◌, ◌++◌, map, length, sym, refl, ap, ◌∙◌, subst, ap₂, inl, inr, zero-mul, arith, length-append}
use lib.ListN.{length-map}
use Rattle.linear.specs.Choices.{In, Apart, prefixed, choices, Each, sizes}

module _ {A B : Type 0} where
  pub in_map : (f : A → B) (l : List A) (y : B) → In y (map f l) → (a : A) × In a l × (y ≡ f a)
  in_map f [] y h = absurd h
  in_map f (x ∷ l) y (inl e) = (x, inl refl, e)
  in_map f (x ∷ l) y (inr h) = let t = in_map f l y h in (t.0, inr t.1, t.2)

  pub map_in : (f : A → B) (l : List A) (a : A) → In a l → In (f a) (map f l)
  map_in f [] a h = absurd h
  map_in f (x ∷ l) a (inl e) = inl (ap f e)
  map_in f (x ∷ l) a (inr h) = inr (map_in f l a h)

  pub apart_map : (f : A → B) (l : List A) → ((a b : A) → In a l → In b l → f a ≡ f b → a ≡ b) → Apart l → Apart (map f l)
  apart_map f [] inj h = tt
  apart_map f (x ∷ l) inj h = (
    (λ m. let t = in_map f l (f x) m in h.0 (subst (λ z. In z l) (sym (inj x t.0 (inl refl) (inr t.1) t.2)) t.1)),
    apart_map f l (λ a b i j e. inj a b (inr i) (inr j) e) h.1,
  )

module _ {A : Type 0} where
  pub in-++ : (s t : List A) (a : A) → In a (s ++ t) → In a s ⊎ In a t
  in-++ [] t a h = inr h
  in-++ (x ∷ s) t a (inl e) = inl (inl e)
  in-++ (x ∷ s) t a (inr h) = go (in-++ s t a h)
    where
      go : In a s ⊎ In a t → In a (x ∷ s) ⊎ In a t
      go (inl m) = inl (inr m)
      go (inr m) = inr m

  pub in_left : (s t : List A) (a : A) → In a s → In a (s ++ t)
  in_left [] t a h = absurd h
  in_left (x ∷ s) t a (inl e) = inl e
  in_left (x ∷ s) t a (inr h) = inr (in_left s t a h)

  pub in_right : (s t : List A) (a : A) → In a t → In a (s ++ t)
  in_right [] t a h = h
  in_right (x ∷ s) t a h = inr (in_right s t a h)

  pub apart-++ : (s t : List A) → Apart s → Apart t → ((a : A) → In a s → In a t → ⊥) → Apart (s ++ t)
  apart-++ [] t hs ht no_both = ht
  apart-++ (x ∷ s) t hs ht no_both = (
    (λ m. go (in-++ s t x m)),
    apart-++ s t hs.1 ht (λ a i j. no_both a (inr i) j),
  )
    where
      go : In x s ⊎ In x t → ⊥
      go (inl m) = hs.0 m
      go (inr m) = no_both x (inl refl) m

-- (a section of its own: inside one, a lemma of it stands at the section's A alone)
module _ {A : Type 0} where
  pub in_prefixed : (xs : List A) (vs : List (List A)) (w : List A) → In w (prefixed xs vs)
      → (x : A) × (v : List A) × In x xs × In v vs × (w ≡ x ∷ v)
  in_prefixed [] vs w h = absurd h
  in_prefixed (x ∷ xs) vs w h = go (in-++ (map (λ v. x ∷ v) vs) (prefixed xs vs) w h) (in_prefixed xs vs w)
    where
      go : In w (map (λ v. x ∷ v) vs) ⊎ In w (prefixed xs vs)
          → (In w (prefixed xs vs) → (x : A) × (v : List A) × In x xs × In v vs × (w ≡ x ∷ v))
          → (y : A) × (v : List A) × In y (x ∷ xs) × In v vs × (w ≡ y ∷ v)
      go (inl m) ih = let t = in_map (λ v. x ∷ v) vs w m in (x, t.0, inl refl, t.1, t.2)
      go (inr m) ih = let t = ih m in (t.0, t.1, inr t.2, t.3, t.4)

  pub prefixed_in : (xs : List A) (vs : List (List A)) (x : A) (v : List A) → In x xs → In v vs → In (x ∷ v) (prefixed xs vs)
  prefixed_in [] vs x v h k = absurd h
  prefixed_in (y ∷ xs) vs x v (inl e) k =
      in_left (map (λ v. y ∷ v) vs) (prefixed xs vs) (x ∷ v) (rw e (map_in (λ v. y ∷ v) vs v k))
  prefixed_in (y ∷ xs) vs x v (inr h) k = in_right (map (λ v. y ∷ v) vs) (prefixed xs vs) (x ∷ v) (prefixed_in xs vs x v h k)

  head_eq : (x y : A) (v w : List A) → x ∷ v ≡ y ∷ w → x ≡ y
  head_eq x y v w e = cc

  tail_eq : (x y : A) (v w : List A) → x ∷ v ≡ y ∷ w → v ≡ w
  tail_eq x y v w e = cc

  pub apart_prefixed : (xs : List A) (vs : List (List A)) → Apart xs → Apart vs → Apart (prefixed xs vs)
  apart_prefixed [] vs hx hv = tt
  apart_prefixed (x ∷ xs) vs hx hv =
      apart-++ (map (λ v. x ∷ v) vs) (prefixed xs vs)
      (apart_map (λ v. x ∷ v) vs (λ a b i j e. tail_eq x x a b e) hv)
      (apart_prefixed xs vs hx.1 hv)
      (λ a i j.
      let s = in_map (λ v. x ∷ v) vs a i in
      let t = in_prefixed xs vs a j in
      hx.0 (subst (λ z. In z xs) (sym (head_eq x t.0 s.0 t.1 (sym s.2 ∙ t.4))) t.2))

  pub length_prefixed : (xs : List A) (vs : List (List A)) → length (prefixed xs vs) ≡ length xs * length vs
  length_prefixed [] vs = sym (zero-mul (length vs))
  length_prefixed (x ∷ xs) vs =
      length-append (map (λ v. x ∷ v) vs) (prefixed xs vs)
      ∙ ap₂ ◌+◌ (length-map vs (λ v. x ∷ v)) (length_prefixed xs vs)
      ∙ omega arith

  pub apart_choices : (xss : List (List A)) → ((i : List A) → In i xss → Apart i) → Apart (choices xss)
  apart_choices [] h = ((λ m. m), tt)
  apart_choices (xs ∷ xss) h = apart_prefixed xs (choices xss) (h xs (inl refl)) (apart_choices xss (λ i m. h i (inr m)))

  pub in_choices : (xss : List (List A)) (w : List A) → Each w xss → In w (choices xss)
  in_choices [] [] h = inl refl
  in_choices [] (a ∷ w) h = absurd h
  in_choices (xs ∷ xss) [] h = absurd h
  in_choices (xs ∷ xss) (a ∷ w) h = prefixed_in xs (choices xss) a w h.0 (in_choices xss w h.1)

  pub choices_each : (xss : List (List A)) (w : List A) → In w (choices xss) → Each w xss
  choices_each [] w (inl e) = rw e tt
  choices_each [] w (inr h) = absurd h
  choices_each (xs ∷ xss) w h =
      let t = in_prefixed xs (choices xss) w h in rw t.4 (t.2, choices_each xss t.1 t.3)

  pub length_choices : (xss : List (List A)) → length (choices xss) ≡ sizes xss
  length_choices [] = refl
  length_choices (xs ∷ xss) = length_prefixed xs (choices xss) ∙ ap (λ n. length xs * n) (length_choices xss)
