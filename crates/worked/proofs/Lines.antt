-- The lines of the table, by computation.
use Rattle.std.proofs.Common.{◌≡◌, ℕ, true, eqb, Option, sym, refl, ap, ◌∙◌, subst, lit<}
use Rattle.std.proofs.lemmas.Bool.Decides.{Decides-eqb}
use Rattle.algebra.specs.Meaning.{Meaning, RingLaws}
use Rattle.algebra.specs.Inverse.{Inverts}
use Rattle.algebra.proofs.OneMeaning.{itself, same_inverse}
use Rattle.rings.specs.Octets.{octet_product, octets}
use Rattle.worked.specs.Worked.{AllHold, table}

pub all_hold : AllHold table
unfolding octet_product
all_hold =
    (refl, (refl, ((lit< tt, lit< tt, lit< tt, refl), ((λ h. refl), (refl, (refl, (refl, ((lit< tt, lit< tt, lit< tt, refl), (refl, tt)))))))))

-- four answers of a field that means the octets, compared with the lines
module _ (m : Meaning) (laws : RingLaws m) (is : m ≡ octets) where
  pub product_answered : (a b c x : ℕ) → octets.product a b ≡ c → x ≡ m.product a b → eqb x c ≡ true
  product_answered a b c x line e = (Decides-eqb x c).1 (e ∙ ap (λ k. k.product a b) is ∙ line)

  pub inverse_answered : (a : ℕ) (b r : Option ℕ) → Inverts octets a b → Inverts m a r → r ≡ b
  inverse_answered a b r line e = same_inverse m m laws laws (itself m) a r b e (subst (λ k. Inverts k a b) (sym is) line)
