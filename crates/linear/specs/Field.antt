-- Commutative rings and fields on a type, with laws that hold of every value.
use Rattle.std.specs.Prelude.{◌≡◌}
use Rattle.algebra.specs.Inverse.{HasInverses}
use Rattle.algebra.specs.Meaning.{Meaning, RingLaws}
use Rattle.algebra.specs.Operations.{Operations}

pub record RingOn (K : Type 0) : Type 0 where
  pub ops : Operations K
  pub ⊕-comm : (a b : K) → ops.◌⊕◌ a b ≡ ops.◌⊕◌ b a
  pub ⊕-assoc : (a b c : K) → ops.◌⊕◌ (ops.◌⊕◌ a b) c ≡ ops.◌⊕◌ a (ops.◌⊕◌ b c)
  pub ⊕-zero : (a : K) → ops.◌⊕◌ a ops.𝟘 ≡ a
  pub ⊕-neg : (a : K) → ops.◌⊕◌ a (ops.⊖ a) ≡ ops.𝟘
  pub ⊗-comm : (a b : K) → ops.◌⊗◌ a b ≡ ops.◌⊗◌ b a
  pub ⊗-assoc : (a b c : K) → ops.◌⊗◌ (ops.◌⊗◌ a b) c ≡ ops.◌⊗◌ a (ops.◌⊗◌ b c)
  pub ⊗-one : (a : K) → ops.◌⊗◌ a ops.𝟙 ≡ a
  pub ⊗-dist : (a b c : K) → ops.◌⊗◌ a (ops.◌⊕◌ b c) ≡ ops.◌⊕◌ (ops.◌⊗◌ a b) (ops.◌⊗◌ a c)

-- a ring in which equality is decided, 1 is not 0, and each other value has an inverse
pub record FieldOn (K : Type 0) : Type 0 where
  pub ring : RingOn K
  pub inv : K → K
  pub dec : (a b : K) → Dec (a ≡ b)
  pub one_ne : ¬ (ring.ops.𝟙 ≡ ring.ops.𝟘)
  pub ⊗-inv : (a : K) → ¬ (a ≡ ring.ops.𝟘) → ring.ops.◌⊗◌ a (inv a) ≡ ring.ops.𝟙

abbrev pub ops : {K : Type 0} → FieldOn K → Operations K
ops F = F.ring.ops

-- what a field shows of its meaning
pub record FieldLaws (m : Meaning) : Type 0 where
  pub ring : RingLaws m
  pub inverses : HasInverses m
