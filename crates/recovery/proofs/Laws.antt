-- The laws of a field, from the members of its trait.
use Rattle.algebra.specs.Meaning.{Meaning, RingLaws}
use Rattle.algebra.specs.Inverse.{HasInverses}
use Rattle.linear.specs.Field.{FieldLaws}

pub field_laws : {A : Type 0} (meaning : A → Meaning) → ((f : A) → RingLaws (meaning f)) → ((f : A) → HasInverses (meaning f)) → (f : A) → FieldLaws (meaning f)
field_laws meaning ring inverses f = record { ring = ring f; inverses = inverses f }
