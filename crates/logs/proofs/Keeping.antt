-- Every log over a field keeps the promises, and logs over two fields of one meaning agree.
use Rattle.algebra.specs.Meaning.{Meaning}
use Rattle.linear.specs.Field.{FieldLaws}
use Rattle.logs.specs.Promises.{Promised, Agree}
use Rattle.logs.proofs.Counted.{log_counted}
use Rattle.logs.proofs.Settling.{log_refuted, log_missed, log_settled, log_ordered}
use Rattle.logs.proofs.Spanning.{log_basis, log_only, log_each}
use Rattle.logs.proofs.Replying.{log_answered}
use Rattle.logs.proofs.Carrying.{log_agreed}

pub promised : (m : Meaning) → FieldLaws m → Promised m
promised m laws n log md = record {
  counted = log_counted m laws n log md;
  answered = log_answered m laws n log md;
  basis = log_basis m laws n log md;
  only = log_only m laws n log md;
  each = log_each m laws n log md;
  refuted = log_refuted m laws n log md;
  missed = log_missed m n log;
  settled = log_settled m laws n log md;
  agreed = log_agreed m laws n log md;
  ordered = log_ordered m n log;
}

pub agrees : (m k : Meaning) → FieldLaws m → Agree m k
agrees m k laws one n log other ml mo same = log_agreed m laws n log ml k one other mo same
