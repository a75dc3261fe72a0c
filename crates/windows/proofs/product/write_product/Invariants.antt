use Rattle.std.proofs.Common.{◌≡◌, length}
use Rattle.std.specs.Iterator.Adapters.{enumerate_source, enumerate_count}
use Rattle.std.specs.Slice.Iter.{chunks_exact_rest, chunks_exact_size}
use Rattle.windows.specs.Shown.{shown}
use Rattle.windows.proofs.RowSteps.{Written}
use Rattle.windows.proofs.product.write_product.Given as goal

-- the rows that the loop has passed are written
abbrev pub invariant-loop-i : goal.invariant-loop-i
invariant-loop-i g l =
    record {
      count : enumerate_count l.i-iterator ≡ length l.yielded;
      size : chunks_exact_size (enumerate_source l.i-iterator) ≡ l.a.columns;
      written : Written (g.R.Ring.meaning l.r) (shown l.a) (shown l.b) (length l.yielded)
          (chunks_exact_rest (enumerate_source l.i-iterator)) l.into;
    }
