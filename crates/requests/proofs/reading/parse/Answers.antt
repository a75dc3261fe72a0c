-- Each turn reads one request, of at least a line.
use Rattle.std.proofs.Common.{ap, ◌∙◌}
use Rattle.requests.specs.Asked.{asked_by}
use Rattle.requests.specs.Format.{read_request}
use Rattle.requests.proofs.Following.{gives_fault}
use Rattle.requests.proofs.Recalling.{one_reading, read_back}
use Rattle.requests.proofs.Shrinking.{request_shorter, no_more, ends, breaks_off}
use Rattle.requests.proofs.reading.parse.Goals as goal

pub loop-line-smaller : goal.loop-line-smaller
loop-line-smaller c = request_shorter _ _ _ (ap read_request c.in-Ok.ensures ∙ c.in-Ok-read_request.ensures)

pub returns-in-Err : goal.returns-in-Err
returns-in-Err c =
    let g = gives_fault asked_by _ _ _ _ c.in_ok-fault-in-Err.ensures c.in-Err.ensures in
    let h = no_more _ _ _ _ c.loop-line.invariant (breaks_off _ _ _ _ _ c.in-Ok.ensures g) in
    record { format = h; only = one_reading c.args.text.now _ _ h; back = read_back c.args.text.now _ _ h }

pub returns : goal.returns
returns c =
    let h = no_more _ _ _ _ c.loop-line.invariant (ends _ _ c.in_default.ensures.0) in
    record { format = h; only = one_reading c.args.text.now _ _ h; back = read_back c.args.text.now _ _ h }
