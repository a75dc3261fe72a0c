-- The parts of the request, which were taken out of it in two steps, are those that were multiplied.
use Rattle.std.proofs.Common.{◌≡◌, IfOk, Result, subst}
use Rattle.std.specs.declared.alloc.AllocError.{AllocError}
use Rattle.windows.specs.declared.refusal.Refusal.{Refusal}
use Rattle.requests.specs.Asked.{matrix_of, asked_by}
use Rattle.requests.specs.declared.request.Request.{Request}
use Rattle.requests.specs.declared.request.Request.TheVariants.{Product}
use Rattle.requests.specs.declared.request.RingName.{RingName}
use Rattle.requests.specs.declared.request.Table.{Table}
use Rattle.replies.specs.Replies.{meaning_of, replied, reply_to, product_reply}
use Rattle.replies.proofs.answering.answer.Goals as goal

product_asked : (q : Request) (ring ring' : RingName) (left left' right right' : Table) (r : Result (Result Table Refusal) AllocError) → q ≡ Product ring left right → Product ring left right ≡ Product ring' left' right'
    → IfOk r (λ reply. replied reply ≡ product_reply (meaning_of ring) (matrix_of left') (matrix_of right'))
    → IfOk r (λ reply. replied reply ≡ reply_to (asked_by q))
product_asked q ring ring' left left' right right' r e f h =
    let whole : Product ring left' right' ≡ q = cc in
    subst (λ p. IfOk r (λ reply. replied reply ≡ reply_to (asked_by p))) whole h

pub returns : goal.returns
returns c =
    product_asked c.args.request _ _ _ _ _ _ c.multiply_over.result c.request-1.given.1 c.request-2-1.given.1 c.multiply_over.ensures
