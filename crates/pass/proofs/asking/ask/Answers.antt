-- What is written to the slice answers the question; what is asked of an unknown needs no slice.
use Rattle.std.proofs.Common.{rules}
use Rattle.std.proofs.lemmas.Result.{IfOk-weaker}
use Rattle.logs.specs.Questions.{solution, kernel}
use Rattle.pass.proofs.Answering.{wrote_replied}
use Rattle.pass.proofs.asking.ask.Goals as goal

pub returns-in-Solution : goal.returns-in-Solution
returns-in-Solution g c =
    rw c.in-Solution.is (IfOk-weaker c.ask_into.result _ _ (wrote_replied _ _ solution _ _ _ (λ shown left r k. search rules)) c.ask_into.ensures)

pub returns-in-Kernel : goal.returns-in-Kernel
returns-in-Kernel g c =
    rw c.in-Kernel.is
    (IfOk-weaker c.ask_into-in-Kernel.result _ _ (wrote_replied _ _ (kernel c.in-Kernel.k) _ _ _ (λ shown left r k. search rules)) c.ask_into-in-Kernel.ensures)

pub returns-in-Unknown : goal.returns-in-Unknown
returns-in-Unknown g c = rw c.in-Unknown.is c.unknown.ensures.log
