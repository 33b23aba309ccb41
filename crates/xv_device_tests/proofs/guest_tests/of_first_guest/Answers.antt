use Rattle.std.proofs.Common.{List, length, ap, ◌∙◌, arith}
use Rattle.std.proofs.lemmas.List.{length_push}
use Rattle.xv_base.specs.declared.operation.Ended.{Ended}
use Rattle.xv_model.proofs.Histories.{ended-push_other}
use Rattle.xv_guest.specs.Log.{ended}
use Rattle.xv_device_tests.proofs.guest_tests.of_first_guest.Goals as goal

pub loop-outcome-preserved : goal.loop-outcome-preserved
loop-outcome-preserved c =
    let i = c.loop-outcome.invariant in (
      omega (arith, ap length c.push.ensures.entries, length_push c.loop-outcome.history.entries, i.0),
      c.push.ensures.room ∙ i.1,
      λ guest h. ap (λ (es : List Ended). ended es guest) c.push.ensures.entries ∙ ended-push_other c.loop-outcome.history.entries _ guest (λ same. absurd (omega arith)) ∙ i.2 guest h,
    )
