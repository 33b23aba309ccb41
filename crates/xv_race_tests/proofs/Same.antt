-- Passes of the same kinds are all that there are, where those before them were.
use Rattle.std.proofs.Common.{not, List, ap, ◌∙◌}
use Rattle.xv_shared.specs.declared.passes.Pass.{Pass}
use Rattle.xv_shared.specs.Crews.{AreAll, is_guest}
use Rattle.xv_shared.specs.Held.{ByKind}
use Rattle.xv_shared.proofs.Running.{same-count}
use Rattle.xv_race_tests.specs.Kinds.{AreOfSameKinds}

pub all-stay : {D Q F R : Type 0} (parts : ByKind) (before later : List (Pass D Q F R)) → AreAll parts before → AreOfSameKinds before later → AreAll parts later
all-stay parts before later a h =
    let guests = same-count is_guest before later h.as_many h.each in
    let others = same-count (λ p. not (is_guest p)) before later h.as_many (λ k d lt. ap not (h.each k d lt)) in
    record { done = guests ∙ a.done; queued = guests ∙ a.queued; faulted = guests ∙ a.faulted; other = others ∙ a.other }
