use Rattle.std.proofs.Common.{◌<◌, ◌∙◌, List, [], ◌∷◌, lit<, refl, ap, sym, subst}
use Rattle.xv_base.specs.Units.{Shape, units}
use Rattle.xv_base.specs.declared.event.Event.TheVariants.{Guest}
use Rattle.xv_device.specs.Told.{Told}
use Rattle.xv_model.specs.View.{Disk, first_view, in_queue}
use Rattle.xv_source.specs.Step.{operation_call}
use Rattle.xv_source_tests.proofs.Standing.{machine, small, limits, over, starts, few-at, room-at, disks-at, shape-at, stands-called, legal-over, unit-over}
use Rattle.xv_source_tests.proofs.source_guest_tests.writes_ahead.Goals as goal

pub guest_waits-waits-requires : goal.guest_waits-waits-requires
guest_waits-waits-requires g c =
    let e = c.in_ok-half.ensures in
    let at = starts small limits ((over 4 170 ∷ []) ∷ []) c.in_ok-half.half e.half e.laid e.written e.counted in
    unit-over 4 170 c.in_ok-half.half.shape c.write-op.result (shape-at _ _ _ _ _ at) c.write-op.ensures (lit< tt)

pub guest-requires-clause-free : goal.guest-requires-clause-free
guest-requires-clause-free g c =
    let e = c.in_ok-half.ensures in
    let at = starts small limits ((over 4 170 ∷ []) ∷ []) c.in_ok-half.half e.half e.laid e.written e.counted in
    ap (λ (ds : List Disk). in_queue ds 0) (disks-at _ _ _ _ _ at)

pub guest-requires-clause-legal : goal.guest-requires-clause-legal
guest-requires-clause-legal g c =
    let e = c.in_ok-half.ensures in
    let at = starts small limits ((over 4 170 ∷ []) ∷ []) c.in_ok-half.half e.half e.laid e.written e.counted in
    legal-over 4 170 c.in_ok-half.half.shape c.write-op.result (shape-at _ _ _ _ _ at) c.write-op.ensures (lit< tt) refl

pub guest-requires-clause-few : goal.guest-requires-clause-few
guest-requires-clause-few g c =
    let e = c.in_ok-half.ensures in
    let at = starts small limits ((over 4 170 ∷ []) ∷ []) c.in_ok-half.half e.half e.laid e.written e.counted in
    few-at _ _ _ _ _ at refl

pub guest-requires-clause-countable : goal.guest-requires-clause-countable
guest-requires-clause-countable g c =
    let e = c.in_ok-half.ensures in
    let at = starts small limits ((over 4 170 ∷ []) ∷ []) c.in_ok-half.half e.half e.laid e.written e.counted in
    room-at _ _ _ _ _ at refl (lit< tt) (lit< tt) (lit< tt)

pub issued-issued-requires : goal.issued-issued-requires
issued-issued-requires g c =
    let e = c.in_ok-half.ensures in
    let traces = (over 4 170 ∷ []) ∷ [] in
    let J = machine small limits traces in
    let at = starts small limits traces c.in_ok-half.half e.half e.laid e.written e.counted in
    let next = stands-called J (first_view J) _ _ (Guest (record { 0 = 0 })) c.guest.result (operation_call c.in_ok-half.half.shape c.write-op.result) c.in_ok-half.half c.guest.new.self at
    (c.guest.ensures.step J (first_view J) (record { of = at.of; lets = refl }) refl (sym c.write-op.ensures) refl) c.guest.ensures.call refl refl in
    subst (λ (s : Shape). 4 < units s) (sym (shape-at _ _ _ _ _ next)) (lit< tt)

pub content-requires : goal.content-requires
content-requires g c =
    let e = c.in_ok-half.ensures in
    let traces = (over 4 170 ∷ []) ∷ [] in
    let J = machine small limits traces in
    let at = starts small limits traces c.in_ok-half.half e.half e.laid e.written e.counted in
    let next = stands-called J (first_view J) _ _ (Guest (record { 0 = 0 })) c.guest.result (operation_call c.in_ok-half.half.shape c.write-op.result) c.in_ok-half.half c.guest.new.self at
    (c.guest.ensures.step J (first_view J) (record { of = at.of; lets = refl }) refl (sym c.write-op.ensures) refl) c.guest.ensures.call refl refl in
    subst (λ (s : Shape). 4 < units s) (sym (ap (λ (t : Told). t.shape) c.device.ensures.told ∙ next.laid)) (lit< tt)
