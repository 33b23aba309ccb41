use Rattle.std.proofs.Common.{List, lit<, refl, ap}
use Rattle.xv_model.specs.View.{Disk, in_queue}
use Rattle.xv_source.specs.Step.{operation_call}
use Rattle.xv_source_tests.proofs.Standing.{small, limits, over, waiting, starts, begins, queues, few-at, room-at, disks-at, disk-at, queue-at, shape-at, some-queued, front-queued, block-over, legal-over}
use Rattle.xv_source_tests.proofs.source_guest_tests.queues_a_write_inside.Goals as goal

pub guest-requires-clause-free : goal.guest-requires-clause-free
guest-requires-clause-free g c =
    let traces = waiting 204 in
    let e = c.in_ok-half.ensures in
    let at = begins traces c.begin.result c.in_ok-half.half c.begin.new.self (starts small limits traces c.in_ok-half.half e.half e.laid e.written e.counted) c.begin.ensures.step c.begin.ensures.call in
    ap (λ (ds : List Disk). in_queue ds 0) (disks-at _ _ _ _ _ at)

pub guest-requires-clause-legal : goal.guest-requires-clause-legal
guest-requires-clause-legal g c =
    let traces = waiting 204 in
    let e = c.in_ok-half.ensures in
    let at = begins traces c.begin.result c.in_ok-half.half c.begin.new.self (starts small limits traces c.in_ok-half.half e.half e.laid e.written e.counted) c.begin.ensures.step c.begin.ensures.call in
    legal-over 1 204 c.begin.new.self.shape c.write-op.result (shape-at _ _ _ _ _ at) c.write-op.ensures (lit< tt) refl

pub guest-requires-clause-few : goal.guest-requires-clause-few
guest-requires-clause-few g c =
    let traces = waiting 204 in
    let e = c.in_ok-half.ensures in
    let at = begins traces c.begin.result c.in_ok-half.half c.begin.new.self (starts small limits traces c.in_ok-half.half e.half e.laid e.written e.counted) c.begin.ensures.step c.begin.ensures.call in
    few-at _ _ _ _ _ at refl

pub guest-requires-clause-countable : goal.guest-requires-clause-countable
guest-requires-clause-countable g c =
    let traces = waiting 204 in
    let e = c.in_ok-half.ensures in
    let at = begins traces c.begin.result c.in_ok-half.half c.begin.new.self (starts small limits traces c.in_ok-half.half e.half e.laid e.written e.counted) c.begin.ensures.step c.begin.ensures.call in
    room-at _ _ _ _ _ at refl (lit< tt) (lit< tt) (lit< tt)

pub release-requires-clause-disk_in : goal.release-requires-clause-disk_in
release-requires-clause-disk_in g c =
    let e = c.in_ok-half.ensures in
    let at = queues 204 c.begin.result c.guest.result (operation_call c.begin.new.self.shape c.write-op.result) c.write-op.result c.in_ok-half.half c.begin.new.self c.guest.new.self
    e.half e.laid e.written e.counted c.begin.ensures.step c.begin.ensures.call c.write-op.ensures c.guest.ensures.step c.guest.ensures.call in
    disk-at _ _ _ _ _ at (lit< tt)

pub release-requires-clause-some : goal.release-requires-clause-some
release-requires-clause-some g c =
    let e = c.in_ok-half.ensures in
    let at = queues 204 c.begin.result c.guest.result (operation_call c.begin.new.self.shape c.write-op.result) c.write-op.result c.in_ok-half.half c.begin.new.self c.guest.new.self
    e.half e.laid e.written e.counted c.begin.ensures.step c.begin.ensures.call c.write-op.ensures c.guest.ensures.step c.guest.ensures.call in
    some-queued _ _ (queue-at _ _ _ _ _ at) (lit< tt)

pub release-requires-clause-front : goal.release-requires-clause-front
release-requires-clause-front g c =
    let e = c.in_ok-half.ensures in
    let at = queues 204 c.begin.result c.guest.result (operation_call c.begin.new.self.shape c.write-op.result) c.write-op.result c.in_ok-half.half c.begin.new.self c.guest.new.self
    e.half e.laid e.written e.counted c.begin.ensures.step c.begin.ensures.call c.write-op.ensures c.guest.ensures.step c.guest.ensures.call in
    front-queued _ _ c.write-op.result (over 1 204) (queue-at _ _ _ _ _ at) c.write-op.ensures refl

pub release-requires-clause-block : goal.release-requires-clause-block
release-requires-clause-block g c =
    let e = c.in_ok-half.ensures in
    let at = queues 204 c.begin.result c.guest.result (operation_call c.begin.new.self.shape c.write-op.result) c.write-op.result c.in_ok-half.half c.begin.new.self c.guest.new.self
    e.half e.laid e.written e.counted c.begin.ensures.step c.begin.ensures.call c.write-op.ensures c.guest.ensures.step c.guest.ensures.call in
    block-over 1 204 c.guest.new.self.shape c.write-op.result (shape-at _ _ _ _ _ at) c.write-op.ensures refl

pub release-requires-clause-legal : goal.release-requires-clause-legal
release-requires-clause-legal g c =
    let e = c.in_ok-half.ensures in
    let at = queues 204 c.begin.result c.guest.result (operation_call c.begin.new.self.shape c.write-op.result) c.write-op.result c.in_ok-half.half c.begin.new.self c.guest.new.self
    e.half e.laid e.written e.counted c.begin.ensures.step c.begin.ensures.call c.write-op.ensures c.guest.ensures.step c.guest.ensures.call in
    legal-over 1 204 c.guest.new.self.shape c.write-op.result (shape-at _ _ _ _ _ at) c.write-op.ensures (lit< tt) refl

pub release-requires-clause-few : goal.release-requires-clause-few
release-requires-clause-few g c =
    let e = c.in_ok-half.ensures in
    let at = queues 204 c.begin.result c.guest.result (operation_call c.begin.new.self.shape c.write-op.result) c.write-op.result c.in_ok-half.half c.begin.new.self c.guest.new.self
    e.half e.laid e.written e.counted c.begin.ensures.step c.begin.ensures.call c.write-op.ensures c.guest.ensures.step c.guest.ensures.call in
    few-at _ _ _ _ _ at refl

pub release-requires-clause-countable : goal.release-requires-clause-countable
release-requires-clause-countable g c =
    let e = c.in_ok-half.ensures in
    let at = queues 204 c.begin.result c.guest.result (operation_call c.begin.new.self.shape c.write-op.result) c.write-op.result c.in_ok-half.half c.begin.new.self c.guest.new.self
    e.half e.laid e.written e.counted c.begin.ensures.step c.begin.ensures.call c.write-op.ensures c.guest.ensures.step c.guest.ensures.call in
    room-at _ _ _ _ _ at refl (lit< tt) (lit< tt) (lit< tt)
