use Rattle.std.proofs.Common.{List, [], ◌∷◌, lit<, refl, ap}
use Rattle.xv_base.specs.Units.{size}
use Rattle.xv_model.specs.View.{Disk, in_queue}
use Rattle.xv_source.specs.Half.{next_unit}
use Rattle.xv_source_tests.proofs.Standing.{small, limits, over, starts, few-at, room-at, disks-at, shape-at, legal-over, at_begun, begins, reads, behind, disk-at}
use Rattle.xv_source_tests.proofs.source_guest_tests.mirrors_a_write_behind.Goals as goal

pub read-requires-clause-disk_in : goal.read-requires-clause-disk_in
read-requires-clause-disk_in g c =
    let traces = (over 1 187 ∷ []) ∷ [] in
    let e = c.in_ok-half.ensures in
    let at = begins traces c.begin.result c.in_ok-half.half c.begin.new.self (starts small limits traces c.in_ok-half.half e.half e.laid e.written e.counted) c.begin.ensures.step c.begin.ensures.call in
    disk-at _ _ _ _ _ at (lit< tt)

pub read-requires-clause-countable : goal.read-requires-clause-countable
read-requires-clause-countable g c =
    let traces = (over 1 187 ∷ []) ∷ [] in
    let e = c.in_ok-half.ensures in
    let at = begins traces c.begin.result c.in_ok-half.half c.begin.new.self (starts small limits traces c.in_ok-half.half e.half e.laid e.written e.counted) c.begin.ensures.step c.begin.ensures.call in
    room-at _ _ _ _ _ at refl (lit< tt) (lit< tt) (lit< tt)

pub advance-requires-clause-disk_in : goal.advance-requires-clause-disk_in
advance-requires-clause-disk_in g c =
    let traces = (over 1 187 ∷ []) ∷ [] in
    let e = c.in_ok-half.ensures in
    let h = c.begin.new.self in
    let begun = begins traces c.begin.result c.in_ok-half.half h (starts small limits traces c.in_ok-half.half e.half e.laid e.written e.counted) c.begin.ensures.step c.begin.ensures.call in
    let at = reads traces (at_begun traces) c.read.result (next_unit h 0) (size h.shape (next_unit h 0)) h c.read.new.self begun refl c.read.ensures.step c.read.ensures.call refl refl in
    disk-at _ _ _ _ _ at (lit< tt)

pub advance-requires-clause-few : goal.advance-requires-clause-few
advance-requires-clause-few g c =
    let traces = (over 1 187 ∷ []) ∷ [] in
    let e = c.in_ok-half.ensures in
    let h = c.begin.new.self in
    let begun = begins traces c.begin.result c.in_ok-half.half h (starts small limits traces c.in_ok-half.half e.half e.laid e.written e.counted) c.begin.ensures.step c.begin.ensures.call in
    let at = reads traces (at_begun traces) c.read.result (next_unit h 0) (size h.shape (next_unit h 0)) h c.read.new.self begun refl c.read.ensures.step c.read.ensures.call refl refl in
    few-at _ _ _ _ _ at refl

pub guest-requires-clause-free : goal.guest-requires-clause-free
guest-requires-clause-free g c =
    let at = behind ((over 1 187 ∷ []) ∷ []) c.begin.result c.read.result c.advance.result c.in_ok-half.half c.begin.new.self c.read.new.self c.advance.new.self
    c.in_ok-half.ensures.half c.in_ok-half.ensures.laid c.in_ok-half.ensures.written c.in_ok-half.ensures.counted
    c.begin.ensures.step c.begin.ensures.call c.read.ensures.step c.read.ensures.call c.advance.ensures.step c.advance.ensures.call in
    ap (λ (ds : List Disk). in_queue ds 0) (disks-at _ _ _ _ _ at)

pub guest-requires-clause-legal : goal.guest-requires-clause-legal
guest-requires-clause-legal g c =
    let at = behind ((over 1 187 ∷ []) ∷ []) c.begin.result c.read.result c.advance.result c.in_ok-half.half c.begin.new.self c.read.new.self c.advance.new.self
    c.in_ok-half.ensures.half c.in_ok-half.ensures.laid c.in_ok-half.ensures.written c.in_ok-half.ensures.counted
    c.begin.ensures.step c.begin.ensures.call c.read.ensures.step c.read.ensures.call c.advance.ensures.step c.advance.ensures.call in
    legal-over 1 187 c.advance.new.self.shape c.write-op.result (shape-at _ _ _ _ _ at) c.write-op.ensures (lit< tt) refl

pub guest-requires-clause-few : goal.guest-requires-clause-few
guest-requires-clause-few g c =
    let at = behind ((over 1 187 ∷ []) ∷ []) c.begin.result c.read.result c.advance.result c.in_ok-half.half c.begin.new.self c.read.new.self c.advance.new.self
    c.in_ok-half.ensures.half c.in_ok-half.ensures.laid c.in_ok-half.ensures.written c.in_ok-half.ensures.counted
    c.begin.ensures.step c.begin.ensures.call c.read.ensures.step c.read.ensures.call c.advance.ensures.step c.advance.ensures.call in
    few-at _ _ _ _ _ at refl

pub guest-requires-clause-countable : goal.guest-requires-clause-countable
guest-requires-clause-countable g c =
    let at = behind ((over 1 187 ∷ []) ∷ []) c.begin.result c.read.result c.advance.result c.in_ok-half.half c.begin.new.self c.read.new.self c.advance.new.self
    c.in_ok-half.ensures.half c.in_ok-half.ensures.laid c.in_ok-half.ensures.written c.in_ok-half.ensures.counted
    c.begin.ensures.step c.begin.ensures.call c.read.ensures.step c.read.ensures.call c.advance.ensures.step c.advance.ensures.call in
    room-at _ _ _ _ _ at refl (lit< tt) (lit< tt) (lit< tt)
