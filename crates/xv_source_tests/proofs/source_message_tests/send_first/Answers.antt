use Rattle.std.proofs.Common.{◌∙◌, [], lit<, refl, sym}
use Rattle.xv_base.specs.Units.{size}
use Rattle.xv_streams.specs.Streamed.{lane}
use Rattle.xv_source.specs.Half.{next_unit}
use Rattle.xv_source_tests.proofs.Standing.{small, limits, starts, begins, reads, behind, at_begun, few-at, disk-at, shape-at, batch-fits}
use Rattle.xv_source_tests.proofs.source_message_tests.send_first.Goals as goal

pub read-requires-clause-disk_in : goal.read-requires-clause-disk_in
read-requires-clause-disk_in c =
    let e = c.in_ok-half.ensures in
    let at = begins [] c.begin.result c.in_ok-half.half c.begin.new.self (starts small limits [] c.in_ok-half.half e.half e.laid e.written e.counted) c.begin.ensures.step c.begin.ensures.call in
    disk-at _ _ _ _ _ at (lit< tt)

pub advance-requires-clause-disk_in : goal.advance-requires-clause-disk_in
advance-requires-clause-disk_in c =
    let e = c.in_ok-half.ensures in
    let h = c.begin.new.self in
    let begun = begins [] c.begin.result c.in_ok-half.half h (starts small limits [] c.in_ok-half.half e.half e.laid e.written e.counted) c.begin.ensures.step c.begin.ensures.call in
    let at = reads [] (at_begun []) c.read.result (next_unit h 0) (size h.shape (next_unit h 0)) h c.read.new.self begun refl c.read.ensures.step c.read.ensures.call refl refl in
    disk-at _ _ _ _ _ at (lit< tt)

pub advance-requires-clause-few : goal.advance-requires-clause-few
advance-requires-clause-few c =
    let e = c.in_ok-half.ensures in
    let h = c.begin.new.self in
    let begun = begins [] c.begin.result c.in_ok-half.half h (starts small limits [] c.in_ok-half.half e.half e.laid e.written e.counted) c.begin.ensures.step c.begin.ensures.call in
    let at = reads [] (at_begun []) c.read.result (next_unit h 0) (size h.shape (next_unit h 0)) h c.read.new.self begun refl c.read.ensures.step c.read.ensures.call refl refl in
    few-at _ _ _ _ _ at refl

pub send-sent-requires-clause-layout : goal.send-sent-requires-clause-layout
send-sent-requires-clause-layout c =
    let e = c.in_ok-half.ensures in
    let at = behind [] c.begin.result c.read.result c.advance.result c.in_ok-half.half c.begin.new.self c.read.new.self c.advance.new.self
    e.half e.laid e.written e.counted c.begin.ensures.step c.begin.ensures.call c.read.ensures.step c.read.ensures.call c.advance.ensures.step c.advance.ensures.call in
    c.requires.shape ∙ sym (shape-at _ _ _ _ _ at)

pub send-sent-requires-clause-room : goal.send-sent-requires-clause-room
send-sent-requires-clause-room c = λ some paid.
    let e = c.in_ok-half.ensures in
    let streams = c.args.streams.now in
    let at = behind [] c.begin.result c.read.result c.advance.result c.in_ok-half.half c.begin.new.self c.read.new.self c.advance.new.self
    e.half e.laid e.written e.counted c.begin.ensures.step c.begin.ensures.call c.read.ensures.step c.read.ensures.call c.advance.ensures.step c.advance.ensures.call in
    batch-fits streams.format c.args.most c.advance.new.self (lane streams 0) c.requires.most (shape-at _ _ _ _ _ at) c.requires.groups c.requires.capacity
