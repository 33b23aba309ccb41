use Rattle.std.proofs.Common.{◌≡◌, ◌+◌, ◌-◌, ◌<◌, ℕ, length, take, drop, map, sym, ap, ◌∙◌, arith}
use Rattle.std.proofs.lemmas.List.{take_rest, drop-drop, length-drop}
use Rattle.std.proofs.Math.Seq.{take-length}
use Rattle.xv_base.specs.Units.{max_size}
use Rattle.xv_frame.specs.Faults.{entry_fault, entries_fault}
use Rattle.xv_frame.specs.Reading.{entry_message, entry_size, front_entries}
use Rattle.xv_streams.specs.Groups.{Place}
use Rattle.xv_streams.proofs.EntrySteps.{FirstEntry, first-entry, length-front, room-at, read-more, rooms-kept}
use Rattle.xv_streams.proofs.received.read_entries.Goals as goal

pub read_entry-at-requires-clause-sound : goal.read_entry-at-requires-clause-sound
read_entry-at-requires-clause-sound c =
    let left = drop c.loop-i.at c.args.bytes.now in
    let first : FirstEntry c.args.layout.now (c.args.count - c.loop-i.i) left = first-entry c.args.layout.now (c.args.count - c.loop-i.i) left (omega (arith, c.loop-i-test.true)) c.loop-i.invariant.sound in
    ap (entry_fault c.args.layout.now) (take_rest c.args.bytes.now c.loop-i.at) ∙ first.sound

pub read_entry-at-requires-clause-room : goal.read_entry-at-requires-clause-room
read_entry-at-requires-clause-room c =
    room-at (max_size c.args.layout.now) c.args.places.now c.loop-i.places c.loop-i.i c.index-places-i.result c.requires.room c.loop-i.invariant.rooms (omega (arith, c.loop-i-test.true, c.requires.few, c.loop-i.auto.places))

pub loop-i-preserved : goal.loop-i-preserved
loop-i-preserved c =
    let s = c.args.layout.now in
    let n : ℕ = c.args.count - c.loop-i.i in
    let b = c.args.bytes.now in
    let left = drop c.loop-i.at b in
    let whole : take (length b - c.loop-i.at) left ≡ left = take_rest b c.loop-i.at in
    let first : FirstEntry s n left = first-entry s n left (omega (arith, c.loop-i-test.true)) c.loop-i.invariant.sound in
    let fewer : c.args.count - (c.loop-i.i + 1) ≡ n - 1 = omega arith in
    let size_is : c.read_entry-at.result ≡ entry_size s left = c.read_entry-at.ensures.size ∙ ap (entry_size s) whole in
    let behind : drop (c.loop-i.at + c.read_entry-at.result) b ≡ drop (entry_size s left) left = sym (drop-drop c.read_entry-at.result c.loop-i.at b) ∙ ap (λ k. drop k left) size_is in
    let message : c.read_entry-at.new.self.message ≡ entry_message s left = ap (λ (p : Place). p.message) c.read_entry-at.ensures.kept ∙ ap (entry_message s) whole in
    let there : c.loop-i.i < length c.loop-i.places = omega (arith, c.loop-i-test.true, c.requires.few, c.loop-i.auto.places) in
    let more = read-more c.loop-i.places c.loop-i.i c.read_entry-at.new.self (entry_message s left) (front_entries s c.args.count b) (front_entries s (n - 1) (drop (entry_size s left) left)) there message c.loop-i.invariant.kept (sym first.list ∙ c.loop-i.invariant.rest) in
    record {
      few = omega (arith, c.loop-i-test.true);
      within = omega (arith, c.read_entry-at.ensures.within, ap length whole, length-drop c.loop-i.at b, c.loop-i.invariant.within);
      sound = (λ i. entries_fault s (fewer i) (behind i)) ∙ first.later;
      rest = (λ i. front_entries s (fewer i) (behind i)) ∙ more.1;
      kept = more.0;
      rooms = rooms-kept c.loop-i.places c.loop-i.i c.read_entry-at.new.self c.index-places-i.result (ap (λ (p : Place). p.room) c.read_entry-at.ensures.kept) ∙ c.loop-i.invariant.rooms;
    }

pub returns-clause-kept : goal.returns-clause-kept
returns-clause-kept c =
    let ms = front_entries c.args.layout.now c.args.count c.args.bytes.now in
    let all : c.loop-i.i ≡ c.args.count = omega (arith, c.loop-i-test.false, c.loop-i.invariant.few) in
    ap (λ k. take k (map (λ (p : Place). p.message) c.loop-i.places)) (sym all) ∙ c.loop-i.invariant.kept ∙ ap (λ k. take k ms) (all ∙ sym (length-front c.args.layout.now c.args.count c.args.bytes.now)) ∙ take-length ms
