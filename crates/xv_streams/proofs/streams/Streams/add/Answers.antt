use Rattle.std.proofs.Common.{◌≡◌, ◌+◌, ◌<◌, ◌≤◌, ℕ, List, [], ◌∷◌, ◌++◌, length, take, drop, sym, ap, ◌∙◌, arith, subst, rules}
use Rattle.std.proofs.lemmas.List.{with_items_is}
use Rattle.std.specs.Vec.{with_items}
use Rattle.xv_base.specs.Units.{units, size, max_size}
use Rattle.xv_base.proofs.Partition.{has_greatest_size}
use Rattle.xv_frame.specs.Frame.{Message, message, IsMessage, entry}
use Rattle.xv_streams.specs.Streamed.{Streamed, seen_lanes}
use Rattle.xv_streams.specs.Groups.{IsMaking, messages_in}
use Rattle.xv_streams.proofs.MakingSteps.{OneMore, one-more, add-fits, many-made}
use Rattle.xv_streams.proofs.streams.Streams.add.Goals as goal

pub add_entry-self-inside-requires-clause-room : goal.add_entry-self-inside-requires-clause-room
add_entry-self-inside-requires-clause-room g c =
    let s = c.self.inside in
    let format : s.format ≡ 2 = subst (λ (v : Streamed). v.format ≡ 2) (sym c.self.view_is) c.requires.format in
    let few : s.count < 16 = omega (arith, subst (λ (v : Streamed). length v.making < 16) (sym c.self.view_is) c.requires.few, many-made s.layout s.count s.frame.items) in
    let unit : c.args.head.unit.0 < units s.layout = subst (λ (v : Streamed). c.args.head.unit.0 < units v.shape) (sym c.self.view_is) c.requires.unit_in in
    let whole : length c.args.bytes.now ≡ size s.layout c.args.head.unit.0 = subst (λ (v : Streamed). length c.args.bytes.now ≡ size v.shape c.args.head.unit.0) (sym c.self.view_is) c.requires.whole in
    let short : length c.args.bytes.now ≤ max_size s.layout = omega (arith, whole, (has_greatest_size s.layout c.self.invariant.good).most c.args.head.unit.0 unit) in
    omega (arith, add-fits s.layout s.format s.count s.end (length c.args.bytes.now) s.frame.items c.self.invariant.good c.self.invariant.making c.self.invariant.room format few short, ap length c.deref_mut.ensures.value)

pub invariant_of-self : goal.invariant_of-self
invariant_of-self g c =
    let s = c.self.inside in
    let m : Message = message c.args.head c.args.bytes.now in
    let next : List ℕ = (with_items s.frame c.add_entry-self-inside.new.frame).items in
    let format : s.format ≡ 2 = subst (λ (v : Streamed). v.format ≡ 2) (sym c.self.view_is) c.requires.format in
    let few : s.count < 16 = omega (arith, subst (λ (v : Streamed). length v.making < 16) (sym c.self.view_is) c.requires.few, many-made s.layout s.count s.frame.items) in
    let unit : c.args.head.unit.0 < units s.layout = subst (λ (v : Streamed). c.args.head.unit.0 < units v.shape) (sym c.self.view_is) c.requires.unit_in in
    let whole : length c.args.bytes.now ≡ size s.layout c.args.head.unit.0 = subst (λ (v : Streamed). length c.args.bytes.now ≡ size v.shape c.args.head.unit.0) (sym c.self.view_is) c.requires.whole in
    let good : IsMessage s.layout m = record { unit_in = unit; made = c.requires.made; version_fits = search (rules, c.type_inv); at_fits = search (rules, c.type_inv); whole = whole } in
    let is : next ≡ c.add_entry-self-inside.new.frame = with_items_is s.frame c.add_entry-self-inside.new.frame (c.add_entry-self-inside.auto.frame ∙ c.deref_mut.ensures.len) in
    let more : OneMore s.layout s.format s.count s.end s.frame.items next m =
    one-more s.layout s.format s.count s.end s.frame.items next m c.self.invariant.good c.self.invariant.making format few good c.self.invariant.room
    (is ∙ c.add_entry-self-inside.ensures.added ∙ (λ i. take s.end (c.deref_mut.ensures.value i) ++ (entry m ++ drop (c.add_entry-self-inside.ensures.end i) (c.deref_mut.ensures.value i)))) in
    record {
      lanes = c.self.invariant.lanes;
      good = c.self.invariant.good;
      room = ap length is ∙ c.add_entry-self-inside.auto.frame ∙ ap length c.deref_mut.ensures.value ∙ c.self.invariant.room;
      formats = c.self.invariant.formats;
      making = subst (λ k. IsMaking s.layout s.format (s.count + 1) k next) (sym c.add_entry-self-inside.ensures.end) more.making;
      got = c.self.invariant.got;
    }

pub returns : goal.returns
returns g c =
    let s = c.self.inside in
    let m : Message = message c.args.head c.args.bytes.now in
    let next : List ℕ = (with_items s.frame c.add_entry-self-inside.new.frame).items in
    let format : s.format ≡ 2 = subst (λ (v : Streamed). v.format ≡ 2) (sym c.self.view_is) c.requires.format in
    let few : s.count < 16 = omega (arith, subst (λ (v : Streamed). length v.making < 16) (sym c.self.view_is) c.requires.few, many-made s.layout s.count s.frame.items) in
    let unit : c.args.head.unit.0 < units s.layout = subst (λ (v : Streamed). c.args.head.unit.0 < units v.shape) (sym c.self.view_is) c.requires.unit_in in
    let whole : length c.args.bytes.now ≡ size s.layout c.args.head.unit.0 = subst (λ (v : Streamed). length c.args.bytes.now ≡ size v.shape c.args.head.unit.0) (sym c.self.view_is) c.requires.whole in
    let good : IsMessage s.layout m = record { unit_in = unit; made = c.requires.made; version_fits = search (rules, c.type_inv); at_fits = search (rules, c.type_inv); whole = whole } in
    let is : next ≡ c.add_entry-self-inside.new.frame = with_items_is s.frame c.add_entry-self-inside.new.frame (c.add_entry-self-inside.auto.frame ∙ c.deref_mut.ensures.len) in
    let more : OneMore s.layout s.format s.count s.end s.frame.items next m =
    one-more s.layout s.format s.count s.end s.frame.items next m c.self.invariant.good c.self.invariant.making format few good c.self.invariant.room
    (is ∙ c.add_entry-self-inside.ensures.added ∙ (λ i. take s.end (c.deref_mut.ensures.value i) ++ (entry m ++ drop (c.add_entry-self-inside.ensures.end i) (c.deref_mut.ensures.value i)))) in
    let lanes = seen_lanes g.W.Wire.told g.W.Wire.faults s.layout s.wires.items s.lanes.items in
    subst (λ (v : Streamed). record { shape = s.layout; format = s.format; lanes = lanes; making = messages_in s.layout (s.count + 1) next; got = s.received.messages } ≡ record v { making = v.making ++ m ∷ [] }) c.self.view_is
    (ap (λ (ms : List Message). record { shape = s.layout; format = s.format; lanes = lanes; making = ms; got = s.received.messages }) more.list)
