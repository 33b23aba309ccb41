use Rattle.std.proofs.Common.{◌≡◌, ◌≤◌, List, take, drop, map, sym, ap, ◌∙◌, arith, subst}
use Rattle.std.specs.Prelude.{All}
use Rattle.std.specs.Vec.{with_items}
use Rattle.std.proofs.lemmas.List.{with_items_is, length-map, get_or-map, take_rest}
use Rattle.xv_base.specs.Units.{max_size}
use Rattle.xv_frame.specs.Fields.{short_at}
use Rattle.xv_frame.specs.Reading.{front_entries, front_group}
use Rattle.xv_streams.specs.Groups.{Place, Received}
use Rattle.xv_streams.proofs.EntrySteps.{length-front}
use Rattle.xv_streams.proofs.received.Received.read.Goals as goal

pub read_entries-requires-clause-room : goal.read_entries-requires-clause-room
read_entries-requires-clause-room c =
    let rooms : All (λ room. max_size c.args.layout.now ≤ room) (map (λ (p : Place). p.room) c.self.inside.places.items) = subst (λ (r : Received). All (λ room. max_size c.args.layout.now ≤ room) r.rooms) (sym c.self.view_is) c.requires.room in
    subst (λ (ps : List Place). All (λ p. max_size c.args.layout.now ≤ p.room) ps) (sym c.deref_mut.ensures.value)
    (λ k d b. let h = rooms k 0 (omega (arith, length-map c.self.inside.places.items (λ (p : Place). p.room), b)) in
    subst (λ n. max_size c.args.layout.now ≤ n) (get_or-map (λ (p : Place). p.room) c.self.inside.places.items k d 0 b) h)

pub returns-clause-count : goal.returns-clause-count
returns-clause-count c = c.from.ensures ∙ c.in-Ok.ensures.count ∙ sym (length-front c.args.layout.now (short_at c.args.frame.now 2) (drop 24 c.args.frame.now))

pub returns-clause-kept : goal.returns-clause-kept
returns-clause-kept c =
    let s = c.args.layout.now in
    let held : (with_items c.self.inside.places c.read_entries.new.places).items ≡ c.read_entries.new.places = with_items_is c.self.inside.places c.read_entries.new.places (c.read_entries.auto.places ∙ c.deref_mut.ensures.len) in
    let messages : take c.in-Ok.head.count (map (λ (p : Place). p.message) (with_items c.self.inside.places c.read_entries.new.places).items) ≡ front_group s c.args.frame.now =
    ap (λ (ps : List Place). take c.in-Ok.head.count (map (λ (p : Place). p.message) ps)) held ∙ c.read_entries.ensures.kept
    ∙ (λ i. front_entries s (c.in-Ok.ensures.count i) (take_rest c.args.frame.now 24 i)) in
    let rooms : map (λ (p : Place). p.room) (with_items c.self.inside.places c.read_entries.new.places).items ≡ c.args.self.now.rooms =
    ap (map (λ (p : Place). p.room)) held ∙ c.read_entries.ensures.rooms ∙ ap (map (λ (p : Place). p.room)) c.deref_mut.ensures.value ∙ ap (λ (r : Received). r.rooms) c.self.view_is in
    λ i. record { messages = messages i; rooms = rooms i }
