use Rattle.std.proofs.Common.{◌≡◌, [], map, replicate, ap, ◌∙◌}
use Rattle.xv_streams.specs.Groups.{Place}
use Rattle.xv_streams.proofs.EntrySteps.{rooms-of}
use Rattle.xv_streams.proofs.received.Received.new.Goals as goal

pub returns : goal.returns
returns c =
    let rooms : map (λ (p : Place). p.room) c.in_ok-places.places.items ≡ replicate c.args.count c.args.room = ap (map (λ (p : Place). p.room)) c.in_ok-places.ensures ∙ rooms-of c.args.count c.args.room in
    λ i. record { messages = []; rooms = rooms i }
