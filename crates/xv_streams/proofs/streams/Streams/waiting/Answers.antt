use Rattle.std.proofs.Common.{◌≡◌, ◌<◌, length, sym, ap, ◌∙◌, subst, arith}
use Rattle.xv_streams.specs.Gathered.{Gathered}
use Rattle.xv_streams.specs.Streamed.{Streamed, lane, seen_lanes, no_lane}
use Rattle.xv_streams.specs.Carried.{IsCarried}
use Rattle.xv_streams.proofs.Carries.{lanes-carried, each-at}
use Rattle.xv_streams.proofs.Zips.{length-seen, counted-at}
use Rattle.xv_streams.proofs.streams.Streams.waiting.Goals as goal

pub index-requires : goal.index-requires
index-requires g c =
    let s = c.self.inside in
    let there : c.args.stream < length (seen_lanes g.W.Wire.told g.W.Wire.faults s.layout s.wires.items s.lanes.items) = subst (λ (v : Streamed). c.args.stream < length v.lanes) (sym c.self.view_is) c.requires in
    omega (arith, length-seen g.W.Wire.told g.W.Wire.faults s.layout s.format s.wires.items s.lanes.items c.self.invariant.lanes, there, s.lanes.ok.0)

pub returns-clause-exactly : goal.returns-clause-exactly
returns-clause-exactly g c =
    let s = c.self.inside in
    let there : c.args.stream < length (seen_lanes g.W.Wire.told g.W.Wire.faults s.layout s.wires.items s.lanes.items) = subst (λ (v : Streamed). c.args.stream < length v.lanes) (sym c.self.view_is) c.requires in
    let there' : c.args.stream < length s.lanes.items = omega (arith, length-seen g.W.Wire.told g.W.Wire.faults s.layout s.format s.wires.items s.lanes.items c.self.invariant.lanes, there) in
    subst (λ (v : Streamed). c.waiting.result ≡ length (lane v c.args.stream).groups) c.self.view_is
    (c.waiting.ensures ∙ ap (λ (l : Gathered). l.waiting) c.index.ensures
    ∙ counted-at g.W.Wire.told g.W.Wire.faults s.layout s.format s.wires.items s.lanes.items c.args.stream c.index.result.now c.self.invariant.lanes there')

pub returns-clause-carried : goal.returns-clause-carried
returns-clause-carried g c =
    let s = c.self.inside in
    let there : c.args.stream < length (seen_lanes g.W.Wire.told g.W.Wire.faults s.layout s.wires.items s.lanes.items) = subst (λ (v : Streamed). c.args.stream < length v.lanes) (sym c.self.view_is) c.requires in
    subst (λ (v : Streamed). IsCarried v.shape v.format (lane v c.args.stream)) c.self.view_is
    (each-at (IsCarried s.layout s.format) (seen_lanes g.W.Wire.told g.W.Wire.faults s.layout s.wires.items s.lanes.items) c.args.stream no_lane
    (lanes-carried g.W.Wire.told g.W.Wire.faults s.layout s.format s.wires.items s.lanes.items c.self.invariant.good c.self.invariant.formats.0 c.self.invariant.lanes) there)
