use Rattle.std.proofs.Common.{◌≡◌, [], subst, ap}
use Rattle.xv_base.specs.Layout.{IsGood}
use Rattle.xv_frame.specs.Frame.{Each, IsMessage}
use Rattle.xv_streams.specs.Streamed.{Streamed}
use Rattle.xv_streams.specs.Carried.{IsCarried, IsMade}
use Rattle.xv_streams.specs.Groups.{messages_in}
use Rattle.xv_streams.proofs.Carries.{lanes-carried}
use Rattle.xv_streams.proofs.MakingSteps.{made-is}
use Rattle.xv_streams.proofs.streams.Streams.hold_spellings.Goals as goal

pub returns-clause-lanes : goal.returns-clause-lanes
returns-clause-lanes g c =
    let s = c.self.inside in
    subst (λ (v : Streamed). Each (IsCarried v.shape v.format) v.lanes) c.self.view_is
    (lanes-carried g.W.Wire.told g.W.Wire.faults s.layout s.format s.wires.items s.lanes.items c.self.invariant.good c.self.invariant.formats.0 c.self.invariant.lanes)

pub returns-clause-making : goal.returns-clause-making
returns-clause-making g c =
    let s = c.self.inside in
    subst (λ (v : Streamed). IsMade v.shape v.making) c.self.view_is (made-is s.layout s.format s.count s.end s.frame.items c.self.invariant.good c.self.invariant.making)

pub returns-clause-got : goal.returns-clause-got
returns-clause-got g c = subst (λ (v : Streamed). Each (IsMessage v.shape) v.got) c.self.view_is c.self.invariant.got.each

pub returns-clause-only_in_groups : goal.returns-clause-only_in_groups
returns-clause-only_in_groups g c =
    let s = c.self.inside in
    subst (λ (v : Streamed). v.format ≡ 1 → (v.making ≡ []) × (v.got ≡ [])) c.self.view_is
    (λ e. (ap (λ k. messages_in s.layout k s.frame.items) (c.self.invariant.making.none e), c.self.invariant.got.none e))

pub returns-clause-good : goal.returns-clause-good
returns-clause-good g c = subst (λ (v : Streamed). IsGood v.shape) c.self.view_is c.self.invariant.good
