use Rattle.std.specs.Prelude.{map, []}
use Rattle.std.proofs.Common.{◌≡◌, ◌∙◌, ap, sym, subst}
use Rattle.xv_device.specs.Memory.{Device, told as told_device}
use Rattle.xv_wire.specs.Told.{Told as WireTold}
use Rattle.xv_wire.specs.Memory.{Pipe, told as told_pipe}
use Rattle.xv_job.specs.Written.{Written, job_of}
use Rattle.xv_core.specs.Seen.{Seen, OnDevice, OnWire}
use Rattle.xv_core.specs.PartsSeen.{PartsSeen}
use Rattle.xv_core.specs.Beginning.{IsDeviceFor, IsWireFor, AreFit, back_room}
use Rattle.xv_parts.specs.Plans.{source_plan, dest_plan}
use Rattle.xv_parts.specs.Memory.{begun_in_memory}
use Rattle.xv_parts.proofs.Begun.{back-fits}
use Rattle.xv_silent.specs.Silent.{Quiet, quiet}
use Rattle.xv_silent.proofs.Fitting.{wires-long, wires-fit, silent-fits}
use Rattle.xv_silent.proofs.tests.begun_silent.Goals as goal

pub start-requires : goal.start-requires
start-requires c =
    let w = c.in_ok-begun.field-0.job in
    let view = c.job.view_is in
    let made = c.into_parts.ensures in
    let job : c.job.inside.job ≡ w = ap (λ (p : PartsSeen Pipe). p.job) view ∙ made.job in
    let source : told_device c.job.inside.source ≡ (begun_in_memory w).source.told =
    ap (λ (p : PartsSeen Pipe). p.source.told) view ∙ ap (λ (d : OnDevice). d.told) made.source ∙ ap (λ (m : Seen). m.source.told) c.in_ok-begun.ensures in
    let dest : told_device c.job.inside.dest ≡ (begun_in_memory w).dest.told =
    ap (λ (p : PartsSeen Pipe). p.dest.told) view ∙ ap (λ (d : OnDevice). d.told) made.dest ∙ ap (λ (m : Seen). m.dest.told) c.in_ok-begun.ensures in
    let wires = ap (λ (p : PartsSeen Pipe). map told_pipe p.wires) view ∙ made.wires ∙ ap (λ (m : Seen). map (λ (x : OnWire). x.told) m.wires) c.in_ok-begun.ensures in
    let back = ap (λ (p : PartsSeen Pipe). told_pipe p.back) view ∙ made.back ∙ ap (λ (m : Seen). m.back.told) c.in_ok-begun.ensures in
    subst (λ (x : Written). AreFit told_pipe (record { job = x; source = record { told = quiet c.new.result.device; faults = c.new.result.faults }; dest = record { told = quiet c.new-2.result.device; faults = c.new-2.result.faults }; wires = c.job.inside.wires.items; back = c.job.inside.back })) (sym job)
    (record {
      source = subst (λ (d : Device). IsDeviceFor (job_of w) (quiet d)) (sym (ap (λ (q : Quiet). q.device) c.new.ensures.exactly)) (silent-fits w w.init (source_plan w.faults) c.job.inside.source c.new.ensures.sized source);
      first = tt;
      dest = subst (λ (d : Device). IsDeviceFor (job_of w) (quiet d)) (sym (ap (λ (q : Quiet). q.device) c.new-2.ensures.exactly)) (silent-fits w [] (dest_plan w.faults) c.job.inside.dest c.new-2.ensures.sized dest);
      streams = wires-long w _ wires;
      wires = wires-fit w _ wires;
      back = subst (λ (t : WireTold). IsWireFor (back_room (job_of w)) t) (sym back) (back-fits w);
    })
