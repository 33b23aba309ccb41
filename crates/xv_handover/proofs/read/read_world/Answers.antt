use Rattle.xv_handover.proofs.Scripts.{answers}
use Rattle.xv_handover.proofs.read.read_world.Goals as goal

pub returns : goal.returns
returns c =
    let read = c.read_text.ensures in
    let a = answers c.args.text.now c.read_text.result (λ events. events.items) read.fault read.no_fault read.events in
    record { fault = read.fault; no_fault = read.no_fault; events = read.events; text = a.spells; script = a.script; only = a.only; refused = a.refused }
