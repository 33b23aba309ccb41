use Rattle.std.proofs.Common.{rules}
use Rattle.xv_frame.proofs.EntriesSound.{group-checked, group-stands}
use Rattle.xv_frame.proofs.groups.check_group.Goals as goal

pub returns-clause-group : goal.returns-clause-group
returns-clause-group c = group-checked c.args.layout.now c.args.bytes.now c.read_group.result (λ i. search (rules, c.type_inv.bytes i)) c.read_group.ensures

pub returns-clause-spelled : goal.returns-clause-spelled
returns-clause-spelled c = group-stands c.args.layout.now c.args.bytes.now c.read_group.result (λ i. search (rules, c.type_inv.bytes i)) c.read_group.ensures
