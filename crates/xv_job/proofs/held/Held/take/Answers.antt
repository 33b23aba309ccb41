use Rattle.std.proofs.Common.{arith, ◌∙◌}
use Rattle.xv_job.specs.declared.word.Word.TheVariants.{Init as InitWord, Guest, Operation}
use Rattle.xv_job.specs.Held.{draft_held}
use Rattle.xv_job.proofs.ReachedAt.{pages_there, disk_there, machine_there, traces_there, is_op_word, none_held, count_held}
use Rattle.xv_job.proofs.held.Held.take.Goals as goal

pub take_pages-requires-clause-no_disks : goal.take_pages-requires-clause-no_disks
take_pages-requires-clause-no_disks c = c.requires.consistent.disks ∙ (pages_there (draft_held c.args.self.now) c.args.word c.requires.reached c.in-Pages.is c.requires.comes).disks

pub take_pages-requires-clause-no_traces : goal.take_pages-requires-clause-no_traces
take_pages-requires-clause-no_traces c = none_held c.args.self.now.traces.items (pages_there (draft_held c.args.self.now) c.args.word c.requires.reached c.in-Pages.is c.requires.comes).traces

pub take_disk-requires-clause-machine : goal.take_disk-requires-clause-machine
take_disk-requires-clause-machine c = (disk_there (draft_held c.args.self.now) c.args.word c.requires.reached c.in-Disk.is c.requires.comes).good

pub take_disk-requires-clause-no_traces : goal.take_disk-requires-clause-no_traces
take_disk-requires-clause-no_traces c = none_held c.args.self.now.traces.items (disk_there (draft_held c.args.self.now) c.args.word c.requires.reached c.in-Disk.is c.requires.comes).traces

pub take_init-requires-clause-machine : goal.take_init-requires-clause-machine
take_init-requires-clause-machine c = machine_there (draft_held c.args.self.now) c.args.word InitWord c.requires.reached c.in-Init.is (omega arith) (omega arith) c.requires.comes

pub take_guest-requires-clause-machine : goal.take_guest-requires-clause-machine
take_guest-requires-clause-machine c = machine_there (draft_held c.args.self.now) c.args.word Guest c.requires.reached c.in-Guest.is (omega arith) (omega arith) c.requires.comes

pub take_operation-requires-clause-machine : goal.take_operation-requires-clause-machine
take_operation-requires-clause-machine c = machine_there (draft_held c.args.self.now) c.args.word (Operation c.in-Operation.verb) c.requires.reached c.in-Operation.is (omega arith) (omega arith) c.requires.comes

pub take_operation-requires-clause-some : goal.take_operation-requires-clause-some
take_operation-requires-clause-some c =
    let some = (traces_there (draft_held c.args.self.now) c.requires.reached (c.requires.traces (is_op_word c.args.word c.in-Operation.verb c.in-Operation.is))).some in
    omega (arith, count_held c.args.self.now.traces.items)

pub take_operation-requires-clause-few : goal.take_operation-requires-clause-few
take_operation-requires-clause-few c =
    let few = (traces_there (draft_held c.args.self.now) c.requires.reached (c.requires.traces (is_op_word c.args.word c.in-Operation.verb c.in-Operation.is))).few in
    omega (arith, c.requires.consistent.operations)
