use Rattle.xv_core.proofs.Beginning.Begun.{begins, seen-begun}
use Rattle.xv_core.proofs.migration.Migration.join.Goals as goal

pub invariant_of-result : goal.invariant_of-result
invariant_of-result g c =
    let ready = c.requires.rooms in (
      begins c.args.job c.args.rooms.journal.items c.args.rooms.history.entries c.args.source c.args.dest c.args.streams c.args.back c.args.rooms.reads.items ready.good ready.none_entered ready.none_ended ready.none_read c.requires.state,
      ready.rooms,
    )

pub returns : goal.returns
returns g c =
    let ready = c.requires.rooms in
    seen-begun c.args.job c.args.rooms.journal.items c.args.rooms.history.entries c.args.source c.args.dest c.args.streams c.args.back c.args.rooms.reads.items ready.none_entered ready.none_read c.requires.state
