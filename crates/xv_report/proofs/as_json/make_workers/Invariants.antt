use Rattle.std.proofs.Common.{◌≡◌, take}
use Rattle.serde_json.specs.Data.{no_members}
use Rattle.serde_json.specs.View.{members_view}
use Rattle.xv_report.specs.Json.{put_workers}
use Rattle.xv_report.specs.Workers.{HaveSmallNumbers}
use Rattle.xv_report.proofs.as_json.make_workers.Given as goal

-- the workers before were put
abbrev pub invariant-loop-count : goal.invariant-loop-count
invariant-loop-count l = record {
  exactly : members_view l.members.entries ≡ put_workers (take l.count-index l.counts) no_members;
  small : HaveSmallNumbers (take l.count-index l.counts);
}
