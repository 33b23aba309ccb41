use Rattle.std.proofs.Common.{◌≡◌, ◌+◌, ◌∙◌, ℕ, ap}
use Rattle.xv_job.specs.Made.{byte_of}
use Rattle.xv_job.proofs.MadeParts.{contents_more}
use Rattle.xv_job.proofs.made.push_contents.Goals as goal

pub loop-j-preserved : goal.loop-j-preserved
loop-j-preserved c =
    let pattern : c.byte_of.result ≡ byte_of (c.args.number + c.loop-j.j) = c.byte_of.ensures ∙ ap (λ (n : ℕ). byte_of (n + c.loop-j.j)) c.from.ensures in
    contents_more c.args.number c.args.first c.args.step c.loop-j.j c.args.init.now.items c.loop-j.init.items c.push.new.self.items c.byte_of.result c.loop-j.invariant pattern c.in-Ok.ensures.items
