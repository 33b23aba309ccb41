use Rattle.std.proofs.Common.{◌≡◌, refl}
use Rattle.std.specs.Prelude.{is_err}
use Rattle.xv_model.specs.Job.{IsLegal}
use Rattle.xv_model.specs.Step.{is_flagged}
use Rattle.xv_dest.proofs.GuestMoves.{moves-guest}
use Rattle.xv_dest.proofs.dest.DestHalf.guest.Goals as goal
use Rattle.xv_dest.proofs.dest.DestHalf.guest.Goals.{in-Ok+then-is_some, in-Ok+else-is_some, in-Err}

pub returns-clause-bytes : goal.returns-clause-bytes
returns-clause-bytes g c =
    let flagged : is_flagged c.match-operate.result ≡ is_err c.operate.result = elim c.match-operate.branch [
      | in-Ok+then-is_some w ↦ rw (w.result-is, w.in-Ok.is) refl
      | in-Ok+else-is_some w ↦ rw (w.result-is, w.in-Ok.is) refl
      | in-Err w ↦ rw (w.result-is, w.in-Err.is) refl
    ] in
    let legal : IsLegal c.self.inside.layout c.args.op.now = rw (← c.self.view_is) at c.requires.legal in
    rw (← c.self.view_is) (λ job v b guest. moves-guest job v b guest c.self.inside.layout c.args.op.now _ (is_err c.operate.result) _ _ (record {
      made = c.operate.ensures.made;
      contents = refl;
      shape = c.self.invariant.layout;
      legal = legal;
      sized = c.operate.ensures.sized;
    }) flagged)
