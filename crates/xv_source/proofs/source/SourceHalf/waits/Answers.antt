use Rattle.std.specs.Prelude.{◌≡◌, true, false, length, Option, IfSome}
use Rattle.std.proofs.Common.{◌∙◌, sym, subst}
use Rattle.xv_model.specs.Wait.{Why}
use Rattle.xv_source.specs.Waits.{judges}
use Rattle.xv_source.proofs.Waits.{own-wait, own-of, own-judged}
use Rattle.xv_source.proofs.source.SourceHalf.waits.Goals as goal

pub returns-clause-exactly : goal.returns-clause-exactly
returns-clause-exactly g c = λ job v allows asked format.
    c.own_waits.ensures ∙ own-wait job v c.args.event c.args.self.now c.args.beside false allows asked format (own-of (length c.args.self.now.disks) c.args.event c.requires)

pub returns-clause-own : goal.returns-clause-own
returns-clause-own g c =
    subst (λ (w : Option Why). IfSome w (λ why. judges c.args.event why ≡ true)) (sym c.own_waits.ensures)
    (own-judged c.args.beside c.args.self.now c.args.event (own-of (length c.args.self.now.disks) c.args.event c.requires))
