use Rattle.std.specs.Prelude.{◌≡◌, true, Option, None, IfSome}
use Rattle.std.proofs.Common.{refl, sym, subst}
use Rattle.xv_base.specs.declared.answer.Why.TheVariants.{Throttled}
use Rattle.xv_base.specs.declared.event.Event.TheVariants.{Guest}
use Rattle.xv_model.specs.Wait.{Why}
use Rattle.xv_source.specs.Waits.{judges}
use Rattle.xv_source.proofs.Mirroring.{guest-waits}
use Rattle.xv_source.proofs.Waits.{unless-if}
use Rattle.xv_source.proofs.source.SourceHalf.guest_waits.Goals as goal

pub returns-clause-exactly : goal.returns-clause-exactly
returns-clause-exactly g c = λ job v allows running next. guest-waits job v c.args.guest c.args.self.now c.args.op.now c.is_throttled.result c.unless.result allows running next c.is_throttled.ensures c.unless.ensures

pub returns-clause-own : goal.returns-clause-own
returns-clause-own g c =
    subst (λ (w : Option Why). IfSome w (λ why. judges (Guest c.args.guest) why ≡ true)) (sym c.unless.ensures)
    (unless-if (λ why. judges (Guest c.args.guest) why ≡ true) c.is_throttled.result Throttled None refl tt)
