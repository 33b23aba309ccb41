use Rattle.xv_model.proofs.Window.{way-fits, outbox-fits, acks-fit}
use Rattle.xv_model.proofs.laws.window_holds.Goals as goal

pub returns : goal.returns
returns c = record { on_the_way = way-fits; outbox = outbox-fits; acknowledgements = acks-fit }
