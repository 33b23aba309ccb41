use Rattle.xv_model.proofs.Journal.OneStep.{fits-one, guests-one, own-one, others-one, rest-one}
use Rattle.xv_model.proofs.journal_laws.one_entry_more_is_counted.Goals as goal

pub returns : goal.returns
returns c = record { fitting = fits-one; guests = guests-one; own = own-one; others = others-one; rest = rest-one }
