use Rattle.std.proofs.Common.{refl}
use Rattle.xv_top.specs.Promises.{WordsPromise}
use Rattle.xv_top.proofs.Commands.{nothing-left}
use Rattle.xv_run.proofs.Statuses.{promise-of}
use Rattle.xv_run.proofs.program.top_run.Goals as goal

pub returns-in-Some-clause-promise : goal.returns-in-Some-clause-promise
returns-in-Some-clause-promise g c = λ form is. promise-of _ c.in-Some.form form _ c.in-Some.ensures.found is c.run.ensures.promise

pub returns-in-None-clause-words : goal.returns-in-None-clause-words
returns-in-None-clause-words g c = λ _. nothing-left WordsPromise _ _ _ _ c.leave.ensures (c.refuse_words.ensures _ (record { stays = refl; quiet = refl }))
