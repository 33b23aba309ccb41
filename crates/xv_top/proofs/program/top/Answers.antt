use Rattle.std.proofs.Common.{refl, ◌≡◌, ℕ, ap, subst}
use Rattle.std.specs.Prelude.{map, string_bytes}
use Rattle.xv_job.specs.Made.{made_job}
use Rattle.xv_top.specs.Printed.{HasEndedAll}
use Rattle.xv_top.proofs.Printed.{said-number}
use Rattle.xv_top.specs.Command.{words_of}
use Rattle.xv_top.specs.declared.command.Command.TheVariants.{Replay, Gen, Handover, Drive}
use Rattle.xv_top.specs.Promises.{GenPromise, HandoverPromise, WordsPromise}
use Rattle.xv_top.proofs.Commands.{promise-of, nothing-left}
use Rattle.xv_top.proofs.program.top.Goals as goal

pub returns-in-Some-Replay-clause-promise : goal.returns-in-Some-Replay-clause-promise
returns-in-Some-Replay-clause-promise g c = λ command good is.
    promise-of _ (Replay c.in-Some-Replay.form) command _ tt (cc (c.in-Some-Replay.ensures.found, ap words_of c.in-Some-Replay.field-0-is)) c.run_replay.ensures.promise good is

pub returns-in-Some-Gen-clause-promise : goal.returns-in-Some-Gen-clause-promise
returns-in-Some-Gen-clause-promise g c = λ command good is.
    promise-of _ (Gen c.in-Some-Gen.number) command _ c.run_gen.ensures.below (cc (c.in-Some-Gen.ensures.found, ap words_of c.in-Some-Gen.field-0-is))
    (nothing-left (GenPromise c.in-Some-Gen.number) _ _ _ _ c.leave.ensures (c.run_gen.ensures.promise _ (record { stays = refl; quiet = refl }))) good is

pub returns-in-Some-Handover-clause-promise : goal.returns-in-Some-Handover-clause-promise
returns-in-Some-Handover-clause-promise g c = λ command good is.
    promise-of _ Handover command _ tt (cc (c.in-Some-Handover.ensures.found, ap words_of c.in-Some-Handover.field-0-is)) (nothing-left HandoverPromise _ _ _ _ c.leave.ensures c.run_handover.ensures) good is

pub returns-in-Some-Drive-clause-promise : goal.returns-in-Some-Drive-clause-promise
returns-in-Some-Drive-clause-promise g c = λ command good is.
    promise-of _ (Drive c.in-Some-Drive.number) command _ c.run_drive.ensures.below (cc (c.in-Some-Drive.ensures.found, ap words_of c.in-Some-Drive.field-0-is))
    (c.run_drive.ensures.promise _ (record { stays = refl; quiet = refl })) good is

pub returns-in-None-clause-words : goal.returns-in-None-clause-words
returns-in-None-clause-words g c = λ _. nothing-left WordsPromise _ _ _ _ c.leave.ensures (c.refuse_words.ensures _ (record { stays = refl; quiet = refl }))

pub returns-in-Some-Drive-clause-ends_all : goal.returns-in-Some-Drive-clause-ends_all
returns-in-Some-Drive-clause-ends_all g c = λ number m small words is.
    let own : map (λ w. string_bytes w) c.args.words.now ≡ words_of (Drive c.in-Some-Drive.number) = cc (c.in-Some-Drive.ensures.found, ap words_of c.in-Some-Drive.field-0-is) in
    let same = said-number (map (λ w. string_bytes w) c.args.words.now) c.in-Some-Drive.number number c.run_drive.ensures.below small own words in
    subst (λ (n : ℕ). (m.job ≡ made_job n) × HasEndedAll m) same (c.run_drive.ensures.ends_all m is)
