-- What an event leaves behind beside its own effect: its entry, and the end of the migration where a call of it failed.
use Rattle.std.specs.Prelude.{Bool, true, false}
use Rattle.xv_base.specs.declared.answer.Turn.TheVariants.{Done, Queued, Faulted, Wait, Failed}
use Rattle.xv_model.specs.Job.{Job}
use Rattle.xv_model.specs.View.{View, Phase}
use Rattle.xv_model.specs.Effect.{Turn, given_up}
use Rattle.xv_model.specs.Contents.{Contents, give_up_moves}
use Rattle.xv_source.specs.Half.{Source, IsSourceOf, HasSourceBytes}
use Rattle.xv_source.specs.Step.{MakesNoCall}

-- whether an answer says that a call failed, and the migration with it
abbrev pub is_failed : Turn → Bool
is_failed (Done n) = false
is_failed Queued = false
is_failed Faulted = false
is_failed (Wait why) = false
is_failed (Failed cause) = true

-- the source's half has given every region up, and made no call
pub record Abandoned (old new : Source) : Type 0 where
  pub part : (job : Job) (v : View) (phase : Phase) → IsSourceOf job v old → IsSourceOf job (given_up v phase) new
  pub bytes : (c : Contents) → HasSourceBytes c old → HasSourceBytes (give_up_moves c) new
  pub call : MakesNoCall old new
