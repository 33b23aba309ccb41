-- What an operation of a guest leaves of the half.
use Rattle.std.specs.Prelude.{◌≡◌, ℕ, ◌+◌, not, Bool, true, List, [], ◌∷◌, ◌++◌, set, get_or, Option, None, Some, is_some, if◌then◌else◌}
use Rattle.xv_base.specs.declared.answer.Turn.TheVariants.{Faulted}
use Rattle.xv_base.specs.Pattern.{repeated}
use Rattle.xv_base.specs.declared.operation.Waiting.{Waiting}
use Rattle.xv_device.specs.Told.{CallMade, IsSized}
use Rattle.xv_model.specs.Job.{UnitOp}
use Rattle.xv_model.specs.View.{no_disk, number, member}
use Rattle.xv_model.specs.Effect.{Turn, note, joined, front_gone}
use Rattle.xv_source.specs.Half.{Source}
use Rattle.xv_source.specs.Step.{operation_call}

-- the answer of an operation that does not wait in a queue
abbrev pub acted : UnitOp → Bool → Turn
acted op failed = if failed then Faulted else note (if is_some op.write then 0 else op.len) 0

-- and of the write of a guest that has left its queue
abbrev pub released : Waiting → Bool → Turn
released w failed = if failed then Faulted else note w.guest.0 0

-- a page that is stored is sent again, unless it is still to be sent in this round
abbrev pub stored : ℕ → Source → Source
stored page h = record h { dirty = if not (member h.to_send page) then set h.dirty page true else h.dirty }

-- what a write has laid over a whole block
abbrev pub laid : Option (List ℕ) → ℕ → List ℕ
laid None len = []
laid (Some pattern) len = repeated pattern len

-- a message of a block's next version is made, with what was written over it
abbrev pub mirrored : UnitOp → ℕ → Source → Source
mirrored op at h = record h {
  messages = h.messages ++ record { unit = record { 0 = op.unit.0 }; version = number h.issued op.unit.0 + 1; at = at } ∷ [];
  contents = h.contents ++ laid op.write op.len ∷ [];
  issued = set h.issued op.unit.0 (number h.issued op.unit.0 + 1);
}

-- a guest is behind the others who wait for a disk, or the first of these is gone
abbrev pub queued : ℕ → ℕ → ℕ → Source → Source
queued d guest unit h = record h { disks = set h.disks d (joined (get_or h.disks d no_disk) guest unit) }

abbrev pub left : ℕ → Source → Source
left d h = record h { disks = set h.disks d (front_gone (get_or h.disks d no_disk)) }

-- the call of an operation was made, and failed or did not; what the device tells apart, this is left of the half
pub record HasActed (op : UnitOp) (failed : Bool) (old leaves new : Source) : Type 0 where
  pub layout : old.told.shape ≡ old.shape
  pub made : CallMade (operation_call old.shape op) failed old.told new.told old.faults new.faults
  pub sized : is_some op.write ≡ true → IsSized old.told
  pub rest : new ≡ record leaves { told = new.told; faults = new.faults }
