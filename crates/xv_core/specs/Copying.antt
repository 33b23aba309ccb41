-- The events of the copy and of the pages, and those that end them.
use Rattle.std.specs.Prelude.{Bool, true, false}
use Rattle.xv_base.specs.declared.event.Event.TheVariants.{Guest, Begin, Read, Advance, Release, Round, Page, Send, Deliver, Apply, Ack, Credit, Stun, Switch, Cancel}
use Rattle.xv_model.specs.Wait.{Event}

-- those that the phase and the source's half alone judge
abbrev pub is_of_copy : Event → Bool
is_of_copy (Guest g) = false
is_of_copy (Begin d) = true
is_of_copy (Read d) = true
is_of_copy (Advance d) = true
is_of_copy (Release d) = false
is_of_copy Round = true
is_of_copy Page = true
is_of_copy (Send s) = false
is_of_copy (Deliver s) = false
is_of_copy Apply = false
is_of_copy Ack = false
is_of_copy Credit = false
is_of_copy Stun = false
is_of_copy Switch = false
is_of_copy Cancel = false

-- those, and the two that the job's cancel number has a part in
abbrev pub is_own : Event → Bool
is_own (Guest g) = false
is_own (Begin d) = true
is_own (Read d) = true
is_own (Advance d) = true
is_own (Release d) = false
is_own Round = true
is_own Page = true
is_own (Send s) = false
is_own (Deliver s) = false
is_own Apply = false
is_own Ack = false
is_own Credit = false
is_own Stun = true
is_own Switch = false
is_own Cancel = true
