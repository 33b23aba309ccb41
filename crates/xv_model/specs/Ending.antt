-- What still goes on where a migration has ended: what the guests themselves ask for.
use Rattle.std.specs.Prelude.{Bool, true, false}
use Rattle.xv_model.specs.Job.{GuestId}
use Rattle.xv_model.specs.View.{View, disk, front, no_waiting}
use Rattle.xv_model.specs.Wait.{Event}
use Rattle.xv_base.specs.declared.event.Event.TheVariants.{Guest, Release}

-- whether an event is a guest's: its operation, or its write that waited
abbrev pub is_guests : Event → Bool
is_guests (Guest g) = true
is_guests (Release d) = true
is_guests e = false

-- the guest of such an event: the one that acts, or that is at the front of its queue; of another event it is nobody's number
abbrev pub guest_of : View → Event → GuestId
guest_of v (Guest g) = g
guest_of v (Release d) = (front (disk v d)).guest
guest_of v e = no_waiting.guest
