-- Where something goes on that makes messages, there are places for them.
use Rattle.std.specs.Prelude.{◌≡◌, ◌≤◌, ◌<◌, ℕ, ◌+◌, Bool, true, length, None}
use Rattle.std.proofs.Common.{refl}
use Rattle.xv_model.specs.Job.{Job}
use Rattle.xv_model.specs.View.{View, disk, is_running}
use Rattle.xv_model.specs.Wait.{Aim, Alone, Store, Join, Mirror, next_aim, is_mirror, wait}
use Rattle.xv_base.specs.declared.event.Event.TheVariants.{Guest, Advance, Release, Page}
use Rattle.xv_model.proofs.GoesOn.{guest_goes, advance_goes, release_goes, page_goes}

mirrors : (a : Aim) → is_mirror a ≡ true → a ≡ Mirror
mirrors Alone h = absurd (cc)
mirrors Store h = absurd (cc)
mirrors Join h = absurd (cc)
mirrors Mirror h = refl

pub mirror-room : (job : Job) (v : View) (g : ℕ) (flag : Bool) → is_mirror (next_aim job v g) ≡ true → wait job v (Guest (record { 0 = g })) flag ≡ None → length v.outbox.messages < job.config.outbox
mirror-room job v g flag mirror goes = (guest_goes job v g flag goes).has_room (mirrors (next_aim job v g) mirror)

pub release-room : (job : Job) (v : View) (d : ℕ) (flag : Bool) → is_running v.phase ≡ true → wait job v (Release d) flag ≡ None → length v.outbox.messages < job.config.outbox
release-room job v d flag running goes = (release_goes job v d flag goes).has_room running

pub page-room : (job : Job) (v : View) (flag : Bool) → wait job v Page flag ≡ None → length v.outbox.messages < job.config.outbox
page-room job v flag goes = (page_goes job v flag goes).has_room

pub advance-room : (job : Job) (v : View) (d : ℕ) (flag : Bool) → wait job v (Advance d) flag ≡ None → length v.outbox.messages + (disk v d).region ≤ job.config.outbox
advance-room job v d flag goes = (advance_goes job v d flag goes).has_room
