-- What a journal tells of its run: how many entries of each kind it has, and which of them ended the migration.
use Rattle.std.specs.Prelude.{ℕ, ◌+◌, ◌==◌, ◌&&◌, not, Bool, true, false, List, [], ◌∷◌, Option, Some, None, unwrap_or, count_by, if◌then◌else◌}
use Rattle.std.specs.List.{list_any}
use Rattle.xv_model.specs.Job.{Job}
use Rattle.xv_model.specs.Guest.{Ended, is_done}
use Rattle.xv_model.specs.View.{View, Phase, first_view, disk, front}
use Rattle.xv_model.specs.Wait.{Event}
use Rattle.xv_model.specs.Effect.{Turn}
use Rattle.xv_model.specs.Step.{Entry, step, is_flagged}
use Rattle.xv_model.specs.Growth.{happened, is_failure}
use Rattle.xv_base.specs.declared.event.Phase.TheVariants.{Running, Stunned, Switched, Cancelled, Failed}
use Rattle.xv_base.specs.declared.event.Event.TheVariants.{Guest, Release, Stun, Switch, Cancel}
use Rattle.xv_base.specs.declared.answer.Turn.TheVariants.{Done}

-- whether an event is a guest's, and whether it is this guest's
abbrev pub is_guest : Event → Bool
is_guest (Guest g) = true
is_guest e = false

abbrev pub is_of : ℕ → Event → Bool
is_of guest (Guest g) = g.0 == guest
is_of guest e = false

-- how many entries of guests, and of one guest, have an answer of a kind, and how many are of other events
abbrev pub guest_entries : (Turn → Bool) → List Entry → ℕ
guest_entries kind journal = count_by (λ e. is_guest e.event && kind e.turn) journal

abbrev pub own_entries : ℕ → (Turn → Bool) → List Entry → ℕ
own_entries guest kind journal = count_by (λ e. is_of guest e.event && kind e.turn) journal

abbrev pub other_entries : List Entry → ℕ
other_entries journal = count_by (λ e. not (is_guest e.event)) journal

-- the phase that an event begins where it happens, that to which an entry changes, and that which a journal tells
abbrev pub phase_of : Event → Option Phase
phase_of Stun = Some Stunned
phase_of Switch = Some Switched
phase_of Cancel = Some Cancelled
phase_of e = None

abbrev pub changes_to : Event → Turn → Option Phase
changes_to e t = if is_failure t then Some Failed else (if happened t then phase_of e else None)

abbrev pub phase_told : Phase → List Entry → Phase
phase_told phase [] = phase
phase_told phase (e ∷ es) = phase_told (unwrap_or (changes_to e.event e.turn) phase) es

-- whether an event is the switchover, and the cancel
abbrev pub is_switch : Event → Bool
is_switch Switch = true
is_switch e = false

abbrev pub is_cancel : Event → Bool
is_cancel Cancel = true
is_cancel e = false

-- whether an entry of a journal is a switchover that happened, a cancel that happened, or a call that ended it
abbrev pub has_switch : List Entry → Bool
has_switch journal = list_any (λ e. is_switch e.event && happened e.turn) journal

abbrev pub has_cancelled : List Entry → Bool
has_cancelled journal = list_any (λ e. is_cancel e.event && happened e.turn) journal

abbrev pub has_failure : List Entry → Bool
has_failure journal = list_any (λ e. is_failure e.turn) journal

-- the phases that these leave
abbrev pub is_cancelled : Phase → Bool
is_cancelled Running = false
is_cancelled Stunned = false
is_cancelled Switched = false
is_cancelled Cancelled = true
is_cancelled Failed = false

abbrev pub is_failed : Phase → Bool
is_failed Running = false
is_failed Stunned = false
is_failed Switched = false
is_failed Cancelled = false
is_failed Failed = true

-- whether an event releases a write of a guest, and how many entries from a view on do
abbrev pub frees : View → ℕ → Event → Bool
frees v guest (Release d) = (front (disk v d)).guest.0 == guest
frees v guest e = false

abbrev pub releases_from : Job → View → List Entry → ℕ → ℕ
releases_from job v [] guest = 0
releases_from job v (e ∷ es) guest = (if frees v guest e.event then 1 else 0) + releases_from job (step job v e.event (is_flagged e.turn)) es guest

abbrev pub releases : Job → List Entry → ℕ → ℕ
releases job journal guest = releases_from job (first_view job) journal guest

-- whether an event is a release, whether an answer tells a guest, and how many releases told one
abbrev pub is_release : Event → Bool
is_release (Release d) = true
is_release e = false

abbrev pub tells : ℕ → Turn → Bool
tells guest (Done n) = n.a == guest
tells guest t = false

abbrev pub releases_told : ℕ → List Entry → ℕ
releases_told guest journal = count_by (λ e. is_release e.event && tells guest e.turn) journal

-- how many operations of a guest were done, and how many faulted
abbrev pub done_by : List Ended → ℕ → ℕ
done_by history guest = count_by (λ e. (e.guest.0 == guest) && is_done e.outcome) history

abbrev pub faulted_by : List Ended → ℕ → ℕ
faulted_by history guest = count_by (λ e. (e.guest.0 == guest) && not (is_done e.outcome)) history
