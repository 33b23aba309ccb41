-- The driver: the order in which it tries the events, and the journal that it makes.
use Rattle.std.specs.Prelude.{ℕ, zero, suc, ◌+◌, ◌%◌, false, List, [], ◌∷◌, ◌++◌, length, take, drop, Option, Some, None, is_none, if◌then◌else◌}
use Rattle.xv_model.specs.Job.{Job, guest_count}
use Rattle.xv_model.specs.View.{View, first_view}
use Rattle.xv_model.specs.Wait.{Event, wait}
use Rattle.xv_model.specs.Step.{Entry, Call, step, turn, call, flag}
use Rattle.xv_model.specs.Work.{bound}
use Rattle.xv_base.specs.declared.event.Event.TheVariants.{Guest, Begin, Read, Advance, Release, Round, Page, Send, Deliver, Apply, Ack, Credit, Stun, Switch, Cancel}

-- for each number below n, in rising order, what a function gives
abbrev pub for_each_below : ℕ → (ℕ → List Event) → List Event
for_each_below zero events = []
for_each_below (suc n) events = for_each_below n events ++ events n

-- the driver's list: the guests, each disk's copy, the rounds, the streams, the destination, and the ends
abbrev pub driver_events : Job → List Event
driver_events job =
    for_each_below (guest_count job) (λ g. Guest (record { 0 = g }) ∷ [])
    ++ for_each_below (length job.copy.disks) (λ d. Begin d ∷ Read d ∷ Advance d ∷ Release d ∷ [])
    ++ (Round ∷ Page ∷ [])
    ++ for_each_below job.config.streams (λ s. Send s ∷ [])
    ++ for_each_below job.config.streams (λ s. Deliver s ∷ [])
    ++ (Apply ∷ Ack ∷ Credit ∷ Stun ∷ Switch ∷ Cancel ∷ [])

-- the first event of a list that can act in a view
abbrev pub first_able : Job → View → List Event → Option Event
first_able job v [] = None
first_able job v (e ∷ es) = if is_none (wait job v e false) then Some e else first_able job v es

-- the list from a place on, and then up to it
abbrev pub from_place : List Event → ℕ → List Event
from_place events place = drop place events ++ take place events

-- the driver's next event, where the journal has n entries
abbrev pub next_event : Job → View → ℕ → Option Event
next_event job v n = first_able job v (from_place (driver_events job) (n % length (driver_events job)))

-- what the driver's event adds: nothing where there is none
abbrev pub driven_view : Option Event → Job → View → List Call → View
driven_view None job v calls = v
driven_view (Some e) job v calls = step job v e (flag job v calls e)

abbrev pub driven_call : Option Event → Job → View → List Call
driven_call None job v = []
driven_call (Some e) job v = call job v e ∷ []

abbrev pub driven_entry : Option Event → Job → View → List Call → List Entry
driven_entry None job v calls = []
driven_entry (Some e) job v calls = record { event = e; turn = turn job v e (flag job v calls e) } ∷ []

-- the entries that the driver adds in at most so many steps, each flagged where the planned faults name its call
abbrev pub driven_from : Job → View → List Call → ℕ → ℕ → List Entry
driven_from job v calls n zero = []
driven_from job v calls n (suc steps) =
    driven_entry (next_event job v n) job v calls
    ++ driven_from job (driven_view (next_event job v n) job v calls) (calls ++ driven_call (next_event job v n) job v) (n + 1) steps

-- the journal of the driven run
abbrev pub driven : Job → List Entry
driven job = driven_from job (first_view job) [] 0 (bound job)
