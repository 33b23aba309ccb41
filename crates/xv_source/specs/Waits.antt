-- What the half's own call of an event waits for: what the machine does in a migration that runs and is not to be
-- cancelled. What it knows of rounds beside the copy it is told.
use Rattle.std.specs.Prelude.{Bool, true, false, [], Option, None, if◌then◌else◌}
use Rattle.xv_base.specs.declared.limits.TheConstants.{SINGLE_FORMAT, GROUP_FORMAT}
use Rattle.xv_base.specs.declared.event.Phase.TheVariants.{Running}
use Rattle.xv_base.specs.declared.event.Event.TheVariants.{Guest, Begin, Read, Advance, Release, Round, Page, Send, Deliver, Apply, Ack, Credit, Stun, Switch, Cancel}
use Rattle.xv_base.specs.declared.answer.Why.TheVariants.{NotNow, NothingThere, Throttled, NoCredit}
use Rattle.xv_model.specs.Job.{Job, first_start}
use Rattle.xv_model.specs.View.{View, Phase, is_running, is_live}
use Rattle.xv_model.specs.Wait.{Event, Why, wait}
use Rattle.xv_source.specs.Half.{Source}

-- such a job, and such a view, with what the half has of them
abbrev pub plain_job : Bool → Source → Job
plain_job beside h = record {
  shape = h.shape;
  copy = h.shape;
  format = if beside then GROUP_FORMAT else SINGLE_FORMAT;
  group = 1;
  config = record h.config { cancel = None };
  faults = [];
  init = [];
  traces = [];
  start = first_start;
}

abbrev pub plain_view : Source → View
plain_view h = record {
  history = [];
  stun = None;
  mark = 0;
  phase = Running;
  disks = h.disks;
  dirty = h.dirty;
  to_send = h.to_send;
  rounds = h.rounds;
  outbox = record { messages = h.messages; issued = h.issued; first = [] };
  streams = [];
  hold = record { held = []; applied = []; recorded = [] };
  credit = h.credit;
  freed = 0;
  acks = [];
}

abbrev pub own_wait : Bool → Source → Event → Option Why
own_wait beside h event = wait (plain_job beside h) (plain_view h) event false

-- whether a phase is the one that the half's own call of an event asks for
abbrev pub is_asked : Phase → Event → Bool
is_asked phase (Guest g) = is_running phase
is_asked phase (Begin d) = is_running phase
is_asked phase (Read d) = is_running phase
is_asked phase (Advance d) = is_running phase
is_asked phase (Release d) = is_running phase
is_asked phase Round = is_running phase
is_asked phase Page = is_live phase
is_asked phase (Send s) = is_live phase
is_asked phase (Deliver s) = false
is_asked phase Apply = false
is_asked phase Ack = false
is_asked phase Credit = is_live phase
is_asked phase Stun = is_running phase
is_asked phase Switch = false
is_asked phase Cancel = false

-- the waits that the half judges, by event: the whole migration judges all others, and no other comes of the half
abbrev pub judges : Event → Why → Bool
judges (Guest g) Throttled = true
judges (Begin d) NotNow = true
judges (Read d) NotNow = true
judges (Advance d) NotNow = true
judges (Advance d) Throttled = true
judges (Release d) NothingThere = true
judges (Release d) NotNow = true
judges (Release d) Throttled = true
judges Round NotNow = true
judges Page NothingThere = true
judges Page Throttled = true
judges (Send s) NothingThere = true
judges (Send s) NoCredit = true
judges Stun NotNow = true
judges event why = false
