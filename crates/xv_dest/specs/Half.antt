-- What is seen of the destination's half of a migration, and that it is the part that a view and its contents have of it.
use Rattle.std.specs.Prelude.{◌≡◌, ◌≤◌, ◌<◌, ℕ, ◌+◌, ◌==◌, true, List, [], length, replicate, unwrap_or, get_or, is_some, count_by}
use Rattle.xv_base.specs.Units.{Shape, units}
use Rattle.xv_device.specs.Told.{Told}
use Rattle.xv_model.specs.Job.{Job}
use Rattle.xv_model.specs.View.{View, UnitHead, number, no_message}
use Rattle.xv_model.specs.Outstanding.{count, is_version}
use Rattle.xv_model.specs.Contents.{Contents}

-- the layout; how many messages may be held; those held, in order of arrival, with the content of each; for each unit the
-- version last written and its `at`; the messages written and not acknowledged; and what the device tells
pub record Dest : Type 0 where
  pub shape : Shape
  pub limit : ℕ
  pub held : List UnitHead
  pub contents : List (List ℕ)
  pub applied : List ℕ
  pub recorded : List ℕ
  pub freed : ℕ
  pub told : Told
  pub faults : ℕ

-- nothing has arrived
abbrev pub fresh : Shape → ℕ → Told → ℕ → Dest
fresh s most told faults = record {
  shape = s;
  limit = most;
  held = [];
  contents = [];
  applied = replicate (units s) 0;
  recorded = replicate (units s) 0;
  freed = 0;
  told = told;
  faults = faults;
}

-- a view with all that the half has of it, and contents with all that it has of them, where its device tells what it holds
abbrev pub with_dest : View → Dest → View
with_dest v h = record v {
  hold = record { held = h.held; applied = h.applied; recorded = h.recorded };
  freed = h.freed;
}

abbrev pub with_dest_bytes : Contents → Dest → Contents
with_dest_bytes c h = record c { dest = unwrap_or h.told.contents []; held = h.contents }

-- the half is the destination's part of a job's view, and of contents
pub record IsDestOf (job : Job) (v : View) (h : Dest) : Type 0 where
  pub shape : h.shape ≡ job.shape
  pub limit : h.limit ≡ job.config.credit
  pub part : with_dest v h ≡ v

pub record HasDestBytes (c : Contents) (h : Dest) : Type 0 where
  pub told : is_some h.told.contents ≡ true
  pub part : with_dest_bytes c h ≡ c

-- the hold can take these messages: there is room for them, and each is above the version applied to its unit, stands once
-- among them and is not held
abbrev pub message_at : List UnitHead → ℕ → UnitHead
message_at messages i = get_or messages i no_message

pub record CanTake (h : Dest) (messages : List UnitHead) : Type 0 where
  pub room : length messages + length h.held ≤ h.limit
  pub above : (i : ℕ) → i < length messages → number h.applied (message_at messages i).unit.0 < (message_at messages i).version
  pub once : (i : ℕ) → i < length messages → count (is_version (message_at messages i).unit.0 (message_at messages i).version) messages ≡ 1
  pub not_held : (i : ℕ) → i < length messages → count (is_version (message_at messages i).unit.0 (message_at messages i).version) h.held ≡ 0

-- the messages of a unit that are held
abbrev pub unwritten : Dest → ℕ → ℕ
unwritten h unit = count_by (λ m. m.unit.0 == unit) h.held
