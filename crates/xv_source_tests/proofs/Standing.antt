-- Where a half stands in the run of a small job, over a device that counts and fails no call: what each call asks can then
-- be read off the machine.
use Rattle.std.specs.Prelude.{◌≡◌, ◌<◌, ◌≤◌, ℕ, zero, suc, ◌+◌, ◌-◌, ◌*◌, ◌^◌, min, nat_lt, Bool, true, false, List, [], ◌∷◌, length, replicate, get_or, Option, Some, None, IfSome, option_map}
use Rattle.std.specs.List.{list_all}
use Rattle.std.proofs.Common.{refl, sym, ap, subst, ◌∙◌, arith, lit<, lit≤, inl, inr}
use Rattle.std.proofs.lemmas.Bool.{cases_Bool, and_parts, ltb-true}
use Rattle.xv_base.specs.Units.{Shape, shape_of, is_page, units, size}
use Rattle.xv_base.specs.declared.limits.Config.{Config}
use Rattle.xv_base.specs.declared.event.Event.TheVariants.{Guest, Begin, Read, Advance}
use Rattle.xv_device.specs.Device.{DeviceCall, NoCall, ReadRange, PatchRange, WriteUnit, FlushAll, Plan, Calls, Counted, writes_after, calls_after, is_planned}
use Rattle.xv_device.specs.Told.{Told, told_after, HasRoomToCount}
use Rattle.xv_model.specs.Job.{Job, UnitOp, IsLegal, first_start}
use Rattle.xv_model.specs.View.{View, Disk, no_disk, first_view, front, is_running, number}
use Rattle.xv_model.specs.Guest.{writes_to}
use Rattle.xv_model.specs.Wait.{Event, next_operation}
use Rattle.xv_model.specs.Effect.{Turn}
use Rattle.xv_model.specs.Step.{turn, step, is_flagged}
use Rattle.xv_frame.specs.Frame.{Message}
use Rattle.xv_streams.specs.Streamed.{LaneSeen}
use Rattle.xv_streams.specs.Carried.{joined}
use Rattle.xv_streams.specs.Fronts.{HasRoomFor}
use Rattle.xv_source.specs.Half.{Source, IsSourceOf, next_unit}
use Rattle.xv_source.specs.Limits.{fresh}
use Rattle.xv_source.specs.Step.{Allows, StepsSource, MakesCall, MakesNoCall, HasFewVersions, IsMost, batch_of, unit_read, went_out}

-- a job of these operations, with one message at a time
abbrev pub machine : Shape → Config → List (List UnitOp) → Job
machine s config traces = record { shape = s; copy = s; format = 1; group = 1; config = config; faults = []; init = []; traces = traces; start = first_start }

abbrev pub no_plan : Plan
no_plan = record { reads = []; writes = []; flushes = [] }

abbrev pub no_calls : Calls
no_calls = record { reads = 0; writes = 0; flushes = 0 }

pub record Stands (job : Job) (v : View) (writes : List ℕ) (calls : Calls) (h : Source) : Type 0 where
  pub of : IsSourceOf job v h
  pub laid : h.told.shape ≡ job.shape
  pub written : h.told.writes ≡ writes
  pub counted : h.told.counted ≡ Some (record { plan = no_plan; calls = calls })

pub starts : (s : Shape) (config : Config) (traces : List (List UnitOp)) (h : Source) → h ≡ fresh s config h.told h.faults → h.told.shape ≡ s → h.told.writes ≡ replicate (units s) 0 →
    h.told.counted ≡ Some (record { plan = no_plan; calls = no_calls }) →
    Stands (machine s config traces) (first_view (machine s config traces)) (replicate (units s) 0) no_calls h
starts s config traces h is laid written counted = record {
  of = subst (λ (x : Source). IsSourceOf (machine s config traces) (first_view (machine s config traces)) x) (sym is) (record { limits = refl; part = refl });
  laid = laid;
  written = written;
  counted = counted;
}

-- what each call asks
small-each : (n : ℕ) (xs : List ℕ) (i : ℕ) → 0 < n → list_all (λ x. nat_lt x n) xs ≡ true → get_or xs i 0 < n
small-each n [] i some all = some
small-each n (x ∷ xs) zero some all = ltb-true x n (and_parts (nat_lt x n) (list_all (λ y. nat_lt y n) xs) all).0
small-each n (x ∷ xs) (suc i) some all = small-each n xs i some (and_parts (nat_lt x n) (list_all (λ y. nat_lt y n) xs) all).1

pub few-at : (job : Job) (v : View) (writes : List ℕ) (calls : Calls) (h : Source) → Stands job v writes calls h → list_all (λ n. nat_lt n (2 ^ 32 - 1)) v.outbox.issued ≡ true → HasFewVersions h
few-at job v writes calls h at all = λ unit.
    subst (λ (ns : List ℕ). number ns unit < 2 ^ 32 - 1) (ap (λ (w : View). w.outbox.issued) (sym at.of.part)) (small-each (2 ^ 32 - 1) v.outbox.issued unit (omega arith) all)

pub room-at : (job : Job) (v : View) (writes : List ℕ) (calls : Calls) (h : Source) → Stands job v writes calls h → list_all (λ n. nat_lt n (2 ^ 63)) writes ≡ true →
    calls.reads < 2 ^ 63 → calls.writes < 2 ^ 63 → calls.flushes < 2 ^ 63 → HasRoomToCount h.told
room-at job v writes calls h at all reads writing flushes = record {
  writes = λ unit. subst (λ (ns : List ℕ). get_or ns unit 0 < 2 ^ 63) (sym at.written) (small-each (2 ^ 63) writes unit (omega arith) all);
  calls = subst (λ (o : Option Counted). IfSome o (λ c. (c.calls.reads < 2 ^ 63) × (c.calls.writes < 2 ^ 63) × (c.calls.flushes < 2 ^ 63))) (sym at.counted) (reads, writing, flushes);
}

pub disks-at : (job : Job) (v : View) (writes : List ℕ) (calls : Calls) (h : Source) → Stands job v writes calls h → h.disks ≡ v.disks
disks-at job v writes calls h at = ap (λ (w : View). w.disks) at.of.part

pub shape-at : (job : Job) (v : View) (writes : List ℕ) (calls : Calls) (h : Source) → Stands job v writes calls h → h.shape ≡ job.shape
shape-at job v writes calls h at = ap (λ (j : Job). j.shape) at.of.limits

-- an event that makes no call of the device, and one that makes one
unflagged : (job : Job) (v : View) (e : Event) (t : Turn) → t ≡ turn job v e (is_flagged t) → is_flagged (turn job v e true) ≡ false → is_flagged t ≡ false
unflagged job v e t answers never = elim (cases_Bool (is_flagged t)) [
  | inl flagged ↦ ap (λ (x : Turn). is_flagged x) answers ∙ ap (λ (b : Bool). is_flagged (turn job v e b)) flagged ∙ never
  | inr fine ↦ fine
]

pub stands-quiet : (job : Job) (v : View) (writes : List ℕ) (calls : Calls) (e : Event) (t : Turn) (old new : Source) → Stands job v writes calls old → StepsSource job v e t old new → MakesNoCall old new →
    is_flagged (turn job v e true) ≡ false → Stands job (step job v e false) writes calls new
stands-quiet job v writes calls e t old new at steps none never = record {
  of = steps.part (unflagged job v e t steps.answers never);
  laid = ap (λ (x : Told). x.shape) none.told ∙ at.laid;
  written = ap (λ (x : Told). x.writes) none.told ∙ at.written;
  counted = ap (λ (x : Told). x.counted) none.told ∙ at.counted;
}

went : (job : Job) (v : View) (e : Event) (t : Turn) (b : Bool) → t ≡ turn job v e (is_flagged t) → went_out (turn job v e true) ≡ b → went_out (turn job v e false) ≡ b → went_out t ≡ b
went job v e t b answers on off = elim (cases_Bool (is_flagged t)) [
  | inl flagged ↦ ap (λ (x : Turn). went_out x) answers ∙ ap (λ (f : Bool). went_out (turn job v e f)) flagged ∙ on
  | inr fine ↦ ap (λ (x : Turn). went_out x) answers ∙ ap (λ (f : Bool). went_out (turn job v e f)) fine ∙ off
]

never-planned : (call : DeviceCall) (calls : Calls) → is_planned call (record { plan = no_plan; calls = calls }) ≡ false
never-planned NoCall calls = refl
never-planned (ReadRange unit offset len) calls = refl
never-planned (PatchRange unit offset bytes) calls = refl
never-planned (WriteUnit unit bytes) calls = refl
never-planned FlushAll calls = refl

pub stands-called : (job : Job) (v : View) (writes : List ℕ) (calls : Calls) (e : Event) (t : Turn) (call : DeviceCall) (old new : Source) → Stands job v writes calls old → StepsSource job v e t old new → MakesCall call t old new →
    went_out (turn job v e true) ≡ true → went_out (turn job v e false) ≡ true → Stands job (step job v e false) (writes_after call writes) (calls_after call calls) new
stands-called job v writes calls e t call old new at steps made on off =
    let m = made.made (went job v e t true steps.answers on off) in
    let planned : is_flagged t ≡ is_planned call (record { plan = no_plan; calls = calls }) =
    subst (λ (o : Option Counted). IfSome o (λ c. is_flagged t ≡ is_planned call c)) at.counted m.planned in
    let fine = planned ∙ never-planned call calls in
    let told : new.told ≡ told_after call false old.told = m.told ∙ ap (λ (b : Bool). told_after call b old.told) fine in
    record {
      of = steps.part fine;
      laid = ap (λ (x : Told). x.shape) told ∙ at.laid;
      written = ap (λ (x : Told). x.writes) told ∙ ap (λ (ws : List ℕ). writes_after call ws) at.written;
      counted = ap (λ (x : Told). x.counted) told ∙ ap (λ (o : Option Counted). option_map (λ c. record { plan = c.plan; calls = calls_after call c.calls }) o) at.counted;
    }

-- one that would make a call and makes none here
pub stands-uncalled : (job : Job) (v : View) (writes : List ℕ) (calls : Calls) (e : Event) (t : Turn) (call : DeviceCall) (old new : Source) → Stands job v writes calls old → StepsSource job v e t old new → MakesCall call t old new →
    went_out (turn job v e true) ≡ false → went_out (turn job v e false) ≡ false → is_flagged (turn job v e true) ≡ false → Stands job (step job v e false) writes calls new
stands-uncalled job v writes calls e t call old new at steps made on off never =
    let none = made.none (went job v e t false steps.answers on off) in
    record {
      of = steps.part (unflagged job v e t steps.answers never);
      laid = ap (λ (x : Told). x.shape) none.0 ∙ at.laid;
      written = ap (λ (x : Told). x.writes) none.0 ∙ at.written;
      counted = ap (λ (x : Told). x.counted) none.0 ∙ at.counted;
    }

-- the machine of the tests: a page and a disk of four blocks
abbrev pub small : Shape
small = shape_of 1 16 (record { blocks = 4; block_size = 16 } ∷ [])

abbrev pub limits : Config
limits = record { streams = 1; credit = 8; outbox = 8; region = 1; rounds = 2; dirty = 0; cancel = None }

-- a write of a whole block
abbrev pub over : ℕ → ℕ → UnitOp
over unit byte = record { unit = record { 0 = unit }; offset = 0; len = 16; write = Some (byte ∷ []) }

pub legal-over : (unit byte : ℕ) (s : Shape) (op : UnitOp) → s ≡ small → op ≡ over unit byte → unit < 5 → 16 ≡ size small unit → IsLegal s op
legal-over unit byte s op is op_is in_range size_is =
    subst (λ (x : Shape). IsLegal x op) (sym is) (subst (λ (o : UnitOp). IsLegal small o) (sym op_is)
    (record { unit_is = in_range; some_bytes = lit< tt; in_unit = omega arith; whole_block = λ writes page. (refl, size_is); short_read = λ reads. absurd (cc) }))

pub unit-over : (unit byte : ℕ) (s : Shape) (op : UnitOp) → s ≡ small → op ≡ over unit byte → unit < 5 → op.unit.0 < units s
unit-over unit byte s op is op_is in_range = subst (λ (x : Shape). op.unit.0 < units x) (sym is) (subst (λ (o : UnitOp). o.unit.0 < 5) (sym op_is) in_range)

-- how such a migration begins, and where it stands once it copies the first block: begun, read, and behind
abbrev pub of_traces : List (List UnitOp) → Job
of_traces traces = machine small limits traces

abbrev pub at_first : List (List UnitOp) → View
at_first traces = first_view (of_traces traces)

abbrev pub at_begun : List (List UnitOp) → View
at_begun traces = step (of_traces traces) (at_first traces) (Begin 0) false

abbrev pub at_read : List (List UnitOp) → View
at_read traces = step (of_traces traces) (at_begun traces) (Read 0) false

abbrev pub at_behind : List (List UnitOp) → View
at_behind traces = step (of_traces traces) (at_read traces) (Advance 0) false

abbrev pub one_read : Calls
one_read = record { reads = 1; writes = 0; flushes = 0 }

pub begins : (traces : List (List UnitOp)) (t : Turn) (old new : Source) → Stands (of_traces traces) (at_first traces) (replicate 5 0) no_calls old →
    ((job : Job) (v : View) → Allows job v (Begin 0) old → StepsSource job v (Begin 0) t old new) → MakesNoCall old new → Stands (of_traces traces) (at_begun traces) (replicate 5 0) no_calls new
begins traces t old new at steps none =
    stands-quiet (of_traces traces) (at_first traces) (replicate 5 0) no_calls (Begin 0) t old new at (steps (of_traces traces) (at_first traces) (record { of = at.of; lets = refl })) none refl

pub reads : (traces : List (List UnitOp)) (v : View) (t : Turn) (unit len : ℕ) (old new : Source) → Stands (of_traces traces) v (replicate 5 0) no_calls old → is_running v.phase ≡ true →
    ((job : Job) (w : View) → Allows job w (Read 0) old → StepsSource job w (Read 0) t old new) → MakesCall (ReadRange unit 0 len) t old new →
    went_out (turn (of_traces traces) v (Read 0) true) ≡ true → went_out (turn (of_traces traces) v (Read 0) false) ≡ true →
    Stands (of_traces traces) (step (of_traces traces) v (Read 0) false) (replicate 5 0) one_read new
reads traces v t unit len old new at running steps made on off =
    stands-called (of_traces traces) v (replicate 5 0) no_calls (Read 0) t (ReadRange unit 0 len) old new at (steps (of_traces traces) v (record { of = at.of; lets = running })) made on off

pub advances : (traces : List (List UnitOp)) (v : View) (t : Turn) (old new : Source) → Stands (of_traces traces) v (replicate 5 0) one_read old → is_running v.phase ≡ true → length v.history ≡ 0 →
    ((job : Job) (w : View) → Allows job w (Advance 0) old → length w.history ≡ 0 → StepsSource job w (Advance 0) t old new) → MakesNoCall old new → is_flagged (turn (of_traces traces) v (Advance 0) true) ≡ false →
    Stands (of_traces traces) (step (of_traces traces) v (Advance 0) false) (replicate 5 0) one_read new
advances traces v t old new at running is_length steps none never =
    stands-quiet (of_traces traces) v (replicate 5 0) one_read (Advance 0) t old new at (steps (of_traces traces) v (record { of = at.of; lets = running }) is_length) none never

pub disk-at : (job : Job) (v : View) (writes : List ℕ) (calls : Calls) (h : Source) → Stands job v writes calls h → 0 < length v.disks → 0 < length h.disks
disk-at job v writes calls h at some = subst (λ (ds : List Disk). 0 < length ds) (sym (disks-at job v writes calls h at)) some

-- copied up to the first block, from the beginning
pub behind : (traces : List (List UnitOp)) (t u x : Turn) (h begun read new : Source) → h ≡ fresh small limits h.told h.faults → h.told.shape ≡ small → h.told.writes ≡ replicate 5 0 → h.told.counted ≡ Some (record { plan = no_plan; calls = no_calls }) →
    ((job : Job) (v : View) → Allows job v (Begin 0) h → StepsSource job v (Begin 0) t h begun) → MakesNoCall h begun →
    ((job : Job) (v : View) → Allows job v (Read 0) begun → StepsSource job v (Read 0) u begun read) → MakesCall (unit_read begun.shape (next_unit begun 0)) u begun read →
    ((job : Job) (v : View) → Allows job v (Advance 0) read → length v.history ≡ 0 → StepsSource job v (Advance 0) x read new) → MakesNoCall read new →
    Stands (of_traces traces) (at_behind traces) (replicate 5 0) one_read new
behind traces t u x h begun read new half laid written counted begin quiet reading called advance none =
    let first = begins traces t h begun (starts small limits traces h half laid written counted) begin quiet in
    let second = reads traces (at_begun traces) u (next_unit begun 0) (size begun.shape (next_unit begun 0)) begun read first refl reading called refl refl in
    advances traces (at_read traces) x read new second refl refl advance none refl

-- one guest whose write waits in the queue of the first disk
abbrev pub waiting : ℕ → List (List UnitOp)
waiting byte = (over 1 byte ∷ []) ∷ []

abbrev pub at_queued : ℕ → View
at_queued byte = step (of_traces (waiting byte)) (at_begun (waiting byte)) (Guest (record { 0 = 0 })) false

pub queues : (byte : ℕ) (t u : Turn) (call : DeviceCall) (op : UnitOp) (h begun new : Source) → h ≡ fresh small limits h.told h.faults → h.told.shape ≡ small → h.told.writes ≡ replicate 5 0 → h.told.counted ≡ Some (record { plan = no_plan; calls = no_calls }) →
    ((job : Job) (v : View) → Allows job v (Begin 0) h → StepsSource job v (Begin 0) t h begun) → MakesNoCall h begun → op ≡ over 1 byte →
    ((job : Job) (v : View) → Allows job v (Guest (record { 0 = 0 })) begun → is_running v.phase ≡ true → next_operation job v 0 ≡ op → length v.history ≡ 0 → StepsSource job v (Guest (record { 0 = 0 })) u begun new) → MakesCall call u begun new →
    Stands (of_traces (waiting byte)) (at_queued byte) (replicate 5 0) no_calls new
queues byte t u call op h begun new half laid written counted begin quiet op_is guest called =
    let first = begins (waiting byte) t h begun (starts small limits (waiting byte) h half laid written counted) begin quiet in
    stands-uncalled (of_traces (waiting byte)) (at_begun (waiting byte)) (replicate 5 0) no_calls (Guest (record { 0 = 0 })) u call begun new first
    (guest (of_traces (waiting byte)) (at_begun (waiting byte)) (record { of = first.of; lets = refl }) refl (sym op_is) refl) called refl refl refl

-- the front of that queue
pub queue-at : (job : Job) (v : View) (writes : List ℕ) (calls : Calls) (h : Source) → Stands job v writes calls h → get_or h.disks 0 no_disk ≡ get_or v.disks 0 no_disk
queue-at job v writes calls h at = ap (λ (ds : List Disk). get_or ds 0 no_disk) (disks-at job v writes calls h at)

pub some-queued : (d e : Disk) → d ≡ e → 0 < length e.queue → 0 < length d.queue
some-queued d e is some = subst (λ (x : Disk). 0 < length x.queue) (sym is) some

pub front-queued : (d e : Disk) (op o : UnitOp) → d ≡ e → op ≡ o → writes_to o (front e).unit.0 ≡ true → writes_to op (front d).unit.0 ≡ true
front-queued d e op o is op_is writes = ap (λ (x : Disk). writes_to op (front x).unit.0) is ∙ ap (λ (y : UnitOp). writes_to y (front e).unit.0) op_is ∙ writes

pub block-over : (unit byte : ℕ) (s : Shape) (op : UnitOp) → s ≡ small → op ≡ over unit byte → is_page small unit ≡ false → is_page s op.unit.0 ≡ false
block-over unit byte s op is op_is block = ap (λ (x : Shape). is_page x op.unit.0) is ∙ ap (λ (o : UnitOp). is_page small o.unit.0) op_is ∙ block

-- a write that has waited until its block is behind
abbrev pub at_freed : ℕ → View
at_freed byte = step (of_traces (waiting byte)) (step (of_traces (waiting byte)) (at_queued byte) (Read 0) false) (Advance 0) false

pub reads-queued : (byte : ℕ) (t : Turn) (h new : Source) → Stands (of_traces (waiting byte)) (at_queued byte) (replicate 5 0) no_calls h →
    ((job : Job) (v : View) → Allows job v (Read 0) h → StepsSource job v (Read 0) t h new) → MakesCall (unit_read h.shape (next_unit h 0)) t h new →
    Stands (of_traces (waiting byte)) (step (of_traces (waiting byte)) (at_queued byte) (Read 0) false) (replicate 5 0) one_read new
reads-queued byte t h new at steps called =
    reads (waiting byte) (at_queued byte) t (next_unit h 0) (size h.shape (next_unit h 0)) h new at refl steps called refl refl

pub frees : (byte : ℕ) (t u : Turn) (h read new : Source) → Stands (of_traces (waiting byte)) (at_queued byte) (replicate 5 0) no_calls h →
    ((job : Job) (v : View) → Allows job v (Read 0) h → StepsSource job v (Read 0) t h read) → MakesCall (unit_read h.shape (next_unit h 0)) t h read →
    ((job : Job) (v : View) → Allows job v (Advance 0) read → length v.history ≡ 0 → StepsSource job v (Advance 0) u read new) → MakesNoCall read new →
    Stands (of_traces (waiting byte)) (at_freed byte) (replicate 5 0) one_read new
frees byte t u h read new at steps called advance none =
    advances (waiting byte) (step (of_traces (waiting byte)) (at_queued byte) (Read 0) false) u read new (reads-queued byte t h read at steps called) refl refl advance none refl

-- a stream on which nothing is has room for the greatest group of such messages
pub batch-fits : (format most : ℕ) (h : Source) (l : LaneSeen) → IsMost format most → h.shape ≡ small → l.groups ≡ [] → l.wire.capacity ≡ 960 → HasRoomFor h.shape format (batch_of format most h) l
batch-fits format most h l (inl one) is none capacity =
    let P : ℕ → Type 0 = λ f. HasRoomFor h.shape f (batch_of f most h) l in
    subst P (sym one.0) (subst (λ (s : Shape). HasRoomFor s 1 (batch_of 1 most h) l) (sym is)
    (subst (λ (gs : List (List Message)). (length (joined gs) + 1) * 40 ≤ l.wire.capacity) (sym none) (subst (λ (n : ℕ). 40 ≤ n) (sym capacity) (lit≤ tt))))
batch-fits format most h l (inr more) is none capacity =
    let P : ℕ → Type 0 = λ f. HasRoomFor h.shape f (batch_of f most h) l in
    let few : min most (min (length h.messages) h.credit) ≤ 16 = omega (arith, more.2) in
    subst P (sym more.0) (subst (λ (s : Shape). HasRoomFor s 2 (batch_of 2 most h) l) (sym is)
    (subst (λ (gs : List (List Message)). (length (joined gs) + min most (min (length h.messages) h.credit)) * 60 ≤ l.wire.capacity) (sym none) (omega arith)))
