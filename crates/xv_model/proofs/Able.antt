-- When each event acts, from plain facts; and what some event's acting means.
use Rattle.std.specs.Prelude.{◌≡◌, ◌≤◌, ◌<◌, ℕ, ◌==◌, ◌&&◌, ◌||◌, not, nat_lt, nat_le, Bool, true, false, length, Option, None}
use Rattle.std.proofs.Common.{arith, refl, inl, inr}
use Rattle.std.proofs.lemmas.Bool.{and_left, and_right, and_from, or_from, or_right, cases_lt, lt-ltb, le-ltb, lt-leb, le-leb, eq-eqb, ne_eqb, not_from_true}
use Rattle.xv_model.specs.Job.{Job, UnitOp, block_of, blocks, trace, guest_count}
use Rattle.xv_model.specs.Guest.{ended}
use Rattle.xv_model.specs.View.{View, disk, front, is_empty, is_empty_set, is_running, is_stunned, is_live, is_inside, is_copied, all_copied, queues_empty, in_queue, members, stream, is_ready}
use Rattle.xv_model.specs.Wait.{Event, Why, aim, is_mirror, next_operation, next_aim, has_cancel, is_before, cancel_due, is_full, room, unless, may_begin_round, may_stun, may_switch, wait, fits}
use Rattle.xv_base.specs.declared.answer.Why.TheVariants.{TraceEnd, InQueue, CancelDue, Stunned as StunWait, Throttled, NoCredit, NothingThere, NotNow}
use Rattle.xv_base.specs.declared.event.Event.TheVariants.{Guest, Begin, Read, Advance, Release, Round, Page, Send, Deliver, Apply, Ack, Credit, Stun, Switch, Cancel}

-- some event of the job goes on
pub record SomeActs (job : Job) (v : View) : Type 0 where
  pub event : Event
  pub fitting : fits job event ≡ true
  pub acts : wait job v event false ≡ None

passes : (b : Bool) (why : Why) (later : Option Why) → b ≡ false → later ≡ None → unless b why later ≡ None
passes true why later e l = absurd (cc)
passes false why later e l = l

two_pass : (a b : Bool) (s t : Why) → a ≡ false → b ≡ false → unless a s (unless b t None) ≡ None
two_pass a b s t e f = passes a s (unless b t None) e (passes b t None f refl)

three_pass : (a b c : Bool) (s t u : Why) → a ≡ false → b ≡ false → c ≡ false → unless a s (unless b t (unless c u None)) ≡ None
three_pass a b c s t u e f g = passes a s (unless b t (unless c u None)) e (two_pass b c t u f g)

four_pass : (a b c d : Bool) (s t u w : Why) → a ≡ false → b ≡ false → c ≡ false → d ≡ false → unless a s (unless b t (unless c u (unless d w None))) ≡ None
four_pass a b c d s t u w e f g h = passes a s (unless b t (unless c u (unless d w None))) e (three_pass b c d t u w f g h)

five_pass : (a b c d i : Bool) (s t u w z : Why) → a ≡ false → b ≡ false → c ≡ false → d ≡ false → i ≡ false → unless a s (unless b t (unless c u (unless d w (unless i z None)))) ≡ None
five_pass a b c d i s t u w z e f g h k = passes a s (unless b t (unless c u (unless d w (unless i z None)))) e (four_pass b c d i t u w z f g h k)

none_of_three : (a b c : Bool) → a ≡ false → b ≡ false → c ≡ false → (a || b || c) ≡ false
none_of_three a b c e f g = rw (e, f, g) refl

all_three : (a b c : Bool) → a ≡ true → b ≡ true → c ≡ true → (a && b && c) ≡ true
all_three a b c e f g = rw (e, f, g) refl

all_five : (a b c d i : Bool) → a ≡ true → b ≡ true → c ≡ true → d ≡ true → i ≡ true → (a && b && c && d && i) ≡ true
all_five a b c d i e f g h k = rw (e, f, g, h, k) refl

not_full : (job : Job) (v : View) → length v.outbox.messages < job.config.outbox → is_full job v ≡ false
not_full job v lt = lt-leb job.config.outbox (length v.outbox.messages) lt

pub guest_acts : (job : Job) (v : View) (g : ℕ) → g < guest_count job → ended v.history g < length (trace job g) → in_queue v.disks g ≡ false → cancel_due job v ≡ false → is_stunned v.phase ≡ false → (is_mirror (next_aim job v g) && is_full job v) ≡ false → SomeActs job v
guest_acts job v g there more queue due stunned room = record {
  event = Guest (record { 0 = g });
  fitting = lt-ltb g (guest_count job) there;
  acts = five_pass (nat_le (length (trace job g)) (ended v.history g)) (in_queue v.disks g) (cancel_due job v) (is_stunned v.phase) (is_mirror (next_aim job v g) && is_full job v) TraceEnd InQueue CancelDue StunWait Throttled
      (lt-leb (length (trace job g)) (ended v.history g) more) queue due stunned room;
}

-- a guest that may write where the outbox has room
pub guest_acts_with_room : (job : Job) (v : View) (g : ℕ) → g < guest_count job → ended v.history g < length (trace job g) → in_queue v.disks g ≡ false → cancel_due job v ≡ false → is_stunned v.phase ≡ false → length v.outbox.messages < job.config.outbox → SomeActs job v
guest_acts_with_room job v g there more queue due stunned room = guest_acts job v g there more queue due stunned (and_right (is_mirror (next_aim job v g)) (is_full job v) (not_full job v room))

-- where the guest does not run, nothing is mirrored
no_mirror : (job : Job) (v : View) (op : UnitOp) → is_running v.phase ≡ false → is_mirror (aim job v op) ≡ false
no_mirror job v op e = rw e refl

pub guest_acts_alone : (job : Job) (v : View) (g : ℕ) → g < guest_count job → ended v.history g < length (trace job g) → in_queue v.disks g ≡ false → cancel_due job v ≡ false → is_stunned v.phase ≡ false → is_running v.phase ≡ false → SomeActs job v
guest_acts_alone job v g there more queue due stunned still = guest_acts job v g there more queue due stunned (and_left (is_mirror (next_aim job v g)) (is_full job v) (no_mirror job v (next_operation job v g) still))

pub begin_acts : (job : Job) (v : View) (d : ℕ) → d < length job.copy.disks → is_running v.phase ≡ true → is_copied (blocks job.copy.disks d) (disk v d) ≡ false → (disk v d).region ≡ 0 → is_empty (disk v d).queue ≡ true → SomeActs job v
begin_acts job v d there running copied region queue = record {
  event = Begin d;
  fitting = lt-ltb d (length job.copy.disks) there;
  acts = two_pass (not (is_running v.phase)) (is_copied (blocks job.copy.disks d) (disk v d) || not ((disk v d).region == 0) || not (is_empty (disk v d).queue)) NotNow NotNow
      (not_from_true _ running)
      (none_of_three (is_copied (blocks job.copy.disks d) (disk v d)) (not ((disk v d).region == 0)) (not (is_empty (disk v d).queue)) copied (not_from_true _ (eq-eqb (disk v d).region 0 region)) (not_from_true _ queue));
}

pub read_acts : (job : Job) (v : View) (d : ℕ) → d < length job.copy.disks → is_running v.phase ≡ true → (disk v d).got < (disk v d).region → SomeActs job v
read_acts job v d there running more = record {
  event = Read d;
  fitting = lt-ltb d (length job.copy.disks) there;
  acts = two_pass (not (is_running v.phase)) (nat_le (disk v d).region (disk v d).got) NotNow NotNow (not_from_true _ running) (lt-leb (disk v d).region (disk v d).got more);
}

pub advance_acts : (job : Job) (v : View) (d : ℕ) → d < length job.copy.disks → is_running v.phase ≡ true → 0 < (disk v d).region → (disk v d).region ≤ (disk v d).got → (disk v d).region ≤ room job v → SomeActs job v
advance_acts job v d there running some all fitting = record {
  event = Advance d;
  fitting = lt-ltb d (length job.copy.disks) there;
  acts = three_pass (not (is_running v.phase)) (((disk v d).region == 0) || nat_lt (disk v d).got (disk v d).region) (nat_lt (room job v) (disk v d).region) NotNow NotNow Throttled
      (not_from_true _ running)
      (or_from ((disk v d).region == 0) (nat_lt (disk v d).got (disk v d).region) (ne_eqb (disk v d).region 0 (omega (arith, some))) (le-ltb (disk v d).got (disk v d).region all))
      (le-ltb (room job v) (disk v d).region fitting);
}

-- a region can be read on or given up as behind, where the outbox has room for it
pub region_acts : (job : Job) (v : View) (d : ℕ) → d < length job.copy.disks → is_running v.phase ≡ true → 0 < (disk v d).region → (disk v d).region ≤ room job v → SomeActs job v
region_acts job v d there running some fitting = elim (cases_lt (disk v d).got (disk v d).region) [
  | inl more ↦ read_acts job v d there running more
  | inr all ↦ advance_acts job v d there running some all fitting
]

pub release_acts : (job : Job) (v : View) (d : ℕ) → d < length job.copy.disks → is_empty (disk v d).queue ≡ false → cancel_due job v ≡ false → (is_running v.phase && is_inside (disk v d) (block_of job.copy (front (disk v d)).unit.0)) ≡ false → (is_running v.phase && is_full job v) ≡ false → SomeActs job v
release_acts job v d there queue due inside room = record {
  event = Release d;
  fitting = lt-ltb d (length job.copy.disks) there;
  acts = four_pass (is_empty (disk v d).queue) (cancel_due job v) (is_running v.phase && is_inside (disk v d) (block_of job.copy (front (disk v d)).unit.0)) (is_running v.phase && is_full job v) NothingThere CancelDue NotNow Throttled queue due inside room;
}

pub release_acts_alone : (job : Job) (v : View) (d : ℕ) → d < length job.copy.disks → is_empty (disk v d).queue ≡ false → cancel_due job v ≡ false → is_running v.phase ≡ false → SomeActs job v
release_acts_alone job v d there queue due still = release_acts job v d there queue due (and_left (is_running v.phase) _ still) (and_left (is_running v.phase) (is_full job v) still)

pub release_acts_with_room : (job : Job) (v : View) (d : ℕ) → d < length job.copy.disks → is_empty (disk v d).queue ≡ false → cancel_due job v ≡ false → is_inside (disk v d) (block_of job.copy (front (disk v d)).unit.0) ≡ false → length v.outbox.messages < job.config.outbox → SomeActs job v
release_acts_with_room job v d there queue due inside room = release_acts job v d there queue due (and_right (is_running v.phase) _ inside) (and_right (is_running v.phase) (is_full job v) (not_full job v room))

pub page_acts : (job : Job) (v : View) → is_live v.phase ≡ true → is_empty_set v.to_send ≡ false → length v.outbox.messages < job.config.outbox → SomeActs job v
page_acts job v live some room = record {
  event = Page;
  fitting = refl;
  acts = three_pass (not (is_live v.phase)) (is_empty_set v.to_send) (is_full job v) NotNow NothingThere Throttled (not_from_true _ live) some (not_full job v room);
}

pub round_acts : (job : Job) (v : View) → is_running v.phase ≡ true → is_empty_set v.to_send ≡ true → all_copied job v ≡ true → v.rounds < job.config.rounds → SomeActs job v
round_acts job v running none copied more = record {
  event = Round;
  fitting = refl;
  acts = two_pass (not (is_running v.phase)) (not (may_begin_round job v)) NotNow NotNow (not_from_true _ running)
      (not_from_true _ (and_from (is_empty_set v.to_send) _ none (rw copied (lt-ltb v.rounds job.config.rounds more))));
}

pub send_acts : (job : Job) (v : View) (s : ℕ) → s < job.config.streams → is_live v.phase ≡ true → is_empty v.outbox.messages ≡ false → 0 < v.credit → SomeActs job v
send_acts job v s there live some credit = record {
  event = Send s;
  fitting = lt-ltb s job.config.streams there;
  acts = three_pass (not (is_live v.phase)) (is_empty v.outbox.messages) (v.credit == 0) NotNow NothingThere NoCredit (not_from_true _ live) some (ne_eqb v.credit 0 (omega (arith, credit)));
}

pub deliver_acts : (job : Job) (v : View) (s : ℕ) → s < job.config.streams → is_live v.phase ≡ true → is_empty (stream v s) ≡ false → SomeActs job v
deliver_acts job v s there live some = record {
  event = Deliver s;
  fitting = lt-ltb s job.config.streams there;
  acts = two_pass (not (is_live v.phase)) (is_empty (stream v s)) NotNow NothingThere (not_from_true _ live) some;
}

pub apply_acts : (job : Job) (v : View) → is_live v.phase ≡ true → is_ready v.hold ≡ true → SomeActs job v
apply_acts job v live ready = record {
  event = Apply;
  fitting = refl;
  acts = two_pass (not (is_live v.phase)) (not (is_ready v.hold)) NotNow NothingThere (not_from_true _ live) (not_from_true _ ready);
}

pub ack_acts : (job : Job) (v : View) → is_live v.phase ≡ true → 0 < v.freed → SomeActs job v
ack_acts job v live some = record {
  event = Ack;
  fitting = refl;
  acts = two_pass (not (is_live v.phase)) (v.freed == 0) NotNow NothingThere (not_from_true _ live) (ne_eqb v.freed 0 (omega (arith, some)));
}

pub credit_acts : (job : Job) (v : View) → is_live v.phase ≡ true → is_empty v.acks ≡ false → SomeActs job v
credit_acts job v live some = record {
  event = Credit;
  fitting = refl;
  acts = two_pass (not (is_live v.phase)) (is_empty v.acks) NotNow NothingThere (not_from_true _ live) some;
}

pub stun_acts : (job : Job) (v : View) → is_running v.phase ≡ true → is_before job.config.cancel (length v.history) ≡ false → all_copied job v ≡ true → queues_empty v.disks ≡ true → is_empty_set v.to_send ≡ true → 0 < v.rounds → job.config.rounds ≤ v.rounds → SomeActs job v
stun_acts job v running before copied queues none some last =
    let few_or_last = or_right (nat_le (members v.dirty) job.config.dirty) (nat_le job.config.rounds v.rounds) (le-leb job.config.rounds v.rounds last) in
    record {
      event = Stun;
      fitting = refl;
      acts = three_pass (not (is_running v.phase)) (is_before job.config.cancel (length v.history)) (not (may_stun job v)) NotNow CancelDue NotNow (not_from_true _ running) before
          (not_from_true _ (all_five (all_copied job v) (queues_empty v.disks) (is_empty_set v.to_send) (nat_lt 0 v.rounds) (nat_le (members v.dirty) job.config.dirty || nat_le job.config.rounds v.rounds) copied queues none (lt-ltb 0 v.rounds some) few_or_last));
    }

pub switch_acts : (job : Job) (v : View) → is_stunned v.phase ≡ true → has_cancel job ≡ false → is_empty_set v.to_send ≡ true → is_empty v.outbox.messages ≡ true → job.config.credit ≤ v.credit → SomeActs job v
switch_acts job v stunned cancel none sent back = record {
  event = Switch;
  fitting = refl;
  acts = three_pass (not (is_stunned v.phase)) (has_cancel job) (not (may_switch job v)) NotNow CancelDue NotNow (not_from_true _ stunned) cancel
      (not_from_true _ (all_three (is_empty_set v.to_send) (is_empty v.outbox.messages) (nat_le job.config.credit v.credit) none sent (le-leb job.config.credit v.credit back)));
}

pub cancel_acts : (job : Job) (v : View) → cancel_due job v ≡ true → SomeActs job v
cancel_acts job v due = record {
  event = Cancel;
  fitting = refl;
  acts = passes (not (cancel_due job v)) NotNow None (not_from_true _ due) refl;
}
