-- Each side has written a unit as often as the history says: one lemma a step, and an induction over the journal.
use Rattle.std.specs.Prelude.{◌≡◌, ◌≤◌, ◌<◌, ℕ, ◌+◌, ◌-◌, ◌==◌, ◌&&◌, ◌||◌, not, Bool, true, false, List, [], ◌∷◌, ◌++◌, length, set, replicate, unwrap_or, Option, Some, None, is_some, count_by, if◌then◌else◌}
use Rattle.std.specs.List.{list_all}
use Rattle.std.proofs.Common.{arith, refl, ap, sym, ◌∙◌, inl, inr}
use Rattle.std.proofs.lemmas.Bool.{and_parts, cases_eq, eq-eqb, ne_eqb}
use Rattle.std.proofs.lemmas.List.{length_push, get_or-set_same, get_or-set_other}
use Rattle.std.proofs.lemmas.List.Sums.{sum_by-append}
use Rattle.xv_model.specs.Job.{Job, IsGoodJob, operation, unit_count}
use Rattle.xv_model.specs.Guest.{Ended, ended, writes, writes_to, is_done}
use Rattle.xv_model.specs.View.{View, first_view, number, is_switched, is_stunned, is_live, disk, front, ready_message}
use Rattle.xv_model.specs.Wait.{Event, Why, Aim, Alone, Store, Join, Mirror, wait, fits, next_operation, next_aim, is_join}
use Rattle.xv_model.specs.Effect.{effect, fault_effect, guest_by, ended_as, given_up, released, applied_next, switched}
use Rattle.xv_model.specs.Step.{Entry, Call, step, turn, turn_by, view_by, breaks, is_call, is_wait, is_flagged, same_turn, after, run, is_run, is_run_from}
use Rattle.xv_model.specs.Report.{source_length}
use Rattle.xv_model.specs.Invariant.{IsViewOf}
use Rattle.xv_model.specs.Contents.{front_operation}
use Rattle.xv_model.specs.Outside.{Outside, Part, ReadSource, WriteSource, ReadDest, WriteDest, kind, part_of, guest_outside, outside, unless_failed, calls_made_from, is_source_write, is_dest_write, source_writes, dest_writes}
use Rattle.xv_base.specs.declared.operation.Outcome.TheVariants.{Done, Faulted}
use Rattle.xv_base.specs.declared.event.Event.TheVariants.{Guest, Begin, Read, Advance, Release, Round, Page, Send, Deliver, Apply, Ack, Credit, Stun, Switch, Cancel}
use Rattle.xv_base.specs.declared.event.Phase.TheVariants.{Cancelled, Failed}
use Rattle.xv_model.proofs.GoesOn.{begin_goes, read_goes, advance_goes, release_goes, round_goes, page_goes, send_goes, deliver_goes, apply_goes, ack_goes, credit_goes, stun_goes, switch_goes, cancel_goes, running_is_live, stunned_is_live, live_not_switched}
use Rattle.xv_model.proofs.Histories.{push, writes-push_before, writes-push_at, writes-mono}
use Rattle.xv_model.proofs.Bags.{ready-next}
use Rattle.xv_model.proofs.First.{first_view-holds, number-none}
use Rattle.xv_model.proofs.Kept.{step-holds}
use Rattle.xv_model.proofs.Legal.{front_writes, waiting_not_quiet}
use Rattle.xv_model.proofs.Bound.Runs.{agrees-goes}
use Rattle.xv_model.proofs.Outside.Calls.{kind-call, ready_unit}

-- how often each side has written a unit, by the view
abbrev source_count : Job → View → ℕ → ℕ
source_count job v unit = writes job v.history unit (source_length v)

abbrev dest_count : Job → View → ℕ → ℕ
dest_count job v unit = number v.hold.applied unit + (writes job v.history unit (length v.history) - writes job v.history unit (source_length v))

-- from one view to the next the counts grow by these numbers
record Grows (job : Job) (v w : View) (unit source dest : ℕ) : Type 0 where
  source_is : source_count job w unit ≡ source_count job v unit + source
  dest_is : dest_count job w unit ≡ dest_count job v unit + dest

none_more : (n : ℕ) → n ≡ n + 0
none_more n = omega arith

-- where both views are before the switchover, with one history
before_switch : (job : Job) (h : List Ended) (unit a : ℕ) (s : Bool) (k : ℕ) → s ≡ false →
    (writes job h unit (length h) ≡ writes job h unit (if s then k else length h) + 0)
    × (a + (writes job h unit (length h) - writes job h unit (length h)) ≡ a + (writes job h unit (length h) - writes job h unit (if s then k else length h)) + 0)
before_switch job h unit a true k e = absurd (cc)
before_switch job h unit a false k e = (none_more _, none_more _)

-- one entry more in the history
pushed_by : (job : Job) (h : List Ended) (e : Ended) (unit a : ℕ) (s : Bool) (k n : ℕ) → (s ≡ true → k ≤ length h) → n ≡ (if is_done e.outcome && writes_to (operation job e.guest.0 (ended h e.guest.0)) unit then 1 else 0) →
    (writes job (push h e) unit (if s then k else length (push h e)) ≡ writes job h unit (if s then k else length h) + (if s then 0 else n))
    × (a + (writes job (push h e) unit (length (push h e)) - writes job (push h e) unit (if s then k else length (push h e))) ≡ a + (writes job h unit (length h) - writes job h unit (if s then k else length h)) + (if s then n else 0))
pushed_by job h e unit a true k n le is =
    let total = ap (writes job (push h e) unit) (length_push h e) ∙ writes-push_at job h e unit in
    let same = writes-push_before job h e unit k (le refl) in
    let more = writes-mono job h unit k (length h) (le refl) in
    (omega (arith, same), omega (arith, total, same, more, is))
pushed_by job h e unit a false k n le is =
    let total = ap (writes job (push h e) unit) (length_push h e) ∙ writes-push_at job h e unit in
    (omega (arith, total, is), omega arith)

-- at the stun the history was no longer than it is
either_true : (a b : Bool) → b ≡ true → (a || b) ≡ true
either_true true b h = refl
either_true false b h = h

stun_within : (job : Job) (v : View) → IsViewOf job v → is_switched v.phase ≡ true → unwrap_or v.stun 0 ≤ length v.history
stun_within job v inv on =
    let at : unwrap_or v.stun 0 ≡ v.mark = ap (λ (o : Option ℕ). unwrap_or o 0) (inv.quiet.has_stun (either_true (is_stunned v.phase) (is_switched v.phase) on)) in
    omega (arith, at, inv.history.mark_within)

-- what counts, and what does not
abbrev bit : Bool → ℕ
bit b = if b then 1 else 0

none_if : (s : Bool) (n : ℕ) → n ≡ 0 → (if s then 0 else n) ≡ 0
none_if true n e = refl
none_if false n e = e

if_none : (s : Bool) (n : ℕ) → n ≡ 0 → (if s then n else 0) ≡ 0
if_none true n e = e
if_none false n e = refl

-- a guest's call that is made counts as its entry does, on the side that it is made on
bit_source : (s w : Bool) (p : Part) (unit : ℕ) → bit (is_source_write unit (if s then (if w then WriteDest p else ReadDest p) else (if w then WriteSource p else ReadSource p))) ≡ (if s then 0 else bit (w && (p.unit == unit)))
bit_source true true p unit = refl
bit_source true false p unit = refl
bit_source false true p unit = refl
bit_source false false p unit = refl

bit_dest : (s w : Bool) (p : Part) (unit : ℕ) → bit (is_dest_write unit (if s then (if w then WriteDest p else ReadDest p) else (if w then WriteSource p else ReadSource p))) ≡ (if s then bit (w && (p.unit == unit)) else 0)
bit_dest true true p unit = refl
bit_dest true false p unit = refl
bit_dest false true p unit = refl
bit_dest false false p unit = refl

-- a view whose history has one entry more
guest_pushes : (job : Job) (v : View) (g : ℕ) (unit : ℕ) → IsViewOf job v →
    Grows job v (guest_by job v g (next_operation job v g) Alone) unit
    (bit (is_source_write unit (guest_outside false (is_switched v.phase) (next_operation job v g)))) (bit (is_dest_write unit (guest_outside false (is_switched v.phase) (next_operation job v g))))
guest_pushes job v g unit inv =
    let op = next_operation job v g in
    let s = is_switched v.phase in
    let p = pushed_by job v.history (record { guest = record { 0 = g }; outcome = Done }) unit (number v.hold.applied unit) s (unwrap_or v.stun 0) (bit (writes_to op unit)) (stun_within job v inv) refl in
    record {
      source_is = p.0 ∙ ap (λ (n : ℕ). source_count job v unit + n) (sym (bit_source s (is_some op.write) (part_of op) unit));
      dest_is = p.1 ∙ ap (λ (n : ℕ). dest_count job v unit + n) (sym (bit_dest s (is_some op.write) (part_of op) unit));
    }

guest_grows : (job : Job) (v : View) (g : ℕ) (a : Aim) (unit : ℕ) → IsViewOf job v →
    Grows job v (guest_by job v g (next_operation job v g) a) unit
    (bit (is_source_write unit (guest_outside (is_join a) (is_switched v.phase) (next_operation job v g)))) (bit (is_dest_write unit (guest_outside (is_join a) (is_switched v.phase) (next_operation job v g))))
guest_grows job v g Join unit inv = record { source_is = none_more (source_count job v unit); dest_is = none_more (dest_count job v unit) }
guest_grows job v g Alone unit inv = guest_pushes job v g unit inv
guest_grows job v g Store unit inv = let same = guest_pushes job v g unit inv in record { source_is = same.source_is; dest_is = same.dest_is }
guest_grows job v g Mirror unit inv = let same = guest_pushes job v g unit inv in record { source_is = same.source_is; dest_is = same.dest_is }

-- a call that failed leaves an entry that counts for nothing
faulted_pushes : (job : Job) (v : View) (g : ℕ) (unit : ℕ) → IsViewOf job v → Grows job v (ended_as v g Faulted) unit 0 0
faulted_pushes job v g unit inv =
    let s = is_switched v.phase in
    let p = pushed_by job v.history (record { guest = record { 0 = g }; outcome = Faulted }) unit (number v.hold.applied unit) s (unwrap_or v.stun 0) 0 (stun_within job v inv) refl in
    record {
      source_is = p.0 ∙ ap (λ (n : ℕ). source_count job v unit + n) (none_if s 0 refl);
      dest_is = p.1 ∙ ap (λ (n : ℕ). dest_count job v unit + n) (if_none s 0 refl);
    }

-- a write that waited is made on the source
not_switched : (a b : Bool) → (a || b) ≡ false → b ≡ false
not_switched true b e = absurd (cc)
not_switched false b e = e

source_only : (s : Bool) (n : ℕ) → s ≡ false → ((if s then 0 else n) ≡ n) × ((if s then n else 0) ≡ 0)
source_only true n e = absurd (cc)
source_only false n e = (refl, refl)

released_grows : (job : Job) (v : View) (d : ℕ) (unit : ℕ) → IsViewOf job v → 0 < length (disk v d).queue → Grows job v (released v d) unit (bit ((front_operation job v d).unit.0 == unit)) 0
released_grows job v d unit inv some =
    let op = front_operation job v d in
    let s = is_switched v.phase in
    let off = not_switched (is_stunned v.phase) s (waiting_not_quiet job v d inv some) in
    let writes_some = (and_parts (is_some op.write) (op.unit.0 == (front (disk v d)).unit.0) (front_writes job v d inv some)).0 in
    let is : bit (op.unit.0 == unit) ≡ bit (writes_to op unit) = ap (λ (b : Bool). bit (b && (op.unit.0 == unit))) (sym writes_some) in
    let p = pushed_by job v.history (record { guest = (front (disk v d)).guest; outcome = Done }) unit (number v.hold.applied unit) s (unwrap_or v.stun 0) (bit (op.unit.0 == unit)) (stun_within job v inv) is in
    let one = source_only s (bit (op.unit.0 == unit)) off in
    record {
      source_is = p.0 ∙ ap (λ (n : ℕ). source_count job v unit + n) one.0;
      dest_is = p.1 ∙ ap (λ (n : ℕ). dest_count job v unit + n) one.1;
    }

-- the ready message is written on the destination
applied_one : (numbers : List ℕ) (u unit new : ℕ) → u < length numbers → new ≡ number numbers u + 1 → number (set numbers u new) unit ≡ number numbers unit + bit (u == unit)
applied_one numbers u unit new lt is = elim (cases_eq u unit) [
  | inl e ↦
      let there : number (set numbers u new) unit ≡ new = ap (number (set numbers u new)) (sym e) ∙ get_or-set_same numbers u new 0 lt in
      let old : number numbers unit ≡ number numbers u = ap (number numbers) (sym e) in
      let one : bit (u == unit) ≡ 1 = ap bit (eq-eqb u unit e) in
      omega (arith, there, old, one, is)
  | inr other ↦
      let there : number (set numbers u new) unit ≡ number numbers unit = get_or-set_other numbers u unit new 0 (λ e. other (sym e)) in
      let none : bit (u == unit) ≡ 0 = ap bit (ne_eqb u unit other) in
      omega (arith, there, none)
]

applied_grows : (job : Job) (v : View) (flag : Bool) (unit : ℕ) → IsViewOf job v → wait job v Apply flag ≡ None → Grows job v (applied_next v) unit 0 (bit ((ready_message v.hold).unit.0 == unit))
applied_grows job v flag unit inv w =
    let m = ready_message v.hold in
    let in_list : m.unit.0 < length v.hold.applied = omega (arith, ready_unit job v flag inv w, inv.lists.applied) in
    let one = applied_one v.hold.applied m.unit.0 unit m.version in_list (ready-next v.hold (apply_goes job v flag w).ready) in
    record { source_is = none_more (source_count job v unit); dest_is = omega (arith, one) }

-- giving up, stunning and switching leave both counts
gives_up : (job : Job) (v : View) (unit : ℕ) → is_live v.phase ≡ true → Grows job v (given_up v Failed) unit 0 0
gives_up job v unit live =
    let same = before_switch job v.history unit (number v.hold.applied unit) (is_switched v.phase) (unwrap_or v.stun 0) (live_not_switched v.phase live) in
    record { source_is = same.0; dest_is = same.1 }

cancels : (job : Job) (v : View) (unit : ℕ) → is_live v.phase ≡ true → Grows job v (given_up v Cancelled) unit 0 0
cancels job v unit live = let same = gives_up job v unit live in record { source_is = same.source_is; dest_is = same.dest_is }

stuns : (job : Job) (v : View) (unit : ℕ) → is_live v.phase ≡ true → Grows job v (effect job v Stun) unit 0 0
stuns job v unit live = let same = gives_up job v unit live in record { source_is = same.source_is; dest_is = same.dest_is }

switches : (job : Job) (v : View) (unit : ℕ) → IsViewOf job v → is_stunned v.phase ≡ true → Grows job v (switched v) unit 0 0
switches job v unit inv stopped =
    let live = stunned_is_live v.phase stopped in
    let at : unwrap_or v.stun 0 ≡ length v.history = ap (λ (o : Option ℕ). unwrap_or o 0) (inv.quiet.has_stun (first_true (is_stunned v.phase) (is_switched v.phase) stopped)) ∙ inv.history.marked live in
    let same = before_switch job v.history unit (number v.hold.applied unit) (is_switched v.phase) (unwrap_or v.stun 0) (live_not_switched v.phase live) in
    record {
      source_is = ap (writes job v.history unit) at ∙ same.0;
      dest_is = ap (λ (n : ℕ). number v.hold.applied unit + (writes job v.history unit (length v.history) - writes job v.history unit n)) at ∙ same.1;
    }
  where
    first_true : (a b : Bool) → a ≡ true → (a || b) ≡ true
    first_true true b h = refl
    first_true false b h = absurd (cc)

-- an event that goes on, and one whose call fails
stays : (job : Job) (v w : View) (unit : ℕ) → source_count job w unit ≡ source_count job v unit → dest_count job w unit ≡ dest_count job v unit → Grows job v w unit 0 0
stays job v w unit s d = record { source_is = omega (arith, s); dest_is = omega (arith, d) }

went : (job : Job) (v : View) (e : Event) (flag : Bool) (unit : ℕ) → IsViewOf job v → wait job v e flag ≡ None → Grows job v (effect job v e) unit (bit (is_source_write unit (outside job v e))) (bit (is_dest_write unit (outside job v e)))
went job v (Guest g) flag unit inv w = guest_grows job v g.0 (next_aim job v g.0) unit inv
went job v (Begin d) flag unit inv w = stays job v (effect job v (Begin d)) unit refl refl
went job v (Read d) flag unit inv w = stays job v (effect job v (Read d)) unit refl refl
went job v (Advance d) flag unit inv w = stays job v (effect job v (Advance d)) unit refl refl
went job v (Release d) flag unit inv w = released_grows job v d unit inv (release_goes job v d flag w).some_queue
went job v Round flag unit inv w = stays job v (effect job v Round) unit refl refl
went job v Page flag unit inv w = stays job v (effect job v Page) unit refl refl
went job v (Send s) flag unit inv w = stays job v (effect job v (Send s)) unit refl refl
went job v (Deliver s) flag unit inv w = stays job v (effect job v (Deliver s)) unit refl refl
went job v Apply flag unit inv w = applied_grows job v flag unit inv w
went job v Ack flag unit inv w = stays job v (effect job v Ack) unit refl refl
went job v Credit flag unit inv w = stays job v (effect job v Credit) unit refl refl
went job v Stun flag unit inv w = stuns job v unit (running_is_live v.phase (stun_goes job v flag w).running)
went job v Switch flag unit inv w = switches job v unit inv (switch_goes job v flag w).stunned
went job v Cancel flag unit inv w = cancels job v unit (cancel_goes job v flag w).live

broke : (job : Job) (v : View) (e : Event) (flag : Bool) (unit : ℕ) → IsViewOf job v → wait job v e flag ≡ None → Grows job v (fault_effect v e) unit 0 0
broke job v (Guest g) flag unit inv w = faulted_pushes job v g.0 unit inv
broke job v (Release d) flag unit inv w = let same = faulted_pushes job v (front (disk v d)).guest.0 unit inv in record { source_is = same.source_is; dest_is = same.dest_is }
broke job v (Begin d) flag unit inv w = gives_up job v unit (running_is_live v.phase (begin_goes job v d flag w).running)
broke job v (Read d) flag unit inv w = gives_up job v unit (running_is_live v.phase (read_goes job v d flag w).running)
broke job v (Advance d) flag unit inv w = gives_up job v unit (running_is_live v.phase (advance_goes job v d flag w).running)
broke job v Round flag unit inv w = gives_up job v unit (running_is_live v.phase (round_goes job v flag w).running)
broke job v Page flag unit inv w = gives_up job v unit (page_goes job v flag w).live
broke job v (Send s) flag unit inv w = gives_up job v unit (send_goes job v s flag w).live
broke job v (Deliver s) flag unit inv w = gives_up job v unit (deliver_goes job v s flag w).live
broke job v Apply flag unit inv w = gives_up job v unit (apply_goes job v flag w).live
broke job v Ack flag unit inv w = gives_up job v unit (ack_goes job v flag w).live
broke job v Credit flag unit inv w = gives_up job v unit (credit_goes job v flag w).live
broke job v Stun flag unit inv w = gives_up job v unit (running_is_live v.phase (stun_goes job v flag w).running)
broke job v Switch flag unit inv w = gives_up job v unit (stunned_is_live v.phase (switch_goes job v flag w).stunned)
broke job v Cancel flag unit inv w = gives_up job v unit (cancel_goes job v flag w).live

-- what an entry adds to a count of the calls made
no_source_write : (unit : ℕ) (o : Outside) → is_call (kind o) ≡ false → is_source_write unit o ≡ false
no_source_write unit (WriteSource p) e = absurd (cc)
no_source_write unit o e = refl

no_dest_write : (unit : ℕ) (o : Outside) → is_call (kind o) ≡ false → is_dest_write unit o ≡ false
no_dest_write unit (WriteDest p) e = absurd (cc)
no_dest_write unit o e = refl

counts_by : (test : Outside → Bool) (o : Outside) (failed c : Bool) → (c ≡ false → test o ≡ false) → (failed && c) ≡ false → count_by test (if failed || not c then [] else o ∷ []) ≡ bit (test o)
counts_by test o true true none e = absurd (cc)
counts_by test o true false none e = rw (none refl) refl
counts_by test o false true none e = omega arith
counts_by test o false false none e = rw (none refl) refl

counts_none : (test : Outside → Bool) (o : Outside) (failed c : Bool) → (failed && c) ≡ true → count_by test (if failed || not c then [] else o ∷ []) ≡ 0
counts_none test o true c e = refl
counts_none test o false c e = absurd (cc)

abbrev added : (Outside → Bool) → Job → View → Event → Bool → ℕ
added test job v e flag = count_by test (unless_failed flag (outside job v e))

-- one step
by_cases : (why : Option Why) (b : Bool) (job : Job) (v : View) (e : Event) (unit m n : ℕ) → why ≡ None → (b ≡ false → Grows job v (effect job v e) unit m n) → (b ≡ true → Grows job v (fault_effect v e) unit m n) → Grows job v (view_by why b job v e) unit m n
by_cases (Some why) b job v e unit m n h goes fails = absurd (cc)
by_cases None false job v e unit m n h goes fails = goes refl
by_cases None true job v e unit m n h goes fails = fails refl

step_grows : (job : Job) (v : View) (e : Event) (flag : Bool) (unit : ℕ) → IsViewOf job v → wait job v e flag ≡ None → Grows job v (step job v e flag) unit (added (is_source_write unit) job v e flag) (added (is_dest_write unit) job v e flag)
step_grows job v e flag unit inv w =
    let o = outside job v e in
    let breaks_is : (flag && is_call (kind o)) ≡ breaks job v e flag = ap (λ (c : Call). flag && is_call c) (kind-call job v e) in
    by_cases (wait job v e flag) (breaks job v e flag) job v e unit (added (is_source_write unit) job v e flag) (added (is_dest_write unit) job v e flag) w
    (λ b.
    let g = went job v e flag unit inv w in
    record {
      source_is = g.source_is ∙ ap (λ (n : ℕ). source_count job v unit + n) (sym (counts_by (is_source_write unit) o flag (is_call (kind o)) (no_source_write unit o) (breaks_is ∙ b)));
      dest_is = g.dest_is ∙ ap (λ (n : ℕ). dest_count job v unit + n) (sym (counts_by (is_dest_write unit) o flag (is_call (kind o)) (no_dest_write unit o) (breaks_is ∙ b)));
    })
    (λ b.
    let g = broke job v e flag unit inv w in
    record {
      source_is = g.source_is ∙ ap (λ (n : ℕ). source_count job v unit + n) (sym (counts_none (is_source_write unit) o flag (is_call (kind o)) (breaks_is ∙ b)));
      dest_is = g.dest_is ∙ ap (λ (n : ℕ). dest_count job v unit + n) (sym (counts_none (is_dest_write unit) o flag (is_call (kind o)) (breaks_is ∙ b)));
    })

-- a whole run
none_waits : (why : Option Why) (b : Bool) (job : Job) (v : View) (e : Event) → is_wait (turn_by why b job v e) ≡ false → why ≡ None
none_waits None b job v e h = refl
none_waits (Some why) b job v e h = absurd (cc)

journal_grows : (job : Job) (v : View) (es : List Entry) (unit : ℕ) → IsGoodJob job → list_all (λ (e : Entry). fits job e.event) es ≡ true → IsViewOf job v → is_run_from job v es ≡ true →
    Grows job v (after job v es) unit (count_by (is_source_write unit) (calls_made_from job v es)) (count_by (is_dest_write unit) (calls_made_from job v es))
journal_grows job v [] unit good f inv r = record { source_is = none_more (source_count job v unit); dest_is = none_more (dest_count job v unit) }
journal_grows job v (e ∷ es) unit good f inv r =
    let flag = is_flagged e.turn in
    let next = step job v e.event flag in
    let fit = and_parts (fits job e.event) (list_all (λ (x : Entry). fits job x.event) es) f in
    let runs = and_parts (same_turn e.turn (turn job v e.event flag)) (is_run_from job next es) r in
    let goes = none_waits (wait job v e.event flag) (breaks job v e.event flag) job v e.event (agrees-goes e.turn (turn job v e.event flag) runs.0) in
    let one = step_grows job v e.event flag unit inv goes in
    let rest = journal_grows job next es unit good fit.1 (step-holds job v e.event flag good fit.0 inv) runs.1 in
    let here = unless_failed flag (outside job v e.event) in
    let later = calls_made_from job next es in
    record {
      source_is = joined (source_count job v unit) (source_count job next unit) (source_count job (after job next es) unit) (added (is_source_write unit) job v e.event flag) (count_by (is_source_write unit) later) (count_by (is_source_write unit) (here ++ later)) one.source_is rest.source_is (sum_by-append (λ (o : Outside). bit (is_source_write unit o)) here later);
      dest_is = joined (dest_count job v unit) (dest_count job next unit) (dest_count job (after job next es) unit) (added (is_dest_write unit) job v e.event flag) (count_by (is_dest_write unit) later) (count_by (is_dest_write unit) (here ++ later)) one.dest_is rest.dest_is (sum_by-append (λ (o : Outside). bit (is_dest_write unit o)) here later);
    }
  where
    joined : (a b c m n k : ℕ) → b ≡ a + m → c ≡ b + n → k ≡ m + n → c ≡ a + k
    joined a b c m n k p q r = omega arith

pub source_counted : (job : Job) (journal : List Entry) (unit : ℕ) → IsGoodJob job → list_all (λ (e : Entry). fits job e.event) journal ≡ true → is_run job journal ≡ true → source_writes job journal unit ≡ source_count job (run job journal) unit
source_counted job journal unit good f r =
    let g = journal_grows job (first_view job) journal unit good f (first_view-holds job good) r in
    from_none (source_writes job journal unit) (source_count job (run job journal) unit) g.source_is
  where
    from_none : (k c : ℕ) → c ≡ 0 + k → k ≡ c
    from_none k c e = omega arith

pub dest_counted : (job : Job) (journal : List Entry) (unit : ℕ) → IsGoodJob job → list_all (λ (e : Entry). fits job e.event) journal ≡ true → is_run job journal ≡ true → dest_writes job journal unit ≡ dest_count job (run job journal) unit
dest_counted job journal unit good f r =
    let g = journal_grows job (first_view job) journal unit good f (first_view-holds job good) r in
    from_first (number (replicate (unit_count job) 0) unit) (dest_writes job journal unit) (dest_count job (run job journal) unit) (number-none (unit_count job) unit) g.dest_is
  where
    from_first : (a k c : ℕ) → a ≡ 0 → c ≡ a + (0 - 0) + k → k ≡ c
    from_first a k c e f = omega arith
