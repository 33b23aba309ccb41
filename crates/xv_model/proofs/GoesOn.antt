-- What it means that an event goes on, in plain facts; what an operation's aim says; sets of pages; queues.
use Rattle.std.proofs.Common.{◌≡◌, ◌≢◌, ◌≤◌, ◌<◌, ◌⊎◌, ℕ, zero, suc, ◌+◌, min, Bool, true, false, not, ◌&&◌, ◌||◌, List, [], ◌∷◌, length, get_or, set, replicate, Option, None, refl, sym, ap, arith, subst, inl, inr}
use Rattle.std.specs.Prelude.{◌==◌, nat_lt, nat_le, is_some, if◌then◌else◌}
use Rattle.std.proofs.lemmas.Bool.{not-false, ltb-true, ltb-false, leb-true, leb-false, eqb-true, eqb-false, eq-eqb, or_parts, and_parts}
use Rattle.xv_model.specs.Job.{Job, UnitOp, IsGoodJob, is_page, disk_of, block_of, blocks, trace}
use Rattle.xv_model.specs.Guest.{ended}
use Rattle.xv_model.specs.View.{View, Disk, Waiting, disk, front, member, members, least, is_empty, is_empty_set, is_running, is_stunned, is_live, is_switched, is_behind, is_inside, is_copied, all_copied, queues_empty, waits_for, in_queue, stream, is_ready, no_disk}
use Rattle.xv_model.specs.Wait.{Why, Aim, Alone, Store, Join, Mirror, aim, is_mirror, next_aim, has_cancel, reaches, is_before, cancel_due, is_full, room, unless, may_begin_round, may_stun, may_switch, wait}
use Rattle.xv_model.specs.Effect.{batch}
use Rattle.xv_model.specs.Invariant.{waits_in, waits_in_all}
use Rattle.xv_base.specs.declared.answer.Why.TheVariants.{TraceEnd, InQueue, CancelDue, Stunned as StunWait, Throttled, NoCredit, NothingThere, NotNow}
use Rattle.xv_base.specs.declared.event.Phase.{Phase}
use Rattle.xv_base.specs.declared.event.Phase.TheVariants.{Running, Stunned, Switched, Cancelled, Failed}
use Rattle.xv_base.specs.declared.event.Event.TheVariants.{Guest, Begin, Read, Advance, Release, Round, Page, Send, Deliver, Apply, Ack, Credit, Stun, Switch, Cancel}

pub unless-none : (b : Bool) (why : Why) (later : Option Why) → unless b why later ≡ None → (b ≡ false) × (later ≡ None)
unless-none true why later e = absurd (cc)
unless-none false why later e = (refl, e)

-- phases
pub running_is_live : (p : Phase) → is_running p ≡ true → is_live p ≡ true
running_is_live Running e = refl
running_is_live Stunned e = absurd (cc)
running_is_live Switched e = absurd (cc)
running_is_live Cancelled e = absurd (cc)
running_is_live Failed e = absurd (cc)

pub stunned_is_live : (p : Phase) → is_stunned p ≡ true → is_live p ≡ true
stunned_is_live Running e = absurd (cc)
stunned_is_live Stunned e = refl
stunned_is_live Switched e = absurd (cc)
stunned_is_live Cancelled e = absurd (cc)
stunned_is_live Failed e = absurd (cc)

pub live_is_running : (p : Phase) → is_live p ≡ true → is_stunned p ≡ false → is_running p ≡ true
live_is_running Running e f = refl
live_is_running Stunned e f = absurd (cc)
live_is_running Switched e f = absurd (cc)
live_is_running Cancelled e f = absurd (cc)
live_is_running Failed e f = absurd (cc)

pub live_not_switched : (p : Phase) → is_live p ≡ true → is_switched p ≡ false
live_not_switched Running e = refl
live_not_switched Stunned e = refl
live_not_switched Switched e = absurd (cc)
live_not_switched Cancelled e = absurd (cc)
live_not_switched Failed e = absurd (cc)

pub stunned_not_running : (p : Phase) → is_stunned p ≡ true → is_running p ≡ false
stunned_not_running Running e = absurd (cc)
stunned_not_running Stunned e = refl
stunned_not_running Switched e = absurd (cc)
stunned_not_running Cancelled e = absurd (cc)
stunned_not_running Failed e = absurd (cc)

-- empty lists
pub some-length : {X : Type 0} (xs : List X) → is_empty xs ≡ false → 0 < length xs
some-length [] e = absurd (cc)
some-length (x ∷ xs) e = omega arith

pub empty-nil : {X : Type 0} (xs : List X) → is_empty xs ≡ true → xs ≡ []
empty-nil [] e = refl
empty-nil (x ∷ xs) e = absurd (cc)

-- sets of pages
pub member-least : (s : List Bool) → is_empty_set s ≡ false → member s (least s) ≡ true
member-least [] e = absurd (cc)
member-least (true ∷ s) e = refl
member-least (false ∷ s) e = member-least s e

pub least-lt : (s : List Bool) → is_empty_set s ≡ false → least s < length s
least-lt [] e = absurd (cc)
least-lt (true ∷ s) e = omega arith
least-lt (false ∷ s) e = let h = least-lt s e in omega arith

pub none-member : (s : List Bool) (page : ℕ) → is_empty_set s ≡ true → member s page ≡ false
none-member [] page e = refl
none-member (true ∷ s) page e = absurd (cc)
none-member (false ∷ s) zero e = refl
none-member (false ∷ s) (suc page) e = none-member s page e

pub member-lt : (s : List Bool) (page : ℕ) → member s page ≡ true → page < length s
member-lt [] page e = absurd (cc)
member-lt (b ∷ s) zero e = omega arith
member-lt (b ∷ s) (suc page) e = let h = member-lt s page e in omega arith

pub members-none : (s : List Bool) → is_empty_set s ≡ true → members s ≡ 0
members-none [] e = refl
members-none (true ∷ s) e = absurd (cc)
members-none (false ∷ s) e = members-none s e

pub members-some : (s : List Bool) → is_empty_set s ≡ false → 0 < members s
members-some [] e = absurd (cc)
members-some (true ∷ s) e = omega arith
members-some (false ∷ s) e = members-some s e

pub members-le : (s : List Bool) → members s ≤ length s
members-le [] = omega arith
members-le (true ∷ s) = let h = members-le s in omega arith
members-le (false ∷ s) = let h = members-le s in omega arith

pub members-set_false : (s : List Bool) (page : ℕ) → member s page ≡ true → members s ≡ members (set s page false) + 1
members-set_false [] page e = absurd (cc)
members-set_false (true ∷ s) zero e = omega arith
members-set_false (false ∷ s) zero e = absurd (cc)
members-set_false (true ∷ s) (suc page) e = let h = members-set_false s page e in omega arith
members-set_false (false ∷ s) (suc page) e = members-set_false s page e

pub members-set_true : (s : List Bool) (page : ℕ) → members (set s page true) ≤ members s + 1
members-set_true [] page = omega arith
members-set_true (true ∷ s) zero = omega arith
members-set_true (false ∷ s) zero = omega arith
members-set_true (true ∷ s) (suc page) = let h = members-set_true s page in omega arith
members-set_true (false ∷ s) (suc page) = members-set_true s page

pub member-set_same : (s : List Bool) (page : ℕ) (b : Bool) → page < length s → member (set s page b) page ≡ b
member-set_same [] page b l = absurd (omega arith)
member-set_same (c ∷ s) zero b l = refl
member-set_same (c ∷ s) (suc page) b l = member-set_same s page b (omega arith)

pub member-set_false : (s : List Bool) (page : ℕ) → member (set s page false) page ≡ false
member-set_false [] page = refl
member-set_false (c ∷ s) zero = refl
member-set_false (c ∷ s) (suc page) = member-set_false s page

pub member-set_other : (s : List Bool) (page other : ℕ) (b : Bool) → other ≢ page → member (set s page b) other ≡ member s other
member-set_other [] page other b n = refl
member-set_other (c ∷ s) zero zero b n = absurd (n refl)
member-set_other (c ∷ s) zero (suc other) b n = refl
member-set_other (c ∷ s) (suc page) zero b n = refl
member-set_other (c ∷ s) (suc page) (suc other) b n = member-set_other s page other b (λ e. n (ap suc e))

pub member-none : (n page : ℕ) → member (replicate n false) page ≡ false
member-none zero page = refl
member-none (suc n) zero = refl
member-none (suc n) (suc page) = member-none n page

pub is_empty_set-none : (n : ℕ) → is_empty_set (replicate n false) ≡ true
is_empty_set-none zero = refl
is_empty_set-none (suc n) = is_empty_set-none n

pub members-no_pages : (n : ℕ) → members (replicate n false) ≡ 0
members-no_pages zero = refl
members-no_pages (suc n) = members-no_pages n

-- queues
pub waits_for-waits_in : (ws : List Waiting) (g : ℕ) → waits_for ws g ≡ false → waits_in ws g ≡ 0
waits_for-waits_in [] g e = refl
waits_for-waits_in (w ∷ ws) g e =
    let h = or_parts (w.guest.0 == g) (waits_for ws g) e in
    let i = waits_for-waits_in ws g h.1 in
    rw h.0 (omega arith)

pub in_queue-waits_in_all : (ds : List Disk) (g : ℕ) → in_queue ds g ≡ false → waits_in_all ds g ≡ 0
in_queue-waits_in_all [] g e = refl
in_queue-waits_in_all (d ∷ ds) g e =
    let h = or_parts (waits_for d.queue g) (in_queue ds g) e in
    let i = in_queue-waits_in_all ds g h.1 in
    let j = waits_for-waits_in d.queue g h.0 in
    omega arith

pub queues_empty-queue : (ds : List Disk) (d : ℕ) → queues_empty ds ≡ true → (get_or ds d no_disk).queue ≡ []
queues_empty-queue [] d e = refl
queues_empty-queue (x ∷ ds) zero e = empty-nil x.queue (and_parts (is_empty x.queue) (queues_empty ds) e).0
queues_empty-queue (x ∷ ds) (suc d) e = queues_empty-queue ds d (and_parts (is_empty x.queue) (queues_empty ds) e).1

-- what a guest's operation asks of the migration, over the five tests that it makes
abbrev pub aim_of : Bool → Bool → Bool → Bool → Aim
aim_of alone page behind inside = if alone then Alone else (if page then Store else (if behind then Mirror else (if inside then Join else Alone)))

pub record MeansStore (job : Job) (v : View) (op : UnitOp) : Type 0 where
  pub running : is_running v.phase ≡ true
  pub writes : is_some op.write ≡ true
  pub page : is_page job.copy op.unit.0 ≡ true

pub record MeansMirror (job : Job) (v : View) (op : UnitOp) : Type 0 where
  pub running : is_running v.phase ≡ true
  pub writes : is_some op.write ≡ true
  pub block : is_page job.copy op.unit.0 ≡ false
  pub behind : is_behind (disk v (disk_of job.copy op.unit.0)) (block_of job.copy op.unit.0) ≡ true

pub record MeansJoin (job : Job) (v : View) (op : UnitOp) : Type 0 where
  pub running : is_running v.phase ≡ true
  pub writes : is_some op.write ≡ true
  pub block : is_page job.copy op.unit.0 ≡ false
  pub not_behind : is_behind (disk v (disk_of job.copy op.unit.0)) (block_of job.copy op.unit.0) ≡ false
  pub inside : is_inside (disk v (disk_of job.copy op.unit.0)) (block_of job.copy op.unit.0) ≡ true

-- an operation alone, where the guest runs and it writes, writes to a block ahead
pub record MeansAlone (job : Job) (v : View) (op : UnitOp) : Type 0 where
  pub block : is_running v.phase ≡ true → is_some op.write ≡ true → is_page job.copy op.unit.0 ≡ false
  pub not_behind : is_running v.phase ≡ true → is_some op.write ≡ true → is_behind (disk v (disk_of job.copy op.unit.0)) (block_of job.copy op.unit.0) ≡ false
  pub not_inside : is_running v.phase ≡ true → is_some op.write ≡ true → is_inside (disk v (disk_of job.copy op.unit.0)) (block_of job.copy op.unit.0) ≡ false

runs_and_writes : (r w : Bool) → not (r && w) ≡ false → (r ≡ true) × (w ≡ true)
runs_and_writes true true e = (refl, refl)
runs_and_writes true false e = absurd (cc)
runs_and_writes false w e = absurd (cc)

not_alone : (r w : Bool) → r ≡ true → w ≡ true → not (r && w) ≡ false
not_alone true true e f = refl
not_alone true false e f = absurd (cc)
not_alone false w e f = absurd (cc)

store_tests : (a p b i : Bool) → aim_of a p b i ≡ Store → (a ≡ false) × (p ≡ true)
store_tests true p b i e = absurd (cc)
store_tests false true b i e = (refl, refl)
store_tests false false true i e = absurd (cc)
store_tests false false false true e = absurd (cc)
store_tests false false false false e = absurd (cc)

mirror_tests : (a p b i : Bool) → aim_of a p b i ≡ Mirror → (a ≡ false) × (p ≡ false) × (b ≡ true)
mirror_tests true p b i e = absurd (cc)
mirror_tests false true b i e = absurd (cc)
mirror_tests false false true i e = (refl, refl, refl)
mirror_tests false false false true e = absurd (cc)
mirror_tests false false false false e = absurd (cc)

join_tests : (a p b i : Bool) → aim_of a p b i ≡ Join → (a ≡ false) × (p ≡ false) × (b ≡ false) × (i ≡ true)
join_tests true p b i e = absurd (cc)
join_tests false true b i e = absurd (cc)
join_tests false false true i e = absurd (cc)
join_tests false false false true e = (refl, refl, refl, refl)
join_tests false false false false e = absurd (cc)

alone_tests : (a p b i : Bool) → aim_of a p b i ≡ Alone → a ≡ false → (p ≡ false) × (b ≡ false) × (i ≡ false)
alone_tests true p b i e f = absurd (cc)
alone_tests false true b i e f = absurd (cc)
alone_tests false false true i e f = absurd (cc)
alone_tests false false false true e f = absurd (cc)
alone_tests false false false false e f = (refl, refl, refl)

pub aim-store : (job : Job) (v : View) (op : UnitOp) → aim job v op ≡ Store → MeansStore job v op
aim-store job v op e =
    let t = store_tests (not (is_running v.phase && is_some op.write)) (is_page job.copy op.unit.0) (is_behind (disk v (disk_of job.copy op.unit.0)) (block_of job.copy op.unit.0)) (is_inside (disk v (disk_of job.copy op.unit.0)) (block_of job.copy op.unit.0)) e in
    let r = runs_and_writes (is_running v.phase) (is_some op.write) t.0 in
    record { running = r.0; writes = r.1; page = t.1 }

pub aim-mirror : (job : Job) (v : View) (op : UnitOp) → aim job v op ≡ Mirror → MeansMirror job v op
aim-mirror job v op e =
    let t = mirror_tests (not (is_running v.phase && is_some op.write)) (is_page job.copy op.unit.0) (is_behind (disk v (disk_of job.copy op.unit.0)) (block_of job.copy op.unit.0)) (is_inside (disk v (disk_of job.copy op.unit.0)) (block_of job.copy op.unit.0)) e in
    let r = runs_and_writes (is_running v.phase) (is_some op.write) t.0 in
    record { running = r.0; writes = r.1; block = t.1; behind = t.2 }

pub aim-join : (job : Job) (v : View) (op : UnitOp) → aim job v op ≡ Join → MeansJoin job v op
aim-join job v op e =
    let t = join_tests (not (is_running v.phase && is_some op.write)) (is_page job.copy op.unit.0) (is_behind (disk v (disk_of job.copy op.unit.0)) (block_of job.copy op.unit.0)) (is_inside (disk v (disk_of job.copy op.unit.0)) (block_of job.copy op.unit.0)) e in
    let r = runs_and_writes (is_running v.phase) (is_some op.write) t.0 in
    record { running = r.0; writes = r.1; block = t.1; not_behind = t.2; inside = t.3 }

pub aim-alone : (job : Job) (v : View) (op : UnitOp) → aim job v op ≡ Alone → MeansAlone job v op
aim-alone job v op e =
    let t = alone_tests (not (is_running v.phase && is_some op.write)) (is_page job.copy op.unit.0) (is_behind (disk v (disk_of job.copy op.unit.0)) (block_of job.copy op.unit.0)) (is_inside (disk v (disk_of job.copy op.unit.0)) (block_of job.copy op.unit.0)) e in
    record {
      block = λ r w. (t (not_alone _ _ r w)).0;
      not_behind = λ r w. (t (not_alone _ _ r w)).1;
      not_inside = λ r w. (t (not_alone _ _ r w)).2;
    }

-- each event's facts where it goes on
pub record GuestGoes (job : Job) (v : View) (g : ℕ) : Type 0 where
  pub more : ended v.history g < length (trace job g)
  pub in_no_queue : in_queue v.disks g ≡ false
  pub not_due : cancel_due job v ≡ false
  pub not_stunned : is_stunned v.phase ≡ false
  pub has_room : next_aim job v g ≡ Mirror → length v.outbox.messages < job.config.outbox

pub record BeginGoes (job : Job) (v : View) (d : ℕ) : Type 0 where
  pub running : is_running v.phase ≡ true
  pub no_region : (disk v d).region ≡ 0
  pub not_copied : (disk v d).cursor ≢ blocks job.copy.disks d
  pub no_queue : (disk v d).queue ≡ []

pub record ReadGoes (job : Job) (v : View) (d : ℕ) : Type 0 where
  pub running : is_running v.phase ≡ true
  pub not_read : (disk v d).got < (disk v d).region

pub record AdvanceGoes (job : Job) (v : View) (d : ℕ) : Type 0 where
  pub running : is_running v.phase ≡ true
  pub some_region : 0 < (disk v d).region
  pub all_read : (disk v d).region ≤ (disk v d).got
  pub has_room : length v.outbox.messages + (disk v d).region ≤ job.config.outbox

pub record ReleaseGoes (job : Job) (v : View) (d : ℕ) : Type 0 where
  pub some_queue : 0 < length (disk v d).queue
  pub not_due : cancel_due job v ≡ false
  pub not_inside : is_running v.phase ≡ true → is_inside (disk v d) (block_of job.copy (front (disk v d)).unit.0) ≡ false
  pub has_room : is_running v.phase ≡ true → length v.outbox.messages < job.config.outbox

pub record RoundGoes (job : Job) (v : View) : Type 0 where
  pub running : is_running v.phase ≡ true
  pub none_to_send : is_empty_set v.to_send ≡ true
  pub below_limit : all_copied job v ≡ true → v.rounds < job.config.rounds
  pub format_two : all_copied job v ≡ false → job.format ≡ 2
  pub some_dirty : all_copied job v ≡ false → is_empty_set v.dirty ≡ false

pub record PageGoes (job : Job) (v : View) : Type 0 where
  pub live : is_live v.phase ≡ true
  pub some_to_send : is_empty_set v.to_send ≡ false
  pub is_member : member v.to_send (least v.to_send) ≡ true
  pub in_range : least v.to_send < length v.to_send
  pub has_room : length v.outbox.messages < job.config.outbox

pub record SendGoes (job : Job) (v : View) : Type 0 where
  pub live : is_live v.phase ≡ true
  pub some_message : 0 < length v.outbox.messages
  pub some_credit : 0 < v.credit

pub record DeliverGoes (job : Job) (v : View) (s : ℕ) (flag : Bool) : Type 0 where
  pub live : is_live v.phase ≡ true
  pub some_group : flag ≡ false → 0 < length (stream v s)

pub record ApplyGoes (job : Job) (v : View) : Type 0 where
  pub live : is_live v.phase ≡ true
  pub ready : is_ready v.hold ≡ true

pub record AckGoes (job : Job) (v : View) : Type 0 where
  pub live : is_live v.phase ≡ true
  pub some_freed : 0 < v.freed

pub record CreditGoes (job : Job) (v : View) (flag : Bool) : Type 0 where
  pub live : is_live v.phase ≡ true
  pub some_ack : flag ≡ false → 0 < length v.acks

pub record StunGoes (job : Job) (v : View) : Type 0 where
  pub running : is_running v.phase ≡ true
  pub not_before : is_before job.config.cancel (length v.history) ≡ false
  pub copied : all_copied job v ≡ true
  pub no_queue : queues_empty v.disks ≡ true
  pub none_to_send : is_empty_set v.to_send ≡ true
  pub some_round : 0 < v.rounds
  pub few_or_last : (nat_le (members v.dirty) job.config.dirty || nat_le job.config.rounds v.rounds) ≡ true

pub record SwitchGoes (job : Job) (v : View) : Type 0 where
  pub stunned : is_stunned v.phase ≡ true
  pub no_cancel : has_cancel job ≡ false
  pub none_to_send : is_empty_set v.to_send ≡ true
  pub none_made : v.outbox.messages ≡ []
  pub credit_back : job.config.credit ≤ v.credit

pub record CancelGoes (job : Job) (v : View) : Type 0 where
  pub due : cancel_due job v ≡ true
  pub live : is_live v.phase ≡ true
  pub reached : reaches job.config.cancel (length v.history) ≡ true

-- the waits, over the tests that they make
two_passed : (a b : Bool) (s t : Why) → unless a s (unless b t None) ≡ None → (a ≡ false) × (b ≡ false)
two_passed a b s t e =
    let x = unless-none a s (unless b t None) e in
    (x.0, (unless-none b t None x.1).0)

three_passed : (a b c : Bool) (s t u : Why) → unless a s (unless b t (unless c u None)) ≡ None → (a ≡ false) × (b ≡ false) × (c ≡ false)
three_passed a b c s t u e =
    let x = unless-none a s (unless b t (unless c u None)) e in
    let y = two_passed b c t u x.1 in
    (x.0, y.0, y.1)

four_passed : (a b c d : Bool) (s t u w : Why) → unless a s (unless b t (unless c u (unless d w None))) ≡ None → (a ≡ false) × (b ≡ false) × (c ≡ false) × (d ≡ false)
four_passed a b c d s t u w e =
    let x = unless-none a s (unless b t (unless c u (unless d w None))) e in
    let y = three_passed b c d t u w x.1 in
    (x.0, y.0, y.1, y.2)

five_passed : (a b c d f : Bool) (s t u w z : Why) → unless a s (unless b t (unless c u (unless d w (unless f z None)))) ≡ None → (a ≡ false) × (b ≡ false) × (c ≡ false) × (d ≡ false) × (f ≡ false)
five_passed a b c d f s t u w z e =
    let x = unless-none a s (unless b t (unless c u (unless d w (unless f z None)))) e in
    let y = four_passed b c d f t u w z x.1 in
    (x.0, y.0, y.1, y.2, y.3)

room_left : (a b : Bool) → a && b ≡ false → a ≡ true → b ≡ false
room_left true b e f = e
room_left false b e f = absurd (cc)

three_false : (a b c : Bool) → (a || b || c) ≡ false → (a ≡ false) × (b ≡ false) × (c ≡ false)
three_false false false false e = (refl, refl, refl)
three_false false false true e = absurd (cc)
three_false false true c e = absurd (cc)
three_false true b c e = absurd (cc)

deliver_flag : (a b : Bool) → not a && b ≡ false → a ≡ false → b ≡ false
deliver_flag true b e f = absurd (cc)
deliver_flag false b e f = e

not_both : (a b : Bool) → a && b ≡ false → a ≡ true → b ≡ true → ⊥
not_both true true e f g = cc
not_both true false e f g = cc
not_both false b e f g = cc

round_tests : (a c l f d : Bool) → a && (if c then l else (f && not d)) ≡ true → (a ≡ true) × (c ≡ true → l ≡ true) × (c ≡ false → f ≡ true) × (c ≡ false → d ≡ false)
round_tests true true l f d e = (refl, (λ _. e), (λ x. absurd (cc)), (λ x. absurd (cc)))
round_tests true false l true true e = absurd (cc)
round_tests true false l true false e = (refl, (λ x. absurd (cc)), (λ _. refl), (λ _. refl))
round_tests true false l false d e = absurd (cc)
round_tests false c l f d e = absurd (cc)

stun_tests : (a b c d f : Bool) → a && b && c && d && f ≡ true → (a ≡ true) × (b ≡ true) × (c ≡ true) × (d ≡ true) × (f ≡ true)
stun_tests true true true true true e = (refl, refl, refl, refl, refl)
stun_tests true true true true false e = absurd (cc)
stun_tests true true true false f e = absurd (cc)
stun_tests true true false d f e = absurd (cc)
stun_tests true false c d f e = absurd (cc)
stun_tests false b c d f e = absurd (cc)

switch_tests : (a b c : Bool) → a && b && c ≡ true → (a ≡ true) × (b ≡ true) × (c ≡ true)
switch_tests true true true e = (refl, refl, refl)
switch_tests true true false e = absurd (cc)
switch_tests true false c e = absurd (cc)
switch_tests false b c e = absurd (cc)

pub guest_goes : (job : Job) (v : View) (g : ℕ) (flag : Bool) → wait job v (Guest (record { 0 = g })) flag ≡ None → GuestGoes job v g
guest_goes job v g flag e =
    let x = five_passed (nat_le (length (trace job g)) (ended v.history g)) (in_queue v.disks g) (cancel_due job v) (is_stunned v.phase) (is_mirror (next_aim job v g) && is_full job v) TraceEnd InQueue CancelDue StunWait Throttled e in
    record {
      more = leb-false (length (trace job g)) (ended v.history g) x.0;
      in_no_queue = x.1;
      not_due = x.2;
      not_stunned = x.3;
      has_room = λ m. leb-false job.config.outbox (length v.outbox.messages) (room_left (is_mirror (next_aim job v g)) (is_full job v) x.4 (rw m refl));
    }

pub begin_goes : (job : Job) (v : View) (d : ℕ) (flag : Bool) → wait job v (Begin d) flag ≡ None → BeginGoes job v d
begin_goes job v d flag e =
    let x = two_passed (not (is_running v.phase)) (is_copied (blocks job.copy.disks d) (disk v d) || not ((disk v d).region == 0) || not (is_empty (disk v d).queue)) NotNow NotNow e in
    let y = three_false (is_copied (blocks job.copy.disks d) (disk v d)) (not ((disk v d).region == 0)) (not (is_empty (disk v d).queue)) x.1 in
    let region_test = not-false ((disk v d).region == 0) y.1 in
    record {
      running = not-false (is_running v.phase) x.0;
      no_region = eqb-true (disk v d).region 0 region_test;
      not_copied = λ same. not_both ((disk v d).cursor == blocks job.copy.disks d) ((disk v d).region == 0) y.0 (eq-eqb (disk v d).cursor (blocks job.copy.disks d) same) region_test;
      no_queue = empty-nil (disk v d).queue (not-false (is_empty (disk v d).queue) y.2);
    }

pub read_goes : (job : Job) (v : View) (d : ℕ) (flag : Bool) → wait job v (Read d) flag ≡ None → ReadGoes job v d
read_goes job v d flag e =
    let x = two_passed (not (is_running v.phase)) (nat_le (disk v d).region (disk v d).got) NotNow NotNow e in
    record { running = not-false (is_running v.phase) x.0; not_read = leb-false (disk v d).region (disk v d).got x.1 }

pub advance_goes : (job : Job) (v : View) (d : ℕ) (flag : Bool) → wait job v (Advance d) flag ≡ None → AdvanceGoes job v d
advance_goes job v d flag e =
    let x = three_passed (not (is_running v.phase)) (((disk v d).region == 0) || nat_lt (disk v d).got (disk v d).region) (nat_lt (room job v) (disk v d).region) NotNow NotNow Throttled e in
    let y = or_parts ((disk v d).region == 0) (nat_lt (disk v d).got (disk v d).region) x.1 in
    let nonzero = eqb-false (disk v d).region 0 y.0 in
    let some : 0 < (disk v d).region = grind (arith, nonzero) in
    let fits = ltb-false (room job v) (disk v d).region x.2 in
    record {
      running = not-false (is_running v.phase) x.0;
      some_region = some;
      all_read = ltb-false (disk v d).got (disk v d).region y.1;
      has_room = omega (arith, some, fits);
    }

pub release_goes : (job : Job) (v : View) (d : ℕ) (flag : Bool) → wait job v (Release d) flag ≡ None → ReleaseGoes job v d
release_goes job v d flag e =
    let x = four_passed (is_empty (disk v d).queue) (cancel_due job v) (is_running v.phase && is_inside (disk v d) (block_of job.copy (front (disk v d)).unit.0)) (is_running v.phase && is_full job v) NothingThere CancelDue NotNow Throttled e in
    record {
      some_queue = some-length (disk v d).queue x.0;
      not_due = x.1;
      not_inside = λ r. room_left (is_running v.phase) (is_inside (disk v d) (block_of job.copy (front (disk v d)).unit.0)) x.2 r;
      has_room = λ r. leb-false job.config.outbox (length v.outbox.messages) (room_left (is_running v.phase) (is_full job v) x.3 r);
    }

pub round_goes : (job : Job) (v : View) (flag : Bool) → wait job v Round flag ≡ None → RoundGoes job v
round_goes job v flag e =
    let x = two_passed (not (is_running v.phase)) (not (may_begin_round job v)) NotNow NotNow e in
    let y = round_tests (is_empty_set v.to_send) (all_copied job v) (nat_lt v.rounds job.config.rounds) (job.format == 2) (is_empty_set v.dirty) (not-false (may_begin_round job v) x.1) in
    record {
      running = not-false (is_running v.phase) x.0;
      none_to_send = y.0;
      below_limit = λ c. ltb-true v.rounds job.config.rounds (y.1 c);
      format_two = λ c. eqb-true job.format 2 (y.2 c);
      some_dirty = y.3;
    }

pub page_goes : (job : Job) (v : View) (flag : Bool) → wait job v Page flag ≡ None → PageGoes job v
page_goes job v flag e =
    let x = three_passed (not (is_live v.phase)) (is_empty_set v.to_send) (is_full job v) NotNow NothingThere Throttled e in
    record {
      live = not-false (is_live v.phase) x.0;
      some_to_send = x.1;
      is_member = member-least v.to_send x.1;
      in_range = least-lt v.to_send x.1;
      has_room = leb-false job.config.outbox (length v.outbox.messages) x.2;
    }

pub send_goes : (job : Job) (v : View) (s : ℕ) (flag : Bool) → wait job v (Send s) flag ≡ None → SendGoes job v
send_goes job v s flag e =
    let x = three_passed (not (is_live v.phase)) (is_empty v.outbox.messages) (v.credit == 0) NotNow NothingThere NoCredit e in
    let nonzero = eqb-false v.credit 0 x.2 in
    record {
      live = not-false (is_live v.phase) x.0;
      some_message = some-length v.outbox.messages x.1;
      some_credit = grind (arith, nonzero);
    }

pub deliver_goes : (job : Job) (v : View) (s : ℕ) (flag : Bool) → wait job v (Deliver s) flag ≡ None → DeliverGoes job v s flag
deliver_goes job v s flag e =
    let x = two_passed (not (is_live v.phase)) (not flag && is_empty (stream v s)) NotNow NothingThere e in
    record {
      live = not-false (is_live v.phase) x.0;
      some_group = λ f. some-length (stream v s) (deliver_flag flag (is_empty (stream v s)) x.1 f);
    }

pub apply_goes : (job : Job) (v : View) (flag : Bool) → wait job v Apply flag ≡ None → ApplyGoes job v
apply_goes job v flag e =
    let x = two_passed (not (is_live v.phase)) (not (is_ready v.hold)) NotNow NothingThere e in
    record { live = not-false (is_live v.phase) x.0; ready = not-false (is_ready v.hold) x.1 }

pub ack_goes : (job : Job) (v : View) (flag : Bool) → wait job v Ack flag ≡ None → AckGoes job v
ack_goes job v flag e =
    let x = two_passed (not (is_live v.phase)) (v.freed == 0) NotNow NothingThere e in
    let nonzero = eqb-false v.freed 0 x.1 in
    record { live = not-false (is_live v.phase) x.0; some_freed = grind (arith, nonzero) }

pub credit_goes : (job : Job) (v : View) (flag : Bool) → wait job v Credit flag ≡ None → CreditGoes job v flag
credit_goes job v flag e =
    let x = two_passed (not (is_live v.phase)) (not flag && is_empty v.acks) NotNow NothingThere e in
    record {
      live = not-false (is_live v.phase) x.0;
      some_ack = λ f. some-length v.acks (deliver_flag flag (is_empty v.acks) x.1 f);
    }

pub stun_goes : (job : Job) (v : View) (flag : Bool) → wait job v Stun flag ≡ None → StunGoes job v
stun_goes job v flag e =
    let x = three_passed (not (is_running v.phase)) (is_before job.config.cancel (length v.history)) (not (may_stun job v)) NotNow CancelDue NotNow e in
    let y = stun_tests (all_copied job v) (queues_empty v.disks) (is_empty_set v.to_send) (nat_lt 0 v.rounds) (nat_le (members v.dirty) job.config.dirty || nat_le job.config.rounds v.rounds) (not-false (may_stun job v) x.2) in
    record {
      running = not-false (is_running v.phase) x.0;
      not_before = x.1;
      copied = y.0;
      no_queue = y.1;
      none_to_send = y.2;
      some_round = ltb-true 0 v.rounds y.3;
      few_or_last = y.4;
    }

pub switch_goes : (job : Job) (v : View) (flag : Bool) → wait job v Switch flag ≡ None → SwitchGoes job v
switch_goes job v flag e =
    let x = three_passed (not (is_stunned v.phase)) (has_cancel job) (not (may_switch job v)) NotNow CancelDue NotNow e in
    let y = switch_tests (is_empty_set v.to_send) (is_empty v.outbox.messages) (nat_le job.config.credit v.credit) (not-false (may_switch job v) x.2) in
    record {
      stunned = not-false (is_stunned v.phase) x.0;
      no_cancel = x.1;
      none_to_send = y.0;
      none_made = empty-nil v.outbox.messages y.1;
      credit_back = leb-true job.config.credit v.credit y.2;
    }

pub cancel_goes : (job : Job) (v : View) (flag : Bool) → wait job v Cancel flag ≡ None → CancelGoes job v
cancel_goes job v flag e =
    let x = unless-none (not (cancel_due job v)) NotNow None e in
    let due = not-false (cancel_due job v) x.0 in
    let parts = and_parts (reaches job.config.cancel (length v.history)) (is_live v.phase) due in
    record { due = due; live = parts.1; reached = parts.0 }

-- how many messages go at once
pub record BatchFits (job : Job) (v : View) : Type 0 where
  pub some : 1 ≤ batch job v
  pub of_messages : batch job v ≤ length v.outbox.messages
  pub of_credit : batch job v ≤ v.credit
  pub of_group : batch job v ≤ job.group
  pub one : job.format ≡ 1 → batch job v ≡ 1

batch_by : (format group messages credit : ℕ) → ((format ≡ 1) × (group ≡ 1)) ⊎ ((format ≡ 2) × (1 ≤ group) × (group ≤ 16)) → 0 < messages → 0 < credit →
    (1 ≤ (if format == 1 then 1 else min group (min messages credit))) × ((if format == 1 then 1 else min group (min messages credit)) ≤ messages)
    × ((if format == 1 then 1 else min group (min messages credit)) ≤ credit) × ((if format == 1 then 1 else min group (min messages credit)) ≤ group)
    × (format ≡ 1 → (if format == 1 then 1 else min group (min messages credit)) ≡ 1)
batch_by format group messages credit (inl f) m c = subst (λ x. (1 ≤ (if x == 1 then 1 else min group (min messages credit))) × ((if x == 1 then 1 else min group (min messages credit)) ≤ messages)
    × ((if x == 1 then 1 else min group (min messages credit)) ≤ credit) × ((if x == 1 then 1 else min group (min messages credit)) ≤ group)
    × (x ≡ 1 → (if x == 1 then 1 else min group (min messages credit)) ≡ 1)) (sym f.0) (omega arith, omega arith, omega arith, omega (arith, f.1), λ _. refl)
batch_by format group messages credit (inr f) m c = subst (λ x. (1 ≤ (if x == 1 then 1 else min group (min messages credit))) × ((if x == 1 then 1 else min group (min messages credit)) ≤ messages)
    × ((if x == 1 then 1 else min group (min messages credit)) ≤ credit) × ((if x == 1 then 1 else min group (min messages credit)) ≤ group)
    × (x ≡ 1 → (if x == 1 then 1 else min group (min messages credit)) ≡ 1)) (sym f.0) (omega (arith, f.1), omega arith, omega arith, omega arith, λ e. absurd (omega (arith, e)))

pub batch_fits : (job : Job) (v : View) → IsGoodJob job → SendGoes job v → BatchFits job v
batch_fits job v good goes =
    let b = batch_by job.format job.group (length v.outbox.messages) v.credit good.formats goes.some_message goes.some_credit in
    record { some = b.0; of_messages = b.1; of_credit = b.2; of_group = b.3; one = b.4 }
