-- From an operation whose call was made to the machine's step.
use Rattle.std.specs.Prelude.{◌≡◌, ℕ, ◌+◌, ◌&&◌, ◌||◌, not, nat_le, Bool, true, false, List, [], ◌∷◌, ◌++◌, length, get_or, Some, None, is_some, unwrap_or, if◌then◌else◌}
use Rattle.std.proofs.Common.{refl, sym, ap, subst, ◌∙◌}
use Rattle.xv_base.specs.declared.answer.Turn.TheVariants.{Queued, Faulted}
use Rattle.xv_base.specs.declared.answer.Why.TheVariants.{TraceEnd, InQueue, CancelDue, Stunned, Throttled}
use Rattle.xv_base.specs.declared.event.Event.TheVariants.{Guest}
use Rattle.xv_base.specs.declared.unit.GuestId.{GuestId}
use Rattle.xv_base.specs.declared.event.Phase.TheVariants.{Running, Stunned as PhaseStunned, Switched, Cancelled, Failed}
use Rattle.xv_base.specs.Units.{is_page, disk_of, block_of}
use Rattle.xv_device.specs.Told.{Told, IsSized}
use Rattle.xv_model.specs.Job.{Job, UnitOp, IsLegal, trace}
use Rattle.xv_model.specs.Guest.{ended}
use Rattle.xv_model.specs.View.{View, Phase, no_disk, in_queue, is_behind, is_inside, is_stunned, is_switched, is_live, is_running}
use Rattle.xv_model.specs.Wait.{Aim, Alone, Store, Join, Mirror, aim, wait, unless, next_operation, next_aim, is_join, is_mirror, cancel_due}
use Rattle.xv_model.specs.Effect.{Turn, guest_by, guest_answer}
use Rattle.xv_model.specs.Step.{call, guest_call, is_call, is_flagged, is_wait}
use Rattle.xv_model.specs.Contents.{Contents, unit_content, after_operation, read_of}
use Rattle.xv_source.specs.Half.{Source, with_limits, with_source, with_source_bytes, IsSourceOf, HasSourceBytes, AreWhole}
use Rattle.xv_source.specs.Step.{is_let, Allows, StepsSource}
use Rattle.xv_source.specs.Operations.{acted, stored, mirrored, HasActed}
use Rattle.xv_source.proofs.Steps.{along, against, Does, steps-does, steps-failed}
use Rattle.xv_source.proofs.Operated.{told-operated, tells-operated, told-unchanged, block-written}

-- an operation that the migration lets go on waits for room for its message alone
lets-by : (end queued due stunned full : Bool) → (not end && not queued && not due && not stunned) ≡ true →
    unless end TraceEnd (unless queued InQueue (unless due CancelDue (unless stunned Stunned (unless full Throttled None)))) ≡ unless full Throttled None
lets-by false false false false full lets = refl
lets-by true queued due stunned full lets = absurd (cc)
lets-by false true due stunned full lets = absurd (cc)
lets-by false false true stunned full lets = absurd (cc)
lets-by false false false true full lets = absurd (cc)

pub guest-wait : (job : Job) (v : View) (g : GuestId) (old : Source) (a : Aim) (flag : Bool) → Allows job v (Guest g) old → next_aim (with_limits job old) (with_source v old) g.0 ≡ a →
    wait job v (Guest g) flag ≡ unless (is_mirror a && nat_le old.config.outbox (length old.messages)) Throttled None
guest-wait job v g old a flag allows is =
    along (λ (j : Job) (w : View). wait j w (Guest g) flag ≡ unless (is_mirror a && nat_le old.config.outbox (length old.messages)) Throttled None) job v old allows.of
    (lets-by (nat_le (length (trace job g.0)) (ended v.history g.0)) (in_queue old.disks g.0) (cancel_due (with_limits job old) (with_source v old)) (is_stunned v.phase) _
    (against (λ (j : Job) (w : View). is_let j w (Guest g) ≡ true) job v old allows.of allows.lets)
    ∙ ap (λ (x : Aim). unless (is_mirror x && nat_le old.config.outbox (length old.messages)) Throttled None) is)

-- it is a call, unless it joins a queue
outside : (a : Aim) (switched writes : Bool) → is_join a ≡ false → switched ≡ false → is_call (guest_call (is_join a) switched writes) ≡ true
outside a switched writes no_join on_source =
    ap (λ b. is_call (guest_call b switched writes)) no_join ∙ ap (λ b. is_call (guest_call false b writes)) on_source
    ∙ elim writes as (λ b. is_call (guest_call false false b) ≡ true) [ true ↦ refl | false ↦ refl ]

-- what it does to contents, by its aim
abbrev moved : View → UnitOp → Aim → Contents → Contents
moved v op a c = record c {
  source = if is_switched v.phase || is_join a then c.source else after_operation op c.source;
  dest = if is_switched v.phase then after_operation op c.dest else c.dest;
  outbox = if is_mirror a then c.outbox ++ unit_content (after_operation op c.source) op.unit.0 ∷ [] else c.outbox;
  reads = c.reads ++ read_of op (if is_switched v.phase then c.dest else c.source);
}

does-guest : (job : Job) (v : View) (g : GuestId) (t : Turn) (old new : Source) (op : UnitOp) (a : Aim) → next_operation job v g.0 ≡ op → next_aim (with_limits job old) (with_source v old) g.0 ≡ a →
    t ≡ guest_answer op a → IsSourceOf (with_limits job old) (guest_by (with_limits job old) (with_source v old) g.0 op a) new →
    ((c : Contents) → is_some old.told.contents ≡ true → AreWhole old.shape (unwrap_or old.told.contents []) → HasSourceBytes (moved v op a (with_source_bytes c old)) new) →
    Does job v (Guest g) t old new
does-guest job v g t old new op a next aim_is answers part bytes = record {
  answers = answers ∙ ap (λ (o : UnitOp). guest_answer o a) (sym next) ∙ ap (λ (x : Aim). guest_answer (next_operation job v g.0) x) (sym aim_is);
  part =
      subst (λ (x : Aim). IsSourceOf (with_limits job old) (guest_by (with_limits job old) (with_source v old) g.0 (next_operation job v g.0) x) new) (sym aim_is)
      (subst (λ (o : UnitOp). IsSourceOf (with_limits job old) (guest_by (with_limits job old) (with_source v old) g.0 o a) new) (sym next) part);
  bytes = λ c tells whole.
      subst (λ (x : Aim). HasSourceBytes (moved v (next_operation job v g.0) x (with_source_bytes c old)) new) (sym aim_is)
      (subst (λ (o : UnitOp). HasSourceBytes (moved v o a (with_source_bytes c old)) new) (sym next) (bytes c tells whole));
}

-- what is left of the half by an operation that was done, by its aim: the source's part, and the contents of the messages
pub record Leaves (job : Job) (v : View) (g : GuestId) (op : UnitOp) (a : Aim) (old leaves : Source) : Type 0 where
  pub part : (told : Told) (faults : ℕ) → IsSourceOf (with_limits job old) (guest_by (with_limits job old) (with_source v old) g.0 op a) (record leaves { told = told; faults = faults })
  pub regions : leaves.regions ≡ old.regions
  pub contents : is_some old.told.contents ≡ true →
      leaves.contents ≡ (if is_mirror a then old.contents ++ unit_content (after_operation op (unwrap_or old.told.contents [])) op.unit.0 ∷ [] else old.contents)

pub record Acts (job : Job) (v : View) (g : GuestId) (op : UnitOp) (a : Aim) (old : Source) : Type 0 where
  pub allows : Allows job v (Guest g) old
  pub on_source : is_switched v.phase ≡ false
  pub next : next_operation job v g.0 ≡ op
  pub legal : IsLegal old.shape op
  pub aim_is : next_aim (with_limits job old) (with_source v old) g.0 ≡ a
  pub no_join : is_join a ≡ false
  pub room : (is_mirror a && nat_le old.config.outbox (length old.messages)) ≡ false

answered : (op : UnitOp) (a : Aim) → is_join a ≡ false → acted op false ≡ guest_answer op a
answered op a no_join = ap (λ (b : Bool). if b then Queued else acted op false) (sym no_join)

-- contents of which the half has its part
pub part-bytes : (c : Contents) (new : Source) → unwrap_or new.told.contents [] ≡ c.source → new.regions ≡ c.regions → new.contents ≡ c.outbox → with_source_bytes c new ≡ c
part-bytes c new source regions outbox =
    ap (λ (x : List (List ℕ)). record c { source = x; regions = new.regions; outbox = new.contents }) source
    ∙ ap (λ (x : List (List (List ℕ))). record c { regions = x; outbox = new.contents }) regions
    ∙ ap (λ (x : List (List ℕ)). record c { outbox = x }) outbox

not-moved : (switched join : Bool) (x y : List (List ℕ)) → switched ≡ false → join ≡ false → y ≡ (if switched || join then x else y)
not-moved false false x y e f = refl
not-moved true join x y e f = absurd (cc)
not-moved false true x y e f = absurd (cc)

acts-bytes : (job : Job) (v : View) (g : GuestId) (old leaves new : Source) (op : UnitOp) (a : Aim) (c : Contents) → Acts job v g op a old → Leaves job v g op a old leaves → HasActed op false old leaves new →
    is_some old.told.contents ≡ true → HasSourceBytes (moved v op a (with_source_bytes c old)) new
acts-bytes job v g old leaves new op a c acts left has tells =
    let tells_new : is_some new.told.contents ≡ true = subst (λ (x : Told). is_some x.contents ≡ true) (sym has.made.told) (tells-operated old.shape op false old.told tells) in
    let source : unwrap_or new.told.contents [] ≡ after_operation op (unwrap_or old.told.contents []) =
    ap (λ (x : Told). unwrap_or x.contents []) has.made.told ∙ told-operated old.shape op old.told acts.legal has.layout has.sized tells in
    record {
      told = tells_new;
      part = part-bytes (moved v op a (with_source_bytes c old)) new
          (source ∙ not-moved (is_switched v.phase) (is_join a) (unwrap_or old.told.contents []) _ acts.on_source acts.no_join)
          (ap (λ (h : Source). h.regions) has.rest ∙ left.regions)
          (ap (λ (h : Source). h.contents) has.rest ∙ left.contents tells);
    }

acts-done : (job : Job) (v : View) (g : GuestId) (t : Turn) (old leaves new : Source) (op : UnitOp) (a : Aim) → Acts job v g op a old → Leaves job v g op a old leaves → HasActed op false old leaves new → t ≡ acted op false →
    StepsSource job v (Guest g) t old new
acts-done job v g t old leaves new op a acts left has is =
    steps-does job v (Guest g) t old new acts.allows.of (guest-wait job v g old a false acts.allows acts.aim_is ∙ ap (λ (b : Bool). unless b Throttled None) acts.room)
    (ap (λ (x : Turn). is_flagged x) is) (ap (λ (x : Turn). is_wait x) is)
    (does-guest job v g t old new op a acts.next acts.aim_is (is ∙ answered op a acts.no_join)
    (subst (λ (n : Source). IsSourceOf (with_limits job old) (guest_by (with_limits job old) (with_source v old) g.0 op a) n) (sym has.rest) (left.part new.told new.faults))
    (λ c tells whole. acts-bytes job v g old leaves new op a c acts left has tells))

acts-failed : (job : Job) (v : View) (g : GuestId) (t : Turn) (old new : Source) (op : UnitOp) (a : Aim) → Acts job v g op a old → HasActed op true old old new → t ≡ Faulted → StepsSource job v (Guest g) t old new
acts-failed job v g t old new op a acts has is =
    let aim_of_job : next_aim job v g.0 ≡ a = along (λ (j : Job) (w : View). next_aim j w g.0 ≡ a) job v old acts.allows.of acts.aim_is in
    let calls : is_call (call job v (Guest g)) ≡ true =
    ap (λ (x : Aim). is_call (guest_call (is_join x) (is_switched v.phase) (is_some (next_operation job v g.0).write))) aim_of_job
    ∙ outside a (is_switched v.phase) (is_some (next_operation job v g.0).write) acts.no_join acts.on_source in
    steps-failed job v (Guest g) t old new (guest-wait job v g old a true acts.allows acts.aim_is ∙ ap (λ (b : Bool). unless b Throttled None) acts.room) calls
    (ap (λ (x : Turn). is_flagged x) is) (ap (λ (x : Turn). is_wait x) is) is
    (subst (λ (n : Source). IsSourceOf job v n) (sym has.rest) (record { limits = acts.allows.of.limits; part = acts.allows.of.part }))
    (λ c before.
    record {
      told = subst (λ (x : Told). is_some x.contents ≡ true) (sym has.made.told) (tells-operated old.shape op true old.told before.told);
      part =
          part-bytes c new
          (ap (λ (x : Told). unwrap_or x.contents []) has.made.told ∙ told-unchanged old.shape op old.told before.told ∙ ap (λ (x : Contents). x.source) before.part)
          (ap (λ (h : Source). h.regions) has.rest ∙ ap (λ (x : Contents). x.regions) before.part)
          (ap (λ (h : Source). h.contents) has.rest ∙ ap (λ (x : Contents). x.outbox) before.part);
    })

-- an operation whose call was made
pub guest-acted : (failed : Bool) (job : Job) (v : View) (g : GuestId) (t : Turn) (old leaves new : Source) (op : UnitOp) (a : Aim) → Acts job v g op a old → Leaves job v g op a old leaves →
    HasActed op failed old (if failed then old else leaves) new → t ≡ acted op failed → StepsSource job v (Guest g) t old new
guest-acted true job v g t old leaves new op a acts left has is = acts-failed job v g t old new op a acts has is
guest-acted false job v g t old leaves new op a acts left has is = acts-done job v g t old leaves new op a acts left has is

-- what each aim leaves
pub leaves-alone : (job : Job) (v : View) (g : GuestId) (op : UnitOp) (old : Source) → Leaves job v g op Alone old old
leaves-alone job v g op old = record { part = λ told faults. record { limits = refl; part = refl }; regions = refl; contents = λ tells. refl }

pub leaves-store : (job : Job) (v : View) (g : GuestId) (op : UnitOp) (old : Source) → Leaves job v g op Store old (stored op.unit.0 old)
leaves-store job v g op old = record { part = λ told faults. record { limits = refl; part = refl }; regions = refl; contents = λ tells. refl }

pub leaves-mirror : (job : Job) (v : View) (g : GuestId) (op : UnitOp) (pattern : List ℕ) (old : Source) → IsLegal old.shape op → old.told.shape ≡ old.shape → IsSized old.told → op.write ≡ Some pattern → is_page old.shape op.unit.0 ≡ false →
    Leaves job v g op Mirror old (mirrored op (length v.history + 1) old)
leaves-mirror job v g op pattern old legal same sized writes block = record {
  part = λ told faults. record { limits = refl; part = refl };
  regions = refl;
  contents = λ tells. ap (λ (bytes : List ℕ). old.contents ++ bytes ∷ []) (sym (block-written old.shape op pattern old.told legal same sized tells writes block));
}

-- the aim of an operation
abbrev pub aim_of_write : Bool → Bool → Bool → Bool → Aim
aim_of_write writes page behind inside = if writes then (if page then Store else (if behind then Mirror else (if inside then Join else Alone))) else Alone

by-tests : (run writes page behind inside : Bool) → run ≡ true →
    (if not (run && writes) then Alone else (if page then Store else (if behind then Mirror else (if inside then Join else Alone)))) ≡ aim_of_write writes page behind inside
by-tests true true page behind inside running = refl
by-tests true false page behind inside running = refl
by-tests false writes page behind inside running = absurd (cc)

abbrev pub aim_at : Source → UnitOp → Aim
aim_at h op =
    aim_of_write (is_some op.write) (is_page h.shape op.unit.0) (is_behind (get_or h.disks (disk_of h.shape op.unit.0) no_disk) (block_of h.shape op.unit.0))
    (is_inside (get_or h.disks (disk_of h.shape op.unit.0) no_disk) (block_of h.shape op.unit.0))

pub aim-running : (job : Job) (v : View) (g : GuestId) (op : UnitOp) (old : Source) → next_operation job v g.0 ≡ op → is_running v.phase ≡ true → next_aim (with_limits job old) (with_source v old) g.0 ≡ aim_at old op
aim-running job v g op old next running =
    ap (λ (o : UnitOp). aim (with_limits job old) (with_source v old) o) next
    ∙ by-tests (is_running v.phase) (is_some op.write) (is_page old.shape op.unit.0) (is_behind (get_or old.disks (disk_of old.shape op.unit.0) no_disk) (block_of old.shape op.unit.0))
    (is_inside (get_or old.disks (disk_of old.shape op.unit.0) no_disk) (block_of old.shape op.unit.0)) running

pub not-running : (phase : Phase) → is_live phase ≡ false → is_running phase ≡ false
not-running Running over = absurd (cc)
not-running PhaseStunned over = absurd (cc)
not-running Switched over = refl
not-running Cancelled over = refl
not-running Failed over = refl

pub aim-over : (job : Job) (v : View) (g : GuestId) (old : Source) → is_live v.phase ≡ false → next_aim (with_limits job old) (with_source v old) g.0 ≡ Alone
aim-over job v g old over =
    ap (λ (b : Bool). if not (b && is_some (next_operation job v g.0).write) then Alone else aim_of_write true (is_page old.shape (next_operation job v g.0).unit.0)
    (is_behind (get_or old.disks (disk_of old.shape (next_operation job v g.0).unit.0) no_disk) (block_of old.shape (next_operation job v g.0).unit.0))
    (is_inside (get_or old.disks (disk_of old.shape (next_operation job v g.0).unit.0) no_disk) (block_of old.shape (next_operation job v g.0).unit.0))) (not-running v.phase over)

not-switched : (phase : Phase) → is_running phase ≡ true → is_switched phase ≡ false
not-switched Running running = refl
not-switched PhaseStunned running = absurd (cc)
not-switched Switched running = absurd (cc)
not-switched Cancelled running = absurd (cc)
not-switched Failed running = absurd (cc)

-- an operation that is not mirrored, of a migration that runs, and of one that has ended on the source
pub acts-running : (job : Job) (v : View) (g : GuestId) (op : UnitOp) (a : Aim) (old : Source) → Allows job v (Guest g) old → is_running v.phase ≡ true → next_operation job v g.0 ≡ op → IsLegal old.shape op →
    aim_at old op ≡ a → is_join a ≡ false → (is_mirror a && nat_le old.config.outbox (length old.messages)) ≡ false → Acts job v g op a old
acts-running job v g op a old allows running next legal is no_join room =
    record { allows = allows; on_source = not-switched v.phase running; next = next; legal = legal; aim_is = aim-running job v g op old next running ∙ is; no_join = no_join; room = room }

pub acts-over : (job : Job) (v : View) (g : GuestId) (op : UnitOp) (old : Source) → Allows job v (Guest g) old → is_live v.phase ≡ false → is_switched v.phase ≡ false → next_operation job v g.0 ≡ op → IsLegal old.shape op →
    Acts job v g op Alone old
acts-over job v g op old allows over on_source next legal =
    record { allows = allows; on_source = on_source; next = next; legal = legal; aim_is = aim-over job v g old over; no_join = refl; room = refl }

pub guest-acted-alone : (failed : Bool) (job : Job) (v : View) (g : GuestId) (t : Turn) (old new : Source) (op : UnitOp) → Acts job v g op Alone old → HasActed op failed old old new → t ≡ acted op failed → StepsSource job v (Guest g) t old new
guest-acted-alone true job v g t old new op acts has is = guest-acted true job v g t old old new op Alone acts (leaves-alone job v g op old) has is
guest-acted-alone false job v g t old new op acts has is = guest-acted false job v g t old old new op Alone acts (leaves-alone job v g op old) has is
