-- From a write that has left its queue to the machine's step.
use Rattle.std.specs.Prelude.{◌≡◌, ℕ, ◌+◌, ◌&&◌, ◌==◌, not, Bool, true, false, List, [], ◌∷◌, ◌++◌, length, set, get_or, Option, Some, None, is_some, unwrap_or, if◌then◌else◌}
use Rattle.std.proofs.Common.{refl, sym, ap, subst, ◌∙◌}
use Rattle.std.proofs.lemmas.Bool.{and_parts, eqb-true}
use Rattle.xv_base.specs.declared.answer.Turn.TheVariants.{Faulted}
use Rattle.xv_base.specs.declared.event.Event.TheVariants.{Release}
use Rattle.xv_base.specs.declared.answer.Why.TheVariants.{NothingThere, CancelDue, NotNow, Throttled}
use Rattle.xv_base.specs.Units.{is_page, block_of}
use Rattle.xv_device.specs.Told.{Told, IsSized}
use Rattle.xv_model.specs.Job.{Job, UnitOp, IsLegal}
use Rattle.xv_model.specs.Guest.{writes_to}
use Rattle.xv_model.specs.View.{View, Waiting, disk, no_disk, front, number, is_empty, is_inside, is_live, is_running}
use Rattle.xv_model.specs.Wait.{wait, unless, cancel_due, is_full}
use Rattle.xv_model.specs.Effect.{Turn, made, released as released_view}
use Rattle.xv_model.specs.Step.{is_flagged, is_wait}
use Rattle.xv_model.specs.Contents.{Contents, unit_content, after_operation, front_operation, release_moves}
use Rattle.xv_source.specs.Half.{Source, with_limits, with_source, with_source_bytes, IsSourceOf, HasSourceBytes}
use Rattle.xv_source.specs.Step.{after_fault, Allows, StepsSource}
use Rattle.xv_source.specs.Operations.{released, laid, mirrored, left, HasActed}
use Rattle.xv_source.specs.Waits.{own_wait}
use Rattle.xv_source.proofs.Steps.{along, against, Does, steps-does, steps-failed}
use Rattle.xv_source.proofs.Operated.{told-operated, tells-operated, told-unchanged, block-written}
use Rattle.xv_source.proofs.Acting.{part-bytes, not-running}
use Rattle.xv_source.proofs.Waits.{own-goes}

-- what is known of the write at the front of a queue
pub record Frees (job : Job) (v : View) (d : ℕ) (op : UnitOp) (old : Source) : Type 0 where
  pub of : IsSourceOf job v old
  pub goes : (flag : Bool) → wait job v (Release d) flag ≡ None
  pub front_is : front_operation job v d ≡ op
  pub legal : IsLegal old.shape op

-- what is left of the half by one that was done
pub record LeavesFront (job : Job) (v : View) (d : ℕ) (op : UnitOp) (old leaves : Source) : Type 0 where
  pub part : (told : Told) (faults : ℕ) → IsSourceOf (with_limits job old) (released_view (with_source v old) d) (record leaves { told = told; faults = faults })
  pub regions : leaves.regions ≡ old.regions
  pub contents : is_some old.told.contents ≡ true →
      leaves.contents
      ≡ (if is_running v.phase then old.contents ++ unit_content (after_operation op (unwrap_or old.told.contents [])) (front (get_or old.disks d no_disk)).unit.0 ∷ [] else old.contents)

-- the operation of the front, in the half's numbers
front-at : (job : Job) (v : View) (d : ℕ) (op : UnitOp) (old : Source) → Frees job v d op old → front_operation (with_limits job old) (with_source v old) d ≡ op
front-at job v d op old frees = against (λ (j : Job) (w : View). front_operation j w d ≡ op) job v old frees.of frees.front_is

free-bytes : (job : Job) (v : View) (d : ℕ) (op : UnitOp) (old leaves new : Source) (c : Contents) → Frees job v d op old → LeavesFront job v d op old leaves → HasActed op false old leaves new →
    is_some old.told.contents ≡ true → HasSourceBytes (release_moves (with_limits job old) (with_source v old) d (with_source_bytes c old)) new
free-bytes job v d op old leaves new c frees left has tells =
    let at = front-at job v d op old frees in
    let source : unwrap_or new.told.contents [] ≡ after_operation op (unwrap_or old.told.contents []) =
    ap (λ (x : Told). unwrap_or x.contents []) has.made.told ∙ told-operated old.shape op old.told frees.legal has.layout has.sized tells in
    record {
      told = subst (λ (x : Told). is_some x.contents ≡ true) (sym has.made.told) (tells-operated old.shape op false old.told tells);
      part = part-bytes (release_moves (with_limits job old) (with_source v old) d (with_source_bytes c old)) new
          (source ∙ ap (λ (o : UnitOp). after_operation o (unwrap_or old.told.contents [])) (sym at))
          (ap (λ (h : Source). h.regions) has.rest ∙ left.regions)
          (ap (λ (h : Source). h.contents) has.rest ∙ left.contents tells
          ∙ ap (λ (o : UnitOp). if is_running v.phase then old.contents ++ unit_content (after_operation o (unwrap_or old.told.contents [])) (front (get_or old.disks d no_disk)).unit.0 ∷ [] else old.contents) (sym at));
    }

free-done : (job : Job) (v : View) (d : ℕ) (t : Turn) (old leaves new : Source) (op : UnitOp) → Frees job v d op old → LeavesFront job v d op old leaves → HasActed op false old leaves new →
    t ≡ released (front (get_or old.disks d no_disk)) false → StepsSource job v (Release d) t old new
free-done job v d t old leaves new op frees left has is =
    let does : Does job v (Release d) t old new = record {
      answers = is;
      part = subst (λ (n : Source). IsSourceOf (with_limits job old) (released_view (with_source v old) d) n) (sym has.rest) (left.part new.told new.faults);
      bytes = λ c tells whole. free-bytes job v d op old leaves new c frees left has tells;
    } in
    steps-does job v (Release d) t old new frees.of (frees.goes false) (ap (λ (x : Turn). is_flagged x) is) (ap (λ (x : Turn). is_wait x) is) does

free-failed : (job : Job) (v : View) (d : ℕ) (t : Turn) (old new : Source) (op : UnitOp) → Frees job v d op old → HasActed op true old (left d old) new → t ≡ Faulted → StepsSource job v (Release d) t old new
free-failed job v d t old new op frees has is =
    let part : IsSourceOf job (after_fault v (Release d)) new =
    subst (λ (n : Source). IsSourceOf job (after_fault v (Release d)) n) (sym has.rest)
    (along (λ (j : Job) (w : View). IsSourceOf j (after_fault w (Release d)) (record (left d old) { told = new.told; faults = new.faults })) job v old frees.of (record { limits = refl; part = refl })) in
    steps-failed job v (Release d) t old new (frees.goes true) refl (ap (λ (x : Turn). is_flagged x) is) (ap (λ (x : Turn). is_wait x) is) is part
    (λ c before.
    record {
      told = subst (λ (x : Told). is_some x.contents ≡ true) (sym has.made.told) (tells-operated old.shape op true old.told before.told);
      part =
          part-bytes c new
          (ap (λ (x : Told). unwrap_or x.contents []) has.made.told ∙ told-unchanged old.shape op old.told before.told ∙ ap (λ (x : Contents). x.source) before.part)
          (ap (λ (h : Source). h.regions) has.rest ∙ ap (λ (x : Contents). x.regions) before.part)
          (ap (λ (h : Source). h.contents) has.rest ∙ ap (λ (x : Contents). x.outbox) before.part);
    })

pub front-freed : (failed : Bool) (job : Job) (v : View) (d : ℕ) (t : Turn) (old leaves new : Source) (op : UnitOp) → Frees job v d op old → LeavesFront job v d op old (left d leaves) →
    HasActed op failed old (left d (if failed then old else leaves)) new → t ≡ released (front (get_or old.disks d no_disk)) failed → StepsSource job v (Release d) t old new
front-freed true job v d t old leaves new op frees left_is has is = free-failed job v d t old new op frees has is
front-freed false job v d t old leaves new op frees left_is has is = free-done job v d t old (left d leaves) new op frees left_is has is

-- where the same is left in both cases
same-left : (op : UnitOp) (d : ℕ) (old new : Source) (failed : Bool) → HasActed op failed old (left d old) new → HasActed op failed old (left d (if failed then old else old)) new
same-left op d old new true has = has
same-left op d old new false has = has

-- a migration that runs makes a message, and one that has ended makes none
same-unit : (op : UnitOp) (unit : ℕ) → writes_to op unit ≡ true → op.unit.0 ≡ unit
same-unit op unit writes = eqb-true op.unit.0 unit (and_parts (is_some op.write) (op.unit.0 == unit) writes).1

abbrev front_of : Source → ℕ → Waiting
front_of h d = front (get_or h.disks d no_disk)

-- the view afterwards, by whether the migration runs
abbrev freed_view : View → ℕ → Bool → View
freed_view v d run = record (released_view v d) { outbox = if run then made v.outbox (front (disk v d)).unit.0 (length v.history + 1) else v.outbox }

abbrev message_at : ℕ → ℕ → List ℕ → Source → Source
message_at unit at content h = record h {
  messages = h.messages ++ record { unit = record { 0 = unit }; version = number h.issued unit + 1; at = at } ∷ [];
  contents = h.contents ++ content ∷ [];
  issued = set h.issued unit (number h.issued unit + 1);
}

pub leaves-front-alone : (job : Job) (v : View) (d : ℕ) (op : UnitOp) (old : Source) → is_running v.phase ≡ false → LeavesFront job v d op old (left d old)
leaves-front-alone job v d op old over = record {
  part = λ told faults.
      let P : Bool → Type 0 = λ run. IsSourceOf (with_limits job old) (freed_view (with_source v old) d run) (record (left d old) { told = told; faults = faults }) in
      subst P (sym over) (record { limits = refl; part = refl });
  regions = refl;
  contents = λ tells. ap (λ (run : Bool). if run then old.contents ++ unit_content (after_operation op (unwrap_or old.told.contents [])) (front_of old d).unit.0 ∷ [] else old.contents) (sym over);
}

pub leaves-front-mirrored : (job : Job) (v : View) (d : ℕ) (op : UnitOp) (pattern : List ℕ) (old : Source) → is_running v.phase ≡ true → writes_to op (front_of old d).unit.0 ≡ true →
    IsLegal old.shape op → old.told.shape ≡ old.shape → IsSized old.told → op.write ≡ Some pattern → is_page old.shape op.unit.0 ≡ false →
    LeavesFront job v d op old (left d (mirrored op (length v.history + 1) old))
leaves-front-mirrored job v d op pattern old running to legal same sized writes block =
    let unit = same-unit op (front_of old d).unit.0 to in
    record {
      part = λ told faults.
          let Q : ℕ → Type 0 = λ u. IsSourceOf (with_limits job old) (freed_view (with_source v old) d true) (record (left d (message_at u (length v.history + 1) (laid op.write op.len) old)) { told = told; faults = faults }) in
          let P : Bool → Type 0 = λ run. IsSourceOf (with_limits job old) (freed_view (with_source v old) d run) (record (left d (mirrored op (length v.history + 1) old)) { told = told; faults = faults }) in
          subst P (sym running) (subst Q (sym unit) (record { limits = refl; part = refl }));
      regions = refl;
      contents = λ tells.
          ap (λ (bytes : List ℕ). old.contents ++ bytes ∷ [])
          (sym (block-written old.shape op pattern old.told legal same sized tells writes block) ∙ ap (λ (u : ℕ). unit_content (after_operation op (unwrap_or old.told.contents [])) u) unit)
          ∙ ap (λ (run : Bool). if run then old.contents ++ unit_content (after_operation op (unwrap_or old.told.contents [])) (front_of old d).unit.0 ∷ [] else old.contents) (sym running);
    }

-- the front in a migration that has ended, and in one that runs
free-by : (empty due run inside full : Bool) → (not empty && not due) ≡ true → run ≡ false →
    unless empty NothingThere (unless due CancelDue (unless (run && inside) NotNow (unless (run && full) Throttled None))) ≡ None
free-by false false false inside full lets over = refl
free-by true due run inside full lets over = absurd (cc)
free-by false true run inside full lets over = absurd (cc)
free-by false false true inside full lets over = absurd (cc)

pub frees-over : (job : Job) (v : View) (d : ℕ) (op : UnitOp) (old : Source) → Allows job v (Release d) old → is_running v.phase ≡ false → front_operation job v d ≡ op → IsLegal old.shape op → Frees job v d op old
frees-over job v d op old allows over front_is legal = record {
  of = allows.of;
  goes = λ flag. free-by (is_empty (disk v d).queue) (cancel_due job v) (is_running v.phase) (is_inside (disk v d) (block_of job.copy (front (disk v d)).unit.0)) (is_full job v) allows.lets over;
  front_is = front_is;
  legal = legal;
}

pub frees-running : (job : Job) (v : View) (d : ℕ) (op : UnitOp) (old : Source) → Allows job v (Release d) old → is_running v.phase ≡ true → own_wait false old (Release d) ≡ None → front_operation job v d ≡ op → IsLegal old.shape op → Frees job v d op old
frees-running job v d op old allows running goes front_is legal =
    record { of = allows.of; goes = λ flag. own-goes job v (Release d) old flag allows running refl goes; front_is = front_is; legal = legal }

-- a write that has left its queue, in each
written-by : (w : Option (List ℕ)) → is_some w ≡ true → (pattern : List ℕ) × (w ≡ Some pattern)
written-by None some = absurd (cc)
written-by (Some pattern) some = (pattern, refl)

pub released-alone : (failed : Bool) (job : Job) (v : View) (d : ℕ) (t : Turn) (old new : Source) (op : UnitOp) → Allows job v (Release d) old → is_live v.phase ≡ false → front_operation job v d ≡ op → IsLegal old.shape op →
    HasActed op failed old (left d old) new → t ≡ released (front_of old d) failed → StepsSource job v (Release d) t old new
released-alone failed job v d t old new op allows over front_is legal has is =
    let stopped = not-running v.phase over in
    front-freed failed job v d t old old new op (frees-over job v d op old allows stopped front_is legal) (leaves-front-alone job v d op old stopped) (same-left op d old new failed has) is

pub released-mirrored : (failed : Bool) (job : Job) (v : View) (d : ℕ) (t : Turn) (old new : Source) (op : UnitOp) (n : ℕ) → Allows job v (Release d) old → is_running v.phase ≡ true → own_wait false old (Release d) ≡ None →
    front_operation job v d ≡ op → length v.history ≡ n → IsLegal old.shape op → writes_to op (front_of old d).unit.0 ≡ true → is_page old.shape op.unit.0 ≡ false →
    HasActed op failed old (left d (if failed then old else mirrored op (n + 1) old)) new → t ≡ released (front_of old d) failed → StepsSource job v (Release d) t old new
released-mirrored failed job v d t old new op n allows running goes front_is is_length legal to block has is =
    let some = (and_parts (is_some op.write) (op.unit.0 == (front_of old d).unit.0) to).0 in
    let w = written-by op.write some in
    front-freed failed job v d t old (mirrored op (length v.history + 1) old) new op (frees-running job v d op old allows running goes front_is legal)
    (leaves-front-mirrored job v d op w.0 old running to legal has.layout (has.sized some) w.1 block)
    (subst (λ (k : ℕ). HasActed op failed old (left d (if failed then old else mirrored op (k + 1) old)) new) (sym is_length) has) is
