-- What of the half stays as it was over a call, for those who know of no migration that it is part of.
use Rattle.std.specs.Prelude.{◌≡◌, ◌<◌, ℕ, zero, suc, ◌==◌, Bool, false, List, length, map, replicate, Option, Some, None}
use Rattle.std.proofs.Common.{refl, sym, subst, ap, ◌∙◌, inl, inr, arith}
use Rattle.std.proofs.lemmas.Bool.{cases_Bool}
use Rattle.std.proofs.lemmas.List.{length-set, length-map, length-replicate}
use Rattle.xv_base.specs.Units.{Shape, units}
use Rattle.xv_base.specs.declared.limits.Config.{Config}
use Rattle.xv_base.specs.declared.unit.DiskShape.{DiskShape}
use Rattle.xv_base.specs.declared.operation.Ended.{Ended}
use Rattle.xv_base.specs.declared.operation.Outcome.TheVariants.{Done}
use Rattle.xv_base.specs.declared.event.Event.TheVariants.{Begin, Read, Advance, Round}
use Rattle.xv_device.specs.Told.{Told}
use Rattle.xv_model.specs.Job.{Job}
use Rattle.xv_model.specs.View.{View, number, no_disk}
use Rattle.xv_model.specs.Wait.{Why, wait}
use Rattle.xv_model.specs.Effect.{Turn}
use Rattle.xv_model.specs.Step.{view_by, step, is_flagged}
use Rattle.xv_source.specs.Half.{Source, IsSourceOf}
use Rattle.xv_source.specs.Step.{Allows, StepsSource, HasFewVersions}
use Rattle.xv_source.specs.Waits.{plain_job, plain_view}
use Rattle.xv_source.specs.Limits.{fresh}
use Rattle.xv_source_tests.specs.Uncopied.{IsUncopied}

-- a job of the half's limits; the half is the source's part of it and of a view in which only its own numbers are
abbrev own_job : Bool → Source → Job
own_job beside h = record (plain_job beside h) { config = h.config }

of-itself : (beside : Bool) (h : Source) → IsSourceOf (own_job beside h) (plain_view h) h
of-itself beside h = record { limits = refl; part = refl }

pub record StaysAs (old new : Source) : Type 0 where
  pub shape : new.shape ≡ old.shape
  pub disks : length new.disks ≡ length old.disks
  pub issued : new.issued ≡ old.issued

stays-by : (beside : Bool) (old new : Source) (w : View) → IsSourceOf (own_job beside old) w new → length w.disks ≡ length old.disks → w.outbox.issued ≡ old.issued → StaysAs old new
stays-by beside old new w of disks issued = record {
  shape = ap (λ (j : Job). j.shape) of.limits;
  disks = ap (λ (v : View). length v.disks) of.part ∙ disks;
  issued = ap (λ (v : View). v.outbox.issued) of.part ∙ issued;
}

begin-view : (o : Option Why) (job : Job) (v : View) (d : ℕ) → (length (view_by o false job v (Begin d)).disks ≡ length v.disks) × ((view_by o false job v (Begin d)).outbox.issued ≡ v.outbox.issued)
begin-view None job v d = (length-set v.disks d _, refl)
begin-view (Some why) job v d = (refl, refl)

read-view : (o : Option Why) (job : Job) (v : View) (d : ℕ) → (length (view_by o false job v (Read d)).disks ≡ length v.disks) × ((view_by o false job v (Read d)).outbox.issued ≡ v.outbox.issued)
read-view None job v d = (length-set v.disks d _, refl)
read-view (Some why) job v d = (refl, refl)

round-view : (o : Option Why) (job : Job) (v : View) → (length (view_by o false job v Round).disks ≡ length v.disks) × ((view_by o false job v Round).outbox.issued ≡ v.outbox.issued)
round-view None job v = (refl, refl)
round-view (Some why) job v = (refl, refl)

advance-disks : (o : Option Why) (job : Job) (v : View) (d : ℕ) → length (view_by o false job v (Advance d)).disks ≡ length v.disks
advance-disks None job v d = length-set v.disks d _
advance-disks (Some why) job v d = refl

pub begin-stays : (d : ℕ) (t : Turn) (old new : Source) → ((job : Job) (v : View) → Allows job v (Begin d) old → StepsSource job v (Begin d) t old new) → StaysAs old new
begin-stays d t old new steps =
    let s = steps (own_job false old) (plain_view old) (record { of = of-itself false old; lets = refl }) in
    elim (cases_Bool (is_flagged t)) [
      | inl flagged ↦ stays-by false old new (plain_view old) (s.failed flagged) refl refl
      | inr unflagged ↦
          let v = begin-view (wait (own_job false old) (plain_view old) (Begin d) false) (own_job false old) (plain_view old) d in
          stays-by false old new (step (own_job false old) (plain_view old) (Begin d) false) (s.part unflagged) v.0 v.1
    ]

pub read-stays : (d : ℕ) (t : Turn) (old new : Source) → ((job : Job) (v : View) → Allows job v (Read d) old → StepsSource job v (Read d) t old new) → StaysAs old new
read-stays d t old new steps =
    let s = steps (own_job false old) (plain_view old) (record { of = of-itself false old; lets = refl }) in
    elim (cases_Bool (is_flagged t)) [
      | inl flagged ↦ stays-by false old new (plain_view old) (s.failed flagged) refl refl
      | inr unflagged ↦
          let v = read-view (wait (own_job false old) (plain_view old) (Read d) false) (own_job false old) (plain_view old) d in
          stays-by false old new (step (own_job false old) (plain_view old) (Read d) false) (s.part unflagged) v.0 v.1
    ]

-- of an advance the half is told only how long the history is
abbrev view_of_length : ℕ → Source → View
view_of_length n h = record (plain_view h) { history = replicate n (record { guest = record { 0 = 0 }; outcome = Done }) }

pub advance-keeps-disks : (d n : ℕ) (t : Turn) (old new : Source) → ((job : Job) (v : View) → Allows job v (Advance d) old → length v.history ≡ n → StepsSource job v (Advance d) t old new) → length new.disks ≡ length old.disks
advance-keeps-disks d n t old new steps =
    let job = own_job false old in
    let v = view_of_length n old in
    let s = steps job v (record { of = record { limits = refl; part = refl }; lets = refl }) (length-replicate n _) in
    elim (cases_Bool (is_flagged t)) [
      | inl flagged ↦ ap (λ (w : View). length w.disks) (s.failed flagged).part
      | inr unflagged ↦ ap (λ (w : View). length w.disks) (s.part unflagged).part ∙ advance-disks (wait job v (Advance d) false) job v d
    ]

pub round-stays : (t : Turn) (old new : Source) → ((job : Job) (v : View) → Allows job v Round old → false ≡ (job.format == 2) → StepsSource job v Round t old new) → StaysAs old new
round-stays t old new steps =
    let s = steps (own_job false old) (plain_view old) (record { of = of-itself false old; lets = refl }) refl in
    elim (cases_Bool (is_flagged t)) [
      | inl flagged ↦ stays-by false old new (plain_view old) (s.failed flagged) refl refl
      | inr unflagged ↦
          let v = round-view (wait (own_job false old) (plain_view old) Round false) (own_job false old) (plain_view old) in
          stays-by false old new (step (own_job false old) (plain_view old) Round false) (s.part unflagged) v.0 v.1
    ]

-- a half of which nothing was made has few versions
none-made : (n unit : ℕ) → number (replicate n 0) unit ≡ 0
none-made zero unit = refl
none-made (suc n) zero = refl
none-made (suc n) (suc unit) = none-made n unit

pub few-none : (h : Source) (n : ℕ) → h.issued ≡ replicate n 0 → HasFewVersions h
few-none h n none = λ unit. omega (arith, ap (λ (ns : List ℕ). number ns unit) none, none-made n unit)

-- a half that stays so is one of which nothing is copied still
pub stays-uncopied : (s : Shape) (old new : Source) → IsUncopied s old → StaysAs old new → IsUncopied s new
stays-uncopied s old new is stays = record {
  shape = stays.shape ∙ is.shape;
  disks = stays.disks ∙ is.disks;
  issued = stays.issued ∙ is.issued;
}

pub unit-of : (s : Shape) (h : Source) (unit : ℕ) → IsUncopied s h → unit < units s → unit < units h.shape
unit-of s h unit is there = subst (λ (x : Shape). unit < units x) (sym is.shape) there

-- that each disk of a half that began over a layout has its copy
pub fresh-uncopied : (s : Shape) (config : Config) (told : Told) (faults : ℕ) (h : Source) → h ≡ fresh s config told faults → IsUncopied s h
fresh-uncopied s config told faults h is = record {
  shape = ap (λ (x : Source). x.shape) is;
  disks = ap (λ (x : Source). length x.disks) is ∙ length-map s.disks (λ (d : DiskShape). no_disk);
  issued = ap (λ (x : Source). x.issued) is;
}
