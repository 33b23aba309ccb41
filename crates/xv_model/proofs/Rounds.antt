-- Rounds count what pages were sent.
use Rattle.std.proofs.Common.{◌≡◌, ℕ, zero, suc, ◌+◌, ◌<◌, ◌≤◌, ◌==◌, ◌&&◌, not, Bool, true, false, if◌then◌else◌, List, [], ◌∷◌, length, map, set, get_or, replicate, refl, sym, ap, subst, ◌∙◌, inl, inr, arith}
use Rattle.std.proofs.lemmas.List.{length_push, get_or-set_same, get_or-set_other}
use Rattle.std.proofs.lemmas.Bool.{both_ways, cases_Bool, cases_eq, and_parts, and_from, eqb-true, false_from_ne_true}
use Rattle.xv_model.specs.Job.{Job, IsGoodJob, UnitOp, blocks, disk_of, is_page}
use Rattle.xv_model.specs.View.{View, Phase, Disk, Outbox, disk, front, no_disk, number, member, members, least, is_running, all_copied, all_copied_by, is_copied, is_empty_set}
use Rattle.xv_model.specs.Wait.{Event, Aim, Alone, Store, Join, Mirror, next_operation, next_aim, fits}
use Rattle.xv_model.specs.Effect.{made, guest_by, joined, front_gone, advanced, released, page_sent_off, given_up, without_region, no_pages, cursor_unit}
use Rattle.xv_model.specs.Step.{step}
use Rattle.xv_model.specs.Invariant.{RoundsCount, IsViewOf}
use Rattle.xv_base.specs.declared.unit.DiskShape.{DiskShape}
use Rattle.xv_base.specs.declared.event.Phase.TheVariants.{Stunned, Switched, Cancelled, Failed}
use Rattle.xv_base.specs.declared.operation.Outcome.TheVariants.{Done, Faulted}
use Rattle.xv_model.proofs.Bags.{issued-run-other}
use Rattle.xv_model.proofs.GoesOn.{aim-mirror, member-set_false, member-set_other, member-none, member-lt, members-set_true, members-no_pages, members-some}
use Rattle.xv_model.proofs.Layouts.{block_above, numbered}
use Rattle.xv_model.proofs.Steps.{EffectsKeep, step_keeps}

-- the point of a view
abbrev pub CountsRounds : Job → View → Type 0
CountsRounds job w = RoundsCount job.copy.pages job.format job.config.rounds (length w.history) w.phase (all_copied job w) w.dirty w.to_send w.rounds w.outbox.issued

-- a disk of those that are copied
pub copied_at : (ss : List DiskShape) (ds : List Disk) (d : ℕ) → d < length ss → length ds ≡ length ss → all_copied_by (map (λ s. s.blocks) ss) ds ≡ true → ((get_or ds d no_disk).cursor ≡ blocks ss d) × ((get_or ds d no_disk).region ≡ 0)
copied_at [] ds d l e h = absurd (omega arith)
copied_at (s ∷ ss) [] d l e h = absurd (omega arith)
copied_at (s ∷ ss) (k ∷ ds) zero l e h =
    let here = and_parts (k.cursor == s.blocks) (k.region == 0) (and_parts (is_copied s.blocks k) (all_copied_by (map (λ s. s.blocks) ss) ds) h).0 in
    (eqb-true k.cursor s.blocks here.0, eqb-true k.region 0 here.1)
copied_at (s ∷ ss) (k ∷ ds) (suc d) l e h = copied_at ss ds d (omega arith) (omega arith) (and_parts (is_copied s.blocks k) (all_copied_by (map (λ s. s.blocks) ss) ds) h).1

-- whether all are copied is told by the cursors and the regions
pub copied-set_same : (ns : List ℕ) (ds : List Disk) (d : ℕ) (new : Disk) → new.cursor ≡ (get_or ds d no_disk).cursor → new.region ≡ (get_or ds d no_disk).region → all_copied_by ns (set ds d new) ≡ all_copied_by ns ds
copied-set_same [] ds d new c r = refl
copied-set_same (n ∷ ns) [] d new c r = refl
copied-set_same (n ∷ ns) (k ∷ ds) zero new c r = ap (λ x. ((x == n) && (new.region == 0)) && all_copied_by ns ds) c ∙ ap (λ x. ((k.cursor == n) && (x == 0)) && all_copied_by ns ds) r
copied-set_same (n ∷ ns) (k ∷ ds) (suc d) new c r = ap (λ b. is_copied n k && b) (copied-set_same ns ds d new c r)

pub copied_without : (ns : List ℕ) (ds : List Disk) → all_copied_by ns ds ≡ true → all_copied_by ns (map without_region ds) ≡ true
copied_without [] ds h = refl
copied_without (n ∷ ns) [] h = absurd (cc)
copied_without (n ∷ ns) (k ∷ ds) h =
    let both = and_parts (is_copied n k) (all_copied_by ns ds) h in
    and_from (is_copied n (without_region k)) (all_copied_by ns (map without_region ds)) (and_from (k.cursor == n) true (and_parts (k.cursor == n) (k.region == 0) both.0).0 refl) (copied_without ns ds both.1)

back_false : (old new : Bool) → (old ≡ true → new ≡ true) → new ≡ false → old ≡ false
back_false true new h e = absurd (both_ways new e (h refl))
back_false false new h e = refl

-- what the copy's events need
begun_before : (job : Job) (v : View) (d : ℕ) → IsViewOf job v → d < length job.copy.disks → ((disk v d).cursor ≡ blocks job.copy.disks d → ⊥) → all_copied job v ≡ false
begun_before job v d i l n = false_from_ne_true (all_copied job v) (λ h. n (copied_at job.copy.disks v.disks d l i.lists.disks h).0)

region_before : (job : Job) (v : View) (d : ℕ) → IsViewOf job v → d < length job.copy.disks → 0 < (disk v d).region → all_copied job v ≡ false
region_before job v d i l n = false_from_ne_true (all_copied job v) (λ h. omega (arith, n, (copied_at job.copy.disks v.disks d l i.lists.disks h).1))

-- the point stays where the history grows, no page's versions do, and a copied job stays copied
rounds_kept : (pages format limit n n' : ℕ) (p p' : Phase) (copied copied' : Bool) (dirty to_send : List Bool) (rounds : ℕ) (issued issued' : List ℕ) →
    RoundsCount pages format limit n p copied dirty to_send rounds issued →
    n ≤ n' → (copied' ≡ false → copied ≡ false) → ((page : ℕ) → page < pages → number issued' page ≡ number issued page) → (if is_running p then 0 else 1) ≤ (if is_running p' then 0 else 1) →
    RoundsCount pages format limit n' p' copied' dirty to_send rounds issued'
rounds_kept pages format limit n n' p p' copied copied' dirty to_send rounds issued issued' r le back same up = record {
  apart = r.apart;
  sendings = λ page l. omega (arith, r.sendings page l, same page l, up);
  limited = r.limited;
  beside = λ f c. omega (arith, r.beside f (back c), le);
  limited_beside = λ f. omega (arith, r.limited_beside f, le);
}

-- the versions of a page after a block's message was made
other_issued : (issued : List ℕ) (unit x pages page : ℕ) → pages ≤ unit → page < pages → number (set issued unit x) page ≡ number issued page
other_issued issued unit x pages page le l = get_or-set_other issued unit page x 0 (λ e. omega arith)

-- a page that is written again
stored_apart : (sending : Bool) (dirty to_send : List Bool) (unit page : ℕ) → member to_send unit ≡ sending → ((p : ℕ) → member dirty p ≡ true → member to_send p ≡ false) → member (if not sending then set dirty unit true else dirty) page ≡ true → member to_send page ≡ false
stored_apart true dirty to_send unit page e apart h = apart page h
stored_apart false dirty to_send unit page e apart h = elim (cases_eq page unit) [
  | inl same ↦ ap (member to_send) same ∙ e
  | inr other ↦ apart page (sym (member-set_other dirty unit page true other) ∙ h)
]

stored_members : (b : Bool) (dirty : List Bool) (unit : ℕ) → members (if b then set dirty unit true else dirty) ≤ members dirty + 1
stored_members true dirty unit = members-set_true dirty unit
stored_members false dirty unit = omega arith

stored_rounds : (pages format limit n n' : ℕ) (p : Phase) (copied : Bool) (dirty to_send : List Bool) (rounds : ℕ) (issued : List ℕ) (unit : ℕ) →
    RoundsCount pages format limit n p copied dirty to_send rounds issued → n' ≡ n + 1 →
    RoundsCount pages format limit n' p copied (if not (member to_send unit) then set dirty unit true else dirty) to_send rounds issued
stored_rounds pages format limit n n' p copied dirty to_send rounds issued unit r e = record {
  apart = λ page h. stored_apart (member to_send unit) dirty to_send unit page refl r.apart h;
  sendings = r.sendings;
  limited = r.limited;
  beside = λ f c. omega (arith, r.beside f c, stored_members (not (member to_send unit)) dirty unit, e);
  limited_beside = λ f. omega (arith, r.limited_beside f, e);
}

guest_rounds : (job : Job) (v : View) (g : ℕ) (op : UnitOp) (a : Aim) → IsViewOf job v → (a ≡ Mirror → is_page job.copy op.unit.0 ≡ false) → CountsRounds job (guest_by job v g op a)
guest_rounds job v g op Alone i block =
    rounds_kept job.copy.pages job.format job.config.rounds (length v.history) _ v.phase v.phase (all_copied job v) (all_copied job v) v.dirty v.to_send v.rounds v.outbox.issued v.outbox.issued i.rounds
    (omega (arith, length_push v.history (record { guest = record { 0 = g }; outcome = Done }))) (λ h. h) (λ page l. refl) (omega arith)
guest_rounds job v g op Store i block =
    stored_rounds job.copy.pages job.format job.config.rounds (length v.history) _ v.phase (all_copied job v) v.dirty v.to_send v.rounds v.outbox.issued op.unit.0 i.rounds (length_push v.history (record { guest = record { 0 = g }; outcome = Done }))
guest_rounds job v g op Join i block =
    rounds_kept job.copy.pages job.format job.config.rounds (length v.history) (length v.history) v.phase v.phase (all_copied job v) _ v.dirty v.to_send v.rounds v.outbox.issued v.outbox.issued i.rounds
    (omega arith) (λ h. sym (copied-set_same (map (λ s. s.blocks) job.copy.disks) v.disks (disk_of job.copy op.unit.0) (joined (disk v (disk_of job.copy op.unit.0)) g op.unit.0) refl refl) ∙ h) (λ page l. refl) (omega arith)
guest_rounds job v g op Mirror i block =
    rounds_kept job.copy.pages job.format job.config.rounds (length v.history) _ v.phase v.phase (all_copied job v) (all_copied job v) v.dirty v.to_send v.rounds v.outbox.issued _ i.rounds
    (omega (arith, length_push v.history (record { guest = record { 0 = g }; outcome = Done }))) (λ h. h) (λ page l. other_issued v.outbox.issued op.unit.0 _ job.copy.pages page (block_above job.copy op.unit.0 (block refl)) l) (omega arith)

released_issued : (r : Bool) (box : Outbox) (unit at pages page : ℕ) → pages ≤ unit → page < pages → number (if r then made box unit at else box).issued page ≡ number box.issued page
released_issued true box unit at pages page le l = other_issued box.issued unit (number box.issued unit + 1) pages page le l
released_issued false box unit at pages page le l = refl

same_queue : (job : Job) (v : View) (d : ℕ) → all_copied_by (map (λ s. s.blocks) job.copy.disks) (set v.disks d (front_gone (disk v d))) ≡ all_copied job v
same_queue job v d = copied-set_same (map (λ s. s.blocks) job.copy.disks) v.disks d (front_gone (disk v d)) refl refl

released_rounds : (job : Job) (v : View) (d : ℕ) → IsViewOf job v → 0 < length (disk v d).queue → CountsRounds job (released v d)
released_rounds job v d i some =
    let w = i.queues.of_disk d 0 some in
    rounds_kept job.copy.pages job.format job.config.rounds (length v.history) _ v.phase v.phase (all_copied job v) _ v.dirty v.to_send v.rounds v.outbox.issued _ i.rounds
    (omega (arith, length_push v.history (record { guest = (front (disk v d)).guest; outcome = Done }))) (λ h. sym (same_queue job v d) ∙ h)
    (λ page l. released_issued (is_running v.phase) v.outbox (front (disk v d)).unit.0 (length v.history + 1) job.copy.pages page (block_above job.copy (front (disk v d)).unit.0 w.0) l) (omega arith)

advanced_rounds : (job : Job) (v : View) (d : ℕ) → IsViewOf job v → d < length job.copy.disks → 0 < (disk v d).region → CountsRounds job (advanced job v d)
advanced_rounds job v d i m some =
    let above = (numbered job.copy).no_page d (disk v d).cursor in
    rounds_kept job.copy.pages job.format job.config.rounds (length v.history) (length v.history) v.phase v.phase (all_copied job v) _ v.dirty v.to_send v.rounds v.outbox.issued _ i.rounds
    (omega arith) (λ h. region_before job v d i m some) (λ page l. issued-run-other v.outbox (cursor_unit job v d) (length v.history) (disk v d).region page (inl (omega (arith, above, l)))) (omega arith)

-- a page that is sent off
unset : (s : List Bool) (i page : ℕ) → member s page ≡ false → member (set s i false) page ≡ false
unset s i page h = elim (cases_eq page i) [
  | inl same ↦ subst (λ k. member (set s i false) k ≡ false) (sym same) (member-set_false s i)
  | inr other ↦ member-set_other s i page false other ∙ h
]

sent_page : (issued : List ℕ) (to_send : List Bool) (i page bound : ℕ) → i < length issued → member to_send i ≡ true → number issued page + (if member to_send page then 1 else 0) ≤ bound →
    number (set issued i (number issued i + 1)) page + (if member (set to_send i false) page then 1 else 0) ≤ bound
sent_page issued to_send i page bound l m h = elim (cases_eq page i) [
  | inl same ↦
      let new : number (set issued i (number issued i + 1)) page ≡ number issued i + 1 = ap (number (set issued i (number issued i + 1))) same ∙ get_or-set_same issued i (number issued i + 1) 0 l in
      let gone : member (set to_send i false) page ≡ false = ap (member (set to_send i false)) same ∙ member-set_false to_send i in
      let was : member to_send page ≡ true = ap (member to_send) same ∙ m in
      let old : number issued page ≡ number issued i = ap (number issued) same in
      let less : number issued page + 1 ≤ bound = subst (λ b. number issued page + (if b then 1 else 0) ≤ bound) was h in
      subst (λ b. number (set issued i (number issued i + 1)) page + (if b then 1 else 0) ≤ bound) (sym gone) (omega (arith, new, old, less))
  | inr other ↦
      subst (λ b. number (set issued i (number issued i + 1)) page + (if b then 1 else 0) ≤ bound) (sym (member-set_other to_send i page false other))
      (subst (λ k. k + (if member to_send page then 1 else 0) ≤ bound) (sym (get_or-set_other issued i page (number issued i + 1) 0 other)) h)
]

page_rounds : (job : Job) (v : View) → IsViewOf job v → member v.to_send (least v.to_send) ≡ true → CountsRounds job (page_sent_off v)
page_rounds job v i m =
    let r = i.rounds in
    let l = i.lists in
    let below = member-lt v.to_send (least v.to_send) m in
    record {
      apart = λ page h. unset v.to_send (least v.to_send) page (r.apart page h);
      sendings = λ page p. sent_page v.outbox.issued v.to_send (least v.to_send) page (v.rounds + (if is_running v.phase then 0 else 1)) (omega (arith, below, l.to_send, l.issued)) m (r.sendings page p);
      limited = r.limited;
      beside = r.beside;
      limited_beside = r.limited_beside;
    }

-- a round that begins
at_most_one : (b : Bool) → (if b then 1 else 0) ≤ 1
at_most_one true = omega arith
at_most_one false = omega arith

no_member : (n page : ℕ) (b : Bool) → member (replicate n false) page ≡ true → b ≡ false
no_member n page b h = absurd (both_ways (member (replicate n false) page) (member-none n page) h)

round_rounds : (pages format limit n : ℕ) (p : Phase) (copied : Bool) (dirty to_send : List Bool) (rounds : ℕ) (issued : List ℕ) →
    RoundsCount pages format limit n p copied dirty to_send rounds issued →
    (copied ≡ true → rounds < limit) → (copied ≡ false → format ≡ 2) → (copied ≡ false → is_empty_set dirty ≡ false) →
    RoundsCount pages format limit n p copied (no_pages dirty) dirty (rounds + 1) issued
round_rounds pages format limit n p copied dirty to_send rounds issued r below two some = record {
  apart = λ page h. no_member (length dirty) page (member dirty page) h;
  sendings = λ page l. omega (arith, r.sendings page l, at_most_one (member dirty page));
  limited = λ f. elim (cases_Bool copied) [
    | inl c ↦ omega (arith, below c)
    | inr c ↦ absurd (omega (arith, f, two c))
  ];
  beside = λ f c. omega (arith, r.beside f c, members-some dirty (some c), members-no_pages (length dirty));
  limited_beside = λ f. elim (cases_Bool copied) [
    | inl c ↦ omega (arith, below c)
    | inr c ↦ omega (arith, r.beside f c, members-some dirty (some c))
  ];
}

-- the stun, which sends the last pages
stunned_rounds : (pages format limit n : ℕ) (p : Phase) (copied : Bool) (dirty to_send : List Bool) (rounds : ℕ) (issued : List ℕ) →
    RoundsCount pages format limit n p copied dirty to_send rounds issued → is_running p ≡ true → copied ≡ true →
    RoundsCount pages format limit n Stunned copied (no_pages dirty) dirty rounds issued
stunned_rounds pages format limit n p copied dirty to_send rounds issued r running c = record {
  apart = λ page h. no_member (length dirty) page (member dirty page) h;
  sendings = λ page l.
      let old = subst (λ b. number issued page + (if member to_send page then 1 else 0) ≤ rounds + (if b then 0 else 1)) running (r.sendings page l) in
      omega (arith, old, at_most_one (member dirty page));
  limited = r.limited;
  beside = λ f not_copied. absurd (both_ways copied not_copied c);
  limited_beside = r.limited_beside;
}

-- the phase is over
phase_up : (b : Bool) → (if b then 0 else 1) ≤ 1
phase_up true = omega arith
phase_up false = omega arith

given_up_rounds : (job : Job) (v : View) (p : Phase) → IsViewOf job v → is_running p ≡ false → CountsRounds job (given_up v p)
given_up_rounds job v p i stops =
    rounds_kept job.copy.pages job.format job.config.rounds (length v.history) (length v.history) v.phase p (all_copied job v) _ v.dirty v.to_send v.rounds v.outbox.issued v.outbox.issued i.rounds
    (omega arith) (back_false (all_copied job v) _ (copied_without (map (λ s. s.blocks) job.copy.disks) v.disks)) (λ page l. refl)
    (subst (λ b. (if is_running v.phase then 0 else 1) ≤ (if b then 0 else 1)) (sym stops) (phase_up (is_running v.phase)))

pub rounds-keep : (job : Job) (v : View) → IsGoodJob job → IsViewOf job v → EffectsKeep (CountsRounds job) job v
rounds-keep job v good i =
    let r = i.rounds in
    let ns = map (λ (s : DiskShape). s.blocks) job.copy.disks in
    record {
      guest = λ g m goes.
          let op = next_operation job v g in
          guest_rounds job v g op (next_aim job v g) i (λ e. (aim-mirror job v op e).block);
      guest_fault = λ g m goes.
          rounds_kept job.copy.pages job.format job.config.rounds (length v.history) _ v.phase v.phase (all_copied job v) (all_copied job v) v.dirty v.to_send v.rounds v.outbox.issued v.outbox.issued r
          (omega (arith, length_push v.history (record { guest = record { 0 = g }; outcome = Faulted }))) (λ h. h) (λ page l. refl) (omega arith);
      begin = λ d l goes.
          rounds_kept job.copy.pages job.format job.config.rounds (length v.history) (length v.history) v.phase v.phase (all_copied job v) _ v.dirty v.to_send v.rounds v.outbox.issued v.outbox.issued r
          (omega arith) (λ h. begun_before job v d i l goes.not_copied) (λ page p. refl) (omega arith);
      read = λ d l goes.
          rounds_kept job.copy.pages job.format job.config.rounds (length v.history) (length v.history) v.phase v.phase (all_copied job v) _ v.dirty v.to_send v.rounds v.outbox.issued v.outbox.issued r
          (omega arith) (λ h. sym (copied-set_same ns v.disks d (record (disk v d) { got = (disk v d).got + 1 }) refl refl) ∙ h) (λ page p. refl) (omega arith);
      advance = λ d l goes. advanced_rounds job v d i l goes.some_region;
      release = λ d l goes. released_rounds job v d i goes.some_queue;
      release_fault = λ d l goes.
          rounds_kept job.copy.pages job.format job.config.rounds (length v.history) _ v.phase v.phase (all_copied job v) _ v.dirty v.to_send v.rounds v.outbox.issued v.outbox.issued r
          (omega (arith, length_push v.history (record { guest = record { 0 = (front (disk v d)).guest.0 }; outcome = Faulted }))) (λ h. sym (same_queue job v d) ∙ h) (λ page p. refl) (omega arith);
      round = λ goes. round_rounds job.copy.pages job.format job.config.rounds (length v.history) v.phase (all_copied job v) v.dirty v.to_send v.rounds v.outbox.issued r goes.below_limit goes.format_two goes.some_dirty;
      page = λ goes. page_rounds job v i goes.is_member;
      send = λ s m goes. r;
      deliver = λ s m goes. r;
      apply = λ goes. r;
      ack = λ goes. r;
      credit = λ goes. r;
      stun = λ goes. stunned_rounds job.copy.pages job.format job.config.rounds (length v.history) v.phase (all_copied job v) v.dirty v.to_send v.rounds v.outbox.issued r goes.running goes.copied;
      switch = λ goes.
          rounds_kept job.copy.pages job.format job.config.rounds (length v.history) (length v.history) v.phase Switched (all_copied job v) (all_copied job v) v.dirty v.to_send v.rounds v.outbox.issued v.outbox.issued r
          (omega arith) (λ h. h) (λ page p. refl) (phase_up (is_running v.phase));
      cancel = λ goes. given_up_rounds job v Cancelled i refl;
      fail = λ live. given_up_rounds job v Failed i refl;
    }

pub rounds-step : (job : Job) (v : View) (e : Event) (flag : Bool) → IsGoodJob job → fits job e ≡ true → IsViewOf job v → CountsRounds job (step job v e flag)
rounds-step job v e flag good f i = step_keeps (CountsRounds job) job v e flag f i.rounds (rounds-keep job v good i)
