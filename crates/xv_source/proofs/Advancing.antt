-- A region that is sent off, in the fields and as the machine's step.
use Rattle.std.specs.Prelude.{◌≡◌, ◌≤◌, ◌<◌, Bool, ℕ, zero, suc, ◌+◌, ◌-◌, false, List, [], ◌∷◌, ◌++◌, length, map, set, get_or, None}
use Rattle.std.proofs.Common.{refl, sym, ap, subst, ◌∙◌, arith}
use Rattle.std.proofs.lemmas.List.{take_all}
use Rattle.xv_base.specs.Units.{Shape, units, size, blocks, unit_of_block}
use Rattle.xv_base.specs.declared.limits.Config.{Config}
use Rattle.xv_credit.specs.Counts.{Count}
use Rattle.xv_device.specs.Told.{Told}
use Rattle.xv_base.specs.declared.answer.Turn.TheVariants.{Done}
use Rattle.xv_base.specs.declared.event.Event.TheVariants.{Advance}
use Rattle.xv_base.proofs.Partition.{numbers_blocks}
use Rattle.xv_model.specs.Job.{Job}
use Rattle.xv_model.specs.View.{View, number, Disk, Outbox as Box, UnitHead, no_disk}
use Rattle.xv_model.specs.Effect.{made_run, advanced}
use Rattle.xv_model.proofs.GoesOn.{advance_goes}
use Rattle.xv_outbox.specs.Messages.{Outbox, Message, heads, contents}
use Rattle.xv_region.specs.Copying.{Copying}
use Rattle.xv_source.specs.declared.disk.DiskCopy.{DiskCopy}
use Rattle.xv_source.specs.Half.{Source, with_limits, with_source}
use Rattle.xv_source.specs.Kept.{numbers_of, IsCopyOf, IsKept}
use Rattle.xv_source.specs.Making.{made_blocks}
use Rattle.xv_source.specs.Regions.{box_of, sent_off}
use Rattle.xv_source.specs.Step.{Allows, StepsSource}
use Rattle.xv_source.specs.Waits.{own_wait, plain_job, plain_view}
use Rattle.xv_frame.specs.Frame.{Each}
use Rattle.xv_source.proofs.KeptBy.{kept-outbox, each-push}
use Rattle.xv_source.proofs.OneDisk.{blocks_of, changed, numbers-of, read-of}
use Rattle.xv_source.proofs.MadeBlocks.{made-shape, made-limit, heads-made, issued-made, contents-made}
use Rattle.xv_source.proofs.Steps.{steps-does}
use Rattle.xv_source.proofs.Waits.{own-goes}

-- a region that may be sent off: all of it is read, and there is room for its messages
pub record MayGo (h : Source) (copy : DiskCopy) : Type 0 where
  pub some : 0 < copy.region.region
  pub all : length copy.region.read ≡ copy.region.region
  pub room : length h.messages + length copy.region.read ≤ h.config.outbox

pub may-go : (h : Source) (d : ℕ) (copy : DiskCopy) → own_wait false h (Advance d) ≡ None → numbers_of copy ≡ get_or h.disks d no_disk → length copy.region.read ≤ copy.region.region → MayGo h copy
may-go h d copy goes same within =
    let g = advance_goes (plain_job false h) (plain_view h) d false goes in
    let some : 0 < copy.region.region = subst (λ (k : Disk). 0 < k.region) (sym same) g.some_region in
    let all : copy.region.region ≤ length copy.region.read = subst (λ (k : Disk). k.region ≤ k.got) (sym same) g.all_read in
    let room : length h.messages + copy.region.region ≤ h.config.outbox = subst (λ (k : Disk). length h.messages + k.region ≤ h.config.outbox) (sym same) g.has_room in
    record { some = some; all = omega arith; room = omega arith }

-- its units are blocks of the disk, each of the size of its places
module _ (s : Shape) (most d : ℕ) (copy : DiskCopy) (of : IsCopyOf s most d copy) (lt : d < length s.disks) (some : 0 < copy.region.region) (all : length copy.region.read ≡ copy.region.region) where
  pub units-in : unit_of_block s d copy.region.cursor + length copy.region.read ≤ units s
  units-in =
      let within = of.within in
      let last : copy.region.cursor + (copy.region.region - 1) < blocks s.disks d = omega arith in
      omega (arith, (numbers_blocks s).unit_in d (copy.region.cursor + (copy.region.region - 1)) lt last)

  pub sizes-are : (i : ℕ) → i < length copy.region.read → size s (unit_of_block s d copy.region.cursor + i) ≡ copy.region.size
  sizes-are i h =
      let within = of.within in
      let here : copy.region.cursor + i < blocks s.disks d = omega arith in
      let same : unit_of_block s d copy.region.cursor + i ≡ unit_of_block s d (copy.region.cursor + i) = omega arith in
      ap (size s) same ∙ (numbers_blocks s).size_of_disk d (copy.region.cursor + i) lt here ∙ sym of.size

-- the same in an outbox of this layout, from the first unit on
pub units-within : (s : Shape) (most d first : ℕ) (copy : DiskCopy) (box : Outbox) → box.shape ≡ s → first ≡ unit_of_block s d copy.region.cursor → IsCopyOf s most d copy → d < length s.disks → 0 < copy.region.region →
    length copy.region.read ≡ copy.region.region → first + length copy.region.read ≤ units box.shape
units-within s most d first copy box same here of lt some all = subst (λ (x : Shape). first + length copy.region.read ≤ units x) (sym same) (omega (arith, here, units-in s most d copy of lt some all))

pub sizes-within : (s : Shape) (most d first : ℕ) (copy : DiskCopy) (box : Outbox) → box.shape ≡ s → first ≡ unit_of_block s d copy.region.cursor → IsCopyOf s most d copy → d < length s.disks → 0 < copy.region.region →
    length copy.region.read ≡ copy.region.region → (i : ℕ) → i < length copy.region.read → size box.shape (first + i) ≡ copy.region.size
sizes-within s most d first copy box same here of lt some all i h =
    ap (λ (x : Shape). size x (first + i)) same ∙ ap (λ (u : ℕ). size s (u + i)) here ∙ sizes-are s most d copy of lt some all i h

-- the copy stays that of the disk when the cursor moves behind the region
pub copy-moved : (s : Shape) (most d : ℕ) (copy : DiskCopy) (region : Copying) → IsCopyOf s most d copy → region ≡ record copy.region { cursor = copy.region.cursor + copy.region.region; region = 0; read = []; next = region.next } →
    IsCopyOf s most d (record copy { region = region })
copy-moved s most d copy region of moved =
    let at : region.cursor ≡ copy.region.cursor + copy.region.region = ap (λ (r : Copying). r.cursor) moved in
    let none : region.region ≡ 0 = ap (λ (r : Copying). r.region) moved in
    let within = of.within in
    record {
      within = omega arith;
      room = ap (λ (r : Copying). r.most) moved ∙ of.room;
      size = ap (λ (r : Copying). r.size) moved ∙ of.size;
      queued = of.queued;
    }

-- every message has a version
pub each-made : (box : Outbox) (unit at : ℕ) (bs : List (List ℕ)) (n : ℕ) → Each (λ m. 1 ≤ m.head.version) box.messages → Each (λ m. 1 ≤ m.head.version) (made_blocks box unit at bs n).messages
each-made box unit at bs zero each = each
each-made box unit at bs (suc n) each = each-push (λ (m : Message). 1 ≤ m.head.version) (made_blocks box unit at bs n).messages _ (each-made box unit at bs n each) (omega arith)

-- so the outbox with the messages of a region is kept
pub kept-made : (s : Shape) (config : Config) (told : Told) (copies : List DiskCopy) (dirty to_send : List Bool) (outbox box : Outbox) (credit : Count) (place : List ℕ) (unit at : ℕ) (bs : List (List ℕ)) (n : ℕ) →
    IsKept s config told copies dirty to_send outbox credit place → box ≡ made_blocks outbox unit at bs n → IsKept s config told copies dirty to_send box credit place
kept-made s config told copies dirty to_send outbox box credit place unit at bs n k is =
    subst (λ (o : Outbox). IsKept s config told copies dirty to_send o credit place) (sym is)
    (kept-outbox s config told copies dirty to_send outbox (made_blocks outbox unit at bs n) credit place k (made-shape outbox unit at bs n) (made-limit outbox unit at bs n) (each-made outbox unit at bs n k.made))

module _ (was old : Source) (copies : List DiskCopy) (d : ℕ) (copy : DiskCopy) (region : Copying) (box new : Outbox) (first at : ℕ) where
  -- what is seen of the half, with the region sent off
  abbrev after-it : Source
  after-it = record was {
    disks = map numbers_of (set copies d (record copy { region = region }));
    regions = map blocks_of (set copies d (record copy { region = region }));
    messages = heads new.messages;
    contents = contents new.messages;
    issued = new.issued;
  }

  -- the blocks that were read, and the units from the cursor on
  abbrev run-at : Disk → Box
  run-at k = made_run (box_of old) (unit_of_block old.shape d k.cursor) at k.region

  pub went-off : was ≡ old → was.disks ≡ map numbers_of copies → was.regions ≡ map blocks_of copies → was.messages ≡ heads box.messages → was.contents ≡ contents box.messages → was.issued ≡ box.issued →
      d < length old.disks → copy ≡ get_or copies d copy → length copy.region.read ≡ copy.region.region → first ≡ unit_of_block was.shape d copy.region.cursor →
      new ≡ made_blocks box first at copy.region.read (length copy.region.read) →
      region ≡ record copy.region { cursor = copy.region.cursor + copy.region.region; region = 0; read = []; next = region.next } → after-it ≡ sent_off old d at
  went-off same disks regions messages their issued lt is all here made moved =
      let bs = copy.region.read in
      let n = length copy.region.read in
      let k = get_or old.disks d no_disk in
      let begun : record { messages = heads box.messages; issued = box.issued; first = [] } ≡ box_of old =
      ap (λ (ms : List UnitHead). record { messages = ms; issued = box.issued; first = [] }) (sym messages)
      ∙ ap (λ (ns : List ℕ). record { messages = was.messages; issued = ns; first = [] }) (sym issued)
      ∙ ap box_of same in
      let run : made_run (record { messages = heads box.messages; issued = box.issued; first = [] }) first at n ≡ run-at k =
      ap (λ (b : Box). made_run b first at n) begun
      ∙ ap (λ (u : ℕ). made_run (box_of old) u at n) (here ∙ ap (λ (o : Source). unit_of_block o.shape d copy.region.cursor) same)
      ∙ ap (λ (m : ℕ). made_run (box_of old) (unit_of_block old.shape d copy.region.cursor) at m) all
      ∙ ap run-at (numbers-of was old copies d copy same disks lt is) in
      let ms : heads new.messages ≡ (run-at k).messages = ap (λ (o : Outbox). heads o.messages) made ∙ heads-made box first at bs [] n ∙ ap (λ (b : Box). b.messages) run in
      let ns : new.issued ≡ (run-at k).issued = ap (λ (o : Outbox). o.issued) made ∙ issued-made box first at bs [] n ∙ ap (λ (b : Box). b.issued) run in
      let cs : contents new.messages ≡ old.contents ++ get_or old.regions d [] =
      ap (λ (o : Outbox). contents o.messages) made ∙ contents-made box first at bs n (omega arith)
      ∙ ap (λ (x : List (List ℕ)). contents box.messages ++ x) (take_all n bs (omega arith))
      ∙ ap (λ (x : List (List ℕ)). x ++ bs) (sym their ∙ ap (λ (o : Source). o.contents) same)
      ∙ ap (λ (x : List (List ℕ)). old.contents ++ x) (read-of was old copies d copy same disks regions lt is) in
      let f : Disk → Disk = λ (x : Disk). record x { cursor = x.cursor + x.region; region = 0; got = 0 } in
      changed f (λ (x : List (List ℕ)). [])
      (record was { messages = heads new.messages; contents = contents new.messages; issued = new.issued }) (record old { messages = heads new.messages; contents = contents new.messages; issued = new.issued })
      copies d copy (record copy { region = region })
      (ap (λ (o : Source). record o { messages = heads new.messages; contents = contents new.messages; issued = new.issued }) same) disks regions lt is
      (ap (λ (r : Copying). numbers_of (record copy { region = r })) moved) (ap (λ (r : Copying). r.read) moved)
      ∙ ap (λ (x : List UnitHead). record old { disks = set old.disks d (f k); regions = set old.regions d []; messages = x; contents = contents new.messages; issued = new.issued }) ms
      ∙ ap (λ (x : List (List ℕ)). record old { disks = set old.disks d (f k); regions = set old.regions d []; messages = (run-at k).messages; contents = x; issued = new.issued }) cs
      ∙ ap (λ (x : List ℕ). record old { disks = set old.disks d (f k); regions = set old.regions d []; messages = (run-at k).messages; contents = old.contents ++ get_or old.regions d []; issued = x }) ns

-- the machine's messages do not look at what it keeps of a unit's first message
run-messages : (ms : List UnitHead) (ns f g : List ℕ) (unit at n : ℕ) →
    ((made_run (record { messages = ms; issued = ns; first = f }) unit at n).messages ≡ (made_run (record { messages = ms; issued = ns; first = g }) unit at n).messages)
    × ((made_run (record { messages = ms; issued = ns; first = f }) unit at n).issued ≡ (made_run (record { messages = ms; issued = ns; first = g }) unit at n).issued)
run-messages ms ns f g unit at zero = (refl, refl)
run-messages ms ns f g unit at (suc n) =
    let h = run-messages ms ns f g unit at n in
    let b : Box = made_run (record { messages = ms; issued = ns; first = f }) unit at n in (
      ap (λ (xs : List UnitHead). xs ++ record { unit = record { 0 = unit + n }; version = number b.issued (unit + n) + 1; at = at } ∷ []) h.0
          ∙ ap (λ (is : List ℕ). (made_run (record { messages = ms; issued = ns; first = g }) unit at n).messages ++ record { unit = record { 0 = unit + n }; version = number is (unit + n) + 1; at = at } ∷ []) h.1,
      ap (λ (is : List ℕ). set is (unit + n) (number is (unit + n) + 1)) h.1,
    )

-- the machine's step
pub advances : (job : Job) (v : View) (d at n : ℕ) (old new : Source) → Allows job v (Advance d) old → length v.history ≡ at → own_wait false old (Advance d) ≡ None → n ≡ (get_or old.disks d no_disk).region →
    new ≡ sent_off old d at → StepsSource job v (Advance d) (Done (record { a = n; b = 0 })) old new
advances job v d at n old new allows long goes count is =
    let unit = unit_of_block old.shape d (get_or old.disks d no_disk).cursor in
    let region = (get_or old.disks d no_disk).region in
    let run : List ℕ → Box = λ (first : List ℕ). made_run (record { messages = old.messages; issued = old.issued; first = first }) unit (length v.history) region in
    let then : View = advanced (with_limits job old) (with_source v old) d in
    let same = run-messages old.messages old.issued [] v.outbox.first unit (length v.history) region in
    subst (λ (h : Source). StepsSource job v (Advance d) (Done (record { a = n; b = 0 })) old h) (sym is)
    (subst (λ (k : ℕ). StepsSource job v (Advance d) (Done (record { a = k; b = 0 })) old (sent_off old d at)) (sym count)
    (subst (λ (t : ℕ). StepsSource job v (Advance d) (Done (record { a = (get_or old.disks d no_disk).region; b = 0 })) old (sent_off old d t)) long
    (steps-does job v (Advance d) _ old _ allows.of (own-goes job v (Advance d) old false allows allows.lets refl goes) refl refl
    (record {
      answers = refl;
      part = record {
        limits = refl;
        part = ap (λ (ms : List UnitHead). record then { outbox = record { messages = ms; issued = (run []).issued; first = (run v.outbox.first).first } }) same.0
            ∙ ap (λ (ns : List ℕ). record then { outbox = record { messages = (run v.outbox.first).messages; issued = ns; first = (run v.outbox.first).first } }) same.1;
      };
      bytes = λ c tells whole. record { told = tells; part = refl };
    }))))
