-- The next held message is written on the destination.
use Rattle.std.specs.Prelude.{◌≡◌, ◌<◌, ℕ, suc, List, [], length, map, take, drop, set, remove, get_or}
use Rattle.std.proofs.Common.{arith, ap, sym, ◌∙◌, inl, inr}
use Rattle.std.proofs.lemmas.Bool.{cases_eq, ltb-true}
use Rattle.std.proofs.lemmas.List.{map-append, take-map, drop-map, get_or-map, get_or-set_same, get_or-set_other, length-set}
use Rattle.xv_model.specs.Job.{Job, unit_count}
use Rattle.xv_model.specs.Guest.{content}
use Rattle.xv_model.specs.View.{View, number, no_message, ready, ready_message}
use Rattle.xv_model.specs.Effect.{applied_next}
use Rattle.xv_model.specs.Outstanding.{is_version}
use Rattle.xv_model.specs.Invariant.{IsViewOf}
use Rattle.xv_model.specs.Contents.{Contents, HoldsContents, apply_moves, unit_content, message_content}
use Rattle.xv_model.proofs.GoesOn.{ApplyGoes, live_not_switched}
use Rattle.xv_model.proofs.Contents.Messages.{count-at, version_in_range, version_same}

pub map-remove : {X Y : Type 0} (f : X → Y) (xs : List X) (i : ℕ) → remove (map f xs) i ≡ map f (remove xs i)
map-remove f xs i = rw (take-map f i xs, drop-map f (suc i) xs) (sym (map-append f (take i xs) (drop (suc i) xs)))

pub contents-applied : (job : Job) (v : View) (c : Contents) → IsViewOf job v → ApplyGoes job v → HoldsContents job v c → HoldsContents job (applied_next v) (apply_moves v c)
contents-applied job v c inv goes holds =
    let f = message_content job v.history in
    let i = ready v.hold in
    let m = ready_message v.hold in
    let is_held : i < length v.hold.held = ltb-true i (length v.hold.held) goes.ready in
    let counted = count-at (is_version m.unit.0 m.version) v.hold.held i is_held (version_same m) in
    let in_range : m.unit.0 < unit_count job = version_in_range job v m.unit.0 m.version inv (omega arith) in
    let in_dest : m.unit.0 < length c.dest = let l = holds.dest_length in omega arith in
    let in_recorded : m.unit.0 < length v.hold.recorded = let l = inv.lists.recorded in omega arith in
    let is : get_or c.held i [] ≡ content job v.history m.unit.0 m.at = ap (λ x. get_or x i []) holds.held_is ∙ get_or-map f v.hold.held i no_message [] is_held in
    let away = live_not_switched v.phase goes.live in
    record {
      source_length = holds.source_length;
      dest_length = length-set c.dest m.unit.0 (get_or c.held i []) ∙ holds.dest_length;
      source_is = holds.source_is;
      outbox_is = holds.outbox_is;
      streams_are = holds.streams_are;
      held_is = ap (λ x. remove x i) holds.held_is ∙ map-remove f v.hold.held i;
      dest_is = λ unit lt off some. elim (cases_eq unit m.unit.0) [
        | inl e ↦
            let there : unit_content (set c.dest m.unit.0 (get_or c.held i [])) unit ≡ content job v.history m.unit.0 m.at = ap (unit_content (set c.dest m.unit.0 (get_or c.held i []))) e ∙ get_or-set_same c.dest m.unit.0 (get_or c.held i []) [] in_dest ∙ is in
            let at : number (set v.hold.recorded m.unit.0 m.at) unit ≡ m.at = ap (number (set v.hold.recorded m.unit.0 m.at)) e ∙ get_or-set_same v.hold.recorded m.unit.0 m.at 0 in_recorded in
            there ∙ ap (λ u. content job v.history u m.at) (sym e) ∙ ap (content job v.history unit) (sym at)
        | inr other ↦
            let was : number (set v.hold.applied m.unit.0 m.version) unit ≡ number v.hold.applied unit = get_or-set_other v.hold.applied m.unit.0 unit m.version 0 other in
            get_or-set_other c.dest m.unit.0 unit (get_or c.held i []) [] other
            ∙ holds.dest_is unit lt off (omega arith)
            ∙ ap (content job v.history unit) (sym (get_or-set_other v.hold.recorded m.unit.0 unit m.at 0 other))
      ];
      regions_length = holds.regions_length;
      region_length = holds.region_length;
      region_is = holds.region_is;
      dest_switched = λ unit lt on. absurd (cc);
      source_switched = holds.source_switched;
      reads_are = holds.reads_are;
    }
