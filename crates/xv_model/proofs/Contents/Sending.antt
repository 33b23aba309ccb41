-- The events that make and move messages.
use Rattle.std.specs.Prelude.{◌≡◌, ◌≤◌, ◌<◌, ℕ, zero, suc, ◌+◌, List, [], ◌∷◌, ◌++◌, length, map, take, drop, set, get_or}
use Rattle.std.proofs.Common.{arith, refl, ap, sym, ◌∙◌}
use Rattle.std.proofs.lemmas.List.{map-append, map_push, map-set, take-map, drop-map, take_more, take_all, append_assoc, append-nil}
use Rattle.xv_model.specs.Job.{Job, unit_count}
use Rattle.xv_model.specs.Guest.{Ended, content}
use Rattle.xv_model.specs.View.{View, Outbox, disk, least, stream, front_group}
use Rattle.xv_model.specs.Effect.{made_run, advanced, page_sent_off, sent, delivered, batch, cursor_unit}
use Rattle.xv_model.specs.Invariant.{IsViewOf}
use Rattle.xv_model.specs.Contents.{Contents, HoldsContents, advance_moves, page_moves, send_moves, deliver_moves, unit_content, region_content, message_content}
use Rattle.xv_model.proofs.GoesOn.{AdvanceGoes, PageGoes, live_not_switched}
use Rattle.xv_model.proofs.Contents.Regions.{regions-set, region-none}
use Rattle.xv_model.proofs.Contents.Copying.{regions_of}

-- a message for each of n units in a row, and the contents that stand with them
pub run_contents : (job : Job) (h : List Ended) (box : Outbox) (unit at : ℕ) (read : List (List ℕ)) (n : ℕ) → n ≤ length read → ((k : ℕ) → k < n → get_or read k [] ≡ content job h (unit + k) at) → map (message_content job h) (made_run box unit at n).messages ≡ map (message_content job h) box.messages ++ take n read
run_contents job h box unit at read zero le each = sym (append-nil (map (message_content job h) box.messages))
run_contents job h box unit at read (suc n) le each =
    let f = message_content job h in
    let front : map f (made_run box unit at n).messages ≡ map f box.messages ++ take n read = run_contents job h box unit at read n (omega arith) (λ k l. each k (omega arith)) in
    let last : get_or read n [] ≡ content job h (unit + n) at = each n (omega arith) in
    let more : take (suc n) read ≡ take n read ++ get_or read n [] ∷ [] =
    (let one : suc n ≡ n + 1 = omega arith in ap (λ i. take i read) one) ∙ take_more read n [] le in
    map_push f (made_run box unit at n).messages _
    ∙ ap (λ x. x ++ content job h (unit + n) at ∷ []) front
    ∙ append_assoc (map f box.messages) (take n read) (content job h (unit + n) at ∷ [])
    ∙ ap (λ x. map f box.messages ++ x) (ap (λ x. take n read ++ x ∷ []) (sym last) ∙ sym more)

pub contents-advanced : (job : Job) (v : View) (c : Contents) (d : ℕ) → IsViewOf job v → d < length job.copy.disks → AdvanceGoes job v d → HoldsContents job v c → HoldsContents job (advanced job v d) (advance_moves d c)
contents-advanced job v c d inv lt goes holds =
    let in_disks : d < length v.disks = let l = inv.lists.disks in omega arith in
    let region = (regions_of job v c holds).region d in_disks in
    let whole : (disk v d).region ≡ length (region_content c d) = let a = goes.all_read in let b = inv.regions.read_fits d in let r = region.read in omega arith in
    let run = run_contents job v.history v.outbox (cursor_unit job v d) (length v.history) (region_content c d) (disk v d).region (omega arith) (λ k l. region.each k (let r = region.read in omega arith)) in
    let are = regions-set job v.history v.disks c.regions d _ [] (regions_of job v c holds) (region-none job v.history d _ refl) in
    record {
      source_length = holds.source_length;
      dest_length = holds.dest_length;
      source_is = holds.source_is;
      outbox_is = ap (λ x. x ++ region_content c d) holds.outbox_is
          ∙ ap (λ x. map (message_content job v.history) v.outbox.messages ++ x) (sym (take_all (disk v d).region (region_content c d) (omega arith)))
          ∙ sym run;
      streams_are = holds.streams_are;
      held_is = holds.held_is;
      dest_is = holds.dest_is;
      regions_length = are.one_each;
      region_length = λ i l. (are.region i l).read;
      region_is = λ i k l m. (are.region i l).each k m;
      dest_switched = holds.dest_switched;
      source_switched = holds.source_switched;
      reads_are = holds.reads_are;
    }

pub contents-page_sent_off : (job : Job) (v : View) (c : Contents) → IsViewOf job v → PageGoes job v → HoldsContents job v c → HoldsContents job (page_sent_off v) (page_moves v c)
contents-page_sent_off job v c inv goes holds =
    let f = message_content job v.history in
    let in_range : least v.to_send < unit_count job = let a = goes.in_range in let b = inv.lists.to_send in omega arith in
    let page = holds.source_is (least v.to_send) in_range (live_not_switched v.phase goes.live) in
    record {
      source_length = holds.source_length;
      dest_length = holds.dest_length;
      source_is = holds.source_is;
      outbox_is = ap (λ x. x ++ unit_content c.source (least v.to_send) ∷ []) holds.outbox_is
          ∙ ap (λ x. map f v.outbox.messages ++ x ∷ []) page
          ∙ sym (map_push f v.outbox.messages _);
      streams_are = holds.streams_are;
      held_is = holds.held_is;
      dest_is = holds.dest_is;
      regions_length = holds.regions_length;
      region_length = holds.region_length;
      region_is = holds.region_is;
      dest_switched = holds.dest_switched;
      source_switched = holds.source_switched;
      reads_are = holds.reads_are;
    }

-- what a list's element maps to, also past its end
pub get_or-map_same : {X Y : Type 0} (f : X → Y) (xs : List X) (i : ℕ) (d : X) (e : Y) → e ≡ f d → get_or (map f xs) i e ≡ f (get_or xs i d)
get_or-map_same f [] i d e same = same
get_or-map_same f (x ∷ xs) zero d e same = refl
get_or-map_same f (x ∷ xs) (suc i) d e same = get_or-map_same f xs i d e same

pub contents-sent : (job : Job) (v : View) (c : Contents) (s : ℕ) → HoldsContents job v c → HoldsContents job (sent job v s) (send_moves job v s c)
contents-sent job v c s holds =
    let f = message_content job v.history in
    let n = batch job v in
    let old : get_or c.streams s [] ≡ map (map f) (stream v s) = ap (λ x. get_or x s []) holds.streams_are ∙ get_or-map_same (map (map f)) v.streams s [] [] refl in
    let group : take n c.outbox ≡ map f (take n v.outbox.messages) = ap (take n) holds.outbox_is ∙ take-map f n v.outbox.messages in
    let new : get_or c.streams s [] ++ take n c.outbox ∷ [] ≡ map (map f) (stream v s ++ take n v.outbox.messages ∷ []) =
    rw (old, group) (sym (map_push (map f) (stream v s) (take n v.outbox.messages))) in
    record {
      source_length = holds.source_length;
      dest_length = holds.dest_length;
      source_is = holds.source_is;
      outbox_is = ap (drop n) holds.outbox_is ∙ drop-map f n v.outbox.messages;
      streams_are = ap (λ x. set c.streams s x) new ∙ ap (λ x. set x s (map (map f) (stream v s ++ take n v.outbox.messages ∷ []))) holds.streams_are
          ∙ sym (map-set (map (map f)) v.streams s (stream v s ++ take n v.outbox.messages ∷ []));
      held_is = holds.held_is;
      dest_is = holds.dest_is;
      regions_length = holds.regions_length;
      region_length = holds.region_length;
      region_is = holds.region_is;
      dest_switched = holds.dest_switched;
      source_switched = holds.source_switched;
      reads_are = holds.reads_are;
    }

pub contents-delivered : (job : Job) (v : View) (c : Contents) (s : ℕ) → HoldsContents job v c → HoldsContents job (delivered v s) (deliver_moves s c)
contents-delivered job v c s holds =
    let f = message_content job v.history in
    let old : get_or c.streams s [] ≡ map (map f) (stream v s) = ap (λ x. get_or x s []) holds.streams_are ∙ get_or-map_same (map (map f)) v.streams s [] [] refl in
    let rest : drop 1 (get_or c.streams s []) ≡ map (map f) (drop 1 (stream v s)) = ap (drop 1) old ∙ drop-map (map f) 1 (stream v s) in
    let group : get_or (get_or c.streams s []) 0 [] ≡ map f (front_group v s) = ap (λ x. get_or x 0 []) old ∙ get_or-map_same (map f) (stream v s) 0 [] [] refl in
    record {
      source_length = holds.source_length;
      dest_length = holds.dest_length;
      source_is = holds.source_is;
      outbox_is = holds.outbox_is;
      streams_are = ap (λ x. set c.streams s x) rest ∙ ap (λ x. set x s (map (map f) (drop 1 (stream v s)))) holds.streams_are
          ∙ sym (map-set (map (map f)) v.streams s (drop 1 (stream v s)));
      held_is = ap (λ x. c.held ++ x) group ∙ ap (λ x. x ++ map f (front_group v s)) holds.held_is ∙ sym (map-append f v.hold.held (front_group v s));
      dest_is = holds.dest_is;
      regions_length = holds.regions_length;
      region_length = holds.region_length;
      region_is = holds.region_is;
      dest_switched = holds.dest_switched;
      source_switched = holds.source_switched;
      reads_are = holds.reads_are;
    }
