-- The messages that go on a stream together: which they are, and that their frame fits the wire.
use Rattle.std.specs.Prelude.{◌≡◌, ◌<◌, ◌≤◌, ℕ, zero, suc, ◌+◌, ◌-◌, ◌*◌, Bool, List, [], ◌∷◌, length, take, drop, get_or}
use Rattle.std.proofs.Common.{refl, sym, ap, ◌∙◌, arith}
use Rattle.std.proofs.lemmas.List.{drop-map, drop-drop}
use Rattle.xv_base.specs.Units.{Shape, max_size}
use Rattle.xv_base.specs.declared.limits.Config.{Config}
use Rattle.xv_credit.specs.Counts.{Count}
use Rattle.xv_device.specs.Told.{Told}
use Rattle.xv_frame.specs.Frame.{Message, GroupFrame, Each, spelled}
use Rattle.xv_outbox.specs.Messages.{Outbox, UnitHead, heads, contents}
use Rattle.xv_streams.specs.Streamed.{LaneSeen, no_lane}
use Rattle.xv_streams.specs.Carried.{IsCarried, IsMade}
use Rattle.xv_streams.specs.Fronts.{HasRoomFor}
use Rattle.xv_source.specs.declared.disk.DiskCopy.{DiskCopy}
use Rattle.xv_source.specs.Half.{Source}
use Rattle.xv_source.specs.Kept.{source_of}
use Rattle.xv_source.specs.Step.{joined_messages}
use Rattle.xv_source.specs.Batches.{outbox_past, past}

-- one that is taken off more
pub drop_one_more : (xs : List Message) (n : ℕ) → drop 1 (drop n xs) ≡ drop (n + 1) xs
drop_one_more xs n = drop-drop 1 n xs

-- messages by their heads and contents
joined-back : (ms : List Message) → joined_messages (heads ms) (contents ms) ≡ ms
joined-back [] = refl
joined-back (m ∷ ms) = ap (λ (rest : List Message). m ∷ rest) (joined-back ms)

pub batch-back : (ms : List Message) (n : ℕ) → take n (joined_messages (heads ms) (contents ms)) ≡ take n ms
batch-back ms n = ap (λ (x : List Message). take n x) (joined-back ms)

pub heads-past : (ms : List Message) (n : ℕ) → heads (drop n ms) ≡ drop n (heads ms)
heads-past ms n = sym (drop-map (λ (m : Message). m.head) n ms)

pub contents-past : (ms : List Message) (n : ℕ) → contents (drop n ms) ≡ drop n (contents ms)
contents-past ms n = sym (drop-map (λ (m : Message). m.content) n ms)

-- what holds of each stream holds of one
pub each-lane : (P : LaneSeen → Type 0) (ls : List LaneSeen) (k : ℕ) → k < length ls → Each P ls → P (get_or ls k no_lane)
each-lane P [] k lt each = absurd (omega arith)
each-lane P (l ∷ ls) zero lt each = each.0
each-lane P (l ∷ ls) (suc k) lt each = each-lane P ls k (omega arith) each.1

-- where there is room for the messages there is room for their frame
pub one-fits : (s : Shape) (l : LaneSeen) (bytes : List ℕ) → IsCarried s 1 l → HasRoomFor s 1 1 l → length bytes ≤ max_size s → length l.wire.transit + (24 + length bytes) ≤ l.wire.capacity
one-fits s l bytes carried room small = omega (arith, carried.few_bytes, room, small)

pub group-fits : (s : Shape) (l : LaneSeen) (group : List Message) (n : ℕ) → IsCarried s 2 l → IsMade s group → length group ≡ n → 1 ≤ n → HasRoomFor s 2 n l → length l.wire.transit + length (spelled (GroupFrame group)) ≤ l.wire.capacity
group-fits s l group n carried made count some room =
    let few = made.few_bytes (omega arith) in
    let same : length group * (44 + max_size s) ≡ n * (44 + max_size s) = ap (λ k. k * (44 + max_size s)) count in
    omega (arith, carried.few_bytes, room, few, same)

-- what is seen of a half from whose outbox messages were taken, with their credit
pub past-seen : (s : Shape) (config : Config) (told : Told) (faults : ℕ) (copies : List DiskCopy) (dirty to_send : List Bool) (rounds : ℕ) (o new : Outbox) (k more : Count) (n : ℕ) (old : Source) →
    source_of s config told faults copies dirty to_send rounds o k ≡ old → new ≡ outbox_past n o → more ≡ record k { left = k.left - n } →
    source_of s config told faults copies dirty to_send rounds new more ≡ past n old
past-seen s config told faults copies dirty to_send rounds o new k more n old same outbox credit =
    ap (λ (x : Outbox). source_of s config told faults copies dirty to_send rounds x more) outbox
    ∙ ap (λ (x : Count). source_of s config told faults copies dirty to_send rounds (outbox_past n o) x) credit
    ∙ ap (λ (x : List UnitHead). record (source_of s config told faults copies dirty to_send rounds (outbox_past n o) (record k { left = k.left - n })) { messages = x }) (heads-past o.messages n)
    ∙ ap (λ (x : List (List ℕ)). record (past n (source_of s config told faults copies dirty to_send rounds o k)) { contents = x }) (contents-past o.messages n)
    ∙ ap (λ (x : Source). past n x) same
