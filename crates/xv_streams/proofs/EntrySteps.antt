-- One entry more of a group that is read into places.
use Rattle.std.proofs.Common.{◌≡◌, ℕ, zero, suc, ◌+◌, ◌-◌, ◌<◌, ◌≤◌, List, [], ◌∷◌, ◌++◌, length, get_or, set, take, drop, map, replicate, sym, ap, ◌∙◌, arith, refl, subst, Option, Some, None}
use Rattle.std.specs.Prelude.{All}
use Rattle.std.proofs.Math.Seq.{take-add, map-set_same}
use Rattle.std.proofs.lemmas.List.{drop-drop, take_more_set, map-set, length-map, get_or-map}
use Rattle.xv_base.specs.Units.{Shape}
use Rattle.xv_frame.specs.Frame.{Message}
use Rattle.xv_frame.specs.declared.groups.GroupFault.{GroupFault}
use Rattle.xv_frame.specs.Faults.{entry_fault, entries_fault, first_of}
use Rattle.xv_frame.specs.Reading.{entry_message, entry_size, front_entries}
use Rattle.xv_streams.specs.Groups.{Place}
use Rattle.xv_streams.specs.Streamed.{no_message}

-- neither of two faults is there
record NoneOf (x y : Option GroupFault) : Type 0 where
  first : x ≡ None
  later : y ≡ None

none-of : (x y : Option GroupFault) → first_of x y ≡ None → NoneOf x y
none-of None y e = record { first = refl; later = e }
none-of (Some f) y e = absurd cc

-- the first of some entries, and those behind it
pub record FirstEntry (s : Shape) (n : ℕ) (b : List ℕ) : Type 0 where
  pub sound : entry_fault s b ≡ None
  pub later : entries_fault s (n - 1) (drop (entry_size s b) b) ≡ None
  pub list : front_entries s n b ≡ entry_message s b ∷ front_entries s (n - 1) (drop (entry_size s b) b)

pub first-entry : (s : Shape) (n : ℕ) (b : List ℕ) → 0 < n → entries_fault s n b ≡ None → FirstEntry s n b
first-entry s zero b h none = absurd (omega arith)
first-entry s (suc n) b h none =
    let both = none-of (entry_fault s b) (entries_fault s n (drop (entry_size s b) b)) none in
    let e : suc n - 1 ≡ n = omega arith in
    record {
      sound = both.first;
      later = subst (λ k. entries_fault s k (drop (entry_size s b) b) ≡ None) (sym e) both.later;
      list = ap (λ k. entry_message s b ∷ front_entries s k (drop (entry_size s b) b)) (sym e);
    }

pub length-front : (s : Shape) (n : ℕ) (b : List ℕ) → length (front_entries s n b) ≡ n
length-front s zero b = refl
length-front s (suc n) b = ap suc (length-front s n (drop (entry_size s b) b))

-- the room of each place, by the list of rooms
pub room-at : (most : ℕ) (start now : List Place) (i : ℕ) (d : Place) → All (λ (p : Place). most ≤ p.room) start → map (λ (p : Place). p.room) now ≡ map (λ (p : Place). p.room) start → i < length now
    → most ≤ (get_or now i d).room
room-at most start now i d h e b =
    let many : length now ≡ length start = sym (length-map now (λ (p : Place). p.room)) ∙ ap length e ∙ length-map start (λ (p : Place). p.room) in
    let is : (get_or now i d).room ≡ (get_or start i d).room =
    sym (get_or-map (λ (p : Place). p.room) now i d 0 b) ∙ ap (λ xs. get_or xs i 0) e ∙ get_or-map (λ (p : Place). p.room) start i d 0 (omega arith) in
    omega (arith, is, h i d (omega arith))

-- the messages read so far, after one more
pub read-more : (places : List Place) (i : ℕ) (p : Place) (m : Message) (ms rest : List Message) → i < length places → p.message ≡ m → take i (map (λ (q : Place). q.message) places) ≡ take i ms → m ∷ rest ≡ drop i ms
    → (take (i + 1) (map (λ (q : Place). q.message) (set places i p)) ≡ take (i + 1) ms) × (rest ≡ drop (i + 1) ms)
read-more places i p m ms rest b is kept left =
    let seen : List Message = map (λ (q : Place). q.message) places in
    let there : i < length seen = omega (arith, length-map places (λ (q : Place). q.message)) in (
      ap (take (i + 1)) (map-set (λ (q : Place). q.message) places i p) ∙ take_more_set seen i p.message there ∙ (λ k. kept k ++ is k ∷ [])
          ∙ ap (λ xs. take i ms ++ take 1 xs) left ∙ sym (take-add i 1 ms),
      ap (drop 1) left ∙ drop-drop 1 i ms,
    )

-- the rooms stay
pub rooms-kept : (places : List Place) (i : ℕ) (p d : Place) → p.room ≡ (get_or places i d).room → map (λ (q : Place). q.room) (set places i p) ≡ map (λ (q : Place). q.room) places
rooms-kept places i p d e = map-set_same (λ (q : Place). q.room) places i p d e

-- the rooms of places in which there is nothing
pub rooms-of : (n room : ℕ) → map (λ (p : Place). p.room) (replicate n (record { message = no_message; room = room })) ≡ replicate n room
rooms-of zero room = refl
rooms-of (suc n) room = ap (λ xs. room ∷ xs) (rooms-of n room)
