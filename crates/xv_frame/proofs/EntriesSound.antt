-- Entries and groups that are accepted are spellings.
use Rattle.std.proofs.Common.{◌≡◌, ℕ, zero, suc, ◌+◌, ◌-◌, ◌<◌, ◌≤◌, List, ◌++◌, length, get_or, take, drop, sym, ap, ◌∙◌, arith, refl, Bool, true, false, not, ◌||◌, eqb, ltb, Option, Some, None, Result, Ok, Err, subst, replicate, length-drop, append_assoc}
use Rattle.std.specs.Prelude.{if◌then◌else◌, IfOk}
use Rattle.std.proofs.lemmas.Bool.{eqb-true, ltb-true, ltb-false}
use Rattle.std.proofs.lemmas.Bool.Decides.{eqb_tells}
use Rattle.std.proofs.lemmas.List.{take-append-drop, drop-drop, length-take, length-replicate, nil_from_length, get_or-drop}
use Rattle.xv_base.specs.Units.{Shape, units, size}
use Rattle.xv_frame.specs.declared.groups.GroupFault.{GroupFault}
use Rattle.xv_frame.specs.declared.groups.GroupFault.TheVariants as group
use Rattle.xv_frame.specs.Fields.{word_at, short_at, zero_at}
use Rattle.xv_frame.specs.Frame.{Each, message, IsMessage, IsGroup, entry, entry_head, entries, group_head, GroupFrame, spelled}
use Rattle.xv_frame.specs.Faults.{content_fault, entry_fault, entries_fault, first_of, group_head_fault, group_fault, count_or, read_group}
use Rattle.xv_frame.specs.Reading.{entry_numbers, entry_message, entry_size, is_marked, front_entries, front_group}
use Rattle.xv_frame.proofs.Numbers.{AreBytes, word-fits, long-fits}
use Rattle.xv_frame.proofs.WhatTestsSay.{no-fault, not-false, both-false, zeros-all}
use Rattle.xv_frame.proofs.Written.{entry-head-written, group-head-written}
use Rattle.xv_frame.proofs.Entries.{entry-marked, entry-whole}

-- what an accepted entry is
pub record IsEntry (s : Shape) (b : List ℕ) : Type 0 where
  pub good : IsMessage s (entry_message s b)
  pub stands : b ≡ entry (entry_message s b) ++ drop (entry_size s b) b
  pub fits : entry_size s b ≤ length b

record IsEntryBy (s : Shape) (b : List ℕ) (t : Bool) : Type 0 where
  good : IsMessage s (message (entry_numbers b) (if t then replicate (size s (word_at b 0)) 0 else take (size s (word_at b 0)) (drop 20 b)))
  stands : b ≡ entry (message (entry_numbers b) (if t then replicate (size s (word_at b 0)) 0 else take (size s (word_at b 0)) (drop 20 b))) ++ drop (if t then 20 else 20 + size s (word_at b 0)) b
  fits : (if t then 20 else 20 + size s (word_at b 0)) ≤ length b

marked-or-not : (s : Shape) (b : List ℕ) (t : Bool) → AreBytes b → 20 ≤ length b → word_at b 0 < units s → 1 ≤ word_at b 4 → get_or b 16 0 ≤ 1 → zero_at b 17 3 ≡ true
    → eqb (get_or b 16 0) 1 ≡ t → (if t then None else content_fault (size s (word_at b 0)) b) ≡ None → IsEntryBy s b t
marked-or-not s b true h l unit made mark zeros e none =
    let z = size s (word_at b 0) in
    let one : get_or b 16 0 ≡ 1 = eqb-true (get_or b 16 0) 1 e in
    let head : take 20 b ≡ entry_head (entry_numbers b) 1 = entry-head-written b h l zeros ∙ ap (entry_head (entry_numbers b)) one in
    record {
      good = record { unit_in = unit; made = made; version_fits = word-fits b 4 h; at_fits = long-fits b 8 h; whole = length-replicate z 0 };
      stands = sym (take-append-drop 20 b) ∙ ap (λ xs. xs ++ drop 20 b) (head ∙ sym (entry-marked (entry_numbers b) (replicate z 0) (zeros-all z)));
      fits = l;
    }
marked-or-not s b false h l unit made mark zeros e none =
    let z = size s (word_at b 0) in
    let none' : get_or b 16 0 ≡ 0 = grind (arith, eqb_tells (get_or b 16 0) 1) in
    let short = no-fault (ltb (length b) (20 + z)) group.Short _ none in
    let marked = no-fault (zero_at b 20 z) group.BadMark None short.1 in
    let fits' : 20 + z ≤ length b = ltb-false (length b) (20 + z) short.0 in
    let head : take 20 b ≡ entry_head (entry_numbers b) 0 = entry-head-written b h l zeros ∙ ap (entry_head (entry_numbers b)) none' in
    let rest : drop 20 b ≡ take z (drop 20 b) ++ drop (20 + z) b = sym (take-append-drop z (drop 20 b)) ∙ ap (λ xs. take z (drop 20 b) ++ xs) (drop-drop z 20 b) in
    record {
      good = record { unit_in = unit; made = made; version_fits = word-fits b 4 h; at_fits = long-fits b 8 h; whole = omega (arith, length-take z (drop 20 b), length-drop 20 b) };
      stands = sym (take-append-drop 20 b) ∙ (λ i. head i ++ rest i) ∙ sym (append_assoc (entry_head (entry_numbers b) 0) (take z (drop 20 b)) (drop (20 + z) b))
          ∙ ap (λ xs. xs ++ drop (20 + z) b) (sym (entry-whole (entry_numbers b) (take z (drop 20 b)) marked.0));
      fits = fits';
    }

pub entry-sound : (s : Shape) (b : List ℕ) → AreBytes b → entry_fault s b ≡ None → IsEntry s b
entry-sound s b h none =
    let long = no-fault (ltb (length b) 20) group.Short _ none in
    let unit = no-fault (not (ltb (word_at b 0) (units s))) group.BadUnit _ long.1 in
    let version = no-fault (eqb (word_at b 4) 0) group.BadVersion _ unit.1 in
    let mark = no-fault (ltb 1 (get_or b 16 0)) group.BadMark _ version.1 in
    let zeros = no-fault (not (zero_at b 17 3)) group.NotZero _ mark.1 in
    let made : 1 ≤ word_at b 4 = grind (arith, eqb_tells (word_at b 4) 0, version.0) in
    let by : IsEntryBy s b (is_marked b) = marked-or-not s b (is_marked b) h (ltb-false (length b) 20 long.0) (ltb-true (word_at b 0) (units s) (not-false _ unit.0)) made (ltb-false 1 (get_or b 16 0) mark.0) (not-false _ zeros.0) refl zeros.1 in
    record { good = by.good; stands = by.stands; fits = by.fits }

pub first-none : (f g : Option GroupFault) → first_of f g ≡ None → (f ≡ None) × (g ≡ None)
first-none (Some f) g h = cc
first-none None g h = (refl, h)

bytes-past : (b : List ℕ) (k : ℕ) → AreBytes b → AreBytes (drop k b)
bytes-past b k h i = grind (arith, get_or-drop k b i 0, h (k + i))

pub record AreEntries (s : Shape) (n : ℕ) (b : List ℕ) : Type 0 where
  pub each : Each (IsMessage s) (front_entries s n b)
  pub counted : length (front_entries s n b) ≡ n
  pub stand : b ≡ entries (front_entries s n b)

pub entries-sound : (s : Shape) (n : ℕ) (b : List ℕ) → AreBytes b → entries_fault s n b ≡ None → AreEntries s n b
entries-sound s zero b h none =
    let left = none-left (eqb (length b) 0) none in
    record { each = tt; counted = refl; stand = nil_from_length b (eqb-true (length b) 0 left) }
  where
    none-left : (t : Bool) → (if t then None else Some group.Long) ≡ None → t ≡ true
    none-left true e = refl
    none-left false e = cc
entries-sound s (suc n) b h none =
    let both = first-none (entry_fault s b) (entries_fault s n (drop (entry_size s b) b)) none in
    let front = entry-sound s b h both.0 in
    let rest = entries-sound s n (drop (entry_size s b) b) (bytes-past b (entry_size s b) h) both.1 in
    record {
      each = (front.good, rest.each);
      counted = ap suc rest.counted;
      stand = front.stands ∙ ap (λ xs. entry (entry_message s b) ++ xs) rest.stand;
    }

pub record IsSpelledGroup (s : Shape) (b : List ℕ) (count : ℕ) : Type 0 where
  pub group : IsGroup s (front_group s b)
  pub counted : length (front_group s b) ≡ count
  pub stands : b ≡ spelled (GroupFrame (front_group s b))

pub group-sound : (s : Shape) (b : List ℕ) → AreBytes b → group_fault s b ≡ None → IsSpelledGroup s b (short_at b 2)
group-sound s b h none =
    let both = first-none (group_head_fault b) (if not (eqb (word_at b 4) (length b - 24)) then Some group.BadLength else entries_fault s (short_at b 2) (drop 24 b)) none in
    let long = no-fault (ltb (length b) 24) group.Short _ both.0 in
    let format = no-fault (not (eqb (get_or b 0 0) 2)) group.BadFormat _ long.1 in
    let kind = no-fault (not (eqb (get_or b 1 0) 1)) group.BadKind _ format.1 in
    let count = no-fault (eqb (short_at b 2) 0 || ltb 16 (short_at b 2)) group.BadCount _ kind.1 in
    let zeros = no-fault (not (zero_at b 8 16)) group.NotZero None count.1 in
    let follow = no-fault (not (eqb (word_at b 4) (length b - 24))) group.BadLength _ both.1 in
    let range = both-false (eqb (short_at b 2) 0) (ltb 16 (short_at b 2)) count.0 in
    let some : 1 ≤ short_at b 2 = grind (arith, eqb_tells (short_at b 2) 0, range.0) in
    let few : short_at b 2 ≤ 16 = ltb-false 16 (short_at b 2) range.1 in
    let all = entries-sound s (short_at b 2) (drop 24 b) (bytes-past b 24 h) follow.1 in
    let head = group-head-written b h (ltb-false (length b) 24 long.0) (eqb-true (get_or b 0 0) 2 (not-false _ format.0)) (eqb-true (get_or b 1 0) 1 (not-false _ kind.0)) (not-false _ zeros.0) in
    let same : word_at b 4 ≡ length b - 24 = eqb-true (word_at b 4) (length b - 24) (not-false _ follow.0) in
    let bytes : word_at b 4 ≡ length (entries (front_group s b)) = omega (arith, same, ap length all.stand, length-drop 24 b) in
    record {
      group = record { some = omega (arith, all.counted); few = omega (arith, all.counted); each = all.each };
      counted = all.counted;
      stands = sym (take-append-drop 24 b) ∙ (λ i. (head ∙ (λ j. group_head (sym all.counted j) (bytes j))) i ++ all.stand i);
    }

pub read-group-sound : (s : Shape) (b : List ℕ) (f : Option GroupFault) → AreBytes b → group_fault s b ≡ f → IfOk (count_or f (short_at b 2)) (IsSpelledGroup s b)
read-group-sound s b (Some f) h e = tt
read-group-sound s b None h e = group-sound s b h e

checked : (s : Shape) (b : List ℕ) (r : Result ℕ GroupFault) → IfOk r (IsSpelledGroup s b) → IfOk r (λ count. IsGroup s (front_group s b) × (length (front_group s b) ≡ count))
checked s b (Ok n) h = (h.group, h.counted)
checked s b (Err f) h = tt

stands-for : (s : Shape) (b : List ℕ) (r : Result ℕ GroupFault) → IfOk r (IsSpelledGroup s b) → IfOk r (λ _. b ≡ spelled (GroupFrame (front_group s b)))
stands-for s b (Ok n) h = h.stands
stands-for s b (Err f) h = tt

pub group-checked : (s : Shape) (b : List ℕ) (r : Result ℕ GroupFault) → AreBytes b → r ≡ read_group s b → IfOk r (λ count. IsGroup s (front_group s b) × (length (front_group s b) ≡ count))
group-checked s b r h e = checked s b r (subst (λ q. IfOk q (IsSpelledGroup s b)) (sym e) (read-group-sound s b (group_fault s b) h refl))

pub group-stands : (s : Shape) (b : List ℕ) (r : Result ℕ GroupFault) → AreBytes b → r ≡ read_group s b → IfOk r (λ _. b ≡ spelled (GroupFrame (front_group s b)))
group-stands s b r h e = stands-for s b r (subst (λ q. IfOk q (IsSpelledGroup s b)) (sym e) (read-group-sound s b (group_fault s b) h refl))
