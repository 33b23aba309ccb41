-- What is read of the spelling of a head, and that a head without a fault is spelled as it is read.
use Rattle.std.proofs.Common.{◌≡◌, ℕ, ◌^◌, ◌<◌, List, ◌++◌, length, get_or, drop, refl, true}
use Rattle.std.proofs.lemmas.Nat.{from_be_bytes-to_be_bytes_2, from_be_bytes-to_be_bytes_4, from_be_bytes-to_be_bytes_8}
use Rattle.xv_base.specs.declared.operation.UnitHead.{UnitHead}
use Rattle.xv_frame.specs.Fields.{short_bytes, word_bytes, long_bytes, short_at, word_at, long_at, zero_at}
use Rattle.xv_frame.specs.Frame.{unit_head, ack, group_head, entry_head}
use Rattle.xv_frame.specs.Reading.{front_head, entry_numbers}

pub unit-back : (h : UnitHead) (z : ℕ) (rest : List ℕ) → h.unit.0 < 2 ^ 32 → word_at (unit_head h z ++ rest) 4 ≡ h.unit.0
unfolding word_at word_bytes
unit-back h z rest fits = from_be_bytes-to_be_bytes_4 h.unit.0 fits

pub version-back : (h : UnitHead) (z : ℕ) (rest : List ℕ) → h.version < 2 ^ 32 → word_at (unit_head h z ++ rest) 8 ≡ h.version
unfolding word_at word_bytes
version-back h z rest fits = from_be_bytes-to_be_bytes_4 h.version fits

pub size-back : (h : UnitHead) (z : ℕ) (rest : List ℕ) → z < 2 ^ 32 → word_at (unit_head h z ++ rest) 12 ≡ z
unfolding word_at word_bytes
size-back h z rest fits = from_be_bytes-to_be_bytes_4 z fits

pub at-back : (h : UnitHead) (z : ℕ) (rest : List ℕ) → h.at < 2 ^ 64 → long_at (unit_head h z ++ rest) 16 ≡ h.at
unfolding word_bytes long_at long_bytes
at-back h z rest fits = from_be_bytes-to_be_bytes_8 h.at fits

pub content-follows : (h : UnitHead) (z : ℕ) (rest : List ℕ) → drop 24 (unit_head h z ++ rest) ≡ rest
unfolding word_bytes long_bytes
content-follows h z rest = refl

pub head-back : (h : UnitHead) (z : ℕ) (rest : List ℕ) → h.unit.0 < 2 ^ 32 → h.version < 2 ^ 32 → h.at < 2 ^ 64 → front_head (unit_head h z ++ rest) ≡ h
head-back h z rest u v a = λ i. record { unit = record { 0 = unit-back h z rest u i }; version = version-back h z rest v i; at = at-back h z rest a i }

pub count-back : (count : ℕ) (rest : List ℕ) → count < 2 ^ 32 → word_at (ack count ++ rest) 8 ≡ count
unfolding word_at word_bytes
count-back count rest fits = from_be_bytes-to_be_bytes_4 count fits

pub group-count-back : (count bytes : ℕ) (rest : List ℕ) → count < 2 ^ 16 → short_at (group_head count bytes ++ rest) 2 ≡ count
unfolding short_at short_bytes
group-count-back count bytes rest fits = from_be_bytes-to_be_bytes_2 count fits

pub group-bytes-back : (count bytes : ℕ) (rest : List ℕ) → bytes < 2 ^ 32 → word_at (group_head count bytes ++ rest) 4 ≡ bytes
unfolding short_bytes word_at word_bytes
group-bytes-back count bytes rest fits = from_be_bytes-to_be_bytes_4 bytes fits

pub entries-follow : (count bytes : ℕ) (rest : List ℕ) → drop 24 (group_head count bytes ++ rest) ≡ rest
unfolding short_bytes word_bytes
entries-follow count bytes rest = refl

pub entry-unit-back : (h : UnitHead) (mark : ℕ) (rest : List ℕ) → h.unit.0 < 2 ^ 32 → word_at (entry_head h mark ++ rest) 0 ≡ h.unit.0
unfolding word_at word_bytes
entry-unit-back h mark rest fits = from_be_bytes-to_be_bytes_4 h.unit.0 fits

pub entry-version-back : (h : UnitHead) (mark : ℕ) (rest : List ℕ) → h.version < 2 ^ 32 → word_at (entry_head h mark ++ rest) 4 ≡ h.version
unfolding word_at word_bytes
entry-version-back h mark rest fits = from_be_bytes-to_be_bytes_4 h.version fits

pub entry-at-back : (h : UnitHead) (mark : ℕ) (rest : List ℕ) → h.at < 2 ^ 64 → long_at (entry_head h mark ++ rest) 8 ≡ h.at
unfolding word_bytes long_at long_bytes
entry-at-back h mark rest fits = from_be_bytes-to_be_bytes_8 h.at fits

pub entry-head-back : (h : UnitHead) (mark : ℕ) (rest : List ℕ) → h.unit.0 < 2 ^ 32 → h.version < 2 ^ 32 → h.at < 2 ^ 64 → entry_numbers (entry_head h mark ++ rest) ≡ h
entry-head-back h mark rest u v a = λ i. record { unit = record { 0 = entry-unit-back h mark rest u i }; version = entry-version-back h mark rest v i; at = entry-at-back h mark rest a i }

pub mark-back : (h : UnitHead) (mark : ℕ) (rest : List ℕ) → get_or (entry_head h mark ++ rest) 16 0 ≡ mark
unfolding word_bytes long_bytes
mark-back h mark rest = refl

pub entry-content-follows : (h : UnitHead) (mark : ℕ) (rest : List ℕ) → drop 20 (entry_head h mark ++ rest) ≡ rest
unfolding word_bytes long_bytes
entry-content-follows h mark rest = refl

pub length-unit-head : (h : UnitHead) (z : ℕ) → length (unit_head h z) ≡ 24
unfolding word_bytes long_bytes
length-unit-head h z = refl

pub length-ack : (count : ℕ) → length (ack count) ≡ 24
unfolding word_bytes
length-ack count = refl

pub length-group-head : (count bytes : ℕ) → length (group_head count bytes) ≡ 24
unfolding short_bytes word_bytes
length-group-head count bytes = refl

pub length-entry-head : (h : UnitHead) (mark : ℕ) → length (entry_head h mark) ≡ 20
unfolding word_bytes long_bytes
length-entry-head h mark = refl

-- the zeros stand where they are looked for
pub unit-zeros : (h : UnitHead) (z : ℕ) (rest : List ℕ) → zero_at (unit_head h z ++ rest) 2 2 ≡ true
unit-zeros h z rest = refl

pub ack-zeros : (count : ℕ) (rest : List ℕ) → zero_at (ack count ++ rest) 2 6 ≡ true
ack-zeros count rest = refl

pub ack-more-zeros : (count : ℕ) (rest : List ℕ) → zero_at (ack count ++ rest) 12 12 ≡ true
unfolding word_bytes
ack-more-zeros count rest = refl

pub group-zeros : (count bytes : ℕ) (rest : List ℕ) → zero_at (group_head count bytes ++ rest) 8 16 ≡ true
unfolding short_bytes word_bytes
group-zeros count bytes rest = refl

pub entry-zeros : (h : UnitHead) (mark : ℕ) (rest : List ℕ) → zero_at (entry_head h mark ++ rest) 17 3 ≡ true
unfolding word_bytes long_bytes
entry-zeros h mark rest = refl
