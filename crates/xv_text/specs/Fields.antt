-- The fields of a line by their kinds: numbers, and bytes in hexadecimal digits.
use Rattle.std.specs.Prelude.{◌<◌, ◌≤◌, ℕ, ◌+◌, ◌-◌, ◌*◌, ◌%◌, ◌^◌, ◌==◌, ◌&&◌, ◌||◌, not, nat_lt, nat_le, Bool, true, false, List, [], ◌∷◌, length, get_or, Option, Some, None, if◌then◌else◌}
use Rattle.std.specs.List.{list_all, list_any}
use Rattle.std.specs.Char.{is_ascii_digit}
use Rattle.std.specs.Int.{is_in_range}
use Rattle.std.specs.Str.Parse.{digits_value}
use Rattle.xv_base.specs.declared.text.LineWhy.{LineWhy}
use Rattle.xv_base.specs.declared.text.LineWhy.TheVariants.{BadWord, BadNumber, BadHex}
use Rattle.xv_text.specs.declared.row.Kind.{Kind}
use Rattle.xv_text.specs.declared.row.Kind.TheVariants.{Number, Bytes}

-- a decimal number below 2^32 without leading zeros, and which
abbrev pub is_number : List ℕ → Bool
is_number field =
    nat_lt 0 (length field) && list_all is_ascii_digit field
    && (length field == 1 || not (get_or field 0 0 == 48))
    && nat_lt (digits_value 10 field) (2 ^ 32)

abbrev pub number : List ℕ → ℕ
number field = digits_value 10 field

-- from 1 to 64 bytes in hexadecimal digits, and which
abbrev pub is_hex_digit : ℕ → Bool
is_hex_digit digit = is_ascii_digit digit || is_in_range 97 102 digit

abbrev pub hex_value : ℕ → ℕ
hex_value digit = if nat_lt digit 58 then digit - 48 else digit - 87

abbrev pub is_hex : List ℕ → Bool
is_hex field = list_all is_hex_digit field && (length field % 2 == 0) && nat_le 2 (length field) && nat_le (length field) 128

abbrev pub hex_bytes : List ℕ → List ℕ
hex_bytes [] = []
hex_bytes (digit ∷ []) = []
hex_bytes (high ∷ low ∷ digits) = (16 * hex_value high + hex_value low) ∷ hex_bytes digits

-- a pattern: from 1 to 64 bytes
pub record IsPattern (pattern : List ℕ) : Type 0 where
  pub some : 1 ≤ length pattern
  pub few : length pattern ≤ 64
  pub bytes_fit : (i : ℕ) → get_or pattern i 0 < 256

-- what is wrong with a field of this kind
abbrev pub field_fault : Kind → List ℕ → Option LineWhy
field_fault Number field = if is_number field then None else Some BadNumber
field_fault Bytes field = if is_hex field then None else Some BadHex

-- what is wrong first, by two tests of which the earlier one comes first
abbrev pub or_else : Option LineWhy → Option LineWhy → Option LineWhy
or_else (Some why) later = Some why
or_else None later = later

-- a fault where a test says so
abbrev pub fault_if : Bool → LineWhy → Option LineWhy
fault_if there why = if there then Some why else None

-- the first of these fields that is not of its kind
abbrev pub kinds_fault : List Kind → List (List ℕ) → Option LineWhy
kinds_fault [] fields = None
kinds_fault (kind ∷ kinds) [] = None
kinds_fault (kind ∷ kinds) (field ∷ fields) = or_else (field_fault kind field) (kinds_fault kinds fields)

-- what is wrong with fields of these kinds: a wrong number of them or one without bytes, and then the first that is
-- not of its kind
abbrev pub is_empty : List ℕ → Bool
is_empty [] = true
is_empty (byte ∷ rest) = false

abbrev pub fields_fault : List Kind → List (List ℕ) → Option LineWhy
fields_fault kinds fields =
    or_else (fault_if (not (length fields == length kinds) || list_any is_empty fields) BadWord) (kinds_fault kinds fields)

-- what fields say: their numbers in order, and the bytes of the last field of bytes
pub record Values : Type 0 where
  pub numbers : List ℕ
  pub pattern : List ℕ

abbrev pub with_field : Kind → List ℕ → Values → Values
with_field Number field v = record { numbers = number field ∷ v.numbers; pattern = v.pattern }
with_field Bytes field v = record { numbers = v.numbers; pattern = if is_empty v.pattern then hex_bytes field else v.pattern }

abbrev pub values : List Kind → List (List ℕ) → Values
values [] fields = record { numbers = []; pattern = [] }
values (kind ∷ kinds) [] = record { numbers = []; pattern = [] }
values (kind ∷ kinds) (field ∷ fields) = with_field kind field (values kinds fields)

abbrev pub number_at : Values → ℕ → ℕ
number_at v i = get_or v.numbers i 0
