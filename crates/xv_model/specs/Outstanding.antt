-- What is outstanding: the messages in the outbox, on the streams and held, as one bag. A bag is what counts, for a
-- test on messages, how many of them pass.
use Rattle.std.specs.Prelude.{ℕ, ◌+◌, ◌==◌, ◌&&◌, Bool, true, List, [], ◌∷◌, if◌then◌else◌}
use Rattle.xv_model.specs.View.{View, UnitHead}

-- how many messages of a list, of a stream's groups and of all streams pass a test
abbrev pub count : (UnitHead → Bool) → List UnitHead → ℕ
count test [] = 0
count test (m ∷ ms) = (if test m then 1 else 0) + count test ms

abbrev pub count_groups : (UnitHead → Bool) → List (List UnitHead) → ℕ
count_groups test [] = 0
count_groups test (group ∷ groups) = count test group + count_groups test groups

abbrev pub count_streams : (UnitHead → Bool) → List (List (List UnitHead)) → ℕ
count_streams test [] = 0
count_streams test (groups ∷ streams) = count_groups test groups + count_streams test streams

abbrev pub Bag : Type 0
Bag = (UnitHead → Bool) → ℕ

-- what has been sent and is not written, and what is outstanding over all
abbrev pub on_the_way : View → Bag
on_the_way v test = count_streams test v.streams + count test v.hold.held

abbrev pub outstanding : View → Bag
outstanding v test = count test v.outbox.messages + on_the_way v test

-- any message; one of a unit; of a unit and version; of a unit and version with this `at`
abbrev pub any : UnitHead → Bool
any m = true

abbrev pub of_unit : ℕ → UnitHead → Bool
of_unit unit m = m.unit.0 == unit

abbrev pub is_version : ℕ → ℕ → UnitHead → Bool
is_version unit version m = (m.unit.0 == unit) && (m.version == version)

abbrev pub is_message : ℕ → ℕ → ℕ → UnitHead → Bool
is_message unit version at m = is_version unit version m && (m.at == at)
