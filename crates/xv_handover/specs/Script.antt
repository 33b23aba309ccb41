-- A handover's script as far as its lines have been read; what is wrong with a line, and the script after it.
use Rattle.std.specs.Prelude.{◌≡◌, ◌≤◌, ℕ, ◌^◌, nat_le, nat_lt, Bool, true, false, List, [], ◌∷◌, ◌++◌, length, Option, Some, None}
use Rattle.std.specs.List.{list_all}
use Rattle.xv_base.specs.declared.text.LineFault.{LineFault}
use Rattle.xv_base.specs.declared.text.LineWhy.{LineWhy}
use Rattle.xv_base.specs.declared.text.LineWhy.TheVariants.{BadWord, Limit}
use Rattle.xv_base.specs.declared.limits.TheConstants.{MOST_WORLD_EVENTS}
use Rattle.xv_text.specs.declared.limits.TheConstants.{LIMIT_OF_EVENTS}
use Rattle.xv_text.specs.Lines.{lines_of, has_rest}
use Rattle.xv_text.specs.Fields.{or_else, fault_if}
use Rattle.xv_text.specs.Reading.{Reader, first_fault, last_state}
use Rattle.xv_handover.specs.Words.{word_of, args_fault, event_said}
use Rattle.xv_handover.specs.declared.word.Word.{Word}
use Rattle.xv_handover.specs.declared.world.WorldEvent.{WorldEvent}
use Rattle.xv_handover.specs.declared.world.WorldEvent.TheVariants.{WriteA, WriteB, Image, Offer, Withdraw, ResendA, ResendB, RestartA, RestartB, Pass}

-- the events so far, and whether `stop` has come
pub record Script : Type 0 where
  pub events : List WorldEvent
  pub stopped : Bool

abbrev pub first_script : Script
first_script = record { events = []; stopped = false }

-- how many events a script has at most; there is no limit to `stop`
abbrev pub event_limit : ℕ
event_limit = MOST_WORLD_EVENTS

abbrev pub limit_fault : ℕ → Option WorldEvent → Option LineWhy
limit_fault before None = None
limit_fault before (Some event) = fault_if (nat_le event_limit before) (Limit LIMIT_OF_EVENTS)

-- what is wrong with a line behind so many events, the first reason: its word, what follows it, and its place
abbrev pub word_fault : ℕ → Option Word → List (List ℕ) → Option LineWhy
word_fault before None args = Some BadWord
word_fault before (Some word) args = or_else (args_fault word args) (limit_fault before (event_said word args))

abbrev pub line_fault : ℕ → List (List ℕ) → Option LineWhy
line_fault before [] = Some BadWord
line_fault before (field ∷ args) = word_fault before (word_of field) args

-- the event that a line without a fault says; none where the script stops
abbrev pub event_by : Option Word → List (List ℕ) → Option WorldEvent
event_by None args = None
event_by (Some word) args = event_said word args

abbrev pub event_in : List (List ℕ) → Option WorldEvent
event_in [] = None
event_in (field ∷ args) = event_by (word_of field) args

-- the script with one event more, or stopped
abbrev pub with_event : Script → Option WorldEvent → Script
with_event s None = record s { stopped = true }
with_event s (Some event) = record s { events = s.events ++ event ∷ [] }

-- what reads a script
abbrev pub is_stopped : Script → Bool
is_stopped s = s.stopped

abbrev pub fault_in : Script → List (List ℕ) → Option LineWhy
fault_in s line = line_fault (length s.events) line

abbrev pub next_script : Script → List (List ℕ) → Script
next_script s line = with_event s (event_in line)

abbrev pub reader : Reader Script
reader = record { is_ended = is_stopped; fault = fault_in; next = next_script }

-- what is wrong with a text, and the events that one without a fault says
abbrev pub text_fault : List ℕ → Option LineFault
text_fault text = first_fault reader true first_script 1 (lines_of text) (has_rest text)

abbrev pub text_events : List ℕ → List WorldEvent
text_events text = (last_state reader first_script (lines_of text)).events

-- the number that an event has in its line
abbrev pub event_number : WorldEvent → ℕ
event_number WriteA = 0
event_number WriteB = 0
event_number (Image number) = number
event_number Offer = 0
event_number Withdraw = 0
event_number ResendA = 0
event_number ResendB = 0
event_number RestartA = 0
event_number RestartB = 0
event_number (Pass number) = number

abbrev pub is_written : WorldEvent → Bool
is_written event = nat_lt (event_number event) (2 ^ 32)

-- the events of a script: not more than the limit, and their numbers are of 32 bits
pub record IsScript (events : List WorldEvent) : Type 0 where
  pub few : length events ≤ event_limit
  pub written : list_all is_written events ≡ true
