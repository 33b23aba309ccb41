-- A journal as text: the line of each of its entries, a read with the bytes that the unmigrated guest reads there.
use Rattle.std.specs.Prelude.{ℕ, nat_le, Bool, List, [], ◌∷◌, ◌++◌, take, drop}
use Rattle.xv_base.specs.declared.event.Event.{Event}
use Rattle.xv_base.specs.declared.event.Event.TheVariants.{Guest}
use Rattle.xv_base.specs.declared.answer.Turn.{Turn}
use Rattle.xv_base.specs.declared.answer.Turn.TheVariants.{Done}
use Rattle.xv_base.specs.declared.answer.Entry.{Entry}
use Rattle.xv_model.specs.Job.{Job}
use Rattle.xv_script.specs.Lines.{turn_line}
use Rattle.xv_core.specs.Losing.{read_between}

-- the lines of entries that stand behind others
abbrev pub lines_behind : Job → List Entry → List Entry → List ℕ
lines_behind job before [] = []
lines_behind job before (e ∷ es) =
    turn_line e.event e.turn (read_between job before (before ++ e ∷ [])) ++ lines_behind job (before ++ e ∷ []) es

-- This is only a name, so that no goal writes out the text.
unfoldable pub journal_text : Job → List Entry → List ℕ
journal_text job journal = lines_behind job [] journal

-- ---- for private clauses: the bytes of all reads stand one behind the other

-- how many bytes an entry read for its guest: of a guest's event that is done, what its note tells, and else none
abbrev pub bytes_of : Event → Turn → ℕ
bytes_of (Guest g) (Done note) = note.a
bytes_of event turn = 0

abbrev pub bytes_read : Entry → ℕ
bytes_read e = bytes_of e.event e.turn

-- a read has at most as many bytes as a line has room for
abbrev pub is_short : Entry → Bool
is_short e = nat_le (bytes_read e) 64

-- the lines of entries whose guests read these bytes
abbrev pub lines_with : List Entry → List ℕ → List ℕ
lines_with [] reads = []
lines_with (e ∷ es) reads = turn_line e.event e.turn (take (bytes_read e) reads) ++ lines_with es (drop (bytes_read e) reads)
