-- The kinds of calls on the outside that are numbered.
use Rattle.std.specs.Prelude.{ℕ, ◌==◌, not, Bool, true, false}

pub data Call : Type 0 where
  NoCall : Call
  SourceRead : Call
  SourceWrite : Call
  DestRead : Call
  DestWrite : Call
  DestFlush : Call
  Put : ℕ → Call
  Take : ℕ → Call
  AckPut : Call
  AckTake : Call

abbrev pub same_call : Call → Call → Bool
same_call NoCall NoCall = true
same_call SourceRead SourceRead = true
same_call SourceWrite SourceWrite = true
same_call DestRead DestRead = true
same_call DestWrite DestWrite = true
same_call DestFlush DestFlush = true
same_call (Put s) (Put t) = s == t
same_call (Take s) (Take t) = s == t
same_call AckPut AckPut = true
same_call AckTake AckTake = true
same_call c d = false

abbrev pub is_call : Call → Bool
is_call c = not (same_call c NoCall)
