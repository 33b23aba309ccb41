-- What each call of a node makes of it: the two tables.
use Rattle.std.specs.Prelude.{◌+◌, ◌-◌, ◌^◌, ◌==◌, ◌||◌, ◌&&◌, ℕ, Bool, true, false, Option, None, Some, nat_lt, nat_le, if◌then◌else◌}
use Rattle.xv_handover.specs.declared.message.Message.{Message}
use Rattle.xv_handover.specs.declared.message.Kind.{Kind}
use Rattle.xv_handover.specs.declared.message.Kind.TheVariants.{Prepare, Ready, Commit, Abort}
use Rattle.xv_handover.specs.declared.kept.KeptA.{KeptA}
use Rattle.xv_handover.specs.declared.kept.KeptB.{KeptB}
use Rattle.xv_handover.specs.declared.kept.Stage.{Stage}
use Rattle.xv_handover.specs.declared.kept.Stage.TheVariants.{Idle, Prepared, Owner}

-- the greatest number of 32 bits
abbrev pub most : ℕ
most = 2 ^ 32 - 1

abbrev pub message : Kind → ℕ → ℕ → Message
message kind attempt number = record { kind = kind; attempt = attempt; number = number }

-- the message has this attempt and number
abbrev pub is_of : Message → ℕ → ℕ → Bool
is_of m attempt number = (m.attempt == attempt) && (m.number == number)

-- what a call makes of a node: the node after, whether that is kept anew, and the message that is sent
pub record Move (S : Type 0) : Type 0 where
  pub after : S
  pub keeps : Bool
  pub sends : Option Message

-- node A: what it keeps, and whether it has offered, which a restart forgets
pub record SideA : Type 0 where
  pub kept : KeptA
  pub offered : Bool

module _ {S : Type 0} where
  abbrev pub keeping : S → Option Message → Move S
  keeping after sends = record { after = after; keeps = true; sends = sends }

  abbrev pub telling : S → Option Message → Move S
  telling after sends = record { after = after; keeps = false; sends = sends }

-- a call without a move is not for now
abbrev pub write_a : SideA → Option (Move SideA)
write_a a = if a.offered || (a.kept.gone || (a.kept.number == most)) then None else
    Some (keeping (record a { kept = record a.kept { number = a.kept.number + 1 } }) None)

abbrev pub offer_a : SideA → Option (Move SideA)
offer_a a = if a.offered || (a.kept.gone || (a.kept.attempt == most)) then None else
    Some (keeping (record { kept = record a.kept { attempt = a.kept.attempt + 1 }; offered = true }) (Some (message Prepare (a.kept.attempt + 1) a.kept.number)))

abbrev pub withdraw_a : SideA → Option (Move SideA)
withdraw_a a = if a.offered then Some (telling (record a { offered = false }) (Some (message Abort a.kept.attempt 0))) else None

abbrev pub resend_a : SideA → Option (Move SideA)
resend_a a =
    if a.offered then Some (telling a (Some (message Prepare a.kept.attempt a.kept.number))) else
    if a.kept.gone then Some (telling a (Some (message Commit a.kept.attempt a.kept.number))) else None

-- of a Ready
abbrev pub receive_a : SideA → Message → Option (Move SideA)
receive_a a m =
    if is_of m a.kept.attempt a.kept.number && (a.offered || a.kept.gone) then
    (if a.offered then Some (keeping (record { kept = record a.kept { gone = true }; offered = false }) (Some (message Commit a.kept.attempt a.kept.number)))
    else Some (telling a (Some (message Commit a.kept.attempt a.kept.number))))
    else Some (telling a None)

-- node B's calls, by its stage
abbrev pub image_b : Stage → KeptB → ℕ → Option (Move KeptB)
image_b Idle b number = Some (keeping (record b { number = number }) None)
image_b Prepared b number = None
image_b Owner b number = None

abbrev pub write_b : Stage → KeptB → Option (Move KeptB)
write_b Idle b = None
write_b Prepared b = None
write_b Owner b = if b.number == most then None else Some (keeping (record b { number = b.number + 1 }) None)

abbrev pub resend_b : Stage → KeptB → Option (Move KeptB)
resend_b Idle b = None
resend_b Prepared b = Some (telling b (Some (message Ready b.attempt b.number)))
resend_b Owner b = None

-- node B is prepared for an attempt, and says so
abbrev pub prepares : KeptB → ℕ → Move KeptB
prepares b attempt = keeping (record b { stage = Prepared; attempt = attempt }) (Some (message Ready attempt b.number))

-- node B is idle, and that attempt has ended
abbrev pub ends : KeptB → ℕ → Move KeptB
ends b attempt = keeping (record b { stage = Idle; attempt = attempt }) None

abbrev pub prepare_b : Stage → KeptB → Message → Move KeptB
prepare_b Idle b m = if nat_lt b.attempt m.attempt && (m.number == b.number) then prepares b m.attempt else telling b None
prepare_b Prepared b m =
    if nat_lt b.attempt m.attempt then (if m.number == b.number then prepares b m.attempt else ends b b.attempt) else
    if is_of m b.attempt b.number then telling b (Some (message Ready b.attempt b.number)) else telling b None
prepare_b Owner b m = telling b None

abbrev pub commit_b : Stage → KeptB → Message → Move KeptB
commit_b Idle b m = telling b None
commit_b Prepared b m = if is_of m b.attempt b.number then keeping (record b { stage = Owner }) None else telling b None
commit_b Owner b m = telling b None

abbrev pub abort_b : Stage → KeptB → Message → Move KeptB
abort_b Idle b m = if nat_lt b.attempt m.attempt then ends b m.attempt else telling b None
abort_b Prepared b m = if nat_le b.attempt m.attempt then ends b m.attempt else telling b None
abort_b Owner b m = telling b None

-- of a message that is no Ready, by its kind
abbrev pub receive_b : Kind → KeptB → Message → Option (Move KeptB)
receive_b Prepare b m = Some (prepare_b b.stage b m)
receive_b Ready b m = Some (telling b None)
receive_b Commit b m = Some (commit_b b.stage b m)
receive_b Abort b m = Some (abort_b b.stage b m)
