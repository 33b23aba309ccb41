-- That the nodes never both own the guest, what its owner's number is, and what the messages tell.
use Rattle.std.specs.Prelude.{◌≡◌, ◌≢◌, ◌⊎◌, ◌+◌, ◌<◌, ◌≤◌, ℕ, Bool, true, false, List, length, take, Contains}
use Rattle.xv_handover.specs.declared.message.Message.{Message}
use Rattle.xv_handover.specs.declared.message.Kind.TheVariants.{Prepare, Ready, Commit, Abort}
use Rattle.xv_handover.specs.declared.kept.KeptA.{KeptA}
use Rattle.xv_handover.specs.declared.kept.KeptB.{KeptB}
use Rattle.xv_handover.specs.declared.kept.Stage.TheVariants.{Prepared, Owner}
use Rattle.xv_handover.specs.Tables.{message}
use Rattle.xv_handover.specs.declared.world.WorldEvent.{WorldEvent}
use Rattle.xv_handover.specs.World.{Both, first_world, world_after}

-- node B has node A's attempt, and is prepared with its number or owns with at least that
pub record IsMet (a : KeptA) (b : KeptB) : Type 0 where
  pub attempt : b.attempt ≡ a.attempt
  pub number : ((b.stage ≡ Prepared) × (b.number ≡ a.number)) ⊎ ((b.stage ≡ Owner) × (a.number ≤ b.number))

-- the nodes never both own; node B waits for what node A has let go, or has it; and it has nothing else
pub record IsSafe (a : KeptA) (b : KeptB) : Type 0 where
  pub one_owner : a.gone ≡ false → b.stage ≢ Owner
  pub met : a.gone ≡ true → IsMet a b
  pub owner : b.stage ≡ Owner → a.gone ≡ true

-- node A has offered, or has let the guest go
abbrev pub IsBound : KeptA → Bool → Type 0
IsBound a offered = (offered ≡ true) ⊎ (a.gone ≡ true)

-- what a message that was sent, however long ago, tells of the nodes
pub record IsTrueOf (a : KeptA) (offered : Bool) (b : KeptB) (m : Message) : Type 0 where
  pub attempt : m.attempt ≤ a.attempt
  pub commit : m.kind ≡ Commit → (a.gone ≡ true) × (m.attempt ≡ a.attempt) × (m.number ≡ a.number)
  pub abort : m.kind ≡ Abort → IsBound a offered → m.attempt ≢ a.attempt
  pub prepare : m.kind ≡ Prepare → IsBound a offered → m.attempt ≡ a.attempt → m.number ≡ a.number
  pub ready : m.kind ≡ Ready → IsBound a offered → m.attempt ≡ a.attempt → m.number ≡ a.number → IsMet a b

-- the facts that every event keeps
pub record IsSound (a : KeptA) (offered : Bool) (b : KeptB) (sent : List Message) : Type 0 where
  pub safe : IsSafe a b
  pub not_both : offered ≡ true → a.gone ≢ true
  pub attempt : b.attempt ≤ a.attempt
  pub told : (m : Message) → Contains sent m → IsTrueOf a offered b m
  pub offer : IsBound a offered → Contains sent (message Prepare a.attempt a.number)

-- node B has the number of node A, and that of the one offer that was made in its attempt
pub record IsAsOffered (w : Both) : Type 0 where
  pub number : w.b.number ≡ w.a.number
  pub offer : Contains w.sent (message Prepare w.b.attempt w.b.number)
  pub only : (m : Message) → Contains w.sent m → m.kind ≡ Prepare → m.attempt ≡ w.b.attempt → m.number ≡ w.b.number

-- where node B becomes the owner, it is as was offered
abbrev pub HandsOver : Both → Both → Type 0
HandsOver before after = before.b.stage ≢ Owner → after.b.stage ≡ Owner → IsAsOffered after

-- at no event between two following fronts of the events does node B become the owner otherwise
pub record AlwaysHandsOver (events : List WorldEvent) : Type 0 where
  pub next : (n : ℕ) → n < length events → HandsOver (world_after first_world (take n events)) (world_after first_world (take (n + 1) events))
