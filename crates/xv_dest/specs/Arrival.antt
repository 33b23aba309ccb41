-- What the front of a stream does to the destination's half.
use Rattle.std.specs.Prelude.{◌≡◌, ℕ, ◌==◌, List, [], ◌∷◌, ◌++◌, length, get_or, if◌then◌else◌}
use Rattle.xv_base.specs.declared.limits.TheConstants.{SINGLE_FORMAT}
use Rattle.xv_base.specs.declared.answer.Turn.TheVariants.{Done, Queued, Faulted, Wait, Failed}
use Rattle.xv_base.specs.declared.answer.Why.TheVariants.{NothingThere}
use Rattle.xv_base.specs.declared.answer.Cause.TheVariants.{Take}
use Rattle.xv_frame.specs.Frame.{Message}
use Rattle.xv_streams.specs.Fronts.{heads_of, contents_of}
use Rattle.xv_model.specs.View.{UnitHead, no_message}
use Rattle.xv_model.specs.Effect.{Turn, Note}
use Rattle.xv_dest.specs.Half.{Dest}

-- the half with the messages of a group behind those that it holds
abbrev pub with_group : Dest → List Message → Dest
with_group h group = record h { held = h.held ++ heads_of group; contents = h.contents ++ contents_of group }

-- what is told of a group: of one message its unit and version, else how many there are and the unit of the first
abbrev pub first_head : List Message → UnitHead
first_head group = get_or (heads_of group) 0 no_message

abbrev pub group_told : ℕ → List Message → Note
group_told format group =
    if format == SINGLE_FORMAT then record { a = (first_head group).unit.0; b = (first_head group).version }
    else record { a = length (heads_of group); b = (first_head group).unit.0 }

-- The front of a stream's groups arrived, as the answer says: all its messages where the event is done, and nothing where
-- there was none or the take failed.
abbrev pub Arrives : ℕ → ℕ → Turn → List (List Message) → Dest → Dest → Type 0
Arrives format stream (Done n) [] old new = ⊥
Arrives format stream (Done n) (g ∷ gs) old new = (n ≡ group_told format g) × (new ≡ with_group old g)
Arrives format stream Queued groups old new = ⊥
Arrives format stream Faulted groups old new = ⊥
Arrives format stream (Wait why) groups old new = (why ≡ NothingThere) × (groups ≡ []) × (new ≡ old)
Arrives format stream (Failed cause) groups old new = (cause ≡ Take stream) × (new ≡ old)
