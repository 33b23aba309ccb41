-- That a migration waited: nothing moved, though a wire may have counted a fault of a take that found nothing.
use Rattle.std.specs.Prelude.{◌≡◌, ◌≤◌, List, [], ◌∷◌, ⊤}
use Rattle.xv_streams.specs.Streamed.{LaneSeen}
use Rattle.xv_streams.specs.Returned.{Returned}
use Rattle.xv_core.specs.State.{State}

pub record IsStill (before later : LaneSeen) : Type 0 where
  pub groups : later.groups ≡ before.groups
  pub gathered : later.gathered ≡ before.gathered
  pub wire : later.wire ≡ before.wire
  pub faults : before.faults ≤ later.faults

pub record IsStillBack (before later : Returned) : Type 0 where
  pub counts : later.counts ≡ before.counts
  pub gathered : later.gathered ≡ before.gathered
  pub wire : later.wire ≡ before.wire
  pub faults : before.faults ≤ later.faults

-- each of some streams, one by one
abbrev pub AreStill : List LaneSeen → List LaneSeen → Type 0
AreStill [] [] = ⊤
AreStill [] (m ∷ ms) = ⊥
AreStill (l ∷ ls) [] = ⊥
AreStill (l ∷ ls) (m ∷ ms) = IsStill l m × AreStill ls ms

-- all but the streams and the way back is as it was, and on these nothing moved
pub record Waited (s t : State) : Type 0 where
  pub rest : t ≡ record s { streams = t.streams; back = t.back }
  pub streams : t.streams ≡ record s.streams { lanes = t.streams.lanes; got = t.streams.got }
  pub lanes : AreStill s.streams.lanes t.streams.lanes
  pub back : IsStillBack s.back t.back
