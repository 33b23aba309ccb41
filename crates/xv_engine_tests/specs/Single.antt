-- Streams as the tests keep them.
use Rattle.std.specs.Prelude.{◌≡◌, ◌≤◌, ◌<◌, ◌^◌, [], length, IfSome}
use Rattle.xv_base.specs.Units.{shape_of}
use Rattle.xv_streams.specs.Streamed.{Streamed, LaneSeen}

-- one stream of format 1, for three pages of 16 bytes
pub record IsSingle (s : Streamed) : Type 0 where
  pub shape : s.shape ≡ shape_of 3 16 []
  pub format : s.format ≡ 1
  pub one : length s.lanes ≡ 1

-- a stream on which nothing is, with room for 16 messages
pub record IsEmptyLane (l : LaneSeen) : Type 0 where
  pub transit : l.wire.transit ≡ []
  pub capacity : 960 ≤ l.wire.capacity
  pub countable : IfSome l.wire.counted (λ c. c.puts < 2 ^ 63)
