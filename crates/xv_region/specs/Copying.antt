-- The copy of one disk, a region of blocks at a time.
use Rattle.std.specs.Prelude.{◌≡◌, ◌≤◌, ◌<◌, ℕ, ◌+◌, ◌*◌, ◌^◌, ◌==◌, ◌&&◌, nat_lt, Bool, List, [], length, map, take, drop, replicate, get_or}
use Rattle.std.specs.List.{range_with_len, refill}

-- The blocks below the cursor are behind. The region begins at the cursor and has `region` blocks, none where there is
-- no region; these blocks of it were read, and these bytes stand in the place of the next. There are places for `most`
-- blocks of `size` bytes each.
pub record Copying : Type 0 where
  pub cursor : ℕ
  pub region : ℕ
  pub read : List (List ℕ)
  pub next : List ℕ
  pub most : ℕ
  pub size : ℕ

-- before any block is copied
abbrev pub fresh : ℕ → ℕ → Copying
fresh n z = record { cursor = 0; region = 0; read = []; next = replicate z 0; most = n; size = z }

-- whether there is a region and all of it was read
abbrev pub is_ready : Copying → Bool
is_ready c = nat_lt 0 c.region && (length c.read == c.region)

-- a block that was read
abbrev pub block : Copying → ℕ → List ℕ
block c i = get_or c.read i []

-- after these bytes were laid over the place of the next block
abbrev pub with_next : Copying → List ℕ → Copying
with_next c bytes = record c { next = refill c.size c.next bytes }

-- the bytes in one of the places, which lie one after another, and those in the first n of them
abbrev pub place_of : ℕ → List ℕ → ℕ → List ℕ
place_of size bytes i = take size (drop (i * size) bytes)

abbrev pub places_of : ℕ → List ℕ → ℕ → List (List ℕ)
places_of size bytes n = map (place_of size bytes) (range_with_len 0 n)

-- the numbers fit the places
pub record HasPlaces (cursor region got most size : ℕ) (bytes : List ℕ) : Type 0 where
  pub all_there : length bytes ≡ most * size
  pub some : 0 < most
  pub fits : region ≤ most
  pub read_within : got ≤ region
  pub small : cursor + region < 2 ^ 32
