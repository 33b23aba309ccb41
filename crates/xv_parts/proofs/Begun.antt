-- The wires of a job are fit for it, and the migration that begins over its devices and wires is the one in memory.
use Rattle.std.specs.Prelude.{◌≡◌, ◌<◌, ℕ, ◌+◌, List, [], ◌∷◌, ◌++◌, length, map, get_or}
use Rattle.std.specs.List.{range_with_len}
use Rattle.std.proofs.Common.{refl, sym, ap, subst, ◌∙◌, arith}
use Rattle.std.proofs.lemmas.List.FromFn.{get_or-map-range_with_len, length-map-range_with_len, map-range_with_len_more}
use Rattle.xv_device.specs.Memory.{Device, fresh as fresh_device, told as told_device, faults as device_faults}
use Rattle.xv_wire.specs.Memory.{Pipe, told as told_pipe}
use Rattle.xv_job.specs.Written.{Written, job_of}
use Rattle.xv_core.specs.Seen.{OnDevice, OnWire}
use Rattle.xv_core.specs.Beginning.{IsWireFor, stream_room, back_room, fresh_wire, begun}
use Rattle.xv_parts.specs.Plans.{source_plan, dest_plan, back_plan}
use Rattle.xv_parts.specs.Memory.{pipe_begun, stream_pipe, stream_begun, device_begun, begun_in_memory}

-- a wire more
pub wire-more : (w : Written) (before later : List Pipe) (n : ℕ) (wire : Pipe) →
    later ≡ before ++ wire ∷ [] → before ≡ map (stream_pipe w) (range_with_len 0 n) → wire ≡ stream_pipe w n → later ≡ map (stream_pipe w) (range_with_len 0 (n + 1))
wire-more w before later n wire pushed are is =
    pushed
    ∙ ap (λ (ws : List Pipe). ws ++ wire ∷ []) are
    ∙ ap (λ (p : Pipe). map (stream_pipe w) (range_with_len 0 n) ++ p ∷ []) is
    ∙ sym (map-range_with_len_more (stream_pipe w) 0 n n (omega arith))

-- the wires of the streams
module _ (w : Written) (wires : List Pipe) (are : wires ≡ map (stream_pipe w) (range_with_len 0 w.config.streams)) where
  pub wires-long : length wires ≡ w.config.streams
  wires-long = ap {B = ℕ} (λ (ws : List Pipe). length ws) are ∙ length-map-range_with_len (stream_pipe w) 0 w.config.streams

  wire-fits : (s : ℕ) → IsWireFor (stream_room (job_of w)) (told_pipe (stream_pipe w s))
  wire-fits s = record { none = refl; no_piece = (refl, refl); little = omega arith; roomy = omega arith }

  pub wires-fit : (k : ℕ) (d : Pipe) → k < length wires → IsWireFor (stream_room (job_of w)) (told_pipe (get_or wires k d))
  wires-fit k d lt =
      let within : k < w.config.streams = omega (arith, wires-long) in
      let is : get_or wires k d ≡ stream_pipe w k =
      ap (λ (ws : List Pipe). get_or ws k d) are ∙ get_or-map-range_with_len (stream_pipe w) 0 w.config.streams k k d within (omega arith) in
      subst (λ (p : Pipe). IsWireFor (stream_room (job_of w)) (told_pipe p)) (sym is) (wire-fits k)

-- the wire back
pub back-fits : (w : Written) → IsWireFor (back_room (job_of w)) (told_pipe (pipe_begun (back_room (job_of w)) (back_plan w.faults)))
back-fits w = record { none = refl; no_piece = (refl, refl); little = omega arith; roomy = omega arith }

-- how a wire is seen in a migration that has just begun
abbrev seen_pipe : Pipe → OnWire
seen_pipe p = fresh_wire (told_pipe p) p.faults

seen-each : (w : Written) (ns : List ℕ) → map seen_pipe (map (stream_pipe w) ns) ≡ map (stream_begun w) ns
seen-each w [] = refl
seen-each w (n ∷ ns) = ap (λ (ws : List OnWire). stream_begun w n ∷ ws) (seen-each w ns)

abbrev seen_device : Device → OnDevice
seen_device d = record { told = told_device d; faults = device_faults d }

-- all parts of the migration
pub begun-is : (w : Written) (source dest : Device) (wires : List Pipe) (back : Pipe) →
    source ≡ fresh_device w.shape w.init (source_plan w.faults) → dest ≡ fresh_device w.shape [] (dest_plan w.faults) →
    wires ≡ map (stream_pipe w) (range_with_len 0 w.config.streams) → back ≡ pipe_begun (back_room (job_of w)) (back_plan w.faults) →
    begun w (record { told = told_device source; faults = device_faults source }) (record { told = told_device dest; faults = device_faults dest }) (map (λ p. fresh_wire (told_pipe p) p.faults) wires) (fresh_wire (told_pipe back) back.faults) ≡ begun_in_memory w
begun-is w source dest wires back s d ws b =
    let streams = range_with_len 0 w.config.streams in
    let at_source : OnDevice = device_begun w w.init (source_plan w.faults) in
    let at_dest : OnDevice = device_begun w [] (dest_plan w.faults) in
    ap (λ (x : Device). begun w (seen_device x) (seen_device dest) (map seen_pipe wires) (seen_pipe back)) s
    ∙ ap (λ (x : Device). begun w at_source (seen_device x) (map seen_pipe wires) (seen_pipe back)) d
    ∙ ap (λ (x : List Pipe). begun w at_source at_dest (map seen_pipe x) (seen_pipe back)) ws
    ∙ ap (λ (x : List OnWire). begun w at_source at_dest x (seen_pipe back)) (seen-each w streams)
    ∙ ap (λ (x : Pipe). begun w at_source at_dest (map (stream_begun w) streams) (seen_pipe x)) b
