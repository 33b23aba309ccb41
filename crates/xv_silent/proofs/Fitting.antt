-- The wires with which a migration in memory has begun are fit for another one of its job, and so are devices that tell nothing
-- over its own.
use Rattle.std.specs.Prelude.{◌≡◌, ◌<◌, ℕ, zero, suc, ◌^◌, List, length, map, get_or, replicate, All}
use Rattle.std.specs.List.{range_with_len}
use Rattle.std.proofs.Common.{refl, sym, ap, subst, ◌∙◌, arith}
use Rattle.std.proofs.lemmas.List.{get_or-map, length-map}
use Rattle.std.proofs.lemmas.List.Elements.{All-map}
use Rattle.std.proofs.lemmas.List.FromFn.{get_or-map-range_with_len, length-map-range_with_len}
use Rattle.xv_base.specs.declared.pattern.Init.{Init}
use Rattle.xv_device.specs.Device.{Plan, write_count}
use Rattle.xv_device.specs.Told.{Told, IsSized}
use Rattle.xv_device.specs.Memory.{Device, told as told_device}
use Rattle.xv_wire.specs.Told.{Told as WireTold}
use Rattle.xv_wire.specs.Memory.{Pipe, told as told_pipe}
use Rattle.xv_job.specs.Written.{Written, job_of}
use Rattle.xv_core.specs.Seen.{OnWire}
use Rattle.xv_core.specs.Beginning.{IsDeviceFor, IsWireFor, stream_room}
use Rattle.xv_parts.specs.Memory.{device_begun, stream_begun, begun_in_memory}
use Rattle.xv_silent.specs.Silent.{quiet}

module _ (w : Written) where
  abbrev pub Fits : WireTold → Type 0
  Fits t = IsWireFor (stream_room (job_of w)) t

  wire-fits : (s : ℕ) → Fits (stream_begun w s).told
  wire-fits s = record { none = refl; no_piece = (refl, refl); little = omega arith; roomy = omega arith }

  abbrev begun-wires : List OnWire
  begun-wires = map (stream_begun w) (range_with_len 0 w.config.streams)

  each-fits : All (λ (x : OnWire). Fits x.told) begun-wires
  each-fits k d lt =
      let within : k < w.config.streams = omega (arith, length-map-range_with_len (stream_begun w) 0 w.config.streams) in
      subst (λ (x : OnWire). Fits x.told) (sym (get_or-map-range_with_len (stream_begun w) 0 w.config.streams k k d within (omega arith))) (wire-fits k)

  module _ (wires : List Pipe) (are : map told_pipe wires ≡ map (λ (x : OnWire). x.told) (begun_in_memory w).wires) where
    told-long : length (map told_pipe wires) ≡ length wires
    told-long = length-map wires told_pipe

    pub wires-long : length wires ≡ w.config.streams
    wires-long =
        sym told-long
        ∙ ap (λ (ts : List WireTold). length ts) are
        ∙ length-map begun-wires (λ (x : OnWire). x.told)
        ∙ length-map-range_with_len (stream_begun w) 0 w.config.streams

    all-told : All Fits (map told_pipe wires)
    all-told = subst (All Fits) (sym are) (All-map Fits (λ (x : OnWire). x.told) begun-wires each-fits)

    pub wires-fit : All (λ (p : Pipe). Fits (told_pipe p)) wires
    wires-fit k d lt =
        let there : k < length (map told_pipe wires) = omega (arith, told-long) in
        subst Fits (get_or-map told_pipe wires k d (told_pipe d) lt) (all-told k (told_pipe d) there)

zero-writes : (n unit : ℕ) → get_or (replicate n 0) unit 0 < 2 ^ 62
zero-writes zero unit = omega arith
zero-writes (suc n) zero = omega arith
zero-writes (suc n) (suc unit) = zero-writes n unit

pub silent-fits : (w : Written) (init : List Init) (plan : Plan) (device : Device) → IsSized (quiet device) → told_device device ≡ (device_begun w init plan).told → IsDeviceFor (job_of w) (quiet device)
silent-fits w init plan device sized is = record {
  layout = ap (λ (t : Told). t.shape) is;
  sized = sized;
  little = record {
    writes = λ unit. subst (λ (ws : List ℕ). write_count ws unit < 2 ^ 62) (sym (ap (λ (t : Told). t.writes) is)) (zero-writes _ unit);
    reads = tt;
    patches = tt;
    flushes = tt;
  };
}
