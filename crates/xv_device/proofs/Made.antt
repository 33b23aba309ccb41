-- A call of a device in memory is exactly that call of what it tells.
use Rattle.std.proofs.Common.{◌≡◌, ℕ, ◌+◌, ◌-◌, ◌^◌, ◌<◌, ◌≤◌, min, Bool, true, false, if◌then◌else◌, List, length, set, Some, refl, sym, ap, ◌∙◌, subst, arith}
use Rattle.xv_base.specs.Units.{units, size}
use Rattle.xv_base.specs.Calls.{Planned, fails_next, is_listed, next_count}
use Rattle.xv_device.specs.Device.{DeviceCall, NoCall, ReadRange, PatchRange, WriteUnit, FlushAll, content, patched, is_planned}
use Rattle.xv_device.specs.Told.{CallMade, IsSized, IsCountable, told_after}
use Rattle.xv_device.specs.Memory.{Device, after, counted, told, faults}
use Rattle.xv_device.proofs.Pieces.{patched-all}

-- a count that has room is one more
counts-one : (n : ℕ) → n < 2 ^ 63 → next_count n ≡ n + 1
counts-one n h = omega arith

pub fails-planned : (failed : Bool) (p : Planned) → p.calls < 2 ^ 63 → failed ≡ fails_next p → failed ≡ is_listed p.fails (p.calls + 1)
fails-planned failed p h e = e ∙ ap (is_listed p.fails) (counts-one p.calls h)

-- what is told of it after a call
told-more : (call : DeviceCall) (failed : Bool) (d : Device) → IsCountable call (counted d).calls → told (after call failed d) ≡ told_after call failed (told d)
told-more NoCall failed d h = refl
told-more (ReadRange unit offset len) failed d h =
    ap (λ n. record (told_after (ReadRange unit offset len) failed (told d)) { counted = Some (record (counted d) { calls = record (counted d).calls { reads = n } }) }) (counts-one d.reading.calls h)
told-more (PatchRange unit offset bytes) failed d h =
    ap (λ n. record (told_after (PatchRange unit offset bytes) failed (told d)) { counted = Some (record (counted d) { calls = record (counted d).calls { writes = n } }) }) (counts-one d.writing.calls h)
told-more (WriteUnit unit bytes) failed d h =
    ap (λ n. record (told_after (WriteUnit unit bytes) failed (told d)) { counted = Some (record (counted d) { calls = record (counted d).calls { writes = n } }) }) (counts-one d.writing.calls h)
told-more FlushAll failed d h =
    ap (λ n. record (told_after FlushAll failed (told d)) { counted = Some (record (counted d) { calls = record (counted d).calls { flushes = n } }) }) (counts-one d.flushing.calls h)

-- the count of faults of one kind beside those of the others
rises : (failed : Bool) (n others : ℕ) → min (n + others + (if failed then 1 else 0)) (2 ^ 64 - 1) ≤ (if failed then next_count n else n) + others
rises true n others = omega arith
rises false n others = omega arith

never-falls : (failed : Bool) (n : ℕ) → n ≤ (if failed then next_count n else n)
never-falls true n = omega arith
never-falls false n = omega arith

faults-rise : (call : DeviceCall) (failed : Bool) (d : Device) → failed ≡ is_planned call (counted d) → min (faults d + (if failed then 1 else 0)) (2 ^ 64 - 1) ≤ faults (after call failed d)
faults-rise NoCall failed d p = rw p (omega arith)
faults-rise (ReadRange unit offset len) failed d p = omega (arith, rises failed d.reading.faults (d.writing.faults + d.flushing.faults))
faults-rise (PatchRange unit offset bytes) failed d p = omega (arith, rises failed d.writing.faults (d.reading.faults + d.flushing.faults))
faults-rise (WriteUnit unit bytes) failed d p = omega (arith, rises failed d.writing.faults (d.reading.faults + d.flushing.faults))
faults-rise FlushAll failed d p = omega (arith, rises failed d.flushing.faults (d.reading.faults + d.writing.faults))

faults-stay : (call : DeviceCall) (failed : Bool) (d : Device) → faults d ≤ faults (after call failed d)
faults-stay NoCall failed d = omega arith
faults-stay (ReadRange unit offset len) failed d = omega (arith, never-falls failed d.reading.faults)
faults-stay (PatchRange unit offset bytes) failed d = omega (arith, never-falls failed d.writing.faults)
faults-stay (WriteUnit unit bytes) failed d = omega (arith, never-falls failed d.writing.faults)
faults-stay FlushAll failed d = omega (arith, never-falls failed d.flushing.faults)

pub after-made : (call : DeviceCall) (failed : Bool) (old new : Device) → new ≡ after call failed old → IsCountable call (counted old).calls → failed ≡ is_planned call (counted old)
    → CallMade call failed (told old) (told new) (faults old) (faults new)
after-made call failed old new e h p =
    let made : CallMade call failed (told old) (told (after call failed old)) (faults old) (faults (after call failed old)) = record {
      told = told-more call failed old h;
      planned = p;
      cause = faults-rise call failed old p;
      never_falls = faults-stay call failed old;
    } in
    subst (λ (d : Device). CallMade call failed (told old) (told d) (faults old) (faults d)) (sym e) made

-- a whole unit written is that unit patched from its start
pub patch-writes : (d new : Device) (unit : ℕ) (bytes : List ℕ) (failed : Bool) → IsSized (told d) → unit < units d.shape → length bytes ≡ size d.shape unit
    → new ≡ after (PatchRange unit 0 bytes) failed d → new ≡ after (WriteUnit unit bytes) failed d
patch-writes d new unit bytes failed s h whole e =
    let all : patched 0 bytes (content d.contents unit) ≡ bytes = patched-all bytes (content d.contents unit) (s.full unit h ∙ sym whole) in
    e ∙ ap (λ c. record (after (WriteUnit unit bytes) failed d) { contents = if failed then d.contents else set d.contents unit c }) all
