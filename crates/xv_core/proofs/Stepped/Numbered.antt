-- No call changes of how many units a device tells the number of writes, or the content.
use Rattle.std.specs.Prelude.{◌≡◌, ℕ, Bool, true, false, if◌then◌else◌, List, [], length, Option, Some, None, option_map, unwrap_or}
use Rattle.std.proofs.Common.{refl, ap, ◌∙◌}
use Rattle.std.proofs.lemmas.List.{length-set}
use Rattle.xv_device.specs.Device.{DeviceCall, NoCall, ReadRange, PatchRange, WriteUnit, FlushAll, writes_after, contents_after}
use Rattle.xv_device.specs.Told.{Told}
use Rattle.xv_model.specs.Outside.{Outside, NoOutside, ReadSource, WriteSource, ReadDest, WriteDest, FlushDest, PutOn, TakeFrom, PutBack, TakeBack}
use Rattle.xv_core.specs.Seen.{OnDevice}
use Rattle.xv_core.specs.Calls.{Made, write_call, CallsSource, CallsDest}
use Rattle.xv_core.specs.Keeping.{told_contents}

-- what every call leaves of a device, every event leaves
module _ (number : OnDevice → ℕ) (made : (call : DeviceCall) (failed : Bool) (before later : OnDevice) → Made call failed before later → number later ≡ number before) where
  source-leaves : (o : Outside) (failed : Bool) (before later : OnDevice) → CallsSource o failed before later → number later ≡ number before
  source-leaves NoOutside failed before later h = ap number h
  source-leaves (ReadSource p) failed before later h = made (ReadRange p.unit p.offset p.len) failed before later h
  source-leaves (WriteSource p) failed before later h = made (write_call h.patches p h.bytes) failed before later h.made
  source-leaves (ReadDest p) failed before later h = ap number h
  source-leaves (WriteDest p) failed before later h = ap number h
  source-leaves FlushDest failed before later h = ap number h
  source-leaves (PutOn s) failed before later h = ap number h
  source-leaves (TakeFrom s) failed before later h = ap number h
  source-leaves PutBack failed before later h = ap number h
  source-leaves TakeBack failed before later h = ap number h

  dest-leaves : (o : Outside) (failed : Bool) (before later : OnDevice) → CallsDest o failed before later → number later ≡ number before
  dest-leaves NoOutside failed before later h = ap number h
  dest-leaves (ReadSource p) failed before later h = ap number h
  dest-leaves (WriteSource p) failed before later h = ap number h
  dest-leaves (ReadDest p) failed before later h = made (ReadRange p.unit p.offset p.len) failed before later h
  dest-leaves (WriteDest p) failed before later h = made (write_call h.patches p h.bytes) failed before later h.made
  dest-leaves FlushDest failed before later h = made FlushAll failed before later h
  dest-leaves (PutOn s) failed before later h = ap number h
  dest-leaves (TakeFrom s) failed before later h = ap number h
  dest-leaves PutBack failed before later h = ap number h
  dest-leaves TakeBack failed before later h = ap number h

-- the numbers of writes
writes-long : (call : DeviceCall) (failed : Bool) (writes : List ℕ) → length (if failed then writes else writes_after call writes) ≡ length writes
writes-long call true writes = refl
writes-long NoCall false writes = refl
writes-long (ReadRange u offset len) false writes = refl
writes-long (PatchRange u offset bytes) false writes = length-set writes u _
writes-long (WriteUnit u bytes) false writes = length-set writes u _
writes-long FlushAll false writes = refl

abbrev numbered : OnDevice → ℕ
numbered d = length d.told.writes

made-long : (call : DeviceCall) (failed : Bool) (before later : OnDevice) → Made call failed before later → numbered later ≡ numbered before
made-long call failed before later made = ap {B = ℕ} (λ (t : Told). length t.writes) made.told ∙ writes-long call failed before.told.writes

pub source-long : (o : Outside) (failed : Bool) (before later : OnDevice) → CallsSource o failed before later → length later.told.writes ≡ length before.told.writes
source-long o failed before later h = source-leaves numbered made-long o failed before later h

pub dest-long : (o : Outside) (failed : Bool) (before later : OnDevice) → CallsDest o failed before later → length later.told.writes ≡ length before.told.writes
dest-long o failed before later h = dest-leaves numbered made-long o failed before later h

-- the contents
contents-long : (call : DeviceCall) (failed : Bool) (contents : List (List ℕ)) → length (if failed then contents else contents_after call contents) ≡ length contents
contents-long call true contents = refl
contents-long NoCall false contents = refl
contents-long (ReadRange u offset len) false contents = refl
contents-long (PatchRange u offset bytes) false contents = length-set contents u _
contents-long (WriteUnit u bytes) false contents = length-set contents u _
contents-long FlushAll false contents = refl

told-long : (call : DeviceCall) (failed : Bool) (o : Option (List (List ℕ))) → length (unwrap_or (option_map (λ contents. if failed then contents else contents_after call contents) o) []) ≡ length (unwrap_or o [])
told-long call failed None = refl
told-long call failed (Some contents) = contents-long call failed contents

abbrev held : OnDevice → ℕ
held d = length (told_contents d)

made-held : (call : DeviceCall) (failed : Bool) (before later : OnDevice) → Made call failed before later → held later ≡ held before
made-held call failed before later made = ap {B = ℕ} (λ (t : Told). length (unwrap_or t.contents [])) made.told ∙ told-long call failed before.told.contents

pub source-holds : (o : Outside) (failed : Bool) (before later : OnDevice) → CallsSource o failed before later → length (told_contents later) ≡ length (told_contents before)
source-holds o failed before later h = source-leaves held made-held o failed before later h

pub dest-holds : (o : Outside) (failed : Bool) (before later : OnDevice) → CallsDest o failed before later → length (told_contents later) ≡ length (told_contents before)
dest-holds o failed before later h = dest-leaves held made-held o failed before later h
