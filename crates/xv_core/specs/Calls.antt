-- The one call on the outside that an event is made of, as what the devices tell before and after.
use Rattle.std.specs.Prelude.{◌≡◌, ℕ, Bool, true, false, List, length}
use Rattle.xv_device.specs.Device.{DeviceCall, ReadRange, PatchRange, WriteUnit, FlushAll}
use Rattle.xv_device.specs.Told.{CallMade}
use Rattle.xv_model.specs.Outside.{Part, Outside, NoOutside, ReadSource, WriteSource, ReadDest, WriteDest, FlushDest, PutOn, TakeFrom, PutBack, TakeBack}
use Rattle.xv_core.specs.Seen.{OnDevice}

-- no call was made of a device
abbrev pub Untouched : OnDevice → OnDevice → Type 0
Untouched before later = later ≡ before

-- exactly this call was made, and failed or did not
abbrev pub Made : DeviceCall → Bool → OnDevice → OnDevice → Type 0
Made call failed before later = CallMade call failed before.told later.told before.faults later.faults

-- a write of a part of a unit: a patch, or of the whole unit
abbrev pub write_call : Bool → Part → List ℕ → DeviceCall
write_call true p bytes = PatchRange p.unit p.offset bytes
write_call false p bytes = WriteUnit p.unit bytes

-- some bytes were written over this part, as many as it has
pub record WrittenPart (p : Part) (failed : Bool) (before later : OnDevice) : Type 0 where
  pub patches : Bool
  pub bytes : List ℕ
  pub covers : length bytes ≡ p.len
  pub made : Made (write_call patches p bytes) failed before later

-- what an event's call does to the source, and to the destination: nothing, where it is not of that side
abbrev pub CallsSource : Outside → Bool → OnDevice → OnDevice → Type 0
CallsSource NoOutside failed before later = Untouched before later
CallsSource (ReadSource p) failed before later = Made (ReadRange p.unit p.offset p.len) failed before later
CallsSource (WriteSource p) failed before later = WrittenPart p failed before later
CallsSource (ReadDest p) failed before later = Untouched before later
CallsSource (WriteDest p) failed before later = Untouched before later
CallsSource FlushDest failed before later = Untouched before later
CallsSource (PutOn s) failed before later = Untouched before later
CallsSource (TakeFrom s) failed before later = Untouched before later
CallsSource PutBack failed before later = Untouched before later
CallsSource TakeBack failed before later = Untouched before later

abbrev pub CallsDest : Outside → Bool → OnDevice → OnDevice → Type 0
CallsDest NoOutside failed before later = Untouched before later
CallsDest (ReadSource p) failed before later = Untouched before later
CallsDest (WriteSource p) failed before later = Untouched before later
CallsDest (ReadDest p) failed before later = Made (ReadRange p.unit p.offset p.len) failed before later
CallsDest (WriteDest p) failed before later = WrittenPart p failed before later
CallsDest FlushDest failed before later = Made FlushAll failed before later
CallsDest (PutOn s) failed before later = Untouched before later
CallsDest (TakeFrom s) failed before later = Untouched before later
CallsDest PutBack failed before later = Untouched before later
CallsDest TakeBack failed before later = Untouched before later
