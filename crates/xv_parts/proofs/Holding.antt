-- What both sides hold in memory, and how often each unit was written there.
use Rattle.std.specs.Prelude.{◌≡◌, ◌<◌, ℕ, ◌+◌, ◌-◌, Bool, true, false, List, [], length, replicate, Option, Some, None, is_some, unwrap_or, if◌then◌else◌}
use Rattle.std.proofs.Common.{refl, ap, ◌∙◌, arith}
use Rattle.std.proofs.lemmas.List.FromFn.{fill_by_all, get_or-map-range_with_len, length-map-range_with_len}
use Rattle.xv_base.specs.Units.{size}
use Rattle.xv_device.specs.Device.{write_count}
use Rattle.xv_device.specs.Memory.{first_content}
use Rattle.xv_model.specs.Job.{Job, unit_count}
use Rattle.xv_model.specs.Guest.{writes, content}
use Rattle.xv_model.specs.View.{View, number}
use Rattle.xv_model.specs.Report.{source_length, source_content, dest_length, dest_content, is_written}
use Rattle.xv_model.specs.Contents.{unit_content}
use Rattle.xv_model.specs.Outside.{source_writes, dest_writes}
use Rattle.xv_model.proofs.Outside.Counts.{source_counted, dest_counted}
use Rattle.xv_model.proofs.First.{number-none}
use Rattle.xv_job.specs.Written.{job_of}
use Rattle.xv_core.specs.Seen.{Seen, view_of}
use Rattle.xv_core.specs.Keeping.{told_contents}
use Rattle.xv_parts.specs.Memory.{IsInMemory}
use Rattle.xv_parts.specs.Sides.{sources, dests}
use Rattle.xv_parts.proofs.Reading.{holds}

-- what is told is some, and a number that rose from none is what it rose by
some-of : (o : Option (List (List ℕ))) → is_some o ≡ true → o ≡ Some (unwrap_or o [])
some-of None h = absurd (cc)
some-of (Some x) h = refl

risen-from : (later start total is : ℕ) → later + 0 ≡ start + total → start ≡ 0 → total ≡ is → later ≡ is
risen-from later start total is rises none counted = omega arith

module _ (m : Seen) (h : IsInMemory m) where
  abbrev job : Job
  job = job_of m.job

  abbrev v : View
  v = view_of m

  -- the source
  source-long : length (told_contents m.source) ≡ unit_count job
  source-long = h.origin.tells.source_units ∙ length-map-range_with_len (λ (unit : ℕ). first_content m.job.init (size m.job.shape unit) unit) 0 (unit_count job)

  pub source-holds : m.source.told.contents ≡ Some (sources job v)
  source-holds =
      some-of m.source.told.contents h.origin.tells.source
      ∙ ap (λ (xs : List (List ℕ)). Some xs) (fill_by_all (source_content job v) (told_contents m.source) (unit_count job) [] source-long (holds m h).source)

  -- the destination, of what was written and of what was not
  dest-long : length (told_contents m.dest) ≡ unit_count job
  dest-long = h.origin.tells.dest_units ∙ length-map-range_with_len (λ (unit : ℕ). first_content [] (size m.job.shape unit) unit) 0 (unit_count job)

  dest-by : (unit : ℕ) → unit < unit_count job → (b : Bool) → is_written v unit ≡ b → unit_content (told_contents m.dest) unit ≡ (if b then content job v.history unit (dest_length v unit) else replicate (size job.shape unit) 0)
  dest-by unit lt true on = (holds m h).dest unit lt on
  dest-by unit lt false off =
      h.origin.unwritten.units unit off
      ∙ get_or-map-range_with_len (λ (u : ℕ). first_content [] (size m.job.shape u) u) 0 (unit_count job) unit unit [] lt (omega arith)

  pub dest-holds : m.dest.told.contents ≡ Some (dests job v)
  dest-holds =
      some-of m.dest.told.contents h.origin.tells.dest
      ∙ ap (λ (xs : List (List ℕ)). Some xs) (fill_by_all (dest_content job v) (told_contents m.dest) (unit_count job) [] dest-long (λ unit lt. dest-by unit lt (is_written v unit) refl))

  -- the writes, of which there was none at the start
  pub source-writes : (unit : ℕ) → write_count m.source.told.writes unit ≡ writes job v.history unit (source_length v)
  source-writes unit =
      risen-from (write_count m.source.told.writes unit) (write_count (replicate (unit_count job) 0) unit) (source_writes job m.journal unit) (writes job v.history unit (source_length v))
      (h.origin.rises.numbers.at_source unit) (number-none (unit_count job) unit) (source_counted job m.journal unit h.kept.good h.kept.fitting h.kept.is_run)

  pub dest-writes : (unit : ℕ) → write_count m.dest.told.writes unit ≡ number v.hold.applied unit + (writes job v.history unit (length v.history) - writes job v.history unit (source_length v))
  dest-writes unit =
      risen-from (write_count m.dest.told.writes unit) (write_count (replicate (unit_count job) 0) unit) (dest_writes job m.journal unit)
      (number v.hold.applied unit + (writes job v.history unit (length v.history) - writes job v.history unit (source_length v)))
      (h.origin.rises.numbers.at_dest unit) (number-none (unit_count job) unit) (dest_counted job m.journal unit h.kept.good h.kept.fitting h.kept.is_run)
