-- What the two sides hold, unit by unit.
use Rattle.std.specs.Prelude.{List, map, ℕ}
use Rattle.std.specs.List.{range_with_len}
use Rattle.xv_model.specs.Job.{Job, unit_count}
use Rattle.xv_model.specs.View.{View}
use Rattle.xv_model.specs.Report.{source_content, dest_content}

abbrev pub sources : Job → View → List (List ℕ)
sources job v = map (source_content job v) (range_with_len 0 (unit_count job))

abbrev pub dests : Job → View → List (List ℕ)
dests job v = map (dest_content job v) (range_with_len 0 (unit_count job))
