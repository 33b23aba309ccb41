-- What the units hold before any write.
use Rattle.std.specs.Prelude.{ℕ, ◌==◌, if◌then◌else◌, List, [], ◌∷◌, map, replicate}
use Rattle.std.specs.List.{range_with_len}
use Rattle.xv_base.specs.declared.pattern.Init.{Init}
use Rattle.xv_base.specs.Pattern.{repeated}
use Rattle.xv_base.specs.Units.{Shape, units, size}

-- what stands for an initial content that is not there
abbrev pub no_init : Init
no_init = record { unit = record { 0 = 0 }; pattern = [] }

-- a unit's first content: zeros, or the first pattern that it begins with
abbrev pub first_content : List Init → ℕ → ℕ → List ℕ
first_content [] bytes unit = replicate bytes 0
first_content (i ∷ is) bytes unit = if i.unit.0 == unit then repeated i.pattern bytes else first_content is bytes unit

-- those of all units
abbrev pub first_contents : Shape → List Init → List (List ℕ)
first_contents shape init = map (λ unit. first_content init (size shape unit) unit) (range_with_len 0 (units shape))
