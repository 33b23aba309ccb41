-- The text of a job.
use Rattle.std.specs.Prelude.{ℕ, ◌==◌, List, [], ◌∷◌, ◌++◌, map, codes, decimal, Option, Some, None, if◌then◌else◌}
use Rattle.std.specs.List.{flat_map}
use Rattle.xv_base.specs.declared.unit.DiskShape.{DiskShape}
use Rattle.xv_base.specs.declared.limits.Config.{Config}
use Rattle.xv_base.specs.declared.limits.Fault.{Fault}
use Rattle.xv_base.specs.declared.limits.Fault.TheVariants.{SourceRead, SourceWrite, DestRead, DestWrite, Flush, Put, Take, AckPut, AckTake}
use Rattle.xv_base.specs.declared.pattern.Init.{Init}
use Rattle.xv_base.specs.Hex.{hex}
use Rattle.xv_base.specs.Units.{Shape}
use Rattle.xv_text.specs.Lines.{text_of}
use Rattle.xv_trace.specs.declared.op.Op.{Op}
use Rattle.xv_trace.specs.OpText.{op_fields}
use Rattle.xv_job.specs.Written.{Written}

-- the lines of a job, each as its fields, in their order
abbrev pub disk_fields : DiskShape → List (List ℕ)
disk_fields disk = codes "disk" ∷ decimal disk.blocks ∷ decimal disk.block_size ∷ []

abbrev pub group_line : ℕ → ℕ → List (List (List ℕ))
group_line format group = if format == 2 then (codes "group" ∷ decimal group ∷ []) ∷ [] else []

abbrev pub group_lines : Written → List (List (List ℕ))
group_lines w = group_line w.format w.group

abbrev pub cancel_lines : Option ℕ → List (List (List ℕ))
cancel_lines None = []
cancel_lines (Some k) = (codes "cancel" ∷ decimal k ∷ []) ∷ []

abbrev pub fault_fields : Fault → List (List ℕ)
fault_fields (SourceRead k) = codes "fault" ∷ codes "sread" ∷ decimal k ∷ []
fault_fields (SourceWrite k) = codes "fault" ∷ codes "swrite" ∷ decimal k ∷ []
fault_fields (DestRead k) = codes "fault" ∷ codes "dread" ∷ decimal k ∷ []
fault_fields (DestWrite k) = codes "fault" ∷ codes "dwrite" ∷ decimal k ∷ []
fault_fields (Flush k) = codes "fault" ∷ codes "flush" ∷ decimal k ∷ []
fault_fields (Put s k) = codes "fault" ∷ codes "put" ∷ decimal s ∷ decimal k ∷ []
fault_fields (Take s k) = codes "fault" ∷ codes "take" ∷ decimal s ∷ decimal k ∷ []
fault_fields (AckPut k) = codes "fault" ∷ codes "ackput" ∷ decimal k ∷ []
fault_fields (AckTake k) = codes "fault" ∷ codes "acktake" ∷ decimal k ∷ []

abbrev pub init_fields : Init → List (List ℕ)
init_fields i = codes "init" ∷ decimal i.unit.0 ∷ hex i.pattern ∷ []

abbrev pub guest_lines : List Op → List (List (List ℕ))
guest_lines ops = (codes "guest" ∷ []) ∷ map op_fields ops

abbrev pub machine_of : ℕ → Shape → List (List (List ℕ))
machine_of format shape =
    (codes "job" ∷ decimal format ∷ [])
    ∷ (codes "pages" ∷ decimal shape.pages ∷ decimal shape.page_size ∷ [])
    ∷ map disk_fields shape.disks

abbrev pub machine_lines : Written → List (List (List ℕ))
machine_lines w = machine_of w.format w.shape

abbrev pub limit_lines : Config → List (List (List ℕ))
limit_lines config =
    (codes "streams" ∷ decimal config.streams ∷ [])
    ∷ (codes "credit" ∷ decimal config.credit ∷ [])
    ∷ (codes "outbox" ∷ decimal config.outbox ∷ [])
    ∷ (codes "region" ∷ decimal config.region ∷ [])
    ∷ (codes "rounds" ∷ decimal config.rounds ∷ [])
    ∷ (codes "dirty" ∷ decimal config.dirty ∷ [])
    ∷ []

abbrev pub job_lines : Written → List (List (List ℕ))
job_lines w =
    machine_lines w ++ (limit_lines w.config ++ (group_lines w ++ (cancel_lines w.config.cancel
    ++ (map fault_fields w.faults ++ (map init_fields w.init ++ (flat_map guest_lines w.traces ++ (codes "end" ∷ []) ∷ []))))))

abbrev pub job_text : Written → List ℕ
job_text w = text_of (job_lines w)
