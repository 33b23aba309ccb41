use Rattle.std.proofs.Common.{List, ℕ, take, drop, sym, ap, ◌∙◌}
use Rattle.std.proofs.lemmas.List.{take_rest}
use Rattle.xv_io.specs.Memory.{SourceState}
use Rattle.xv_io.proofs.Told.{left_split}
use Rattle.xv_io.proofs.memory.MemSourceSource.read.Goals as goal

pub returns-clause-gives : goal.returns-clause-gives
returns-clause-gives c =
    let n : ℕ = c.copy_front-n.result in
    ap (λ (s : SourceState). s.left) (sym c.self.view_is)
    ∙ left_split c.self.inside.bytes.items _ c.self.inside.at n
    (c.copy_front-n.ensures.copies
    ∙ ap (take n) (take_rest c.deref.result.now c.self.inside.at ∙ ap (λ (bytes : List ℕ). drop c.self.inside.at bytes) c.deref.ensures.value))
