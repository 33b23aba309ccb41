use Rattle.std.proofs.Common.{ℕ, List, ◌++◌, take, drop, arith, ◌∙◌, ap, append_assoc}
use Rattle.std.proofs.lemmas.List.{length-take}
use Rattle.xv_wire.proofs.Piping.{behind}
use Rattle.xv_wire.proofs.memory.read_piece.Goals as goal

pub returns-clause-read : goal.returns-clause-read
returns-clause-read c =
    let r = c.read_into.result in
    let most = c.min-most.result in
    let into = c.args.into.now in
    let front : List ℕ = take r c.args.bytes.now.items in
    ap (λ (xs : List ℕ). xs ++ drop most into) c.read_into.ensures.read ∙ append_assoc front (drop r (take most into)) (drop most into)
    ∙ ap (λ (xs : List ℕ). front ++ xs) (behind r most into (omega (arith, c.read_into.ensures.count, length-take most into)) (omega (arith, c.min-most.ensures)))
