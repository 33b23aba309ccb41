use Rattle.std.proofs.Common.{sym, ap, ◌∙◌}
use Rattle.xv_progress.specs.Passes.{Known}
use Rattle.xv_shared.specs.Held.{entries}
use Rattle.xv_shared.proofs.Growing.{first-numbers}
use Rattle.xv_shared.proofs.shared.share.Goals as goal

pub invariant_of-locked : goal.invariant_of-locked
invariant_of-locked g c =
    let p = c.requires.publisher in
    record {
      came = c.requires.came;
      counted = c.requires.books ∙ sym (ap entries c.requires.none);
      spare = c.requires.spare;
      own = ap (λ (k : Known). k.belongs) p ∙ sym c.requires.held;
      last = ap (λ (k : Known). k.numbers) p ∙ sym (first-numbers c.args.migration c.requires.none);
    }
