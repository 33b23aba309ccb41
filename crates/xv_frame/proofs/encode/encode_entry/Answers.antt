use Rattle.std.proofs.Common.{◌≡◌, ℕ, ◌++◌, List, length, drop, sym, ◌∙◌, ap, arith, refl, length-append}
use Rattle.xv_frame.specs.Frame.{entry, message, entry_head}
use Rattle.xv_frame.proofs.ReadHeads.{length-entry-head}
use Rattle.xv_frame.proofs.Entries.{entry-whole}
use Rattle.xv_frame.proofs.Putting.{Begins, begins-more}
use Rattle.xv_frame.proofs.encode.encode_entry.Goals as goal

pub returns-else-all_zero-clause-count : goal.returns-else-all_zero-clause-count
returns-else-all_zero-clause-count c =
    let h = c.args.head in
    let bytes = c.args.bytes.now in
    let is : entry (message h bytes) ≡ entry_head h 0 ++ bytes = entry-whole h bytes (sym c.all_zero.ensures ∙ c.if-all_zero.false) in
    omega (arith, ap length is, length-append (entry_head h 0) bytes, length-entry-head h 0)

pub returns-else-all_zero-clause-spelled : goal.returns-else-all_zero-clause-spelled
returns-else-all_zero-clause-spelled c =
    let h = c.args.head in
    let bytes = c.args.bytes.now in
    let old = c.args.into.now in
    let is : entry (message h bytes) ≡ entry_head h 0 ++ bytes = entry-whole h bytes (sym c.all_zero.ensures ∙ c.if-all_zero.false) in
    let start : Begins old (entry_head h 0) c.put_entry_head-at.new.into c.put_entry_head-at.result =
    record {
      long = length-entry-head h 0 ∙ sym c.put_entry_head-at.ensures.end;
      written = c.put_entry_head-at.ensures.written ∙ (λ i. entry_head h 0 ++ drop (sym c.put_entry_head-at.ensures.end i) old);
    } in
    (begins-more old _ _ _ bytes _ _ _ start refl c.put.ensures.end c.put.ensures.written).written ∙ ap (λ (xs : List ℕ). xs ++ drop c.put.result old) (sym is)
