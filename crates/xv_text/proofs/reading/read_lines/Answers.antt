use Rattle.std.proofs.Common.{◌≡◌, ◌<◌, ◌∙◌, true, false, length, sym, arith}
use Rattle.std.proofs.lemmas.Grind.{common_steps}
use Rattle.xv_text.proofs.Progress.{at_next, behind_at, finished, nothing_left}
use Rattle.xv_text.proofs.reading.read_lines.Goals as goal
use Rattle.xv_text.proofs.reading.read_lines.Goals.{else-ends_input-via-then-ends_input+else-not-is_empty, else-ends_input-via-else-ends_input}

pub loop-alloc-preserved : goal.loop-alloc-preserved
loop-alloc-preserved g c =
    let more : (g.R.ReadsLines.reader c.loop-alloc.reader).is_ended (g.R.ReadsLines.state c.loop-alloc.reader) ≡ false = grind (arith, common_steps) in
    record {
      holds = c.in-Ok.ensures.holds;
      reads = c.in-Ok.ensures.reader ∙ c.loop-alloc.invariant.reads;
      place = at_next (g.R.ReadsLines.reader c.args.reader.now) (g.R.ReadsLines.reader c.loop-alloc.reader) (g.R.ReadsLines.state c.args.reader.now) c.args.first_line c.args.text.now
          (g.R.ReadsLines.state c.loop-alloc.reader) (g.R.ReadsLines.state c.read_line.new.self) c.loop-alloc.line c.in-Some.here.now c.in-Some.behind.now c.loop-alloc.rest.now
          c.loop-alloc.invariant.place c.loop-alloc.invariant.reads more (record { cut = c.in-Some.ensures.cut; lines = c.in-Some.ensures.first; rest_is = c.in-Some.ensures.rest })
          c.in-Ok.ensures.no_fault c.in-Ok.ensures.next;
    }

pub returns-then-not-is_empty-clause-fault : goal.returns-then-not-is_empty-clause-fault
returns-then-not-is_empty-clause-fault g c =
    let ended : (g.R.ReadsLines.reader c.loop-alloc.reader).is_ended (g.R.ReadsLines.state c.loop-alloc.reader) ≡ true = grind (arith, common_steps) in
    let at_input : c.args.ends_input ≡ true = grind (arith, common_steps) in
    let some : 0 < length c.loop-alloc.rest.now = grind (arith, common_steps) in
    rw (c.at_line-then-not-is_empty.ensures, at_input)
    (behind_at (g.R.ReadsLines.reader c.args.reader.now) (g.R.ReadsLines.reader c.loop-alloc.reader) (g.R.ReadsLines.state c.args.reader.now) c.args.first_line c.args.text.now
    (g.R.ReadsLines.state c.loop-alloc.reader) c.loop-alloc.line c.loop-alloc.rest.now c.loop-alloc.invariant.place c.loop-alloc.invariant.reads ended some)

pub returns-clause-no_fault : goal.returns-clause-no_fault
returns-clause-no_fault g c =
    let ended : (g.R.ReadsLines.reader c.loop-alloc.reader).is_ended (g.R.ReadsLines.state c.loop-alloc.reader) ≡ true = grind (arith, common_steps) in
    (finished (g.R.ReadsLines.reader c.args.reader.now) (g.R.ReadsLines.reader c.loop-alloc.reader) c.args.ends_input (g.R.ReadsLines.state c.args.reader.now) c.args.first_line c.args.text.now
    (g.R.ReadsLines.state c.loop-alloc.reader) c.loop-alloc.line c.loop-alloc.rest.now c.loop-alloc.invariant.place c.loop-alloc.invariant.reads ended
    (elim c.else-ends_input.branch [
      | else-ends_input-via-then-ends_input+else-not-is_empty w ↦ λ e. nothing_left c.loop-alloc.rest.now (sym w.if-not-is_empty.false ∙ w.is_empty.ensures)
      | else-ends_input-via-else-ends_input w ↦ λ e. absurd (let other = w.if-ends_input.false in cc)
    ])).no_fault

pub returns-clause-state : goal.returns-clause-state
returns-clause-state g c =
    let ended : (g.R.ReadsLines.reader c.loop-alloc.reader).is_ended (g.R.ReadsLines.state c.loop-alloc.reader) ≡ true = grind (arith, common_steps) in
    (finished (g.R.ReadsLines.reader c.args.reader.now) (g.R.ReadsLines.reader c.loop-alloc.reader) false (g.R.ReadsLines.state c.args.reader.now) c.args.first_line c.args.text.now
    (g.R.ReadsLines.state c.loop-alloc.reader) c.loop-alloc.line c.loop-alloc.rest.now c.loop-alloc.invariant.place c.loop-alloc.invariant.reads ended (λ e. absurd (cc))).state

pub returns-clause-line : goal.returns-clause-line
returns-clause-line g c =
    let ended : (g.R.ReadsLines.reader c.loop-alloc.reader).is_ended (g.R.ReadsLines.state c.loop-alloc.reader) ≡ true = grind (arith, common_steps) in
    (finished (g.R.ReadsLines.reader c.args.reader.now) (g.R.ReadsLines.reader c.loop-alloc.reader) false (g.R.ReadsLines.state c.args.reader.now) c.args.first_line c.args.text.now
    (g.R.ReadsLines.state c.loop-alloc.reader) c.loop-alloc.line c.loop-alloc.rest.now c.loop-alloc.invariant.place c.loop-alloc.invariant.reads ended (λ e. absurd (cc))).number

pub returns-clause-front : goal.returns-clause-front
returns-clause-front g c =
    let ended : (g.R.ReadsLines.reader c.loop-alloc.reader).is_ended (g.R.ReadsLines.state c.loop-alloc.reader) ≡ true = grind (arith, common_steps) in
    (finished (g.R.ReadsLines.reader c.args.reader.now) (g.R.ReadsLines.reader c.loop-alloc.reader) false (g.R.ReadsLines.state c.args.reader.now) c.args.first_line c.args.text.now
    (g.R.ReadsLines.state c.loop-alloc.reader) c.loop-alloc.line c.loop-alloc.rest.now c.loop-alloc.invariant.place c.loop-alloc.invariant.reads ended (λ e. absurd (cc))).front
