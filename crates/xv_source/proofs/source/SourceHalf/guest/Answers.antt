use Rattle.std.proofs.Common.{◌≡◌, ◌∙◌, ap, refl, sym, true, false, get_or, List, ℕ}
use Rattle.std.specs.Prelude.{Option, is_err, is_some}
use Rattle.xv_base.specs.Units.{is_page, disk_of, block_of}
use Rattle.xv_model.specs.View.{no_disk, block_side}
use Rattle.xv_model.specs.Wait.{Alone, Store}
use Rattle.xv_source.specs.Half.{Source}
use Rattle.xv_source.specs.Operations.{stored}
use Rattle.xv_source.proofs.Acting.{guest-acted, guest-acted-alone, acts-running, leaves-store}
use Rattle.xv_source.proofs.Mirroring.{aim-read, aim-store, aim-ahead, guest-mirrored}
use Rattle.xv_source.proofs.source.SourceHalf.guest.Goals as goal

pub returns-in_default-clause-step : goal.returns-in_default-clause-step
returns-in_default-clause-step g c = λ job v allows running next is_length.
    guest-acted-alone (is_err c.operate.result) job v c.args.guest c.acted.result c.args.self.now c.operate.new.self c.args.op.now
    (acts-running job v c.args.guest c.args.op.now Alone c.args.self.now allows running next c.requires.legal
    (aim-read c.args.self.now c.args.op.now (ap (λ (w : Option (List ℕ)). is_some w) c.in_default.is)) refl refl) c.operate.ensures.acted c.acted.ensures

pub returns-then-is_page-clause-step : goal.returns-then-is_page-clause-step
returns-then-is_page-clause-step g c = λ job v allows running next is_length.
    let page : is_page c.args.self.now.shape c.args.op.now.unit.0 ≡ true = ap (λ (h : Source). is_page h.shape c.args.op.now.unit.0) (sym c.self.view_is) ∙ sym c.if-is_page.ensures.exactly in
    guest-acted (is_err c.write_page.result) job v c.args.guest c.acted-then-is_page.result c.args.self.now (stored c.args.op.now.unit.0 c.args.self.now) c.write_page.new.self c.args.op.now Store
    (acts-running job v c.args.guest c.args.op.now Store c.args.self.now allows running next c.requires.legal
    (aim-store c.args.self.now c.args.op.now (ap (λ (w : Option (List ℕ)). is_some w) c.in-Some.is) page) refl refl)
    (leaves-store job v c.args.guest c.args.op.now c.args.self.now) c.write_page.ensures c.acted-then-is_page.ensures

pub returns-in-Behind-clause-step : goal.returns-in-Behind-clause-step
returns-in-Behind-clause-step g c = λ job v allows running next is_length.
    let u = c.args.op.now.unit.0 in
    let block : is_page c.args.self.now.shape u ≡ false = ap (λ (h : Source). is_page h.shape u) (sym c.self.view_is) ∙ sym c.if-is_page.ensures.exactly in
    let disk : c.disk_of-disk.result ≡ disk_of c.args.self.now.shape u = c.disk_of-disk.ensures.exactly in
    guest-mirrored job v c.args.guest c.mirror.result c.args.self.now c.mirror.new.self c.args.op.now c.in-Some.pattern c.args.length allows running next is_length c.requires.legal c.in-Some.is block
    (c.in-Behind.ensures ∙ ap (λ (d : ℕ). block_side (get_or c.args.self.now.disks d no_disk) (block_of c.args.self.now.shape u)) disk)
    c.mirror.ensures.throttled c.mirror.ensures.done

pub returns-in-Ahead-clause-step : goal.returns-in-Ahead-clause-step
returns-in-Ahead-clause-step g c = λ job v allows running next is_length.
    let u = c.args.op.now.unit.0 in
    let block : is_page c.args.self.now.shape u ≡ false = ap (λ (h : Source). is_page h.shape u) (sym c.self.view_is) ∙ sym c.if-is_page.ensures.exactly in
    let disk : c.disk_of-disk.result ≡ disk_of c.args.self.now.shape u = c.disk_of-disk.ensures.exactly in
    let side : c.block_side.result ≡ block_side (get_or c.args.self.now.disks (disk_of c.args.self.now.shape u) no_disk) (block_of c.args.self.now.shape u) =
    c.block_side.ensures ∙ ap (λ (d : ℕ). block_side (get_or c.args.self.now.disks d no_disk) (block_of c.args.self.now.shape u)) disk in
    guest-acted-alone (is_err c.operate-in-Ahead.result) job v c.args.guest c.acted-in-Ahead.result c.args.self.now c.operate-in-Ahead.new.self c.args.op.now
    (acts-running job v c.args.guest c.args.op.now Alone c.args.self.now allows running next c.requires.legal (aim-ahead c.args.self.now c.args.op.now c.block_side.result block side c.in-Ahead.is) refl refl)
    c.operate-in-Ahead.ensures.acted c.acted-in-Ahead.ensures
