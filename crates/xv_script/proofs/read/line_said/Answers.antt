use Rattle.std.proofs.Common.{◌<◌, arith, subst}
use Rattle.xv_script.specs.Words.{named}
use Rattle.xv_script.specs.Script.{count_of}
use Rattle.xv_script.specs.declared.word.Word.{Word}
use Rattle.xv_script.proofs.read.line_said.Goals as goal

pub overflow_cast-result : goal.overflow_cast-result
overflow_cast-result c =
    let P : Word → Type 0 = λ w. c.args.n < count_of c.args.counts (named w) in
    let below = subst P c.in-Guest.is c.requires in
    omega (arith, below)

pub overflow_cast-result-in-Begin : goal.overflow_cast-result-in-Begin
overflow_cast-result-in-Begin c =
    let P : Word → Type 0 = λ w. c.args.n < count_of c.args.counts (named w) in
    let below = subst P c.in-Begin.is c.requires in
    omega (arith, below)

pub overflow_cast-result-in-Read : goal.overflow_cast-result-in-Read
overflow_cast-result-in-Read c =
    let P : Word → Type 0 = λ w. c.args.n < count_of c.args.counts (named w) in
    let below = subst P c.in-Read.is c.requires in
    omega (arith, below)

pub overflow_cast-result-in-Advance : goal.overflow_cast-result-in-Advance
overflow_cast-result-in-Advance c =
    let P : Word → Type 0 = λ w. c.args.n < count_of c.args.counts (named w) in
    let below = subst P c.in-Advance.is c.requires in
    omega (arith, below)

pub overflow_cast-result-in-Release : goal.overflow_cast-result-in-Release
overflow_cast-result-in-Release c =
    let P : Word → Type 0 = λ w. c.args.n < count_of c.args.counts (named w) in
    let below = subst P c.in-Release.is c.requires in
    omega (arith, below)

pub overflow_cast-result-in-Send : goal.overflow_cast-result-in-Send
overflow_cast-result-in-Send c =
    let P : Word → Type 0 = λ w. c.args.n < count_of c.args.counts (named w) in
    let below = subst P c.in-Send.is c.requires in
    omega (arith, below)

pub overflow_cast-result-in-Deliver : goal.overflow_cast-result-in-Deliver
overflow_cast-result-in-Deliver c =
    let P : Word → Type 0 = λ w. c.args.n < count_of c.args.counts (named w) in
    let below = subst P c.in-Deliver.is c.requires in
    omega (arith, below)
