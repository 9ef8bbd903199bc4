-- `kit_run::run_kit` meets its contract. Assumes nothing.
use mathlib.Core.Path.{ap, ◌∙◌}
use native.Mathlib.Omega.{arith}
use borrow.Author.Rules.{rules}
use Rattle.kit_run.specs.KitRun.{KitRan}
use Rattle.kit_run.proofs.Answers.{by_read, log_there, log_ran}
use Rattle.kit_run.proofs.run_kit.Goals as goal

pub offset_bounds-words-at : goal.offset_bounds-words-at
offset_bounds-words-at c =
    omega (arith, log_there c.args.words.now c.args.out.now c.read_kit-read.ensures c.in_ok-at.was, c.well_formed.0.1)

pub slice_bounds-run_behind-start : goal.slice_bounds-run_behind-start
slice_bounds-run_behind-start c =
    log_there c.args.words.now c.args.out.now c.read_kit-read.ensures c.in_ok-at.was

pub slice_bounds-run_behind-count : goal.slice_bounds-run_behind-count
slice_bounds-run_behind-count c =
    let a = c.args in log_there a.words.now a.out.now c.read_kit-read.ensures c.in_ok-at.was

pub returns : goal.returns
returns c =
    let a = c.args in let is = log_ran a.words.now a.out.now c.read_kit-read.ensures c.in_ok-at.was in record { value = c.run_behind.ensures.value ∙ ap (λ (x : KitRan). x.answer) is; out_after = c.run_behind.ensures.out_after ∙ ap (λ (x : KitRan). x.out) is }

pub returns-in_err-at-clause-value : goal.returns-in_err-at-clause-value
returns-in_err-at-clause-value c =
    let a = c.args in let is = ap (λ (x : KitRan). x.answer) (by_read a.words.now a.out.now c.read_kit-read.ensures c.in_err-at.was) in search rules

pub returns-in_err-at-clause-out_after : goal.returns-in_err-at-clause-out_after
returns-in_err-at-clause-out_after c =
    let a = c.args in ap (λ (x : KitRan). x.out) (by_read a.words.now a.out.now c.read_kit-read.ensures c.in_err-at.was)
