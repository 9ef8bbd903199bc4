-- `crossing_reports::report_words` meets its contract: the same report is read from the words. Assumes nothing.
use mir.Syntax.{w32}
use mir.Val.{SFits}
use mir.Facts.{to_z-of_z}
use borrow.Author.Rules.{rules}
use Rattle.crossing.proofs.Twos.{is_signed}
use Rattle.crossing_reports.proofs.Back.{report_back}
use Rattle.crossing_reports.proofs.report_words.Goals as goal

pub returns-clause-comes_back : goal.returns-clause-comes_back
returns-clause-comes_back c h =
    let a = c.args.report in
    let p : SFits w32 a.position = search rules in
    let d : SFits w32 a.datum = search rules in
    simp (c.unsigned.ensures, c.unsigned-2.ensures, to_z-of_z p, to_z-of_z d) (report_back a (is_signed _ p) (is_signed _ d) h)
