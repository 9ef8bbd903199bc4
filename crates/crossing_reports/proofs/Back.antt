-- A report that crosses comes back. Assumes nothing.
use mathlib.Core.Path.{◌≡◌}
use Prim.Native.Nat.{◌%◌}
use native.Mathlib.Omega.{arith}
use Rattle.report.specs.declared.Report.{Report}
use Rattle.crossing.specs.Words.{Signed}
use Rattle.crossing.proofs.Back.{signed_back}
use Rattle.crossing_reports.specs.Reports.{report_words, ComesBack}

pub report_back : (r : Report) → Signed r.position → Signed r.datum → ComesBack r (report_words r)
report_back r p d h =
    let head : r.head % 4_294_967_296 ≡ r.head = omega arith in
    λ i. record { position = signed_back r.position p i; inputs = r.inputs; datum = signed_back r.datum d i; head = head i }
