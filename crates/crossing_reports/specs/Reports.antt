-- A report as four words, and what a channel is given in a cycle, by the words that cross.
use Rattle.std.specs.Prelude.{ℕ, ◌%◌, ◌<◌, ◌≡◌, List, [], ◌∷◌, get_or, ℤ}
use Rattle.report.specs.declared.Report.{Report}
use Rattle.state.specs.declared.Given.{Given}
use Rattle.crossing.specs.Words.{signed_of, unsigned_of, yes_from}

-- position, input word, datum and head, the signed ones in two's complement
abbrev pub report_words : Report → List ℕ
report_words r = unsigned_of r.position ∷ r.inputs ∷ unsigned_of r.datum ∷ r.head % 4_294_967_296 ∷ []

abbrev pub report_from : List ℕ → Report
report_from w = record { position = signed_of (get_or w 0 0); inputs = get_or w 1 0; datum = signed_of (get_or w 2 0); head = get_or w 3 0 }

-- from the words of a report, whose head they can hold, the same report is read
abbrev pub ComesBack : Report → List ℕ → Type 0
ComesBack r w = r.head < 4_294_967_296 → report_from w ≡ r

-- what a channel is given in a cycle: any word but 0 acknowledges
abbrev pub given_from : ℤ → ℕ → ℕ → List ℕ → Given
given_from position inputs acknowledged report =
    record {
      reading = record { position = position; inputs = inputs };
      acknowledged = yes_from acknowledged;
      report = report_from report;
    }
