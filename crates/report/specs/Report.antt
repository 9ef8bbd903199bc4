-- Reports, and cause 12: document 01, "Safe inputs and reports" and step 4, and W1.
use Rattle.std.specs.Prelude.{ℕ, suc, Bool, not, cond, ◌&&◌, ◌||◌, nat_abs, ◌-ℤ◌, ltb, eqb}
use Rattle.ranges.specs.Table.{data_count}
use Rattle.machine_data.specs.declared.MachineData.{MachineData}
use Rattle.machine_data.specs.Data.{entry_of}
use Rattle.inputs.specs.declared.Reading.{Reading}
use Rattle.report.specs.declared.Report.{Report}

-- "k starts at 0, rises by one each cycle, and follows 50 by 0"; W1: "k runs over as many data as the list has": it rises while its list has a further
-- datum. No list has more than dataCount
abbrev pub next_k : ℕ → ℕ → ℕ
next_k count k = cond (ltb (suc k) data_count && ltb (suc k) count) (suc k) 0

-- "A channel's report in a cycle is that cycle's position and whole input word and its datum k"; W1: "The report carries the head too"
abbrev pub report_of : MachineData → ℕ → Reading → Report
report_of m k r = record { position = r.position; inputs = r.inputs; datum = entry_of m.values k; head = m.count }

-- "12 datum k differs": the difference is not 0; W1: "cause 12 also stands where heads differ"
unfoldable pub datum_differs : MachineData → ℕ → Report → Bool
datum_differs m k o = not (eqb m.count o.head) || ltb 0 (nat_abs (entry_of m.values k -ℤ o.datum))
