-- What a cycle leaves, by what steps 2 to 4 found: document 01, steps 1, 5 and 6, and "Channel word", W3 and W6.
use Rattle.std.specs.Prelude.{ℕ, Bool, false, not, ◌&&◌, List, ℤ, None, Some}
use Rattle.machine_data.specs.declared.MachineData.{MachineData}
use Rattle.report.specs.Report.{next_k}
use Rattle.speed.specs.Speed.{slower}
use Rattle.rank.specs.declared.Rank.{Rank}
use Rattle.stop.specs.declared.Stop.TheVariants.{Cancelled}
use Rattle.stop.specs.Stop.{stop_next}
use Rattle.fault.specs.Fault.{cleared_fault}
use Rattle.cams.specs.Cams.{cams_next}
use Rattle.causes.specs.declared.Summary.{Summary}
use Rattle.channel_word.specs.Word.{word_by}
use Rattle.state.specs.declared.State.{State}
use Rattle.state.specs.declared.Given.{Given}
use Rattle.judge.specs.declared.Findings.{Findings}
use Rattle.advance.specs.declared.Advanced.{Advanced}

-- "Unusable: cause 1, rank 5, not held. The previous position is forgotten; counts, runs, F, selections, references and cams stay; steps 2 to 5 are
-- skipped"; W3, of n<nx: "leaves value and run as they were"; W6: only usable cycles count; "k .. rises by one each cycle"
abbrev pub unusable_next : ℕ → State → State
unusable_next count s = record { k = next_k count s.k; kept = s.kept; stop = Cancelled; previous = None }

-- steps 5 and 6, by what steps 2 to 4 found, whether the cycle clears, and the strongest cause
abbrev pub usable_next : MachineData → State → Given → Findings → Bool → Rank → State
usable_next m s g f clears strongest =
    record {
      k = next_k m.count s.k;
      kept =
          record {
            cams = cams_next m.values g.reading.position s.kept.cams;
            choice = f.choice;
            differing = f.differing;
            fault = cleared_fault clears f.fault;
            nx = f.nx;
            directions = f.directions;
          };
      stop = stop_next m.values clears strongest (slower m.values f.step 33) g.reading.position s.stop;
      previous = Some g.reading.position;
    }

-- "A cycle clears if it is acknowledged and has no fresh cause"
abbrev pub clears_by : Given → Summary → Bool
clears_by g x = g.acknowledged && not x.fresh

-- the state after a usable cycle, by what step 5 asks of its causes
abbrev pub next_by : MachineData → State → Given → Findings → Summary → State
next_by m s g f x = usable_next m s g f (clears_by g x) x.strongest

-- the word of a state, and of n<nx as the cycle shows it
abbrev pub shown_word : List ℤ → State → Bool → ℕ
shown_word d s nx = word_by d s.kept.choice.effective s.stop s.kept.fault.on s.kept.cams nx

-- state and word of a usable cycle
abbrev pub advanced_by : MachineData → State → Given → Findings → Summary → Advanced
advanced_by m s g f x =
    record { state = next_by m s g f x; word = shown_word m.values (next_by m s g f x) (next_by m s g f x).kept.nx.on }

-- of one that cannot be used; "n<nx shows 0 in an unusable cycle"
abbrev pub advanced_unusable : MachineData → State → Advanced
advanced_unusable m s = record { state = unusable_next m.count s; word = shown_word m.values (unusable_next m.count s) false }
