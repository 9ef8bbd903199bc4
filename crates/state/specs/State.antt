-- A fresh channel's state: document 01, "Safe inputs and reports", W3 and W6.
use Rattle.std.specs.Prelude.{false, pos, None}
use Rattle.directions.specs.Directions.{no_directions}
use Rattle.selection.specs.declared.Selection.TheVariants.{Nothing}
use Rattle.stop.specs.declared.Stop.TheVariants.{Free}
use Rattle.state.specs.declared.State.{State}

-- "A fresh channel has rank 0, nothing effective, F off, no previous position, and all counts and runs 0"; "k starts at 0"; cams "fresh 0";
-- W3, of n<nx: "fresh 0"; W6: no run and no watch
abbrev pub fresh_state : State
fresh_state =
    record {
      k = 0;
      kept =
          record {
            cams = 0;
            choice = record { chosen = false; effective = Nothing; reference = pos 0; left = 0 };
            differing = 0;
            fault = record { on = false; left = 0 };
            nx = record { run = 0; on = false };
            directions = no_directions;
          };
      stop = Free;
      previous = None;
    }
