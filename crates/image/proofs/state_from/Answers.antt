-- `image::state_from` meets its contract. Assumes nothing.
use Prim.Native.Nat.{◌%◌}
use mathlib.Core.Path.{◌∙◌}
use lib.ListN.{get_or}
use mir.Syntax.{w32}
use mir.Val.{SFits}
use mir.Facts.{to_z-of_z}
use Rattle.image.specs.Image.{state_from}
use borrow.Author.Rules.{rules}
use Rattle.image.proofs.state_from.Goals as goal

pub returns : goal.returns
unfolding state_from
returns c =
    let w = c.args.words.now in let signed = c.signed in let f : SFits w32 signed.result = search rules in λ i.
    record {
      k = get_or w 1 0 % 256;
      kept =
          record {
            cams = get_or w 16 0;
            choice =
                record {
                  chosen = c.yes.ensures i;
                  effective = c.selection_from.ensures i;
                  reference = (to_z-of_z f ∙ signed.ensures) i;
                  left = get_or w 9 0;
                };
            differing = get_or w 10 0;
            fault = record { on = c.yes-2.ensures i; left = get_or w 12 0 };
            nx = record { run = get_or w 18 0; on = c.yes-3.ensures i };
            directions =
                record {
                  positive = record { run = get_or w 19 0; watch = c.position_from.ensures i };
                  negative = record { run = get_or w 22 0; watch = c.position_from-2.ensures i };
                };
          };
      stop = c.stop_from.ensures i;
      previous = c.position_from-3.ensures i;
    }
