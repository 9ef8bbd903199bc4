-- `kit::read_kit` meets its contract. Assumes nothing.
use Rattle.kit.proofs.Lists.{by_first, by_second}
use Rattle.kit.proofs.read_kit.Goals as goal

pub returns-in-Ok-answer : goal.returns-in-Ok-answer
returns-in-Ok-answer c =
    by_second c.args.words.now c.read_list-first.ensures c.in-Ok.is c.read_list-second.ensures c.in-Ok-answer.is

pub returns-in-Err-answer : goal.returns-in-Err-answer
returns-in-Err-answer c =
    by_second c.args.words.now c.read_list-first.ensures c.in-Ok.is c.read_list-second.ensures c.in-Err-answer.is

pub returns-in-Err : goal.returns-in-Err
returns-in-Err c =
    by_first c.args.words.now c.read_list-first.ensures c.in-Err.is
