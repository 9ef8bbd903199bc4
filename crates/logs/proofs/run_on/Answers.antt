-- `logs::run_on` meets its contract: the channels run one after the other, then come the device words. Assumes nothing.
use Rattle.machine_data.specs.Data.{list_of}
use Rattle.channel.specs.Cycle.{with_list}
use Rattle.logs.specs.Left.{keeping}
use Rattle.logs.proofs.Answers.{ran}
use Rattle.logs.proofs.run_on.Goals as goal

pub returns : goal.returns
returns c =
    let a = c.args in
    λ i p q. (ran a.words.now a.out.now (keeping p (with_list (list_of a.da) a.a)) (keeping q (with_list (list_of a.db) a.b)) c.run_channel-after_a.result c.run_channel-after_b.result c.run_channel-after_a.new.out c.run_channel-after_b.new.out _ c.in-Ok.ensures.sound c.run_channel-after_a.ensures c.run_channel-after_b.ensures c.put_devices.ensures) i
