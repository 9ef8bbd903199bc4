-- What a single cycle with its device word gives: document 01, "The runs of demand 3".
use Rattle.std.specs.Prelude.{ℕ}
use Rattle.state.specs.declared.Given.{Given}
use Rattle.channel.specs.declared.Channel.{Channel}
use Rattle.channel.specs.Outcome.{outcome_of}
use Rattle.device.specs.Device.{device_of}
use Rattle.single.specs.declared.SingleOutcome.{SingleOutcome}

-- "a single cycle, then the device word of its channel word and the other's"
abbrev pub single_of : Channel → Given → ℕ → SingleOutcome
single_of c g other =
    let r = outcome_of c g in
    record { channel = r.channel; word = r.word; causes = r.causes; device = device_of r.word other }
