-- The run of a kit: document 01, "a kit (list A, list B, log ..)", "A refusal prints .. number, place .. and A, B or L".
use Rattle.std.specs.Prelude.{ℕ, List, drop, Result, Ok, Err}
use Rattle.refusal.specs.declared.Refusal.{Refusal}
use Rattle.refusal.specs.declared.Part.TheVariants.{Log}
use Rattle.refusal.specs.declared.KitRefusal.{KitRefusal}
use Rattle.kit.specs.declared.KitRead.{KitRead}
use Rattle.kit.specs.Kit.{in_part, read_kit}
use Rattle.channel.specs.Cycle.{fresh_channel}
use Rattle.logs.specs.Run.{Ran, ran_of}

-- the answer, and the output
pub record KitRan : Type 0 where
  pub answer : Result ℕ KitRefusal
  pub out : List ℕ

abbrev pub answer_of : Result ℕ Refusal → Result ℕ KitRefusal
answer_of (Ok cycles) = Ok cycles
answer_of (Err why) = in_part why Log

abbrev pub of_log : Ran → KitRan
of_log r = record { answer = answer_of r.answer; out = r.out }

-- "those behind B are the log"; its channels are fresh
abbrev pub by_kit : List ℕ → List ℕ → KitRead → Result ℕ KitRefusal → KitRan
by_kit words out r (Ok at) = of_log (ran_of (fresh_channel r.a) (fresh_channel r.b) (drop at words) out)
by_kit words out r (Err why) = record { answer = Err why; out = out }

unfoldable pub kit_ran : List ℕ → List ℕ → KitRan
kit_ran words out = by_kit words out (read_kit words) (read_kit words).answer
