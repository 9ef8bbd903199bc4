-- A log's run and a kit's listing under any rules: document 01, "An accepted log runs the two channels given with it" and "The bench program".
use Rattle.std.specs.Prelude.{ℕ, ◌+◌, ◌*◌, Bool, cond, List, [], ◌∷◌, ◌++◌, length, drop, Result, Ok, Err}
use Rattle.refusal.specs.declared.Refusal.{Refusal}
use Rattle.refusal.specs.declared.Refusal.TheVariants.{WrongLog}
use Rattle.refusal.specs.declared.Part.TheVariants.{ListA, ListB, Log}
use Rattle.machine_data.specs.declared.MachineData.{MachineData}
use Rattle.inputs.specs.declared.Reading.{Reading}
use Rattle.seven.specs.declared.CycleRecord.{CycleRecord}
use Rattle.records.specs.Records.{LogRead, records, fault, log_of}
use Rattle.state.specs.declared.Given.{Given}
use Rattle.state.specs.State.{fresh_state}
use Rattle.device.specs.Device.{device_of}
use Rattle.list.specs.declared.ListRead.{ListRead}
use Rattle.channel.specs.declared.Channel.{Channel}
use Rattle.channel.specs.Cycle.{after_cycles}
use Rattle.logs.specs.Run.{Both, Ran, both_of}
use Rattle.listing.specs.Listing.{Said, ran, refused, text_of}
use Rattle.kit_bytes.specs.KitBytes.{whole_words, words_of}
use Rattle.as_before.specs.Rules.{Rules}
use Rattle.as_before.specs.Cycle.{next_under, word_under}

module _ (rules : Rules) where
  -- "position and input word from the log, datum k by the data and k of the channel given"
  abbrev pub given_under : MachineData → ℕ → Reading → Reading → Bool → Given
  given_under e k own other ack = record { reading = own; acknowledged = ack; report = rules.report e k other }

  -- ---- a log

  module _ (da db : MachineData) where
    abbrev pub given_a_under : Both → CycleRecord → Given
    given_a_under x r = given_under db x.b.k r.a r.b r.acknowledged

    abbrev pub given_b_under : Both → CycleRecord → Given
    given_b_under x r = given_under da x.a.k r.b r.a r.acknowledged

    abbrev pub both_under : Both → CycleRecord → Both
    both_under x r = record { a = next_under rules da x.a (given_a_under x r); b = next_under rules db x.b (given_b_under x r) }

    -- the states after a run
    unfoldable pub last_under : Both → List CycleRecord → Both
    last_under x [] = x
    last_under x (r ∷ rs) = last_under (both_under x r) rs

    -- "each cycle puts A's word, B's word and the device word into the output"
    unfoldable pub lines_under : Both → List CycleRecord → List ℕ
    lines_under x [] = []
    lines_under x (r ∷ rs) =
        let a = word_under rules da x.a (given_a_under x r) in
        let b = word_under rules db x.b (given_b_under x r) in
        a ∷ b ∷ device_of a b ∷ lines_under (both_under x r) rs

  -- what an accepted log leaves; its refusals look at no list
  abbrev pub running_under : Channel → Channel → List ℕ → List CycleRecord → Ran
  running_under a b out rs =
      let last = last_under a.list b.list (both_of a b) rs in
      record {
        answer = Ok (length rs);
        a = after_cycles (length rs) a last.a;
        b = after_cycles (length rs) b last.b;
        out = lines_under a.list b.list (both_of a b) rs ++ drop (3 * length rs) out;
      }

  -- ---- a kit

  abbrev pub log_under : MachineData → MachineData → LogRead → Said
  log_under a b (records rs) = ran (lines_under a b (record { a = fresh_state; b = fresh_state }) rs)
  log_under a b (fault place) = refused (WrongLog place) Log

  abbrev pub second_under : List ℕ → ℕ → MachineData → ListRead → Result ℕ Refusal → Said
  second_under words n a r (Ok m) = log_under a r.list (log_of (drop (n + m) words))
  second_under words n a r (Err why) = refused why ListB

  abbrev pub first_under : List ℕ → ListRead → Result ℕ Refusal → Said
  first_under words r (Ok n) = second_under words n r.list (rules.read (drop n words)) (rules.read (drop n words)).answer
  first_under words r (Err why) = refused why ListA

  -- "The words behind list A are handed on as list B, those behind B are the log"
  abbrev pub said_under : List ℕ → Said
  said_under words = first_under words (rules.read words) (rules.read words).answer

  abbrev pub listed_under : List ℕ → List ℕ
  listed_under bytes = text_of (cond (whole_words (length bytes)) (said_under (words_of bytes)) (refused (WrongLog 0) Log))
