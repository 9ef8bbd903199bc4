-- The bench's text for a kit's bytes: document 01, "The bench program".
use Rattle.std.specs.Prelude.{ℕ, ◌*◌, ◌/◌, ◌%◌, ◌≤◌, ◌≡◌, cond, List, [], ◌∷◌, length, take, drop, Result, Ok, Err}
use Rattle.machine_data.specs.declared.MachineData.{MachineData}
use Rattle.kit.specs.declared.KitRead.{KitRead}
use Rattle.kit.specs.Kit.{read_kit}
use Rattle.records.specs.Records.{LogRead, records, fault, log_of}
use Rattle.channel.specs.Cycle.{fresh_channel}
use Rattle.logs.specs.Run.{lines_of, both_of}
use Rattle.refusal.specs.Refusal.{refusal_number, refusal_place}
use Rattle.refusal.specs.declared.Refusal.{Refusal}
use Rattle.refusal.specs.declared.Refusal.TheVariants.{WrongLog}
use Rattle.refusal.specs.declared.Part as P
use Rattle.refusal.specs.declared.KitRefusal.{KitRefusal}
use Rattle.kit_bytes.specs.KitBytes.{whole_words, words_of}
use Rattle.lines.specs.declared.RefusalLine.{RefusalLine}
use Rattle.lines.specs.Lines.{refusal_line}
use Rattle.run_text.specs.RunText.{lines_from, run_text}

-- "A, B or L"
abbrev pub letter_of : P.Part → ℕ
letter_of P.TheVariants.ListA = 65
letter_of P.TheVariants.ListB = 66
letter_of P.TheVariants.Log = 76

-- "`refused`, number, place (both decimal) and A, B or L"
abbrev pub refused_text : Refusal → P.Part → List ℕ
refused_text why part = refusal_line (record { number = refusal_number why; place = refusal_place why; letter = letter_of part })

-- what the bench says of a kit: the words of its run, or a refusal
pub data Said : Type 0 where
  ran : List ℕ → Said
  refused : Refusal → P.Part → Said

-- the log's run, or its refusal. A kit's log is never over 16,384 words, and the bench has room for it, so there is no 7
abbrev pub by_log : MachineData → MachineData → LogRead → Said
by_log a b (records rs) = ran (lines_of a b (both_of (fresh_channel a) (fresh_channel b)) rs)
by_log a b (fault place) = refused (WrongLog place) P.TheVariants.Log

abbrev pub by_lists : List ℕ → KitRead → Result ℕ KitRefusal → Said
by_lists words r (Ok at) = by_log r.a r.b (log_of (drop at words))
by_lists words r (Err e) = refused e.why e.part

-- "It reads a kit (list A, list B, log; .."
unfoldable pub said_of : List ℕ → Said
said_of words = by_lists words (read_kit words) (read_kit words).answer

-- "else number 6, place 0, L"
unfoldable pub said : List ℕ → Said
said bytes = cond (whole_words (length bytes)) (said_of (words_of bytes)) (refused (WrongLog 0) P.TheVariants.Log)

-- "A line is the cycle from 1, .."; "A refusal prints only one line"
abbrev pub text_of : Said → List ℕ
text_of (ran words) = lines_from 1 words
text_of (refused why part) = refused_text why part

abbrev pub listed : List ℕ → List ℕ
listed bytes = text_of (said bytes)

-- how many cycles a kit's run has; a refused kit has none
abbrev pub cycles_of : Result ℕ KitRefusal → ℕ
cycles_of (Ok cycles) = cycles
cycles_of (Err r) = 0

-- a refusal's number, place and letter; of a kit that was run all 0
abbrev pub told_of : Result ℕ KitRefusal → List ℕ
told_of (Ok cycles) = 0 ∷ 0 ∷ 0 ∷ []
told_of (Err r) = refusal_number r.why ∷ refusal_place r.why ∷ letter_of r.part ∷ []

-- ---- of the private functions

abbrev pub line_of : KitRefusal → RefusalLine
line_of r = record { number = refusal_number r.why; place = refusal_place r.why; letter = letter_of r.part }

abbrev pub of_words : List ℕ → List ℕ
of_words words = text_of (said_of words)

-- the text for a run's answer and the words that it left
abbrev pub answer_text : Result ℕ KitRefusal → List ℕ → List ℕ
answer_text (Ok cycles) words = run_text (take (3 * cycles) words)
answer_text (Err r) words = refused_text r.why r.part

-- the run's words are there, and no more than 2,340 cycles
abbrev pub HasCycles : Result ℕ KitRefusal → List ℕ → Type 0
HasCycles answer words = (3 * cycles_of answer ≤ length words) × (length words ≤ 7020)

-- a kit in whole words, with room for the words of its run, where there is room for its own
pub record Rooms (kit words ran : List ℕ) : Type 0 where
  pub whole : length kit % 4 ≡ 0
  pub short : length kit ≤ 65_536
  pub for_cycles : length kit ≤ 4 * length words → 3 * (length kit / 28) ≤ length ran
  pub few_cycles : length ran ≤ 7020
