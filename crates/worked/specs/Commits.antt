-- W7: asks and commits as calls of demand 3, from the words of the lists on. Cycles count from 0.
use Rattle.std.specs.Prelude.{ℕ, zero, suc, ◌+◌, ◌*◌, ◌-◌, ◌/◌, ◌%◌, List, [], ◌∷◌, ◌++◌, ◌≡◌, ℤ, pos, negsuc}
use Rattle.machine_data.specs.declared.MachineData.{MachineData}
use Rattle.list.specs.Reading.{read_list}
use Rattle.channel.specs.Cycle.{fresh_channel}
use Rattle.demand_3.specs.Calls
use Rattle.demand_3.specs.Calls.{Call, as_b, Words, Answers}
use Rattle.demand_3.specs.History.{all_commits}
use Rattle.worked.specs.Runs.{cycles_with}
use Rattle.worked.specs.Wordings.{timed, oversped}

-- ---- the words of a list, each datum a whole number: its own word and two pieces

abbrev pub pieces : ℕ → List ℕ
pieces b = (0x30000000 + b / 65536) ∷ (0x30000000 + b % 65536) ∷ []

abbrev pub bits_of : ℤ → ℕ
bits_of (pos n) = n
bits_of (negsuc n) = 4294967295 - n

unfoldable pub data_words : ℕ → ℕ → List ℤ → List ℕ
data_words zero k zs = []
data_words (suc n) k [] = []
data_words (suc n) k (z ∷ zs) = (0x20000000 + 65536 * k) ∷ pieces (bits_of z) ++ data_words n (suc k) zs

unfoldable pub list_words : MachineData → List ℕ
list_words m = (0x10000000 + m.count) ∷ data_words m.count 0 m.values

-- ---- the calls: SG1 is overstepped in cycle 1, where C is entered with time 5

abbrev pub slow : MachineData
slow = timed 0 5 0 0

abbrev pub at_once : MachineData
at_once = timed 0 0 0 0

abbrev pub single : ℕ → Call
single n = Calls.single (cycles_with slow oversped n) 0

-- a list is asked about in the place of cycle 2
abbrev pub ask : List ℕ → Call
ask words = let g = cycles_with slow oversped 2 in Calls.asks words g.reading g.report

abbrev pub empty_log : Call
empty_log = Calls.logged as_b (fresh_channel slow) [] []

-- a list with time 0 is committed before cycle 2
unfoldable pub committing : List Call
committing = single 0 ∷ single 1 ∷ ask (list_words at_once) ∷ empty_log ∷ Calls.commits ∷ single 2 ∷ Calls.commits ∷ []

-- a cycle between, or a refused list, or another one in its place
unfoldable pub too_late : List Call
too_late = single 0 ∷ ask (list_words at_once) ∷ single 1 ∷ Calls.commits ∷ single 2 ∷ []

unfoldable pub refused : List Call
refused = single 0 ∷ single 1 ∷ ask (list_words at_once) ∷ ask [] ∷ Calls.commits ∷ single 2 ∷ []

unfoldable pub replaced : List Call
replaced = single 0 ∷ single 1 ∷ ask (list_words at_once) ∷ ask (list_words slow) ∷ Calls.commits ∷ single 2 ∷ []

-- of the three cycles, beside a channel without a stop: C is entered in 1, and held in 2 or not
abbrev pub words : ℕ → ℕ → Words
words channel device = record { channel = channel; device = device }

abbrev pub held : List Words
held = words 0x00000081 0x1 ∷ words 0x03000081 0x7 ∷ words 0x0b000081 0x7 ∷ []

abbrev pub not_held : List Words
not_held = words 0x00000081 0x1 ∷ words 0x03000081 0x7 ∷ words 0x03000081 0x7 ∷ []

pub record Committed : Type 0 where
  -- the reader makes the list of its words
  pub read : ((read_list (list_words at_once)).list ≡ at_once) × ((read_list (list_words slow)).list ≡ slow)
  -- taken before cycle 2, over an empty log; the second commit finds none
  pub taken : (all_commits committing 1 ≡ []) × (all_commits committing 2 ≡ at_once ∷ []) × (all_commits committing 3 ≡ [])
  pub held_in_2 : Answers (fresh_channel slow) committing held
  -- not so where a cycle between dropped it, a refused list left none, or the list asked about last, which is taken, has time 5
  pub dropped : (all_commits too_late 2 ≡ []) × Answers (fresh_channel slow) too_late not_held
  pub none_left : (all_commits refused 2 ≡ []) × Answers (fresh_channel slow) refused not_held
  pub the_later : (all_commits replaced 2 ≡ slow ∷ []) × Answers (fresh_channel slow) replaced not_held
