-- Reading a list: the data in number order, the first faulty one gives the answer. Document 01, "Words" and the refusal table.
use Rattle.std.specs.Prelude.{ℕ, zero, suc, ◌+◌, List, cond, set, replicate, ℤ, pos, Result, Ok, Err}
use Rattle.refusal.specs.declared.Refusal.{Refusal}
use Rattle.refusal.specs.declared.Refusal.TheVariants.{WrongWord, SeEnds}
use Rattle.words.specs.Words.{word_at}
use Rattle.words.specs.Cases.{if_head}
use Rattle.ranges.specs.Table.{data_count}
use Rattle.machine_data.specs.declared.MachineData.{MachineData}
use Rattle.datum.specs.Datum.{value_at, behind_of}
use Rattle.list.specs.Rules.{is_head, se_below}
use Rattle.list.specs.declared.ListRead.{ListRead}

-- no datum is read yet; what the list lacks stays 0
abbrev pub zeros : List ℤ
zeros = replicate data_count (pos 0)

abbrev pub accepted_list : MachineData → ℕ → ListRead
accepted_list d n = record { answer = Ok n; list = d }

-- a refused list has no data
abbrev pub refused_list : Refusal → ListRead
refused_list why = record { answer = Err why; list = record { values = zeros; count = 0 } }

-- the place of datum k's own word
unfoldable pub place_of : List ℕ → ℕ → ℕ
place_of s zero = 1
place_of s (suc k) = behind_of s (place_of s k)

-- "SE minus not below its plus", at the minus datum; "then 5, SE1 first"
unfoldable pub ends : List ℕ → MachineData → ℕ → ListRead
ends s d n =
    cond (se_below d.values 11)
    (cond (se_below d.values 13) (accepted_list d n) (refused_list (SeEnds (place_of s 13))))
    (refused_list (SeEnds (place_of s 11)))

abbrev pub on_value : Result (ℤ × ℕ) Refusal → (ℤ → ℕ → ListRead) → ListRead
on_value (Ok (z, next)) f = f z next
on_value (Err why) f = refused_list why

-- n data from number k on of a list with this head, the first at the place `at`, with the values vs before; "The first faulty datum gives the answer"
unfoldable pub gather : ℕ → ℕ → List ℕ → ℕ → ℕ → List ℤ → ListRead
gather head zero s k at vs = ends s (record { values = vs; count = k }) at
gather head (suc n) s k at vs = on_value (value_at head s k at) (λ z next. gather head n s (k + 1) next (set vs k z))

-- "A list is a head and the data in number order"
unfoldable pub read_list : List ℕ → ListRead
read_list s = if_head (word_at s 0) (λ n. cond (is_head n) (gather n n s 0 1 zeros) (refused_list (WrongWord 0))) (refused_list (WrongWord 0))
