-- The two lists of a kit: document 01, "The words behind list A are handed on as list B, those behind B are the log".
use Rattle.std.specs.Prelude.{ℕ, ◌+◌, List, drop, Result, Ok, Err}
use Rattle.refusal.specs.declared.Refusal.{Refusal}
use Rattle.refusal.specs.declared.Part.{Part}
use Rattle.refusal.specs.declared.KitRefusal.{KitRefusal}
use Rattle.refusal.specs.declared.Part.TheVariants.{ListA, ListB}
use Rattle.machine_data.specs.declared.MachineData.{MachineData}
use Rattle.list.specs.declared.ListRead.{ListRead}
use Rattle.list.specs.Reading.{read_list}
use Rattle.kit.specs.declared.KitRead.{KitRead}

-- a fault, and the list that it is in
abbrev pub in_part : Refusal → Part → Result ℕ KitRefusal
in_part why part = Err (record { why = why; part = part })

-- list B, behind the n words of list A
abbrev pub second : ℕ → MachineData → ListRead → Result ℕ Refusal → KitRead
second n a r (Ok m) = record { answer = Ok (n + m); a = a; b = r.list }
second n a r (Err why) = record { answer = in_part why ListB; a = a; b = r.list }

-- list A; a refused list has no data, so neither has B
abbrev pub first : List ℕ → ListRead → Result ℕ Refusal → KitRead
first s r (Ok n) = second n r.list (read_list (drop n s)) (read_list (drop n s)).answer
first s r (Err why) = record { answer = in_part why ListA; a = r.list; b = r.list }

unfoldable pub read_kit : List ℕ → KitRead
read_kit s = first s (read_list s) (read_list s).answer
