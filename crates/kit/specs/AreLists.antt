-- What the two lists of a kit are, with nothing said of how they are read: document 01, "The words behind list A are handed on as list B".
use Rattle.std.specs.Prelude.{ℕ, ◌+◌, ◌≤◌, ◌≡◌, List, length, take, drop, Ok}
use Rattle.machine_data.specs.declared.MachineData.{MachineData}
use Rattle.list.specs.IsList.{IsList}
use Rattle.kit.specs.declared.KitRead.{KitRead}

-- a list of n words at the front, another of m words right behind it, and the log from there on
pub record AreLists (s : List ℕ) (a b : MachineData) (log : ℕ) : Type 0 where
  pub n : ℕ
  pub m : ℕ
  pub list_a : (n ≤ length s) × IsList a (take n s)
  pub list_b : (m ≤ length (drop n s)) × IsList b (take m (drop n s))
  pub behind : log ≡ n + m

abbrev pub accepted_kit : MachineData → MachineData → ℕ → KitRead
accepted_kit a b log = record { answer = Ok log; a = a; b = b }
