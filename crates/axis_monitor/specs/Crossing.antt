-- What crosses to a program in another language beside a channel's data and state, its reports and a list's answer: the interface's number.
use Rattle.std.specs.Prelude.{ℕ}

-- the number of this interface
abbrev pub interface_number : ℕ
interface_number = 7
