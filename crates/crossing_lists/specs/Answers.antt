-- A list's answer as it crosses to a program in another language: 0 and how many words, or a refusal's number and its place; and what is left, which a
-- refusal leaves as it was.
use Rattle.std.specs.Prelude.{ℕ, Result, Ok, Err}
use Rattle.refusal.specs.declared.Refusal.{Refusal}
use Rattle.refusal.specs.Refusal.{refusal_number, refusal_place}

abbrev pub list_number : Result ℕ Refusal → ℕ
list_number (Ok used) = 0
list_number (Err why) = refusal_number why

abbrev pub list_place : Result ℕ Refusal → ℕ
list_place (Ok used) = used
list_place (Err why) = refusal_place why

abbrev pub list_left : {A : Type 0} → Result ℕ Refusal → A → A → A
list_left (Ok used) before after = after
list_left (Err why) before after = before
