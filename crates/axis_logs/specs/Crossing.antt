-- A log's answer as it crosses to a program in another language: 0 and how many cycles, or a refusal's number and its place; and what is left, which a
-- refusal leaves as it was.
use Rattle.std.specs.Prelude.{ℕ, Result, Ok, Err}
use Rattle.refusal.specs.Refusal.{refusal_number, refusal_place}
use Rattle.refusal.specs.declared.Refusal.{Refusal}

abbrev pub log_number : Result ℕ Refusal → ℕ
log_number (Ok cycles) = 0
log_number (Err why) = refusal_number why

abbrev pub log_place : Result ℕ Refusal → ℕ
log_place (Ok cycles) = cycles
log_place (Err why) = refusal_place why

abbrev pub log_left : {A : Type 0} → Result ℕ Refusal → A → A → A
log_left (Ok cycles) before after = after
log_left (Err why) before after = before
