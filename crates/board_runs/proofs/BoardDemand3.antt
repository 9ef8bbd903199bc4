-- Demand 3 of the library's calls, from demand 3 of the calls on channels, and n<nx likewise. Assumes nothing.
use Rattle.std.specs.Prelude.{Result, Ok, Err}
use Rattle.refusal.specs.declared.Refusal.{Refusal}
use Prim.Native.Nat.{ℕ}
use mathlib.Core.Path.{◌≡◌, refl, sym, ap, ◌∙◌, subst}
use mathlib.Core.Bool.{cond}
use mathlib.Core.List.{List}
use lib.Dec.{eqb}
use lib.IntN.{ℤ}
use Rattle.laws.proofs.Never.{never}
use Rattle.list.specs.Reading.{read_list}
use Rattle.channel.specs.declared.Channel.{Channel}
use Rattle.channel.specs.Cycle.{fresh_channel}
use Rattle.channel_image.specs.Channels.{channel_from}
use Rattle.crossing_lists.specs.Answers.{list_number, list_left}
use Rattle.axis_monitor.specs.Left.{ListLeft, left_by_list, list_into}
use Rattle.demand_3.specs.Calls.{Words, Answers}
use Rattle.demand_3.proofs.Demand3.{demand_3}
use Rattle.nx_history.proofs.Shown.{shown_nx_lem}
use Rattle.board_runs.specs.Calls.{BoardCall, ImageAnswers, calls_of}
use Rattle.board_runs.specs.BoardDemand3.{BoardDemand3, BoardShownNx}
use Rattle.board_runs.proofs.Runs.{refusal_not_0, on_channels}

-- an answer with the number 0 accepts
accepts : (x : Result ℕ Refusal) → 0 ≡ list_number x → (used : ℕ) × (x ≡ Ok used)
accepts (Ok used) e = (used, refl)
accepts (Err why) e =
    let zero_is : ◌≡◌ {A = ℕ} 1 0 = ap (λ (n : ℕ). cond (eqb n 0) 1 0) e ∙ refusal_not_0 why 1 0 in never (sym zero_is)

module _ (words : List ℕ) (values : List ℤ) (state : List ℕ) (values' : List ℤ) (state' : List ℕ) (at : ℕ) (e : left_by_list 0 values' state' at ≡ list_into words values state)
    (pending : List ℤ) (calls : List BoardCall) (given : List Words) (a : ImageAnswers (record { data_in_force = values'; pending = pending; state = state' }) calls given) where
  list : (used : ℕ) × ((read_list words).answer ≡ Ok used)
  list = accepts (read_list words).answer (ap (λ (x : ListLeft). x.number) e)

  -- the calls are answered on a fresh channel
  answers : Answers (fresh_channel (read_list words).list) (calls_of calls) given
  answers =
      subst (λ (c : Channel). Answers c (calls_of calls) given)
      (ap (λ (x : ListLeft). x.channel pending) e ∙ ap (λ (x : Result ℕ Refusal). list_left x (channel_from values pending state) (fresh_channel (read_list words).list)) list.1)
      (on_channels a)

pub board_demand_3 : BoardDemand3
board_demand_3 words values state values' state' at e pending calls given a =
    let l = list words values state values' state' at e pending calls given a in
    demand_3 words l.0 l.1 (calls_of calls) given (answers words values state values' state' at e pending calls given a)

pub board_shown_nx : BoardShownNx
board_shown_nx words values state values' state' at e pending calls given a =
    let l = list words values state values' state' at e pending calls given a in
    shown_nx_lem words l.0 l.1 (calls_of calls) given (answers words values state values' state' at e pending calls given a)
