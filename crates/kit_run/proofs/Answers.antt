-- A kit's run by what was read of its lists and what its log answered. Assumes nothing.
use mathlib.Core.Path.{◌≡◌, sym, ap, ◌∙◌}
use mathlib.Core.List.{List}
use Prim.Native.Nat.{ℕ, ◌-◌, ◌≤◌}
use lib.ListN.{length, take, drop}
use Rattle.machine_data.specs.declared.MachineData.{MachineData}
use Rattle.kit.specs.declared.KitRead.{KitRead}
use Rattle.kit.specs.Kit.{read_kit}
use Rattle.kit.proofs.Lists.{rest_is, kit_used}
use Rattle.channel.specs.declared.Channel.{Channel}
use Rattle.channel.specs.Cycle.{fresh_channel}
use Rattle.logs.specs.Left.{left_by}
use Rattle.logs.specs.Run.{Ran, ran_of}
use Rattle.logs.specs.declared.LogRun.{LogRun}
use Rattle.std.proofs.Common.{Result, Ok, Err}
use Rattle.refusal.specs.declared.Refusal.{Refusal}
use Rattle.refusal.specs.declared.KitRefusal.{KitRefusal}
use Rattle.kit_run.specs.KitRun.{answer_of, of_log, by_kit, kit_ran}

module _ (words out : List ℕ) {r : KitRead} (read : r ≡ read_kit words) where
  pub by_read : {x : Result ℕ KitRefusal} → r.answer ≡ x → by_kit words out r x ≡ kit_ran words out
  unfolding kit_ran
  by_read h = ap (by_kit words out r) (sym h) ∙ ap (λ (y : KitRead). by_kit words out y y.answer) read

  pub log_there : {at : ℕ} → r.answer ≡ Ok at → at ≤ length words
  log_there {at} h = kit_used words at (ap (λ (y : KitRead). y.answer) (sym read) ∙ h)

  -- what `&words[at..]` gives is the log
  pub log_ran : {at : ℕ} → r.answer ≡ Ok at → of_log (ran_of (fresh_channel r.a) (fresh_channel r.b) (take (length words - at) (drop at words)) out) ≡ kit_ran words out
  log_ran {at} h = ap (λ (l : List ℕ). of_log (ran_of (fresh_channel r.a) (fresh_channel r.b) l out)) (rest_is words at) ∙ by_read h

-- the log's run, over channels that are the fresh ones
module _ (a b : MachineData) (words out : List ℕ) {ca cb : Channel} (fresh-a : ca ≡ fresh_channel a) (fresh-b : cb ≡ fresh_channel b) {r : LogRun Channel} {out' : List ℕ} (ran : left_by r out' ≡ ran_of ca cb words out) where
  pub answered : {x : Result ℕ Refusal} → r.answer ≡ x → answer_of x ≡ (of_log (ran_of (fresh_channel a) (fresh_channel b) words out)).answer
  answered h = ap answer_of (sym h ∙ ap (λ (x : Ran). x.answer) ran) ∙ (λ i. answer_of (ran_of (fresh-a i) (fresh-b i) words out).answer)

  pub put_out : out' ≡ (of_log (ran_of (fresh_channel a) (fresh_channel b) words out)).out
  put_out = ap (λ (x : Ran). x.out) ran ∙ (λ i. (ran_of (fresh-a i) (fresh-b i) words out).out)
