-- A kit's run is refused, in which part and why, if and only if KitFault says so. Assumes nothing.
use mathlib.Core.Path.{◌≡◌, refl, ap, ◌∙◌}
use mathlib.Core.Logic.{◌↔◌}
use mathlib.Core.List.{List}
use Prim.Native.Nat.{ℕ}
use lib.ListN.{drop}
use Rattle.std.specs.Prelude.{Result, Ok, Err}
use Rattle.laws.proofs.Never.{never}
use Rattle.refusal.specs.declared.Refusal.{Refusal}
use Rattle.refusal.specs.declared.Part.{Part}
use Rattle.refusal.specs.declared.KitRefusal.{KitRefusal}
use Rattle.kit.specs.declared.KitRead.{KitRead}
use Rattle.kit.specs.Kit.{in_part, read_kit}
use Rattle.kit.specs.AreLists.{AreLists}
use Rattle.kit.proofs.Lists.{accepted_kit_lem}
use Rattle.channel.specs.Cycle.{fresh_channel}
use Rattle.logs.specs.Run.{ran_of}
use Rattle.kit_run.specs.KitRun.{answer_of, by_kit, kit_ran}
use Rattle.refusals.specs.KitFault.{KitFault, lists, log}
use Rattle.refusals.proofs.Kits.{as_given, refused_kit}
use Rattle.refusals.proofs.Logs.{refused_log}

-- the lists are accepted, with the data that were read
pub are_lists : (words : List ℕ) {at : ℕ} → (read_kit words).answer ≡ Ok at → AreLists words (read_kit words).a (read_kit words).b at
are_lists words {at} q = (accepted_kit_lem words (read_kit words).a (read_kit words).b at).0 (λ i. record { answer = q i; a = (read_kit words).a; b = (read_kit words).b })

module _ (words out : List ℕ) (why : Refusal) (part : Part) where
  refused : (kit_ran words out).answer ≡ in_part why part → KitFault words out why part
  unfolding kit_ran
  refused = by_lists_lem (read_kit words).answer refl
    where
      by_log_lem : (at : ℕ) → (read_kit words).answer ≡ Ok at → (y : Result ℕ Refusal) → (ran_of (fresh_channel (read_kit words).a) (fresh_channel (read_kit words).b) (drop at words) out).answer ≡ y →
          answer_of y ≡ in_part why part → KitFault words out why part
      by_log_lem at q (Ok n) h e = never (cc)
      by_log_lem at q (Err x) h e = as_given (KitFault words out) e (log (are_lists words q) ((refused_log _ _ (drop at words) out x).0 h))

      by_lists_lem : (x : Result ℕ KitRefusal) → (read_kit words).answer ≡ x → (by_kit words out (read_kit words) x).answer ≡ in_part why part → KitFault words out why part
      by_lists_lem (Ok at) q e = by_log_lem at q (ran_of (fresh_channel (read_kit words).a) (fresh_channel (read_kit words).b) (drop at words) out).answer refl e
      by_lists_lem (Err r) q e = as_given (KitFault words out) e (lists ((refused_kit words r.why r.part).0 q))

refuses : (words out : List ℕ) {why : Refusal} {part : Part} → KitFault words out why part → (kit_ran words out).answer ≡ in_part why part
unfolding kit_ran
refuses words out (lists {why} {part} f) = ap (λ (x : Result ℕ KitRefusal). (by_kit words out (read_kit words) x).answer) ((refused_kit words why part).1 f)
refuses words out (log {why} {a} {b} {at} is f) =
    ap (λ (r : KitRead). (by_kit words out r r.answer).answer) ((accepted_kit_lem words a b at).1 is)
    ∙ ap answer_of ((refused_log (fresh_channel a) (fresh_channel b) (drop at words) out why).1 f)

pub refused_run : (words out : List ℕ) (why : Refusal) (part : Part) → ((kit_ran words out).answer ≡ in_part why part) ↔ KitFault words out why part
refused_run words out why part = (refused words out why part, refuses words out)
