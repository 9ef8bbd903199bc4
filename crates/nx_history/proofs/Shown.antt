-- Bit 21 is 1 where W3 says so, and only there: by the law of the signal over numbered cycles. Assumes nothing.
use Rattle.std.specs.Prelude.{Option, ℤ, None}
use Prim.Native.Nat.{ℕ, zero, suc, ◌≤◌}
use mathlib.Core.Bool.{Bool, true, false, cond, ◌&&◌}
use mathlib.Core.List.{List}
use mathlib.Core.Logic.{◌↔◌}
use mathlib.Core.Path.{◌≡◌, refl, sym, ap, ◌∙◌, subst}
use native.Mathlib.Omega.{arith}
use borrow.Author.Tests.{ltb-true, lt-ltb}
use lib.Dec.{T, ltb}
use lib.Ieee.Bits.{is_true}
use lib.Ieee.Fits.{and_i, and_l, and_r}
use Rattle.bits.specs.Bits.{bit_of}
use Rattle.machine_data.specs.declared.MachineData.{MachineData}
use Rattle.machine_data.specs.Data.{function_of}
use Rattle.machine_data.proofs.Stands.{number_high}
use Rattle.runs.specs.Run.{run_next}
use Rattle.runs.specs.Running.{Running}
use Rattle.runs.proofs.Running.{above_running, running_above}
use Rattle.nx_signal.specs.declared.Signal.{Signal}
use Rattle.nx_signal.specs.Signal.{signal_next, below_run, value_next}
use Rattle.nx_signal.proofs.Steady.{apart}
use Rattle.runs.proofs.Since.{set_since, since_set}
use Rattle.state.specs.declared.State.{State}
use Rattle.state.specs.declared.Given.{Given}
use Rattle.judge.specs.Causes.{step_of}
use Rattle.list.specs.Reading.{read_list}
use Rattle.state.specs.State.{fresh_state}
use Rattle.commit_laws.proofs.NeverLowers.{never_lowers}
use Rattle.channel.specs.Cycle.{next}
use Rattle.channel.specs.Word.{word}
use Rattle.demand_3.specs.History.{all_cycles, all_commits, cycle_at, all_committed, list_in, before}
use Rattle.demand_3.specs.Claims.{usable_in}
use Rattle.demand_3.proofs.OfWord.{shows_nx}
use Rattle.demand_3.proofs.Commits.{all_keep}
use Rattle.demand_3.proofs.Traces.{trace_at}
use Rattle.demand_3.proofs.Calls.{calls_lead}
use Rattle.nx_history.specs.Shown.{previous_at, step_at, below_at, over_at, filter_at, ShownAt, ShownNx}

-- a part of one of two
part : {X Y : Type 0} (f : X → Y) (u : Bool) (x y : X) → f (cond u x y) ≡ cond u (f x) (f y)
part f true x y = refl
part f false x y = refl

-- ---- numbered cycles: what a cycle finds of the position before it and of n<nx is what the cycle before left, in the first one none and a fresh signal

module _ (L : ℕ → MachineData) (S : ℕ → State) (G : ℕ → Given) (none : (S 0).previous ≡ None) (off : (S 0).kept.nx ≡ record { run = 0; on = false })
    (previous-goes : (n : ℕ) → (S (suc n)).previous ≡ (next (L n) (S n) (G n)).previous)
    (signal-goes : (n : ℕ) → (S (suc n)).kept.nx ≡ (next (L n) (S n) (G n)).kept.nx) where
  abbrev used : ℕ → Bool
  used = usable_in L G

  abbrev on : ℕ → Bool
  on n = (S n).kept.nx.on

  abbrev run : ℕ → ℕ
  run n = (S n).kept.nx.run

  previous_at_lem : (n : ℕ) → (S n).previous ≡ previous_at L G n
  unfolding next
  previous_at_lem zero = none
  previous_at_lem (suc n) = previous-goes n ∙ part (λ (x : State). x.previous) (used n) _ _

  signal_at : (n : ℕ) → (S (suc n)).kept.nx ≡ cond (used n) (signal_next (L n).values (step_at L G n) (S n).kept.nx) (S n).kept.nx
  unfolding next
  signal_at n =
      signal-goes n
      ∙ part (λ (x : State). x.kept.nx) (used n) _ _
      ∙ ap (λ (p : Option ℤ). cond (used n) (signal_next (L n).values (step_of (L n).values p (G n).reading) (S n).kept.nx) (S n).kept.nx) (previous_at_lem n)

  run_at : (n : ℕ) → run (suc n) ≡ cond (used n) (run_next (below_at L G n) (run n)) (run n)
  unfolding below_run
  run_at n = ap (λ (x : Signal). x.run) (signal_at n) ∙ part (λ (x : Signal). x.run) (used n) _ _

  -- whether the run that cycle n leaves is above datum 68
  abbrev ran : ℕ → Bool
  ran n = ltb (filter_at L G n) (run (suc n))

  on_at : (n : ℕ) → on (suc n) ≡ cond (used n) (cond (over_at L G n) false (cond (ran n) true (on n))) (on n)
  unfolding value_next
  on_at n = ap (λ (x : Signal). x.on) (signal_at n) ∙ part (λ (x : Signal). x.on) (used n) _ _ ∙ go (used n) refl
    where
      go : (u : Bool) → used n ≡ u →
          cond u (cond (over_at L G n) false (cond (ltb (filter_at L G n) (below_run (L n).values (step_at L G n) (run n))) true (on n))) (on n)
          ≡ cond u (cond (over_at L G n) false (cond (ran n) true (on n))) (on n)
      go true q =
          let counted : below_run (L n).values (step_at L G n) (run n) ≡ run (suc n) =
          sym (ap (λ (x : Signal). x.run) (signal_at n ∙ ap (λ (b : Bool). cond b (signal_next (L n).values (step_at L G n) (S n).kept.nx) (S n).kept.nx) q)) in
          ap (λ (k : ℕ). cond (over_at L G n) false (cond (ltb (filter_at L G n) k) true (on n))) counted
      go false q = refl

  small : (n : ℕ) → filter_at L G n ≤ 1000
  small n = number_high (L n).values 68 1000 (omega arith) refl

  tells : (n : ℕ) → T (used n) → T (ran n) → Running used (below_at L G) (filter_at L G n) n
  tells n u t = above_running used (below_at L G) run (ap (λ (x : Signal). x.run) off) run_at (filter_at L G n) n (small n) u (ltb-true (filter_at L G n) (run (suc n)) (is_true (ran n) t))

  told : (n : ℕ) → Running used (below_at L G) (filter_at L G n) n → T (ran n)
  told n x =
      subst T (sym (lt-ltb (filter_at L G n) (run (suc n)) (running_above used (below_at L G) run (ap (λ (x : Signal). x.run) off) run_at (filter_at L G n) n (small n) x))) tt

  bit_21 : (n : ℕ) → bit_of (word (L n) (S n) (G n)) 21 ≡ function_of (L n).values 3 && (used n && on (suc n))
  unfolding word
  bit_21 n = shows_nx (L n).values (next (L n) (S n) (G n)) _ ∙ ap (λ (x : Signal). function_of (L n).values 3 && (used n && x.on)) (sym (signal-goes n))

  pub shown_at : (n : ℕ) → T (bit_of (word (L n) (S n) (G n)) 21) ↔ ShownAt L G n
  shown_at n = (there, back)
    where
      there : T (bit_of (word (L n) (S n) (G n)) 21) → ShownAt L G n
      there t =
          let f = subst T (bit_21 n) t in
          let o = and_r (function_of (L n).values 3) (used n && on (suc n)) f in
          record {
            used = and_l (used n) (on (suc n)) o;
            enabled = and_l (function_of (L n).values 3) (used n && on (suc n)) f;
            one =
                set_since used (below_at L G) (over_at L G) (filter_at L G) on ran (ap (λ (x : Signal). x.on) off) on_at tells told
                (λ i. apart (L i).values (step_at L G i)) (suc n) (and_r (used n) (on (suc n)) o);
          }

      back : ShownAt L G n → T (bit_of (word (L n) (S n) (G n)) 21)
      back x =
          let o =
          since_set used (below_at L G) (over_at L G) (filter_at L G) on ran (ap (λ (x : Signal). x.on) off) on_at tells told
          (λ i. apart (L i).values (step_at L G i)) (suc n) x.one in
          subst T (sym (bit_21 n)) (and_i (function_of (L n).values 3) (used n && on (suc n)) x.enabled (and_i (used n) (on (suc n)) x.used o))

-- ---- the history of a first list and of those that are committed, and the words that the calls give

module _ (m : MachineData) (commits : ℕ → List MachineData) (cs : ℕ → Given) where
  abbrev L : ℕ → MachineData
  L = list_in m commits

  abbrev S : ℕ → State
  S = before m commits cs

  previous_kept : (ms : List MachineData) (s : State) → (all_committed ms s).previous ≡ s.previous
  previous_kept = all_keep (λ (s : State). s.previous) (λ l s. (never_lowers l s).previous)

  signal_kept : (ms : List MachineData) (s : State) → (all_committed ms s).kept.nx ≡ s.kept.nx
  signal_kept = all_keep (λ (s : State). s.kept.nx) (λ l s. (never_lowers l s).nx)

  pub shown_in : (n : ℕ) → T (bit_of (word (L n) (S n) (cs n)) 21) ↔ ShownAt L cs n
  unfolding before
  shown_in =
      shown_at L S cs (previous_kept (commits 0) fresh_state) (signal_kept (commits 0) fresh_state)
      (λ n. previous_kept (commits (suc n)) (next (L n) (S n) (cs n))) (λ n. signal_kept (commits (suc n)) (next (L n) (S n) (cs n)))

pub shown_nx_lem : ShownNx
shown_nx_lem s size e calls given a n l =
    let m = (read_list s).list in
    let cs = cycle_at (all_cycles calls) in
    let gave = trace_at (calls_lead a).trace _ n l in
    subst (λ (w : ℕ). T (bit_of w 21) ↔ ShownAt (list_in m (all_commits calls)) cs n) (sym gave.word_is) (shown_in m (all_commits calls) cs n)
