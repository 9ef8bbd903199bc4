-- Demand 3, from the bounds over numbered cycles and what the words show of their states. Assumes nothing.
use Prim.Native.Nat.{ℕ, zero, suc, ◌+◌, ◌≤◌, ◌<◌}
use mathlib.Core.Bool.{false}
use mathlib.Core.List.{List}
use mathlib.Core.Logic.{◌⊎◌, inl, inr, by_cases}
use mathlib.Core.Path.{◌≡◌, sym, ◌∙◌, subst}
use native.Mathlib.Decide.{dec_le}
use native.Mathlib.Omega.{arith}
use lib.Dec.{T}
use lib.Ieee.Bits.{is_true}
use lib.IntN.{ℤ}
use lib.ListN.{length}
use Rattle.bits.specs.Bits.{bit_of}
use Rattle.machine_data.specs.declared.MachineData.{MachineData}
use Rattle.machine_data.specs.Data.{number_of}
use Rattle.list.specs.Reading.{read_list}
use Rattle.rank.specs.Rank.{time_of}
use Rattle.stop.specs.declared.Stop.{Stop}
use Rattle.stop.specs.Stop.{rank_of}
use Rattle.state.specs.declared.State.{State}
use Rattle.state.specs.declared.Given.{Given}
use Rattle.state.specs.State.{fresh_state}
use Rattle.channel.specs.Cycle.{fresh_channel}
use Rattle.commit_laws.specs.NeverLowers.{count_of}
use Rattle.commit_laws.proofs.NeverLowers.{never_lowers}
use Rattle.channel_word.specs.Word.{is_held}
use Rattle.channel.specs.Word.{word}
use Rattle.demand_3.specs.Calls.{Call, Words, Answers}
use Rattle.demand_3.specs.History.{all_cycles, all_commits, cycle_at, list_in, before}
use Rattle.demand_3.specs.Claims.{is_limit, AtLeast, NoLaxer, rank_in_word, rank_in_device, Within, state_after, Claims}
use Rattle.demand_3.specs.Demand3.{Demanded, Demand3}
use Rattle.demand_3.proofs.OfWord.{Shows, shows}
use Rattle.demand_3.proofs.Stops.{Counting}
use Rattle.demand_3.proofs.Cycles.{Ready, ready, fresh_ready, sound_next}
use Rattle.demand_3.proofs.Turns as H
use Rattle.demand_3.proofs.Commits.{all_ready, all_pass, all_cut}
use Rattle.demand_3.proofs.Selections.{one_of, binds}
use Rattle.demand_3.proofs.Traces.{Gave, trace_length, trace_at}
use Rattle.demand_3.proofs.Calls.{calls_lead}

-- a limit's cause is a fresh one
limit_fresh : (x : ℕ) → T (is_limit x) → x ≡ 13 → ⊥
limit_fresh x t e = subst (λ (n : ℕ). T (is_limit n)) e t

four_or_five : (n : ℕ) → 4 ≤ n → n ≤ 5 → (n ≡ 4) ⊎ (n ≡ 5)
four_or_five n a b = by_cases (dec_le n 4) (λ l. inl (omega arith)) (λ l. inr (omega arith))

count_within : {d : List ℤ} {s : Stop} → Counting d s → count_of s ≤ time_of d (rank_of s)
count_within Counting.free = omega arith
count_within (Counting.braking a b h) = h
count_within (Counting.held a b) = omega arith
count_within Counting.cancelled = omega arith

within : {m : MachineData} {s : State} → Ready m s → Within m s
within q = record { braking = count_within q.counting; fault = q.left; delay = q.delay }

-- ---- of numbered cycles, in which words were given

module _ (L : ℕ → MachineData) (S : ℕ → State) (G : ℕ → Given) (commits : ℕ → List MachineData) (goes : H.Goes L S G commits)
    (size : ℕ) (channel device : ℕ → ℕ) (gave : (n : ℕ) → n < size → Gave (L n) (S n) (G n) (record { channel = channel n; device = device n })) where
  abbrev level : ℕ → ℕ
  level n = H.level L S G commits goes n

  shown_at : (n : ℕ) → n < size → Shows (channel n) (state_after L S G n)
  unfolding word
  shown_at n l =
      let s = H.sound_at L S G commits goes n in
      subst (λ w. Shows w (state_after L S G n)) (sym (gave n l).word_is) (shows (L n).values (state_after L S G n) _ s.numbered)

  device_least : (n : ℕ) → n < size → level n ≤ rank_in_device (device n)
  device_least n l = omega (arith, (shown_at n l).word_rank_lem, (gave n l).over.least)

  device_most : (n : ℕ) → n < size → rank_in_device (device n) ≤ 5
  device_most n l = (gave n l).over.most

  device_off : (n : ℕ) → n < size → level n ≡ 5 → rank_in_device (device n) ≡ 5
  device_off n l e = omega (arith, device_least n l, device_most n l)

  device_braking : (n : ℕ) → n < size → 4 ≤ level n → (rank_in_device (device n) ≡ 4) ⊎ (rank_in_device (device n) ≡ 5)
  device_braking n l h = four_or_five (rank_in_device (device n)) (omega (arith, device_least n l)) (device_most n l)

  held_shown : (m r : ℕ) → m < size → ((level m ≡ r) × T (is_held (state_after L S G m).stop)) ⊎ (r < level m) →
      ((rank_in_word (channel m) ≡ r) × T (bit_of (channel m) 27)) ⊎ (r < rank_in_word (channel m))
  held_shown m r l (inl h) = inl ((shown_at m l).rank ∙ h.0, subst T (sym (shown_at m l).held) h.1)
  held_shown m r l (inr h) = inr (omega (arith, (shown_at m l).rank))

  pub claims : Claims L S G commits size channel device
  claims =
      record {
        overstepped = λ n x l i t. omega (arith, H.met_at L S G commits goes n x (limit_fresh x i) t, device_least n l);
        held_in_time = λ n m i l r s a b e c k u. held_shown m _ s (H.held_in_time L S G commits goes n m i l r a b e c k u);
        unusable_off = λ n m l t i u. device_off m l (H.unusable_off L S G commits goes n m t i u);
        moved_at_once = λ n l t. device_braking n l (H.moved_at_once L S G commits goes n t);
        moved_off = λ n m i l s t c k u. device_off m s (H.braking_ends L S G commits goes n m i l (H.moved_at_once L S G commits goes n t) c k u);
        braking_ends = λ n m i l s h c k u.
            device_off m s (H.braking_ends L S G commits goes n m i l (omega (arith, (shown_at n (omega (arith, H.later L S G commits goes c))).rank)) c k u);
        differing_off = λ n m i j f b s t c e k a u.
            let p = H.later L S G commits goes c in
            let q = H.later L S G commits goes e in
            let end = i + number_of f.values 34 in
            device_off m s
            (H.ended_off L S G commits goes n end m i j f b (H.differing_on L S G commits goes n t) c (omega arith) (a end (omega arith) (omega arith)) e k u);
        differing_on = λ n t. H.differing_on L S G commits goes n t;
        ended_at_once = λ n k i f s o c h a u.
            let b = H.ended_at_once L S G commits goes n k i f o c h a u in
            (omega (arith, (shown_at k s).rank), device_braking k s b);
        ended_off = λ n k m i j f b s o c h a e l u. device_off m s (H.ended_off L S G commits goes n k m i j f b o c h a e l u);
        binds = λ n w l u h m x q. binds L S G commits goes (AtLeast m x) n w (is_true _ u) h q;
        binds_by_order = λ n w l u h m x q. binds L S G commits goes (NoLaxer m x) n w (is_true _ u) h q;
        one_of = λ n w l u h. one_of L S G commits goes n w (is_true _ u) h;
        shown = λ n l. ((shown_at n l).effective, (shown_at n l).sg);
        not_weaker = λ n l. omega (arith, (shown_at n l).rank, device_least n l);
        falls_cleared = λ n l h. H.falls_cleared L S G commits goes n (omega (arith, (shown_at n (omega arith)).rank, (shown_at (suc n) l).rank));
        pulses_off = λ n l e. (gave n l).over.off e;
        one_rank = λ n l. (shown_at n l).word_rank_lem ∙ sym (shown_at n l).rank;
        never_lowers = never_lowers;
        within_before = λ n. within (goes.ready n);
        within_after = λ n. within (ready (H.sound_at L S G commits goes n));
      }

-- ---- the history of a first list and of those that are committed

module _ (m : MachineData) (commits : ℕ → List MachineData) (cs : ℕ → Given) where
  ready_at : (n : ℕ) → Ready (list_in m commits n) (before m commits cs n)
  unfolding list_in before
  ready_at zero = all_ready (commits 0) m fresh_state (fresh_ready m)
  ready_at (suc n) = all_ready (commits (suc n)) (list_in m commits n) _ (ready (sound_next (list_in m commits n) (before m commits cs n) (cs n) (ready_at n)))

  none_chosen : (before m commits cs 0).kept.choice.chosen ≡ false
  unfolding before
  none_chosen = (all_pass (commits 0) fresh_state).choice.same_chosen

  pub goes : H.Goes (list_in m commits) (before m commits cs) cs commits
  unfolding before
  goes =
      record {
        none_chosen = none_chosen;
        ready = ready_at;
        passes = λ n. all_pass (commits (suc n)) (state_after (list_in m commits) (before m commits cs) cs n);
        cuts = λ n l e. all_cut l (commits (suc n)) e (state_after (list_in m commits) (before m commits cs) cs n);
      }

-- ---- the calls, on a channel with any machine data

pub demand : (m : MachineData) (calls : List Call) (given : List Words) → Answers (fresh_channel m) calls given → Demanded m calls given
demand m calls given a =
    let r = (calls_lead a).trace in
    let cs = cycle_at (all_cycles calls) in
    (trace_length r, claims _ _ cs (all_commits calls) (goes m (all_commits calls) cs) (length (all_cycles calls)) _ _ (λ n h. trace_at r _ n h))

pub demand_3 : Demand3
demand_3 s n e calls given a = demand (read_list s).list calls given a
