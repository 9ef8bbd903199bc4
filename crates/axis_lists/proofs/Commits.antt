-- What a commit leaves, where a list is pending and where none is. Assumes nothing.
use mathlib.Core.Path.{◌≡◌, sym, ap, ◌∙◌}
use mathlib.Core.Bool.{true, false}
use mathlib.Core.List.{List}
use Prim.Native.Nat.{ℕ, ◌≤◌, ◌<◌}
use native.Mathlib.Omega.{arith}
use borrow.Author.Tests.{eq-eqb, ne_eqb}
use lib.Dec.{eqb}
use lib.IntN.{ℤ}
use Rattle.refusal.specs.declared.Refusal.TheVariants.{NothingPending}
use Rattle.refusal.specs.Refusal.{refusal_number, refusal_place}
use Rattle.machine_data.specs.Data.{lent}
use Rattle.state.specs.declared.State.{State}
use Rattle.commit.specs.Commit.{committed}
use Rattle.image.specs.Image.{pending_count, state_from}
use Rattle.image_writing.specs.Written.{written_as, writing}
use Rattle.channel_image.proofs.Channels.{written}
use Rattle.axis_lists.specs.Left.{left_by_commit, commit_into}

module _ (p values : List ℤ) (state : List ℕ) {count : ℕ} (is : count ≡ pending_count state) where
  pub none_pending : {number at : ℕ} → count ≡ 0 → number ≡ refusal_number NothingPending → at ≡ refusal_place NothingPending →
      left_by_commit p number values state at ≡ commit_into p values state
  none_pending e number at =
      let none : eqb (pending_count state) 0 ≡ true = eq-eqb (pending_count state) 0 (sym is ∙ e) in
      let left : left_by_commit p (refusal_number NothingPending) values state (refusal_place NothingPending) ≡ commit_into p values state = simp none in
      (λ i. left_by_commit p (number i) values state (at i)) ∙ left

  pub taken : {s : State} {w : List ℕ} → 1 ≤ count → count < 4294967296 → s ≡ committed (lent p count) (state_from state) → written_as w ≡ writing count s 0 →
      left_by_commit p 0 p w count ≡ commit_into p values state
  taken {s} {w} some small after put =
      let n = pending_count state in
      let one : eqb n 0 ≡ false = ne_eqb n 0 (λ e. omega (arith, is)) in
      let here : written_as w ≡ writing n (committed (lent p n) (state_from state)) 0 = put ∙ ap (λ (x : State). writing count x 0) after ∙ (λ i. writing (is i) (committed (lent p (is i)) (state_from state)) 0) in
      let channel = written p p n (committed (lent p n) (state_from state)) 0 (omega (arith, is)) (omega arith) here in
      simp one (λ i. record { number = 0; place = is i; values = p; state = (here i).words; channel = channel i })
