-- What an ask tells, by the laws of any table whose codes rise, and of its fresh rows. Assumes nothing.
use Prim.Native.Nat.{ℕ, suc, ◌+◌, ◌≤◌}
use mathlib.Core.Path.{◌≡◌, refl, sym, ap, ◌∙◌}
use mathlib.Core.Bool.{Bool, true, false, not, cond, ◌&&◌}
use mathlib.Core.List.{List, [], ◌∷◌}
use native.Mathlib.Omega.{arith}
use borrow.Author.Tests.{eqb-true}
use lib.Dec.{eqb}
use lib.ListN.{length}
use Rattle.bits.specs.Bits.{flag}
use Rattle.laws.proofs.Bools.{if_case}
use Rattle.machine_data.specs.declared.MachineData.{MachineData}
use Rattle.inputs.specs.declared.Reading.{Reading}
use Rattle.usable_inputs.specs.Usable.{usable_of}
use Rattle.report.specs.declared.Report.{Report}
use Rattle.causes.specs.declared.Cause.{Cause}
use Rattle.causes.specs.Causes.{unusable_table}
use Rattle.codes.specs.Codes.{codes_most}
use Rattle.codes_order.specs.Lists.{wanted, Lists, Rising}
use Rattle.codes_order.proofs.Order.{lists}
use Rattle.code_places.proofs.Ranks.{rows_most}
use Rattle.state.specs.declared.State.{State}
use Rattle.state.specs.declared.Given.{Given}
use Rattle.judge.specs.Causes.{choice_in, differing_in, differences_in, fault_in, usable_rows, rows_of}
use Rattle.commit.specs.Commit.{committed}
use Rattle.channel.specs.Outcome.{causes_in}
use Rattle.demand_2.proofs.Codes.{codes}
use Rattle.pending.specs.Pending.{fresh_rows, as_if_given, told_of}
use Rattle.ask_laws.specs.Told.{Told}

-- ---- a table's fresh rows: as many, with the same codes

as_many : (rows : List Cause) → length (fresh_rows rows) ≡ length rows
unfolding fresh_rows
as_many [] = refl
as_many (c ∷ cs) = ap suc (as_many cs)

still_rising : (n : ℕ) (rows : List Cause) → Rising n rows → Rising n (fresh_rows rows)
unfolding fresh_rows
still_rising n [] h = h
still_rising n (c ∷ cs) h = (h.0, still_rising c.code cs h.1)

-- ---- a code stands as often in the fresh rows, and 13 not at all

other : (stands fresh : Bool) → flag ((stands && fresh) && false) ≡ flag (stands && false)
other true true = refl
other true false = refl
other false fresh = refl

here : (stands thirteen : Bool) → flag ((stands && not thirteen) && true) ≡ cond thirteen 0 (flag (stands && true))
here true true = refl
here true false = refl
here false true = refl
here false false = refl

none : (stands : Bool) → flag (stands && false) ≡ 0
none true = refl
none false = refl

nothing : (b : Bool) → ◌≡◌ {A = ℕ} 0 (cond b 0 0)
nothing true = refl
nothing false = refl

wanted_fresh : (k : ℕ) (rows : List Cause) → wanted k (fresh_rows rows) ≡ cond (eqb k 13) 0 (wanted k rows)
unfolding fresh_rows wanted
wanted_fresh k [] = nothing (eqb k 13)
wanted_fresh k (c ∷ cs) = go (eqb c.code k) refl (wanted_fresh k cs)
  where
    sum : (b : Bool) (x y u v : ℕ) → x ≡ cond b 0 y → u ≡ cond b 0 v → x + u ≡ cond b 0 (y + v)
    sum true x y u v p q = omega arith
    sum false x y u v p q = omega arith

    go : (a : Bool) → eqb c.code k ≡ a → wanted k (fresh_rows cs) ≡ cond (eqb k 13) 0 (wanted k cs) →
        flag ((c.stands && not (eqb c.code 13)) && a) + wanted k (fresh_rows cs) ≡ cond (eqb k 13) 0 (flag (c.stands && a) + wanted k cs)
    go true q ih =
        sum (eqb k 13) (flag ((c.stands && not (eqb c.code 13)) && true)) (flag (c.stands && true)) (wanted k (fresh_rows cs)) (wanted k cs)
        (here c.stands (eqb c.code 13) ∙ ap (λ (n : ℕ). cond (eqb n 13) 0 (flag (c.stands && true))) (eqb-true c.code k q)) ih
    go false q ih =
        sum (eqb k 13) (flag ((c.stands && not (eqb c.code 13)) && false)) (flag (c.stands && false)) (wanted k (fresh_rows cs)) (wanted k cs)
        (other c.stands (not (eqb c.code 13)) ∙ none c.stands ∙ nothing (eqb k 13) ∙ ap (cond (eqb k 13) 0) (sym (none c.stands))) ih

-- ---- the table of a cycle

module _ (m : MachineData) (s : State) (g : Given) where
  rising : Rising 0 (rows_of m s g)
  unfolding rows_of usable_rows
  rising = if_case (Rising 0) (usable_of m g.reading) (usable_rows m s g) unusable_table (λ _. omega arith) (λ _. omega arith)

  few : length (rows_of m s g) ≤ codes_most
  unfolding rows_of usable_rows
  few = if_case (λ (rows : List Cause). length rows ≤ codes_most) (usable_of m g.reading) (usable_rows m s g) unusable_table (λ _. omega arith) (λ _. omega arith)

-- no cause asks whether the cycle is acknowledged
unasked : (m : MachineData) (s : State) (r : Reading) (o : Report) (acknowledged : Bool) →
    rows_of m s (record { reading = r; acknowledged = acknowledged; report = o }) ≡ rows_of m s (as_if_given r o)
unfolding rows_of usable_rows choice_in differing_in differences_in fault_in
unasked m s r o acknowledged = refl

pub told : (m : MachineData) (s : State) (r : Reading) (o : Report) → Told m s r o
unfolding causes_in
told m s r o =
    let rows = rows_of m (committed m s) (as_if_given r o) in
    let sorted : Lists (fresh_rows rows) (told_of m s r o) =
    lists 0 (fresh_rows rows) (still_rising 0 rows (rising m (committed m s) (as_if_given r o)))
    (omega (arith, rows_most (fresh_rows rows), as_many rows, few m (committed m s) (as_if_given r o))) in
    record {
      lists = sorted;
      each = λ acknowledged k.
          sorted.each k ∙ wanted_fresh k rows
          ∙ ap (λ (t : List Cause). cond (eqb k 13) 0 (wanted k t)) (sym (unasked m (committed m s) r o acknowledged))
          ∙ ap (cond (eqb k 13) 0) (sym ((codes m (committed m s) (record { reading = r; acknowledged = acknowledged; report = o })).lists.each k));
    }
