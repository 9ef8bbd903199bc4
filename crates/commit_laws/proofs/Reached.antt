-- The bound of a lone commit is reached: until k has met the datum nothing differs, and F stays off. Assumes nothing.
use Prim.Native.Nat.{ℕ, zero, suc, ◌≤◌, ◌<◌}
use mathlib.Core.Bool.{Bool, true, false, ◌&&◌}
use mathlib.Core.Logic.{inr, by_cases}
use mathlib.Core.Path.{◌≡◌, refl, sym, ap, subst, ◌∙◌}
use native.Mathlib.Decide.{dec_lt}
use native.Mathlib.Omega.{arith}
use lib.Dec.{T, ltb}
use lib.IntN.{pos, nat_abs}
use lib.ListN.{get_or}
use lib.Seq.{get_or-set_other}
use lib.Ieee.Fits.{and_l, and_r}
use Rattle.bits.specs.Bits.{bit_of, field_of}
use Rattle.ranges.specs.Table.{in_range, allowed}
use Rattle.machine_data.specs.declared.MachineData.{MachineData}
use Rattle.machine_data.specs.Data.{entry_of, number_of, datum_of, nearest, function_of}
use Rattle.inputs.specs.declared.Reading.{Reading}
use Rattle.usable_inputs.specs.Usable.{bits_usable, usable_of}
use Rattle.report.proofs.Differs.{same_datum}
use Rattle.state.specs.declared.State.{State}
use Rattle.state.specs.declared.Given.{Given}
use Rattle.state.specs.State.{fresh_state}
use Rattle.commit.specs.Commit.{cut_k, committed}
use Rattle.channel.specs.Cycle.{next}
use Rattle.channel.specs.Word.{word}
use Rattle.commit_laws.specs.LoneCommit.{Both, given_one, given_other, before, UsableIn, BothShow}
use Rattle.commit_laws.specs.Reached.{NeitherShows, fed, NotBefore, base, list_of, old, new, still, Proper, Reached}
use Rattle.laws.proofs.Bools.{if_case}
use Rattle.commit_laws.proofs.OfK.{k_at, no_further}
use Rattle.commit_laws.proofs.Differing.{shows_fault}
use Rattle.commit_laws.proofs.Alike.{stays_off}
use Rattle.commit_laws.proofs.LoneCommit.{k_one, k_other, lone_commit}

-- ---- while the data are the same

cut_0 : (count : ℕ) → cut_k count 0 ≡ 0
cut_0 count = if_case (λ (n : ℕ). n ≡ 0) (ltb 0 count) _ _ (λ _. refl) (λ _. refl)

module _ (p q : MachineData) (r : ℕ → Reading) (a b : ℕ → Bool) (s t : State) (j : ℕ) (heads : p.count ≡ q.count)
    (same : (k : ℕ) → k < j → entry_of p.values k ≡ entry_of q.values k) (s_0 : s.k ≡ 0) (t-0 : t.k ≡ 0)
    (s-off : s.kept.fault.on ≡ false) (t-off : t.kept.fault.on ≡ false) where
  abbrev both : ℕ → Both
  both = before p q (fed r a) (fed r b) s t

  abbrev one_given : ℕ → Given
  one_given i = given_one p q (fed r a) (fed r b) (both i) i

  abbrev other_given : ℕ → Given
  other_given i = given_other p q (fed r a) (fed r b) (both i) i

  -- the data that both report
  same_here : (i : ℕ) → i < j → entry_of q.values (both i).one.k ≡ entry_of p.values (both i).other.k
  same_here i h =
      let k : ℕ = k_at q.count 0 i in
      let one : (both i).one.k ≡ k = k_one p q (fed r a) (fed r b) s t i ∙ simp (s_0, cut_0 q.count) in
      let other : (both i).other.k ≡ k = k_other p q (fed r a) (fed r b) s t i ∙ simp (t-0, heads) in
      ap (entry_of q.values) one ∙ sym (same k (omega (arith, no_further q.count i))) ∙ sym (ap (entry_of p.values) other)

  -- F before cycle i, and after it
  record Off (i : ℕ) : Type 0 where
    one : (both i).one.kept.fault.on ≡ false
    other : (both i).other.kept.fault.on ≡ false

  record OffAfter (i : ℕ) : Type 0 where
    one : (next q (both i).one (one_given i)).kept.fault.on ≡ false
    other : (next p (both i).other (other_given i)).kept.fault.on ≡ false

  after : (i : ℕ) → i < j → Off i → OffAfter i
  after i h o =
      record {
        one = stays_off q (both i).one (one_given i) o.one refl refl (same_datum q (both i).one.k _ (sym heads) (same_here i h));
        other = stays_off p (both i).other (other_given i) o.other refl refl (same_datum p (both i).other.k _ heads (sym (same_here i h)));
      }

  off : (i : ℕ) → i ≤ j → Off i
  unfolding before committed
  off zero h = record { one = s-off; other = t-off }
  off (suc i) h = let z = after i (omega arith) (off i (omega arith)) in record { one = z.one; other = z.other }

  neither : (i : ℕ) → i < j → NeitherShows p q (fed r a) (fed r b) s t i
  unfolding word
  neither i h =
      let z = after i h (off i (omega arith)) in
      (shows_fault q.values (next q (both i).one (one_given i)) _ ∙ z.one, shows_fault p.values (next p (both i).other (other_given i)) _ ∙ z.other)

pub not_before : NotBefore
not_before = neither

-- ---- the two lists

abbrev all_below : (ℕ → Bool) → ℕ → Bool
all_below f zero = true
all_below f (suc n) = f n && all_below f n

each_below : (f : ℕ → Bool) (n : ℕ) → T (all_below f n) → (k : ℕ) → k < n → T (f k)
each_below f zero t k h = absurd (omega arith)
each_below f (suc n) t k h =
    by_cases (dec_lt k n) (each_below f n (and_r (f n) (all_below f n) t) k) (λ l. subst (λ (i : ℕ). T (f i)) (omega arith) (and_l (f n) (all_below f n) t))

old_is : Proper old
unfolding base in_range allowed
old_is = record { in_ranges = each_below (λ k. allowed 51 k (get_or old.values k (pos 0))) 51 tt; se_1 = tt; se_2 = tt }

new_is : Proper new
unfolding base in_range allowed
new_is = record { in_ranges = each_below (λ k. allowed 51 k (get_or new.values k (pos 0))) 51 tt; se_1 = tt; se_2 = tt }

-- what stands before datum 50 is the same, and datum 50 is not
same_front : (k : ℕ) → k < 50 → entry_of old.values k ≡ entry_of new.values k
same_front k h = simp (front 100, front 50)
  where
    front : (n : ℕ) → get_or (list_of n).values k (pos 0) ≡ get_or base k (pos 0)
    front n = get_or-set_other base 50 k (pos n) (pos 0) (λ z. omega arith)

last_differs : entry_of old.values 50 ≡ entry_of new.values 50 → ⊥
unfolding base
last_differs e = let z : ◌≡◌ {A = ℕ} 100 50 = ap nat_abs e in omega arith

usable : (i : ℕ) → UsableIn old new still still i
unfolding usable_of bits_usable field_of bit_of function_of number_of datum_of nearest base
usable i = (tt, tt)

sooner : (i : ℕ) → i < 50 → NeitherShows old new still still fresh_state fresh_state i
sooner = not_before old new still.reading still.acknowledged still.acknowledged fresh_state fresh_state 50 refl same_front refl refl refl refl

last : BothShow old new still still fresh_state fresh_state 50
last =
    go (lone_commit old new still still fresh_state fresh_state (omega arith) (omega arith) refl (inr (50, omega arith, last_differs)) (λ i _. usable i))
  where
    go : (i : ℕ) × (i < 51) × BothShow old new still still fresh_state fresh_state i → BothShow old new still still fresh_state fresh_state 50
    go (i, h, t) =
        by_cases (dec_lt i 50) (λ l. absurd (subst T (sooner i l).0 t.0))
        (λ l. subst (BothShow old new still still fresh_state fresh_state) (omega arith) t)

pub reached : Reached
reached = record { old_proper = old_is; new_proper = new_is; usable = usable; not_before = sooner; in_the_last = last }
