-- A record has seven words, and a run three words a record. Assumes nothing.
use mathlib.Core.Path.{◌≡◌, refl, ap}
use mathlib.Core.Bool.{Bool, true, false, cond}
use mathlib.Core.List.{List, [], ◌∷◌}
use Prim.Native.Nat.{ℕ, zero, suc, ◌+◌, ◌*◌, ◌≤◌}
use native.Mathlib.Omega.{arith}
use lib.ListN.{length}
use Rattle.machine_data.specs.declared.MachineData.{MachineData}
use lib.Dec.{ltb}
use borrow.Author.Tests.{ltb-true}
use Rattle.laws.proofs.Never.{never}
use Rattle.seven.specs.declared.CycleRecord.{CycleRecord}
use Rattle.std.proofs.Common.{Result, Ok, Err}
use Rattle.records.specs.declared.Entry.{Entry}
use Rattle.records.specs.declared.Entry.TheVariants.{Record, Remark}
use Rattle.records.specs.Records.{entry_at, LogRead, records, fault, before, on_entry, log_from, log_of}
use Rattle.records.proofs.Scanning.{record_there}
use Rattle.logs.specs.Run.{device_cycle, lines_of}

-- from a place on, the records fill what is left of the log at most
abbrev Fill : List ℕ → ℕ → LogRead → Type 0
Fill s at l = (rs : List CycleRecord) → l ≡ records rs → at ≤ length s → at + 7 * length rs ≤ length s

fills : (n : ℕ) (s : List ℕ) (at : ℕ) → Fill s at (log_from n s at)
unfolding log_from
fills zero s at rs e h = let q : [] ≡ rs = none e in omega (arith, ap length q)
  where
    none : records [] ≡ records rs → [] ≡ rs
    none y = cc
fills (suc n) s at rs e₀ h = go (ltb at (length s)) refl (entry_at s at) refl (fills n s (at + 7)) (fills n s (at + 1)) e₀
  where
    empty : records [] ≡ records rs → at + 7 * length rs ≤ length s
    empty y = let q : [] ≡ rs = cc in omega (arith, ap length q)

    after : (r : CycleRecord) (l : LogRead) → at + 7 ≤ length s → Fill s (at + 7) l → before r l ≡ records rs → at + 7 * length rs ≤ length s
    after r (records k) there f y = let q : r ∷ k ≡ rs = cc in omega (arith, ap length q, f k refl there)
    after r (fault place) there f y = never (cc)

    go : (t : Bool) → ltb at (length s) ≡ t → (x : Result Entry ℕ) → entry_at s at ≡ x → Fill s (at + 7) (log_from n s (at + 7)) → Fill s (at + 1) (log_from n s (at + 1)) →
        cond t (on_entry x (λ r. before r (log_from n s (at + 7))) (log_from n s (at + 1))) (records []) ≡ records rs → at + 7 * length rs ≤ length s
    go false b x e f g y = empty y
    go true b (Ok (Record r)) e f g y = after r (log_from n s (at + 7)) (record_there s at r e) f y
    go true b (Ok Remark) e f g y = let inside = ltb-true at (length s) b in omega (arith, g rs y (omega (arith, inside)))
    go true b (Err place) e f g y = never (cc)

pub seven_words : (s : List ℕ) (rs : List CycleRecord) → log_of s ≡ records rs → 7 * length rs ≤ length s
seven_words s rs e = omega (arith, fills (length s) s 0 rs e (omega arith))

pub three_words : (da db : MachineData) (x : _) (rs : List CycleRecord) → length (lines_of da db x rs) ≡ 3 * length rs
unfolding lines_of
three_words da db x [] = refl
three_words da db x (r ∷ rs) = let rest = three_words da db (device_cycle da db x r).both rs in omega (arith, rest)
