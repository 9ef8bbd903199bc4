-- The bench refuses a kit, in which part and why, if and only if BenchFault says so. Assumes nothing.
use mathlib.Core.Path.{◌≡◌, refl, sym, ap, ◌∙◌, subst}
use mathlib.Core.Logic.{◌↔◌}
use mathlib.Core.Bool.{Bool, true, false, cond, true≢false}
use mathlib.Core.List.{List}
use Prim.Native.Nat.{ℕ, ◌%◌}
use lib.ListN.{length, drop}
use lib.Dec.{leb, eqb}
use borrow.Author.Tests.{le-leb, eq-eqb, leb-true, eqb-true}
use Rattle.std.specs.Prelude.{Result, Ok, Err}
use Rattle.laws.proofs.Never.{never}
use Rattle.laws.proofs.Bools.{both}
use Rattle.refusal.specs.declared.Refusal.{Refusal}
use Rattle.refusal.specs.declared.Refusal.TheVariants.{WrongLog}
use Rattle.refusal.specs.declared.Part.{Part}
use Rattle.refusal.specs.declared.KitRefusal.{KitRefusal}
use Rattle.refusal.specs.declared.Part.TheVariants.{Log}
use Rattle.kit.specs.declared.KitRead.{KitRead}
use Rattle.kit.specs.Kit.{read_kit}
use Rattle.kit.proofs.Lists.{accepted_kit_lem}
use Rattle.records.specs.Records.{LogRead, records, fault, log_of}
use Rattle.kit_bytes.specs.KitBytes.{whole_words, words_of}
use Rattle.listing.specs.Listing as S
use Rattle.refusals.specs.BenchFault.{KitSize, BenchFault, size, lists, log}
use Rattle.refusals.proofs.Kits.{refused_kit}
use Rattle.refusals.proofs.LogFaults.{is_fault}
use Rattle.refusals.proofs.KitRuns.{are_lists}

module _ (kit : List ℕ) where
  right_size : whole_words (length kit) ≡ true → KitSize kit
  right_size e = let t = both (leb (length kit) 65536) (eqb (length kit % 4) 0) e in (leb-true (length kit) 65536 t.0, eqb-true (length kit % 4) 0 t.1)

  whole : KitSize kit → whole_words (length kit) ≡ true
  whole (short, words) = simp (le-leb (length kit) 65536 short, eq-eqb (length kit % 4) 0 words)

  odd : (KitSize kit → ⊥) → whole_words (length kit) ≡ false
  odd none = go (whole_words (length kit)) refl
    where
      go : (t : Bool) → whole_words (length kit) ≡ t → t ≡ false
      go true e = absurd (none (right_size e))
      go false e = refl

  module _ (why : Refusal) (part : Part) where
    as_said : {x : Refusal} {p : Part} → S.refused x p ≡ S.refused why part → BenchFault kit x p → BenchFault kit why part
    as_said {x} {p} e f =
        let same : x ≡ why = cc in
        let part_same : p ≡ part = cc in
        subst (λ (i : Refusal × Part). BenchFault kit i.0 i.1) (λ i. (same i, part_same i)) f

    refused : S.said kit ≡ S.refused why part → BenchFault kit why part
    unfolding S.said S.said_of
    refused = by_size (whole_words (length kit)) refl
      where
        by_log_lem : KitSize kit → (at : ℕ) → (read_kit (words_of kit)).answer ≡ Ok at → (l : LogRead) → log_of (drop at (words_of kit)) ≡ l →
            S.by_log (read_kit (words_of kit)).a (read_kit (words_of kit)).b l ≡ S.refused why part → BenchFault kit why part
        by_log_lem right at q (records rs) h e = never (cc)
        by_log_lem right at q (fault place) h e = as_said e (log right (are_lists (words_of kit) q) ((is_fault (drop at (words_of kit)) place).0 h))

        by_lists_lem : KitSize kit → (x : Result ℕ KitRefusal) → (read_kit (words_of kit)).answer ≡ x → S.by_lists (words_of kit) (read_kit (words_of kit)) x ≡ S.refused why part → BenchFault kit why part
        by_lists_lem right (Ok at) q e = by_log_lem right at q (log_of (drop at (words_of kit))) refl e
        by_lists_lem right (Err r) q e = as_said e (lists right ((refused_kit (words_of kit) r.why r.part).0 q))

        by_size : (t : Bool) → whole_words (length kit) ≡ t → cond t (S.by_lists (words_of kit) (read_kit (words_of kit)) (read_kit (words_of kit)).answer) (S.refused (WrongLog 0) Log) ≡ S.refused why part → BenchFault kit why part
        by_size true q e = by_lists_lem (right_size q) (read_kit (words_of kit)).answer refl e
        by_size false q e = as_said e (size (λ right. true≢false (sym (whole right) ∙ q)))

  refuses : {why : Refusal} {part : Part} → BenchFault kit why part → S.said kit ≡ S.refused why part
  unfolding S.said S.said_of
  refuses (size none) = simp (odd none)
  refuses (lists {why} {part} right f) = simp (whole right) (ap (S.by_lists (words_of kit) (read_kit (words_of kit))) ((refused_kit (words_of kit) why part).1 f))
  refuses (log {a} {b} {at} {place} right is f) =
      simp (whole right) (ap (λ (r : KitRead). S.by_lists (words_of kit) r r.answer) ((accepted_kit_lem (words_of kit) a b at).1 is) ∙ ap (S.by_log a b) ((is_fault (drop at (words_of kit)) place).1 f))

pub refused_bench : (kit : List ℕ) (why : Refusal) (part : Part) → (S.said kit ≡ S.refused why part) ↔ BenchFault kit why part
refused_bench kit why part = (refused kit why part, refuses kit)
