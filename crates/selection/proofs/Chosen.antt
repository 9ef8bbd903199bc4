-- What a usable cycle makes of the choice, in the paper's sentences, by the cases of the definition. Assumes nothing.
use Prim.Native.Nat.{ℕ, zero, suc, ◌-◌, ◌<◌}
use mathlib.Core.Bool.{Bool, true, false, cond, ◌&&◌, true≢false}
use mathlib.Core.List.{List}
use mathlib.Core.Logic.{inl, inr}
use mathlib.Core.Path.{◌≡◌, refl, sym, ◌∙◌}
use native.Mathlib.Omega.{arith}
use lib.IntN.{ℤ}
use Rattle.laws.proofs.Bools.{both, and_false}
use Rattle.machine_data.specs.Data.{number_of}
use Rattle.selection.specs.declared.Selection.{Selection}
use Rattle.selection.specs.declared.Choice.{Choice}
use Rattle.selection.specs.Selection.{stricter, is_sbh, bound_of, delay_count, waited_of, choice_next}
use Rattle.selection.specs.Chosen.{Chosen}

module _ (d : List ℤ) (x : Choice) (s : Selection) (position : ℤ) where
  abbrev lowered : Bool
  lowered = x.chosen && stricter d s x.effective

  sets_count : x.left ≡ 0 → delay_count d x.left ≡ number_of d 27
  sets_count e = rw e

  falling : 0 < x.left → delay_count d x.left ≡ x.left - 1
  falling h = below x.left h
    where
      below : (n : ℕ) → 0 < n → delay_count d n ≡ n - 1
      below zero h = absurd (omega arith)
      below (suc n) h = omega arith

  -- s becomes effective
  bound : (lowered ≡ true → delay_count d x.left ≡ 0) → Chosen d x s position (bound_of x s position)
  bound h =
      record {
        chosen = refl;
        first = λ e. (refl, refl);
        no_stricter = λ e. (refl, refl);
        sets = sets_count;
        falls = falling;
        waits = λ p q l. absurd (omega (arith, h (rw p q)));
        binds = λ e. (refl, refl);
        either = inr refl;
        ended = λ e. refl;
        going = λ l. absurd (omega arith);
        becomes = λ p q. rw (p, q);
        kept = λ p. rw (p, and_false (is_sbh s));
        untouched = λ p. rw p;
      }

  -- the count goes on
  waiting : lowered ≡ true → (n : ℕ) → delay_count d x.left ≡ suc n → Chosen d x s position (waited_of x s position (suc n))
  waiting h n e =
      record {
        chosen = refl;
        first = λ p. absurd (true≢false (sym h ∙ rw p));
        no_stricter = λ p. absurd (true≢false (sym h ∙ rw (p, and_false x.chosen)));
        sets = sets_count;
        falls = falling;
        waits = λ p q l. (refl, sym e);
        binds = λ z. absurd (omega arith);
        either = inl refl;
        ended = λ z. absurd (omega arith);
        going = λ l. ((both x.chosen (stricter d s x.effective) h).0, (refl, sym e));
        becomes = λ p q. absurd (true≢false (sym p ∙ q));
        kept = λ p. refl;
        untouched = λ p. refl;
      }

  pub chosen_next : Chosen d x s position (choice_next d x s position)
  unfolding choice_next
  chosen_next = go lowered refl (delay_count d x.left) refl
    where
      go : (t : Bool) → lowered ≡ t → (n : ℕ) → delay_count d x.left ≡ n → Chosen d x s position (cond t (waited_of x s position n) (bound_of x s position))
      go false h n e = bound (λ t. absurd (true≢false (sym t ∙ h)))
      go true h zero e = bound (λ t. e)
      go true h (suc n) e = waiting h n e
