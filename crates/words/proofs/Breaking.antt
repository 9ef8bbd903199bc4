-- Words read one by one against the sorts that they must have: where the reading breaks off, by what was read. Assumes nothing.
use mathlib.Core.Path.{◌≡◌, refl, sym, ◌∙◌, subst}
use mathlib.Core.Logic.{◌↔◌}
use mathlib.Core.Bool.{Bool, false}
use mathlib.Core.List.{List, [], ◌∷◌}
use Prim.Native.Nat.{ℕ, suc, ◌+◌}
use native.Mathlib.Omega.{arith}
use lib.ListN.{get_or, drop}
use lib.IntN.{ℤ}
use lib.Dec.{T}
use Rattle.words.specs.declared.Word.{Word}
use Rattle.words.specs.Words.{word_at}
use Rattle.words.specs.Cases.{if_position, if_lower, if_upper, if_end, if_remark}
use Rattle.words.specs.Breaks.{Sort, a_position, a_lower, an_upper, an_end, a_remark, fits, Breaks, here, later}
use Rattle.words.proofs.Cases.{Case, met as was, missed as was-not, case_position, case_lower, case_upper, case_end, case_remark}
use Rattle.words.proofs.Front.{behind}
use Rattle.words.proofs.Breaks.{stands, lacks}

-- ---- an answer that goes by the sort of a word: what a word of the sort holds gives it, and any other word gives `other`

pub data Choice {A B : Type 0} (k : Sort) (x : Word) (held : B → A) (other : A) : A → Type 0 where
  met : (b : B) → T (fits k x) → Choice k x held other (held b)
  missed : fits k x ≡ false → Choice k x held other other

pub otherwise : {A B : Type 0} {k : Sort} {x : Word} {held : B → A} {other r : A} → Choice k x held other r → fits k x ≡ false → r ≡ other
otherwise (met b t) q = absurd (subst T q t)
otherwise (missed m) q = refl

pub onward : {A B C : Type 0} {k : Sort} {x : Word} {held : B → A} {other r : A} (f : A → C) →
    Choice k x held other r → Choice k x (λ b. f (held b)) (f other) (f r)
onward f (met b t) = met b t
onward f (missed q) = missed q

by_sort : {A B : Type 0} {k : Sort} {made : B → Word} {x : Word} {held : B → A} {other r : A} → Case (fits k) made x held other r → ((b : B) → T (fits k (made b))) → Choice k x held other r
by_sort {k} (was b e) fit = met b (subst (λ (y : Word). T (fits k y)) (sym e) (fit b))
by_sort (was-not q) fit = missed q

pub by_position : {A : Type 0} (x : Word) (held : ℤ → A) (other : A) → Choice a_position x held other (if_position x held other)
by_position x held other = by_sort (case_position x held other) (λ b. tt)

pub by_lower : {A : Type 0} (x : Word) (held : ℕ → A) (other : A) → Choice a_lower x held other (if_lower x held other)
by_lower x held other = by_sort (case_lower x held other) (λ b. tt)

pub by_upper : {A : Type 0} (x : Word) (held : ℕ → A) (other : A) → Choice an_upper x held other (if_upper x held other)
by_upper x held other = by_sort (case_upper x held other) (λ b. tt)

pub by_end : {A : Type 0} (x : Word) (held : Bool → A) (other : A) → Choice an_end x held other (if_end x held other)
by_end x held other = by_sort (case_end x held other) (λ b. tt)

pub by_remark : {A : Type 0} (x : Word) (held other : A) → Choice {B = Unit {0}} a_remark x (λ u. held) other (if_remark x held other)
by_remark x held other = by_sort (case_remark x held other) (λ b. tt)

-- ---- words from a place on

-- the words from `at` on break off at `place`
abbrev pub Broken : List Sort → List ℕ → ℕ → ℕ → Type 0
Broken ks s at place = (m : ℕ) × (place ≡ at + m) × Breaks ks (drop at s) m

pub never_broken : {ws : List ℕ} {m : ℕ} → Breaks [] ws m → ⊥
never_broken b = elim b [ ]

module _ (k : Sort) (ks : List Sort) (s : List ℕ) (at place : ℕ) where
  -- no word of the sort stands first
  pub broken_here : fits k (word_at s at) ≡ false → (at ≡ place) ↔ Broken (k ∷ ks) s at place
  broken_here q = (λ e. (0, omega arith, here (lacks k s at q)), λ x. only (drop at s) refl x.0 x.1 x.2)
    where
      only : (ws : List ℕ) → drop at s ≡ ws → (m : ℕ) → place ≡ at + m → Breaks (k ∷ ks) ws m → at ≡ place
      only ws e m p (here none) = omega arith
      only ws e m p (later {w} {ws = rest} a b) = absurd (lacks k s at q w rest e a)

  -- a word of the sort stands first
  pub broken_later : T (fits k (word_at s at)) → Broken ks s (at + 1) place ↔ Broken (k ∷ ks) s at place
  broken_later t =
      let first = stands k s at t in (
        λ x. (suc x.0, omega (arith, x.1), subst (λ (ws : List ℕ). Breaks (k ∷ ks) ws (suc x.0)) (sym first.2) (later first.1 x.2)),
        λ x. only (drop at s) refl x.0 x.1 x.2,
      )
    where
      only : (ws : List ℕ) → drop at s ≡ ws → (m : ℕ) → place ≡ at + m → Breaks (k ∷ ks) ws m → Broken ks s (at + 1) place
      only ws e m p (here none) = let first = stands k s at t in absurd (none (get_or s at 0) (drop (at + 1) s) (sym e ∙ first.2) first.1)
      only ws e m p (later {w} {m = n} {ws = rest} a b) = (n, omega arith, subst (λ (l : List ℕ). Breaks ks l n) (sym (behind s at w rest e)) b)
