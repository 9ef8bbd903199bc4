-- A datum by what was read of its words, its units by what it is, and its value by both. Assumes nothing.
use mathlib.Core.Path.{◌≡◌, sym, ap, ◌∙◌, subst}
use mathlib.Core.List.{List}
use mathlib.Core.Bool.{Bool, true, false, cond}
use Prim.Native.Nat.{ℕ, ◌+◌, ◌*◌, ◌^◌, ◌≤◌, ◌<◌}
use native.Mathlib.Omega.{arith}
use lib.ListN.{length}
use lib.IntN.{ℤ}
use lib.Dec.{eqb}
use borrow.Author.Tests.{eq-eqb, ne_eqb}
use Rattle.std.specs.Prelude.{Result, Ok, Err}
use Rattle.std.specs.Result.{MatchResult, IsErrAnd}
use Rattle.refusal.specs.declared.Refusal.{Refusal}
use Rattle.refusal.specs.declared.Refusal.TheVariants.{WrongWord, OutOfRange}
use Rattle.laws.proofs.Never.{never}
use Rattle.words.specs.declared.Form as F
use Rattle.words.specs.declared.Word.{Word}
use Rattle.words.specs.declared.Word.TheVariants as W
use Rattle.words.specs.Words.{word_at}
use Rattle.words.specs.Cases.{if_datum}
use Rattle.words.proofs.Cases.{no_datum, there}
use Rattle.ranges.specs.Table.{allowed}
use Rattle.datum.specs.declared.Datum as D
use Rattle.datum.specs.Datum.{pieces_at, form_pieces, in_form, on_pieces, form_at, datum_at, units_of, of_units, of_read, value_at, behind_of}
use Rattle.datum.proofs.Joined.{joined_small}

pub few_pieces : (f : F.Form) → form_pieces f ≤ 4
few_pieces F.TheVariants.Whole = omega arith
few_pieces F.TheVariants.Single = omega arith
few_pieces F.TheVariants.Double = omega arith
few_pieces F.TheVariants.Open = omega arith

-- what a form's pieces hold fits its bits
pub bits_fit : (f : F.Form) (s : List ℕ) (at : ℕ) {n b : ℕ} → n ≡ form_pieces f → pieces_at s at n 0 ≡ Ok b → b < 2 ^ (16 * form_pieces f)
bits_fit f s at {n} {b} e h = subst (λ (m : ℕ). b < 2 ^ (16 * m)) e (go (2 ^ (16 * n)) (joined_small s at n 0 b h))
  where
    go : (m : ℕ) → b < 1 * m → b < m
    go m l = omega arith

pub form_is : (f : F.Form) (s : List ℕ) (at : ℕ) {x : Result ℕ ℕ} → pieces_at s at (form_pieces f) 0 ≡ x → on_pieces x (in_form f) (at + form_pieces f) ≡ form_at f s at
unfolding form_at
form_is f s at e = sym (ap (λ (x : Result ℕ ℕ). on_pieces x (in_form f) (at + form_pieces f)) e)

pub by_pieces : (f : F.Form) (s : List ℕ) (at : ℕ) {n : ℕ} → n ≡ form_pieces f → {x : Result ℕ ℕ} → pieces_at s at n 0 ≡ x → on_pieces x (in_form f) (at + n) ≡ form_at f s at
by_pieces f s at e {x} p =
    ap (λ (i : ℕ). on_pieces x (in_form f) (at + i)) e ∙ form_is f s at (ap (λ (i : ℕ). pieces_at s at i 0) (sym e) ∙ p)

pub datum_there : (s : List ℕ) (at : ℕ) {n : ℕ} {form : F.Form} → word_at s at ≡ W.Datum n form → at < length s
datum_there s at h = there s at (λ e. never (cc))

-- ---- datum k

module _ (s : List ℕ) (k at : ℕ) where
  by_number : ℕ → F.Form → Result (D.Datum × ℕ) ℕ
  by_number n form = cond (eqb n k) (form_at form s (at + 1)) (Err at)

  pub no_datum_word : {x : Word} → x ≡ word_at s at → ((n : ℕ) (form : F.Form) → x ≡ W.Datum n form → ⊥) → Err at ≡ datum_at s k at
  unfolding datum_at by_number
  no_datum_word {x} e h = no_datum x h by_number (Err at) ∙ ap (λ (y : Word). if_datum y by_number (Err at)) e

  module _ {n : ℕ} {form : F.Form} (word : word_at s at ≡ W.Datum n form) where
    pub other_number : (n ≡ k → ⊥) → Err at ≡ datum_at s k at
    unfolding datum_at by_number
    other_number h = sym (ap (λ (y : Word). if_datum y by_number (Err at)) word ∙ simp (ne_eqb n k h))

    pub of_form : n ≡ k → form_at form s (at + 1) ≡ datum_at s k at
    unfolding datum_at by_number
    of_form h = sym (ap (λ (y : Word). if_datum y by_number (Err at)) word ∙ simp (eq-eqb n k h))

-- its form is f
pub formed : (s : List ℕ) (k at : ℕ) {n : ℕ} {form f : F.Form} → word_at s at ≡ W.Datum n form → n ≡ k → form ≡ f → form_at f s (at + 1) ≡ datum_at s k at
formed s k at word number is = ap (λ (g : F.Form). form_at g s (at + 1)) (sym is) ∙ of_form s k at word number

-- ---- the value of datum k

-- y is x, its place as the refusal that it is
module _ (x : Result (D.Datum × ℕ) ℕ) (y : Result (D.Datum × ℕ) Refusal) where
  abbrev pub Worded : Type 0
  Worded = MatchResult x (λ read. y ≡ Ok read) (λ place. IsErrAnd y (λ why. why ≡ WrongWord place))

pub read_is : (x : Result (D.Datum × ℕ) ℕ) (y : Result (D.Datum × ℕ) Refusal) → Worded x y → {r : D.Datum × ℕ} → y ≡ Ok r → x ≡ Ok r
read_is (Ok read) y h {r} e = let same : read ≡ r = cc in ap Ok same
read_is (Err place) (Ok read) h e = absurd h
read_is (Err place) (Err why) h e = never (cc)

pub bad_is : (head k at : ℕ) (x : Result (D.Datum × ℕ) ℕ) (y : Result (D.Datum × ℕ) Refusal) → Worded x y → {why : Refusal} → y ≡ Err why → Err why ≡ of_read head k at x
bad_is head k at (Ok read) y h e = never (cc)
bad_is head k at (Err place) (Ok read) h e = absurd h
bad_is head k at (Err place) (Err why) h e = let same : why ≡ WrongWord place = h in cc

module _ (head : ℕ) (s : List ℕ) (k at : ℕ) where
  pub value_bad : {place : ℕ} → datum_at s k at ≡ Err place → Err (WrongWord place) ≡ value_at head s k at
  unfolding value_at
  value_bad h = sym (ap (of_read head k at) h)

  module _ {d : D.Datum} {next : ℕ} (read : datum_at s k at ≡ Ok (d, next)) where
    pub by_units : {u : Result ℤ Refusal} → units_of d at ≡ u → of_units head k at next u ≡ value_at head s k at
    unfolding value_at
    by_units e = sym (ap (of_read head k at) read ∙ ap (of_units head k at next) e)

    -- y is z as the machine has it
    pub by_range : {z y : ℤ} → units_of d at ≡ Ok z → y ≡ z → {t : Bool} → allowed head k y ≡ t →
        cond {A = Result (ℤ × ℕ) Refusal} t (Ok (y, next)) (Err (OutOfRange at)) ≡ value_at head s k at
    by_range {z} e same r =
        (λ i. cond {A = Result (ℤ × ℕ) Refusal} (sym r i) (Ok (same i, next)) (Err (OutOfRange at)))
        ∙ ap (λ (v : ℤ). cond {A = Result (ℤ × ℕ) Refusal} (allowed head k v) (Ok (z, next)) (Err (OutOfRange at))) same
        ∙ by_units e

-- ---- the place behind a datum

module _ (s : List ℕ) (at : ℕ) where
  behind_by : ℕ → F.Form → ℕ
  behind_by n form = at + 1 + form_pieces form

  pub no_datum_behind : {x : Word} → x ≡ word_at s at → ((n : ℕ) (form : F.Form) → x ≡ W.Datum n form → ⊥) → at ≡ behind_of s at
  unfolding behind_of behind_by
  no_datum_behind {x} e h = no_datum x h behind_by at ∙ ap (λ (y : Word). if_datum y behind_by at) e

  pub datum_behind : {n : ℕ} {form : F.Form} → word_at s at ≡ W.Datum n form → at + 1 + form_pieces form ≡ behind_of s at
  unfolding behind_of behind_by
  datum_behind word = sym (ap (λ (y : Word). if_datum y behind_by at) word)

in_range_next : (t : Bool) (at next : ℕ) (y z : ℤ) {n : ℕ} → cond {A = Result (ℤ × ℕ) Refusal} t (Ok (y, next)) (Err (OutOfRange at)) ≡ Ok (z, n) → next ≡ n
in_range_next true at next y z {n} e = let both : ◌≡◌ {A = ℤ × ℕ} (y, next) (z, n) = cc in ap (λ (r : ℤ × ℕ). r.1) both
in_range_next false at next y z e = never (cc)

units_next : (head k at next : ℕ) (u : Result ℤ Refusal) {z : ℤ} {n : ℕ} → of_units head k at next u ≡ Ok (z, n) → next ≡ n
units_next head k at next (Ok y) {z} e = in_range_next (allowed head k y) at next y z e
units_next head k at next (Err why) e = never (cc)

pieces_next : (head k at : ℕ) (f : F.Form) (next : ℕ) (x : Result ℕ ℕ) {z : ℤ} {n : ℕ} → of_read head k at (on_pieces x (in_form f) next) ≡ Ok (z, n) → next ≡ n
pieces_next head k at f next (Ok b) e = units_next head k at next (units_of (in_form f b) at) e
pieces_next head k at f next (Err place) e = never (cc)

number_next : (head : ℕ) (s : List ℕ) (k at : ℕ) (f : F.Form) (t : Bool) {z : ℤ} {n : ℕ} → of_read head k at (cond t (form_at f s (at + 1)) (Err at)) ≡ Ok (z, n) → at + 1 + form_pieces f ≡ n
unfolding form_at
number_next head s k at f true e = pieces_next head k at f (at + 1 + form_pieces f) (pieces_at s (at + 1) (form_pieces f) 0) e
number_next head s k at f false e = never (cc)

-- a datum that is read ends where its form says
pub value_behind : (head : ℕ) (s : List ℕ) (k at : ℕ) {z : ℤ} {n : ℕ} → value_at head s k at ≡ Ok (z, n) → behind_of s at ≡ n
unfolding value_at datum_at behind_of
value_behind head s k at {z} {n} = go (word_at s at)
  where
    go : (w : Word) →
        of_read head k at (if_datum w (λ m form. cond (eqb m k) (form_at form s (at + 1)) (Err at)) (Err at)) ≡ Ok (z, n) →
        if_datum w (λ m form. at + 1 + form_pieces form) at ≡ n
    go (W.Head v) e = never (cc)
    go (W.Datum m form) e = number_next head s k at form (eqb m k) e
    go (W.Piece b) e = never (cc)
    go (W.Position p) e = never (cc)
    go (W.Lower b) e = never (cc)
    go (W.Upper b) e = never (cc)
    go (W.End a) e = never (cc)
    go W.Remark e = never (cc)
    go W.Other e = never (cc)
