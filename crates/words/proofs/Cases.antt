-- An answer that goes by one kind of word. Assumes nothing.
use mathlib.Core.Path.{◌≡◌, refl, sym, ap, ◌∙◌}
use mathlib.Core.Bool.{Bool, true, false, cond}
use mathlib.Core.List.{List}
use Prim.Native.Nat.{ℕ, ◌<◌}
use lib.ListN.{length, get_or}
use lib.Dec.{T, ltb}
use borrow.Author.Tests.{ltb-true}
use lib.IntN.{ℤ}
use Rattle.words.specs.declared.Form.{Form}
use Rattle.words.specs.declared.Word.{Word}
use Rattle.words.specs.declared.Word.TheVariants.{Head, Datum, Piece, Position, Lower, Upper, End, Remark, Other}
use Rattle.words.specs.Cases.{if_head, if_datum, if_piece, if_position, if_lower, if_upper, if_end, if_remark}
use Rattle.words.specs.Words.{word_of, word_at}

-- ---- the two cases: a word of the kind, which `made` makes, gives what it holds; any other, which `is` tells apart, gives `other`

pub data Case {A B : Type 0} (is : Word → Bool) (made : B → Word) (x : Word) (held : B → A) (other : A) : A → Type 0 where
  met : (b : B) → x ≡ made b → Case is made x held other (held b)
  missed : is x ≡ false → Case is made x held other other

pub case_head : {A : Type 0} (x : Word) (held : ℕ → A) (other : A) → Case (λ y. if_head y (λ b. true) false) Head x held other (if_head x held other)
case_head (Head n) held other = met n refl
case_head (Datum k f) held other = missed refl
case_head (Piece b) held other = missed refl
case_head (Position z) held other = missed refl
case_head (Lower b) held other = missed refl
case_head (Upper b) held other = missed refl
case_head (End a) held other = missed refl
case_head Remark held other = missed refl
case_head Other held other = missed refl

pub case_datum : {A : Type 0} (x : Word) (held : ℕ → Form → A) (other : A) → Case {B = ℕ × Form} (λ y. if_datum y (λ k f. true) false) (λ b. Datum b.0 b.1) x (λ b. held b.0 b.1) other (if_datum x held other)
case_datum (Head n) held other = missed refl
case_datum (Datum k f) held other = met (k, f) refl
case_datum (Piece b) held other = missed refl
case_datum (Position z) held other = missed refl
case_datum (Lower b) held other = missed refl
case_datum (Upper b) held other = missed refl
case_datum (End a) held other = missed refl
case_datum Remark held other = missed refl
case_datum Other held other = missed refl

pub case_piece : {A : Type 0} (x : Word) (held : ℕ → A) (other : A) → Case (λ y. if_piece y (λ b. true) false) Piece x held other (if_piece x held other)
case_piece (Head n) held other = missed refl
case_piece (Datum k f) held other = missed refl
case_piece (Piece b) held other = met b refl
case_piece (Position z) held other = missed refl
case_piece (Lower b) held other = missed refl
case_piece (Upper b) held other = missed refl
case_piece (End a) held other = missed refl
case_piece Remark held other = missed refl
case_piece Other held other = missed refl

pub case_position : {A : Type 0} (x : Word) (held : ℤ → A) (other : A) → Case (λ y. if_position y (λ b. true) false) Position x held other (if_position x held other)
case_position (Head n) held other = missed refl
case_position (Datum k f) held other = missed refl
case_position (Piece b) held other = missed refl
case_position (Position z) held other = met z refl
case_position (Lower b) held other = missed refl
case_position (Upper b) held other = missed refl
case_position (End a) held other = missed refl
case_position Remark held other = missed refl
case_position Other held other = missed refl

pub case_lower : {A : Type 0} (x : Word) (held : ℕ → A) (other : A) → Case (λ y. if_lower y (λ b. true) false) Lower x held other (if_lower x held other)
case_lower (Head n) held other = missed refl
case_lower (Datum k f) held other = missed refl
case_lower (Piece b) held other = missed refl
case_lower (Position z) held other = missed refl
case_lower (Lower b) held other = met b refl
case_lower (Upper b) held other = missed refl
case_lower (End a) held other = missed refl
case_lower Remark held other = missed refl
case_lower Other held other = missed refl

pub case_upper : {A : Type 0} (x : Word) (held : ℕ → A) (other : A) → Case (λ y. if_upper y (λ b. true) false) Upper x held other (if_upper x held other)
case_upper (Head n) held other = missed refl
case_upper (Datum k f) held other = missed refl
case_upper (Piece b) held other = missed refl
case_upper (Position z) held other = missed refl
case_upper (Lower b) held other = missed refl
case_upper (Upper b) held other = met b refl
case_upper (End a) held other = missed refl
case_upper Remark held other = missed refl
case_upper Other held other = missed refl

pub case_end : {A : Type 0} (x : Word) (held : Bool → A) (other : A) → Case (λ y. if_end y (λ b. true) false) End x held other (if_end x held other)
case_end (Head n) held other = missed refl
case_end (Datum k f) held other = missed refl
case_end (Piece b) held other = missed refl
case_end (Position z) held other = missed refl
case_end (Lower b) held other = missed refl
case_end (Upper b) held other = missed refl
case_end (End a) held other = met a refl
case_end Remark held other = missed refl
case_end Other held other = missed refl

pub case_remark : {A : Type 0} (x : Word) (held : A) (other : A) → Case {B = Unit {0}} (λ y. if_remark y true false) (λ b. Remark) x (λ b. held) other (if_remark x held other)
case_remark (Head n) held other = missed refl
case_remark (Datum k f) held other = missed refl
case_remark (Piece b) held other = missed refl
case_remark (Position z) held other = missed refl
case_remark (Lower b) held other = missed refl
case_remark (Upper b) held other = missed refl
case_remark (End a) held other = missed refl
case_remark Remark held other = met tt refl
case_remark Other held other = missed refl

-- ---- what follows for every kind

-- where the answer is not `other`, the word is of the kind, and what it holds gave the answer
pub from_held : {A B : Type 0} {is : Word → Bool} {made : B → Word} {x : Word} {held : B → A} {other a r : A} → Case is made x held other a → a ≡ r → (other ≡ r → ⊥) →
    (b : B) × (x ≡ made b) × (held b ≡ r)
from_held (met b e) h apart = (b, e, h)
from_held (missed q) h apart = absurd (apart h)

-- a word that a `let .. else` leaves out
pub left_out : {A B : Type 0} {is : Word → Bool} {made : B → Word} {x : Word} {held : B → A} {other r : A} → Case is made x held other r →
    ((b : B) → x ≡ made b → ⊥) → other ≡ r
left_out (met b e) none = absurd (none b e)
left_out (missed q) none = refl

-- a word that holds nothing that passes the test
pub wanting : {A B : Type 0} {is : Word → Bool} {made : B → Word} {x : Word} {other r : A} (test : B → Bool) (held : B → A) → Case is made x (λ b. cond (test b) (held b) other) other r →
    (fit : Word → Bool) → ((b : B) → fit (made b) ≡ test b) → fit x ≡ false → r ≡ other
wanting {other = other} test held (met b e) fit same q = ap (λ (t : Bool). cond t (held b) other) (sym (same b) ∙ sym (ap fit e) ∙ q)
wanting test held (missed m) fit same q = refl

-- a word that holds something that does
pub fitting : {B : Type 0} {is : Word → Bool} {made : B → Word} {x : Word} {test : B → Bool} {r : Bool} → Case is made x test false r → T r → (b : B) × (x ≡ made b) × T (test b)
fitting (met b e) t = (b, e, t)
fitting (missed q) t = absurd t

-- ---- kind by kind

pub no_head : {A : Type 0} (x : Word) → ((n : ℕ) → x ≡ Head n → ⊥) → (held : ℕ → A) (other : A) → other ≡ if_head x held other
no_head x h held other = left_out (case_head x held other) h

pub is_head_lem : {A : Type 0} (x : Word) (held : ℕ → A) (other r : A) → if_head x held other ≡ r → (other ≡ r → ⊥) → (n : ℕ) × (x ≡ Head n) × (held n ≡ r)
is_head_lem x held other r e apart = from_held (case_head x held other) e apart

pub no_datum : {A : Type 0} (x : Word) → ((n : ℕ) (form : Form) → x ≡ Datum n form → ⊥) → (held : ℕ → Form → A) (other : A) → other ≡ if_datum x held other
no_datum x h held other = left_out (case_datum x held other) (λ b. h b.0 b.1)

pub is_datum : {A : Type 0} (x : Word) (held : ℕ → Form → A) (other r : A) → if_datum x held other ≡ r → (other ≡ r → ⊥) → (n : ℕ) × (form : Form) × (x ≡ Datum n form) × (held n form ≡ r)
is_datum x held other r e apart = let h = from_held (case_datum x held other) e apart in (h.0.0, h.0.1, h.1, h.2)

pub no_piece : {A : Type 0} (x : Word) → ((b : ℕ) → x ≡ Piece b → ⊥) → (held : ℕ → A) (other : A) → other ≡ if_piece x held other
no_piece x h held other = left_out (case_piece x held other) h

pub is_piece : {A : Type 0} (x : Word) (held : ℕ → A) (other r : A) → if_piece x held other ≡ r → (other ≡ r → ⊥) → (b : ℕ) × (x ≡ Piece b) × (held b ≡ r)
is_piece x held other r e apart = from_held (case_piece x held other) e apart

pub no_position : {A : Type 0} (x : Word) → ((z : ℤ) → x ≡ Position z → ⊥) → (held : ℤ → A) (other : A) → other ≡ if_position x held other
no_position x h held other = left_out (case_position x held other) h

pub is_position : {A : Type 0} (x : Word) (held : ℤ → A) (other r : A) → if_position x held other ≡ r → (other ≡ r → ⊥) → (z : ℤ) × (x ≡ Position z) × (held z ≡ r)
is_position x held other r e apart = from_held (case_position x held other) e apart

pub no_lower : {A : Type 0} (x : Word) → ((b : ℕ) → x ≡ Lower b → ⊥) → (held : ℕ → A) (other : A) → other ≡ if_lower x held other
no_lower x h held other = left_out (case_lower x held other) h

pub is_lower : {A : Type 0} (x : Word) (held : ℕ → A) (other r : A) → if_lower x held other ≡ r → (other ≡ r → ⊥) → (b : ℕ) × (x ≡ Lower b) × (held b ≡ r)
is_lower x held other r e apart = from_held (case_lower x held other) e apart

pub no_upper : {A : Type 0} (x : Word) → ((b : ℕ) → x ≡ Upper b → ⊥) → (held : ℕ → A) (other : A) → other ≡ if_upper x held other
no_upper x h held other = left_out (case_upper x held other) h

pub is_upper : {A : Type 0} (x : Word) (held : ℕ → A) (other r : A) → if_upper x held other ≡ r → (other ≡ r → ⊥) → (b : ℕ) × (x ≡ Upper b) × (held b ≡ r)
is_upper x held other r e apart = from_held (case_upper x held other) e apart

pub no_end : {A : Type 0} (x : Word) → ((a : Bool) → x ≡ End a → ⊥) → (held : Bool → A) (other : A) → other ≡ if_end x held other
no_end x h held other = left_out (case_end x held other) h

pub is_end : {A : Type 0} (x : Word) (held : Bool → A) (other r : A) → if_end x held other ≡ r → (other ≡ r → ⊥) → (a : Bool) × (x ≡ End a) × (held a ≡ r)
is_end x held other r e apart = from_held (case_end x held other) e apart

pub no_remark : {A : Type 0} (x : Word) → (x ≡ Remark → ⊥) → (held : A) (other : A) → other ≡ if_remark x held other
no_remark x h held other = left_out (case_remark x held other) (λ _. h)

pub is_remark : {A : Type 0} (x : Word) (held : A) (other r : A) → if_remark x held other ≡ r → (other ≡ r → ⊥) → (x ≡ Remark) × (held ≡ r)
is_remark x held other r e apart = let h = from_held (case_remark x held other) e apart in (h.1, h.2)

-- a word of the format stands within the words
pub there : (s : List ℕ) (at : ℕ) → (word_at s at ≡ Other → ⊥) → at < length s
unfolding word_at
there s at = go (ltb at (length s)) refl
  where
    go : (t : Bool) → ltb at (length s) ≡ t → (cond t (word_of (get_or s at 0)) Other ≡ Other → ⊥) → at < length s
    go true e h = ltb-true at (length s) e
    go false e h = absurd (h refl)
