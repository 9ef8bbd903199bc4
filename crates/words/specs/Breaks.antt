-- Where a run of words breaks off, with nothing said of how it is read: the refusal table's "word missing, of wrong kind, number or bits".
use Rattle.std.specs.Prelude.{ℕ, suc, ◌≡◌, Bool, true, false, List, ◌∷◌, T, eqb}
use Rattle.words.specs.declared.Word.{Word}
use Rattle.words.specs.Cases.{if_head, if_datum, if_piece, if_position, if_lower, if_upper, if_end, if_remark}
use Rattle.words.specs.IsWord.{IsWord}

-- what a word must be: its kind, of a head one of the values allowed, and of a datum's word the number
pub data Sort : Type 0 where
  a_head : (ℕ → Bool) → Sort
  a_datum : ℕ → Sort
  a_piece : Sort
  a_position : Sort
  a_lower : Sort
  an_upper : Sort
  an_end : Sort
  a_remark : Sort

abbrev pub fits : Sort → Word → Bool
fits (a_head allowed) x = if_head x allowed false
fits (a_datum k) x = if_datum x (λ n form. eqb n k) false
fits a_piece x = if_piece x (λ b. true) false
fits a_position x = if_position x (λ p. true) false
fits a_lower x = if_lower x (λ b. true) false
fits an_upper x = if_upper x (λ b. true) false
fits an_end x = if_end x (λ ack. true) false
fits a_remark x = if_remark x true false

-- w is written as a word of the sort
abbrev pub IsA : Sort → ℕ → Type 0
IsA k w = (x : Word) × IsWord w x × T (fits k x)

-- "missing or wrong": no word of the sort stands first
abbrev pub Lacks : Sort → List ℕ → Type 0
Lacks k ws = (w : ℕ) (rest : List ℕ) → ws ≡ w ∷ rest → IsA k w → ⊥

-- the first m words are of the sorts, in order, and the next is missing or wrong
pub data Breaks : List Sort → List ℕ → ℕ → Type 0 where
  here : {k : Sort} {ks : List Sort} {ws : List ℕ} → Lacks k ws → Breaks (k ∷ ks) ws 0
  later : {k : Sort} {ks : List Sort} {w m : ℕ} {ws : List ℕ} → IsA k w → Breaks ks ws m → Breaks (k ∷ ks) (w ∷ ws) (suc m)
