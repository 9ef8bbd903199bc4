-- Whether a word of a sort stands at a place: what the words say against what is read there. Assumes nothing.
use mathlib.Core.Path.{◌≡◌, refl, sym, ap, ◌∙◌, subst}
use mathlib.Core.Bool.{Bool, true, false, cond}
use mathlib.Core.List.{List, ◌∷◌}
use Prim.Native.Nat.{ℕ, ◌+◌, ◌<◌}
use lib.ListN.{length, get_or, drop}
use lib.Dec.{T, eqb, eqb→eq}
use Rattle.words.specs.declared.Form.{Form}
use Rattle.words.specs.declared.Word.{Word}
use Rattle.words.specs.declared.Word.TheVariants.{Head, Datum, Piece, Other}
use Rattle.words.specs.Words.{word_at}
use Rattle.words.specs.Cases.{if_head, if_datum, if_piece}
use Rattle.words.specs.Breaks.{Sort, a_head, a_datum, a_piece, a_position, a_lower, an_upper, an_end, a_remark, fits, IsA, Lacks}
use Rattle.words.proofs.IsWord.{read_at}
use Rattle.words.proofs.Cases.{case_head, case_datum, case_piece, wanting, fitting, there}
use Rattle.words.proofs.Front.{front_reads, front_is}

-- no sort fits a word that no list and no log can hold
never_other : (k : Sort) → T (fits k Other) → ⊥
never_other (a_head allowed) t = absurd t
never_other (a_datum n) t = absurd t
never_other a_piece t = absurd t
never_other a_position t = absurd t
never_other a_lower t = absurd t
never_other an_upper t = absurd t
never_other an_end t = absurd t
never_other a_remark t = absurd t

module _ (k : Sort) (s : List ℕ) (at : ℕ) where
  no_other : T (fits k (word_at s at)) → word_at s at ≡ Other → ⊥
  no_other t e = never_other k (subst (λ (x : Word). T (fits k x)) e t)

  -- a word that fits is there, and is written so
  pub stands : T (fits k (word_at s at)) → (at < length s) × IsA k (get_or s at 0) × (drop at s ≡ get_or s at 0 ∷ drop (at + 1) s)
  stands t =
      let inside = there s at (no_other t) in
      (inside, (word_at s at, read_at s at refl (no_other t), t), front_is s at inside)

  pub stood : (w : ℕ) (rest : List ℕ) → drop at s ≡ w ∷ rest → IsA k w → T (fits k (word_at s at))
  stood w rest e a = subst (λ (x : Word). T (fits k x)) (sym (front_reads s at w rest e a.1)) a.2

  pub lacks : fits k (word_at s at) ≡ false → Lacks k (drop at s)
  lacks q w rest e a = subst T q (stood w rest e a)

  pub lacked : Lacks k (drop at s) → fits k (word_at s at) ≡ false
  lacked none = go (fits k (word_at s at)) refl
    where
      go : (b : Bool) → fits k (word_at s at) ≡ b → fits k (word_at s at) ≡ false
      go true q = let t = stands (subst T (sym q) tt) in absurd (none (get_or s at 0) (drop (at + 1) s) t.2 t.1)
      go false q = q

-- ---- a word by whether it fits: what it holds, or what stands for any other

pub held_head : (allowed : ℕ → Bool) (x : Word) → T (fits (a_head allowed) x) → (n : ℕ) × (x ≡ Head n) × T (allowed n)
held_head allowed x t = fitting (case_head x allowed false) t

pub other_head : {A : Type 0} (allowed : ℕ → Bool) (x : Word) (held : ℕ → A) (other : A) → fits (a_head allowed) x ≡ false → if_head x (λ n. cond (allowed n) (held n) other) other ≡ other
other_head allowed x held other = wanting allowed held (case_head x _ other) (fits (a_head allowed)) (λ n. refl)

pub held_piece : (x : Word) → T (fits a_piece x) → (b : ℕ) × (x ≡ Piece b)
held_piece x t = let h = fitting (case_piece x (λ b. true) false) t in (h.0, h.1)

pub other_piece : {A : Type 0} (x : Word) (held : ℕ → A) (other : A) → fits a_piece x ≡ false → if_piece x held other ≡ other
other_piece x held other = wanting (λ b. true) held (case_piece x held other) (fits a_piece) (λ b. refl)

pub held_datum : (n : ℕ) (x : Word) → T (fits (a_datum n) x) → (f : Form) × (x ≡ Datum n f)
held_datum n x t =
    let h = fitting (case_datum x (λ k f. eqb k n) false) t in
    (h.0.1, h.1 ∙ ap (λ (i : ℕ). Datum i h.0.1) (eqb→eq h.0.0 n h.2))

pub other_datum : {A : Type 0} (n : ℕ) (x : Word) (held : Form → A) (other : A) → fits (a_datum n) x ≡ false → if_datum x (λ k f. cond (eqb k n) (held f) other) other ≡ other
other_datum n x held other = wanting (λ (b : ℕ × Form). eqb b.0 n) (λ b. held b.1) (case_datum x _ other) (fits (a_datum n)) (λ b. refl)
