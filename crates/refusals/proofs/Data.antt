-- One datum's fault: what is refused is faulty, and what is faulty is refused, by its row of the table and its place. Assumes nothing.
use mathlib.Core.Path.{◌≡◌, refl, sym, ap, ◌∙◌, subst}
use mathlib.Core.List.{List, ◌∷◌}
use mathlib.Core.Bool.{Bool, true, false, cond}
use Prim.Native.Nat.{ℕ, zero, suc, ◌+◌, ◌*◌}
use native.Mathlib.Omega.{arith}
use lib.ListN.{length, get_or, drop}
use lib.IntN.{ℤ}
use lib.Dec.{T, eqb_refl}
use lib.Ieee.{Float, binary32, binary64, of_bits}
use Rattle.std.specs.Prelude.{Option, Some, None, Result, Ok, Err}
use Rattle.laws.proofs.Never.{never}
use Rattle.laws.proofs.Bools.{is_false}
use Rattle.refusal.specs.declared.Refusal.{Refusal}
use Rattle.refusal.specs.declared.Refusal.TheVariants.{WrongWord, OpenDatum, NoWholeNumber, OutOfRange}
use Rattle.words.specs.declared.Form as F
use Rattle.words.specs.declared.Word.{Word}
use Rattle.words.specs.declared.Word.TheVariants as W
use Rattle.words.specs.Words.{word_at}
use Rattle.words.specs.Cases.{if_piece}
use Rattle.words.specs.Breaks.{a_piece, a_datum, fits, Lacks, Breaks, here, later}
use Rattle.words.proofs.Breaks.{stands, stood, lacks, lacked, held_piece, other_piece, held_datum, other_datum}
use Rattle.words.proofs.Front.{behind, front_reads}
use Rattle.whole.specs.Whole.{whole_of}
use Rattle.whole.specs.Stands.{StandsFor}
use Rattle.whole.proofs.Stands as whole-proofs
use Rattle.ranges.specs.Table.{allowed}
use Rattle.datum.specs.declared.Datum as D
use Rattle.datum.specs.Datum.{pieces_at, form_pieces, in_form, on_pieces, form_at, datum_at, of_whole, units_of, of_read, of_units, value_at}
use Rattle.datum.proofs.Forms.{form_is, of_form, value_bad, by_units}
use Rattle.datum.proofs.Written.{Formed, datum_word_lem, form_reads, form_written, written_datum, datum_written}
use Rattle.refusals.specs.DatumFault.{pieces, DatumFault, no_datum, no_piece, is_open, no_single, no_double, beyond}

-- ---- pieces that break off

pieces_broken : (s : List ℕ) (at n bits place : ℕ) → pieces_at s at n bits ≡ Err place → (m : ℕ) × (place ≡ at + m) × Breaks (pieces n) (drop at s) m
unfolding pieces_at
pieces_broken s at zero bits place e = never (cc)
pieces_broken s at (suc n) bits place e = go (fits a_piece (word_at s at)) refl (λ b. pieces_broken s (at + 1) n (bits * 65536 + b) place)
  where
    go : (t : Bool) → fits a_piece (word_at s at) ≡ t → ((b : ℕ) → pieces_at s (at + 1) n (bits * 65536 + b) ≡ Err place → (m : ℕ) × (place ≡ at + 1 + m) × Breaks (pieces n) (drop (at + 1) s) m) →
        (m : ℕ) × (place ≡ at + m) × Breaks (pieces (suc n)) (drop at s) m
    go true q again =
        let t : T (fits a_piece (word_at s at)) = subst T (sym q) tt in
        let x = stands a_piece s at t in
        let h = held_piece (word_at s at) t in
        let r = again h.0 (sym (ap (λ (y : Word). if_piece y (λ b. pieces_at s (at + 1) n (bits * 65536 + b)) (Err at)) h.1) ∙ e) in
        (suc r.0, omega (arith, r.1), subst (λ (ws : List ℕ). Breaks (pieces (suc n)) ws (suc r.0)) (sym x.2) (later x.1 r.2))
    go false q again =
        let bad : ◌≡◌ {A = Result ℕ ℕ} (Err at) (Err place) = sym (other_piece (word_at s at) (λ b. pieces_at s (at + 1) n (bits * 65536 + b)) (Err at) q) ∙ e in
        let same : at ≡ place = cc in
        (0, omega (arith, same), here (lacks a_piece s at q))

broken_pieces : (n : ℕ) {m : ℕ} {ws : List ℕ} → Breaks (pieces n) ws m → (s : List ℕ) (at : ℕ) → drop at s ≡ ws → (bits : ℕ) → pieces_at s at n bits ≡ Err (at + m)
unfolding pieces_at
broken_pieces zero b s at e bits = elim b [ ]
broken_pieces (suc n) (here none) s at e bits =
    let none' : Lacks a_piece (drop at s) = subst (Lacks a_piece) (sym e) none in
    other_piece (word_at s at) (λ b. pieces_at s (at + 1) n (bits * 65536 + b)) (Err at) (lacked a_piece s at none')
    ∙ ap Err {x = at} {y = at + 0} (omega arith)
broken_pieces (suc n) (later {w = w} {m = m} {ws = ws} a b) s at e bits =
    let h = held_piece (word_at s at) (stood a_piece s at w ws e a) in
    ap (λ (y : Word). if_piece y (λ b. pieces_at s (at + 1) n (bits * 65536 + b)) (Err at)) h.1
    ∙ broken_pieces n b s (at + 1) (behind s at w ws e) (bits * 65536 + h.0)
    ∙ ap Err {x = at + 1 + m} {y = at + suc m} (omega arith)

-- ---- a form whose pieces break off

bad_pieces : (f : F.Form) (s : List ℕ) (at : ℕ) {place : ℕ} → form_at f s at ≡ Err place → pieces_at s at (form_pieces f) 0 ≡ Err place
unfolding form_at
bad_pieces f s at {place} = go (pieces_at s at (form_pieces f) 0)
  where
    go : (x : Result ℕ ℕ) → on_pieces x (in_form f) (at + form_pieces f) ≡ Err place → x ≡ Err place
    go (Ok b) e = never (cc)
    go (Err p) e = cc

-- ---- a float that stands for no whole number

none_whole : (x : Float) → ((z : ℤ) → StandsFor x z → ⊥) → whole_of x ≡ None
none_whole x none = go (whole_of x) refl
  where
    go : (v : Option ℤ) → whole_of x ≡ v → whole_of x ≡ None
    go (Some z) q = absurd (none z ((whole-proofs.stands x z).0 q))
    go None q = q

not_whole : (x : Float) (at : ℕ) {why : Refusal} → of_whole at (whole_of x) ≡ Err why → (why ≡ NoWholeNumber at) × ((z : ℤ) → StandsFor x z → ⊥)
not_whole x at {why} = go (whole_of x) refl
  where
    go : (v : Option ℤ) → whole_of x ≡ v → of_whole at v ≡ Err why → (why ≡ NoWholeNumber at) × ((z : ℤ) → StandsFor x z → ⊥)
    go (Some y) q e = never (cc)
    go None q e = (cc, λ z h. let is : ◌≡◌ {A = Option ℤ} (Some z) None = sym ((whole-proofs.stands x z).1 h) ∙ q in never (cc))

-- ---- what is refused is faulty

module _ (head : ℕ) (s : List ℕ) (k at : ℕ) where
  -- datum k of a list with this head, whose words begin at `at`, has the fault
  abbrev pub Faulty : Refusal → Type 0
  Faulty why = (cause : ℕ → Refusal) × (m : ℕ) × (why ≡ cause (at + m)) × DatumFault head k (drop at s) cause m

  -- a fault with the place of the datum's own word
  at_its_word : {ws : List ℕ} {why : Refusal} (cause : ℕ → Refusal) → why ≡ cause at → drop at s ≡ ws → DatumFault head k ws cause 0 → Faulty why
  at_its_word cause e h x = let same : at ≡ at + 0 = omega arith in (cause, 0, e ∙ ap cause same, subst (λ (l : List ℕ). DatumFault head k l cause 0) (sym h) x)

  -- the word of datum k stands here, or it does not
  here_or_not : {A : Type 0} → ((f : F.Form) → word_at s at ≡ W.Datum k f → A) → (fits (a_datum k) (word_at s at) ≡ false → A) → A
  here_or_not {A} found lost = go (fits (a_datum k) (word_at s at)) refl
    where
      go : (t : Bool) → fits (a_datum k) (word_at s at) ≡ t → A
      go true q = let h = held_datum k (word_at s at) (subst T (sym q) tt) in found h.0 h.1
      go false q = lost q

  no_word : fits (a_datum k) (word_at s at) ≡ false → datum_at s k at ≡ Err at
  unfolding datum_at
  no_word q = other_datum k (word_at s at) (λ f. form_at f s (at + 1)) (Err at) q

  front : {f : F.Form} → word_at s at ≡ W.Datum k f → drop at s ≡ get_or s at 0 ∷ drop (at + 1) s
  front word = (stands (a_datum k) s at (subst (λ (x : Word). T (fits (a_datum k) x)) (sym word) (eqb_refl k))).2

  bad_fault : {place : ℕ} → datum_at s k at ≡ Err place → Faulty (WrongWord place)
  bad_fault {place} e = here_or_not found lost
    where
      found : (f : F.Form) → word_at s at ≡ W.Datum k f → Faulty (WrongWord place)
      found f word =
          let r = pieces_broken s (at + 1) (form_pieces f) 0 place (bad_pieces f s (at + 1) (of_form s k at word refl ∙ e)) in
          let far : place ≡ at + suc r.0 = omega (arith, r.1) in
          (WrongWord, suc r.0, ap WrongWord far, subst (λ (ws : List ℕ). DatumFault head k ws WrongWord (suc r.0)) (sym (front word)) (no_piece (datum_word_lem s at word) r.2))

      lost : fits (a_datum k) (word_at s at) ≡ false → Faulty (WrongWord place)
      lost q =
          let bad : ◌≡◌ {A = Result (D.Datum × ℕ) ℕ} (Err at) (Err place) = sym (no_word q) ∙ e in
          at_its_word WrongWord (cc) refl (no_datum (lacks (a_datum k) s at q))

  units_fault : {d : D.Datum} {next : ℕ} {why : Refusal} → datum_at s k at ≡ Ok (d, next) → units_of d at ≡ Err why → Faulty why
  unfolding units_of
  units_fault {d} {next} {why} e u =
      here_or_not (λ f word. by_form f word (form_written s k at f word (of_form s k at word refl ∙ e))) (λ q. let bad : ◌≡◌ {A = Result (D.Datum × ℕ) ℕ} (Err at) (Ok (d, next)) = sym (no_word q) ∙ e in never (cc))
    where
      units : {y : D.Datum} → d ≡ y → units_of y at ≡ Err why
      units h = sym (ap (λ (y : D.Datum). units_of y at) h) ∙ u

      by_form : (f : F.Form) → word_at s at ≡ W.Datum k f → Formed s k at f d next → Faulty why
      by_form F.TheVariants.Whole word x = never (cc (units x.3))
      by_form F.TheVariants.Single word x =
          let n = not_whole (of_bits binary32 x.0) at (units x.3) in
          at_its_word NoWholeNumber n.0 x.4 (no_single (drop next s) (datum_word_lem s at word) x.2 n.1)
      by_form F.TheVariants.Double word x =
          let n = not_whole (of_bits binary64 x.0) at (units x.3) in
          at_its_word NoWholeNumber n.0 x.4 (no_double (drop next s) (datum_word_lem s at word) x.2 n.1)
      by_form F.TheVariants.Open word x =
          let is : ◌≡◌ {A = Result ℤ Refusal} (Err (OpenDatum at)) (Err why) = units x.3 in
          at_its_word OpenDatum (cc) (front word) (is_open (datum_word_lem s at word))

  pub value_fault : {why : Refusal} → value_at head s k at ≡ Err why → Faulty why
  unfolding value_at
  value_fault {why} = by_read (datum_at s k at) refl
    where
      by_range : (d : D.Datum) (next : ℕ) (z : ℤ) (t : Bool) → allowed head k z ≡ t → datum_at s k at ≡ Ok (d, next) → units_of d at ≡ Ok z →
          cond {A = Result (ℤ × ℕ) Refusal} t (Ok (z, next)) (Err (OutOfRange at)) ≡ Err why → Faulty why
      by_range d next z true q read u e = never (cc)
      by_range d next z false q read u e =
          let w = datum_written s k at d z next read u in
          at_its_word OutOfRange (cc) w.here (beyond (drop next s) w.written (λ t. subst T q t))

      by_unit : (d : D.Datum) (next : ℕ) (u : Result ℤ Refusal) → units_of d at ≡ u → datum_at s k at ≡ Ok (d, next) → of_units head k at next u ≡ Err why → Faulty why
      by_unit d next (Ok z) q read e = by_range d next z (allowed head k z) refl read q e
      by_unit d next (Err x) q read e = units_fault read (cc)

      by_read : (x : Result (D.Datum × ℕ) ℕ) → datum_at s k at ≡ x → of_read head k at x ≡ Err why → Faulty why
      by_read (Ok (d, next)) q e = by_unit d next (units_of d at) refl q e
      by_read (Err p) q e = let same : WrongWord p ≡ why = cc in subst Faulty same (bad_fault q)

-- ---- what is faulty is refused

-- the place of the datum's own word
own_place : (cause : ℕ → Refusal) (at : ℕ) → ◌≡◌ {A = Result (ℤ × ℕ) Refusal} (Err (cause at)) (Err (cause (at + 0)))
own_place cause at = let same : at ≡ at + 0 = omega arith in ap (λ (i : ℕ). Err (cause i)) same

open_form : (s : List ℕ) (at : ℕ) → form_at F.TheVariants.Open s at ≡ Ok (D.TheVariants.Open, at + 0)
unfolding form_at pieces_at
open_form s at = refl

pub fault_value : {head k m : ℕ} {cause : ℕ → Refusal} {ws : List ℕ} → DatumFault head k ws cause m → (s : List ℕ) (at : ℕ) → drop at s ≡ ws → value_at head s k at ≡ Err (cause (at + m))
unfolding units_of
fault_value {head} {k} (no_datum none) s at e =
    let q = lacked (a_datum k) s at (subst (Lacks (a_datum k)) (sym e) none) in
    sym (value_bad head s k at (no_word head s k at q)) ∙ own_place WrongWord at
fault_value {head} {k} (no_piece {w} {m} {f} {ws} h b) s at e =
    let bad = sym (form_is f s (at + 1) (broken_pieces (form_pieces f) b s (at + 1) (behind s at w ws e) 0)) in
    let far : at + 1 + m ≡ at + suc m = omega arith in
    sym (value_bad head s k at (sym (of_form s k at (front_reads s at w ws e h) refl) ∙ bad)) ∙ ap (λ (i : ℕ). Err (WrongWord i)) far
fault_value {head} {k} (is_open {w} {ws} h) s at e =
    sym (by_units head s k at (sym (of_form s k at (front_reads s at w ws e h) refl) ∙ open_form s (at + 1)) refl) ∙ own_place OpenDatum at
fault_value {head} {k} (no_single {w} {b} {ps} ws h p none) s at e =
    sym (by_units head s k at (form_reads s k at F.TheVariants.Single ws h p e) (ap (of_whole at) (none_whole (of_bits binary32 b) none))) ∙ own_place NoWholeNumber at
fault_value {head} {k} (no_double {w} {b} {ps} ws h p none) s at e =
    sym (by_units head s k at (form_reads s k at F.TheVariants.Double ws h p e) (ap (of_whole at) (none_whole (of_bits binary64 b) none))) ∙ own_place NoWholeNumber at
fault_value {head} {k} (beyond {z} {w} ws h out) s at e =
    let d = written_datum h s at ws e in
    sym (by_units head s k at d.1 d.2)
    ∙ ap (λ (t : Bool). cond {A = Result (ℤ × ℕ) Refusal} t (Ok (z, at + length w)) (Err (OutOfRange at))) (is_false (allowed head k z) out)
    ∙ own_place OutOfRange at
