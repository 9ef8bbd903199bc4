-- One datum: what is written is read, and what is read was written. Assumes nothing.
use mathlib.Core.Path.{◌≡◌, refl, sym, ap, ◌∙◌, subst}
use mathlib.Core.List.{List, [], ◌∷◌, ◌++◌}
use mathlib.Core.Bool.{Bool, true, false, cond}
use Prim.Native.Nat.{ℕ, zero, suc, ◌+◌, ◌*◌, ◌^◌, ◌<◌}
use native.Mathlib.Nat.{mul_assoc, add_assoc, add-mul, pow-succ'}
use native.Mathlib.Omega.{arith}
use lib.ListN.{length, get_or, drop}
use lib.IntN.{ℤ}
use lib.Dec.{T, eqb}
use lib.Ieee.{Float, binary32, binary64, of_bits}
use lib.Ieee.Bits.{is_true}
use borrow.Author.Tests.{eqb-true}
use Rattle.std.specs.Prelude.{Option, Some, None, Result, Ok, Err}
use Rattle.laws.proofs.Never.{never}
use Rattle.refusal.specs.declared.Refusal.{Refusal}
use Rattle.refusal.specs.declared.Refusal.TheVariants.{OutOfRange}
use Rattle.words.specs.declared.Form as F
use Rattle.words.specs.declared.Word.{Word}
use Rattle.words.specs.declared.Word.TheVariants as W
use Rattle.words.specs.Words.{word_at, twos}
use Rattle.words.specs.Cases.{if_piece}
use Rattle.words.specs.IsWord.{IsWord}
use Rattle.words.proofs.Front.{behind, front_reads, front_is}
use Rattle.words.proofs.IsWord.{read_at}
use Rattle.words.proofs.Cases.{there, is_datum}
use Rattle.whole.specs.Whole.{whole_of}
use Rattle.whole.specs.Stands.{StandsFor}
use Rattle.whole.proofs.Stands.{stands}
use Rattle.ranges.specs.Table.{allowed}
use Rattle.datum.specs.declared.Datum as D
use Rattle.datum.specs.Datum.{pieces_at, form_pieces, in_form, on_pieces, form_at, datum_at, of_whole, units_of, of_read, of_units, value_at}
use Rattle.datum.specs.Written.{InPieces, nothing, piece, Written, whole, single, double}
use Rattle.datum.proofs.Joined.{piece_there, first_piece}
use Rattle.datum.proofs.Forms.{form_is, of_form, by_units}

-- ---- pieces

pub in_length : {n b : ℕ} {ws : List ℕ} → InPieces n b ws → length ws ≡ n
in_length nothing = refl
in_length (piece h t) = ap suc (in_length t)

-- a piece p before n others that hold b, behind the bits before
shifted : (bits p n b : ℕ) → (bits * 65536 + p) * 65536 ^ n + b ≡ bits * 65536 ^ suc n + (p * 65536 ^ n + b)
shifted bits p n b =
    ap (λ (m : ℕ). m + b) (add-mul (bits * 65536) p (65536 ^ n))
    ∙ add_assoc (bits * 65536 * 65536 ^ n) (p * 65536 ^ n) b
    ∙ ap (λ (m : ℕ). m + (p * 65536 ^ n + b)) (mul_assoc bits 65536 (65536 ^ n) ∙ ap (λ (m : ℕ). bits * m) (sym (pow-succ' 65536 n)))

pub pieces_read : {n b : ℕ} {ws : List ℕ} → InPieces n b ws → (s : List ℕ) (at : ℕ) (rest : List ℕ) → drop at s ≡ ws ++ rest → (bits : ℕ) →
    pieces_at s at n bits ≡ Ok (bits * 65536 ^ n + b)
unfolding pieces_at
pieces_read nothing s at rest e bits = ap Ok {x = bits} {y = bits * 1 + 0} (omega arith)
pieces_read (piece {w} {p} {n} {b} {ws} h t) s at rest e bits =
    ap (λ (x : Word). if_piece x (λ q. pieces_at s (at + 1) n (bits * 65536 + q)) (Err at)) (front_reads s at w (ws ++ rest) e h)
    ∙ pieces_read t s (at + 1) rest (behind s at w (ws ++ rest) e) (bits * 65536 + p)
    ∙ ap Ok (shifted bits p n b)

pub pieces_written : (s : List ℕ) (at n bits b : ℕ) → pieces_at s at n bits ≡ Ok b →
    (low : ℕ) × (ws : List ℕ) × InPieces n low ws × (b ≡ bits * 65536 ^ n + low) × (drop at s ≡ ws ++ drop (at + n) s)
unfolding pieces_at
pieces_written s at zero bits b e =
    let q : bits ≡ b = cc in
    let z : at ≡ at + 0 = omega arith in
    (0, [], nothing, sym q ∙ one bits, ap (λ (i : ℕ). drop i s) z)
  where
    one : (m : ℕ) → m ≡ m * 1 + 0
    one m = omega arith
pieces_written s at (suc n) bits b e =
    let p = first_piece s at n bits b e in
    let r = pieces_written s (at + 1) n (bits * 65536 + p.0) b p.2 in
    let next : at + 1 + n ≡ at + suc n = omega arith in (
      p.0 * 65536 ^ n + r.0,
      get_or s at 0 ∷ r.1,
      piece (read_at s at p.1 (λ x. never (cc))) r.2,
      r.3 ∙ shifted bits p.0 n r.0,
      front_is s at (piece_there s at p.1) ∙ ap (λ (l : List ℕ). get_or s at 0 ∷ l) (r.4 ∙ ap (λ (i : ℕ). r.1 ++ drop i s) next),
    )

-- ---- a datum in one of the forms

pub datum_word_lem : (s : List ℕ) (at : ℕ) {k : ℕ} {f : F.Form} → word_at s at ≡ W.Datum k f → IsWord (get_or s at 0) (W.Datum k f)
datum_word_lem s at h = read_at s at h (λ x. never (cc))

module _ (s : List ℕ) (k at : ℕ) (f : F.Form) where
  pub form_reads : {w b : ℕ} {ws : List ℕ} (rest : List ℕ) → IsWord w (W.Datum k f) → InPieces (form_pieces f) b ws → drop at s ≡ w ∷ (ws ++ rest) →
      datum_at s k at ≡ Ok (in_form f b, at + suc (length ws))
  form_reads {w} {b} {ws} rest h p e =
      let next : at + 1 + form_pieces f ≡ at + suc (length ws) = omega (arith, in_length p) in
      let value : 0 * 65536 ^ form_pieces f + b ≡ b = none (65536 ^ form_pieces f) in
      sym (of_form s k at (front_reads s at w (ws ++ rest) e h) refl)
      ∙ sym (form_is f s (at + 1) (pieces_read p s (at + 1) rest (behind s at w (ws ++ rest) e) 0))
      ∙ (λ i. Ok (in_form f (value i), next i))
    where
      none : (m : ℕ) → 0 * m + b ≡ b
      none m = omega arith

  -- what the pieces of a form hold, and where they stand
  abbrev pub Formed : D.Datum → ℕ → Type 0
  Formed d next = (b : ℕ) × (ws : List ℕ) × InPieces (form_pieces f) b ws × (d ≡ in_form f b) × (drop at s ≡ get_or s at 0 ∷ (ws ++ drop next s)) × (next ≡ at + suc (length ws))

  pub form_written : {d : D.Datum} {next : ℕ} → word_at s at ≡ W.Datum k f → form_at f s (at + 1) ≡ Ok (d, next) → Formed d next
  unfolding form_at
  form_written {d} {next} word = go (pieces_at s (at + 1) (form_pieces f) 0) refl
    where
      here : at < length s
      here = there s at (λ x. never (cc))

      go : (x : Result ℕ ℕ) → pieces_at s (at + 1) (form_pieces f) 0 ≡ x → on_pieces x (in_form f) (at + 1 + form_pieces f) ≡ Ok (d, next) → Formed d next
      go (Ok b) q h =
          let r = pieces_written s (at + 1) (form_pieces f) 0 b q in
          let both : ◌≡◌ {A = D.Datum × ℕ} (in_form f b, at + 1 + form_pieces f) (d, next) = cc in
          let m : in_form f b ≡ d = ap (λ (p : D.Datum × ℕ). p.0) both in
          let i : at + 1 + form_pieces f ≡ next = ap (λ (p : D.Datum × ℕ). p.1) both in
          let size = in_length r.2 in
          (r.0, r.1, r.2, sym m ∙ ap (in_form f) (r.3 ∙ none (65536 ^ form_pieces f) r.0), front_is s at here ∙ ap (λ (l : List ℕ). get_or s at 0 ∷ l) (r.4 ∙ ap (λ (j : ℕ). r.1 ++ drop j s) i), omega arith)
        where
          none : (m l : ℕ) → 0 * m + l ≡ l
          none m l = omega arith
      go (Err place) q h = never (cc)

-- ---- a datum in whole units, within its range

value_in_range : (head : ℕ) (s : List ℕ) (k at : ℕ) {d : D.Datum} {next : ℕ} {z : ℤ} → datum_at s k at ≡ Ok (d, next) → units_of d at ≡ Ok z → T (allowed head k z) →
    value_at head s k at ≡ Ok (z, next)
value_in_range head s k at {d} {next} {z} read units r = sym (by_units head s k at read units) ∙ simp (is_true (allowed head k z) r)

pub written_datum : {k : ℕ} {z : ℤ} {w : List ℕ} → Written k z w → (s : List ℕ) (at : ℕ) (rest : List ℕ) → drop at s ≡ w ++ rest →
    (d : D.Datum) × (datum_at s k at ≡ Ok (d, at + length w)) × (units_of d at ≡ Ok z)
unfolding units_of
written_datum {k} (whole {b = b} h p) s at rest e = (in_form F.TheVariants.Whole b, form_reads s k at F.TheVariants.Whole rest h p e, refl)
written_datum {k} {z} (single {b = b} h p is) s at rest e = (in_form F.TheVariants.Single b, form_reads s k at F.TheVariants.Single rest h p e, ap (of_whole at) ((stands (of_bits binary32 b) z).1 is))
written_datum {k} {z} (double {b = b} h p is) s at rest e = (in_form F.TheVariants.Double b, form_reads s k at F.TheVariants.Double rest h p e, ap (of_whole at) ((stands (of_bits binary64 b) z).1 is))

pub written_reads : (head : ℕ) {k : ℕ} {z : ℤ} {w : List ℕ} → Written k z w → T (allowed head k z) → (s : List ℕ) (at : ℕ) (rest : List ℕ) → drop at s ≡ w ++ rest →
    value_at head s k at ≡ Ok (z, at + length w)
written_reads head {k} h r s at rest e = let d = written_datum h s at rest e in value_in_range head s k at d.1 d.2 r

-- the words of a datum that was read: those from `at` up to `next`
pub record Wrote (s : List ℕ) (k at : ℕ) (z : ℤ) (next : ℕ) : Type 0 where
  pub words : List ℕ
  pub written : Written k z words
  pub here : drop at s ≡ words ++ drop next s
  pub far : next ≡ at + length words

of_whole_lem : (x : Float) (at : ℕ) (z : ℤ) → of_whole at (whole_of x) ≡ Ok z → StandsFor x z
of_whole_lem x at z = go (whole_of x) refl
  where
    go : (v : Option ℤ) → whole_of x ≡ v → of_whole at v ≡ Ok z → StandsFor x z
    go (Some y) q e = let same : y ≡ z = cc in (stands x z).0 (q ∙ ap Some same)
    go None q e = never (cc)

-- a datum in whole units was written
pub datum_written : (s : List ℕ) (k at : ℕ) (d : D.Datum) (z : ℤ) (next : ℕ) → datum_at s k at ≡ Ok (d, next) → units_of d at ≡ Ok z → Wrote s k at z next
unfolding datum_at units_of
datum_written s k at d z next e₀ u₀ =
    let x = is_datum (word_at s at) (λ m f. cond (eqb m k) (form_at f s (at + 1)) (Err at)) (Err at) (Ok (d, next)) e₀ (λ y. never (cc)) in
    by_number x.0 x.1 (eqb x.0 k) refl x.2 x.3
  where
    units : {y : D.Datum} → d ≡ y → units_of y at ≡ Ok z
    units e = sym (ap (λ (y : D.Datum). units_of y at) e) ∙ u₀

    made_by : (w : ℕ) (ws : List ℕ) → Written k z (w ∷ ws) → drop at s ≡ w ∷ (ws ++ drop next s) → next ≡ at + suc (length ws) → Wrote s k at z next
    made_by w ws x h f = record { words = w ∷ ws; written = x; here = h; far = f }

    by_form : (f : F.Form) → word_at s at ≡ W.Datum k f → Formed s k at f d next → Wrote s k at z next
    by_form F.TheVariants.Whole word x =
        let is : twos 2147483648 x.0 ≡ z = cc (units x.3) in
        made_by (get_or s at 0) x.1 (subst (λ (y : ℤ). Written k y (get_or s at 0 ∷ x.1)) is (whole (datum_word_lem s at word) x.2)) x.4 x.5
    by_form F.TheVariants.Single word x = made_by (get_or s at 0) x.1 (single (datum_word_lem s at word) x.2 (of_whole_lem (of_bits binary32 x.0) at z (units x.3))) x.4 x.5
    by_form F.TheVariants.Double word x = made_by (get_or s at 0) x.1 (double (datum_word_lem s at word) x.2 (of_whole_lem (of_bits binary64 x.0) at z (units x.3))) x.4 x.5
    by_form F.TheVariants.Open word x = never (cc (units x.3))

    by_number : (m : ℕ) (f : F.Form) (t : Bool) → eqb m k ≡ t → word_at s at ≡ W.Datum m f → cond t (form_at f s (at + 1)) (Err at) ≡ Ok (d, next) → Wrote s k at z next
    by_number m f true q word e = let is = word ∙ ap (λ (i : ℕ). W.Datum i f) (eqb-true m k q) in by_form f is (form_written s k at f is e)
    by_number m f false q word e = never (cc)

pub read_written : (head : ℕ) (s : List ℕ) (k at : ℕ) (z : ℤ) (next : ℕ) → value_at head s k at ≡ Ok (z, next) → Wrote s k at z next × T (allowed head k z)
unfolding value_at
read_written head s k at z next = by_read (datum_at s k at) refl
  where
    by_range : (d : D.Datum) (n : ℕ) (y : ℤ) (t : Bool) → allowed head k y ≡ t → datum_at s k at ≡ Ok (d, n) → units_of d at ≡ Ok y →
        cond {A = Result (ℤ × ℕ) Refusal} t (Ok (y, n)) (Err (OutOfRange at)) ≡ Ok (z, next) → Wrote s k at z next × T (allowed head k z)
    by_range d n y true q read u e =
        let both : ◌≡◌ {A = ℤ × ℕ} (y, n) (z, next) = cc in
        let value : y ≡ z = ap (λ (p : ℤ × ℕ). p.0) both in
        let place : n ≡ next = ap (λ (p : ℤ × ℕ). p.1) both in
        (datum_written s k at d z next (read ∙ ap (λ (i : ℕ). Ok (d, i)) place) (u ∙ ap Ok value), subst (λ (v : ℤ). T (allowed head k v)) value (subst T (sym q) tt))
    by_range d n y false q read u e = never (cc)

    by_unit : (d : D.Datum) (n : ℕ) (u : Result ℤ Refusal) → units_of d at ≡ u → datum_at s k at ≡ Ok (d, n) → of_units head k at n u ≡ Ok (z, next) → Wrote s k at z next × T (allowed head k z)
    by_unit d n (Ok y) q read e = by_range d n y (allowed head k y) refl read q e
    by_unit d n (Err why) q read e = never (cc)

    by_read : (x : Result (D.Datum × ℕ) ℕ) → datum_at s k at ≡ x → of_read head k at x ≡ Ok (z, next) → Wrote s k at z next × T (allowed head k z)
    by_read (Ok (d, n)) q e = by_unit d n (units_of d at) refl q e
    by_read (Err place) q e = never (cc)
