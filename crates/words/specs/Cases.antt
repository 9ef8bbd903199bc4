-- A word that must be of one kind: what it holds is handed on, and any other word gives `other`.
use Rattle.std.specs.Prelude.{ℕ, Bool, ℤ}
use Rattle.words.specs.declared.Form.{Form}
use Rattle.words.specs.declared.Word.{Word}
use Rattle.words.specs.declared.Word.TheVariants.{Head, Datum, Piece, Position, Lower, Upper, End, Remark, Other}

abbrev pub if_head : {A : Type 0} → Word → (ℕ → A) → A → A
if_head x held other = elim x [ Head n ↦ held n | Datum k f ↦ other | Piece b ↦ other | Position z ↦ other | Lower b ↦ other | Upper b ↦ other | End a ↦ other | Remark ↦ other | Other ↦ other ]

abbrev pub if_datum : {A : Type 0} → Word → (ℕ → Form → A) → A → A
if_datum x held other = elim x [ Head n ↦ other | Datum k f ↦ held k f | Piece b ↦ other | Position z ↦ other | Lower b ↦ other | Upper b ↦ other | End a ↦ other | Remark ↦ other | Other ↦ other ]

abbrev pub if_piece : {A : Type 0} → Word → (ℕ → A) → A → A
if_piece x held other = elim x [ Head n ↦ other | Datum k f ↦ other | Piece b ↦ held b | Position z ↦ other | Lower b ↦ other | Upper b ↦ other | End a ↦ other | Remark ↦ other | Other ↦ other ]

abbrev pub if_position : {A : Type 0} → Word → (ℤ → A) → A → A
if_position x held other = elim x [ Head n ↦ other | Datum k f ↦ other | Piece b ↦ other | Position z ↦ held z | Lower b ↦ other | Upper b ↦ other | End a ↦ other | Remark ↦ other | Other ↦ other ]

abbrev pub if_lower : {A : Type 0} → Word → (ℕ → A) → A → A
if_lower x held other = elim x [ Head n ↦ other | Datum k f ↦ other | Piece b ↦ other | Position z ↦ other | Lower b ↦ held b | Upper b ↦ other | End a ↦ other | Remark ↦ other | Other ↦ other ]

abbrev pub if_upper : {A : Type 0} → Word → (ℕ → A) → A → A
if_upper x held other = elim x [ Head n ↦ other | Datum k f ↦ other | Piece b ↦ other | Position z ↦ other | Lower b ↦ other | Upper b ↦ held b | End a ↦ other | Remark ↦ other | Other ↦ other ]

abbrev pub if_end : {A : Type 0} → Word → (Bool → A) → A → A
if_end x held other = elim x [ Head n ↦ other | Datum k f ↦ other | Piece b ↦ other | Position z ↦ other | Lower b ↦ other | Upper b ↦ other | End a ↦ held a | Remark ↦ other | Other ↦ other ]

abbrev pub if_remark : {A : Type 0} → Word → A → A → A
if_remark x held other = elim x [ Head n ↦ other | Datum k f ↦ other | Piece b ↦ other | Position z ↦ other | Lower b ↦ other | Upper b ↦ other | End a ↦ other | Remark ↦ held | Other ↦ other ]
