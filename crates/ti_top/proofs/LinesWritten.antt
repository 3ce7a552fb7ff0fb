-- Writing the lines of a history, one after the other.
use Rattle.std.proofs.Common.{◌≡◌, ℕ, List, [], ◌∷◌, ◌++◌, Ok, Err, ◌∙◌, ap, subst, append-nil}
use Rattle.std.proofs.lemmas.Grind.{flat_map-append}
use Rattle.ti_base.specs.declared.entry.Entry.{Entry}
use Rattle.ti_io.specs.Sink.{SinkState, Writes}
use Rattle.ti_io.proofs.Lemmas.{writes_then, writes_stop}
use Rattle.ti_lang.specs.Program.Classes.{ProgramView}
use Rattle.ti_lang.specs.Meaning.Lines.{line_of, lines_of}
use Rattle.ti_top.proofs.HistoryTurns.{entries_end}

abbrev entry_line : ProgramView → Entry → List ℕ
entry_line p e = line_of p.literals e.act

lines_more : (p : ProgramView) (es : List Entry) (e : Entry) → lines_of p (es ++ e ∷ []) ≡ lines_of p es ++ entry_line p e
lines_more p es e = flat_map-append (entry_line p) es (e ∷ []) ∙ ap (λ t. lines_of p es ++ t) (append-nil (entry_line p e))

-- one more line
pub lines_step : {F : Type 0} (p : ProgramView) (es : List Entry) (e : Entry) (piece : List ℕ) (s0 s1 s2 : SinkState)
    → piece ≡ line_of p.literals e.act → Writes {T = Unit {0}} {E = F} (lines_of p es) s0 s1 (Ok tt)
    → Writes {T = Unit {0}} {E = F} piece s1 s2 (Ok tt) → Writes {T = Unit {0}} {E = F} (lines_of p (es ++ e ∷ [])) s0 s2 (Ok tt)
lines_step {F} p es e piece s0 s1 s2 is first next =
    rw (lines_more p es e) (rw (← is) (writes_then {F = F} (lines_of p es) piece s0 s1 s2 tt (Ok tt) first next))

-- a line that isn't written whole
pub lines_stop : {F : Type 0} (p : ProgramView) (all es left rest : List Entry) (x : Entry) (piece : List ℕ) (s0 s1 s2 : SinkState) (e f : F)
    → all ≡ es ++ left → left ≡ x ∷ rest → piece ≡ line_of p.literals x.act → Writes {T = Unit {0}} {E = F} (lines_of p es) s0 s1 (Ok tt)
    → Writes {T = Unit {0}} {E = F} piece s1 s2 (Err e) → Writes {T = Unit {0}} {E = F} (lines_of p all) s0 s2 (Err f)
lines_stop {F} p all es left rest x piece s0 s1 s2 e f split next is first last =
    let whole : lines_of p all ≡ lines_of p es ++ (entry_line p x ++ lines_of p rest) =
    ap (lines_of p) split ∙ flat_map-append (entry_line p) es left ∙ ap (λ t. lines_of p es ++ lines_of p t) next in
    rw whole
    (rw (← is) (writes_then {F = F} (lines_of p es) (piece ++ lines_of p rest) s0 s1 s2 tt (Err f) first (writes_stop piece (lines_of p rest) s1 s2 e f last)))

-- all lines
pub lines_all : {F : Type 0} (p : ProgramView) (all es left : List Entry) (s0 s1 : SinkState) → all ≡ es ++ left → left ≡ []
    → Writes {T = Unit {0}} {E = F} (lines_of p es) s0 s1 (Ok tt) → Writes {T = Unit {0}} {E = F} (lines_of p all) s0 s1 (Ok tt)
lines_all {F} p all es left s0 s1 split none w = subst (λ xs. Writes {T = Unit {0}} {E = F} (lines_of p xs) s0 s1 (Ok tt)) (entries_end all es left split none) w
